use Rattle.sys_tree.proofs.StandLemmas.{cwd_set, owners_stay, stands}
use Rattle.sys_tree.proofs.standing.change_directory.Goals as goal

pub set_cwd-requires : goal.set_cwd-requires
set_cwd-requires c =
    let q = stands c.shared.inside c.shared.view_is c.args.who.now c.requires in
    record { value = q.process; is = q.is }

pub returns : goal.returns
returns c =
    let h = c.shared.inside in
    let q = stands h c.shared.view_is c.args.who.now c.requires in
    cwd_set h c.shared.view_is c.args.who.now c.requires c.args.dir (c.set_cwd.ensures q.process q.is)

pub invariant_of-shared : goal.invariant_of-shared
invariant_of-shared c =
    let h = c.shared.inside in
    let q = stands h c.shared.view_is c.args.who.now c.requires in
    owners_stay h c.shared.view_is c.args.who.now c.requires c.args.dir (c.set_cwd.ensures q.process q.is) c.shared.invariant
