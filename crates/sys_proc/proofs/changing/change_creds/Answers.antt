use Rattle.std.proofs.Common.{◌≡◌, ◌∙◌, ap, sym, true}
use Rattle.std.specs.Option.{option_copied_mut}
use Rattle.sys_lookup.proofs.OwnerLemmas.{owners_creds}
use Rattle.sys_proc.specs.Changing.{creds_after, is_allowed}
use Rattle.sys_proc.proofs.LentLemmas.{left_changed, lent_is, some_lent}
use Rattle.sys_proc.proofs.changing.change_creds.Goals as goal

pub unreachable-requires : goal.unreachable-requires
unreachable-requires c =
    some_lent c.shared.inside c.args.shared.now c.shared.view_is c.args.who.now c.requires.living (sym c.creds_mut.ensures.value ∙ ap option_copied_mut c.in_default.is)

pub unreachable-requires-in-Err : goal.unreachable-requires-in-Err
unreachable-requires-in-Err c =
    let lent = c.in-Some.creds.now in
    let same = lent_is c.shared.inside c.args.shared.now c.shared.view_is c.args.who.now c.requires.living lent c.in-Some.ensures.value in
    let allowed : is_allowed c.args.change lent ≡ true = ap (is_allowed c.args.change) (sym same) ∙ c.requires.allowed in
    cc (allowed, c.in-Err.ensures.refused.0)

pub invariant_of-shared : goal.invariant_of-shared
invariant_of-shared c =
    let h = c.shared.inside in
    owners_creds h.procs.procs h.fds.processes c.args.who.now c.make.new.creds c.shared.invariant

pub returns : goal.returns
returns c =
    left_changed c.shared.inside c.args.shared.now c.shared.view_is c.args.who.now c.requires.living c.in-Some.creds.now c.in-Some.ensures.value
    (creds_after c.args.change) c.make.new.creds c.in-Ok.ensures.made.1
