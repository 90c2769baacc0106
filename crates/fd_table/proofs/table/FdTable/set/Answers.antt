use Rattle.std.specs.Prelude.{◌≡◌, ◌+◌, None, refl}
use Rattle.std.specs.FinMap as map
use Rattle.std.proofs.Common.{ap, sym, ◌∙◌, subst}
use Rattle.kern_model.specs.Valid.{IsThere}
use Rattle.fd_table.specs.Descriptions.{SharedTable, descriptions_of}
use Rattle.fd_table.specs.Files.{AreHeld, OpenFiles, did_at, with_fds_of}
use Rattle.fd_table.specs.Fds.{AllFds, fds_of}
use Rattle.fd_table.proofs.Holding.{few_more, held-set, fds_are}
use Rattle.fd_table.proofs.Leaving.{descriptions-count, there_with}
use Rattle.fd_table.proofs.table.FdTable.set.Goals as goal

pub hold-requires-clause-there : goal.hold-requires-clause-there
hold-requires-clause-there c = there_with c.self.inside.descriptions c.args.did (subst (λ (t : OpenFiles). IsThere t.descriptions c.args.did) (sym c.self.view_is) c.requires.there)

pub hold-requires-clause-few : goal.hold-requires-clause-few
hold-requires-clause-few c s is = few_more c.self.inside.processes c.self.inside.descriptions c.self.inside.numbers c.self.invariant c.args.did s is

pub invariant_of-self : goal.invariant_of-self
invariant_of-self c =
    let processes = c.self.inside.processes in
    let shared = c.self.inside.descriptions in
    let numbers = c.self.inside.numbers in
    let there = there_with shared c.args.did (subst (λ (t : OpenFiles). IsThere t.descriptions c.args.did) (sym c.self.view_is) c.requires.there) in
    let own = fds_are processes c.args.who.now (subst (λ (t : OpenFiles). IsThere t.processes c.args.who.now) (sym c.self.view_is) c.requires.process) in
    let none : map.get (fds_of processes c.args.who.now) c.args.fd ≡ None = ap (λ (t : OpenFiles). did_at t c.args.who.now c.args.fd) c.self.view_is ∙ c.requires.free in
    subst (λ (m : AllFds). AreHeld m c.hold.new.self numbers) (sym c.set.ensures)
    (subst (λ (m : SharedTable). AreHeld (map.insert processes c.args.who.now (map.insert (fds_of processes c.args.who.now) c.args.fd c.args.did)) m numbers) (sym (c.hold.ensures there.value there.is))
    (held-set processes shared numbers c.self.invariant c.args.who.now (fds_of processes c.args.who.now) own c.args.fd c.args.did there.value there.is none c.requires.below))

pub returns : goal.returns
returns c =
    let processes = c.self.inside.processes in
    let shared = c.self.inside.descriptions in
    let there = there_with shared c.args.did (subst (λ (t : OpenFiles). IsThere t.descriptions c.args.did) (sym c.self.view_is) c.requires.there) in
    let descriptions : descriptions_of c.hold.new.self ≡ descriptions_of shared =
    ap descriptions_of (c.hold.ensures there.value there.is) ∙ descriptions-count shared c.args.did there.value (record there.value { holders = there.value.holders + 1 }) there.is refl in
    let both : ◌≡◌ {A = OpenFiles} (record { processes = c.set.new.self; descriptions = descriptions_of c.hold.new.self; numbers = c.self.inside.numbers })
    (record { processes = map.insert processes c.args.who.now (map.insert (fds_of processes c.args.who.now) c.args.fd c.args.did); descriptions = descriptions_of shared; numbers = c.self.inside.numbers }) =
    (λ i. record { processes = c.set.ensures i; descriptions = descriptions i; numbers = c.self.inside.numbers }) in
    both ∙ ap (λ (t : OpenFiles). with_fds_of t c.args.who.now (map.insert (fds_of t.processes c.args.who.now) c.args.fd c.args.did)) c.self.view_is
