use Rattle.std.proofs.Common.{ap, sym, ◌∙◌, subst}
use Rattle.kern_model.specs.Valid.{IsThere}
use Rattle.fd_table.specs.Descriptions.{descriptions_of}
use Rattle.fd_table.specs.Files.{OpenFiles, objects_after_close}
use Rattle.fd_table.proofs.Openings.{held_closed, shared_there, table_closed}
use Rattle.fd_table.proofs.table.FdTable.close.Goals as goal

pub free-requires-clause-process : goal.free-requires-clause-process
free-requires-clause-process g c = subst (λ (t : OpenFiles). IsThere t.processes c.args.who.now) (sym c.self.view_is) (c.did.ensures.process c.in_ok-did.did c.in_ok-did.ensures.ok_part)

pub free-requires-clause-below : goal.free-requires-clause-below
free-requires-clause-below g c = c.did.ensures.below c.in_ok-did.did c.in_ok-did.ensures.ok_part

pub let_go-requires : goal.let_go-requires
let_go-requires g c = shared_there c.self.inside.processes c.self.inside.descriptions c.self.inside.numbers c.self.invariant c.args.self.now c.self.view_is c.in_ok-did.did (c.did.ensures.there c.in_ok-did.did c.in_ok-did.ensures.ok_part)

pub invariant_of-self : goal.invariant_of-self
invariant_of-self g c = held_closed c.self.inside.processes c.self.inside.descriptions c.self.inside.numbers c.self.invariant c.args.self.now c.self.view_is c.args.who.now c.args.fd c.in_ok-did.did (sym c.did.ensures.did ∙ c.in_ok-did.ensures.ok_part)
    (c.did.ensures.process c.in_ok-did.did c.in_ok-did.ensures.ok_part) (c.did.ensures.there c.in_ok-did.did c.in_ok-did.ensures.ok_part) c.free.new.self c.free.ensures c.let_go.new.descriptions c.let_go.ensures.left

pub returns-clause-left : goal.returns-clause-left
returns-clause-left g c = table_closed c.self.inside.processes c.self.inside.descriptions c.self.inside.numbers c.self.invariant c.args.self.now c.self.view_is c.args.who.now c.args.fd c.in_ok-did.did (sym c.did.ensures.did ∙ c.in_ok-did.ensures.ok_part)
    (c.did.ensures.process c.in_ok-did.did c.in_ok-did.ensures.ok_part) (c.did.ensures.there c.in_ok-did.did c.in_ok-did.ensures.ok_part) c.free.new.self c.free.ensures c.let_go.new.descriptions c.let_go.ensures.left

pub returns-clause-drained : goal.returns-clause-drained
returns-clause-drained g c =
    let objects = g.B.Buffers.objects c.args.buffers.now in
    c.let_go.ensures.drained ∙ ap (λ (t : OpenFiles). objects_after_close t.descriptions (descriptions_of c.let_go.new.descriptions) objects) c.self.view_is
