use Rattle.std.specs.Prelude.{◌≡◌, Some}
use Rattle.std.specs.FinMap as map
use Rattle.fd_table.specs.Descriptions.{made_for}
use Rattle.fd_table.proofs.Openings.{held_opened, held_undone, made_there, table_opened, table_undone}
use Rattle.fd_table.proofs.table.FdTable.open_next.Goals as goal

pub release-requires : goal.release-requires
release-requires c = record {
  value = made_for c.args.id c.args.how;
  is = made_there c.self.inside.processes c.self.inside.descriptions c.self.inside.numbers c.self.invariant c.args.self.now c.self.view_is c.args.label.now c.next-did.result c.next-did.ensures c.args.id c.args.how
      c.insert.new.self c.in_ok-insert.ensures.ok;
}

pub invariant_of-self-in-Err : goal.invariant_of-self-in-Err
invariant_of-self-in-Err c =
    let made : map.get c.insert.new.self c.next-did.result ≡ Some (made_for c.args.id c.args.how) = made_there c.self.inside.processes c.self.inside.descriptions c.self.inside.numbers c.self.invariant c.args.self.now c.self.view_is c.args.label.now c.next-did.result c.next-did.ensures c.args.id c.args.how
    c.insert.new.self c.in_ok-insert.ensures.ok in
    held_undone c.self.inside.processes c.self.inside.descriptions c.self.inside.numbers c.self.invariant c.args.self.now c.self.view_is c.args.label.now c.next-did.result c.next-did.ensures c.args.id c.args.how
    c.insert.new.self c.in_ok-insert.ensures.ok
    c.release.new.self (c.release.ensures.left (made_for c.args.id c.args.how) made) c.set.new.self c.in-Err.ensures.err

pub returns-in-Err-clause-err : goal.returns-in-Err-clause-err
returns-in-Err-clause-err c =
    let made : map.get c.insert.new.self c.next-did.result ≡ Some (made_for c.args.id c.args.how) = made_there c.self.inside.processes c.self.inside.descriptions c.self.inside.numbers c.self.invariant c.args.self.now c.self.view_is c.args.label.now c.next-did.result c.next-did.ensures c.args.id c.args.how
    c.insert.new.self c.in_ok-insert.ensures.ok in
    table_undone c.self.inside.processes c.self.inside.descriptions c.self.inside.numbers c.self.invariant c.args.self.now c.self.view_is c.args.label.now c.next-did.result c.next-did.ensures c.args.id c.args.how
    c.insert.new.self c.in_ok-insert.ensures.ok
    c.release.new.self (c.release.ensures.left (made_for c.args.id c.args.how) made) c.set.new.self c.in-Err.ensures.err

pub invariant_of-self-2 : goal.invariant_of-self-2
invariant_of-self-2 c = held_opened c.self.inside.processes c.self.inside.descriptions c.self.inside.numbers c.self.invariant c.args.self.now c.self.view_is c.args.label.now c.next-did.result c.next-did.ensures c.args.id c.args.how
    c.insert.new.self c.in_ok-insert.ensures.ok
    c.args.who.now c.lowest-fd.result c.set-2.new.self c.set-2.ensures c.set.new.self c.in_default.ensures.ok c.requires.there c.lowest-fd.ensures.free c.lowest-fd.ensures.below

pub returns-clause-opened : goal.returns-clause-opened
returns-clause-opened c = table_opened c.self.inside.processes c.self.inside.descriptions c.self.inside.numbers c.self.invariant c.args.self.now c.self.view_is c.args.label.now c.next-did.result c.next-did.ensures c.args.id c.args.how
    c.insert.new.self c.in_ok-insert.ensures.ok
    c.args.who.now c.lowest-fd.result c.set-2.new.self c.set-2.ensures c.set.new.self c.in_default.ensures.ok c.lowest-fd.ensures.lowest
