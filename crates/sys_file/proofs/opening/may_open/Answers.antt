use Rattle.kern_model.specs.declared.calls.OpenFlags.{OpenFlags}
use Rattle.kern_model.specs.declared.checks.Place.{Place}
use Rattle.kern_model.specs.declared.numbers.Oid.{Oid}
use Rattle.kern_model.specs.OpenRows.{allowed_by_kind}
use Rattle.kern_model.specs.Row.{Row, need_if}
use Rattle.kern_model.specs.Rules.{dac_read, dac_write, mac_read, mac_write}
use Rattle.kern_model.specs.State.{object_at}
use Rattle.chk_rules.proofs.Steps.{equal_refusal, item_goes, item_stops, refuse_goes, refuse_stops}
use Rattle.sys_lookup.specs.Callers.{CallerView}
use Rattle.sys_file.proofs.opening.may_open.Goals as goal

-- the parts of the row of an object of the caller's state
abbrev reads : CallerView → OpenFlags → Oid → Place → Row → Row
reads k flags id place = need_if flags.r (mac_read k.state k.process id place)

abbrev writes : CallerView → OpenFlags → Oid → Place → Row → Row
writes k flags id place = need_if flags.w (mac_write k.state k.process id place)

abbrev by_kind : CallerView → OpenFlags → Oid → Place → Row → Row
by_kind k flags id place = allowed_by_kind k.process flags id place (object_at k.state id)

abbrev may_read : CallerView → OpenFlags → Oid → Place → Row → Row
may_read k flags id place = need_if flags.r (dac_read k.state k.process id place)

abbrev may_write : CallerView → OpenFlags → Oid → Place → Row → Row
may_write k flags id place = need_if flags.w (dac_write k.state k.process id place)

pub returns-in_err-refuse_if-clause-step : goal.returns-in_err-refuse_if-clause-step
returns-in_err-refuse_if-clause-step c = refuse_stops c.from_residual.result c.from_residual.ensures.1 (equal_refusal c.both.ensures (c.in_err-refuse_if.ensures c.args.checks.now))

pub returns-in_err-mac_read_if-clause-step : goal.returns-in_err-mac_read_if-clause-step
returns-in_err-mac_read_if-clause-step c =
    refuse_goes (equal_refusal c.both.ensures (c.in_ok-refuse_if.ensures c.args.checks.now))
    (item_stops (reads c.args.caller.now c.args.flags c.args.id.now c.args.place) c.from_residual-in_err-mac_read_if.result c.from_residual-in_err-mac_read_if.ensures.1 (c.in_err-mac_read_if.ensures c.args.caller.now.state c.args.id.now c.metadata-object.ensures))

pub returns-in_err-mac_write_if-clause-step : goal.returns-in_err-mac_write_if-clause-step
returns-in_err-mac_write_if-clause-step c =
    refuse_goes (equal_refusal c.both.ensures (c.in_ok-refuse_if.ensures c.args.checks.now))
    (item_goes (reads c.args.caller.now c.args.flags c.args.id.now c.args.place) (c.in_ok-mac_read_if.ensures c.args.caller.now.state c.args.id.now c.metadata-object.ensures)
    (item_stops (writes c.args.caller.now c.args.flags c.args.id.now c.args.place) c.from_residual-in_err-mac_write_if.result c.from_residual-in_err-mac_write_if.ensures.1 (c.in_err-mac_write_if.ensures c.args.caller.now.state c.args.id.now c.metadata-object.ensures)))

pub returns-in_err-kind_allows-clause-step : goal.returns-in_err-kind_allows-clause-step
returns-in_err-kind_allows-clause-step c =
    refuse_goes (equal_refusal c.both.ensures (c.in_ok-refuse_if.ensures c.args.checks.now))
    (item_goes (reads c.args.caller.now c.args.flags c.args.id.now c.args.place) (c.in_ok-mac_read_if.ensures c.args.caller.now.state c.args.id.now c.metadata-object.ensures)
    (item_goes (writes c.args.caller.now c.args.flags c.args.id.now c.args.place) (c.in_ok-mac_write_if.ensures c.args.caller.now.state c.args.id.now c.metadata-object.ensures)
    (item_stops (by_kind c.args.caller.now c.args.flags c.args.id.now c.args.place) c.from_residual-in_err-kind_allows.result c.from_residual-in_err-kind_allows.ensures.1 (c.in_err-kind_allows.ensures c.args.caller.now.state c.args.id.now c.metadata-object.ensures))))

pub returns-in_err-dac_read_if-clause-step : goal.returns-in_err-dac_read_if-clause-step
returns-in_err-dac_read_if-clause-step c =
    refuse_goes (equal_refusal c.both.ensures (c.in_ok-refuse_if.ensures c.args.checks.now))
    (item_goes (reads c.args.caller.now c.args.flags c.args.id.now c.args.place) (c.in_ok-mac_read_if.ensures c.args.caller.now.state c.args.id.now c.metadata-object.ensures)
    (item_goes (writes c.args.caller.now c.args.flags c.args.id.now c.args.place) (c.in_ok-mac_write_if.ensures c.args.caller.now.state c.args.id.now c.metadata-object.ensures)
    (item_goes (by_kind c.args.caller.now c.args.flags c.args.id.now c.args.place) (c.in_ok-kind_allows.ensures c.args.caller.now.state c.args.id.now c.metadata-object.ensures)
    (item_stops (may_read c.args.caller.now c.args.flags c.args.id.now c.args.place) c.from_residual-in_err-dac_read_if.result c.from_residual-in_err-dac_read_if.ensures.1 (c.in_err-dac_read_if.ensures c.args.caller.now.state c.args.id.now c.metadata-object.ensures)))))

pub returns-in_err-dac_write_if-clause-step : goal.returns-in_err-dac_write_if-clause-step
returns-in_err-dac_write_if-clause-step c =
    refuse_goes (equal_refusal c.both.ensures (c.in_ok-refuse_if.ensures c.args.checks.now))
    (item_goes (reads c.args.caller.now c.args.flags c.args.id.now c.args.place) (c.in_ok-mac_read_if.ensures c.args.caller.now.state c.args.id.now c.metadata-object.ensures)
    (item_goes (writes c.args.caller.now c.args.flags c.args.id.now c.args.place) (c.in_ok-mac_write_if.ensures c.args.caller.now.state c.args.id.now c.metadata-object.ensures)
    (item_goes (by_kind c.args.caller.now c.args.flags c.args.id.now c.args.place) (c.in_ok-kind_allows.ensures c.args.caller.now.state c.args.id.now c.metadata-object.ensures)
    (item_goes (may_read c.args.caller.now c.args.flags c.args.id.now c.args.place) (c.in_ok-dac_read_if.ensures c.args.caller.now.state c.args.id.now c.metadata-object.ensures)
    (item_stops (may_write c.args.caller.now c.args.flags c.args.id.now c.args.place) c.from_residual-in_err-dac_write_if.result c.from_residual-in_err-dac_write_if.ensures.1 (c.in_err-dac_write_if.ensures c.args.caller.now.state c.args.id.now c.metadata-object.ensures))))))

pub returns-clause-step : goal.returns-clause-step
returns-clause-step c =
    refuse_goes (equal_refusal c.both.ensures (c.in_ok-refuse_if.ensures c.args.checks.now))
    (item_goes (reads c.args.caller.now c.args.flags c.args.id.now c.args.place) (c.in_ok-mac_read_if.ensures c.args.caller.now.state c.args.id.now c.metadata-object.ensures)
    (item_goes (writes c.args.caller.now c.args.flags c.args.id.now c.args.place) (c.in_ok-mac_write_if.ensures c.args.caller.now.state c.args.id.now c.metadata-object.ensures)
    (item_goes (by_kind c.args.caller.now c.args.flags c.args.id.now c.args.place) (c.in_ok-kind_allows.ensures c.args.caller.now.state c.args.id.now c.metadata-object.ensures)
    (item_goes (may_read c.args.caller.now c.args.flags c.args.id.now c.args.place) (c.in_ok-dac_read_if.ensures c.args.caller.now.state c.args.id.now c.metadata-object.ensures)
    (item_goes (may_write c.args.caller.now c.args.flags c.args.id.now c.args.place) (c.in_ok-dac_write_if.ensures c.args.caller.now.state c.args.id.now c.metadata-object.ensures)
    (c.emptied_attr.ensures.step c.args.caller.now.state c.args.id.now c.metadata-object.ensures))))))
