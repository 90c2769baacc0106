use Rattle.std.proofs.Common.{◌∙◌, ap}
use Rattle.kern_model.specs.AttrRows.{change_mode, set_mode, with_attr}
use Rattle.kern_model.specs.State.{apply_change, object_at}
use Rattle.sys_lookup.proofs.PlayLemmas.{then_plays, stops_row, commits_as}
use Rattle.sys_lookup.specs.declared.shared.Metadata.{Metadata}
use Rattle.sys_attr.specs.declared.objects.ObjectArgument.TheVariants.{Path}
use Rattle.sys_attr.proofs.CallLemmas.{change_is, object_there, state_is, write_plays, write_stops}
use Rattle.sys_attr.proofs.modes.chmod.Goals as goal

pub give_attr-requires : goal.give_attr-requires
give_attr-requires c = object_there c.new-caller.ensures.caller c.in_ok-object.ensures.there

pub returns-in_err-object : goal.returns-in_err-object
returns-in_err-object c = write_stops c.new-caller.ensures.caller (Path c.args.path) (λ k. change_mode k.process c.args.mode) c.from_residual.ensures.1 c.in_err-object.ensures.step

pub returns-in_err-mode : goal.returns-in_err-mode
returns-in_err-mode c =
    let s = c.new-caller.result.state in
    let same = c.new-caller.ensures.caller in
    let id = c.in_ok-object.object.id in
    write_plays same (Path c.args.path) (λ k. change_mode k.process c.args.mode) c.in_ok-object.ensures.step
    (stops_row {rest = set_mode id (object_at s id)} c.from_residual-in_err-mode.result c.from_residual-in_err-mode.ensures.1 (state_is same) (c.in_err-mode.ensures s id c.in_ok-object.ensures.object))

pub returns : goal.returns
returns c =
    let s = c.new-caller.result.state in
    let same = c.new-caller.ensures.caller in
    let id = c.in_ok-object.object.id in
    let is = c.in_ok-object.ensures.object in
    let attr = λ (m : Metadata). record m.attr { mode = c.in_ok-mode.mode } in
    write_plays same (Path c.args.path) (λ k. change_mode k.process c.args.mode) c.in_ok-object.ensures.step
    (then_plays {rest = set_mode id (object_at s id)} (c.in_ok-mode.ensures s id is)
    (commits_as c.done.ensures (change_is same (λ x. with_attr id (object_at x id) (attr c.in_ok-object.object)) c.give_attr.ensures ∙ ap (λ m. apply_change s (with_attr id (object_at s id) (attr m))) is)))
