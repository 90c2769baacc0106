use Rattle.std.proofs.Common.{◌≡◌, Ok, Err, ap, false, nat_le, refl}
use Rattle.std.specs.Result.{OnOk}
use Rattle.kern_model.specs.declared.calls.Errno.TheVariants.{EMLINK}
use Rattle.kern_model.specs.declared.limits.TheConstants.{MAX_LINKS}
use Rattle.kern_model.specs.Kinds.{is_dir}
use Rattle.kern_model.specs.Rules.{link_dir}
use Rattle.kern_model.specs.State.{object_at}
use Rattle.std.proofs.lemmas.Bool.{not-true}
use Rattle.chk_rules.proofs.Steps.{need_goes, need_stops, equal_refusal}
use Rattle.sys_lookup.proofs.CheckLemmas.{holds_where_passed, not_refused_where_ok}
use Rattle.sys_tree.proofs.linking.ask_name.Goals as goal

pub returns-in_err-object-clause-step : goal.returns-in_err-object-clause-step
returns-in_err-object-clause-step c = need_stops c.from_residual.result c.from_residual.ensures.1 c.in_err-object.ensures.step

pub returns-in_err-link_dir-clause-step : goal.returns-in_err-link_dir-clause-step
returns-in_err-link_dir-clause-step c =
    need_goes c.in_ok-object.ensures.step
    (need_stops c.from_residual-in_err-link_dir.result c.from_residual-in_err-link_dir.ensures.1 (c.in_err-link_dir.ensures c.args.caller.now.state c.args.id.now c.in_ok-object.ensures.object))

pub returns-clause-step : goal.returns-clause-step
returns-clause-step c =
    need_goes c.in_ok-object.ensures.step
    (need_goes (c.in_ok-link_dir.ensures c.args.caller.now.state c.args.id.now c.in_ok-object.ensures.object)
    (equal_refusal (ap (nat_le MAX_LINKS) c.name_count-names.ensures) (c.refuse_if.ensures c.link_dir.new.checks)))

pub returns-clause-no_dir : goal.returns-clause-no_dir
returns-clause-no_dir c =
    let s = c.args.caller.now.state in
    let id = c.args.id.now in
    elim c.refuse_if.result as (λ r. OnOk r (is_dir (object_at s id).kind ≡ false)) [
      | Ok x ↦ not-true _ (holds_where_passed c.write_object.new.checks c.link_dir.new.checks (link_dir s id c.args.place) refl (c.in_ok-link_dir.ensures s id c.in_ok-object.ensures.object))
      | Err how ↦ tt
    ]

pub returns-clause-few : goal.returns-clause-few
returns-clause-few c =
    let log = c.link_dir.new.checks in
    not_refused_where_ok log log EMLINK _ c.refuse_if.result (equal_refusal (ap (nat_le MAX_LINKS) c.name_count-names.ensures) (c.refuse_if.ensures log))
