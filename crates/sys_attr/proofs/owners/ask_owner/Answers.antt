use Rattle.std.proofs.Common.{ap, not}
use Rattle.kern_model.specs.State.{object_at}
use Rattle.chk_rules.proofs.Steps.{need_goes, need_stops}
use Rattle.sys_lookup.specs.declared.shared.Metadata.{Metadata}
use Rattle.sys_attr.proofs.KeepLemmas.{equal_keeping, equal_mode}
use Rattle.sys_attr.proofs.owners.ask_owner.Goals as goal

pub returns-in_err-chown : goal.returns-in_err-chown
returns-in_err-chown c s id is = need_stops c.from_residual.result c.from_residual.ensures.1 (c.in_err-chown.ensures s id is)

pub returns : goal.returns
returns c s id is =
    let o = object_at s id in
    need_goes (c.in_ok-chown.ensures s id is)
    (equal_mode id c.args.place o (ap (λ (m : Metadata). m.attr.mode) is)
    (equal_keeping c.args.object.now.attr.mode id c.args.place o (ap not c.has_set_id-by_right.ensures) (c.mode_kept.ensures s id is)))
