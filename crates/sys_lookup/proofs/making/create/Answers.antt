use Rattle.std.proofs.Common.{◌∙◌, ap, sym, subst, not}
use Rattle.kern_model.specs.Entries.{is_removed}
use Rattle.kern_model.specs.State.{SetEntry, State, apply_change, look}
use Rattle.kern_model.specs.Valid.{IsDir}
use Rattle.chk_rules.proofs.Steps.{equal_refusal, gives, refuse_goes, refuse_stops}
use Rattle.fs_dirs.specs.Tree.{MayBeAdded}
use Rattle.sys_lookup.proofs.PlayLemmas.{kept_same}
use Rattle.sys_lookup.proofs.MakeLemmas.{after, dir_stays, may_be_added, not_full}
use Rattle.sys_lookup.proofs.making.create.Goals as goal

pub create-requires : goal.create-requires
create-requires c = sym c.can_create.ensures ∙ not_full c.can_create.result c.in_ok-refuse_if.ensures

pub add_entry-requires-clause-dir : goal.add_entry-requires-clause-dir
add_entry-requires-clause-dir c =
    subst (λ (t : State). IsDir t.objects c.args.spot.now.0) (sym c.in_ok-id.ensures.drawn)
    (dir_stays c.args.shared.now c.requires.valid c.args.label c.args.attr c.args.body c.requires.no_pipe c.args.spot.now.0 c.requires.dir)

pub add_entry-requires-clause-stands : goal.add_entry-requires-clause-stands
add_entry-requires-clause-stands c = ap (λ (t : State). is_removed t c.args.spot.now.0) c.in_ok-id.ensures.drawn ∙ c.requires.stands

pub add_entry-requires-clause-absent : goal.add_entry-requires-clause-absent
add_entry-requires-clause-absent c = ap (λ (t : State). look t c.args.spot.now.0 c.args.spot.now.1) c.in_ok-id.ensures.drawn ∙ c.requires.absent

pub add_entry-requires-clause-may : goal.add_entry-requires-clause-may
add_entry-requires-clause-may c =
    subst (λ (t : State). MayBeAdded t c.in_ok-id.id) (sym c.in_ok-id.ensures.drawn)
    (subst (MayBeAdded (after c.args.shared.now c.requires.valid c.args.label c.args.attr c.args.body c.requires.no_pipe)) (sym c.in_ok-id.ensures.id)
    (may_be_added c.args.shared.now c.requires.valid c.args.label c.args.attr c.args.body c.requires.no_pipe))

pub returns-in_err-refuse_if-clause-step : goal.returns-in_err-refuse_if-clause-step
returns-in_err-refuse_if-clause-step c = λ log.
    refuse_stops c.from_residual.result c.from_residual.ensures.1 (equal_refusal (ap not c.can_create.ensures) (c.in_err-refuse_if.ensures log))

pub returns-in_err-refuse_if-clause-kept : goal.returns-in_err-refuse_if-clause-kept
returns-in_err-refuse_if-clause-kept c = kept_same c.from_residual.result c.args.shared.now

pub returns-clause-step : goal.returns-clause-step
returns-clause-step c = λ log.
    refuse_goes (equal_refusal (ap not c.can_create.ensures) (c.in_ok-refuse_if.ensures log)) (gives c.in_ok-id.ensures.id)

pub returns-clause-made : goal.returns-clause-made
returns-clause-made c =
    c.in_ok-add_entry.ensures
    ∙ (λ i. apply_change (c.in_ok-id.ensures.drawn i) (SetEntry (c.args.spot.now.0, c.args.spot.now.1) (c.in_ok-id.ensures.id i)))
