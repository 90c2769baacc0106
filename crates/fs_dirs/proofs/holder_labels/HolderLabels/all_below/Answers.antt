use Rattle.std.specs.Prelude.{Some}
use Rattle.std.specs.FinMap as map
use Rattle.std.specs.FinMap.{FinMap}
use Rattle.std.specs.Option.{option_copied, option_map}
use Rattle.std.proofs.Common.{ap, sym, ◌∙◌}
use Rattle.kern_model.specs.Keys.{oid_cmp}
use Rattle.kern_model.proofs.KeyLaws.{oid_cmp_total}
use Rattle.kern_model.proofs.TableLemmas.{get_at}
use Rattle.fs_dirs.specs.HolderLabels.{Counts, are_below}
use Rattle.fs_dirs.proofs.holder_labels.HolderLabels.all_below.Goals as goal

pub returns-in-Some : goal.returns-in-Some
unfolding oid_cmp
returns-in-Some c =
    let id = c.args.id.now in
    ap Some c.are_below.ensures
    ∙ ap (option_map (are_below c.args.label.now))
    (sym (ap option_copied c.in-Some.is) ∙ c.get.ensures.value ∙ sym (get_at oid_cmp_total c.self.inside.by_object.entries id) ∙ ap (λ (m : FinMap oid_cmp Counts). map.get m id) c.self.view_is)

pub returns-in-None : goal.returns-in-None
unfolding oid_cmp
returns-in-None c =
    let id = c.args.id.now in
    ap (option_map (are_below c.args.label.now))
    (sym (ap option_copied c.in-None.is) ∙ c.get.ensures.value ∙ sym (get_at oid_cmp_total c.self.inside.by_object.entries id) ∙ ap (λ (m : FinMap oid_cmp Counts). map.get m id) c.self.view_is)
