use Rattle.std.specs.Prelude.{◌≡◌, IsSome, None, Option, Some, refl}
use Rattle.std.specs.BTreeMap.{BTreeMap}
use Rattle.std.specs.FinMap as map
use Rattle.std.specs.FinMap.{FinMap}
use Rattle.std.specs.Option.{option_copied_mut}
use Rattle.std.proofs.Common.{ap, subst, sym, ◌∙◌}
use Rattle.kern_model.specs.declared.numbers.Oid.{Oid}
use Rattle.kern_model.specs.Keys.{oid_cmp}
use Rattle.kern_model.proofs.KeyLaws.{oid_cmp_total}
use Rattle.kern_model.proofs.MapLemmas.{never_some, some_same}
use Rattle.kern_model.proofs.TableLemmas.{get_at}
use Rattle.fs_dirs.specs.HolderLabels.{AreCounted, Counts, HasMoreAt, with_name}
use Rattle.fs_dirs.proofs.HolderLabelLemmas.{gone_at, name_added, ok_where_not_err, one_changed, then_gone, uncounted_added}
use Rattle.fs_dirs.proofs.holder_labels.HolderLabels.add_name.Goals as goal

pub returns-in_default : goal.returns-in_default
unfolding oid_cmp
returns-in_default c names are =
    let es = c.self.inside.by_object.entries in
    let before : FinMap oid_cmp Counts = map.from_entries es in
    let id = c.args.id.now in
    let label = c.args.label.now in
    let none : map.get before id ≡ None = get_at oid_cmp_total es id ∙ sym c.get_mut.ensures.value ∙ ap option_copied_mut c.in_default.is in
    subst (λ (b : BTreeMap Oid Counts). AreCounted (map.from_entries b.entries) (with_name names id label)) (sym c.get_mut.follows.holds-at-none)
    (uncounted_added before id none names label (subst (λ (m : FinMap oid_cmp Counts). AreCounted m names) (sym c.self.view_is) are))

pub returns-else-is_err : goal.returns-else-is_err
unfolding oid_cmp
returns-else-is_err c names are =
    let es = c.self.inside.by_object.entries in
    let w = c.add.new.self in
    let fs = (c.get_mut.follows.lender w).entries in
    let before : FinMap oid_cmp Counts = map.from_entries es in
    let id = c.args.id.now in
    let label = c.args.label.now in
    let found = sym c.get_mut.ensures.value ∙ ap option_copied_mut c.in-Some.is in
    let set = one_changed es fs id (Some w) ((c.get_mut.follows.holds w).3 (subst (λ (o : Option Counts). IsSome o) (sym found) refl)).0 in
    let changed : HasMoreAt c.in-Some.counts.now label 1 w = ok_where_not_err c.add.result (sym c.is_err.ensures.value ∙ c.if-is_err.false) c.add.ensures in
    name_added before (map.from_entries fs) id (Some w) set names label c.in-Some.counts.now (get_at oid_cmp_total es id ∙ found)
    (λ counts f. subst (λ (counts : Counts). HasMoreAt c.in-Some.counts.now label 1 counts) (some_same w counts f) changed)
    (subst (λ (m : FinMap oid_cmp Counts). AreCounted m names) (sym c.self.view_is) are)

pub returns-then-is_err : goal.returns-then-is_err
unfolding oid_cmp
returns-then-is_err c names are =
    let es = c.self.inside.by_object.entries in
    let w = c.add.new.self in
    let fs = (c.get_mut.follows.lender w).entries in
    let before : FinMap oid_cmp Counts = map.from_entries es in
    let middle : FinMap oid_cmp Counts = map.from_entries fs in
    let id = c.args.id.now in
    let label = c.args.label.now in
    let found = sym c.get_mut.ensures.value ∙ ap option_copied_mut c.in-Some.is in
    let set = one_changed es fs id (Some w) ((c.get_mut.follows.holds w).3 (subst (λ (o : Option Counts). IsSome o) (sym found) refl)).0 in
    subst (λ (m : FinMap oid_cmp Counts). AreCounted m (with_name names id label)) (sym c.forget.ensures)
    (name_added before (map.remove middle id) id None (then_gone before middle (map.remove middle id) id (Some w) set (gone_at middle id)) names label c.in-Some.counts.now (get_at oid_cmp_total es id ∙ found)
    (λ counts f. absurd (never_some None counts refl f))
    (subst (λ (m : FinMap oid_cmp Counts). AreCounted m names) (sym c.self.view_is) are))
