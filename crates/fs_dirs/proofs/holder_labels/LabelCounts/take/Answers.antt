use Rattle.std.specs.Prelude.{not}
use Rattle.std.proofs.Common.{◌-◌, arith, subst, sym, ◌∙◌}
use Rattle.std.specs.FinMap as map
use Rattle.lab_lattice.proofs.Labels.{label_cmp_total, label_cmp_exact}
use Rattle.kern_model.proofs.TableLemmas.{get_at, one_set}
use Rattle.fs_dirs.specs.HolderLabels.{Counts, HasMoreAt}
use Rattle.fs_dirs.proofs.HolderLabelLemmas.{further_taken, last_taken, one_gone, so_true, true_where_ok}
use Rattle.fs_dirs.proofs.holder_labels.LabelCounts.take.Goals as goal

pub returns-then-further-gt0 : goal.returns-then-further-gt0
returns-then-further-gt0 c =
    let es = c.self.inside.further.entries in
    let fs = c.insert.new.self.entries in
    let before : Counts = map.from_entries es in
    let label = c.args.label.now in
    let further = c.in-Some.further in
    let there = get_at label_cmp_total es label ∙ sym c.get.ensures.value ∙ sym c.copied.ensures ∙ c.in-Some.is in
    true_where_ok c.insert.result c.is_ok.result c.is_ok.ensures.value (λ updates.
    let set = one_set label_cmp_total label_cmp_exact es fs label (further - 1) updates.0 in
    subst (HasMoreAt (map.from_entries fs) label 1) c.self.view_is
    (subst (λ (m : Counts). HasMoreAt m label 1 before) (sym set) (further_taken before label further (further - 1) there (omega arith)))) c.insert.ensures.updates

pub returns : goal.returns
returns c =
    let es = c.self.inside.further.entries in
    let fs = c.remove.new.self.entries in
    let before : Counts = map.from_entries es in
    let label = c.args.label.now in
    let further = c.in-Some.further in
    let there = get_at label_cmp_total es label ∙ sym c.get.ensures.value ∙ sym c.copied.ensures ∙ c.in-Some.is in
    let gone = one_gone label_cmp_total label_cmp_exact es fs label c.remove.ensures.updates.0 in
    so_true (not c.is_empty.result)
    (subst (HasMoreAt (map.from_entries fs) label 1) c.self.view_is
    (subst (λ (m : Counts). HasMoreAt m label 1 before) (sym gone) (last_taken before label further there (omega arith))))
