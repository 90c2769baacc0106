use Rattle.std.proofs.Common.{◌+◌, subst, sym, ◌∙◌}
use Rattle.std.specs.FinMap as map
use Rattle.lab_lattice.proofs.Labels.{label_cmp_total, label_cmp_exact}
use Rattle.kern_model.proofs.TableLemmas.{get_at, one_set}
use Rattle.fs_dirs.specs.HolderLabels.{Counts, HasMoreAt}
use Rattle.fs_dirs.proofs.HolderLabelLemmas.{names_added}
use Rattle.fs_dirs.proofs.holder_labels.LabelCounts.add.Goals as goal

pub returns : goal.returns
returns c =
    let es = c.self.inside.further.entries in
    let before : Counts = map.from_entries es in
    let label = c.args.label.now in
    let further = c.args.further in
    let there = c.copied.ensures ∙ c.get.ensures.value ∙ sym (get_at label_cmp_total es label) in
    let set = one_set label_cmp_total label_cmp_exact es c.insert.new.self.entries label c.in-Some.sum c.in_ok-insert.ensures.updates.0 in
    subst (λ (m : Counts). HasMoreAt m label (further + 1) (map.from_entries c.insert.new.self.entries)) c.self.view_is
    (subst (HasMoreAt before label (further + 1)) (sym set) (names_added before label c.copied.result (sym there) further c.in-Some.sum c.in-Some.ensures))
