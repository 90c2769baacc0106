use Rattle.std.proofs.Common.{List, ℕ, ◌++◌, ap, ◌∙◌, append_assoc, get_or, []}
use Rattle.lab_text.specs.Text.{names_in, past_mark, written_grade, past_slash, label_text}
use Rattle.lab_text.proofs.LabelLemmas.{on_ok}
use Rattle.lab_text.proofs.text.put_label.Goals as goal

pub returns : goal.returns
unfolding label_text
returns c =
    let before = c.args.text.now.items in
    let label = c.args.label.now in
    let level = get_or c.args.policy.now.levels label.first.first [] in
    let cats = past_mark 58 (names_in label.first.second 0 c.args.policy.now.cats) in
    let grade = past_slash (written_grade c.args.policy.now.grades label.second.inner) in
    on_ok c.put_grade.result (λ h.
    h ∙ ap (λ (t : List ℕ). t ++ grade) (c.in_ok-put_cats.ensures ∙ ap (λ (t : List ℕ). t ++ cats) (c.in_ok-extend_from_slice.ensures.items ∙ ap (λ (name : List ℕ). before ++ name) c.level_name.ensures) ∙ append_assoc before level cats)
    ∙ append_assoc before (level ++ cats) grade) c.put_grade.ensures
