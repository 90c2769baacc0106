use Rattle.std.proofs.Common.{Result, Ok, Err}
use Rattle.std.specs.Prelude.{OnOk}
use Rattle.world_text.proofs.AppendLemmas.{head_after}
use Rattle.world_text.proofs.writing.put_head.Goals as goal

by_result : {T E P Q : Type 0} (r : Result T E) → (P → Q) → OnOk r P → OnOk r Q
by_result (Ok x) f p = f p
by_result (Err e) f p = tt

pub returns : goal.returns
returns c =
    by_result c.put_word_line-2.result (λ last. head_after c.args.policy.now _ _ c.args.line.now c.put_word_line.new.line c.name_lists.new.self c.put_word_line-2.new.line
    (rw c.word.ensures at c.in_ok-put_word_line.ensures) c.in_ok-name_lists.ensures (rw (c.as_slice.ensures.value, c.in_ok-bound.ensures.text) at last)) c.put_word_line-2.ensures
