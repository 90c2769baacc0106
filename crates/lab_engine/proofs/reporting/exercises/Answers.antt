use Rattle.std.proofs.Common.{◌≡◌, ℕ, ◌<◌, ◌≤◌, ◌+◌, Bool, true, false, cond, List, length, take, get_or, sym, ◌∙◌, ap, arith, refl}
use Rattle.std.proofs.lemmas.List.{take_all}
use Rattle.std.proofs.lemmas.List.Sums.{sum_by_more}
use Rattle.kern_model.specs.declared.records.Rec.{Rec}
use Rattle.lab_engine.specs.Report.{exercises, is_exercise}
use Rattle.lab_engine.proofs.reporting.exercises.Goals as goal

abbrev one_if : Bool → ℕ
one_if b = cond b 1 0

few_more : (b : Bool) (count i more : ℕ) → count ≤ i → more ≡ one_if b → count + more ≤ i + 1
few_more true count i more le is = omega (arith, le, is)
few_more false count i more le is = omega (arith, le, is)

-- one record more
one_more : (recs : List Rec) (i count more : ℕ) (r : Rec) → i < length recs → count ≡ exercises (take i recs) → r ≡ get_or recs i r → more ≡ one_if (is_exercise r) → count + more ≡ exercises (take (i + 1) recs)
one_more recs i count more r lt so_far at is =
    ap (λ k. k + more) so_far
    ∙ ap (λ k. exercises (take i recs) + k) (is ∙ ap (λ (x : Rec). one_if (is_exercise x)) at)
    ∙ sym (sum_by_more (λ (x : Rec). one_if (is_exercise x)) recs i r lt)

pub loop-rec-init : goal.loop-rec-init
loop-rec-init c = record { counted = refl; few = omega arith }

pub loop-rec-preserved : goal.loop-rec-preserved
loop-rec-preserved c = record {
  counted = one_more c.args.recs.now c.loop-rec.rec-index c.loop-rec.count c.exercises_in-count.result c.rec-item.result c.loop-rec-test.true c.loop-rec.invariant.counted c.rec-item.is c.exercises_in-count.ensures;
  few = few_more (is_exercise c.rec-item.result) c.loop-rec.count c.loop-rec.rec-index c.exercises_in-count.result c.loop-rec.invariant.few c.exercises_in-count.ensures;
}

pub overflow_add-count : goal.overflow_add-count
overflow_add-count c = let few = few_more (is_exercise c.rec-item.result) c.loop-rec.count c.loop-rec.rec-index c.exercises_in-count.result c.loop-rec.invariant.few c.exercises_in-count.ensures in omega (arith, few, c.loop-rec-test.true)

pub returns : goal.returns
returns c = c.loop-rec.invariant.counted ∙ ap exercises (take_all c.loop-rec.rec-index c.args.recs.now c.loop-rec-test.false)
