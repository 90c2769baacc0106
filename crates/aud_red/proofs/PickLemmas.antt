-- Equal numbers of processes, and the tests of terms.
use Rattle.std.specs.Prelude.{◌≡◌, ◌↔◌, ◌&&◌, Bool, true, false, Option, None, Some, IsTrue, IfSome, Decides}
use Rattle.std.proofs.Common.{ap, refl, sym, subst, ◌∙◌}
use Rattle.std.proofs.lemmas.Bool.{and_parts, and_from}
use Rattle.std.proofs.lemmas.Cmp.{eq_by_cmp_equiv}
use Rattle.cap_bits.proofs.CapSets.{same_cap-decides}
use Rattle.cap_bits.specs.declared.cap.Cap.{Cap}
use Rattle.kern_model.specs.Keys.{same_pid as are_same}
use Rattle.kern_model.specs.Named.{find_named}
use Rattle.kern_model.specs.Records.{who_of}
use Rattle.kern_model.specs.declared.numbers.Pid.{Pid}
use Rattle.kern_model.specs.declared.records.Rec.{Rec}
use Rattle.kern_model.specs.declared.records.Rec.TheVariants as rec
use Rattle.kern_model.proofs.KeyLaws.{pid_cmp_exact, pid_cmp_total}
use Rattle.kern_model.proofs.MapLemmas.{same_key}
use Rattle.lab_lattice.proofs.Labels.{dominates_both, dominates_itself}
use Rattle.lab_lattice.specs.Label.{dominates}
use Rattle.lab_text.specs.Names.{same_bytes}
use Rattle.aud_record.proofs.ListedLaws.{event_round_trip}
use Rattle.aud_record.proofs.Numbers.{same_is, same_itself}
use Rattle.aud_record.specs.Events.{event_of, event_word, all_events}
use Rattle.aud_record.specs.declared.event.Event.{Event}
use Rattle.aud_red.specs.declared.select.Select.{Select}
use Rattle.aud_red.specs.Select.{exercised_cap, holds_of, is_exercise_of, picks, Picks}

-- numbers are one where their counts are and their labels dominate each other
pub same_pid : (a b : Pid) → a.n ≡ b.n → (dominates a.label b.label && dominates b.label a.label) ≡ true → a ≡ b
same_pid a b count labels =
    let parts = and_parts (dominates a.label b.label) (dominates b.label a.label) labels in
    let label : a.label ≡ b.label = dominates_both a.label b.label parts.0 parts.1 in
    (λ i. record { label = label i; n = count i })

-- and else they are not
pub same_label : (a b : Pid) → a ≡ b → (dominates a.label b.label && dominates b.label a.label) ≡ true
same_label a b same =
    ap (λ (x : Pid). dominates a.label x.label && dominates x.label a.label) (sym same)
    ∙ and_from (dominates a.label a.label) (dominates a.label a.label) (dominates_itself a.label) (dominates_itself a.label)

-- ---- terms

-- a test of what is there holds exactly where it holds of it, if anything is there
holds_decides : {X : Type 0} (test : X → Bool) (P : X → Type 0) → ((x : X) → Decides (test x) (P x)) → (o : Option X) → Decides (holds_of test o) (IfSome o P)
holds_decides test P each None = (λ _. tt, λ _. refl)
holds_decides test P each (Some x) = each x

pid_decides : (a b : Pid) → Decides (are_same a b) (a ≡ b)
pid_decides a b = (same_key pid_cmp_exact a b, λ e. subst (λ x. are_same a x ≡ true) e ((eq_by_cmp_equiv pid_cmp_total).refl a))

event_decides : (a b : Event) → Decides (same_bytes (event_word a) (event_word b)) (a ≡ b)
event_decides a b = (equal, λ e. subst (λ x. same_bytes (event_word a) (event_word x) ≡ true) e (same_itself (event_word a)))
  where
    equal : same_bytes (event_word a) (event_word b) ≡ true → a ≡ b
    equal same =
        let one : Some a ≡ Some b = sym (event_round_trip a) ∙ (ap (find_named event_word all_events) (same_is (event_word a) (event_word b) same) ∙ event_round_trip b) in
        cc

exercise_decides : (r : Rec) (cap : Cap) → Decides (is_exercise_of r cap) (exercised_cap r ≡ Some cap)
exercise_decides (rec.Exercise e) cap = (λ t. ap Some ((same_cap-decides e.cap cap).0 t), λ is. (same_cap-decides e.cap cap).1 (inner e.cap cap is))
  where
    inner : (a b : Cap) → Some a ≡ Some b → a ≡ b
    inner a b is = cc
exercise_decides (rec.Boot who label caps) cap = (λ t. absurd (cc), λ is. absurd (cc))
exercise_decides (rec.Fork who child) cap = (λ t. absurd (cc), λ is. absurd (cc))
exercise_decides (rec.Exec who file file_caps caps) cap = (λ t. absurd (cc), λ is. absurd (cc))
exercise_decides (rec.Exit who ending) cap = (λ t. absurd (cc), λ is. absurd (cc))
exercise_decides (rec.CapSetProc who caps) cap = (λ t. absurd (cc), λ is. absurd (cc))
exercise_decides (rec.CapSetFile who file caps) cap = (λ t. absurd (cc), λ is. absurd (cc))
exercise_decides (rec.MacSetProc who old new) cap = (λ t. absurd (cc), λ is. absurd (cc))
exercise_decides (rec.MacSetFile who object old new) cap = (λ t. absurd (cc), λ is. absurd (cc))
exercise_decides (rec.Deny who call errno check place) cap = (λ t. absurd (cc), λ is. absurd (cc))
exercise_decides (rec.Switch who on) cap = (λ t. absurd (cc), λ is. absurd (cc))
exercise_decides (rec.Note who bytes) cap = (λ t. absurd (cc), λ is. absurd (cc))

-- the tests hold exactly where the record is picked
picks_decides : (s : Select) (r : Rec) → Decides (picks s r) (Picks s r)
picks_decides s r =
    let pid = holds_decides (are_same (who_of r)) (λ p. who_of r ≡ p) (pid_decides (who_of r)) s.pid in
    let event = holds_decides (λ e. same_bytes (event_word (event_of r)) (event_word e)) (λ e. event_of r ≡ e) (event_decides (event_of r)) s.event in
    let cap = holds_decides (is_exercise_of r) (λ c. exercised_cap r ≡ Some c) (exercise_decides r) s.cap in
    let label = holds_decides (λ l. dominates l (who_of r).label) (λ l. dominates l (who_of r).label ≡ true) (λ l. (λ t. t, λ t. t)) s.label in (
      λ all.
          let three = and_parts _ _ all in
          let two = and_parts _ _ three.0 in
          let one = and_parts _ _ two.0 in
          record { pid = pid.0 one.0; label = label.0 one.1; event = event.0 two.1; cap = cap.0 three.1 },
      λ p. and_from _ _ (and_from _ _ (and_from _ _ (pid.1 p.pid) (label.1 p.label)) (event.1 p.event)) (cap.1 p.cap),
    )

same_answer : {P : Type 0} (a b : Bool) → (IsTrue a ↔ P) → Decides b P → a ≡ b
same_answer true true f d = refl
same_answer false false f d = refl
same_answer true false f d = sym (d.1 (f.0 refl))
same_answer false true f d = f.1 (d.0 refl)

-- an answer that is true exactly where the record is picked is that of the tests
pub by_tests : (s : Select) (r : Rec) (answer : Bool) → (IsTrue answer ↔ Picks s r) → answer ≡ picks s r
by_tests s r answer means = same_answer answer (picks s r) means (picks_decides s r)
