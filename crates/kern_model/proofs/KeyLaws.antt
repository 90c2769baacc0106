-- The orders of keys are total, and exact: keys that compare equal are equal.
use Rattle.std.specs.Prelude.{◌≡◌, ◌==◌, ◌&&◌, ℕ, Bool, List, true}
use Rattle.std.specs.Bool.{one_answer}
use Rattle.std.specs.Ordering.{eq_by_cmp, is_eq, nat_cmp}
use Rattle.std.specs.Cmp.{Equal-is, IsTotalOrder, nat_cmp_total}
use Rattle.std.specs.Cmp.Lexicographic.{slice_cmp}
use Rattle.std.specs.FinMap.{IsAntisymmetric}
use Rattle.std.proofs.Common.{sym, ◌∙◌, ap, arith}
use Rattle.std.proofs.lemmas.Bool.{and_parts}
use Rattle.std.proofs.lemmas.Bool.Decides.{nat_tests}
use Rattle.std.proofs.lemmas.Cmp.{on_total, then_total, tied_itself, nat_list_cmp_total}
use Rattle.std.proofs.lemmas.Map.Lookups.{exact_pairs, exact_unsigned, exact_bytes}
use Rattle.lab_lattice.specs.Label.{Label, dominates, label_cmp}
use Rattle.lab_lattice.proofs.Labels.{dominates_both, dominates_itself, label_cmp_total, label_cmp_exact}
use Rattle.kern_model.specs.declared.numbers.Pid.{Pid}
use Rattle.kern_model.specs.declared.numbers.Oid.{Oid}
use Rattle.kern_model.specs.declared.numbers.Did.{Did}
use Rattle.kern_model.specs.Keys.{Spot, oid_cmp, pid_cmp, did_cmp, same_oid, spot_cmp}

pub oid_cmp_total : IsTotalOrder oid_cmp
unfolding oid_cmp
oid_cmp_total = then_total (on_total (λ (a : Oid). a.label) label_cmp_total) (on_total (λ (a : Oid). a.n) nat_cmp_total)

pub oid_cmp_exact : IsAntisymmetric oid_cmp
unfolding oid_cmp
oid_cmp_exact a b h = ap (λ (p : Label × ℕ). record { label = p.0; n = p.1 }) (exact_pairs label_cmp nat_cmp label_cmp_exact exact_unsigned (a.label, a.n) (b.label, b.n) h)

-- objects' numbers are one where their counts are and their labels dominate each other
abbrev equal_parts : Oid → Oid → Bool
equal_parts a b = a.n == b.n && (dominates a.label b.label && dominates b.label a.label)

equal_parts_itself : (a : Oid) → equal_parts a a ≡ true
equal_parts_itself a =
    let count : (a.n == a.n) ≡ true = grind (arith, nat_tests) in
    let label : dominates a.label a.label ≡ true = dominates_itself a.label in
    cc

equal_parts_same : (a b : Oid) → equal_parts a b ≡ true → a ≡ b
equal_parts_same a b e =
    let parts = and_parts (a.n == b.n) _ e in
    let labels = and_parts (dominates a.label b.label) _ parts.1 in
    let label : a.label ≡ b.label = dominates_both a.label b.label labels.0 labels.1 in
    let count : a.n ≡ b.n = grind (arith, nat_tests) in
    ap (λ (l : Label). record { label = l; n = a.n }) label ∙ ap (λ (n : ℕ). record { label = b.label; n = n }) count

pub oid_equal : (a b : Oid) → (a.n == b.n && (dominates a.label b.label && dominates b.label a.label)) ≡ same_oid a b
oid_equal a b = one_answer (equal_parts a b) (same_oid a b)
    (equal_parts_same a b, λ e. ap (equal_parts a) (sym e) ∙ equal_parts_itself a)
    (λ e. oid_cmp_exact a b ((Equal-is (oid_cmp a b)).0 e), λ e. ap (eq_by_cmp oid_cmp a) (sym e) ∙ ap is_eq (tied_itself oid_cmp_total a))

pub pid_cmp_total : IsTotalOrder pid_cmp
unfolding pid_cmp
pid_cmp_total = then_total (on_total (λ (a : Pid). a.label) label_cmp_total) (on_total (λ (a : Pid). a.n) nat_cmp_total)

pub pid_cmp_exact : IsAntisymmetric pid_cmp
unfolding pid_cmp
pid_cmp_exact a b h = ap (λ (p : Label × ℕ). record { label = p.0; n = p.1 }) (exact_pairs label_cmp nat_cmp label_cmp_exact exact_unsigned (a.label, a.n) (b.label, b.n) h)

pub did_cmp_total : IsTotalOrder did_cmp
unfolding did_cmp
did_cmp_total = then_total (on_total (λ (a : Did). a.label) label_cmp_total) (on_total (λ (a : Did). a.n) nat_cmp_total)

pub did_cmp_exact : IsAntisymmetric did_cmp
unfolding did_cmp
did_cmp_exact a b h = ap (λ (p : Label × ℕ). record { label = p.0; n = p.1 }) (exact_pairs label_cmp nat_cmp label_cmp_exact exact_unsigned (a.label, a.n) (b.label, b.n) h)

pub spot_cmp_total : IsTotalOrder spot_cmp
unfolding spot_cmp
spot_cmp_total = then_total (on_total (λ (a : Spot). a.0) oid_cmp_total) (on_total (λ (a : Spot). a.1) nat_list_cmp_total)

pub spot_cmp_exact : IsAntisymmetric spot_cmp
unfolding spot_cmp
spot_cmp_exact a b h = ap (λ (p : Oid × List ℕ). (p.0, p.1)) (exact_pairs oid_cmp (slice_cmp nat_cmp) oid_cmp_exact exact_bytes (a.0, a.1) (b.0, b.1) h)
