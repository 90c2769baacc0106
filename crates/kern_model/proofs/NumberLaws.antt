-- The order of numbers is total and exact, numbers are one where both their parts are, and the numbers of processes, objects and
-- descriptions are such numbers.
use Rattle.std.specs.Prelude.{◌≡◌, ◌&&◌, ℕ, ◌==◌, Bool, refl}
use Rattle.std.specs.declared.cmp.Ordering.TheVariants.{Less, Equal, Greater}
use Rattle.std.specs.Ordering.{nat_cmp, is_eq, eq_by_cmp, ordering_then}
use Rattle.std.specs.Cmp.{IsTotalOrder, nat_cmp_total}
use Rattle.std.specs.FinMap.{IsAntisymmetric}
use Rattle.std.proofs.Common.{arith}
use Rattle.std.proofs.lemmas.Bool.Decides.{nat_tests}
use Rattle.std.proofs.lemmas.Cmp.{on_total, then_total}
use Rattle.std.proofs.lemmas.Map.Lookups.{exact_pairs, exact_unsigned}
use Rattle.lab_lattice.specs.Label.{Label, label_cmp}
use Rattle.lab_lattice.proofs.Labels.{label_cmp_total, label_cmp_exact}
use Rattle.kern_model.specs.ByNumber.{AreNumbers, did_at, oid_at, pid_at}
use Rattle.kern_model.specs.Keys.{did_cmp, oid_cmp, pid_cmp}
use Rattle.kern_model.specs.Numbers.{Num, num_cmp}

pub num_cmp_total : IsTotalOrder num_cmp
unfolding num_cmp
num_cmp_total = then_total (on_total (λ (a : Num). a.0) label_cmp_total) (on_total (λ (a : Num). a.1) nat_cmp_total)

pub num_cmp_exact : IsAntisymmetric num_cmp
unfolding num_cmp
num_cmp_exact a b h = exact_pairs label_cmp nat_cmp label_cmp_exact exact_unsigned a b h

abbrev pub same_label : Label → Label → Bool
same_label a b = eq_by_cmp label_cmp a b

abbrev pub same_num : Num → Num → Bool
same_num a b = eq_by_cmp num_cmp a b

same_count : (m n : ℕ) → is_eq (nat_cmp m n) ≡ (m == n)
same_count m n = grind (arith, nat_tests)

pub same_parts : (a b : Num) → same_num a b ≡ (same_label a.0 b.0 && (a.1 == b.1))
unfolding num_cmp
same_parts a b = elim (label_cmp a.0 b.0) as (λ r. is_eq (ordering_then r (nat_cmp a.1 b.1)) ≡ (is_eq r && (a.1 == b.1))) [
  | Less ↦ refl
  | Equal ↦ same_count a.1 b.1
  | Greater ↦ refl
]

-- the numbers of processes are in the order of their labels and counts
pub pids : AreNumbers pid_cmp pid_at (λ p. (p.label, p.n))
unfolding pid_cmp num_cmp
pids = record { parts_back = λ n. refl; in_order = λ a b. refl }

-- so are those of objects
pub oids : AreNumbers oid_cmp oid_at (λ o. (o.label, o.n))
unfolding oid_cmp num_cmp
oids = record { parts_back = λ n. refl; in_order = λ a b. refl }

-- and those of descriptions
pub dids : AreNumbers did_cmp did_at (λ d. (d.label, d.n))
unfolding did_cmp num_cmp
dids = record { parts_back = λ n. refl; in_order = λ a b. refl }
