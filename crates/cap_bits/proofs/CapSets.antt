-- Which capabilities a set has, for each operation that makes one.
use Rattle.std.specs.Prelude.{◌≡◌, false, not, ◌&&◌, ◌||◌, ◌==◌}
use Rattle.std.specs.FinSet as set
use Rattle.std.specs.Bool.{Decides}
use Rattle.std.specs.Cmp.{unsigned_tied, unsigned_Decides}
use Rattle.std.proofs.Common.{ap, sym, ◌∙◌}
use Rattle.cap_bits.specs.declared.cap.Cap.{Cap}
use Rattle.cap_bits.specs.Cap.{cap_number, cap_cmp}
use Rattle.cap_bits.specs.Laws.{same_number, cap_cmp_total}
use Rattle.cap_bits.specs.CapSet.{CapSet, has, no_caps, with_cap, without_cap, union_of, meet_of, minus_of, same_cap}

pub same_cap-number : (a b : Cap) → same_cap a b ≡ (cap_number a == cap_number b)
unfolding cap_cmp
same_cap-number a b = unsigned_tied (cap_number a) (cap_number b)

pub same_cap-decides : (a b : Cap) → Decides (same_cap a b) (a ≡ b)
same_cap-decides a b =
    let test = unsigned_Decides (cap_number a) (cap_number b) in
    (λ e. same_number a b (test.0 (sym (same_cap-number a b) ∙ e)), λ e. same_cap-number a b ∙ test.1 (ap cap_number e))

pub has-no_caps : (q : Cap) → has no_caps q ≡ false
has-no_caps q = set.contains-empty cap_cmp q

pub has-with_cap : (a : CapSet) (cap q : Cap) → has (with_cap a cap) q ≡ (same_cap q cap || has a q)
has-with_cap a cap q = set.contains-insert cap_cmp_total a cap q

pub has-without_cap : (a : CapSet) (cap q : Cap) → has (without_cap a cap) q ≡ (not (same_cap q cap) && has a q)
has-without_cap a cap q = set.contains-remove cap_cmp_total a cap q

pub has-union_of : (a b : CapSet) (q : Cap) → has (union_of a b) q ≡ (has a q || has b q)
has-union_of a b q = set.contains-union cap_cmp_total a b q

pub has-meet_of : (a b : CapSet) (q : Cap) → has (meet_of a b) q ≡ (has a q && has b q)
has-meet_of a b q = set.contains-intersection cap_cmp_total a b q

pub has-minus_of : (a b : CapSet) (q : Cap) → has (minus_of a b) q ≡ (has a q && not (has b q))
has-minus_of a b q = set.contains-difference cap_cmp_total a b q
