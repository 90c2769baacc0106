-- Entries that are removed, numbers that two bytes hold, and the first entry of a label in a range of numbers.
use Rattle.std.specs.Prelude.{◌≡◌, ℕ, ◌≤◌, nat_lt, ◌&&◌, not, Bool, true, false, List, [], ◌∷◌, Option, Some, None, cond, filter, find, refl}
use Rattle.std.specs.declared.cmp.Ordering.{Ordering}
use Rattle.std.specs.declared.cmp.Ordering.TheVariants.{Less, Equal, Greater}
use Rattle.std.specs.declared.ops.Bound.TheVariants.{Included, Excluded}
use Rattle.std.specs.Ordering.{is_eq, is_gt, is_le, is_lt, nat_cmp, ordering_then}
use Rattle.std.specs.List.{AllByRecursion}
use Rattle.std.specs.List.Sorted.{IsStrictlySortedBy}
use Rattle.std.specs.Cmp.{IsTotalOrder, eq_by_cmp_equiv}
use Rattle.std.specs.BTreeMap.{is_at}
use Rattle.std.specs.BTreeMap.Range.{entries_between, range_contains}
use Rattle.std.specs.Map.{keys_of, lookup}
use Rattle.std.specs.FinMap as map
use Rattle.std.specs.FinMap.{IsAntisymmetric, get-empty, get-remove, same_map}
use Rattle.std.proofs.Common.{arith, ap, subst, sym, ◌∙◌}
use Rattle.std.proofs.lemmas.Bool.{true≢false, and_parts, and_from, false_from_ne_true}
use Rattle.std.proofs.lemmas.Bool.Decides.{nat_tests}
use Rattle.std.proofs.lemmas.Cmp.{tied_itself}
use Rattle.lab_lattice.specs.Label.{Label, dominates, label_cmp}
use Rattle.lab_lattice.proofs.Labels.{dominates_both, dominates_itself, label_cmp_total, label_cmp_exact}
use Rattle.kern_model.specs.declared.numbers.Pid.{Pid}
use Rattle.kern_model.specs.Keys.{pid_cmp}
use Rattle.kern_model.specs.Rules.{same_label}
use Rattle.kern_model.proofs.KeyLaws.{pid_cmp_total, pid_cmp_exact}
use Rattle.kern_model.proofs.MapLemmas.{each-entries, each-insert, each-remove, never_some}
use Rattle.kern_model.proofs.TableLemmas.{entries_view, get_at}
use Rattle.sched_progs.specs.declared.standing.Standing.{Standing}
use Rattle.sched_progs.specs.Standings.{AreSmall, Standings, first_standing}
use Rattle.sched_progs.specs.Turns.{is_above, is_of}

-- a list of entries that differs from another at one key, by having none there, makes the map without that key
pub one_removed : {K X : Type 0} {R : K → K → Ordering} → IsTotalOrder R → IsAntisymmetric R → (es fs : List (K × X)) (k : K)
    → ((q : K) → lookup (is_at (R q)) fs ≡ cond (is_at (R k) q) None (lookup (is_at (R q)) es)) → map.from_entries {R = R} fs ≡ map.remove (map.from_entries es) k
one_removed {R = R} o exact es fs k h = same_map o exact _ _ (λ q.
    get_at o fs q ∙ h q ∙ ap (λ b. cond b None (lookup (is_at (R q)) es)) ((eq_by_cmp_equiv o).symm k q)
    ∙ sym (get-remove o (map.from_entries es) k q ∙ ap (cond (is_at (R q) k) None) (get_at o es q)))

-- ---- numbers that two bytes hold
-- of no process the numbers are small
pub none_small : (m : Standings) → m ≡ map.empty → AreSmall m
none_small m is q a e = absurd (never_some _ a (ap (λ (n : Standings). map.get n q) is ∙ get-empty pid_cmp q) e)

pub set_small : (m n : Standings) (who : Pid) (a : Standing) → AreSmall m → who.n ≤ 65535 → n ≡ map.insert m who a → AreSmall n
set_small m n who a small few is =
    subst AreSmall (sym is) (each-insert pid_cmp_total pid_cmp_exact (λ (q : Pid) (x : Standing). q.n ≤ 65535) m small who a few)

pub removed_small : (m n : Standings) (who : Pid) → AreSmall m → n ≡ map.remove m who → AreSmall n
removed_small m n who small is = subst AreSmall (sym is) (each-remove pid_cmp_total pid_cmp_exact (λ (q : Pid) (x : Standing). q.n ≤ 65535) m small who)

-- ---- the first entry of a label in a range of numbers
abbrev pub number : Label → ℕ → Pid
number l n = record { label = l; n = n }

-- labels that compare unequal are not the same
labels_apart : (l m : Label) → is_eq (label_cmp l m) ≡ false → same_label m l ≡ false
labels_apart l m apart = false_from_ne_true _ (λ t.
    let both = and_parts (dominates m l) (dominates l m) t in
    let same : m ≡ l = dominates_both m l both.0 both.1 in
    let tied : is_eq (label_cmp l m) ≡ true = ap (λ k. is_eq (label_cmp l k)) same ∙ ap is_eq (tied_itself label_cmp_total l) in
    true≢false (sym tied ∙ apart))

labels_same : (l m : Label) → label_cmp l m ≡ Equal → same_label m l ≡ true
labels_same l m tied =
    let same : l ≡ m = label_cmp_exact l m tied in
    ap (λ k. same_label k l) (sym same) ∙ and_from (dominates l l) (dominates l l) (dominates_itself l) (dominates_itself l)

and_false : (b : Bool) → (b && false) ≡ false
and_false true = refl
and_false false = refl

and_true : (b : Bool) → (b && true) ≡ b
and_true true = refl
and_true false = refl

-- a number of the same label is in the range where its count is, and one of another label is not
in_range : (l : Label) (who : Pid) (test : Bool) (start : Ordering → Bool) (count : ℕ) → start Greater ≡ false → who.n ≤ 65535
    → start (nat_cmp count who.n) ≡ test
    → (start (ordering_then (label_cmp l who.label) (nat_cmp count who.n)) && not (is_lt (ordering_then (label_cmp l who.label) (nat_cmp 65535 who.n)))) ≡ (same_label who.label l && test)
in_range l who test start count none few same =
    let past : is_lt (nat_cmp 65535 who.n) ≡ false = grind (arith, nat_tests) in
    elim (label_cmp l who.label) as (λ r. label_cmp l who.label ≡ r → (start (ordering_then r (nat_cmp count who.n)) && not (is_lt (ordering_then r (nat_cmp 65535 who.n)))) ≡ (same_label who.label l && test)) [
      | Less ↦ λ e. and_false (start Less) ∙ sym (ap (λ b. b && test) (labels_apart l who.label (ap is_eq e)))
      | Equal ↦ λ e. (λ i. same i && not (past i)) ∙ and_true test ∙ sym (ap (λ b. b && test) (labels_same l who.label e))
      | Greater ↦ λ e. ap (λ b. b && true) none ∙ sym (ap (λ b. b && test) (labels_apart l who.label (ap is_eq e)))
    ] refl

-- the first item of a list
abbrev pub first_of : {X : Type 0} → List X → Option X
first_of [] = None
first_of (x ∷ xs) = Some x

first_passes : {X : Type 0} (p q : X → Bool) (xs : List X) → AllByRecursion (λ x. q x ≡ p x) xs → find p xs ≡ first_of (filter q xs)
first_passes p q [] all = refl
first_passes p q (x ∷ xs) all =
    ap (λ b. cond b (Some x) (find p xs)) (sym all.0)
    ∙ elim (q x) as (λ b. cond b (Some x) (find p xs) ≡ first_of (cond b (x ∷ filter q xs) (filter q xs))) [ true ↦ refl | false ↦ first_passes p q xs all.1 ]

module _ (es : List (Pid × Standing)) (small : AreSmall (map.from_entries es)) (sorted : IsStrictlySortedBy pid_cmp (keys_of es)) where
  first_between : (p q : Pid → Bool) → ((who : Pid) → who.n ≤ 65535 → q who ≡ p who) → first_standing p (map.from_entries es) ≡ first_of (filter (λ (e : Pid × Standing). q e.0) es)
  first_between p q same =
      first_passes (λ (e : Pid × Standing). p e.0) (λ (e : Pid × Standing). q e.0) (map.entries (map.from_entries es))
      (each-entries pid_cmp_total pid_cmp_exact (λ (k : Pid) (a : Standing). q k ≡ p k) (map.from_entries es) (λ k a e. same k (small k a e)))
      ∙ ap (λ (fs : List (Pid × Standing)). first_of (filter (λ (e : Pid × Standing). q e.0) fs)) (entries_view pid_cmp_total pid_cmp_exact es sorted)

  -- that of a label above a number
  pub first_above : (l : Label) (n : ℕ) → first_standing (is_above l n) (map.from_entries es) ≡ first_of (entries_between pid_cmp (Excluded (number l n)) (Included (number l 65535)) es)
  unfolding pid_cmp
  first_above l n = first_between (is_above l n) (range_contains pid_cmp (Excluded (number l n)) (Included (number l 65535))) (λ who few.
      let test : is_lt (nat_cmp n who.n) ≡ nat_lt n who.n = grind (arith, nat_tests) in
      in_range l who (nat_lt n who.n) is_lt n refl few test)

  -- and that of a label
  pub first_least : (l : Label) → first_standing (is_of l) (map.from_entries es) ≡ first_of (entries_between pid_cmp (Included (number l 0)) (Included (number l 65535)) es)
  unfolding pid_cmp
  first_least l = first_between (is_of l) (range_contains pid_cmp (Included (number l 0)) (Included (number l 65535))) (λ who few.
      let test : is_le (nat_cmp 0 who.n) ≡ true = grind (arith, nat_tests) in
      in_range l who true is_le 0 refl few test ∙ and_true (same_label who.label l))

-- a range of the numbers of a label goes forward
pub goes_forward : (l : Label) (n : ℕ) → n ≤ 65535 → is_gt (pid_cmp (number l n) (number l 65535)) ≡ false
unfolding pid_cmp
goes_forward l n few =
    let up : is_gt (nat_cmp n 65535) ≡ false = grind (arith, nat_tests) in
    ap (λ r. is_gt (ordering_then r (nat_cmp n 65535))) (tied_itself label_cmp_total l) ∙ up
