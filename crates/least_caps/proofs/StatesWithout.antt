-- What is in a state without some capabilities, and such a state after changes.
use Rattle.std.specs.Prelude.{◌≡◌, ◌/◌, ◌%◌, ◌==◌, ◌≤◌, nat_le, ℕ, true, false, List, [], ◌∷◌, ◌++◌, None, Some, cond, refl}
use Rattle.std.specs.Int.{bit_at}
use Rattle.std.specs.List.{flat_map}
use Rattle.std.specs.Option.{option_map}
use Rattle.std.specs.declared.cmp.Ordering.{Ordering}
use Rattle.std.specs.Ordering.{eq_by_cmp}
use Rattle.std.specs.FinMap as map
use Rattle.std.specs.FinMap.{FinMap, IsAntisymmetric, same_map, get-remove}
use Rattle.std.specs.Cmp.{IsTotalOrder}
use Rattle.std.proofs.Common.{sym, ◌∙◌, ap, arith}
use Rattle.std.proofs.lemmas.Bool.{and_parts, or_parts, leb-true, eqb-true, eqb-false}
use Rattle.std.proofs.lemmas.Nat.{and_mask}
use Rattle.cap_bits.specs.CapSet.{CapSet}
use Rattle.lab_lattice.specs.Label.{Label}
use Rattle.kern_model.specs.declared.numbers.Oid.{Oid}
use Rattle.kern_model.specs.declared.numbers.Pid.{Pid}
use Rattle.kern_model.specs.declared.objects.Object.{Object}
use Rattle.kern_model.specs.Kinds.{has_set_id, is_mode, permissions}
use Rattle.kern_model.specs.Maps.{get_or, select}
use Rattle.kern_model.specs.State.{State, Process, Change, SetObject, SetProcess, DropProcess, apply_change, apply_changes, object_at, stub_object}
use Rattle.kern_model.specs.Valid.{IsValid}
use Rattle.kern_model.proofs.KeyLaws.{oid_cmp_total, oid_cmp_exact, pid_cmp_total, pid_cmp_exact}
use Rattle.kern_model.proofs.MapLemmas.{get_or-found, get_or-absent}
use Rattle.kern_model.proofs.Selections.{get-select_each, select-insert_each}
use Rattle.least_caps.specs.NarrowedStates.{object_without, process_without, state_without}
use Rattle.least_caps.proofs.NarrowedSets.{narrowed-no_file_caps}

-- a selection that keeps each entry, with another value, of a map from which an entry is removed
select-remove_each : {K X Y : Type 0} {R : K → K → Ordering} → IsTotalOrder R → IsAntisymmetric R → (g : K → X → Y) (m : FinMap R X) (k : K)
    → select (λ q x. Some (g q x)) (map.remove m k) ≡ map.remove (select (λ q x. Some (g q x)) m) k
select-remove_each {R = R} o exact g m k = same_map o exact _ _ (λ q.
    get-select_each o exact g (map.remove m k) q ∙ ap (option_map (g q)) (get-remove o m k q)
    ∙ elim (eq_by_cmp R q k) as
    (λ b. option_map (g q) (cond b None (map.get m q)) ≡ cond b None (option_map (g q) (map.get m q))) [ true ↦ refl | false ↦ refl ]
    ∙ ap (λ w. cond (eq_by_cmp R q k) None w) (sym (get-select_each o exact g m q))
    ∙ sym (get-remove o (select (λ q x. Some (g q x)) m) k q))

-- without set-id bits a mode is its permission bits
small_mode : (mode : ℕ) → mode ≤ 4095 → (mode / 512) % 2 ≡ 0 → (mode / 2048 % 2 ≡ 1 → ⊥) → (mode / 1024 % 2 ≡ 1 → ⊥) → mode % 512 ≡ mode
small_mode mode most sticky user group =
    let two : mode / 2048 ≡ 0 = omega arith in
    let one : mode / 1024 ≡ 0 = omega arith in
    let none : mode / 512 ≡ 0 = omega arith in
    omega arith

pub mode_of_permissions : (mode : ℕ) → is_mode mode ≡ true → has_set_id mode ≡ false → permissions mode ≡ mode
mode_of_permissions mode is none =
    let parts = and_parts (nat_le mode 4095) ((mode / 512) % 2 == 0) is in
    let ids = or_parts (bit_at mode 11 == 1) (bit_at mode 10 == 1) none in
    and_mask mode 9
    ∙ small_mode mode (leb-true mode 4095 parts.0) (eqb-true ((mode / 512) % 2) 0 parts.1) (eqb-false (bit_at mode 11) 1 ids.0)
    (eqb-false (bit_at mode 10) 1 ids.1)

module _ (d : CapSet) where
  abbrev each_object : Oid → Object → Object
  each_object id o = object_without d o

  abbrev pub each_process : Pid → Process → Process
  each_process who p = process_without d p

  stub_without : (top : Label) → object_without d (stub_object top) ≡ stub_object top
  stub_without top = ap (λ caps. record (stub_object top) { attr = record (stub_object top).attr { caps = caps } }) (narrowed-no_file_caps d)

  -- an object is the one that was there, without the capabilities
  pub object_at-without : (s : State) (id : Oid) → object_at (state_without d s) id ≡ object_without d (object_at s id)
  unfolding get_or
  object_at-without s id =
      ap (λ w. elim w as (λ _. Object) [ None ↦ stub_object s.top | Some x ↦ x ]) (get-select_each oid_cmp_total oid_cmp_exact each_object s.objects id)
      ∙ elim (map.get s.objects id) as (λ w. (elim (option_map (each_object id) w) as (λ _. Object) [ None ↦ stub_object s.top | Some x ↦ x ])
      ≡ object_without d (elim w as (λ _. Object) [ None ↦ stub_object s.top | Some x ↦ x ])) [
        | None ↦ sym (stub_without s.top)
        | Some o ↦ refl
      ]

  -- and so is a process
  pub process-without : (s : State) (who : Pid) → map.get (state_without d s).procs who ≡ option_map (process_without d) (map.get s.procs who)
  process-without s who = get-select_each pid_cmp_total pid_cmp_exact each_process s.procs who

  -- ---- changes that set what is without the capabilities
  abbrev pub change_without : Change → Change
  change_without (SetObject id o) = SetObject id (object_without d o)
  change_without (SetProcess who p) = SetProcess who (process_without d p)
  change_without change = change

  abbrev pub changes_without : List Change → List Change
  changes_without [] = []
  changes_without (change ∷ changes) = change_without change ∷ changes_without changes

  apply_change-without : (s : State) (change : Change) → apply_change (state_without d s) (change_without change) ≡ state_without d (apply_change s change)
  apply_change-without s (SetObject id o) =
      ap (λ objects. record (state_without d s) { objects = objects }) (sym (select-insert_each oid_cmp_total oid_cmp_exact each_object s.objects id o))
  apply_change-without s (SetProcess who p) =
      ap (λ procs. record (state_without d s) { procs = procs }) (sym (select-insert_each pid_cmp_total pid_cmp_exact each_process s.procs who p))
  apply_change-without s (DropProcess who) =
      ap (λ procs. record (state_without d s) { procs = procs }) (sym (select-remove_each pid_cmp_total pid_cmp_exact each_process s.procs who))
  apply_change-without s change = refl

  pub apply_changes-without : (changes : List Change) (s : State)
      → apply_changes (state_without d s) (changes_without changes) ≡ state_without d (apply_changes s changes)
  apply_changes-without [] s = refl
  apply_changes-without (change ∷ changes) s =
      ap (λ t. apply_changes t (changes_without changes)) (apply_change-without s change) ∙ apply_changes-without changes (apply_change s change)

  pub changes_without-append : (xs ys : List Change) → changes_without (xs ++ ys) ≡ changes_without xs ++ changes_without ys
  changes_without-append [] ys = refl
  changes_without-append (x ∷ xs) ys = ap (λ cs. change_without x ∷ cs) (changes_without-append xs ys)

  pub changes_without-flat_map : {X : Type 0} (f : X → List Change) (xs : List X) → changes_without (flat_map f xs) ≡ flat_map (λ x. changes_without (f x)) xs
  changes_without-flat_map f [] = refl
  changes_without-flat_map f (x ∷ xs) = changes_without-append (f x) (flat_map f xs) ∙ ap (λ cs. changes_without (f x) ++ cs) (changes_without-flat_map f xs)

-- an object of a valid state has a mode
pub modes_are : (s : State) → IsValid s → (id : Oid) → is_mode (object_at s id).attr.mode ≡ true
modes_are s valid id =
    elim (map.get s.objects id) as (λ w. map.get s.objects id ≡ w → is_mode (object_at s id).attr.mode ≡ true) [
      | None ↦ λ none. ap (λ (o : Object). is_mode o.attr.mode) (get_or-absent s.objects id (stub_object s.top) none)
      | Some o ↦ λ is. ap (λ (x : Object). is_mode x.attr.mode) (get_or-found s.objects id (stub_object s.top) o is) ∙ (valid.objects id o is).mode
    ] refl
