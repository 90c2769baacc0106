-- What lies under an object lies under an entry on the way down from it that is still due.
use Rattle.std.specs.Prelude.{◌≡◌, ◌||◌, ◌==◌, ◌<◌, ◌-◌, ℕ, zero, suc, true, false, ◌⊎◌, List, [], ◌∷◌, ◌++◌, Some, None, Result, Ok, Err, OnOk, cond, is_ok, length, slice_get, refl}
use Rattle.std.specs.Ordering.{is_eq}
use Rattle.std.specs.Cmp.{eq_by_cmp_equiv}
use Rattle.std.specs.List.{find, flat_map}
use Rattle.std.specs.Option.{option_map}
use Rattle.std.specs.FinMap as map
use Rattle.std.proofs.Common.{ap, sym, ◌∙◌, subst, arith, inl, inr}
use Rattle.std.proofs.lemmas.Bool.{true≢false, and_parts, cases_lt, or_right}
use Rattle.std.proofs.lemmas.Bool.Decides.{nat_tests}
use Rattle.std.proofs.lemmas.Cmp.{tied_itself}
use Rattle.std.proofs.lemmas.Option.{slice_get_within}
use Rattle.kern_model.specs.declared.numbers.Oid.{Oid}
use Rattle.kern_model.specs.Entries.{entry_count, holder, is_so_above, is_under, is_under_within}
use Rattle.kern_model.specs.Keys.{Spot, same_oid}
use Rattle.kern_model.specs.Maps.{count_entries}
use Rattle.kern_model.specs.State.{State}
use Rattle.kern_model.proofs.KeyLaws.{oid_cmp_total, oid_cmp_exact}
use Rattle.kern_model.proofs.MapLemmas.{never_some, same_key, some_same}
use Rattle.fs_dirs.specs.declared.below.Below.{Below}
use Rattle.fs_dirs.specs.declared.below.Due.{Due}
use Rattle.fs_dirs.specs.Below.{IsUnderDue, IsUnderEntry, IsUnderOne, LiesUnder, is_over, with_due}
use Rattle.fs_dirs.specs.Entries.{entries_alone, objects_in}
use Rattle.fs_dirs.proofs.CountLemmas.{count_chosen}
use Rattle.fs_dirs.proofs.SameEntries.{under_within-same}

same_itself : (id : Oid) → same_oid id id ≡ true
same_itself id = ap is_eq (tied_itself oid_cmp_total id)

-- ---- what a directory holds
-- the object to which the first entry leads that passes is among those of its directory
found_at : (dir id : Oid) (es : List (Spot × Oid)) (e : Spot × Oid) → find (λ (e : Spot × Oid). same_oid e.1 id) es ≡ Some e → e.0.0 ≡ dir
    → (k : ℕ) × (slice_get (flat_map (λ (e : Spot × Oid). cond (same_oid e.0.0 dir) (e.1 ∷ []) []) es) k ≡ Some id)
found_at dir id [] e found at = absurd (never_some None e refl found)
found_at dir id (y ∷ es) e found at =
    let rest : List Oid = flat_map (λ (e : Spot × Oid). cond (same_oid e.0.0 dir) (e.1 ∷ []) []) es in
    elim (same_oid y.1 id) as (λ b. same_oid y.1 id ≡ b → cond b (Some y) (find (λ (e : Spot × Oid). same_oid e.1 id) es) ≡ Some e → (k : ℕ) × (slice_get (cond (same_oid y.0.0 dir) (y.1 ∷ []) [] ++ rest) k ≡ Some id)) [
      | true ↦ λ t f.
          let here : same_oid y.0.0 dir ≡ true = subst (λ (d : Oid). same_oid d dir ≡ true) (sym (ap (λ (z : Spot × Oid). z.0.0) (some_same y e f) ∙ at)) (same_itself dir) in
          (0, ap (λ b. slice_get (cond b (y.1 ∷ []) [] ++ rest) 0) here ∙ ap (λ (x : Oid). Some x) (same_key oid_cmp_exact y.1 id t))
      | false ↦ λ _ f.
          let later = found_at dir id es e f at in
          elim (same_oid y.0.0 dir) as (λ b. (k : ℕ) × (slice_get (cond b (y.1 ∷ []) [] ++ rest) k ≡ Some id)) [
            | true ↦ (suc later.0, later.1)
            | false ↦ later
          ]
    ] refl found

module _ (s : State) where
  held_at : (id dir : Oid) → holder s id ≡ Some dir → (k : ℕ) × (slice_get (objects_in s dir) k ≡ Some id)
  unfolding holder objects_in
  held_at id dir held =
      elim (find (λ (e : Spot × Oid). same_oid e.1 id) (map.entries s.entries)) as (λ w. find (λ (e : Spot × Oid). same_oid e.1 id) (map.entries s.entries) ≡ w → option_map (λ (e : Spot × Oid). e.0.0) w ≡ Some dir
      → (k : ℕ) × (slice_get (flat_map (λ (e : Spot × Oid). cond (same_oid e.0.0 dir) (e.1 ∷ []) []) (map.entries s.entries)) k ≡ Some id)) [
        | None ↦ λ _ f. absurd (never_some None dir refl f)
        | Some e ↦ λ found f. found_at dir id (map.entries s.entries) e found (some_same e.0.0 dir f)
      ] refl held

  -- a directory holds as many objects as names stand in it
  pub all_objects : (dir : Oid) → entry_count s dir ≡ length (objects_in s dir)
  unfolding count_entries objects_in
  all_objects dir = count_chosen (λ (e : Spot × Oid). same_oid e.0.0 dir) (λ (e : Spot × Oid). e.1) (map.entries s.entries)

  -- ---- under an object, and under an entry of it
  itself_under : (id : Oid) → LiesUnder s id id
  itself_under id = record { steps = 0; under = same_itself id }

  one_up : (id above top : Oid) → holder s id ≡ Some above → LiesUnder s above top → LiesUnder s id top
  one_up id above top held lies = record {
    steps = suc lies.steps;
    under = or_right (same_oid id top) (is_so_above (λ x. is_under_within s lies.steps x top) (holder s id)) (ap (is_so_above (λ x. is_under_within s lies.steps x top)) held ∙ lies.under);
  }

  -- what lies under another object lies under one to which an entry of that leads
  under_entry : (steps : ℕ) (id top : Oid) → is_under_within s steps id top ≡ true → same_oid id top ≡ false → (count : ℕ) → count ≡ length (objects_in s top) → (0 < count) × IsUnderEntry s (record { dir = top; place = count - 1 }) id
  under_entry zero id top under other count all = absurd (true≢false (sym under ∙ other))
  under_entry (suc steps) id top under other count all =
      elim (holder s id) as (λ w. holder s id ≡ w → is_so_above (λ x. is_under_within s steps x top) w ≡ true → (0 < count) × IsUnderEntry s (record { dir = top; place = count - 1 }) id) [
        | None ↦ λ _ no. absurd (true≢false (sym no))
        | Some above ↦ λ held rest.
            elim (same_oid above top) as (λ b. same_oid above top ≡ b → (0 < count) × IsUnderEntry s (record { dir = top; place = count - 1 }) id) [
              | true ↦ λ t.
                  let at = held_at id top (held ∙ ap (λ (x : Oid). Some x) (same_key oid_cmp_exact above top t)) in
                  let within = slice_get_within (objects_in s top) at.0 id at.1 in
                  (omega (arith, within, all), record { place = at.0; child = id; is_due = omega (arith, within, all); is = at.1; under = itself_under id })
              | false ↦ λ f.
                  let next = under_entry steps above top rest f count all in
                  (next.0, record { place = next.1.place; child = next.1.child; is_due = next.1.is_due; is = next.1.is; under = one_up id above next.1.child held next.1.under })
            ] refl
      ] refl (sym (ap (λ b. b || is_so_above (λ x. is_under_within s steps x top) (holder s id)) other) ∙ under)

  -- ---- the entries that are due
  appended : (due : List Due) (last : Due) (id : Oid) → IsUnderOne s due id ⊎ IsUnderEntry s last id → IsUnderOne s (due ++ last ∷ []) id
  appended [] last id (inl none) = absurd none
  appended [] last id (inr lies) = inl lies
  appended (d ∷ due) last id (inl (inl lies)) = inl lies
  appended (d ∷ due) last id (inl (inr lies)) = inr (appended due last id (inl lies))
  appended (d ∷ due) last id (inr lies) = inr (appended due last id (inr lies))

  split : (due : List Due) (last : Due) (id : Oid) → IsUnderOne s (due ++ last ∷ []) id → IsUnderOne s due id ⊎ IsUnderEntry s last id
  split [] last id (inl lies) = inr lies
  split [] last id (inr none) = absurd none
  split (d ∷ due) last id (inl lies) = inl (inl lies)
  split (d ∷ due) last id (inr rest) = elim (split due last id rest) [
    | inl lies ↦ inl (inr lies)
    | inr lies ↦ inr lies
  ]

  -- with entries of a directory due, if any
  entered_some : (due : List Due) (dir : Oid) (count : ℕ) (id : Oid) → IsUnderOne s due id ⊎ ((0 < count) × IsUnderEntry s (record { dir = dir; place = count - 1 }) id) → IsUnderOne s (with_due due dir count) id
  entered_some due dir count id lies =
      elim (count == 0) as (λ b. (count == 0) ≡ b → IsUnderOne s (cond b due (due ++ record { dir = dir; place = count - 1 } ∷ [])) id) [
        | true ↦ λ none. elim lies [
          | inl before ↦ before
          | inr entry ↦ let some = entry.0 in absurd (grind (arith, nat_tests, none, some))
        ]
        | false ↦ λ _. appended due (record { dir = dir; place = count - 1 }) id (elim lies [ inl before ↦ inl before | inr entry ↦ inr entry.1 ])
      ] refl

  -- with all entries of an object due, each one lies under an entry that is due which lies under the object
  pub all_due : (due after : List Due) (top : Oid) (count : ℕ) (id : Oid) → count ≡ entry_count s top → same_oid id top ≡ false → after ≡ with_due due top count → IsUnderOne s due id ⊎ LiesUnder s id top → IsUnderOne s after id
  all_due due after top count id counted other made lies =
      subst (λ (ds : List Due). IsUnderOne s ds id) (sym made) (entered_some due top count id (elim lies [
        | inl before ↦ inl before
        | inr under ↦ inr (under_entry under.steps id top under.under other count (counted ∙ all_objects top))
      ]))

  -- the entry at the last place is looked at: what lies under one that was due lies under one that still is, or under what the entry leads to
  pub looked : (before rest after : List Due) (last : Due) (id : Oid) → before ≡ rest ++ last ∷ [] → after ≡ with_due rest last.dir last.place → IsUnderOne s before id
      → IsUnderOne s after id ⊎ ((child : Oid) × (slice_get (objects_in s last.dir) last.place ≡ Some child) × LiesUnder s id child)
  looked before rest after last id parts made lies =
      let still : (IsUnderOne s rest id ⊎ ((0 < last.place) × IsUnderEntry s (record { dir = last.dir; place = last.place - 1 }) id)) → IsUnderOne s after id =
      λ u. subst (λ (due : List Due). IsUnderOne s due id) (sym made) (entered_some rest last.dir last.place id u) in
      elim (split rest last id (subst (λ (due : List Due). IsUnderOne s due id) parts lies)) [
        | inl other ↦ inl (still (inl other))
        | inr entry ↦
            let low = entry.is_due in
            elim (cases_lt entry.place last.place) [
              | inl earlier ↦ inl (still (inr (omega (arith, earlier), record { place = entry.place; child = entry.child; is_due = omega (arith, earlier); is = entry.is; under = entry.under })))
              | inr at ↦
                  let same : entry.place ≡ last.place = omega (arith, low, at) in
                  inr (entry.child, ap (slice_get (objects_in s last.dir)) (sym same) ∙ entry.is, entry.under)
            ]
      ]

  -- where the entry leads to another object, that one's entries are due from then on
  pub child_due : (due after : List Due) (dir : Oid) (place : ℕ) (child : Oid) (count : ℕ) (id : Oid) → slice_get (objects_in s dir) place ≡ Some child → same_oid child id ≡ false → count ≡ entry_count s child → after ≡ with_due due child count
      → IsUnderOne s due id ⊎ ((x : Oid) × (slice_get (objects_in s dir) place ≡ Some x) × LiesUnder s id x) → IsUnderOne s after id
  child_due due after dir place child count id is other counted made lies =
      all_due due after child count id counted ((eq_by_cmp_equiv oid_cmp_total).symm id child ∙ other) made (elim lies [
        | inl earlier ↦ inl earlier
        | inr x ↦ inr (subst (LiesUnder s id) (some_same x.0 child (sym x.1 ∙ is)) x.2)
      ])

-- what is under a directory lies under it, in the state with its entries alone too
pub under_lies : (s : State) (dir top : Oid) → is_under s dir top ≡ true → LiesUnder (entries_alone s.entries) dir top
unfolding is_under
under_lies s dir top under = record { steps = length (map.entries s.entries); under = sym (under_within-same s (entries_alone s.entries) refl (length (map.entries s.entries)) dir top) ∙ under }

-- an answer is an error, or what holds of no error holds
pub unless_err : {X E P : Type 0} (r : Result X E) → OnOk r P → (is_ok r ≡ false) ⊎ P
unless_err (Ok x) p = inr p
unless_err (Err e) p = inl refl

-- where the way down is over, nothing lies under an entry that is due
pub none_due : (s : State) (below : Below) (id : Oid) → is_over below ≡ true → IsUnderDue s below id → ⊥
none_due s below id over (inl given_up) = true≢false (sym (and_parts _ _ over).0 ∙ given_up)
none_due s below id over (inr lies) = none_left below.due.items (and_parts _ _ over).1 lies
  where
    none_left : (due : List Due) → (length due == 0) ≡ true → IsUnderOne s due id → ⊥
    none_left [] e lies = lies
    none_left (d ∷ due) e lies = let more : (length (d ∷ due) == 0) ≡ false = grind (arith, nat_tests) in true≢false (sym e ∙ more)
