-- A file's capabilities and the states by which they are set and shown give each other back.
use Rattle.std.proofs.Common.{◌≡◌, Bool, true, false, refl, ap, sym, ◌∙◌, inl, inr}
use Rattle.std.specs.Prelude.{not, ◌&&◌, ◌||◌, if◌then◌else◌, Option, Some, None}
use Rattle.std.proofs.lemmas.Bool.{cases_Bool, cond-false, cond-true, or_right}
use Rattle.std.proofs.lemmas.Bool.Decides.{Decides-and, Decides-like}
use Rattle.std.proofs.lemmas.Option.{same_Some}
use Rattle.std.specs.Bool.{Decides}
use mathlib.Core.HLevel.{Σ_prop_path}
use denote.Struct.Props.{props}
use Rattle.cap_bits.specs.declared.file_caps.FileCaps.{FileCaps}
use Rattle.cap_bits.specs.declared.state.CapState.{CapState}
use Rattle.cap_bits.specs.CapSet.{CapSet, no_caps, union_of, same_sets, is_empty}
use Rattle.cap_bits.specs.FileCaps.{caps_by, is_uniform, file_caps_of, no_file_caps, shown}
use Rattle.cap_bits.specs.Laws.{same_caps, same_sets-decides}
use Rattle.cap_bits.proofs.CapSets.{has-no_caps, has-union_of}

-- the sets and the flag of a file, as they come
abbrev Parts : Type 0
Parts = CapSet × CapSet × Bool

abbrev FlagOff : Parts → Type 0
FlagOff t = is_empty (union_of t.0 t.1) ≡ true → t.2 ≡ false

-- files with the same sets and the same flag have the same capabilities
pub same_file_caps : (f g : FileCaps) → f.p ≡ g.p → f.i ≡ g.i → f.eff ≡ g.eff → f ≡ g
same_file_caps f g p i eff =
    let one : (t : Parts) → IsProp (FlagOff t) = λ t. Prim.hlevel props in
    let both : ◌≡◌ {A = (t : Parts) × FlagOff t} ((f.p, f.i, f.eff), f.flag_off) ((g.p, g.i, g.eff), g.flag_off) = Σ_prop_path one (λ j. (p j, i j, eff j)) in
    λ j. record { p = (both j).0.0; i = (both j).0.1; eff = (both j).0.2; flag_off = (both j).1 }

pub empty_is : (s : CapSet) → is_empty s ≡ true → s ≡ no_caps
empty_is s = (same_sets-decides s no_caps).0

none_together : is_empty (union_of no_caps no_caps) ≡ true
none_together = (same_sets-decides _ _).1 (same_caps _ _ (λ q. has-union_of no_caps no_caps q ∙ ap (λ b. b || b) (has-no_caps q) ∙ sym (has-no_caps q)))

-- a file with two empty sets has no capability, and its flag is off
pub none_decides : (f : FileCaps) → Decides (is_empty f.p && is_empty f.i) (f ≡ no_file_caps)
none_decides f =
    Decides-like _
    (λ h. same_file_caps f no_file_caps h.0 h.1 (f.flag_off (ap (λ (s : CapSet × CapSet). is_empty (union_of s.0 s.1)) (λ j. (h.0 j, h.1 j)) ∙ none_together)))
    (λ h. (ap (λ (g : FileCaps). g.p) h, ap (λ (g : FileCaps). g.i) h))
    (Decides-and _ _ (same_sets-decides f.p no_caps) (same_sets-decides f.i no_caps))

pub no_caps_empty : is_empty no_caps ≡ true
no_caps_empty = (same_sets-decides no_caps no_caps).1 refl

same_is : (a : CapSet) → same_sets a a ≡ true
same_is a = (same_sets-decides a a).1 refl

-- a flag that is off on a condition is on against it alone
off_already : (raised empty : Bool) → (empty ≡ true → raised ≡ false) → (raised && not empty) ≡ raised
off_already true true h = sym (h refl)
off_already true false h = refl
off_already false empty h = refl

-- on a state that a file can have, the flag is off where nothing is permitted or inheritable: over plain variables
off_of_uniform : (e u : CapSet) → (is_empty e || same_sets e u) ≡ true → is_empty u ≡ true → not (is_empty e) ≡ false
off_of_uniform e u h none = elim (cases_Bool (is_empty e)) [
  | inl empty ↦ ap not empty
  | inr full ↦ absurd (
      let same : same_sets e u ≡ true = sym (ap (λ b. b || same_sets e u) full) ∙ h in
      let gone : is_empty e ≡ true = ap is_empty ((same_sets-decides e u).0 same) ∙ none in
      cc
      )
]

-- in a state that a file can have, the flag is off where nothing is permitted or inheritable
pub flag_of_uniform : (s : CapState) → is_uniform s ≡ true → is_empty (union_of s.p s.i) ≡ true → not (is_empty s.e) ≡ false
unfolding is_uniform
flag_of_uniform s = off_of_uniform s.e (union_of s.p s.i)

-- a file has something by a state that it can have, and nothing by another
pub some_of_uniform : (s : CapState) → is_uniform s ≡ true → file_caps_of s ≡ Some (caps_by s)
unfolding file_caps_of
some_of_uniform s h = cond-true _ _ _ h

pub none_of_mixed : (s : CapState) → is_uniform s ≡ false → file_caps_of s ≡ None
unfolding file_caps_of
none_of_mixed s h = cond-false _ _ _ h

-- what a file has by a state that it can have
pub file_caps_by : (s : CapState) (f : FileCaps) → is_uniform s ≡ true → f.p ≡ s.p → f.i ≡ s.i → f.eff ≡ not (is_empty s.e) → Some f ≡ file_caps_of s
file_caps_by s f h p i eff =
    let flag : f.eff ≡ (not (is_empty s.e) && not (is_empty (union_of s.p s.i))) = eff ∙ sym (off_already _ _ (flag_of_uniform s h)) in
    ap Some (same_file_caps f (caps_by s) p i flag) ∙ sym (some_of_uniform s h)

-- the effective set is the union where anything is effective, and else empty
effective_of : (e u : CapSet) → (is_empty e || same_sets e u) ≡ true → (if not (is_empty e) then u else no_caps) ≡ e
effective_of e u h = elim (cases_Bool (is_empty e)) [
  | inl empty ↦ ap (λ b. if not b then u else no_caps) empty ∙ sym (empty_is e empty)
  | inr full ↦
      let same : same_sets e u ≡ true = sym (ap (λ b. b || same_sets e u) full) ∙ h in
      ap (λ b. if not b then u else no_caps) full ∙ sym ((same_sets-decides e u).0 same)
]

-- a state that a file can have is that of its two sets and its flag
pub state_of_flag : (s : CapState) (eff : Bool) → is_uniform s ≡ true → eff ≡ not (is_empty s.e) → ◌≡◌ {A = CapState} (record { e = if eff then union_of s.p s.i else no_caps; i = s.i; p = s.p }) s
unfolding is_uniform
state_of_flag s eff h flag =
    let effective : (if eff then union_of s.p s.i else no_caps) ≡ s.e = ap (λ b. if b then union_of s.p s.i else no_caps) flag ∙ effective_of s.e (union_of s.p s.i) h in
    λ j. record s { e = effective j }

effective_uniform : (b : Bool) (u : CapSet) → (is_empty (if b then u else no_caps) || same_sets (if b then u else no_caps) u) ≡ true
effective_uniform true u = ap (λ b. is_empty u || b) (same_is u) ∙ or_right (is_empty u) true refl
effective_uniform false u = ap (λ b. b || same_sets no_caps u) no_caps_empty

-- a file can have the state by which its capabilities are shown
pub uniform-shown : (f : FileCaps) → is_uniform (shown f) ≡ true
unfolding is_uniform
uniform-shown f = effective_uniform f.eff (union_of f.p f.i)

flag_back : (b : Bool) (u : CapSet) → (is_empty u ≡ true → b ≡ false) → b ≡ not (is_empty (if b then u else no_caps))
flag_back true u off = elim (cases_Bool (is_empty u)) [ inl empty ↦ absurd (let no : true ≡ false = off empty in cc) | inr full ↦ sym (ap not full) ]
flag_back false u off = sym (ap not no_caps_empty)

-- a file's flag is on where its capabilities are shown with something effective
pub flag-shown : (f : FileCaps) → f.eff ≡ not (is_empty (shown f).e)
flag-shown f = flag_back f.eff (union_of f.p f.i) f.flag_off

-- by the state that shows what a file has, a file has just that
pub file_caps_of-shown : (f : FileCaps) → file_caps_of (shown f) ≡ Some f
file_caps_of-shown f = sym (file_caps_by (shown f) f (uniform-shown f) refl refl (flag-shown f))

-- a state that a file can have is the one that shows what a file has by it
pub shown-file_caps_of : (s : CapState) (f : FileCaps) → file_caps_of s ≡ Some f → (is_uniform s ≡ true) × (shown f ≡ s)
shown-file_caps_of s f h = elim (cases_Bool (is_uniform s)) [
  | inl uniform ↦
      let kept : f ≡ caps_by s = same_Some f (caps_by s) (sym h ∙ some_of_uniform s uniform) in
      (uniform, ap shown kept ∙ state_of_flag s _ uniform (off_already _ _ (flag_of_uniform s uniform)))
  | inr mixed ↦ absurd (let none : ◌≡◌ {A = Option FileCaps} None (Some f) = sym (none_of_mixed s mixed) ∙ h in cc)
]
