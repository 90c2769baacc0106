-- Sets without some capabilities.
use Rattle.std.specs.Prelude.{◌≡◌, ◌&&◌, ◌||◌, not, if◌then◌else◌, Bool, true, false, cond, refl}
use Rattle.std.proofs.Common.{sym, ◌∙◌, ap}
use Rattle.std.proofs.lemmas.Bool.{and_parts, and_from, true≢false}
use Rattle.cap_bits.specs.CapSet.{CapSet, has, is_empty, is_within, meet_of, minus_of, no_caps, union_of}
use Rattle.cap_bits.specs.FileCaps.{no_file_caps, shown}
use Rattle.cap_bits.specs.declared.file_caps.FileCaps.{FileCaps}
use Rattle.cap_bits.specs.declared.state.CapState.{CapState}
use Rattle.cap_bits.specs.Laws.{has-within, same_caps, within-has}
use Rattle.cap_bits.proofs.CapSets.{has-meet_of, has-minus_of, has-no_caps, has-union_of}
use Rattle.cap_bits.proofs.RoundTrips.{empty_is, no_caps_empty, same_file_caps}
use Rattle.kern_model.specs.Exec.{exec_caps, exec_permitted}
use Rattle.least_caps.specs.Narrowed.{caps_narrowed, file_narrowed}

module _ (d : CapSet) where
  pub minus-no_caps : minus_of no_caps d ≡ no_caps
  minus-no_caps = same_caps _ _ (λ c. has-minus_of no_caps d c ∙ ap (λ b. b && not (has d c)) (has-no_caps c) ∙ sym (has-no_caps c))

  -- what is within another set stays within it
  pub minus-within : (a b : CapSet) → is_within a b ≡ true → is_within (minus_of a d) (minus_of b d) ≡ true
  minus-within a b within = has-within _ _ (λ c h.
      let parts = and_parts (has a c) (not (has d c)) (sym (has-minus_of a d c) ∙ h) in
      has-minus_of b d c ∙ and_from _ _ (within-has a b within c parts.0) parts.1)

  -- a file without capabilities stays one
  pub narrowed-no_file_caps : file_narrowed d no_file_caps ≡ no_file_caps
  narrowed-no_file_caps = same_file_caps _ _ minus-no_caps minus-no_caps refl

  -- ---- unions and meets without the capabilities
  union_bits : (a b t : Bool) → ((a || b) && not t) ≡ ((a && not t) || (b && not t))
  union_bits true true true = refl
  union_bits true false true = refl
  union_bits true b false = refl
  union_bits false b t = refl

  meet_bits : (a b t : Bool) → ((a && b) && not t) ≡ ((a && not t) && (b && not t))
  meet_bits true b false = refl
  meet_bits true true true = refl
  meet_bits true false true = refl
  meet_bits false b t = refl

  pub minus-union : (a b : CapSet) → minus_of (union_of a b) d ≡ union_of (minus_of a d) (minus_of b d)
  minus-union a b = same_caps _ _ (λ c.
      has-minus_of (union_of a b) d c ∙ ap (λ h. h && not (has d c)) (has-union_of a b c) ∙ union_bits (has a c) (has b c) (has d c)
      ∙ sym (has-union_of (minus_of a d) (minus_of b d) c ∙ (λ i. has-minus_of a d c i || has-minus_of b d c i)))

  pub minus-meet : (a b : CapSet) → minus_of (meet_of a b) d ≡ meet_of (minus_of a d) (minus_of b d)
  minus-meet a b = same_caps _ _ (λ c.
      has-minus_of (meet_of a b) d c ∙ ap (λ h. h && not (has d c)) (has-meet_of a b c) ∙ meet_bits (has a c) (has b c) (has d c)
      ∙ sym (has-meet_of (minus_of a d) (minus_of b d) c ∙ (λ i. has-minus_of a d c i && has-minus_of b d c i)))

  -- where nothing is left of a set, nothing is left of what is within it
  none_left : (a b : CapSet) → is_within a b ≡ true → minus_of b d ≡ no_caps → minus_of a d ≡ no_caps
  none_left a b within none = same_caps _ _ (λ c.
      elim (has (minus_of a d) c) as (λ h. has (minus_of a d) c ≡ h → has (minus_of a d) c ≡ has no_caps c) [
        | true ↦ λ h. absurd (true≢false (sym (within-has _ _ (minus-within a b within) c h) ∙ ap (λ s. has s c) none ∙ has-no_caps c))
        | false ↦ λ h. h ∙ sym (has-no_caps c)
      ] refl)

  -- ---- the sets that a file shows, and those that a program gives
  shown_effective : (eff : Bool) (u v : CapSet) → v ≡ minus_of u d → (if eff && not (is_empty v) then v else no_caps) ≡ minus_of (if eff then u else no_caps) d
  shown_effective false u v same = sym minus-no_caps
  shown_effective true u v same = elim (is_empty v) as (λ b. is_empty v ≡ b → (if not b then v else no_caps) ≡ minus_of u d) [
    | true ↦ λ none. sym (empty_is v none) ∙ same
    | false ↦ λ _. same
  ] refl

  pub shown-narrowed : (f : FileCaps) → shown (file_narrowed d f) ≡ caps_narrowed d (shown f)
  shown-narrowed f =
      let e = shown_effective f.eff (union_of f.p f.i) (union_of (minus_of f.p d) (minus_of f.i d)) (sym (minus-union f.p f.i)) in
      λ j. record { e = e j; i = minus_of f.i d; p = minus_of f.p d }

  permitted-narrowed : (old : CapState) (file : CapState) (bound : CapSet)
      → exec_permitted (caps_narrowed d old) (caps_narrowed d file) (minus_of bound d) ≡ minus_of (exec_permitted old file bound) d
  permitted-narrowed old file bound =
      sym (minus-union (meet_of file.p bound) (meet_of file.i old.i) ∙ (λ j. union_of (minus-meet file.p bound j) (minus-meet file.i old.i j)))

  permitted_bits : (a x b c : Bool) → ((a && x) || (b && c)) ≡ true → (a || b) ≡ true
  permitted_bits true x b c h = refl
  permitted_bits false x true c h = refl
  permitted_bits false x false c h = absurd (true≢false (sym h))

  -- what a file permits or inherits is all that its program gives
  permitted-within : (old : CapState) (file : CapState) (bound : CapSet) → is_within (exec_permitted old file bound) (union_of file.p file.i) ≡ true
  permitted-within old file bound = has-within _ _ (λ c h.
      has-union_of file.p file.i c
      ∙ permitted_bits (has file.p c) (has bound c) (has file.i c) (has old.i c)
      (sym (has-union_of (meet_of file.p bound) (meet_of file.i old.i) c ∙ (λ j. has-meet_of file.p bound c j || has-meet_of file.i old.i c j)) ∙ h))

  effective_by : (e p : CapSet) → (is_empty e ≡ false → minus_of e d ≡ no_caps → minus_of p d ≡ no_caps)
      → cond (is_empty (minus_of e d)) no_caps (minus_of p d) ≡ minus_of (cond (is_empty e) no_caps p) d
  effective_by e p left =
      elim (is_empty (minus_of e d)) as (λ b. is_empty (minus_of e d) ≡ b → cond b no_caps (minus_of p d) ≡ minus_of (cond (is_empty e) no_caps p) d) [
        | true ↦ λ none.
            elim (is_empty e) as
            (λ b. is_empty e ≡ b → no_caps ≡ minus_of (cond b no_caps p) d) [
              | true ↦ λ _. sym minus-no_caps
              | false ↦ λ some. sym (left some (empty_is (minus_of e d) none))
            ] refl
        | false ↦ λ some.
            elim (is_empty e) as (λ b. is_empty e ≡ b → minus_of p d ≡ minus_of (cond b no_caps p) d) [
              | true ↦ λ none. absurd (true≢false (sym (ap is_empty (ap (λ s. minus_of s d) (empty_is e none) ∙ minus-no_caps) ∙ no_caps_empty) ∙ some))
              | false ↦ λ _. refl
            ] refl
      ] refl

  effective_left : (eff : Bool) (u p : CapSet) → is_within p u ≡ true → is_empty (if eff then u else no_caps) ≡ false
      → minus_of (if eff then u else no_caps) d ≡ no_caps → minus_of p d ≡ no_caps
  effective_left true u p within some none = none_left p u within none
  effective_left false u p within some none = absurd (true≢false (sym no_caps_empty ∙ some))

  -- the sets after a program are those that it gave, without the capabilities
  pub exec-narrowed : (old : CapState) (f : FileCaps) (bound : CapSet)
      → exec_caps (caps_narrowed d old) (shown (file_narrowed d f)) (minus_of bound d) ≡ caps_narrowed d (exec_caps old (shown f) bound)
  exec-narrowed old f bound =
      let file : CapState = shown f in
      let permitted : CapSet = exec_permitted old file bound in
      let same_permitted = permitted-narrowed old file bound in
      let same_effective = effective_by file.e permitted (effective_left f.eff (union_of f.p f.i) permitted (permitted-within old file bound)) in
      ap (λ (g : CapState). exec_caps (caps_narrowed d old) g (minus_of bound d)) (shown-narrowed f)
      ∙ (λ j. record { e = cond (is_empty (minus_of file.e d)) no_caps (same_permitted j); i = minus_of old.i d; p = same_permitted j })
      ∙ (λ j. record { e = same_effective j; i = minus_of old.i d; p = minus_of permitted d })
