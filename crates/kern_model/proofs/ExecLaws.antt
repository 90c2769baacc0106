-- The exec formula as it was where the effective set of a file was one of its own.
use Rattle.std.proofs.Common.{◌≡◌, true, false, refl, ap, sym, ◌∙◌, inl, inr}
use Rattle.std.specs.Prelude.{Bool, ◌&&◌, ◌||◌, cond}
use Rattle.std.proofs.lemmas.Bool.{cases_Bool}
use Rattle.cap_bits.proofs.CapSets.{has-meet_of, has-no_caps, has-union_of}
use Rattle.cap_bits.proofs.RoundTrips.{empty_is}
use Rattle.cap_bits.specs.CapSet.{CapSet, has, is_empty, meet_of, no_caps, same_sets, union_of}
use Rattle.cap_bits.specs.declared.state.CapState.{CapState}
use Rattle.cap_bits.specs.FileCaps.{is_uniform}
use Rattle.cap_bits.specs.Laws.{same_caps, same_sets-decides}
use Rattle.kern_model.specs.Exec.{exec_caps, exec_permitted}

none_met : (a : CapSet) → meet_of no_caps a ≡ no_caps
none_met a = same_caps (meet_of no_caps a) no_caps (λ q. has-meet_of no_caps a q ∙ ap (λ b. b && has a q) (has-no_caps q) ∙ sym (has-no_caps q))

-- what is in a part of each of two sets is in their union
within_union : (fp x fi i : Bool) → ((fp || fi) && (fp && x || fi && i)) ≡ (fp && x || fi && i)
within_union true x fi i = refl
within_union false x true i = refl
within_union false x false i = refl

-- a file's whole union takes nothing from what a process may have by it
union_met : (old file : CapState) (bound : CapSet) → meet_of (union_of file.p file.i) (exec_permitted old file bound) ≡ exec_permitted old file bound
union_met old file bound = same_caps (meet_of (union_of file.p file.i) (exec_permitted old file bound)) (exec_permitted old file bound) (λ q.
    let permitted = has-union_of (meet_of file.p bound) (meet_of file.i old.i) q
    ∙ (λ j. has-meet_of file.p bound q j || has-meet_of file.i old.i q j) in
    has-meet_of (union_of file.p file.i) (exec_permitted old file bound) q
    ∙ (λ j. has-union_of file.p file.i q j && permitted j)
    ∙ within_union (has file.p q) (has bound q) (has file.i q) (has old.i q)
    ∙ sym permitted)

-- over plain variables: the effective set of a file that is empty or the union
by_flag : (old file : CapState) (bound : CapSet) (u : CapSet) → meet_of u (exec_permitted old file bound) ≡ exec_permitted old file bound → (is_empty file.e || same_sets file.e u) ≡ true
    → meet_of file.e (exec_permitted old file bound) ≡ cond (is_empty file.e) no_caps (exec_permitted old file bound)
by_flag old file bound u whole h =
    let given = exec_permitted old file bound in
    elim (cases_Bool (is_empty file.e)) [
      | inl empty ↦ ap (λ e. meet_of e given) (empty_is file.e empty) ∙ none_met given ∙ sym (ap (λ b. cond b no_caps given) empty)
      | inr full ↦
          let same : same_sets file.e u ≡ true = sym (ap (λ b. b || same_sets file.e u) full) ∙ h in
          ap (λ e. meet_of e given) ((same_sets-decides file.e u).0 same) ∙ whole ∙ sym (ap (λ b. cond b no_caps given) full)
    ]

-- For a uniform state of a file, a process has effective what the file's effective set and the new permitted set share.
pub old_exec : (old file : CapState) (bound : CapSet) → is_uniform file ≡ true → meet_of file.e (exec_permitted old file bound) ≡ (exec_caps old file bound).e
unfolding is_uniform
old_exec old file bound h = by_flag old file bound (union_of file.p file.i) (union_met old file bound) h
