-- Words and what they name: what is found has the word, and each call, check and error number is found by its word.
use Rattle.std.specs.Prelude.{◌≡◌, ◌↔◌, ℕ, Bool, true, false, ◌==◌, cond, List, [], ◌∷◌, Option, Some, refl}
use Rattle.std.specs.Cmp.Lexicographic.{pointwise, same_text}
use Rattle.std.specs.List.{find}
use Rattle.std.proofs.Common.{ap, sym, subst, ◌∙◌}
use Rattle.kern_model.specs.declared.calls.CallName.{CallName}
use Rattle.kern_model.specs.declared.calls.CallName.TheVariants as name
use Rattle.kern_model.specs.declared.calls.Errno.{Errno}
use Rattle.kern_model.specs.declared.calls.Errno.TheVariants as errno
use Rattle.kern_model.specs.declared.checks.CheckName.{CheckName}
use Rattle.kern_model.specs.declared.checks.CheckName.TheVariants as check
use Rattle.kern_model.specs.Names.{word_of, check_word, errno_word}
use Rattle.kern_model.specs.Named.{find_named, IsFoundBy, call_named, check_named, errno_named}

-- what is found has the word
pub named_is : {X : Type 0} (word_of : X → List ℕ) (values : List X) (word : List ℕ) (x : X) → find_named word_of values word ≡ Some x → word ≡ word_of x
unfolding find_named
named_is {X} word_of values word x h = by_values values h
  where
    by_test : (b : Bool) (v : X) (vs : List X) → pointwise ◌==◌ word (word_of v) ≡ b → (find (λ y. pointwise ◌==◌ word (word_of y)) vs ≡ Some x → word ≡ word_of x)
        → cond b (Some v) (find (λ y. pointwise ◌==◌ word (word_of y)) vs) ≡ Some x → word ≡ word_of x
    by_test true v vs e later h = let here : v ≡ x = cc in same_text word (word_of v) (sym e) ∙ ap word_of here
    by_test false v vs e later h = later h

    by_values : (vs : List X) → find (λ y. pointwise ◌==◌ word (word_of y)) vs ≡ Some x → word ≡ word_of x
    by_values [] h = absurd (cc)
    by_values (v ∷ vs) h = by_test (pointwise ◌==◌ word (word_of v)) v vs refl (by_values vs) h

-- where each value is found by its word, it is found by no other
pub found_by : {X : Type 0} (word_of : X → List ℕ) (values : List X) (word : List ℕ) (found : Option X) → ((x : X) → find_named word_of values (word_of x) ≡ Some x) → found ≡ find_named word_of values word → IsFoundBy word_of word found
found_by {X} word_of values word found round_trip is x =
    subst (λ (o : Option X). (o ≡ Some x) ↔ (word ≡ word_of x)) (sym is)
    (λ h. named_is word_of values word x h, λ same. ap (find_named word_of values) same ∙ round_trip x)

-- each call is found by its word
pub call_round_trip : (c : CallName) → call_named (word_of c) ≡ Some c
unfolding find_named
call_round_trip name.OpenPath = refl
call_round_trip _ = refl

-- each check is found by its word
pub check_round_trip : (c : CheckName) → check_named (check_word c) ≡ Some c
unfolding find_named
check_round_trip check.MacRead = refl
check_round_trip _ = refl

-- each error number is found by its word
pub errno_round_trip : (e : Errno) → errno_named (errno_word e) ≡ Some e
unfolding find_named
errno_round_trip errno.EACCES = refl
errno_round_trip _ = refl
