-- A word in any case of its letters names the capability whose name it is in lower case.
use Rattle.std.proofs.Common.{◌≡◌, ℕ, List, [], ◌∷◌, Bool, true, refl, ap, sym, subst, ◌∙◌}
use Rattle.std.specs.Prelude.{◌↔◌, IsTrue, Option, Some}
use Rattle.std.specs.Cmp.Lexicographic.{bytes_decides}
use Rattle.std.specs.Str.{str_to_ascii_lowercase, bytes_eq}
use Rattle.std.proofs.lemmas.Bool.{cond_both}
use Rattle.std.proofs.lemmas.Bool.Decides.{same_from_decides}
use Rattle.std.proofs.lemmas.Option.{same_Some}
use Rattle.cap_bits.specs.declared.cap.Cap.{Cap}
use Rattle.cap_bits.specs.declared.cap.Cap.TheVariants.{Chown, DacExecute, DacReadSearch, DacWrite, Fowner, Fsetid, Kill, LinkDir, Setfcap, Setgid, Setuid, MacDowngrade, MacRead, MacRelabelSubj, MacUpgrade, MacWrite, AuditControl, AuditWrite}
use Rattle.cap_bits.specs.Cap.{cap_name, is_name_of, all_caps, cap_named}
use Rattle.std.specs.List.{find}

-- each name is in lower case
pub lower_name : (cap : Cap) → str_to_ascii_lowercase (cap_name cap) ≡ cap_name cap
lower_name Chown = refl
lower_name DacExecute = refl
lower_name DacReadSearch = refl
lower_name DacWrite = refl
lower_name Fowner = refl
lower_name Fsetid = refl
lower_name Kill = refl
lower_name LinkDir = refl
lower_name Setfcap = refl
lower_name Setgid = refl
lower_name Setuid = refl
lower_name MacDowngrade = refl
lower_name MacRead = refl
lower_name MacRelabelSubj = refl
lower_name MacUpgrade = refl
lower_name MacWrite = refl
lower_name AuditControl = refl
lower_name AuditWrite = refl

-- a comparison of names without regard to case is the test `is_name_of`
pub named : (r : Bool) (cap : Cap) (own word : List ℕ) → own ≡ cap_name cap → (IsTrue r ↔ (str_to_ascii_lowercase own ≡ str_to_ascii_lowercase word)) → r ≡ is_name_of word cap
unfolding is_name_of
named r cap own word e test =
    let lower : str_to_ascii_lowercase own ≡ cap_name cap = ap str_to_ascii_lowercase e ∙ lower_name cap in
    same_from_decides r _ (λ t. sym lower ∙ test.0 t, λ same. test.1 (lower ∙ same)) (bytes_decides (cap_name cap) (str_to_ascii_lowercase word))

first_of_name : (cap : Cap) → find (λ other. bytes_eq (cap_name other) (cap_name cap)) all_caps ≡ Some cap
first_of_name Chown = refl
first_of_name DacExecute = refl
first_of_name DacReadSearch = refl
first_of_name DacWrite = refl
first_of_name Fowner = refl
first_of_name Fsetid = refl
first_of_name Kill = refl
first_of_name LinkDir = refl
first_of_name Setfcap = refl
first_of_name Setgid = refl
first_of_name Setuid = refl
first_of_name MacDowngrade = refl
first_of_name MacRead = refl
first_of_name MacRelabelSubj = refl
first_of_name MacUpgrade = refl
first_of_name MacWrite = refl
first_of_name AuditControl = refl
first_of_name AuditWrite = refl

-- a word names the capability whose name it is in lower case
pub cap_named_by : (word : List ℕ) (cap : Cap) → str_to_ascii_lowercase word ≡ cap_name cap → cap_named word ≡ Some cap
unfolding cap_named is_name_of
cap_named_by word cap e = ap (λ (name : List ℕ). find (λ other. bytes_eq (cap_name other) name) all_caps) e ∙ first_of_name cap

-- what is found passes
find_passes : {X : Type 0} (p : X → Bool) (xs : List X) (x : X) → find p xs ≡ Some x → p x ≡ true
find_passes p [] x h = absurd (cc)
find_passes p (y ∷ ys) x h = cond_both (p y) (Some y) (find p ys) (λ o. o ≡ Some x → p x ≡ true) (λ pass is. ap p (sym (same_Some y x is)) ∙ pass) (λ _ is. find_passes p ys x is) h

-- a word names the capabilities whose name it is in any case of its letters: one or none
pub cap_found_by : (word : List ℕ) (found : Option Cap) → found ≡ cap_named word → (cap : Cap) → (found ≡ Some cap) ↔ IsTrue (is_name_of word cap)
unfolding cap_named is_name_of
cap_found_by word found is cap = subst (λ (o : Option Cap). (o ≡ Some cap) ↔ IsTrue (is_name_of word cap)) (sym is) (
  λ h. find_passes (is_name_of word) all_caps cap h,
  λ named. cap_named_by word cap (sym ((bytes_decides (cap_name cap) (str_to_ascii_lowercase word)).0 named)),
)
