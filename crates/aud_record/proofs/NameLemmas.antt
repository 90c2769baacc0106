-- The names of capabilities in canonical form.
use Rattle.std.specs.Prelude.{◌≡◌, ℕ, Bool, true, false, List, None, Some}
use Rattle.std.specs.Bool.{then_some}
use Rattle.std.specs.Str.{str_to_ascii_lowercase}
use Rattle.std.proofs.Common.{ap, sym, ◌∙◌}
use Rattle.std.proofs.lemmas.Bool.{both_ways}
use Rattle.cap_bits.specs.Cap.{cap_name, cap_named, all_caps}
use Rattle.cap_bits.proofs.Names.{cap_named_by, lower_name}
use Rattle.cap_bits.specs.declared.cap.Cap.{Cap}
use Rattle.lab_text.specs.Names.{same_bytes}
use Rattle.kern_model.specs.Named.{find_named}
use Rattle.kern_model.proofs.NamedLaws.{named_is}
use Rattle.aud_record.proofs.ListedLaws.{cap_round_trip}
use Rattle.aud_record.proofs.Numbers.{same_itself, same_is, none_from}

-- a word in canonical form names the same capability without regard to case
in_any_case : (word : List ℕ) (c : Cap) → find_named cap_name all_caps word ≡ Some c → cap_named word ≡ Some c
in_any_case word c h = cap_named_by word c (let text = named_is cap_name all_caps word c h in ap str_to_ascii_lowercase text ∙ lower_name c)

-- a word that names no capability without regard to case names none in canonical form
pub no_cap : (word : List ℕ) → cap_named word ≡ None → find_named cap_name all_caps word ≡ None
no_cap word none = none_from (find_named cap_name all_caps word) (λ c h. let some = in_any_case word c h in cc)

-- a word that names a capability is in canonical form exactly where it is the name itself
pub one_cap : (word : List ℕ) (c : Cap) (t : Bool) → cap_named word ≡ Some c → t ≡ same_bytes word (cap_name c) → then_some t c ≡ find_named cap_name all_caps word
one_cap word c true some reported = sym (ap (find_named cap_name all_caps) (same_is word (cap_name c) (sym reported)) ∙ cap_round_trip c)
one_cap word c false some reported =
    sym (none_from (find_named cap_name all_caps word) (λ d h.
    let other = in_any_case word d h in
    let equal : d ≡ c = cc in
    both_ways (same_bytes word (cap_name c)) (sym reported) (ap (λ n. same_bytes word n) (ap cap_name (sym equal) ∙ sym (named_is cap_name all_caps word d h)) ∙ same_itself word)))
