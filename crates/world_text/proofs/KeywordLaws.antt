-- A word without quotes is found to be the keyword that it is, and no other.
use Rattle.std.specs.Prelude.{◌≡◌, false, Option, Some, refl}
use Rattle.std.proofs.Common.{ap, ◌∙◌}
use Rattle.fs_path.specs.declared.words.LineWord.{LineWord}
use Rattle.kern_model.specs.Named.{find_named}
use Rattle.kern_model.proofs.NamedLaws.{found_by}
use Rattle.world_text.specs.declared.keyword.Keyword.{Keyword}
use Rattle.world_text.specs.declared.keyword.Keyword.TheVariants as key
use Rattle.world_text.specs.Keywords.{keyword_word, all_keywords, keyword_named, IsKeywordOf}
use Rattle.world_text.specs.Written.{bare}

keyword_round_trip : (k : Keyword) → keyword_named (keyword_word k) ≡ Some k
unfolding find_named
keyword_round_trip key.Dir = refl
keyword_round_trip _ = refl

pub keyword_found : (w : LineWord) (found : Option Keyword) → w.quoted ≡ false → found ≡ keyword_named w.bytes → IsKeywordOf w found
keyword_found w found plain is k =
    let by_bytes = found_by keyword_word all_keywords w.bytes found keyword_round_trip is k in
    let is_bare : w ≡ bare w.bytes = λ i. record { quoted = plain i; bytes = w.bytes } in
    (λ h. is_bare ∙ ap bare (by_bytes.0 h), λ same. by_bytes.1 (ap (λ (w : LineWord). w.bytes) same))
