-- The terms of a selection's text.
use Rattle.std.specs.Prelude.{◌≡◌, ℕ, true, List, ◌∷◌, Option, None, Some, refl, is_some}
use Rattle.std.proofs.Common.{ap, ◌∙◌}
use Rattle.std.specs.Option.{option_and_then, option_or}
use Rattle.fs_path.specs.Split.{pieces, pieces_of_rest}
use Rattle.lab_lattice.specs.Label.{Label}
use Rattle.lab_text.specs.Policy.{PolicyNames}
use Rattle.lab_text.specs.Text.{LabelWords, label_of, label_words, is_label_text, parse_label, unknown_in}
use Rattle.lab_text.specs.declared.text.LabelError.{LabelError}
use Rattle.aud_red.specs.Select.{value_of, value_in}
use Rattle.aud_red.specs.declared.term.TermKind.{TermKind}

-- ---- the value of the term of a kind

-- the value that is sought is in the rest of a text, where the first piece is no term of the kind
pub value_after : (kind : TermKind) (all : List (List ℕ)) (left : Option (List ℕ)) (text term : List ℕ) (more : Option (List ℕ)) → value_in kind all ≡ value_in kind (pieces_of_rest 59 left) → left ≡ Some text
    → pieces 59 text ≡ term ∷ pieces_of_rest 59 more → value_of kind term ≡ None → value_in kind all ≡ value_in kind (pieces_of_rest 59 more)
value_after kind all left text term more so_far some first none =
    so_far ∙ ap (λ (l : Option (List ℕ)). value_in kind (pieces_of_rest 59 l)) some ∙ ap (value_in kind) first ∙ ap (λ (v : Option (List ℕ)). option_or v (value_in kind (pieces_of_rest 59 more))) none

-- it is the value of the first piece, where that is a term of the kind
pub value_here : (kind : TermKind) (all : List (List ℕ)) (left : Option (List ℕ)) (text term value : List ℕ) (more : Option (List ℕ)) → value_in kind all ≡ value_in kind (pieces_of_rest 59 left) → left ≡ Some text
    → pieces 59 text ≡ term ∷ pieces_of_rest 59 more → value_of kind term ≡ Some value → value_in kind all ≡ Some value
value_here kind all left text term value more so_far some first found =
    so_far ∙ ap (λ (l : Option (List ℕ)). value_in kind (pieces_of_rest 59 l)) some ∙ ap (value_in kind) first ∙ ap (λ (v : Option (List ℕ)). option_or v (value_in kind (pieces_of_rest 59 more))) found

-- there is none, where no text is left
pub value_missing : (kind : TermKind) (all : List (List ℕ)) (left : Option (List ℕ)) → value_in kind all ≡ value_in kind (pieces_of_rest 59 left) → left ≡ None → value_in kind all ≡ None
value_missing kind all left so_far none = so_far ∙ ap (λ (l : Option (List ℕ)). value_in kind (pieces_of_rest 59 l)) none

-- ---- the form of a label

from_some : {X : Type 0} (f : LabelWords → Option X) (words : Option LabelWords) (x : X) → option_and_then f words ≡ Some x → is_some words ≡ true
from_some f None x h = absurd (cc)
from_some f (Some w) x h = refl

-- a text that denotes a label has the form of a label's
pub form_of_label : (p : PolicyNames) (text : List ℕ) (label : Label) → parse_label p text ≡ Some label → is_label_text text ≡ true
unfolding parse_label
form_of_label p text label h = from_some (label_of p) (label_words text) label h

-- and so does one with an unknown name
pub form_of_unknown : (p : PolicyNames) (text : List ℕ) (e : LabelError) → option_and_then (unknown_in p text) (label_words text) ≡ Some e → is_label_text text ≡ true
form_of_unknown p text e h = from_some (unknown_in p text) (label_words text) e h
