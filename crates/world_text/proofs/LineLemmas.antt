-- What lines of names and of labels are parsed as.
use Rattle.std.proofs.Common.{◌≡◌, ℕ, Bool, true, false, not, List, [], refl, sym, ◌∙◌, ap, Option, Some, None}
use Rattle.std.specs.Prelude.{◌∷◌, ◌++◌, option_and_then, is_some}
use Rattle.std.proofs.lemmas.Bool.{cond-true}
use Rattle.lab_lattice.specs.Label.{Label}
use Rattle.lab_text.specs.Policy.{PolicyNames}
use Rattle.lab_text.specs.Text.{LabelWords, label_words, is_label_text, label_of as label_of_words, parse_label}
use Rattle.kern_model.specs.declared.world.WorldObject.{WorldObject}
use Rattle.kern_model.specs.declared.world.WorldProc.{WorldProc}
use Rattle.line_text.specs.declared.fault.LineFault.{LineFault}
use Rattle.line_text.specs.declared.fault.LineFault.TheVariants.{MixedCaps}
use Rattle.world_text.specs.declared.expecting.Expecting.TheVariants as at
use Rattle.world_text.specs.declared.expecting.Parsed.{Parsed}
use Rattle.world_text.specs.declared.expecting.Parsed.TheVariants.{Refuses, GoesOn}
use Rattle.world_text.specs.declared.expecting.PartialWorld.{PartialWorld}
use Rattle.world_text.specs.declared.values.WordValue.TheVariants as value
use Rattle.world_text.specs.Values.{unless, refuse_or, label_value, label_of}
use Rattle.world_text.specs.TreeLines.{parse_object}
use Rattle.world_text.specs.Processes.{parse_process}
use Rattle.world_text.specs.Placing.{object_fault, process_fault}

-- ---- labels

-- a text that denotes a label has a label's form
parsed_form : (p : PolicyNames) (text : List ℕ) (label : Label) → parse_label p text ≡ Some label → is_label_text text ≡ true
unfolding parse_label
parsed_form p text label e = by_words (label_words text) e
  where
    by_words : (w : Option LabelWords) → option_and_then (label_of_words p) w ≡ Some label → is_some w ≡ true
    by_words None e = absurd (cc)
    by_words (Some w) e = refl

pub label_known : (p : PolicyNames) (text : List ℕ) (label : Label) → parse_label p text ≡ Some label → value.Known label ≡ label_of p text
label_known p text label e = sym (cond-true _ _ _ (parsed_form p text label e) ∙ ap label_value e)

-- ---- an object or a process, with a fault and without one

-- what comes of an object, by its fault and by whether its capabilities are uniform
abbrev object_parsed : PartialWorld → WorldObject → Option LineFault → Bool → Parsed
object_parsed w o fault uniform = refuse_or fault (unless (not uniform) MixedCaps (GoesOn (at.Tree (record w { builder = record w.builder { objects = w.builder.objects ++ o ∷ [] } }))))

pub object_refused : (w : PartialWorld) (o : WorldObject) (uniform : Bool) (fault : LineFault) → Some fault ≡ object_fault w.builder o → Refuses fault ≡ parse_object w o uniform
object_refused w o uniform fault e = ap (λ f. object_parsed w o f uniform) e

pub object_mixed : (w : PartialWorld) (o : WorldObject) (uniform : Bool) → None ≡ object_fault w.builder o → uniform ≡ false → Refuses MixedCaps ≡ parse_object w o uniform
object_mixed w o uniform e mixed = λ i. object_parsed w o (e i) (sym mixed i)

pub process_refused : (w : PartialWorld) (p : WorldProc) (fault : LineFault) → Some fault ≡ process_fault w.builder p → Refuses fault ≡ parse_process w p
process_refused w p fault e = ap (λ f. refuse_or f (GoesOn (at.Tree (record w { builder = record w.builder { procs = w.builder.procs ++ p ∷ [] } })))) e
