-- A file's capabilities are read back from the state that shows them.
use Rattle.std.proofs.Common.{◌≡◌, Bool, true, false, refl, ap, sym, ◌∙◌, Option, Some, None}
use Rattle.std.specs.Prelude.{if◌then◌else◌, is_some, unwrap_or}
use Rattle.std.proofs.lemmas.Option.{same_Some}
use Rattle.lab_lattice.specs.Label.{Label}
use Rattle.cap_bits.specs.declared.file_caps.FileCaps.{FileCaps}
use Rattle.cap_bits.specs.declared.state.CapState.{CapState}
use Rattle.cap_bits.specs.FileCaps.{caps_by, file_caps_of, is_uniform, no_file_caps, shown}
use Rattle.cap_bits.specs.State.{no_flags}
use Rattle.cap_bits.proofs.RoundTrips.{file_caps_of-shown, some_of_uniform, uniform-shown}
use Rattle.kern_model.specs.declared.objects.Body.{Body}
use Rattle.world_text.specs.declared.expecting.PartialWorld.{PartialWorld}
use Rattle.world_text.specs.declared.tree.ObjectFields.{ObjectFields}
use Rattle.world_text.specs.Placing.{object_fault}
use Rattle.world_text.specs.TreeLines.{object_of, parse_object, parse_tree}
use Rattle.world_text.specs.Values.{both, with_value}
use Rattle.world_text.specs.declared.values.WordValue.{WordValue}
use Rattle.world_text.specs.declared.values.WordValue.TheVariants as value

-- the state that shows a file's capabilities gives them back
pub caps_by-shown : (f : FileCaps) → caps_by (shown f) ≡ f
caps_by-shown f = same_Some _ _ (sym (some_of_uniform (shown f) (uniform-shown f)) ∙ file_caps_of-shown f)

-- a state without flags gives a file nothing
pub none_by : caps_by no_flags ≡ no_file_caps
none_by = caps_by-shown no_file_caps

-- ---- a tree line, from the values of its words

-- an object that is refused for its state is refused alike with any capabilities
object_read : (w : PartialWorld) (f : ObjectFields) (label : Label) (s : CapState) (b : Body) (found : Option FileCaps) → found ≡ file_caps_of s
    → parse_object w (object_of f label (unwrap_or found no_file_caps) b) (is_some found) ≡ parse_object w (object_of f label (caps_by s) b) (is_uniform s)
unfolding file_caps_of object_fault
object_read w f label s b found e = ap (λ (found : Option FileCaps). parse_object w (object_of f label (unwrap_or found no_file_caps) b) (is_some found)) e ∙ by_test (is_uniform s)
  where
    by_test : (uniform : Bool) → parse_object w (object_of f label (unwrap_or (if uniform then Some (caps_by s) else None) no_file_caps) b) (is_some (if uniform then Some (caps_by s) else None))
        ≡ parse_object w (object_of f label (caps_by s) b) uniform
    by_test true = refl
    by_test false = refl

-- what comes of an object is what its line says
pub tree_read : (w : PartialWorld) (form : Option ObjectFields) (caps : WordValue CapState) (b : Body) (f : ObjectFields) (label : Label) (s : CapState) (found : Option FileCaps)
    → form ≡ Some f → both f.label caps ≡ value.Known (label, s) → found ≡ file_caps_of s
    → parse_object w (object_of f label (unwrap_or found no_file_caps) b) (is_some found) ≡ parse_tree w form caps b
tree_read w form caps b f label s found formed known e =
    object_read w f label s b found e ∙ sym (ap (λ (v : WordValue (Label × CapState)). with_value v (λ x. parse_object w (object_of f x.0 (caps_by x.1) b) (is_uniform x.1))) known)
    ∙ sym (ap (λ (form : Option ObjectFields). parse_tree w form caps b) formed)
