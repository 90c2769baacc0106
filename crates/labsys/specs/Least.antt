-- What is written of an input whose capabilities are narrowed to those that its script needs.
use Rattle.std.specs.Prelude.{◌≡◌, ◌≤◌, ℕ, List, [], ◌∷◌, ◌++◌, length, Option, Some, None, codes}
use Rattle.cap_bits.specs.CapSet.{CapSet, minus_of}
use Rattle.cap_clause.specs.Written.{set_text}
use Rattle.fs_path.specs.Split.{pieces}
use Rattle.fs_path.specs.Words.{line_text}
use Rattle.kern_model.specs.Boot.{boot}
use Rattle.kern_model.specs.Run.{run}
use Rattle.kern_model.specs.declared.limits.TheConstants.{MAX_INPUT}
use Rattle.kern_model.specs.declared.world.ScriptItem.{ScriptItem}
use Rattle.kern_model.specs.declared.world.World.{World}
use Rattle.least_caps.specs.Laws.{replies}
use Rattle.least_caps.specs.Narrowed.{narrowed}
use Rattle.least_caps.specs.Stands.{stands}
use Rattle.world_text.specs.declared.format.Format.TheVariants.{Two}
use Rattle.world_text.specs.CanBeRead.{HasShortLines}
use Rattle.world_text.specs.Reading.{Accepted as AcceptedWorld, read_text}
use Rattle.world_text.specs.Written.{text_of_world}
use Rattle.lab_engine.specs.declared.ending.InputEnd.{InputEnd}
use Rattle.lab_engine.specs.declared.ending.InputEnd.TheVariants.{Whole, Refused, RefusedWord, TooMuch}
use Rattle.lab_engine.specs.Input.{Accepted, Script, Input, input_of, script}
use Rattle.lab_engine.specs.Least.{named_by}
use Rattle.lab_engine.specs.Order.{Sent, to_out}
use Rattle.lab_engine.specs.Texts.{last_text}
use Rattle.lab_engine.specs.Upgrading.{ReadsBack}

-- the line of the capabilities that were not needed: `# never needed SET`
unfoldable pub unneeded_text : CapSet → List ℕ
unneeded_text caps = line_text (codes "# never needed" ∷ set_text caps ∷ []) ++ 10 ∷ []

-- the capabilities that stand in a world and are not among these
abbrev pub unneeded : World → CapSet → CapSet
unneeded w needed = minus_of (stands w) needed

-- a world that is narrowed to these capabilities
abbrev pub least_world : Accepted → CapSet → Accepted
least_world a needed = record a { world = narrowed (unneeded a.world needed) a.world }

-- the text of a world that is narrowed to these capabilities, after the line of the others
abbrev pub least_text : Accepted → CapSet → List ℕ
least_text a needed = unneeded_text (unneeded a.world needed) ++ text_of_world (least_world a needed)

-- what is written of a world, of the capabilities that its script needs and of how the input ends: where a line is
-- refused or there is too much, that alone
abbrev pub needs_text : Accepted → CapSet → InputEnd → List ℕ
needs_text a needed Whole = least_text a needed
needs_text a needed (Refused n part why) = last_text 0 (Refused n part why)
needs_text a needed (RefusedWord word why) = last_text 0 (RefusedWord word why)
needs_text a needed TooMuch = last_text 0 TooMuch

-- the capabilities that exercises name in the run of a script on a world
abbrev pub needed_by : Accepted → Script → CapSet
needed_by a script = named_by (run (boot a.world) script.items)

-- what is written of an input by its world and its script; without a world it is the last line alone
abbrev pub text_of_least : Option Accepted → Script → List ℕ
text_of_least None script = last_text 0 script.ending
text_of_least (Some a) script = needs_text a (needed_by a script) script.ending

-- the order of an input whose capabilities are narrowed
abbrev pub order_of_least : Input → List Sent
order_of_least i = to_out (text_of_least i.accepted i.script)

-- where an input has a world and ends whole, the text of the narrowed world is read as that world
abbrev pub NarrowedReadsBack : Input → InputEnd → Type 0
NarrowedReadsBack i ending =
    ending ≡ Whole → (a : Accepted) → i.accepted ≡ Some a → ReadsBack (least_world a (needed_by a i.script))

-- an input was narrowed: the output is the line of the capabilities that its script did not need, and the text of its
-- world without them; where neither a line of that text nor the output with the script is too long, the output and all
-- that stands behind the line `script` are the narrowed world with the same script, and the call table gives the same
-- replies
pub record NarrowedTo (text out : List ℕ) : Type 0 where
  pub world : Accepted
  pub items : List ScriptItem
  pub number : ℕ
  pub head : List ℕ
  pub behind : List ℕ
  pub text_is : text ≡ head ++ behind
  pub reads : read_text Two text ≡ AcceptedWorld world number (pieces 10 behind)
  pub input_is : input_of text ≡ record { accepted = Some world; script = script items Whole }
  pub out_is : out ≡ least_text world (needed_by world (script items Whole))
  pub same : HasShortLines (least_world world (needed_by world (script items Whole)))
      → length (out ++ behind) ≤ MAX_INPUT
      → input_of (out ++ behind) ≡ record
      { accepted = Some (least_world world (needed_by world (script items Whole))); script = script items Whole }
  pub same_replies : replies (boot (least_world world (needed_by world (script items Whole))).world) items
      ≡ replies (boot world.world) items
