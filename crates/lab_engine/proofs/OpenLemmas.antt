-- An input that was opened.
use Rattle.std.proofs.Common.{◌≡◌, ℕ, ◌+◌, ◌≤◌, true, List, [], ◌++◌, length, refl, sym, ◌∙◌, ap, subst, arith}
use Rattle.std.proofs.KnownBytes.{Consumes-nil}
use Rattle.std.specs.Prelude.{Option, Some, Result, Ok, Err, IsErrAnd}
use Rattle.io_ends.specs.LinesState.{LinesState, may_take}
use Rattle.kern_model.specs.declared.limits.TheConstants.{MAX_INPUT}
use Rattle.world_text.specs.declared.expecting.Expecting.TheVariants as at
use Rattle.world_text.specs.declared.format.Format.{Format}
use Rattle.world_text.specs.declared.world.WorldText.{WorldText}
use Rattle.lab_engine.specs.declared.ending.Fault.{Fault}
use Rattle.lab_engine.specs.declared.ending.Fault.TheVariants.{Read, NoMemory}
use Rattle.lab_engine.specs.declared.ending.InputEnd.{InputEnd}
use Rattle.lab_engine.specs.declared.opening.Opened.{Opened}
use Rattle.lab_engine.specs.declared.opening.Opened.TheVariants as opened
use Rattle.lab_engine.specs.declared.reading.ReadWorld.{ReadWorld}
use Rattle.lab_engine.specs.declared.reading.ReadWorld.TheVariants as world
use Rattle.lab_engine.specs.Counts.{Counts, CountsOnce, counted_by}
use Rattle.lab_engine.specs.Input.{Begun, Input, begun_in, input_from, input_in}
use Rattle.lab_engine.specs.LeastInput.{least_by, least_in}
use Rattle.lab_engine.specs.UpgradeInput.{upgrade_in, upgrade_by}
use Rattle.lab_engine.specs.Opening.{OpensInput}
use Rattle.lab_engine.specs.Reading.{ReadsWorld, Takes, begun_at, least_at, left_of, lines_at, script_at, script_left, upgrade_at}
use Rattle.lab_engine.proofs.WorldProgress.{counts_once}

-- there is no memory for a reader
pub opens_nothing : (due : Format) (r : Result Opened Fault) (left : Option (List ℕ)) → IsErrAnd r (λ q. q ≡ NoMemory) → OpensInput due r left left
opens_nothing due (Ok x) left is = absurd is
opens_nothing due (Err fault) left is = record { taken = []; took = Consumes-nil left; few = omega arith; shows = λ read. let no : NoMemory ≡ Read = sym is ∙ read in absurd (cc) }

pub memory_counts_none : {T : Type 0} (r : Result T Fault) → IsErrAnd r (λ q. q ≡ NoMemory) → (c : Counts) → CountsOnce r c c
unfolding counted_by
memory_counts_none r is c = counts_once r NoMemory is c c c refl refl

module _ (due : Format) (lines0 : LinesState) (starts : lines0 ≡ record { line = []; held = []; room = MAX_INPUT; number = 0; more = true }) (lines : LinesState) (left left' : Option (List ℕ)) where
  -- before the first line all of the input is left
  begun_starts : (text : List ℕ) → begun_in due text ≡ begun_at (at.Format due) lines0 text
  unfolding begun_in begun_at
  begun_starts text = sym (ap (λ (s : LinesState). begun_at (at.Format due) s text) starts)

  input_starts : (text : List ℕ) (b : Begun) → begun_at (at.Format due) lines0 text ≡ b → input_in due text ≡ input_from b
  unfolding input_in
  input_starts text b is = ap input_from (begun_starts text ∙ is)

  kept_starts : (text : List ℕ) (b : Begun) → begun_at (at.Format due) lines0 text ≡ b → upgrade_in due text ≡ upgrade_by b
  unfolding upgrade_in
  kept_starts text b is = ap upgrade_by (begun_starts text ∙ is)

  least_starts : (text : List ℕ) (b : Begun) → begun_at (at.Format due) lines0 text ≡ b → least_in due text ≡ least_by b
  unfolding least_in
  least_starts text b is = ap least_by (begun_starts text ∙ is)

  -- a world was accepted, and its script is left
  input_left : (w : WorldText) (more : List ℕ) → input_from (script_left w lines more) ≡ record { accepted = Some w; script = script_at w.policy lines more }
  unfolding script_left lines_at
  input_left w more = refl

  kept_left : (w : WorldText) (more : List ℕ) → upgrade_by (script_left w lines more) ≡ record { accepted = Some w; script = upgrade_at w.policy lines more }
  unfolding script_left lines_at
  kept_left w more = refl

  least_left : (w : WorldText) (more : List ℕ) → least_by (script_left w lines more) ≡ record { accepted = Some w; script = least_at w.policy lines more }
  unfolding script_left lines_at
  least_left w more = refl

  taken_within : (taken : List ℕ) → Takes lines0 lines left left' taken → length taken + may_take lines ≡ MAX_INPUT + 1
  taken_within taken takes = let most : may_take lines0 ≡ MAX_INPUT + 1 = ap may_take starts in omega (arith, takes.within, most)

  few_taken : (taken : List ℕ) → Takes lines0 lines left left' taken → length taken ≤ MAX_INPUT + 1
  few_taken taken takes = omega (arith, taken_within taken takes)

  -- the world was not read to its end
  pub opening_fails : (r : Result Opened Fault) (fault : Fault) → IsErrAnd r (λ q. q ≡ fault) → ReadsWorld due (Err fault) lines0 lines left left' → OpensInput due r left left'
  opening_fails (Ok x) fault is reads = absurd is
  opening_fails (Err q) fault is reads = record {
    taken = reads.taken;
    took = reads.takes.took;
    few = few_taken reads.taken reads.takes;
    shows = λ read. ap (λ (i : Input). i.accepted) (input_starts reads.taken _ refl) ∙ reads.shows (sym is ∙ read);
  }

  module _ (x : ReadWorld) (reads : ReadsWorld due (Ok x) lines0 lines left left') where
    pub opens_world : (w : WorldText) → x ≡ world.World w → OpensInput due (Ok (opened.World (record { read = w; lines = lines }))) left left'
    opens_world w is =
        let accepted = subst (λ (k : ReadWorld). ReadsWorld due (Ok k) lines0 lines left left') is reads in
        let most : lines0.room ≡ MAX_INPUT = ap (λ (s : LinesState). s.room) starts in
        record {
          taken = accepted.taken;
          took = accepted.takes.took;
          few = few_taken accepted.taken accepted.takes;
          shows = record {
            begun = λ more. begun_starts (accepted.taken ++ more) ∙ accepted.shows.says more;
            says = λ more. input_starts (accepted.taken ++ more) _ (accepted.shows.says more) ∙ input_left w more;
            keeps = λ more. kept_starts (accepted.taken ++ more) _ (accepted.shows.says more) ∙ kept_left w more;
            least = λ more. least_starts (accepted.taken ++ more) _ (accepted.shows.says more) ∙ least_left w more;
            more = accepted.shows.more;
            small = omega (arith, accepted.shows.fewer, most);
            within = taken_within accepted.taken accepted.takes;
          };
        }

    pub opens_end : (ending : InputEnd) → x ≡ world.Ended ending → OpensInput due (Ok (opened.Ended ending)) left left'
    opens_end ending is =
        let ended = subst (λ (k : ReadWorld). ReadsWorld due (Ok k) lines0 lines left left') is reads in
        record {
          taken = ended.taken;
          took = ended.takes.took;
          few = few_taken ended.taken ended.takes;
          shows = record {
            says = input_starts (ended.taken ++ left_of left') _ ended.shows.says;
            keeps = kept_starts (ended.taken ++ left_of left') _ ended.shows.says;
            least = least_starts (ended.taken ++ left_of left') _ ended.shows.says;
            to_the_end = ended.shows.to_the_end;
          };
        }
