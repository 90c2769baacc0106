-- Inputs of programs: what the bytes of one are, and that its programs may be played.
use Rattle.std.proofs.Common.{◌≡◌, ℕ, Bool, List, refl, sym, ap, subst}
use Rattle.std.specs.Prelude.{None, Some, true}
use Rattle.io_ends.specs.LinesState.{LinesState}
use Rattle.kern_model.specs.Boot.{boot}
use Rattle.kern_model.specs.World.{IsWorld}
use Rattle.lab_lattice.specs.Label.{Label, bottom}
use Rattle.lab_text.specs.Policy.{PolicyNames, MakePolicy, top_of}
use Rattle.world_text.specs.declared.format.Format.TheVariants.{Two}
use Rattle.lab_engine.specs.declared.ending.InputEnd.{InputEnd}
use Rattle.lab_engine.specs.declared.ending.InputEnd.TheVariants.{Whole}
use Rattle.lab_engine.specs.Input.{Accepted, Begun, HasWorld, Input, NoWorld, begun_in, input_from, input_in, input_of, no_world}
use Rattle.lab_engine.specs.Reading.{script_left}
use Rattle.sched_engine.specs.declared.reading.ReadSchedule.{ReadSchedule}
use Rattle.sched_engine.specs.declared.reading.ReadSchedule.TheVariants as read_is
use Rattle.sched_engine.specs.declared.schedule.Expecting.TheVariants as at
use Rattle.sched_engine.specs.declared.schedule.Schedule.{Schedule}
use Rattle.sched_engine.specs.Reading.{schedule_at, schedule_from, schedule_left}
use Rattle.sched_engine.specs.Schedule.{MayBePlayed}
use Rattle.sched_engine.proofs.TextLemmas.{schedule_not_whole, schedule_plays}
use Rattle.sched_progs.specs.Laws.{IsLoop}
use Rattle.sched_progs.specs.Programs.{are_programs}
use Rattle.sched_progs.proofs.Laws.{loop_of_world}
use Rattle.labsys.specs.Scheduling.{HasSchedule, NoSchedule, chosen, programs_by, programs_of, with_schedule}
use Rattle.labsys.proofs.AcceptedLemmas.{IsPlayable, accepted_input}
use Rattle.labsys.proofs.ChosenLemmas.{chosen_plays}

-- ---- what bytes are

-- an input without a world is no input of programs
pub no_programs : (text : List ℕ) (e : InputEnd) → input_of text ≡ no_world e → programs_of text ≡ NoSchedule e
unfolding programs_of input_in
no_programs text e = by_begun (begun_in Two text)
  where
    by_begun : (b : Begun) → input_from b ≡ no_world e → programs_by b ≡ NoSchedule e
    by_begun (HasWorld w over n lines) is = let no : Some w ≡ None = ap (λ (i : Input). i.accepted) is in absurd (cc)
    by_begun (NoWorld ending) is = ap (λ (i : Input). NoSchedule i.script.ending) is

-- a world that was accepted, and the schedule at a reader
pub programs_left : (text : List ℕ) (w : Accepted) (lines : LinesState) (more : List ℕ) → begun_in Two text ≡ script_left w lines more → programs_of text ≡ with_schedule w (schedule_at w.policy lines more)
unfolding programs_of script_left schedule_left
programs_left text w lines more is = ap programs_by is

-- an input that ends without a schedule does not end whole
pub left_not_whole : (policy : PolicyNames) (lines : LinesState) (more : List ℕ) (ending : InputEnd) → read_is.Ended ending ≡ schedule_at policy lines more → ending ≡ Whole → ⊥
unfolding schedule_left
left_not_whole policy lines more ending is all = schedule_not_whole policy ending all _ _ at.Slices _ (sym is)

-- ---- what may be played

-- the programs of a schedule may be played on a world, and so may the script that they choose
pub record IsSchedulable (a : Accepted) (s : Schedule) : Type 0 where
  pub loop : (l : Label) → IsLoop l (boot a.world) s.programs
  pub playable : IsPlayable a (chosen a s)

schedulable : (a : Accepted) (s : Schedule) → IsWorld a.world → a.world.top ≡ top_of a.policy → MakePolicy a.policy → MayBePlayed (top_of a.policy) s → IsSchedulable a s
schedulable a s world top policy may =
    let loop : (l : Label) → IsLoop l (boot a.world) s.programs = λ l. loop_of_world l a.world s.programs world (subst (λ (t : Label). are_programs t s.programs ≡ true) (sym top) may.programs) may.names in
    record { loop = loop; playable = record { world = world; top = top; policy = policy; script = chosen_plays a s (loop bottom) } }

has_world : (text : List ℕ) (w : Accepted) (over : Bool) (n : ℕ) (lines : List (List ℕ)) → begun_in Two text ≡ HasWorld w over n lines → (input_of text).accepted ≡ Some w
unfolding input_in
has_world text w over n lines is = ap (λ (b : Begun). (input_from b).accepted) is

module _ (text : List ℕ) (a : Accepted) (s : Schedule) where
  of_found : (w : Accepted) → (input_of text).accepted ≡ Some w → (over : Bool) (n : ℕ) (lines : List (List ℕ)) (r : ReadSchedule) → schedule_from over w.policy n at.Slices lines ≡ r → with_schedule w r ≡ HasSchedule a s → IsSchedulable a s
  of_found w accepted over n lines (read_is.Ended ending) found is = absurd (cc)
  of_found w accepted over n lines (read_is.Schedule x) found is =
      let same_world : w ≡ a = cc in
      let same : x ≡ s = cc in
      let playable = accepted_input text w accepted in
      let it : IsSchedulable w x = schedulable w x playable.world playable.top playable.policy (schedule_plays w.policy x over n at.Slices lines tt found) in
      subst (λ (v : Accepted). IsSchedulable v s) same_world (subst (λ (y : Schedule). IsSchedulable w y) same it)

  of_begun : (b : Begun) → begun_in Two text ≡ b → programs_by b ≡ HasSchedule a s → IsSchedulable a s
  of_begun (NoWorld ending) begun is = absurd (cc)
  of_begun (HasWorld w over n lines) begun is = of_found w (has_world text w over n lines begun) over n lines (schedule_from over w.policy n at.Slices lines) refl is

  -- the programs of an input may be played
  pub accepted_programs : programs_of text ≡ HasSchedule a s → IsSchedulable a s
  unfolding programs_of
  accepted_programs is = of_begun (begun_in Two text) refl is
