-- The generated input, played and counted.
use Rattle.std.proofs.Common.{◌≡◌, ℕ, ◌≤◌, List, ◌++◌, length, sym, ◌∙◌, ap, subst, append_assoc}
use Rattle.std.proofs.KnownBytes.{Consumes-trans}
use Rattle.std.specs.Prelude.{Option, None, Some, Ok}
use Rattle.std.specs.FinMap as map
use Rattle.gen_world.specs.Text.{gen_text}
use Rattle.gen_world.specs.declared.generator.TheConstants.{MAX_LINES}
use Rattle.kern_model.specs.Boot.{boot}
use Rattle.kern_model.specs.Run.{run, state_after_run}
use Rattle.kern_model.specs.State.{State}
use Rattle.lab_engine.specs.declared.ending.InputEnd.{InputEnd}
use Rattle.lab_engine.specs.declared.opening.Opened.{Opened}
use Rattle.lab_engine.specs.declared.opening.Opened.TheVariants as opened
use Rattle.lab_engine.specs.declared.opening.OpenedWorld.{OpenedWorld}
use Rattle.lab_engine.specs.declared.reporting.Tally.{Tally}
use Rattle.lab_engine.specs.declared.keeping.Kept.{Kept}
use Rattle.lab_engine.specs.declared.reporting.Report.TheVariants.{Counted}
use Rattle.lab_engine.specs.Keeping.{KeepsCalls}
use Rattle.lab_engine.specs.Input.{Accepted, Input, Script, input_of, no_world}
use Rattle.lab_engine.specs.Opening.{OpensInput}
use Rattle.world_text.specs.declared.format.Format.TheVariants.{Two}
use Rattle.lab_engine.specs.Reading.{left_of}
use Rattle.lab_engine.specs.Report.{empty_tally, report_after, tally_in, tally_of}
use Rattle.lab_engine.specs.Session.{session_of}
use Rattle.lab_engine.proofs.GeneratedInput.{generated_is_whole}
use Rattle.lab_engine.proofs.RunReports.{counted_after}
use Rattle.labsys.specs.Drilling.{drill_text, drill_text_of, drilled_text, tally_text}
use Rattle.labsys.specs.Playing.{DrillsWorld}
use Rattle.labsys.proofs.InputLemmas.{text_left}

-- the line of what was counted, where the script was played from the first state on
pub line_is : (n : ℕ) (a : Accepted) (s : State) → s ≡ boot a.world → (s' : State) (m : Script) (none t : Tally) → none ≡ empty_tally → (left : Option (List ℕ)) (k : Kept) → KeepsCalls (Counted none) s s' m left k → t ≡ tally_in k.report → (living : ℕ) → living ≡ length (map.keys s'.procs) → tally_text n t living ≡ drill_text n (session_of a m)
line_is n a s first s' m none t empty left k did counted living is =
    let tally : t ≡ tally_of empty_tally (run s m.items) =
    counted ∙ ap tally_in did.report ∙ ap (λ (u : Tally). tally_in (report_after (Counted u) (run s m.items))) empty ∙ ap tally_in (counted_after empty_tally (run s m.items)) in
    ap (λ k. tally_text n t k) (is ∙ ap (λ (x : State). length (map.keys x.procs)) (did.state ∙ ap (λ (x : State). state_after_run x m.items) first))
    ∙ ap (λ (k : Tally). tally_text n k (length (map.keys (state_after_run (boot a.world) m.items).procs))) (tally ∙ ap (λ (x : State). tally_of empty_tally (run x m.items)) first)

module _ (x : Opened) (left between : Option (List ℕ)) (opens : OpensInput Two (Ok x) left between) (n : ℕ) (is_left : left ≡ Some (gen_text n)) where
  -- the line of the generated input is that of the world that was read from it
  pub drilled : (w : OpenedWorld) → x ≡ opened.World w → (left' : Option (List ℕ)) (text : List ℕ) → DrillsWorld text n w.read w.lines between left' → text ≡ drilled_text n
  drilled w is left' text did =
      let world = subst (λ k. OpensInput Two (Ok k) left between) is opens in
      let rest = did.reads.taken ++ left_of left' in
      let all = Consumes-trans left between left' world.taken did.reads.taken world.took did.reads.took in
      let text_is : gen_text n ≡ world.taken ++ rest = text_left left left' (world.taken ++ did.reads.taken) (gen_text n) is_left all ∙ append_assoc world.taken did.reads.taken (left_of left') in
      did.is_line ∙ sym (ap (λ (i : Input). drill_text_of n i.accepted i.script) (ap input_of text_is ∙ world.shows.says rest))

  -- it does not end before its world does
  pub never_ends : n ≤ MAX_LINES → (ending : InputEnd) → x ≡ opened.Ended ending → ⊥
  never_ends few ending is =
      let ended = subst (λ k. OpensInput Two (Ok k) left between) is opens in
      let none : input_of (gen_text n) ≡ no_world ending = ap input_of (text_left left between ended.taken (gen_text n) is_left ended.took) ∙ ended.shows.says in
      let whole = generated_is_whole n few in
      let no : None ≡ Some whole.world = sym (ap (λ (i : Input). i.accepted) none) ∙ whole.accepted in
      absurd (cc)
