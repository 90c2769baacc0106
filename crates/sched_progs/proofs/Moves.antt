-- The call that a turn comes to is one of the program's.
use Rattle.std.specs.Prelude.{◌≡◌, ℕ, zero, suc, ◌+◌, Bool, true, cond, List, [], ◌∷◌, Option, Some, None, slice_get}
use Rattle.std.specs.List.{list_all}
use Rattle.std.proofs.lemmas.Bool.{and_parts}
use Rattle.kern_model.specs.declared.calls.Call.{Call}
use Rattle.script_text.specs.declared.step.ProgStep.{ProgStep}
use Rattle.script_text.specs.declared.step.ProgStep.TheVariants as step
use Rattle.sched_progs.specs.declared.last_reply.LastReply.{LastReply}
use Rattle.sched_progs.specs.Programs.{Move, Progress, call_passes, is_taken, move, move_by, move_from, max_jumps}

-- a call passes a test, if there is one
abbrev pub Passes : (Call → Bool) → Option Call → Type 0
Passes test None = Unit {0}
Passes test (Some c) = test c ≡ true

module _ (test : Call → Bool) where
  -- so does the call of a step, if there is one
  abbrev StepPasses : Option ProgStep → Type 0
  StepPasses None = Unit {0}
  StepPasses (Some s) = call_passes test s ≡ true

  step_passes : (steps : List ProgStep) (place : ℕ) → list_all (call_passes test) steps ≡ true → StepPasses (slice_get steps place)
  step_passes [] place all = tt
  step_passes (s ∷ steps) zero all = (and_parts (call_passes test s) (list_all (call_passes test) steps) all).0
  step_passes (s ∷ steps) (suc place) all = step_passes steps place (and_parts (call_passes test s) (list_all (call_passes test) steps) all).1

  by_step : (s : Option ProgStep) (place : ℕ) (last : LastReply) (jump : ℕ → Move) → StepPasses s → ((n : ℕ) → Passes test (jump n).call)
      → Passes test (move_by s place last jump).call
  by_step None place last jump passes jumps = tt
  by_step (Some step.Stop) place last jump passes jumps = tt
  by_step (Some (step.Do c)) place last jump passes jumps = passes
  by_step (Some (step.Jump w to)) place last jump passes jumps = jumps (cond (is_taken w last) to (place + 1))

  from_place : (steps : List ProgStep) (last : LastReply) → list_all (call_passes test) steps ≡ true → (jumps place : ℕ)
      → Passes test (move_from steps last jumps place).call
  unfolding move_from
  from_place steps last all zero place = tt
  from_place steps last all (suc jumps) place =
      by_step (slice_get steps place) place last (move_from steps last jumps) (step_passes steps place all) (from_place steps last all jumps)

  pub move_passes : (p : Progress) → list_all (call_passes test) p.steps ≡ true → Passes test (move p).call
  move_passes p all = from_place p.steps p.last all max_jumps p.place
