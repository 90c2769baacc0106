-- A turn by one step more.
use Rattle.std.specs.Prelude.{◌≡◌, ℕ, ◌+◌, ◌-◌, ◌<◌, suc, List, Option, Some, None, cond, slice_get}
use Rattle.std.proofs.Common.{arith, ap, sym, ◌∙◌}
use Rattle.kern_model.specs.declared.calls.Call.{Call}
use Rattle.script_text.specs.declared.step.ProgStep.{ProgStep}
use Rattle.script_text.specs.declared.step.ProgStep.TheVariants as step
use Rattle.script_text.specs.declared.step.When.{When}
use Rattle.sched_progs.specs.declared.last_reply.LastReply.{LastReply}
use Rattle.sched_progs.specs.Programs.{is_taken, max_jumps, move_by, move_from, stays_at}

module _ (steps : List ProgStep) (last : LastReply) (at i : ℕ) (some_left : i < max_jumps) where
  by_one : (s : Option ProgStep) → slice_get steps at ≡ s → move_from steps last (max_jumps - i) at ≡ move_by s at last (move_from steps last (max_jumps - (i + 1)))
  unfolding move_from
  by_one s is =
      let left : max_jumps - i ≡ suc (max_jumps - (i + 1)) = omega (arith, some_left) in
      ap (λ n. move_from steps last n at) left ∙ ap (λ s. move_by s at last (move_from steps last (max_jumps - (i + 1)))) is

  -- a jump leads on
  pub by_jump : (w : When) (to : ℕ) → slice_get steps at ≡ Some (step.Jump w to) → move_from steps last (max_jumps - i) at ≡ move_from steps last (max_jumps - (i + 1)) (cond (is_taken w last) to (at + 1))
  by_jump w to is = by_one (Some (step.Jump w to)) is

  -- a call is made
  pub by_call : (c : Call) → slice_get steps at ≡ Some (step.Do c) → move_from steps last (max_jumps - i) at ≡ record { place = at + 1; call = Some c }
  by_call c is = by_one (Some (step.Do c)) is

  pub by_stop : slice_get steps at ≡ Some step.Stop → move_from steps last (max_jumps - i) at ≡ stays_at at
  by_stop is = by_one (Some step.Stop) is

  pub by_end : slice_get steps at ≡ None → move_from steps last (max_jumps - i) at ≡ stays_at at
  by_end is = by_one None is

-- after all jump steps the turn is over
pub by_last : (steps : List ProgStep) (last : LastReply) (at i : ℕ) → i ≡ max_jumps → stays_at at ≡ move_from steps last (max_jumps - i) at
unfolding move_from
by_last steps last at i all = ap (λ n. move_from steps last (max_jumps - n) at) (sym all)
