use Rattle.std.proofs.Common.{ap, sym, ◌∙◌, Some}
use Rattle.kern_model.specs.Keys.{pid_cmp}
use Rattle.sched_engine.proofs.ProgramLemmas.{more_owners, program_added, program_refused, then_last, then_none}
use Rattle.sched_engine.proofs.programs.ProgramsSoFar.with_program.Goals as goal
use Rattle.sched_engine.proofs.programs.ProgramsSoFar.with_program.Goals.{in-Some+in_ok-push, in_default}

pub returns-then-not-branch : goal.returns-then-not-branch
unfolding pid_cmp
returns-then-not-branch c = sym (program_refused _ _ _ _ _ c.programs.invariant c.programs.view_is _ c.in_ok-insert.ensures.added c.if-not-branch.true)

pub invariant_of-programs : goal.invariant_of-programs
unfolding pid_cmp
invariant_of-programs c = more_owners _ _ _ _ _ c.programs.invariant c.programs.view_is _ c.new-steps.ensures _ _
    (then_last _ _ _ _ _ c.replace.ensures.value c.in-Some.is c.in_ok-push.ensures.ok) c.replace.ensures.after c.insert.new.self c.in_ok-insert.ensures.updates.0

pub invariant_of-programs-in_default : goal.invariant_of-programs-in_default
unfolding pid_cmp
invariant_of-programs-in_default c = more_owners _ _ _ _ _ c.programs.invariant c.programs.view_is _ c.new-steps.ensures _ _
    (then_none _ _ _ c.replace.ensures.value c.in_default.is) c.replace.ensures.after c.insert.new.self c.in_ok-insert.ensures.updates.0

pub returns : goal.returns
unfolding pid_cmp
returns c = elim c.match-replace.branch [
  | in-Some+in_ok-push w ↦ ap Some w.programs-is ∙ sym (program_added _ _ _ _ _ c.programs.invariant c.programs.view_is _ c.new-steps.ensures _ _
      (then_last _ _ _ _ _ c.replace.ensures.value w.in-Some.is w.in_ok-push.ensures.ok) c.replace.ensures.after _ c.in_ok-insert.ensures.added c.if-not-branch.false)
  | in_default w ↦ ap Some w.programs-is ∙ sym (program_added _ _ _ _ _ c.programs.invariant c.programs.view_is _ c.new-steps.ensures _ _
      (then_none _ _ _ c.replace.ensures.value w.in_default.is) c.replace.ensures.after _ c.in_ok-insert.ensures.added c.if-not-branch.false)
]
