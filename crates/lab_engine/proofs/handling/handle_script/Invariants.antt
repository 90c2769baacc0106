use Rattle.lab_text.specs.Policy.{top_of}
use Rattle.lab_engine.specs.Judging.{judge_of}
use Rattle.lab_engine.proofs.ScriptSteps.{HandledSoFar}
use Rattle.lab_engine.proofs.handling.handle_script.Given as goal

abbrev pub invariant-loop-line : goal.invariant-loop-line
invariant-loop-line g l = record {
  handled : HandledSoFar g.H.LineHandler.handles (judge_of l.rules.judge) l.rules.texts.policy.now l.initial.lines l.lines (g.S.Source.view l.initial.source) (g.S.Source.view l.source) (l.initial.handler, l.initial.on) (l.handler, l.on) l.count;
  ready : g.H.LineHandler.ready l.handler l.on l.count (top_of l.rules.texts.policy.now);
  same : g.H.LineHandler.same_borrows l.initial.handler l.handler;
}

abbrev pub decreases-loop-line : goal.decreases-loop-line
decreases-loop-line g l = l.lines.room
