use Rattle.std.proofs.Common.{sym}
use Rattle.script_text.proofs.StepLemmas.{label_refused, label_taken, labels_read}
use Rattle.script_text.proofs.step_line.labels_of.Goals as goal

pub returns-in_err-label : goal.returns-in_err-label
returns-in_err-label c =
    label_refused c.args.policy.now c.args.words.now c.loop-word.word-index c.word-item.result c.loop-word-test.true c.word-item.is c.loop-word.labels c.loop-word.invariant c.in_err-label.field-0.0 c.from_residual.result
    (sym c.in_err-label.ensures) c.from_residual.ensures.1

pub loop-word-preserved : goal.loop-word-preserved
loop-word-preserved c =
    label_taken c.args.policy.now c.args.words.now c.loop-word.word-index c.word-item.result c.loop-word-test.true c.word-item.is c.loop-word.labels c.loop-word.invariant c.in_ok-label.field-0 c.push.new.self
    (sym c.in_ok-label.ensures) c.in_ok-push.ensures.ok

pub returns : goal.returns
returns c = labels_read c.args.policy.now c.args.words.now c.loop-word.word-index c.loop-word.labels c.loop-word-test.false c.loop-word.invariant
