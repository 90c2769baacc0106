use Rattle.script_text.proofs.ToolLemmas.{path_refused, path_taken, paths_read}
use Rattle.script_text.proofs.tool.paths_of.Goals as goal

pub returns-in_err-path : goal.returns-in_err-path
returns-in_err-path c =
    path_refused c.args.words.now c.loop-word.word-index c.word-item.result c.loop-word-test.true c.word-item.is c.loop-word.paths c.loop-word.invariant c.in_err-path.field-0.0 c.from_residual.result
    c.in_err-path.ensures c.from_residual.ensures.1

pub loop-word-preserved : goal.loop-word-preserved
loop-word-preserved c =
    path_taken c.args.words.now c.loop-word.word-index c.word-item.result c.loop-word-test.true c.word-item.is c.loop-word.paths c.loop-word.invariant c.in_ok-path.field-0 c.push.new.self
    c.in_ok-path.ensures c.in_ok-push.ensures.ok

pub returns : goal.returns
returns c = paths_read c.args.words.now c.loop-word.word-index c.loop-word.paths c.loop-word-test.false c.loop-word.invariant
