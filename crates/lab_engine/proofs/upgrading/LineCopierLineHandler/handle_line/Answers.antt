use Rattle.lab_engine.specs.Input.{script_line}
use Rattle.lab_engine.proofs.CopyLemmas.{copied_piece, stopped_piece}
use Rattle.lab_engine.proofs.upgrading.LineCopierLineHandler.handle_line.Goals as goal

pub returns-in_err-answer-clause-handled : goal.returns-in_err-answer-clause-handled
returns-in_err-answer-clause-handled g c = stopped_piece _ _ _ c.from_residual.ensures.1 (script_line c.args.lines.now.line c.args.line.now) _ (c.ended_line.ensures c.requires.held.0 c.requires.held.1) _ _ c.in_err-answer.ensures

pub returns-clause-handled : goal.returns-clause-handled
returns-clause-handled g c = copied_piece (script_line c.args.lines.now.line c.args.line.now) _ (c.ended_line.ensures c.requires.held.0 c.requires.held.1) _ _ c.in_ok-answer.ensures
