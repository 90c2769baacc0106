use Rattle.std.proofs.Common.{subst, sym}
use Rattle.lab_lattice.specs.Label.{Label}
use Rattle.script_text.specs.Line.{MayBePlayed}
use Rattle.lab_engine.proofs.Progress.{plays_line, ready_again}
use Rattle.lab_engine.proofs.playing.ReporterLineHandler.handle_line.Goals as goal

pub play_line-requires-clause-calls : goal.play_line-requires-clause-calls
play_line-requires-clause-calls g c = subst (λ (top : Label). MayBePlayed top c.args.line.now) (sym c.requires.calls.1.0) c.requires.calls.2

pub play_line-requires-clause-counted : goal.play_line-requires-clause-counted
play_line-requires-clause-counted g c = c.requires.calls.1.1

pub play_line-requires-clause-seen : goal.play_line-requires-clause-seen
play_line-requires-clause-seen g c = c.requires.calls.1.2

pub returns-clause-handled : goal.returns-clause-handled
returns-clause-handled g c = let line = c.play_line.ensures in plays_line _ _ _ _ _ line.same.0 line.writes line.state line.report line.readable c.requires.calls.1.2.1 line.saw

pub returns-clause-ready : goal.returns-clause-ready
returns-clause-ready g c = let line = c.play_line.ensures in ready_again _ _ _ _ _ _ _ _ _ c.args.self.now.stopped.items _ line.state line.report line.saw

pub returns-clause-same : goal.returns-clause-same
returns-clause-same g c = let line = c.play_line.ensures in (line.start, line.same)
