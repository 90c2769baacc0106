use Rattle.std.proofs.Common.{refl}
use Rattle.lab_engine.specs.Player.{player_view}
use Rattle.lab_engine.proofs.Progress.{plays_script}
use Rattle.lab_engine.proofs.ScriptSeen.{saw_script}
use Rattle.lab_engine.proofs.playing.play_script.Goals as goal

pub handle_script-requires-clause-ready : goal.handle_script-requires-clause-ready
handle_script-requires-clause-ready g c = (c.requires.top, c.requires.counted, c.requires.seen)

pub returns-clause-plays : goal.returns-clause-plays
returns-clause-plays g c =
    plays_script (player_view g.C.Calls.state g.K.Sink g.T.Sink) (c.args.reporter.now, c.args.kernel.now) _ _ refl _ _ _ _ _ (c.handle_script.new.handler, c.handle_script.new.on) c.handle_script.ensures.handles

pub returns-clause-saw : goal.returns-clause-saw
returns-clause-saw g c =
    saw_script (player_view g.C.Calls.state g.K.Sink g.T.Sink) (c.args.reporter.now, c.args.kernel.now) (c.handle_script.new.handler, c.handle_script.new.on) _ _ _ _ _ c.requires.seen.1 _ refl _ c.handle_script.ensures.handles

pub returns-clause-start : goal.returns-clause-start
returns-clause-start g c = c.handle_script.ensures.same.0

pub returns-clause-same : goal.returns-clause-same
returns-clause-same g c = c.handle_script.ensures.same.1
