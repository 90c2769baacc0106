use Rattle.std.proofs.Common.{sym, subst}
use Rattle.lab_text.specs.Policy.{top_of}
use Rattle.lab_engine.proofs.ReadSoFar.{line_calls, line_fewer, line_held}
use Rattle.lab_engine.proofs.ScriptSteps.{handled_begins, line_handled, line_small, line_stops, read_stops, script_ends}
use Rattle.lab_engine.proofs.handling.handle_script.Goals as goal

pub loop-line-init : goal.loop-line-init
loop-line-init g c = record {
  handled = handled_begins _ g.H.LineHandler.stops _ _ _ _ _ c.requires.more c.requires.small;
  ready = c.requires.ready;
  same = g.met.H.LineHandler.same_refl _;
}

pub read_next-requires : goal.read_next-requires
read_next-requires g c = c.loop-line.invariant.handled.read.more

pub returns-in_err-line-clause-handles : goal.returns-in_err-line-clause-handles
returns-in_err-line-clause-handles g c = read_stops _ g.H.LineHandler.stops _ _ _ _ _ _ _ _ _ _ _ c.loop-line.invariant.handled _ _ c.from_residual.ensures.1 c.in_err-line.ensures.follows c.in_err-line.ensures.counts

pub handle_line-requires-clause-calls : goal.handle_line-requires-clause-calls
handle_line-requires-clause-calls g c = (top_of c.args.rules.texts.policy.now, c.loop-line.invariant.ready, line_calls _ _ _ _ _ _ _ c.in_ok-line.ensures.follows _ c.in-Line.is)

pub handle_line-requires-clause-held : goal.handle_line-requires-clause-held
handle_line-requires-clause-held g c = line_held _ _ _ _ _ _ _ c.in_ok-line.ensures.follows _ c.in-Line.is

pub handle_line-requires-clause-small : goal.handle_line-requires-clause-small
handle_line-requires-clause-small g c = line_small _ g.H.LineHandler.stops _ _ _ _ _ _ _ _ _ _ _ c.loop-line.invariant.handled _ c.in_ok-line.ensures.follows c.in_ok-line.ensures.counts _ c.in-Line.is

pub returns-in_err-count-in-Line-clause-handles : goal.returns-in_err-count-in-Line-clause-handles
returns-in_err-count-in-Line-clause-handles g c =
    line_stops _ _ _ _ _ _ _ _ _ _ _ _ _ c.loop-line.invariant.handled _ c.in_ok-line.ensures.follows c.in_ok-line.ensures.counts _ c.in-Line.is
    _ _ c.from_residual-in_err-count-in-Line.ensures.1 _ c.in_err-count-in-Line.ensures.handled

pub returns-in_err-count-in-Line-clause-same : goal.returns-in_err-count-in-Line-clause-same
returns-in_err-count-in-Line-clause-same g c = g.met.H.LineHandler.same_trans _ _ _ c.loop-line.invariant.same c.in_err-count-in-Line.ensures.same

pub loop-line-smaller : goal.loop-line-smaller
loop-line-smaller g c = line_fewer _ _ _ _ _ _ _ c.in_ok-line.ensures.follows _ c.in-Line.is

pub loop-line-preserved : goal.loop-line-preserved
loop-line-preserved g c =
    let done = c.in_ok-count-in-Line.ensures in
    record {
      handled = line_handled _ g.H.LineHandler.stops _ _ _ _ _ _ _ _ _ _ _ c.loop-line.invariant.handled _ c.in_ok-line.ensures.follows c.in_ok-line.ensures.counts _ c.in-Line.is _ (c.handle_line.new.self, c.handle_line.new.on) done.count done.handled;
      ready = subst (λ n. g.H.LineHandler.ready c.handle_line.new.self c.handle_line.new.on n (top_of c.args.rules.texts.policy.now)) (sym done.count) (done.ready _ c.loop-line.invariant.ready);
      same = g.met.H.LineHandler.same_trans _ _ _ c.loop-line.invariant.same done.same;
    }

pub returns-in-Ended-clause-handles : goal.returns-in-Ended-clause-handles
returns-in-Ended-clause-handles g c = script_ends _ g.H.LineHandler.stops _ _ _ _ _ _ _ _ _ _ _ c.loop-line.invariant.handled _ c.in_ok-line.ensures.follows c.in_ok-line.ensures.counts _ c.in-Ended.is
