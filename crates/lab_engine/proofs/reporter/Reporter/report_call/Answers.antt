use Rattle.std.proofs.Common.{◌≡◌, subst}
use Rattle.lab_text.specs.Policy.{PolicyNames}
use Rattle.lab_engine.specs.declared.reporting.Report.TheVariants.{All}
use Rattle.lab_engine.specs.Readable.{AreReadable}
use Rattle.lab_engine.specs.Playing.{SendsAll, StopsBy, ends}
use Rattle.lab_engine.specs.Report.{call_sends}
use Rattle.lab_engine.specs.Reporter.{call_on}
use Rattle.lab_engine.proofs.HeldReports.{from_equal, held_seen, held_stopped}
use Rattle.lab_engine.proofs.SeenLemmas.{one_more, only_one}
use Rattle.lab_engine.proofs.reporter.Reporter.report_call.Goals as goal

pub invariant_of-self : goal.invariant_of-self
invariant_of-self g c =
    let w = c.new-writer.ensures in
    let now = c.args.self.now in
    let later = ends 0 (g.K.Sink.view c.write_call.new.self.out.now) (g.T.Sink.view c.write_call.new.self.trail.now) in
    let call = call_on c.args.line c.args.outcome.now in
    let sent = from_equal g.K.Sink.view g.T.Sink.view (λ policy out trail. SendsAll (call_sends now.report policy c.args.number call) (ends 0 out trail) later) _ _ _ _ _ _ w.policy w.out w.trail (c.in-Ok.ensures.writes 0) in
    let own = subst (λ (policy : PolicyNames). now.report ≡ All → AreReadable policy c.args.number c.args.outcome.now.recs) w.policy c.in-Ok.ensures.readable in
    record { kept = held_seen g.K.Sink.view g.T.Sink.view _ now.texts.policy.now now.report _ _ _ _ _ _ _ c.requires.going c.args.number c.requires.number call now.kept _ (one_more c.args.line _ _ _ c.who.ensures c.head.ensures _ _ c.with-self.ensures) c.in-Ok.ensures.report own sent }

pub invariant_of-self-in-Err : goal.invariant_of-self-in-Err
invariant_of-self-in-Err g c =
    let w = c.new-writer.ensures in
    let now = c.args.self.now in
    let later = ends 0 (g.K.Sink.view c.write_call.new.self.out.now) (g.T.Sink.view c.write_call.new.self.trail.now) in
    let call = call_on c.args.line c.args.outcome.now in
    let stop = from_equal g.K.Sink.view g.T.Sink.view (λ policy out trail. StopsBy c.in-Err.fault (call_sends now.report policy c.args.number call) (ends 0 out trail) later) _ _ _ _ _ _ w.policy w.out w.trail (c.in-Err.ensures.writes 0) in
    record { kept = held_stopped g.K.Sink.view g.T.Sink.view _ now.texts.policy.now now.report _ _ _ _ _ _ _ c.requires.going c.args.number c.requires.number call now.kept _ _ (only_one c.args.line _ _ _ c.who-in-Err.ensures c.head-in-Err.ensures _ _ c.with-self-in-Err.ensures c.requires.going) stop }

pub returns-in-Ok-clause-writes : goal.returns-in-Ok-clause-writes
returns-in-Ok-clause-writes g c = λ source.
    let w = c.new-writer.ensures in
    let later = ends source (g.K.Sink.view c.write_call.new.self.out.now) (g.T.Sink.view c.write_call.new.self.trail.now) in
    let call = call_on c.args.line c.args.outcome.now in
    from_equal g.K.Sink.view g.T.Sink.view (λ policy out trail. SendsAll (call_sends c.args.self.now.report policy c.args.number call) (ends source out trail) later) _ _ _ _ _ _ w.policy w.out w.trail (c.in-Ok.ensures.writes source)
