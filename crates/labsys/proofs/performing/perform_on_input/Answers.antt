use Rattle.std.specs.Prelude.{None}
use Rattle.io_ends.specs.Ends.{sink_view}
use Rattle.labsys.proofs.PerformLemmas.{no_trail_did}
use Rattle.labsys.proofs.WorldLemmas.{did_as, did_without_world, is_opened, open_fails}
use Rattle.labsys.proofs.performing.perform_on_input.Goals as goal

pub returns-in_err-opened-clause-did : goal.returns-in_err-opened-clause-did
returns-in_err-opened-clause-did g c = open_fails c.args.command _ c.format_of.ensures c.from_residual.result _ _ _ c.in_err-opened.ensures.opens _ _ _ _ (c.in_err-opened.ensures.counts _ _) c.from_residual.ensures.1

pub returns-in_err-opened-clause-trail_fault : goal.returns-in_err-opened-clause-trail_fault
returns-in_err-opened-clause-trail_fault g c = λ is.
    absurd (no_trail_did _ c.from_residual.result _ _ _ _ _ _
    (open_fails c.args.command _ c.format_of.ensures c.from_residual.result _ _ _ c.in_err-opened.ensures.opens _ _ (sink_view None 0) (sink_view None 0) (c.in_err-opened.ensures.counts _ _) c.from_residual.ensures.1) is)

pub returns-in-Ended-clause-did : goal.returns-in-Ended-clause-did
returns-in-Ended-clause-did g c =
    did_without_world c.args.command _ c.format_of.ensures _ _ _ c.in_ok-opened.ensures.opens _ _ _ _ c.in_ok-opened.ensures.counts c.in-Ended.ending c.in-Ended.is
    c.end_without_world.result _ c.end_without_world.ensures.writes c.end_without_world.ensures.ending

pub returns-in-Ended-clause-trail_fault : goal.returns-in-Ended-clause-trail_fault
returns-in-Ended-clause-trail_fault g c = λ is.
    absurd (no_trail_did _ c.end_without_world.result _ _ _ _ _ _
    (did_without_world c.args.command _ c.format_of.ensures _ _ _ c.in_ok-opened.ensures.opens _ _ _ (sink_view None 0) c.in_ok-opened.ensures.counts c.in-Ended.ending c.in-Ended.is
    c.end_without_world.result _ c.end_without_world.ensures.writes c.end_without_world.ensures.ending) is)

pub play-requires : goal.play-requires
play-requires g c = is_opened _ _ _ c.in_ok-opened.ensures.opens c.in-World.opened c.in-World.is

pub sched-requires : goal.sched-requires
sched-requires g c = is_opened _ _ _ c.in_ok-opened.ensures.opens c.in-World.opened c.in-World.is

pub check-requires : goal.check-requires
check-requires g c = is_opened _ _ _ c.in_ok-opened.ensures.opens c.in-World.opened c.in-World.is

pub view-requires : goal.view-requires
view-requires g c = is_opened _ _ _ c.in_ok-opened.ensures.opens c.in-World.opened c.in-World.is

pub upgrade-requires : goal.upgrade-requires
upgrade-requires g c = is_opened _ _ _ c.in_ok-opened.ensures.opens c.in-World.opened c.in-World.is

pub least-requires : goal.least-requires
least-requires g c = is_opened _ _ _ c.in_ok-opened.ensures.opens c.in-World.opened c.in-World.is

pub never-requires : goal.never-requires
never-requires g c = is_opened _ _ _ c.in_ok-opened.ensures.opens c.in-World.opened c.in-World.is

pub returns-in-Play-clause-did : goal.returns-in-Play-clause-did
returns-in-Play-clause-did g c = did_as c.args.command _ c.format_of.ensures _ _ _ c.in_ok-opened.ensures.opens _ _ _ _ c.in_ok-opened.ensures.counts c.in-World.opened c.in-World.is c.play.result _ _ _ c.in-Play.is c.play.ensures

pub returns-in-Sched-clause-did : goal.returns-in-Sched-clause-did
returns-in-Sched-clause-did g c = did_as c.args.command _ c.format_of.ensures _ _ _ c.in_ok-opened.ensures.opens _ _ _ _ c.in_ok-opened.ensures.counts c.in-World.opened c.in-World.is c.sched.result _ _ _ c.in-Sched.is c.sched.ensures

pub returns-in-Check-clause-did : goal.returns-in-Check-clause-did
returns-in-Check-clause-did g c = did_as c.args.command _ c.format_of.ensures _ _ _ c.in_ok-opened.ensures.opens _ _ _ _ c.in_ok-opened.ensures.counts c.in-World.opened c.in-World.is c.check.result _ _ _ c.in-Check.is (c.check.ensures _)

pub returns-in-Check-clause-trail_fault : goal.returns-in-Check-clause-trail_fault
returns-in-Check-clause-trail_fault g c = λ is.
    absurd (no_trail_did _ c.check.result _ _ _ _ _ _
    (did_as c.args.command _ c.format_of.ensures _ _ _ c.in_ok-opened.ensures.opens _ _ _ _ c.in_ok-opened.ensures.counts c.in-World.opened c.in-World.is c.check.result _ _ _ c.in-Check.is (c.check.ensures (sink_view None 0))) is)

pub returns-in-View-clause-did : goal.returns-in-View-clause-did
returns-in-View-clause-did g c = did_as c.args.command _ c.format_of.ensures _ _ _ c.in_ok-opened.ensures.opens _ _ _ _ c.in_ok-opened.ensures.counts c.in-World.opened c.in-World.is c.view.result _ _ _ c.in-View.is (c.view.ensures _)

pub returns-in-View-clause-trail_fault : goal.returns-in-View-clause-trail_fault
returns-in-View-clause-trail_fault g c = λ is.
    absurd (no_trail_did _ c.view.result _ _ _ _ _ _
    (did_as c.args.command _ c.format_of.ensures _ _ _ c.in_ok-opened.ensures.opens _ _ _ _ c.in_ok-opened.ensures.counts c.in-World.opened c.in-World.is c.view.result _ _ _ c.in-View.is (c.view.ensures (sink_view None 0))) is)

pub returns-in-Upgrade-clause-did : goal.returns-in-Upgrade-clause-did
returns-in-Upgrade-clause-did g c = did_as c.args.command _ c.format_of.ensures _ _ _ c.in_ok-opened.ensures.opens _ _ _ _ c.in_ok-opened.ensures.counts c.in-World.opened c.in-World.is c.upgrade.result _ _ _ c.in-Upgrade.is (c.upgrade.ensures _)

pub returns-in-Upgrade-clause-trail_fault : goal.returns-in-Upgrade-clause-trail_fault
returns-in-Upgrade-clause-trail_fault g c = λ is.
    absurd (no_trail_did _ c.upgrade.result _ _ _ _ _ _
    (did_as c.args.command _ c.format_of.ensures _ _ _ c.in_ok-opened.ensures.opens _ _ _ _ c.in_ok-opened.ensures.counts c.in-World.opened c.in-World.is c.upgrade.result _ _ _ c.in-Upgrade.is (c.upgrade.ensures (sink_view None 0))) is)

pub returns-in-Least-clause-did : goal.returns-in-Least-clause-did
returns-in-Least-clause-did g c = did_as c.args.command _ c.format_of.ensures _ _ _ c.in_ok-opened.ensures.opens _ _ _ _ c.in_ok-opened.ensures.counts c.in-World.opened c.in-World.is c.least.result _ _ _ c.in-Least.is (c.least.ensures _)

pub returns-in-Least-clause-trail_fault : goal.returns-in-Least-clause-trail_fault
returns-in-Least-clause-trail_fault g c = λ is.
    absurd (no_trail_did _ c.least.result _ _ _ _ _ _
    (did_as c.args.command _ c.format_of.ensures _ _ _ c.in_ok-opened.ensures.opens _ _ _ _ c.in_ok-opened.ensures.counts c.in-World.opened c.in-World.is c.least.result _ _ _ c.in-Least.is (c.least.ensures (sink_view None 0))) is)

pub returns-in-Never-clause-did : goal.returns-in-Never-clause-did
returns-in-Never-clause-did g c = did_as c.args.command _ c.format_of.ensures _ _ _ c.in_ok-opened.ensures.opens _ _ _ _ c.in_ok-opened.ensures.counts c.in-World.opened c.in-World.is c.never.result _ _ _ c.in-Never.is (c.never.ensures _)

pub returns-in-Never-clause-trail_fault : goal.returns-in-Never-clause-trail_fault
returns-in-Never-clause-trail_fault g c = λ is.
    absurd (no_trail_did _ c.never.result _ _ _ _ _ _
    (did_as c.args.command _ c.format_of.ensures _ _ _ c.in_ok-opened.ensures.opens _ _ _ _ c.in_ok-opened.ensures.counts c.in-World.opened c.in-World.is c.never.result _ _ _ c.in-Never.is (c.never.ensures (sink_view None 0))) is)
