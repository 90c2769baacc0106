use Rattle.std.proofs.Common.{subst}
use Rattle.kern_model.specs.State.{process_at}
use Rattle.kern_model.specs.Table.{row}
use Rattle.sys_lookup.specs.Callers.{CallerView}
use Rattle.sys_lookup.specs.PlaysRow.{PlaysRow}
use Rattle.sys_lookup.proofs.PlayingLemmas.{plays_as}
use Rattle.sys_proc.proofs.playing.play.Goals as goal

pub returns-in-Fork-clause-played : goal.returns-in-Fork-clause-played
returns-in-Fork-clause-played c = plays_as c.args.shared.now c.args.who.now (process_at c.args.shared.now c.args.who.now) c.in-Fork.is (c.fork.ensures c.args.checks.now)

pub returns-in-Exit-clause-played : goal.returns-in-Exit-clause-played
returns-in-Exit-clause-played c = plays_as c.args.shared.now c.args.who.now (process_at c.args.shared.now c.args.who.now) c.in-Exit.is (c.exit.ensures c.args.checks.now)

pub returns-in-Wait-clause-played : goal.returns-in-Wait-clause-played
returns-in-Wait-clause-played c = plays_as c.args.shared.now c.args.who.now (process_at c.args.shared.now c.args.who.now) c.in-Wait.is (c.wait.ensures.played c.args.checks.now)

pub returns-in-Getpid-clause-played : goal.returns-in-Getpid-clause-played
returns-in-Getpid-clause-played c =
    let s = c.args.shared.now in
    let log = c.args.checks.now in
    subst (λ (k : CallerView). PlaysRow s log (row s c.args.who.now k.process c.args.call.now) c.report.result s log) c.new.ensures.caller (c.report.ensures.played s log)
