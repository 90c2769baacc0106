use Rattle.kern_model.specs.TreeRows.{readdir_row, stat_row}
use Rattle.sys_lookup.proofs.PlayingLemmas.{plays_as}
use Rattle.sys_tree.proofs.EntryLemmas.{called_still}
use Rattle.sys_tree.proofs.playing.play.Goals as goal

pub returns-in-Readdir-clause-played : goal.returns-in-Readdir-clause-played
returns-in-Readdir-clause-played c =
    plays_as c.args.shared.now c.args.who.now _ c.in-Readdir.is
    (called_still (λ k. readdir_row k.state k.who k.process c.in-Readdir.path) c.new.ensures.caller (c.readdir.ensures c.new.result.who))

pub returns-in-Stat-clause-played : goal.returns-in-Stat-clause-played
returns-in-Stat-clause-played c =
    plays_as c.args.shared.now c.args.who.now _ c.in-Stat.is
    (called_still (λ k. stat_row k.state k.who k.process c.in-Stat.path) c.new-in-Stat.ensures.caller (c.stat.ensures c.new-in-Stat.result.who))
