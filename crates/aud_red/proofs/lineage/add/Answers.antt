use Rattle.std.proofs.Common.{sym, ◌∙◌}
use Rattle.kern_model.specs.Keys.{pid_cmp}
use Rattle.aud_red.proofs.LineageLemmas.{entry_added}
use Rattle.aud_red.proofs.lineage.add.Goals as goal

pub returns-in_ok-insert : goal.returns-in_ok-insert
unfolding pid_cmp
returns-in_ok-insert c =
    entry_added c.args.known.now c.insert.new.self c.args.rec.now (c.in-Some.process, c.in-Some.caps) (sym c.entry_of.ensures ∙ c.in-Some.is) c.in_ok-insert.ensures.updates.0
