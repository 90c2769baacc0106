use Rattle.std.proofs.Common.{sym}
use Rattle.kern_model.proofs.MapLemmas.{get_or-absent, get_or-found}
use Rattle.sched_progs.proofs.schedule.Schedule.last_turn.Goals as goal

pub returns-in-Some : goal.returns-in-Some
returns-in-Some c = sym (get_or-found c.args.self.now.last_turns c.args.label.now 0 _ (sym c.in-Some.ensures))

pub returns-in-None : goal.returns-in-None
returns-in-None c = sym (get_or-absent c.args.self.now.last_turns c.args.label.now 0 (sym c.in-None.ensures))
