use Rattle.std.proofs.Common.{ap, sym, ◌∙◌}
use Rattle.std.specs.FinMap as map
use Rattle.kern_model.specs.Keys.{pid_cmp}
use Rattle.kern_model.proofs.KeyLaws.{pid_cmp_total}
use Rattle.kern_model.proofs.TableLemmas.{get_at}
use Rattle.sched_progs.proofs.standing.Standings.get.Goals as goal

pub returns : goal.returns
unfolding pid_cmp
returns c = c.copied.ensures ∙ c.get.ensures.value ∙ sym (get_at pid_cmp_total c.self.inside.by_number.entries c.args.who.now) ∙ ap (λ m. map.get m c.args.who.now) c.self.view_is
