use Rattle.std.specs.Prelude.{List, length}
use Rattle.std.specs.Option.{option_copied}
use Rattle.std.proofs.Common.{ap, sym, ◌∙◌}
use Rattle.kern_model.specs.declared.numbers.Pid.{Pid}
use Rattle.kern_model.specs.ByNumber.{by_pid}
use Rattle.proc_table.proofs.PositionLemmas.{list_absent, list_found}
use Rattle.proc_table.proofs.child_lists.ChildLists.count.Goals as goal

pub returns-in-Some : goal.returns-in-Some
returns-in-Some c = c.len.ensures ∙ ap (λ (l : List Pid). length l) (sym (list_found (by_pid c.self.inside.by_parent) c.args.self.now c.self.view_is c.args.parent.now c.in-Some.list.now (ap option_copied (sym c.in-Some.is) ∙ c.get_at.ensures)))

pub returns-in-None : goal.returns-in-None
returns-in-None c = ap (λ (l : List Pid). length l) (sym (list_absent (by_pid c.self.inside.by_parent) c.args.self.now c.self.view_is c.args.parent.now (ap option_copied (sym c.in-None.is) ∙ c.get_at.ensures)))
