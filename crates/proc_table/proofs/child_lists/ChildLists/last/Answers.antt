use Rattle.std.specs.Prelude.{◌-◌, List, length, slice_get}
use Rattle.std.specs.Option.{option_copied}
use Rattle.std.proofs.Common.{ap, sym, ◌∙◌}
use Rattle.kern_model.specs.declared.numbers.Pid.{Pid}
use Rattle.kern_model.specs.ByNumber.{by_pid}
use Rattle.proc_table.proofs.PositionLemmas.{list_absent, list_found}
use Rattle.proc_table.proofs.child_lists.ChildLists.last.Goals as goal

pub returns-in_err-get_at : goal.returns-in_err-get_at
returns-in_err-get_at c =
    c.from_residual.ensures ∙ ap (λ (l : List Pid). slice_get l (length l - 1)) (sym (list_absent (by_pid c.self.inside.by_parent) c.args.self.now c.self.view_is c.args.parent.now (ap option_copied (sym c.in_err-get_at.was) ∙ c.get_at.ensures)))

pub returns : goal.returns
returns c =
    c.last.ensures ∙ ap (λ (l : List Pid). slice_get l (length l - 1))
    (sym (list_found (by_pid c.self.inside.by_parent) c.args.self.now c.self.view_is c.args.parent.now c.in_ok-get_at.field-0.now (ap option_copied (sym c.in_ok-get_at.was) ∙ c.get_at.ensures)))
