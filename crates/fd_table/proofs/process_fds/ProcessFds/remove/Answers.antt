use Rattle.std.specs.Prelude.{◌≡◌, ◌-◌, true, false, is_some}
use Rattle.std.specs.FinMap as map
use Rattle.std.proofs.Common.{ap, sym, ◌∙◌, arith}
use Rattle.kern_model.proofs.KeyLaws.{pid_cmp_total}
use Rattle.kern_model.specs.ByNumber.{by_pid}
use Rattle.fd_table.specs.Fds.{AllFds}
use Rattle.fd_table.proofs.Looking.{len_removed, len_some}
use Rattle.fd_table.proofs.process_fds.ProcessFds.remove.Goals as goal

pub invariant_of-self : goal.invariant_of-self
invariant_of-self c =
    let processes = c.args.self.now in
    let who = c.args.who.now in
    let found = c.in_err-slots.ensures.removed ∙ ap (λ (m : AllFds). map.get m who) c.self.view_is in
    let left : by_pid c.remove_at.new.self ≡ map.remove processes who = c.remove_at.ensures.left ∙ ap (λ (m : AllFds). map.remove m who) c.self.view_is in
    c.self.invariant ∙ ap (λ (m : AllFds). map.len m) c.self.view_is ∙ sym (ap (λ (m : AllFds). map.len m) left ∙ len_removed pid_cmp_total processes who false (sym (ap is_some found)))

pub returns-in_err-slots-clause-removed : goal.returns-in_err-slots-clause-removed
returns-in_err-slots-clause-removed c = c.from_residual.ensures ∙ c.in_err-slots.ensures.removed ∙ ap (λ (m : AllFds). map.get m c.args.who.now) c.self.view_is

pub returns-in_err-slots-clause-left : goal.returns-in_err-slots-clause-left
returns-in_err-slots-clause-left c = c.remove_at.ensures.left ∙ ap (λ (m : AllFds). map.remove m c.args.who.now) c.self.view_is

pub overflow_sub-self : goal.overflow_sub-self
overflow_sub-self c =
    let processes = c.args.self.now in
    let size : c.self.inside.count ≡ map.len processes = c.self.invariant ∙ ap (λ (m : AllFds). map.len m) c.self.view_is in
    let found = c.in_ok-slots.ensures.removed ∙ ap (λ (m : AllFds). map.get m c.args.who.now) c.self.view_is in
    let some = len_some pid_cmp_total processes c.args.who.now (sym (ap is_some found)) in
    omega (arith, size, some)

pub invariant_of-self-2 : goal.invariant_of-self-2
invariant_of-self-2 c =
    let processes = c.args.self.now in
    let who = c.args.who.now in
    let found = c.in_ok-slots.ensures.removed ∙ ap (λ (m : AllFds). map.get m who) c.self.view_is in
    let left : by_pid c.remove_at.new.self ≡ map.remove processes who = c.remove_at.ensures.left ∙ ap (λ (m : AllFds). map.remove m who) c.self.view_is in
    ap (λ n. n - 1) (c.self.invariant ∙ ap (λ (m : AllFds). map.len m) c.self.view_is) ∙ sym (ap (λ (m : AllFds). map.len m) left ∙ len_removed pid_cmp_total processes who true (sym (ap is_some found)))
