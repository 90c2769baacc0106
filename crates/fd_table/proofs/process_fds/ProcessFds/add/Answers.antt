use Rattle.std.specs.Prelude.{◌≡◌, ◌+◌}
use Rattle.std.specs.FinMap as map
use Rattle.std.proofs.Common.{ap, sym, ◌∙◌}
use Rattle.kern_model.proofs.KeyLaws.{pid_cmp_total}
use Rattle.kern_model.specs.ByNumber.{by_pid}
use Rattle.fd_table.specs.Fds.{AllFds}
use Rattle.fd_table.proofs.Looking.{len_more}
use Rattle.fd_table.proofs.process_fds.ProcessFds.add.Goals as goal

pub invariant_of-self-2 : goal.invariant_of-self-2
invariant_of-self-2 c =
    let processes = c.args.self.now in
    let who = c.args.who.now in
    let set : by_pid c.set_at.new.self ≡ map.insert processes who c.args.slots = c.in_ok-set_at.ensures.ok ∙ ap (λ (m : AllFds). map.insert m who c.args.slots) c.self.view_is in
    ap (λ n. n + 1) (c.self.invariant ∙ ap (λ (m : AllFds). map.len m) c.self.view_is) ∙ sym (ap (λ (m : AllFds). map.len m) set ∙ len_more pid_cmp_total processes who c.args.slots c.requires)
