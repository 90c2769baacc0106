use Rattle.std.specs.Prelude.{refl}
use Rattle.std.specs.FinMap as map
use Rattle.std.proofs.Common.{ap, sym, ◌∙◌}
use Rattle.kern_model.proofs.KeyLaws.{pid_cmp_total}
use Rattle.kern_model.specs.ByNumber.{by_pid}
use Rattle.num_table.proofs.Outcomes.{at_some}
use Rattle.fd_table.specs.Fds.{AllFds, Fds}
use Rattle.fd_table.proofs.Looking.{len_kept}
use Rattle.fd_table.proofs.process_fds.ProcessFds.slots_mut.Goals as goal

pub invariant_of-self-lent : goal.invariant_of-self-lent
invariant_of-self-lent c =
    let processes = c.args.self.now in
    let who = c.args.who.now in
    let found = c.in-Some.ensures.value ∙ ap (λ (m : AllFds). map.get m who) c.self.view_is in
    λ w. c.self.invariant ∙ ap (λ (m : AllFds). map.len m) c.self.view_is
    ∙ sym (ap (λ (m : AllFds). map.len m) (at_some c.in-Some.is (c.get_mut_at.follows.holds w) ∙ ap (λ (m : AllFds). map.insert m who w) c.self.view_is)
    ∙ len_kept pid_cmp_total processes who w c.in-Some.slots.now found)

pub returns-in-Some : goal.returns-in-Some
returns-in-Some c = (
  (
    refl,
    (λ w. at_some c.in-Some.is (c.get_mut_at.follows.holds w) ∙ ap (λ (m : AllFds). map.insert m c.args.who.now w) c.self.view_is),
    refl,
  ),
  record {
    writes_back = tt;
    value = c.in-Some.ensures.value ∙ ap (λ (m : AllFds). map.get m c.args.who.now) c.self.view_is;
  },
)

pub returns-in-None : goal.returns-in-None
returns-in-None c = (
  (refl, (λ _. tt), ap (by_pid {X = Fds}) c.get_mut_at.follows.holds-at-none ∙ c.self.view_is),
  record {
    writes_back = tt;
    value = c.in-None.ensures.value ∙ ap (λ (m : AllFds). map.get m c.args.who.now) c.self.view_is;
  },
)
