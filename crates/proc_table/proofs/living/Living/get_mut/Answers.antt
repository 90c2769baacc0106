use Rattle.std.specs.FinMap as map
use Rattle.std.specs.FinMap.{FinMap}
use Rattle.std.proofs.Common.{refl, ap, ◌∙◌}
use Rattle.kern_model.specs.Keys.{pid_cmp}
use Rattle.kern_model.specs.State.{Process}
use Rattle.kern_model.specs.ByNumber.{by_pid}
use Rattle.num_table.proofs.Outcomes.{lent_then}
use Rattle.proc_table.proofs.living.Living.get_mut.Goals as goal

pub returns : goal.returns
returns c = (
  (
    refl,
    (λ w. lent_then c.get_mut_at.result (c.get_mut_at.follows.holds w) (λ set. set ∙ ap (λ (m : FinMap pid_cmp Process). map.insert m c.args.who.now w) c.self.view_is)),
    ap (by_pid {X = Process}) c.get_mut_at.follows.holds-at-none ∙ c.self.view_is,
  ),
  record {
    writes_back = tt;
    value = c.get_mut_at.ensures.value ∙ ap (λ (m : FinMap pid_cmp Process). map.get m c.args.who.now) c.self.view_is;
  },
)
