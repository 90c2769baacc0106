use Rattle.std.specs.Prelude.{◌≡◌, List, [], ◌∷◌, MatchOption}
use Rattle.std.specs.FinMap as map
use Rattle.std.proofs.Common.{ap, ◌∙◌, subst}
use Rattle.kern_model.specs.declared.calls.Ending.{Ending}
use Rattle.kern_model.specs.declared.numbers.Pid.{Pid}
use Rattle.kern_model.specs.State.{Process}
use Rattle.kern_model.proofs.MapLemmas.{some_same}
use Rattle.proc_table.specs.contracts.process.Proc.{the_view}
use Rattle.num_table.proofs.Outcomes.{at_some}
use Rattle.proc_table.proofs.living.Living.take_ended.Goals as goal

pub returns : goal.returns
returns c = λ p there.
    let left : List (Pid × Ending) = c.take_first.new.self in
    let same : the_view c.process.inside ≡ p = c.process.view_is ∙ some_same _ _ (c.in-Some.ensures.value ∙ there) in
    record {
      left = left;
      now = at_some c.in-Some.is (c.get_mut.follows.holds (record (the_view c.process.inside) { ended = left })) ∙ ap (λ (q : Process). map.insert c.args.self.now c.args.who.now (record q { ended = left })) same;
      list = subst (λ (q : Process). MatchOption c.take_first.result ((q.ended ≡ []) × (left ≡ [])) (λ e. q.ended ≡ e ∷ left)) same c.take_first.ensures;
    }
