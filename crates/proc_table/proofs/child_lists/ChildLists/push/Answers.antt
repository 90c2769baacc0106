use Rattle.std.specs.Prelude.{List, [], ◌∷◌, ◌++◌}
use Rattle.std.specs.FinMap as map
use Rattle.std.specs.FinMap.{FinMap}
use Rattle.std.proofs.Common.{ap, sym, ◌∙◌}
use Rattle.std.proofs.lemmas.Result.{on_err_weaker, on_ok_weaker}
use Rattle.kern_model.specs.Keys.{pid_cmp}
use Rattle.kern_model.specs.declared.numbers.Pid.{Pid}
use Rattle.kern_model.proofs.KeyLaws.{pid_cmp_total, pid_cmp_exact}
use Rattle.kern_model.proofs.MapLemmas.{insert-same}
use Rattle.kern_model.specs.ByNumber.{by_pid}
use Rattle.kern_model.specs.Numbers.{num_cmp}
use Rattle.num_table.proofs.Outcomes.{at_some}
use Rattle.proc_table.proofs.PositionLemmas.{list_absent, list_found}
use Rattle.proc_table.proofs.child_lists.ChildLists.push.Goals as goal

pub returns-in-Some-clause-ok : goal.returns-in-Some-clause-ok
returns-in-Some-clause-ok c =
    let lists = c.args.self.now in
    let parent = c.args.parent.now in
    let child = c.args.child.now in
    let is = list_found (by_pid c.self.inside.by_parent) lists c.self.view_is parent c.in-Some.list.now c.in-Some.ensures.value in
    on_ok_weaker c.push.result
    (λ pushed.
    at_some c.in-Some.is (c.get_mut_at.follows.holds c.push.new.self) ∙ ap (λ (m : FinMap pid_cmp (List Pid)). map.insert m parent c.push.new.self) c.self.view_is
    ∙ ap (λ (l : List Pid). map.insert lists parent l) (pushed ∙ ap (λ (l : List Pid). l ++ child ∷ []) (sym is)))
    c.push.ensures.ok

pub returns-in-Some-clause-err : goal.returns-in-Some-clause-err
returns-in-Some-clause-err c =
    let lists = c.args.self.now in
    let parent = c.args.parent.now in
    let there = sym (c.in-Some.ensures.value ∙ ap (λ (m : FinMap pid_cmp (List Pid)). map.get m parent) c.self.view_is) in
    on_err_weaker c.push.result
    (λ same.
    at_some c.in-Some.is (c.get_mut_at.follows.holds c.push.new.self) ∙ ap (λ (m : FinMap pid_cmp (List Pid)). map.insert m parent c.push.new.self) c.self.view_is
    ∙ ap (λ (l : List Pid). map.insert lists parent l) same ∙ insert-same pid_cmp_total pid_cmp_exact lists parent c.in-Some.list.now there)
    c.push.ensures.err

pub returns-clause-ok : goal.returns-clause-ok
returns-clause-ok c =
    let lists = c.args.self.now in
    let parent = c.args.parent.now in
    let child = c.args.child.now in
    let list = c.new.result in
    let none = list_absent (by_pid c.self.inside.by_parent) lists c.self.view_is parent c.in_default.ensures.value in
    on_ok_weaker c.set_at.result
    (λ set.
    set ∙ ap (λ (m : FinMap num_cmp (List Pid)). map.insert (by_pid m) parent list) c.get_mut_at.follows.holds-at-none ∙ ap (λ (m : FinMap pid_cmp (List Pid)). map.insert m parent list) c.self.view_is
    ∙ ap (λ (l : List Pid). map.insert lists parent l) (c.new.ensures ∙ ap (λ (l : List Pid). l ++ child ∷ []) (sym none)))
    c.set_at.ensures.ok
