use Rattle.std.specs.Prelude.{◌≡◌, List, [], ◌∷◌, Option, None, drop}
use Rattle.std.specs.FinMap as map
use Rattle.std.specs.FinMap.{FinMap}
use Rattle.std.proofs.Common.{ap, sym, ◌∙◌, subst}
use Rattle.kern_model.specs.declared.calls.Ending.{Ending}
use Rattle.kern_model.specs.declared.numbers.Pid.{Pid}
use Rattle.kern_model.specs.Keys.{pid_cmp}
use Rattle.kern_model.specs.State.{Process}
use Rattle.num_table.proofs.Outcomes.{none_match, some_match, where_err}
use Rattle.proc_table.specs.Procs.{ProcTable, TakesEnded, has_living_child, wait_result, with_process}
use Rattle.proc_table.proofs.ReapLemmas.{a_child, no_child, none_taken, taken_kept}
use Rattle.proc_table.proofs.procs.Procs.reap.Goals.{in-Some-first, in-None}
use Rattle.proc_table.proofs.procs.Procs.reap.Goals as goal

pub invariant_of-self : goal.invariant_of-self
invariant_of-self c =
    let table = c.self.inside.table in
    let there = ap (λ (t : ProcTable). map.get t.procs c.args.who.now) c.self.view_is ∙ c.requires.is in
    taken_kept table.living c.take_ended.new.self c.args.who.now c.requires.value there c.take_ended.result (c.take_ended.ensures c.requires.value there) table.numbers table.children table.made c.self.invariant

pub invariant_of-self-2 : goal.invariant_of-self-2
invariant_of-self-2 c =
    let table = c.self.inside.table in
    let there = ap (λ (t : ProcTable). map.get t.procs c.args.who.now) c.self.view_is ∙ c.requires.is in
    taken_kept table.living c.take_ended.new.self c.args.who.now c.requires.value there c.take_ended.result (c.take_ended.ensures c.requires.value there) table.numbers table.children table.made c.self.invariant

pub returns-in-Some-clause-answer : goal.returns-in-Some-clause-answer
returns-in-Some-clause-answer c = λ p is.
    let there = ap (λ (t : ProcTable). map.get t.procs c.args.who.now) c.self.view_is ∙ is in
    let list : p.ended ≡ c.in-Some.first ∷ (c.take_ended.ensures p there).left = some_match _ _ c.take_ended.result c.in-Some.first c.in-Some.is (c.take_ended.ensures p there).list in
    ap (λ (l : List (Pid × Ending)). wait_result l (has_living_child c.args.self.now.procs c.args.who.now)) (sym list)

pub returns-in-Some-clause-taken : goal.returns-in-Some-clause-taken
returns-in-Some-clause-taken c = λ p is.
    let who = c.args.who.now in
    let there = ap (λ (t : ProcTable). map.get t.procs who) c.self.view_is ∙ is in
    let taken = c.take_ended.ensures p there in
    let list : p.ended ≡ c.in-Some.first ∷ taken.left = some_match _ _ c.take_ended.result c.in-Some.first c.in-Some.is taken.list in
    let left : taken.left ≡ drop 1 p.ended = sym (ap (λ (l : List (Pid × Ending)). drop 1 l) list) in
    ap (λ (m : FinMap pid_cmp Process). record { procs = m; numbers = c.self.inside.table.numbers }) (taken.now ∙ ap (λ (l : List (Pid × Ending)). map.insert c.self.inside.table.living who (record p { ended = l })) left)
    ∙ ap (λ (t : ProcTable). with_process t who (record p { ended = drop 1 p.ended })) c.self.view_is

pub returns-clause-answer : goal.returns-clause-answer
returns-clause-answer c = λ p is.
    let who = c.args.who.now in
    let table = c.self.inside.table in
    let there = ap (λ (t : ProcTable). map.get t.procs who) c.self.view_is ∙ is in
    let taken = c.take_ended.ensures p there in
    let list : p.ended ≡ [] = (none_match _ _ c.take_ended.result c.in_default.is taken.list).0 in
    let same = sym (ap (λ (t : ProcTable). has_living_child t.procs who) c.self.view_is) in
    let none = ap (λ (l : List (Pid × Ending)). wait_result l (has_living_child c.args.self.now.procs who)) list in
    elim c.match-first.branch [
      | in-Some-first w ↦ w.result-is ∙ sym (none ∙ ap (wait_result []) (same ∙ a_child table.living table.children table.made c.self.invariant.1 who _ (some_match _ _ c.first.result _ w.in-Some-first.is c.first.ensures)))
      | in-None w ↦ w.result-is ∙ sym (none ∙ ap (wait_result []) (same ∙ no_child table.living table.children table.made c.self.invariant.1 who (none_match _ _ c.first.result w.in-None.is c.first.ensures)))
    ]

pub returns-clause-err : goal.returns-clause-err
returns-clause-err c =
    let who = c.args.who.now in
    let table = c.self.inside.table in
    let there = ap (λ (t : ProcTable). map.get t.procs who) c.self.view_is ∙ c.requires.is in
    let taken : TakesEnded table.living c.take_ended.new.self who c.requires.value None = subst (λ (o : Option (Pid × Ending)). TakesEnded table.living c.take_ended.new.self who c.requires.value o) c.in_default.is (c.take_ended.ensures c.requires.value there) in
    where_err c.match-first.result
    (ap (λ (m : FinMap pid_cmp Process). record { procs = m; numbers = table.numbers }) (none_taken table.living c.take_ended.new.self who c.requires.value there taken) ∙ c.self.view_is)
