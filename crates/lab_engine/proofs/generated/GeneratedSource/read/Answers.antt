use Rattle.std.proofs.Common.{drop, ap, subst, sym, ◌∙◌}
use Rattle.lab_engine.specs.Generated.{GeneratedState}
use Rattle.lab_engine.specs.declared.generated.Generated.TheInside.{Inside}
use Rattle.lab_engine.proofs.PieceLemmas.{Ready, Copies, consumes, copies_rest, given_ok, next_ready, stays_within, still_ready}
use Rattle.lab_engine.proofs.generated.GeneratedSource.read.Goals as goal
use Rattle.lab_engine.proofs.generated.GeneratedSource.read.Goals.{then-self-len+else-is_err, else-self-len}

-- what the bytes are copied from
ready : (c : goal.After-self-2-1) → Ready c.args.self.now.left c.if-self-len.self-inside.at c.if-self-len.self-inside.piece.items c.if-self-len.self-inside.generator
ready c =
    let old = c.self.inside in
    let left = ap (λ (s : GeneratedState). s.left) c.self.view_is in
    elim c.if-self-len.branch [
      | then-self-len+else-is_err w ↦ subst (λ (i : Inside). Ready c.args.self.now.left i.at i.piece.items i.generator) (sym w.self-inside-is)
          (next_ready _ old.at old.piece.items _ old.generator _ left (w.if-self-len.true ∙ c.len.ensures ∙ old.piece.ok.0) c.self.invariant.1
          (given_ok _ w.refill.result (sym w.if-is_err.false ∙ w.is_err.ensures.value) w.refill.ensures.made)
          (given_ok _ w.refill.result (sym w.if-is_err.false ∙ w.is_err.ensures.value) w.refill.ensures.left))
      | else-self-len w ↦ subst (λ (i : Inside). Ready c.args.self.now.left i.at i.piece.items i.generator) (sym w.self-inside-is)
          (still_ready _ old.at old.piece.items old.generator left c.self.invariant.0 c.self.invariant.1 (λ is. w.if-self-len.false (is ∙ sym (c.len.ensures ∙ old.piece.ok.0))))
    ]

copies : (c : goal.After-self-2-1) → Copies c.copy_prefix-count.result c.copy_prefix-count.new.buf (drop c.if-self-len.self-inside.at c.if-self-len.self-inside.piece.items)
copies c = copies_rest _ _ c.if-self-len.self-inside.at _ c.if-self-len.self-inside.piece.items c.deref.ensures.value c.copy_prefix-count.ensures.count c.copy_prefix-count.ensures.whole

pub invariant_of-self-2 : goal.invariant_of-self-2
invariant_of-self-2 c = stays_within _ _ _ _ (ready c) _ _ (copies c)

pub returns-clause-bytes : goal.returns-clause-bytes
returns-clause-bytes c = consumes _ _ _ _ (ready c) _ _ (copies c)
