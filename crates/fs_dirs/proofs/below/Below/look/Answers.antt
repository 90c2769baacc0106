use Rattle.std.proofs.Common.{sym, ◌∙◌, inl, inr}
use Rattle.std.proofs.lemmas.Result.{on_ok_weaker}
use Rattle.kern_model.proofs.MapLemmas.{never_some}
use Rattle.fs_dirs.specs.Below.{IsUnderDue}
use Rattle.fs_dirs.specs.Entries.{entries_alone}
use Rattle.fs_dirs.proofs.BelowLemmas.{child_due, looked}
use Rattle.fs_dirs.proofs.below.Below.look.Goals as goal

pub returns-in_default-object_at : goal.returns-in_default-object_at
returns-in_default-object_at c (inl given_up) = inl (c.in_ok-enter.ensures.complete ∙ given_up)
returns-in_default-object_at c (inr lies) =
    let s = entries_alone c.args.entries.now in
    elim (looked s c.args.self.now.due.items c.pop.new.self.items c.enter.new.self.due.items c.in-Some.due c.args.goal.now c.in-Some.ensures.items c.in_ok-enter.ensures.due lies) [
      | inl still ↦ inr still
      | inr child ↦ absurd (never_some _ child.0 (sym c.object_at.ensures ∙ c.in_default-object_at.is) child.1)
    ]

pub returns : goal.returns
returns c =
    let s = entries_alone c.args.entries.now in
    on_ok_weaker c.enter-2.result (λ made due. elim due as (λ _. IsUnderDue s c.enter-2.new.self c.args.goal.now) [
      | inl given_up ↦ inl (c.enter-2.ensures.complete ∙ c.in_ok-enter.ensures.complete ∙ given_up)
      | inr lies ↦ inr (child_due s c.enter.new.self.due.items c.enter-2.new.self.due.items c.in-Some.due.dir c.in-Some.due.place c.in-Some-object_at.child c.len.result c.args.goal.now
          (sym c.object_at.ensures ∙ c.in-Some-object_at.is) (sym c.is_same.ensures ∙ c.if-is_same.false) c.len.ensures made
          (looked s c.args.self.now.due.items c.pop.new.self.items c.enter.new.self.due.items c.in-Some.due c.args.goal.now c.in-Some.ensures.items c.in_ok-enter.ensures.due lies))
    ]) c.enter-2.ensures.due
