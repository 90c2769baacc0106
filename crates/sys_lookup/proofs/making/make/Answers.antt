use Rattle.std.proofs.Common.{◌≡◌, ◌∙◌, ap, refl, subst, ℕ, Ok}
use Rattle.lab_lattice.specs.Label.{Label}
use Rattle.kern_model.specs.declared.objects.Attr.{Attr}
use Rattle.kern_model.specs.declared.numbers.Pid.{Pid}
use Rattle.kern_model.specs.Create.{attr_of}
use Rattle.kern_model.specs.Kinds.{masked_permissions, object_with}
use Rattle.kern_model.specs.State.{State, Process, process_at}
use Rattle.kern_model.specs.TreeRows.{make_at, make_object, make_spot, put_object}
use Rattle.sys_lookup.specs.Callers.{CallerView, caller_in}
use Rattle.sys_lookup.specs.PlaysRow.{PlaysRow}
use Rattle.sys_lookup.proofs.PlayLemmas.{commits_as, step_called, stops_keeping, stops_row, then_plays}
use Rattle.sys_lookup.proofs.making.make.Goals as goal

-- the label and the attributes of what a process makes with a mode
abbrev like : Process → ℕ → Label × Attr
like p mode = (p.label, attr_of p (masked_permissions mode p.umask))

-- the same, as they are had from the caller
like_is : (s : State) (who : Pid) (k : CallerView) (mode : ℕ) (label : Label) (attr : Attr) → label ≡ k.process.label → attr ≡ attr_of k.process (masked_permissions mode k.process.umask) → k ≡ caller_in s who → ◌≡◌ {A = Label × Attr} (label, attr) (like (process_at s who) mode)
like_is s who k mode label attr label_is attr_is same = (λ i. (label_is i, attr_is i)) ∙ ap (λ (x : CallerView). like x.process mode) same

pub returns-in_err-spot-clause-played : goal.returns-in_err-spot-clause-played
returns-in_err-spot-clause-played c =
    let s = c.args.shared.now in
    stops_row {rest = make_object s (process_at s c.args.who.now) c.args.object.mode c.args.object.body} c.from_residual.result c.from_residual.ensures.1 refl
    (step_called (λ k. make_spot k.state k.process c.args.path.now) c.new-caller.ensures.caller c.in_err-spot.ensures.step)

pub returns-in_err-create-clause-played : goal.returns-in_err-create-clause-played
returns-in_err-create-clause-played c =
    let s = c.args.shared.now in
    let log = c.new_spot.new.checks in
    let e = c.in_ok-spot.spot in
    let r = c.from_residual-in_err-create.result in
    then_plays {rest = make_object s (process_at s c.args.who.now) c.args.object.mode c.args.object.body} (step_called (λ k. make_spot k.state k.process c.args.path.now) c.new-caller.ensures.caller c.in_ok-spot.ensures.step)
    (subst (λ x. PlaysRow s log (make_at s x.0 (object_with x.0 x.1 c.args.object.body) e) r c.create.new.shared log) (like_is s c.args.who.now _ c.args.object.mode _ _ c.label-label.ensures c.new_attr-attr.ensures c.new-caller.ensures.caller)
    (stops_keeping {rest = λ _. put_object s c.label-label.result (object_with c.label-label.result c.new_attr-attr.result c.args.object.body) e} r c.from_residual-in_err-create.ensures.1 c.in_err-create.ensures.kept (c.in_err-create.ensures.step log)))

pub returns-clause-played : goal.returns-clause-played
returns-clause-played c =
    let s = c.args.shared.now in
    let log = c.new_spot.new.checks in
    let e = c.in_ok-spot.spot in
    then_plays {rest = make_object s (process_at s c.args.who.now) c.args.object.mode c.args.object.body} (step_called (λ k. make_spot k.state k.process c.args.path.now) c.new-caller.ensures.caller c.in_ok-spot.ensures.step)
    (subst (λ x. PlaysRow s log (make_at s x.0 (object_with x.0 x.1 c.args.object.body) e) (Ok c.done.result) c.create.new.shared log) (like_is s c.args.who.now _ c.args.object.mode _ _ c.label-label.ensures c.new_attr-attr.ensures c.new-caller.ensures.caller)
    (then_plays {rest = λ _. put_object s c.label-label.result (object_with c.label-label.result c.new_attr-attr.result c.args.object.body) e} (c.in_ok-create.ensures.step log)
    (commits_as c.done.ensures c.in_ok-create.ensures.made)))
