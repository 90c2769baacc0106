use Rattle.std.proofs.Common.{◌≡◌, ◌∙◌, ap, subst, sym, Bool, cond, false, true, Result}
use Rattle.kern_model.specs.declared.checks.Place.{Place}
use Rattle.kern_model.specs.declared.numbers.Oid.{Oid}
use Rattle.kern_model.specs.declared.objects.Attr.{Attr}
use Rattle.kern_model.specs.FileRows.{unprivileged}
use Rattle.kern_model.specs.Row.{Row, Soft}
use Rattle.kern_model.specs.Rules.{fsetid, is_plain}
use Rattle.kern_model.specs.State.{State, object_at}
use Rattle.chk_rules.specs.CheckLog.{CheckLog}
use Rattle.chk_rules.specs.RowSteps.{GoesOn}
use Rattle.chk_rules.specs.declared.stop.Stop.{Stop}
use Rattle.chk_rules.proofs.Steps.{then_goes, stops_there, gives}
use Rattle.sys_lookup.specs.declared.shared.Metadata.{Metadata}
use Rattle.sys_lookup.specs.Shared.{metadata_of}
use Rattle.sys_lookup.proofs.caller.Caller.kept_attr.Goals as goal

-- the attributes that stay, if they may
abbrev staying : State → Oid → Bool → (Attr → Row) → Row
staying s id may rest = rest (cond may (object_at s id).attr (unprivileged (object_at s id).attr))

-- the soft check, where it is known whether the attributes are plain
asked : (a b : CheckLog) (r : Result Bool Stop) (s : State) (id : Oid) (at : Place) (file : Metadata) (plain : Bool) → plain ≡ is_plain file.attr → file ≡ metadata_of s id → GoesOn a (λ (rest : Bool → Row). Soft (fsetid s plain id at) (rest true) (rest false)) r b
    → GoesOn a (λ (rest : Bool → Row). Soft (fsetid s (is_plain (object_at s id).attr) id at) (rest true) (rest false)) r b
asked a b r s id at file plain is same step = subst (λ p. GoesOn a (λ (rest : Bool → Row). Soft (fsetid s p id at) (rest true) (rest false)) r b) (is ∙ ap (λ (m : Metadata). is_plain m.attr) same) step

pub returns-in_err-fsetid : goal.returns-in_err-fsetid
returns-in_err-fsetid c = λ s id same.
    stops_there {next = staying s id} c.from_residual.result c.from_residual.ensures.1
    (asked _ _ _ s id c.args.place c.args.file.now _ c.is_plain.ensures same (c.in_err-fsetid.ensures s id same))

pub returns-then-branch : goal.returns-then-branch
returns-then-branch c = λ s id same.
    let attr = (object_at s id).attr in
    then_goes {next = staying s id} (asked _ _ _ s id c.args.place c.args.file.now _ c.is_plain.ensures same (c.in_ok-fsetid.ensures s id same))
    (gives (ap (λ (m : Metadata). m.attr) same ∙ sym (ap (λ b. cond b attr (unprivileged attr)) c.if-branch.true)))

pub returns-else-branch : goal.returns-else-branch
returns-else-branch c = λ s id same.
    let attr = (object_at s id).attr in
    then_goes {next = staying s id} (asked _ _ _ s id c.args.place c.args.file.now _ c.is_plain.ensures same (c.in_ok-fsetid.ensures s id same))
    (gives (c.plain_attr.ensures ∙ ap (λ (m : Metadata). unprivileged m.attr) same ∙ sym (ap (λ b. cond b attr (unprivileged attr)) c.if-branch.false)))
