use Rattle.std.proofs.Common.{◌≡◌, ◌∙◌, ◌&&◌, ap, sym, refl, Bool, Some}
use Rattle.kern_model.specs.declared.numbers.Oid.{Oid}
use Rattle.kern_model.specs.Kinds.{is_file}
use Rattle.kern_model.specs.State.{State, object_at}
use Rattle.chk_rules.proofs.Steps.{then_goes, stops_there, gives}
use Rattle.sys_lookup.specs.declared.shared.Metadata.{Metadata}
use Rattle.sys_lookup.specs.Shared.{metadata_of}
use Rattle.sys_file.proofs.BranchLemmas.{goes_else, goes_where}
use Rattle.sys_file.proofs.opening.emptied_attr.Goals as goal

-- whether the object is emptied
empties : (found asked file : Bool) (m : Metadata) (s : State) (id : Oid) → found ≡ (asked && file) → file ≡ is_file m.kind → m ≡ metadata_of s id → (asked && is_file (object_at s id).kind) ≡ found
empties found asked file m s id both is same = sym (both ∙ ap (λ b. asked && b) (is ∙ ap (λ (x : Metadata). is_file x.kind) same))

pub returns-in_err-attr-clause-step : goal.returns-in_err-attr-clause-step
returns-in_err-attr-clause-step c = λ s id same.
    let found = empties c.both.result c.args.flags.t c.is_file.result c.args.object.now s id c.both.ensures c.is_file.ensures same in
    goes_where _ (found ∙ c.if-both.true) (stops_there {next = λ attr rest. rest (Some attr)} c.from_residual.result c.from_residual.ensures.1 (c.in_err-attr.ensures s id same))

pub returns-else-both-clause-step : goal.returns-else-both-clause-step
returns-else-both-clause-step c = λ s id same.
    let found = empties c.both.result c.args.flags.t c.is_file.result c.args.object.now s id c.both.ensures c.is_file.ensures same in
    goes_else _ (found ∙ c.if-both.false) (gives refl)

pub returns-in_ok-attr-clause-step : goal.returns-in_ok-attr-clause-step
returns-in_ok-attr-clause-step c = λ s id same.
    let found = empties c.both.result c.args.flags.t c.is_file.result c.args.object.now s id c.both.ensures c.is_file.ensures same in
    goes_where _ (found ∙ c.if-both.true) (then_goes {next = λ attr rest. rest (Some attr)} (c.in_ok-attr.ensures s id same) (gives refl))
