use Rattle.std.proofs.Common.{◌∙◌, ap, subst, sym, refl, ◌++◌, Option, None, Some}
use Rattle.kern_model.specs.declared.calls.Answer.TheVariants as answer
use Rattle.kern_model.specs.declared.objects.Attr.{Attr}
use Rattle.kern_model.specs.declared.numbers.Oid.{Oid}
use Rattle.kern_model.specs.declared.numbers.Pid.{Pid}
use Rattle.kern_model.specs.declared.calls.OpenFlags.{OpenFlags}
use Rattle.kern_model.specs.declared.objects.Object.{Object}
use Rattle.kern_model.specs.FileRows.{description_creation}
use Rattle.kern_model.specs.OpenRows.{truncation_if}
use Rattle.kern_model.specs.Keys.{oid_cmp}
use Rattle.kern_model.specs.State.{State, Process, apply_changes, object_at, process_at}
use Rattle.std.proofs.Common.{◌≡◌}
use Rattle.std.specs.FinMap.{FinMap}
use Rattle.fs_nodes.specs.Nodes.{IsFile}
use Rattle.sys_lookup.proofs.PlayLemmas.{commits_as, no_memory_row}
use Rattle.sys_file.proofs.BranchLemmas.{answering}
use Rattle.sys_file.specs.Opening.{CanBeEmptied}
use Rattle.sys_file.proofs.opening.open_present.Goals as goal

-- whether it can be emptied does not depend on descriptors
still : (s t : State) (id : Oid) (emptied : Option Attr) → t.objects ≡ s.objects → CanBeEmptied s id emptied → CanBeEmptied t id emptied
still s t id None same can = tt
still s t id (Some attr) same can = subst (λ (m : FinMap oid_cmp Object). IsFile m id) (sym same) can

-- the content changes before the description is made or after it
either : (s : State) (who : Pid) (p : Process) (id : Oid) (flags : OpenFlags) (emptied : Option Attr) → (
    let u = apply_changes s (description_creation s who p id flags) in
    apply_changes u (truncation_if id (object_at u id) emptied) ≡ apply_changes s (truncation_if id (object_at s id) emptied ++ description_creation s who p id flags))
either s who p id flags None = refl
either s who p id flags (Some attr) = refl

pub set_content-requires : goal.set_content-requires
set_content-requires c = still c.args.shared.now c.describe.new.shared c.args.id.now c.args.emptied c.in_ok-fd.ensures.objects c.requires.file

pub returns-in_err-fd : goal.returns-in_err-fd
returns-in_err-fd c = λ log. no_memory_row c.from_residual.result c.from_residual.ensures.1

pub returns : goal.returns
returns c = λ log.
    let s = c.args.shared.now in
    let who = c.args.who.now in
    let p = process_at s who in
    let id = c.args.id.now in
    commits_as {changes = truncation_if id (object_at s id) c.args.emptied ++ description_creation s who p id c.args.flags} (answering c.answers.ensures (ap answer.Number c.in_ok-fd.ensures.fd))
    (c.set_content.ensures ∙ ap (λ (u : State). apply_changes u (truncation_if id (object_at u id) c.args.emptied)) c.in_ok-fd.ensures.described ∙ either s who p id c.args.flags c.args.emptied)
