use Rattle.std.proofs.Common.{◌≡◌, ◌∙◌, ap, subst, IfOk, OnOk}
use Rattle.lab_lattice.specs.Label.{Label}
use Rattle.kern_model.specs.declared.objects.Attr.{Attr}
use Rattle.kern_model.specs.declared.objects.Body.TheVariants as body
use Rattle.kern_model.specs.Create.{attr_of, object_addition, has_object_number}
use Rattle.kern_model.specs.FileRows.{pipe_mode}
use Rattle.kern_model.specs.Kinds.{object_with}
use Rattle.kern_model.specs.State.{apply_changes, next_object, process_at}
use Rattle.proc_table.specs.Procs.{creds_of}
use Rattle.sys_lookup.specs.Callers.{CallerView}
use Rattle.sys_file.proofs.pipes.create_pipe.Goals as goal

pub create-requires : goal.create-requires
create-requires c = ap (has_object_number c.args.shared.now) (c.label-label.ensures ∙ ap (λ (k : CallerView). k.process.label) c.new-caller.ensures.caller) ∙ c.requires.number

pub returns-clause-id : goal.returns-clause-id
returns-clause-id c =
    let label_is = c.label-label.ensures ∙ ap (λ (k : CallerView). k.process.label) c.new-caller.ensures.caller in
    subst (λ (l : Label). IfOk c.create.result (λ id. id ≡ next_object c.args.shared.now l)) label_is c.create.ensures.id

pub returns-clause-made : goal.returns-clause-made
returns-clause-made c =
    let s = c.args.shared.now in
    let p = process_at s c.args.who.now in
    let label_is = c.label-label.ensures ∙ ap (λ (k : CallerView). k.process.label) c.new-caller.ensures.caller in
    let creds = c.creds.view_is ∙ c.creds-creds.ensures ∙ ap (λ (k : CallerView). creds_of k.process) c.new-caller.ensures.caller in
    let attr_is : record { owner = c.creds.inside.ids.euid; group = c.creds.inside.ids.egid; mode = pipe_mode; caps = c.none.result } ≡ attr_of p pipe_mode =
    λ i. record { owner = (creds i).ids.euid; group = (creds i).ids.egid; mode = pipe_mode; caps = c.none.ensures i } in
    subst (λ (x : Label × Attr). OnOk c.create.result (c.create.new.self ≡ apply_changes s (object_addition s x.0 (object_with x.0 x.1 body.Pipe)))) (λ i. (label_is i, attr_is i)) c.create.ensures.drawn
