use Rattle.std.proofs.Common.{◌≡◌, ◌∙◌, sym, ap, Some}
use Rattle.std.specs.Option.{option_copied_mut}
use Rattle.cap_bits.specs.FileCaps.{shown}
use Rattle.kern_model.specs.declared.calls.Answer.TheVariants.{Nothing}
use Rattle.kern_model.specs.declared.records.Rec.TheVariants.{Exec}
use Rattle.kern_model.specs.Exec.{exec_caps, exec_ids}
use Rattle.proc_creds.specs.Credentials.{Credentials, taken_on}
use Rattle.proc_creds.proofs.ExecLemmas.{taken_from_file}
use Rattle.sys_lookup.proofs.OwnerLemmas.{owners_creds}
use Rattle.sys_lookup.proofs.PlayLemmas.{commits, equal_record}
use Rattle.sys_proc.proofs.LentLemmas.{left_changed, lent_is, some_lent}
use Rattle.sys_proc.proofs.programs.run.Goals as goal

pub unreachable-requires : goal.unreachable-requires
unreachable-requires c =
    some_lent c.shared.inside c.args.shared.now c.shared.view_is c.args.who.now c.requires.living (sym c.creds_mut.ensures.value ∙ ap option_copied_mut c.in_default.is)

pub invariant_of-shared : goal.invariant_of-shared
invariant_of-shared c =
    let h = c.shared.inside in
    owners_creds h.procs.procs h.fds.processes c.args.who.now c.exec_transform.new.self c.shared.invariant

pub returns : goal.returns
returns c = λ log.
    let s = c.args.shared.now in
    let who = c.args.who.now in
    let m = c.args.program.now in
    let lent = c.in-Some.creds.now in
    let change : Credentials → Credentials = λ x. record x { ids = exec_ids x.ids m.attr; caps = exec_caps x.caps (shown m.attr.caps) s.bound } in
    let left : c.exec_transform.new.self ≡ change lent =
    c.exec_transform.ensures
    ∙ (λ i. record lent { ids = taken_on lent.ids (c.user_of.ensures i) (c.group_of.ensures i); caps = exec_caps lent.caps (shown m.attr.caps) (c.shared.view_is i).bound })
    ∙ (λ i. record lent { ids = taken_from_file lent.ids m.attr i; caps = exec_caps lent.caps (shown m.attr.caps) s.bound }) in
    let same = lent_is c.shared.inside s c.shared.view_is who c.requires.living lent c.in-Some.ensures.value in
    equal_record
    (λ i. Some (Exec who m.id (c.shown.ensures.value i) ((c.creds.view_is ∙ left ∙ ap change (sym same)) i).caps))
    (commits _ _ _ _ Nothing (Some (Exec who m.id c.shown.result c.creds.inside.caps)) (left_changed c.shared.inside s c.shared.view_is who c.requires.living lent c.in-Some.ensures.value change c.exec_transform.new.self left))
