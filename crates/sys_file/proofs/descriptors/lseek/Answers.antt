use Rattle.std.proofs.Common.{◌≡◌, ◌∙◌, ◌≤◌, ◌+ℤ◌, ap, rules, w64, to_z, of_z, sym, refl, subst, ℕ, ℤ, pos, length, true, Err, Result}
use Rattle.std.proofs.lemmas.Int.{to_z-of_z}
use Rattle.kern_model.specs.declared.calls.Errno.TheVariants.{EINVAL}
use Rattle.kern_model.specs.declared.limits.TheConstants.{MAX_FILE_BYTES}
use Rattle.kern_model.specs.declared.numbers.Oid.{Oid}
use Rattle.kern_model.specs.FileRows.{base_of, moves, open_object, opened_to_seek, seek_opened}
use Rattle.kern_model.specs.Kinds.{is_stream}
use Rattle.kern_model.specs.State.{object_at}
use Rattle.chk_rules.specs.declared.stop.Stop.{Stop}
use Rattle.chk_rules.specs.declared.stop.Stop.TheVariants as stop
use Rattle.fd_table.specs.Files.{is_past}
use Rattle.sys_lookup.specs.Callers.{CallerView}
use Rattle.sys_lookup.specs.declared.effect.Effect.{Effect}
use Rattle.sys_lookup.specs.PlaysRow.{PlaysRow}
use Rattle.sys_lookup.proofs.PlayLemmas.{refuse_stops_row, step_called, stops_row, then_plays}
use Rattle.sys_lookup.proofs.RefuseLemmas.{refuses}
use Rattle.sys_file.proofs.ObjectLemmas.{few_there}
use Rattle.sys_file.proofs.ReferLemmas.{described, open_of}
use Rattle.sys_file.proofs.descriptors.lseek.Goals as goal

pub returns-in_err-opened : goal.returns-in_err-opened
returns-in_err-opened c =
    stops_row {rest = seek_opened c.args.shared.now c.args.seek.from c.args.seek.offset} c.from_residual.result c.from_residual.ensures.1 refl
    (step_called (λ k. opened_to_seek k.state k.process c.args.fd) c.new-caller.ensures.caller c.in_err-opened.ensures.step)

pub file_size-size-requires : goal.file_size-size-requires
file_size-size-requires c =
    let s = c.args.shared.now in
    let f = c.in_ok-opened.opened in
    let no_stream = ap (λ (k : CallerView). is_stream (open_object k.state f).kind) (sym c.new-caller.ensures.caller) ∙ c.in_ok-opened.ensures.no_stream in
    let found = described s _ c.args.fd f (open_of c.args.fd _ c.new-caller.ensures.caller c.in_ok-opened.ensures.found) in
    subst (λ (id : Oid). length (object_at s id).bytes ≤ MAX_FILE_BYTES) (sym (λ i. (c.opened.view_is i).description.object)) (few_there s c.requires.valid f.did f.description found no_stream)

pub returns-in-Some : goal.returns-in-Some
returns-in-Some c =
    let s = c.args.shared.now in
    let f = c.in_ok-opened.opened in
    let log = c.opened_to_seek.new.checks in
    let size : c.file_size-size.result ≡ length (open_object s f).bytes = c.file_size-size.ensures ∙ (λ i. length (object_at s (c.opened.view_is i).description.object).bytes) in
    let base : c.base_of.result ≡ base_of s f c.args.seek.from = c.base_of.ensures s size in
    let offset : to_z w64 (of_z w64 c.args.seek.offset) ≡ c.args.seek.offset = to_z-of_z w64 c.args.seek.offset (search rules) in
    let to : c.in-Some.to ≡ (pos (base_of s f c.args.seek.from) +ℤ c.args.seek.offset) = c.in-Some.ensures.some c.in-Some.to refl ∙ (λ i. pos (base i) +ℤ offset i) in
    let passed : to_z w64 (of_z w64 c.in-Some.to) ≡ (pos (base_of s f c.args.seek.from) +ℤ c.args.seek.offset) = to_z-of_z w64 c.in-Some.to (search rules) ∙ to in
    let r = c.move_to.result in
    let t = c.move_to.new.shared in
    then_plays {rest = seek_opened s c.args.seek.from c.args.seek.offset}
    (step_called (λ k. opened_to_seek k.state k.process c.args.fd) c.new-caller.ensures.caller c.in_ok-opened.ensures.step)
    (subst (λ (z : ℤ). PlaysRow s log (moves f z (length (open_object s f).bytes)) r t log) passed
    (subst (λ (n : ℕ). PlaysRow s log (moves f (to_z w64 (of_z w64 c.in-Some.to)) n) r t log) size
    (c.move_to.ensures f log (open_of c.args.fd _ c.new-caller.ensures.caller c.in_ok-opened.ensures.found))))

pub returns-in-None : goal.returns-in-None
returns-in-None c =
    let s = c.args.shared.now in
    let f = c.in_ok-opened.opened in
    let size : c.file_size-size.result ≡ length (open_object s f).bytes = c.file_size-size.ensures ∙ (λ i. length (object_at s (c.opened.view_is i).description.object).bytes) in
    let base : c.base_of.result ≡ base_of s f c.args.seek.from = c.base_of.ensures s size in
    let offset : to_z w64 (of_z w64 c.args.seek.offset) ≡ c.args.seek.offset = to_z-of_z w64 c.args.seek.offset (search rules) in
    let no_stream = ap (λ (k : CallerView). is_stream (open_object k.state f).kind) (sym c.new-caller.ensures.caller) ∙ c.in_ok-opened.ensures.no_stream in
    let found = described s _ c.args.fd f (open_of c.args.fd _ c.new-caller.ensures.caller c.in_ok-opened.ensures.found) in
    let few : length (open_object s f).bytes ≤ MAX_FILE_BYTES = few_there s c.requires.valid f.did f.description found no_stream in
    let past : is_past (pos (base_of s f c.args.seek.from) +ℤ c.args.seek.offset) (length (open_object s f).bytes) ≡ true =
    (λ i. is_past (pos (sym base i) +ℤ sym offset i) (length (open_object s f).bytes)) ∙ c.in-None.ensures.none (length (open_object s f).bytes) few refl in
    let r : Result Effect Stop = Err (stop.Refused EINVAL) in
    then_plays {rest = seek_opened s c.args.seek.from c.args.seek.offset}
    (step_called (λ k. opened_to_seek k.state k.process c.args.fd) c.new-caller.ensures.caller c.in_ok-opened.ensures.step)
    (refuse_stops_row r refl refl (refuses past))
