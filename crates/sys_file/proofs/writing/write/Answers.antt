use Rattle.std.proofs.Common.{◌∙◌, ◌+◌, ap, sym, subst, refl, length, is_some, Ok}
use Rattle.kern_model.specs.FileRows.{offset_change, open_object, put_in, write_opened, writes_at}
use Rattle.kern_model.specs.State.{apply_change}
use Rattle.fs_nodes.specs.Nodes.{IsFile}
use Rattle.sys_lookup.proofs.PlayLemmas.{no_memory_row, stops_row, then_plays}
use Rattle.sys_lookup.specs.declared.effect.Effect.{Effect}
use Rattle.sys_lookup.specs.PlaysRow.{PlaysRow}
use Rattle.sys_file.specs.declared.access.Access.TheVariants.{Write}
use Rattle.sys_file.proofs.AccessLemmas.{access_plays, access_stops, metadata_is, stream_is}
use Rattle.sys_file.proofs.BranchLemmas.{plays_else, plays_where}
use Rattle.sys_file.proofs.ObjectLemmas.{file_there, stream_there}
use Rattle.sys_file.proofs.WriteLemmas.{none_written, some_stopped, some_written}
use Rattle.sys_file.proofs.ReferLemmas.{described, open_of}
use Rattle.sys_file.proofs.writing.write.Goals as goal

pub returns-in_err-opened : goal.returns-in_err-opened
returns-in_err-opened c =
    access_stops c.new-caller.ensures.caller Write c.args.fd (write_opened c.args.shared.now c.args.bytes.now) c.from_residual.ensures.1 c.in_err-opened.ensures.step

pub write_stream-requires : goal.write_stream-requires
write_stream-requires c =
    let s = c.args.shared.now in
    stream_there s c.in_ok-opened.opened.description.object (stream_is c.new-caller.ensures.caller c.in_ok-opened.opened c.in_ok-opened.ensures.object c.is_stream.ensures c.if-is_stream.true)

pub returns-then-is_stream : goal.returns-then-is_stream
returns-then-is_stream c =
    let s = c.args.shared.now in
    access_plays c.new-caller.ensures.caller Write c.args.fd (write_opened s c.args.bytes.now) c.in_ok-opened.ensures.step
    (plays_where _ (stream_is c.new-caller.ensures.caller c.in_ok-opened.opened c.in_ok-opened.ensures.object c.is_stream.ensures c.if-is_stream.true)
    (c.write_stream.ensures c.opened_for.new.checks))

pub place_to_write-requires-clause-file : goal.place_to_write-requires-clause-file
place_to_write-requires-clause-file c =
    let s = c.args.shared.now in
    let f = c.in_ok-opened.opened in
    let found = described s _ c.args.fd f (open_of c.args.fd f c.new-caller.ensures.caller c.in_ok-opened.ensures.found) in
    file_there s c.requires.valid f.did f.description found (stream_is c.new-caller.ensures.caller c.in_ok-opened.opened c.in_ok-opened.ensures.object c.is_stream.ensures c.if-is_stream.false)

pub returns-in_err-at : goal.returns-in_err-at
returns-in_err-at c =
    let s = c.args.shared.now in
    let f = c.in_ok-opened.opened in
    let bytes = c.args.bytes.now in
    access_plays c.new-caller.ensures.caller Write c.args.fd (write_opened s bytes) c.in_ok-opened.ensures.step
    (plays_else _ (stream_is c.new-caller.ensures.caller c.in_ok-opened.opened c.in_ok-opened.ensures.object c.is_stream.ensures c.if-is_stream.false)
    (stops_row {rest = writes_at bytes f (open_object s f)} c.from_residual-in_err-at.result c.from_residual-in_err-at.ensures.1 refl (c.in_err-at.ensures.step c.opened_for.new.checks)))

pub move_after-requires-clause-open : goal.move_after-requires-clause-open
move_after-requires-clause-open c = ap is_some (open_of c.args.fd _ c.new-caller.ensures.caller c.in_ok-opened.ensures.found)

pub returns-then-is_empty : goal.returns-then-is_empty
returns-then-is_empty c =
    let s = c.args.shared.now in
    let f = c.in_ok-opened.opened in
    let bytes = c.args.bytes.now in
    let at = c.in_ok-at.at in
    let log = c.opened_for.new.checks in
    let t = c.move_after.new.shared in
    access_plays c.new-caller.ensures.caller Write c.args.fd (write_opened s bytes) c.in_ok-opened.ensures.step
    (plays_else _ (stream_is c.new-caller.ensures.caller c.in_ok-opened.opened c.in_ok-opened.ensures.object c.is_stream.ensures c.if-is_stream.false)
    (then_plays {rest = writes_at bytes f (open_object s f)} (c.in_ok-at.ensures.step log)
    (subst (λ (e : Effect). PlaysRow s log (writes_at bytes f (open_object s f) at) (Ok e) t log) (sym c.move_after.ensures.effect)
    (none_written s bytes f (open_object s f) at log t (sym c.is_empty.ensures ∙ c.if-is_empty.true) (c.move_after.ensures.moved f (open_of c.args.fd _ c.new-caller.ensures.caller c.in_ok-opened.ensures.found))))))

pub returns-in_err-attr : goal.returns-in_err-attr
returns-in_err-attr c =
    let s = c.args.shared.now in
    let f = c.in_ok-opened.opened in
    access_plays c.new-caller.ensures.caller Write c.args.fd (write_opened s c.args.bytes.now) c.in_ok-opened.ensures.step
    (plays_else _ (stream_is c.new-caller.ensures.caller c.in_ok-opened.opened c.in_ok-opened.ensures.object c.is_stream.ensures c.if-is_stream.false)
    (then_plays {rest = writes_at c.args.bytes.now f (open_object s f)} (c.in_ok-at.ensures.step c.opened_for.new.checks)
    (some_stopped s c.args.bytes.now f (open_object s f) c.in_ok-at.at c.opened_for.new.checks c.kept_attr.new.checks _ c.from_residual-in_err-attr.result (sym c.is_empty.ensures ∙ c.if-is_empty.false) c.from_residual-in_err-attr.ensures.1
    (c.in_err-attr.ensures s f.description.object (metadata_is c.new-caller.ensures.caller c.in_ok-opened.ensures.object)))))

pub overwrite-requires-clause-file : goal.overwrite-requires-clause-file
overwrite-requires-clause-file c =
    let s = c.args.shared.now in
    let f = c.in_ok-opened.opened in
    let found = described s _ c.args.fd f (open_of c.args.fd f c.new-caller.ensures.caller c.in_ok-opened.ensures.found) in
    subst (IsFile s.objects) (sym (λ i. (c.opened.view_is i).description.object))
    (file_there s c.requires.valid f.did f.description found (stream_is c.new-caller.ensures.caller c.in_ok-opened.opened c.in_ok-opened.ensures.object c.is_stream.ensures c.if-is_stream.false))

pub returns-in_err-overwrite : goal.returns-in_err-overwrite
returns-in_err-overwrite c = no_memory_row c.from_residual-in_err-overwrite.result c.from_residual-in_err-overwrite.ensures.1

pub move_after-requires-2-clause-open : goal.move_after-requires-2-clause-open
move_after-requires-2-clause-open c = ap is_some (c.in_ok-overwrite.ensures.open c.args.who.now c.args.fd ∙ open_of c.args.fd _ c.new-caller.ensures.caller c.in_ok-opened.ensures.found)

pub returns : goal.returns
returns c =
    let s = c.args.shared.now in
    let f = c.in_ok-opened.opened in
    let bytes = c.args.bytes.now in
    let at = c.in_ok-at.at in
    let attr = c.in_ok-attr.attr in
    let log = c.opened_for.new.checks in
    let t = c.move_after-2.new.shared in
    let found = c.in_ok-overwrite.ensures.open c.args.who.now c.args.fd ∙ open_of c.args.fd _ c.new-caller.ensures.caller c.in_ok-opened.ensures.found in
    let written = c.in_ok-overwrite.ensures.written ∙ (λ i. apply_change s (put_in bytes (c.opened.view_is i) (open_object s (c.opened.view_is i)) at attr)) in
    access_plays c.new-caller.ensures.caller Write c.args.fd (write_opened s bytes) c.in_ok-opened.ensures.step
    (plays_else _ (stream_is c.new-caller.ensures.caller c.in_ok-opened.opened c.in_ok-opened.ensures.object c.is_stream.ensures c.if-is_stream.false)
    (then_plays {rest = writes_at bytes f (open_object s f)} (c.in_ok-at.ensures.step log)
    (subst (λ (e : Effect). PlaysRow s log (writes_at bytes f (open_object s f) at) (Ok e) t c.kept_attr.new.checks) (sym c.move_after-2.ensures.effect)
    (some_written s bytes f (open_object s f) at log c.kept_attr.new.checks attr t (sym c.is_empty.ensures ∙ c.if-is_empty.false)
    (c.in_ok-attr.ensures s f.description.object (metadata_is c.new-caller.ensures.caller c.in_ok-opened.ensures.object))
    (c.move_after-2.ensures.moved f found ∙ ap (λ x. apply_change x (offset_change f (at + length bytes))) written)))))
