use Rattle.kern_model.specs.Row.{Need}
use Rattle.kern_model.specs.Rules.{mac_write}
use Rattle.kern_model.specs.declared.checks.Place.TheVariants.{Handle}
use Rattle.kern_model.specs.FileRows.{read_opened}
use Rattle.kern_model.specs.State.{process_at}
use Rattle.std.proofs.Common.{refl}
use Rattle.sys_lookup.proofs.PlayLemmas.{step_called}
use Rattle.sys_file.specs.declared.access.Access.TheVariants.{Read}
use Rattle.sys_file.proofs.AccessLemmas.{access_plays, access_stops, metadata_is, stream_is}
use Rattle.sys_file.proofs.ObjectLemmas.{file_there, stream_there}
use Rattle.sys_file.proofs.ReadLemmas.{file_plays, stream_plays, stream_stops}
use Rattle.sys_file.proofs.ReferLemmas.{described, open_of}
use Rattle.sys_file.proofs.reading.read.Goals as goal

pub returns-in_err-opened : goal.returns-in_err-opened
returns-in_err-opened c =
    let s = c.args.shared.now in
    access_stops c.new-caller.ensures.caller Read c.args.fd (read_opened s (process_at s c.args.who.now) c.args.n) c.from_residual.ensures.1 c.in_err-opened.ensures.step

pub read_file-requires-clause-open : goal.read_file-requires-clause-open
read_file-requires-clause-open c = open_of c.args.fd _ c.new-caller.ensures.caller c.in_ok-opened.ensures.found

pub read_file-requires-clause-file : goal.read_file-requires-clause-file
read_file-requires-clause-file c =
    let same = c.new-caller.ensures.caller in
    let f = c.in_ok-opened.opened in
    let found = described c.args.shared.now _ c.args.fd f (open_of c.args.fd f same c.in_ok-opened.ensures.found) in
    file_there c.args.shared.now c.requires.valid f.did f.description found (stream_is same f c.in_ok-opened.ensures.object c.is_stream.ensures c.if-not-is_stream.true)

pub returns-then-not-is_stream : goal.returns-then-not-is_stream
returns-then-not-is_stream c =
    let s = c.args.shared.now in
    let p = process_at s c.args.who.now in
    let same = c.new-caller.ensures.caller in
    let f = c.in_ok-opened.opened in
    access_plays same Read c.args.fd (read_opened s p c.args.n) c.in_ok-opened.ensures.step
    (file_plays p c.args.n f (stream_is same f c.in_ok-opened.ensures.object c.is_stream.ensures c.if-not-is_stream.true) (c.read_file.ensures c.opened_for.new.checks))

pub returns-in_err-mac_write : goal.returns-in_err-mac_write
returns-in_err-mac_write c =
    let p = process_at c.args.shared.now c.args.who.now in
    let f = c.in_ok-opened.opened in
    access_plays c.new-caller.ensures.caller Read c.args.fd (read_opened c.args.shared.now p c.args.n) c.in_ok-opened.ensures.step
    (stream_stops p c.args.n f (stream_is c.new-caller.ensures.caller f c.in_ok-opened.ensures.object c.is_stream.ensures c.if-not-is_stream.false) c.from_residual-in_err-mac_write.ensures.1 refl
    (step_called (λ k rest. Need (mac_write c.args.shared.now k.process f.description.object Handle) (rest tt)) c.new-caller.ensures.caller (c.in_err-mac_write.ensures c.args.shared.now f.description.object (metadata_is c.new-caller.ensures.caller c.in_ok-opened.ensures.object))))

pub read_stream-requires-clause-stream : goal.read_stream-requires-clause-stream
read_stream-requires-clause-stream c =
    let f = c.in_ok-opened.opened in
    stream_there c.args.shared.now f.description.object (stream_is c.new-caller.ensures.caller f c.in_ok-opened.ensures.object c.is_stream.ensures c.if-not-is_stream.false)

pub returns : goal.returns
returns c =
    let p = process_at c.args.shared.now c.args.who.now in
    let f = c.in_ok-opened.opened in
    access_plays c.new-caller.ensures.caller Read c.args.fd (read_opened c.args.shared.now p c.args.n) c.in_ok-opened.ensures.step
    (stream_plays p c.args.n f (stream_is c.new-caller.ensures.caller f c.in_ok-opened.ensures.object c.is_stream.ensures c.if-not-is_stream.false)
    (step_called (λ k rest. Need (mac_write c.args.shared.now k.process f.description.object Handle) (rest tt)) c.new-caller.ensures.caller (c.in_ok-mac_write.ensures c.args.shared.now f.description.object (metadata_is c.new-caller.ensures.caller c.in_ok-opened.ensures.object)))
    (c.read_stream.ensures c.mac_write.new.checks))
