use Rattle.kern_model.specs.declared.calls.Call.TheVariants as call
use Rattle.script_text.specs.Calls.{two_parsed}
use Rattle.script_text.proofs.CallLemmas.{both_answer, made_answer, exact_answer}
use Rattle.script_text.proofs.call.call_of_two.Goals as goal

pub returns-in-Read : goal.returns-in-Read
unfolding two_parsed
returns-in-Read c = rw c.in-Read.is (made_answer _ _ (λ args. call.Read args.0 args.1) _ (both_answer _ _ _ _ (exact_answer _ _ c.number.ensures) (exact_answer _ _ c.up_to.ensures)) c.two-in-Read.ensures)

pub returns-in-Write : goal.returns-in-Write
unfolding two_parsed
returns-in-Write c = rw c.in-Write.is (made_answer _ _ (λ args. call.Write args.0 args.1) _ (both_answer _ _ _ _ (exact_answer _ _ c.number-in-Write.ensures) c.bytes.ensures) c.two-in-Write.ensures)

pub returns-in-Mkfifo : goal.returns-in-Mkfifo
unfolding two_parsed
returns-in-Mkfifo c = rw c.in-Mkfifo.is (made_answer _ _ (λ args. call.Mkfifo args.0 args.1) _ (both_answer _ _ _ _ c.path-in-Mkfifo.ensures (exact_answer _ _ c.mode.ensures)) c.two-in-Mkfifo.ensures)

pub returns-in-Mkdir : goal.returns-in-Mkdir
unfolding two_parsed
returns-in-Mkdir c = rw c.in-Mkdir.is (made_answer _ _ (λ args. call.Mkdir args.0 args.1) _ (both_answer _ _ _ _ c.path-in-Mkdir.ensures (exact_answer _ _ c.mode-in-Mkdir.ensures)) c.two-in-Mkdir.ensures)

pub returns-in-Link : goal.returns-in-Link
unfolding two_parsed
returns-in-Link c = rw c.in-Link.is (made_answer _ _ (λ args. call.Link args.0 args.1) _ (both_answer _ _ _ _ c.path-in-Link.ensures c.path-in-Link-2.ensures) c.two-in-Link.ensures)

pub returns-in-Rename : goal.returns-in-Rename
unfolding two_parsed
returns-in-Rename c = rw c.in-Rename.is (made_answer _ _ (λ args. call.Rename args.0 args.1) _ (both_answer _ _ _ _ c.path-in-Rename.ensures c.path-in-Rename-2.ensures) c.two-in-Rename.ensures)

pub returns-in-Chmod : goal.returns-in-Chmod
unfolding two_parsed
returns-in-Chmod c = rw c.in-Chmod.is (made_answer _ _ (λ args. call.Chmod args.0 args.1) _ (both_answer _ _ _ _ c.path-in-Chmod.ensures (exact_answer _ _ c.mode-in-Chmod.ensures)) c.two-in-Chmod.ensures)

pub returns-in-CapSetFile : goal.returns-in-CapSetFile
unfolding two_parsed
returns-in-CapSetFile c = rw c.in-CapSetFile.is (made_answer _ _ (λ args. call.CapSetFile args.0 args.1) _ (both_answer _ _ _ _ c.path-in-CapSetFile.ensures (exact_answer _ _ c.caps.ensures)) c.two-in-CapSetFile.ensures)

pub returns-in-CapSetFd : goal.returns-in-CapSetFd
unfolding two_parsed
returns-in-CapSetFd c = rw c.in-CapSetFd.is (made_answer _ _ (λ args. call.CapSetFd args.0 args.1) _ (both_answer _ _ _ _ (exact_answer _ _ c.number-in-CapSetFd.ensures) (exact_answer _ _ c.caps-in-CapSetFd.ensures)) c.two-in-CapSetFd.ensures)

pub returns-in-MacSetFile : goal.returns-in-MacSetFile
unfolding two_parsed
returns-in-MacSetFile c = rw c.in-MacSetFile.is (made_answer _ _ (λ args. call.MacSetFile args.0 args.1) _ (both_answer _ _ _ _ c.path-in-MacSetFile.ensures (exact_answer _ _ c.label.ensures)) c.two-in-MacSetFile.ensures)

pub returns-in-MacSetFd : goal.returns-in-MacSetFd
unfolding two_parsed
returns-in-MacSetFd c = rw c.in-MacSetFd.is (made_answer _ _ (λ args. call.MacSetFd args.0 args.1) _ (both_answer _ _ _ _ (exact_answer _ _ c.number-in-MacSetFd.ensures) (exact_answer _ _ c.label-in-MacSetFd.ensures)) c.two-in-MacSetFd.ensures)

pub returns-in-Kill : goal.returns-in-Kill
unfolding two_parsed
returns-in-Kill c = rw c.in-Kill.is (made_answer _ _ (λ args. call.Kill args.0 args.1) _ (both_answer _ _ _ _ (exact_answer _ _ c.pid.ensures) (exact_answer _ _ c.signal.ensures)) c.two-in-Kill.ensures)
