-- The rows of `read` and `write` after their first step.
use Rattle.std.specs.Prelude.{◌≡◌, ℕ, Bool, Ok, Err, Result, refl}
use Rattle.std.specs.Result.{IsErrAnd}
use Rattle.std.proofs.Common.{ap, sym, ◌∙◌}
use Rattle.kern_model.specs.declared.numbers.Oid.{Oid}
use Rattle.kern_model.specs.declared.numbers.Pid.{Pid}
use Rattle.kern_model.specs.Descriptors.{Opened}
use Rattle.kern_model.specs.FileRows.{open_object}
use Rattle.kern_model.specs.Kinds.{is_stream}
use Rattle.kern_model.specs.Row.{Row}
use Rattle.kern_model.specs.State.{State, process_at}
use Rattle.chk_rules.specs.CheckLog.{CheckLog}
use Rattle.chk_rules.specs.RowSteps.{GoesOn}
use Rattle.chk_rules.specs.declared.stop.Stop.{Stop}
use Rattle.sys_lookup.specs.Callers.{CallerView, caller_in}
use Rattle.sys_lookup.specs.declared.effect.Effect.{Effect}
use Rattle.sys_lookup.specs.declared.shared.Metadata.{Metadata}
use Rattle.sys_lookup.specs.PlaysRow.{PlaysRow}
use Rattle.sys_lookup.specs.Shared.{metadata_of}
use Rattle.sys_lookup.proofs.PlayLemmas.{step_called, stops_row, then_plays}
use Rattle.sys_file.specs.Access.{opened_for}
use Rattle.sys_file.specs.declared.access.Access.{Access}

module _ {s : State} {who : Pid} {k : CallerView} (caller : k ≡ caller_in s who) where
  -- the metadata of an object are the same in the state of the caller
  pub metadata_is : {id : Oid} {m : Metadata} → m ≡ metadata_of k.state id → m ≡ metadata_of s id
  metadata_is {id} is = is ∙ ap (λ (x : CallerView). metadata_of x.state id) caller

  -- whether what a descriptor refers to is a stream
  pub stream_is : (f : Opened) {m : Metadata} {b c : Bool} → m ≡ metadata_of k.state f.description.object → b ≡ is_stream m.kind → b ≡ c → is_stream (open_object s f).kind ≡ c
  stream_is f is reads known = ap (λ (m : Metadata). is_stream m.kind) (sym (metadata_is is)) ∙ sym reads ∙ known

  module _ (access : Access) (fd : ℕ) (row : Opened → Row) {a b : CheckLog} {r : Result Effect Stop} where
    -- the descriptor is open for this, and the rest of the row is played
    pub access_plays : {f : Opened} {m : Metadata} {t : State} {c : CheckLog} → GoesOn a (opened_for access k.state k.process fd) (Ok (f, m)) b → PlaysRow s b (row f) r t c → PlaysRow s a (opened_for access s (process_at s who) fd (λ x. row x.0)) r t c
    access_plays step plays = then_plays {rest = λ x. row x.0} (step_called (λ (x : CallerView). opened_for access x.state x.process fd) caller step) plays

    -- it is not, and the body has changed nothing
    pub access_stops : {how : Stop} → IsErrAnd r (λ e. e ≡ how) → GoesOn a (opened_for access k.state k.process fd) (Err how) b → PlaysRow s a (opened_for access s (process_at s who) fd (λ x. row x.0)) r s b
    access_stops is step = stops_row {rest = λ x. row x.0} r is refl (step_called (λ (x : CallerView). opened_for access x.state x.process fd) caller step)
