-- The row of `read` after its first checks.
use Rattle.std.specs.Prelude.{◌≡◌, ℕ, ⊤, true, false, Result, Ok, Err, refl}
use Rattle.std.specs.Result.{IsErrAnd}
use Rattle.std.proofs.Common.{sym, subst}
use Rattle.kern_model.specs.declared.checks.Check.{Check}
use Rattle.kern_model.specs.declared.checks.Place.TheVariants.{Handle}
use Rattle.kern_model.specs.Descriptors.{Opened}
use Rattle.kern_model.specs.FileRows.{comes_out, open_object, read_as, read_opened}
use Rattle.kern_model.specs.Kinds.{is_stream}
use Rattle.kern_model.specs.Row.{Row, Need, need_if}
use Rattle.kern_model.specs.Rules.{mac_write}
use Rattle.kern_model.specs.State.{State, Process}
use Rattle.chk_rules.specs.CheckLog.{CheckLog}
use Rattle.chk_rules.specs.RowSteps.{GoesOn}
use Rattle.chk_rules.specs.declared.stop.Stop.{Stop}
use Rattle.sys_lookup.specs.declared.effect.Effect.{Effect}
use Rattle.sys_lookup.specs.PlaysRow.{PlaysRow}
use Rattle.sys_lookup.proofs.AskLemmas.{asked, not_asked}
use Rattle.sys_lookup.proofs.PlayLemmas.{item_plays, item_stops_row}

abbrev may_write : State → Process → Opened → Check
may_write s p f = mac_write s p f.description.object Handle

module _ {s t : State} {a c : CheckLog} {r : Result Effect Stop} (p : Process) (n : ℕ) (f : Opened) where
  -- nothing more is asked of a file
  pub file_plays : is_stream (open_object s f).kind ≡ false → PlaysRow s a (comes_out false s n f (open_object s f)) r t c → PlaysRow s a (read_opened s p n f) r t c
  file_plays is plays =
      subst (λ b. PlaysRow s a (read_as b s p n f) r t c) (sym is) (item_plays (need_if false (may_write s p f)) (not_asked a (may_write s p f) refl) plays)

  -- of a stream the caller is to be able to write
  pub stream_plays : {b : CheckLog} → is_stream (open_object s f).kind ≡ true → GoesOn a (λ (rest : ⊤ → Row). Need (may_write s p f) (rest tt)) (Ok tt) b
      → PlaysRow s b (comes_out true s n f (open_object s f)) r t c → PlaysRow s a (read_opened s p n f) r t c
  stream_plays {b = b} is step plays = subst (λ x. PlaysRow s a (read_as x s p n f) r t c) (sym is) (item_plays (need_if true (may_write s p f)) (asked refl step) plays)

  pub stream_stops : {how : Stop} → is_stream (open_object s f).kind ≡ true → IsErrAnd r (λ e. e ≡ how) → t ≡ s
      → GoesOn a (λ (rest : ⊤ → Row). Need (may_write s p f) (rest tt)) (Err how) c → PlaysRow s a (read_opened s p n f) r t c
  stream_stops is err same step = subst (λ x. PlaysRow s a (read_as x s p n f) r t c) (sym is) (item_stops_row (need_if true (may_write s p f)) r err same (asked refl step))
