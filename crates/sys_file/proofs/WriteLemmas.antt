-- The row of `write` after its first checks.
use Rattle.std.specs.Prelude.{◌≡◌, ℕ, ◌+◌, ◌==◌, ⊤, Bool, true, false, List, [], ◌∷◌, None, Result, Ok, Err, length, refl}
use Rattle.std.specs.Result.{IsErrAnd}
use Rattle.kern_model.specs.declared.calls.Answer.TheVariants as answer
use Rattle.kern_model.specs.declared.checks.Place.TheVariants.{Handle}
use Rattle.kern_model.specs.declared.objects.Attr.{Attr}
use Rattle.kern_model.specs.declared.objects.Object.{Object}
use Rattle.kern_model.specs.Descriptors.{Opened}
use Rattle.kern_model.specs.FileRows.{keeps_attr, move_after, offset_change, put_in, writes_at}
use Rattle.kern_model.specs.declared.calls.Errno.{Errno}
use Rattle.kern_model.specs.declared.numbers.Pid.{Pid}
use Rattle.cap_bits.specs.CapSet.{no_caps}
use Rattle.lab_lattice.specs.Label.{bottom}
use Rattle.kern_model.specs.Row.{Row, Refuse}
use Rattle.kern_model.specs.State.{State, Change, apply_change}
use Rattle.chk_rules.specs.CheckLog.{CheckLog, check_log}
use Rattle.chk_rules.specs.RowSteps.{GoesOn}
use Rattle.chk_rules.specs.declared.stop.Stop.{Stop}
use Rattle.sys_lookup.specs.declared.effect.Effect.{Effect}
use Rattle.sys_lookup.specs.PlaysRow.{PlaysRow}
use Rattle.sys_lookup.proofs.CheckLemmas.{not_refused}
use Rattle.sys_lookup.proofs.PlayLemmas.{then_plays, stops_row, commits}
use Rattle.sys_file.proofs.BranchLemmas.{plays_else, plays_where}

-- A piece goes into a file at a place.
module _ (s : State) (bytes : List ℕ) (f : Opened) (o : Object) (at : ℕ) (a : CheckLog) where
  abbrev counted : Result Effect Stop
  counted = Ok (record { answer = answer.Number (length bytes); own = None })

  -- the offset moves after it
  abbrev after : Change
  after = offset_change f (at + length bytes)

  -- the file has the piece and these attributes, and the offset moves
  abbrev keeping : Attr → Row
  keeping attr = move_after bytes f at (put_in bytes f o at attr ∷ [])

  -- no byte is written
  pub none_written : (t : State) → length bytes == 0 ≡ true → t ≡ apply_change s after → PlaysRow s a (writes_at bytes f o at) counted t a
  none_written t none made = plays_where _ none (commits s t a (after ∷ []) (answer.Number (length bytes)) None made)

  -- some are, with the attributes that the file keeps
  pub some_written : (b : CheckLog) (attr : Attr) (t : State) → length bytes == 0 ≡ false → GoesOn a (keeps_attr f.description.object Handle o) (Ok attr) b
      → t ≡ apply_change (apply_change s (put_in bytes f o at attr)) after → PlaysRow s a (writes_at bytes f o at) counted t b
  some_written b attr t some step made =
      plays_else _ some (then_plays {rest = keeping} step (commits s t b (put_in bytes f o at attr ∷ after ∷ []) (answer.Number (length bytes)) None made))

  pub some_stopped : (b : CheckLog) (how : Stop) (r : Result Effect Stop) → length bytes == 0 ≡ false → IsErrAnd r (λ e. e ≡ how)
      → GoesOn a (keeps_attr f.description.object Handle o) (Err how) b → PlaysRow s a (writes_at bytes f o at) r s b
  some_stopped b how r some is step = plays_else _ some (stops_row {rest = keeping} r is refl step)

-- a refusal that lets each row go on has a condition that does not hold
pub never_refused : (e : Errno) (holds : Bool) → ((log : CheckLog) → GoesOn log (λ (rest : ⊤ → Row). Refuse e holds (rest tt)) (Ok tt) log) → holds ≡ false
never_refused e holds goes =
    let who : Pid = record { label = bottom; n = 0 } in
    let log = check_log who bottom no_caps in
    not_refused log log e holds (goes log)
