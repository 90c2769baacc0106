-- The rows of bytes that go into pipes and FIFOs, and come out of them.
use Rattle.std.specs.Prelude.{◌≡◌, ◌+◌, ◌==◌, ◌&&◌, ◌++◌, ℕ, ⊤, Bool, true, false, not, nat_lt, List, [], ◌∷◌, None, Some, Result, Ok, Err, IfErr, length, drop, take, refl}
use Rattle.std.specs.FinMap as map
use Rattle.std.proofs.Common.{ap, sym, subst}
use Rattle.kern_model.specs.declared.calls.Answer.TheVariants as answer
use Rattle.kern_model.specs.declared.calls.Errno.TheVariants.{EAGAIN, EPIPE}
use Rattle.kern_model.specs.declared.limits.TheConstants.{MAX_PIPE_BYTES}
use Rattle.kern_model.specs.declared.objects.Object.{Object}
use Rattle.kern_model.specs.Descriptors.{Opened, any_open}
use Rattle.kern_model.specs.FileRows.{comes_out, into_stream, open_object, put_in_stream}
use Rattle.kern_model.specs.State.{State, SetObject, apply_change}
use Rattle.chk_rules.specs.CheckLog.{CheckLog}
use Rattle.chk_rules.specs.declared.stop.Stop.TheVariants as stop
use Rattle.fd_table.specs.Pipes.{is_no_memory}
use Rattle.fd_table.specs.declared.pipes.PipeError.{PipeError}
use Rattle.fd_table.specs.declared.pipes.PipeError.TheVariants as error
use Rattle.sys_lookup.specs.PlaysRow.{PlaysRow}
use Rattle.sys_lookup.proofs.PlayLemmas.{refuse_plays, refuse_stops_row, commits, equal_answer}
use Rattle.sys_lookup.proofs.RefuseLemmas.{lets_on, refuses}
use Rattle.sys_file.proofs.ObjectLemmas.{object_is}

-- ---- which case it is, by how a call on a stream ended

pub ok_value : {X E : Type 0} {r : Result X E} (x y : X) → r ≡ Ok x → r ≡ Ok y → x ≡ y
ok_value x y one other = cc

-- nothing but `Again` stops bytes that come out
pub only_again : {X : Type 0} {r : Result X PipeError} {e : PipeError} (b : Bool) (x : X) → (b ≡ true → r ≡ Err error.Again) → (b ≡ false → r ≡ Ok x) → r ≡ Err e → e ≡ error.Again
only_again true x again gives is = let h = again refl in cc
only_again false x again gives is = let h = gives refl in absurd (cc)

-- What decides on a piece: whether something reads, and whether the piece does not fit.
module _ {r : Result ⊤ PipeError} where
  pub when_put : (reads over : Bool) → (reads ≡ false → r ≡ Err error.Broken) → (reads ≡ true → over ≡ true → r ≡ Err error.Again) → r ≡ Ok tt → (reads ≡ true) × (over ≡ false)
  when_put false over broken again is = let h = broken refl in absurd (cc)
  when_put true true broken again is = let h = again refl refl in absurd (cc)
  when_put true false broken again is = (refl, refl)

  never_memory : (e : PipeError) → is_no_memory e ≡ false → r ≡ Err e → IfErr r (λ x. is_no_memory x ≡ true) → ⊥
  never_memory e other is memory = let h = subst (λ x. IfErr x (λ y. is_no_memory y ≡ true)) is memory in cc

  pub when_broken : (reads over : Bool) → (reads ≡ true → over ≡ true → r ≡ Err error.Again) → (reads ≡ true → over ≡ false → IfErr r (λ x. is_no_memory x ≡ true)) → r ≡ Err error.Broken → reads ≡ false
  when_broken false over again memory is = refl
  when_broken true true again memory is = let h = again refl refl in absurd (cc)
  when_broken true false again memory is = absurd (never_memory error.Broken refl is (memory refl refl))

  pub when_again : (reads over : Bool) → (reads ≡ false → r ≡ Err error.Broken) → (reads ≡ true → over ≡ false → IfErr r (λ x. is_no_memory x ≡ true)) → r ≡ Err error.Again → (reads ≡ true) × (over ≡ true)
  when_again false over broken memory is = let h = broken refl in absurd (cc)
  when_again true true broken memory is = (refl, refl)
  when_again true false broken memory is = absurd (never_memory error.Again refl is (memory refl refl))

-- ---- the rows

module _ (s : State) (log : CheckLog) (f : Opened) (o : Object) (there : map.get s.objects f.description.object ≡ Some o) where
  -- the objects with other bytes in the stream
  abbrev bytes_set : List ℕ → State
  bytes_set bytes = apply_change s (SetObject f.description.object (record o { bytes = bytes }))

  -- ---- bytes come out

  abbrev is_empty : Bool
  is_empty = length o.bytes == 0 && any_open s (λ d. d.writes) f.description.object

  pub taken : (n : ℕ) (bytes : List ℕ) (t : State) → is_empty ≡ false → bytes ≡ take n o.bytes → t ≡ bytes_set (drop n o.bytes) → PlaysRow s log (comes_out true s n f (open_object s f)) (Ok (record { answer = answer.Bytes bytes; own = None })) t log
  taken n bytes t more is made =
      subst (λ x. PlaysRow s log (comes_out true s n f x) (Ok (record { answer = answer.Bytes bytes; own = None })) t log) (sym (object_is s f.description.object o there))
      (refuse_plays (lets_on more) (equal_answer (ap answer.Bytes is) (commits s t log (SetObject f.description.object (record o { bytes = drop n o.bytes }) ∷ []) (answer.Bytes bytes) None made)))

  pub waits : (n : ℕ) (t : State) → is_empty ≡ true → t ≡ s → PlaysRow s log (comes_out true s n f (open_object s f)) (Err (stop.Refused EAGAIN)) t log
  waits n t empty same =
      subst (λ x. PlaysRow s log (comes_out true s n f x) (Err (stop.Refused EAGAIN)) t log) (sym (object_is s f.description.object o there))
      (refuse_stops_row (Err (stop.Refused EAGAIN)) refl same (refuses empty))

  -- ---- bytes go in

  abbrev is_read : Bool
  is_read = any_open s (λ d. d.reads) f.description.object

  abbrev is_over : List ℕ → Bool
  is_over bytes = nat_lt MAX_PIPE_BYTES (length o.bytes + length bytes)

  pub put : (bytes : List ℕ) (t : State) → is_read ≡ true → is_over bytes ≡ false → t ≡ bytes_set (o.bytes ++ bytes) → PlaysRow s log (put_in_stream s f bytes) (Ok (record { answer = answer.Number (length bytes); own = None })) t log
  put bytes t reads fits made =
      subst (λ x. PlaysRow s log (into_stream s bytes f x) (Ok (record { answer = answer.Number (length bytes); own = None })) t log) (sym (object_is s f.description.object o there))
      (refuse_plays (lets_on (ap not reads))
      (refuse_plays (lets_on fits)
      (commits s t log (SetObject f.description.object (record o { bytes = o.bytes ++ bytes }) ∷ []) (answer.Number (length bytes)) None made)))

  pub breaks : (bytes : List ℕ) (t : State) → is_read ≡ false → t ≡ s → PlaysRow s log (put_in_stream s f bytes) (Err (stop.Refused EPIPE)) t log
  breaks bytes t reads same = refuse_stops_row (Err (stop.Refused EPIPE)) refl same (refuses (ap not reads))

  pub full : (bytes : List ℕ) (t : State) → is_read ≡ true → is_over bytes ≡ true → t ≡ s → PlaysRow s log (put_in_stream s f bytes) (Err (stop.Refused EAGAIN)) t log
  full bytes t reads over same =
      subst (λ x. PlaysRow s log (into_stream s bytes f x) (Err (stop.Refused EAGAIN)) t log) (sym (object_is s f.description.object o there))
      (refuse_plays (lets_on (ap not reads))
      (refuse_stops_row (Err (stop.Refused EAGAIN)) refl same (refuses over)))
