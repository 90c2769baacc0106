-- What a source has left, and an input without a world.
use Rattle.std.proofs.Common.{◌≡◌, ℕ, List, [], ◌++◌, refl, sym, ◌∙◌, ap, subst, arith}
use Rattle.std.proofs.KnownBytes.{Consumes-nil}
use Rattle.std.specs.Prelude.{Option, None, Some, Result, Ok, Err, IsErrAnd, IfOk}
use Rattle.std.specs.Io.KnownBytes.{Consumes}
use Rattle.io_ends.specs.LinesState.{LinesState, may_take}
use Rattle.lab_engine.specs.declared.ending.Fault.{Fault}
use Rattle.lab_engine.specs.declared.ending.Fault.TheVariants.{Read}
use Rattle.lab_engine.specs.declared.ending.InputEnd.{InputEnd}
use Rattle.lab_engine.specs.Input.{Accepted, Input, no_world}
use Rattle.lab_engine.specs.declared.opening.OpenedWorld.{OpenedWorld}
use Rattle.lab_engine.specs.Opening.{EndsInput, OpensWorld}
use Rattle.lab_engine.specs.Order.{calls_by, order_by, order_of, order_of_calls, to_out}
use Rattle.lab_engine.specs.Reading.{Takes, left_of}
use Rattle.lab_engine.specs.Texts.{last_text}
use Rattle.labsys.specs.Clauses.{TakesAtMost}
use Rattle.labsys.specs.Commands.{InputKind, Calls, CallsWithoutSets, OldLines, Programs, format_in, read_left, read_none, read_of}
use Rattle.labsys.proofs.ProgramInputs.{no_programs, programs_left}

-- ---- what a source has left

-- a source that reports its bytes reports those that are left after some were taken
pub record Left (text taken : List ℕ) (now : Option (List ℕ)) : Type 0 where
  pub rest : List ℕ
  pub text_is : text ≡ taken ++ rest
  pub left_is : now ≡ Some rest

pub left_taken : (now : Option (List ℕ)) (text taken : List ℕ) → Consumes (Some text) now taken → Left text taken now
left_taken None text taken h = absurd h
left_taken (Some rest) text taken h = record { rest = rest; text_is = h; left_is = refl }

pub text_left : (left now : Option (List ℕ)) (taken text : List ℕ) → left ≡ Some text → Consumes left now taken → text ≡ taken ++ left_of now
text_left left now taken text e h = let l = left_taken now text taken (subst (λ z. Consumes z now taken) e h) in l.text_is ∙ ap (λ z. taken ++ left_of z) (sym l.left_is)

-- nothing was taken
abbrev pub reads_nothing : (most : ℕ) (left : Option (List ℕ)) → TakesAtMost most left left
reads_nothing most left = record { taken = []; took = Consumes-nil left; few = omega arith }

-- a reader takes no more than it may
abbrev pub reads_within : (lines lines' : LinesState) (left left' : Option (List ℕ)) (taken : List ℕ) → Takes lines lines' left left' taken → TakesAtMost (may_take lines) left left'
reads_within lines lines' left left' taken takes = record { taken = taken; took = takes.took; few = omega (arith, takes.within) }

-- ---- an input without a world

-- without a world the order is the last line, and no call is played
pub without_world : (e : InputEnd) → to_out (last_text 0 e) ≡ order_of (no_world e)
unfolding order_by
without_world e = refl

-- what is read of an input whose world was accepted
pub opened_input : (kind : InputKind) (taken : List ℕ) (w : OpenedWorld) → OpensWorld (format_in kind) taken w → (more : List ℕ) → read_of kind (taken ++ more) ≡ read_left kind w.read w.lines more
opened_input Calls taken w opens more = opens.says more
opened_input CallsWithoutSets taken w opens more = opens.least more
opened_input OldLines taken w opens more = opens.keeps more
opened_input Programs taken w opens more = programs_left (taken ++ more) w.read w.lines more (opens.begun more)

-- what is read of one that ends before its world does
pub ended_input : (kind : InputKind) (left : Option (List ℕ)) (taken : List ℕ) (e : InputEnd) → EndsInput (format_in kind) left taken e → read_of kind (taken ++ left_of left) ≡ read_none kind e
ended_input Calls left taken e ended = ended.says
ended_input CallsWithoutSets left taken e ended = ended.least
ended_input OldLines left taken e ended = ended.keeps
ended_input Programs left taken e ended = no_programs (taken ++ left_of left) e ended.says

pub no_calls : (i : Input) → i.accepted ≡ None → order_of_calls i ≡ []
unfolding calls_by
no_calls i none = ap (λ (a : Option Accepted). calls_by a i.script) none

-- ---- a run that failed
module _ (r : Result InputEnd Fault) (fault : Fault) (is : IsErrAnd r (λ q. q ≡ fault)) where
  pub failed_ending : (P : InputEnd → Type 0) → IfOk r P
  failed_ending = by_result r is
    where
      by_result : (x : Result InputEnd Fault) → IsErrAnd x (λ q. q ≡ fault) → (P : InputEnd → Type 0) → IfOk x P
      by_result (Ok e) is P = absurd is
      by_result (Err q) is P = tt

  pub failed_read : r ≡ Err Read → fault ≡ Read
  failed_read read = sym (subst (λ (x : Result InputEnd Fault). IsErrAnd x (λ q. q ≡ fault)) read is)
