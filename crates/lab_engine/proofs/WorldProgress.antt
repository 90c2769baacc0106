-- A world that is read line by line: what was read so far, and what its reading leads to.
use Rattle.std.proofs.Common.{◌≡◌, ℕ, ◌<◌, ◌≤◌, true, List, [], ◌++◌, refl, sym, ◌∙◌, ap, subst, append_assoc, arith, Option}
use Rattle.std.specs.Prelude.{IsErrAnd, Result, Ok, Err}
use Rattle.io_ends.specs.LinesState.{LinesState}
use Rattle.world_text.specs.declared.expecting.Expecting.{Expecting}
use Rattle.world_text.specs.declared.expecting.Expecting.TheVariants as at
use Rattle.world_text.specs.declared.format.Format.{Format}
use Rattle.world_text.specs.declared.world.WorldText.{WorldText}
use Rattle.lab_engine.specs.declared.ending.Fault.{Fault}
use Rattle.lab_engine.specs.declared.ending.InputEnd.{InputEnd}
use Rattle.lab_engine.specs.declared.reading.ReadWorld.{ReadWorld}
use Rattle.lab_engine.specs.declared.reading.ReadWorld.TheVariants as world
use Rattle.lab_engine.specs.declared.reading.WorldLine.{WorldLine}
use Rattle.lab_engine.specs.declared.reading.WorldLine.TheVariants as line
use Rattle.lab_engine.specs.Counts.{Counts, CountsOnce, counted_by}
use Rattle.lab_engine.specs.Input.{Begun, input_from}
use Rattle.lab_engine.specs.Reading.{HasNoWorld, ReadsLine, ReadsWorld, Takes, begun_at, left_of}
use Rattle.lab_engine.proofs.ReadSoFar.{takes_more, takes_nothing}

pub record WorldProgress (due : Format) (lines0 lines : LinesState) (left0 left : Option (List ℕ)) (e : Expecting) : Type 0 where
  pub taken : List ℕ
  pub takes : Takes lines0 lines left0 left taken
  pub says : (more : List ℕ) → begun_at (at.Format due) lines0 (taken ++ more) ≡ begun_at e lines more
  pub more : lines.more ≡ true
  pub fewer : lines.room ≤ lines0.room

pub world_begins : (due : Format) (lines : LinesState) (left : Option (List ℕ)) → lines.more ≡ true → WorldProgress due lines lines left left (at.Format due)
world_begins due lines left more = record { taken = []; takes = takes_nothing lines left; says = λ rest. refl; more = more; fewer = omega arith }

-- another line leaves fewer bytes within the limit
pub line_fewer : (lines lines' : LinesState) (left left' : Option (List ℕ)) (e : Expecting) (l : WorldLine) → ReadsLine (Ok l) e lines lines' left left' → (next : Expecting) → l ≡ line.GoesOn next → lines'.room < lines.room
line_fewer lines lines' left left' e l read next is = (subst (λ k. ReadsLine (Ok k) e lines lines' left left') is read).shows.fewer

-- a fault that is counted once
pub counts_once : {T : Type 0} (r : Result T Fault) (fault : Fault) → IsErrAnd r (λ q. q ≡ fault) → (before between now : Counts) → between ≡ before → now ≡ counted_by fault between → CountsOnce r before now
counts_once (Ok x) fault is before between now still once = absurd is
counts_once (Err q) fault is before between now still once = subst (λ k. now ≡ counted_by k before) (sym is) (once ∙ ap (counted_by fault) still)

module _ (due : Format) (lines0 lines lines' : LinesState) (left0 left left' : Option (List ℕ)) (e : Expecting) (p : WorldProgress due lines0 lines left0 left e) where
  says_after : (got more : List ℕ) → begun_at (at.Format due) lines0 ((p.taken ++ got) ++ more) ≡ begun_at e lines (got ++ more)
  says_after got more = ap (begun_at (at.Format due) lines0) (append_assoc p.taken got more) ∙ p.says (got ++ more)

  -- another line is expected
  pub world_more : (next : Expecting) (l : WorldLine) → l ≡ line.GoesOn next → ReadsLine (Ok l) e lines lines' left left' → WorldProgress due lines0 lines' left0 left' next
  world_more next l is read = let r = subst (λ k. ReadsLine (Ok k) e lines lines' left left') is read in record {
    taken = p.taken ++ r.taken;
    takes = takes_more lines0 lines lines' left0 left left' p.taken r.taken p.takes r.takes;
    says = λ rest. says_after r.taken rest ∙ r.shows.says rest;
    more = r.shows.more;
    fewer = omega (arith, r.shows.fewer, p.fewer);
  }

  -- the world is complete
  pub world_accepted : (w : WorldText) (l : WorldLine) → l ≡ line.World w → ReadsLine (Ok l) e lines lines' left left' → ReadsWorld due (Ok (world.World w)) lines0 lines' left0 left'
  world_accepted w l is read = let r = subst (λ k. ReadsLine (Ok k) e lines lines' left left') is read in record {
    taken = p.taken ++ r.taken;
    takes = takes_more lines0 lines lines' left0 left left' p.taken r.taken p.takes r.takes;
    shows = record { says = λ rest. says_after r.taken rest ∙ r.shows.says rest; more = r.shows.more; fewer = omega (arith, r.shows.fewer, p.fewer) };
  }

  -- the input ends
  pub world_ended : (ending : InputEnd) (l : WorldLine) → l ≡ line.Ended ending → ReadsLine (Ok l) e lines lines' left left' → ReadsWorld due (Ok (world.Ended ending)) lines0 lines' left0 left'
  world_ended ending l is read = let r = subst (λ k. ReadsLine (Ok k) e lines lines' left left') is read in record {
    taken = p.taken ++ r.taken;
    takes = takes_more lines0 lines lines' left0 left left' p.taken r.taken p.takes r.takes;
    shows = record { says = says_after r.taken (left_of left') ∙ r.shows.says; to_the_end = r.shows.to_the_end };
  }

  -- a fault stopped the reading
  pub world_fails : (r : Result ReadWorld Fault) (fault : Fault) → IsErrAnd r (λ q. q ≡ fault) → ReadsLine (Err fault) e lines lines' left left' → ReadsWorld due r lines0 lines' left0 left'
  world_fails (Ok x) fault is r = absurd is
  world_fails (Err q) fault is r = record {
    taken = p.taken ++ r.taken;
    takes = takes_more lines0 lines lines' left0 left left' p.taken r.taken p.takes r.takes;
    shows = subst (HasNoWorld (at.Format due) lines0 (p.taken ++ r.taken)) (sym is)
        (λ read. ap (λ (b : Begun). (input_from b).accepted) (p.says r.taken) ∙ r.shows read);
  }
