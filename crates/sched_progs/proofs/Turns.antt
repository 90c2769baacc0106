-- A turn of a label in the part, and in the state.
use Rattle.std.specs.Prelude.{◌≡◌, ℕ, true, false, Option, Some, None, refl, is_some, option_to_list}
use Rattle.std.specs.List.{list_any}
use Rattle.std.proofs.Common.{sym, ◌∙◌, ap}
use Rattle.lab_lattice.specs.Label.{Label}
use Rattle.lab_lattice.proofs.Labels.{label_cmp_total, label_cmp_exact}
use Rattle.kern_model.specs.declared.numbers.Pid.{Pid}
use Rattle.kern_model.specs.Arguments.{has_names, is_call}
use Rattle.kern_model.specs.Isolation.{low}
use Rattle.sched_progs.specs.Programs.{Progress, move}
use Rattle.sched_progs.specs.Turns.{LoopState, next_in_turn, turn, turn_by, turn_of, with_turn}
use Rattle.sched_progs.specs.Laws.{item_crosses}
use Rattle.sched_progs.proofs.LowParts.{part-insert, part-insert_other}
use Rattle.sched_progs.proofs.Moves.{move_passes}
use Rattle.sched_progs.proofs.NextTurns.{part_loop, next_is, same_next}
use Rattle.sched_progs.proofs.TurnLaws.{IsGoing, MayRun, TurnsBeside, turn_beside}

module _ (l : Label) (x : LoopState) (going : IsGoing l x) (k : Label) where
  -- that a number had the last turn is seen of a Low label
  turn_seen : (n : ℕ) → low l k ≡ true → with_turn (part_loop l x) k n ≡ part_loop l (with_turn x k n)
  turn_seen n is = ap (λ turns. record (part_loop l x) { last_turns = turns }) (sym (part-insert label_cmp_total label_cmp_exact (low l) x.last_turns k n is))

  turn_unseen : (n : ℕ) → low l k ≡ false → part_loop l (with_turn x k n) ≡ part_loop l x
  turn_unseen n high = ap (λ turns. record (part_loop l x) { last_turns = turns }) (part-insert_other label_cmp_total label_cmp_exact (low l) x.last_turns k n high)

  -- the turn of a process
  module _ (e : Pid × Progress) (is : next_in_turn x k ≡ Some e) where
    abbrev mine : Progress
    mine = record e.1 { place = (move e.1).place }

    abbrev noted : LoopState
    noted = with_turn x k e.0.n

    going_noted : IsGoing l noted
    going_noted = record { valid = going.valid; kept = going.kept; steps = going.steps; living = going.living }

    own : MayRun x.kernel.top e.1.steps
    own = going.steps e.0 e.1 (next_is x k e is).1

    of_process : list_any (item_crosses l) (option_to_list (turn_of x k (Some e)).item) ≡ false
        → TurnsBeside l (low l k) x (turn_of (part_loop l x) k (Some e)) (turn_of x k (Some e))
    of_process inside =
        let next = next_is x k e is in
        let beside : TurnsBeside l (low l e.0.label) noted (turn_by (part_loop l noted) e.0 mine (move e.1).call) (turn_by noted e.0 mine (move e.1).call) =
        turn_beside l noted going_noted e.0 mine own (ap is_some next.1) (move e.1).call (move_passes (is_call x.kernel.top) e.1 own.0, move_passes has_names e.1 own.1) inside in
        let same_low : low l e.0.label ≡ low l k = ap (low l) next.0 in
        record {
          going = beside.going;
          low_same = λ h. ap (λ y. turn_by y e.0 mine (move e.1).call) (turn_seen e.0.n h) ∙ beside.low_same (same_low ∙ h);
          other_same = λ h. beside.other_same (same_low ∙ h) ∙ turn_unseen e.0.n h;
          by = λ i f. beside.by i f ∙ same_low;
        }

  of_next : (o : Option (Pid × Progress)) → next_in_turn x k ≡ o → list_any (item_crosses l) (option_to_list (turn_of x k o).item) ≡ false
      → TurnsBeside l (low l k) x (turn_of (part_loop l x) k o) (turn_of x k o)
  of_next None is inside = record { going = going; low_same = λ _. refl; other_same = λ _. refl; by = λ i e. absurd (cc) }
  of_next (Some e) is inside = of_process e is inside

  -- the part has the same turn of a Low label, and a turn of another label leaves the part as it was, where it crosses nothing
  pub turn_in_part : list_any (item_crosses l) (option_to_list (turn x k).item) ≡ false → TurnsBeside l (low l k) x (turn (part_loop l x) k) (turn x k)
  unfolding turn
  turn_in_part inside =
      let beside = of_next (next_in_turn x k) refl inside in
      record {
        going = beside.going;
        low_same = λ h. ap (turn_of (part_loop l x) k) (same_next l x k h) ∙ beside.low_same h;
        other_same = beside.other_same;
        by = beside.by;
      }
