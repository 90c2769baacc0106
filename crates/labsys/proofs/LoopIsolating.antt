-- What a label sees of the written calls of programs is what the part alone does.
use Rattle.std.proofs.Common.{◌≡◌, ℕ, true, false, cond, List, [], ◌∷◌, take, suc, zero, refl, sym, ◌∙◌, ap, subst}
use Rattle.std.proofs.lemmas.List.Elements.{filter-append}
use Rattle.lab_lattice.specs.Label.{Label}
use Rattle.kern_model.specs.Boot.{boot}
use Rattle.kern_model.specs.Isolation.{low}
use Rattle.kern_model.specs.Prefixes.{IsPrefix}
use Rattle.iso_laws.proofs.PrefixLemmas.{prefix_through, prefixes_agree}
use Rattle.lab_engine.specs.Input.{Accepted}
use Rattle.lab_engine.specs.Session.{bytes_of, replies_of}
use Rattle.sched_engine.specs.declared.schedule.Schedule.{Schedule}
use Rattle.sched_progs.specs.Laws.{before_crossing, item_crosses, low_items}
use Rattle.sched_progs.specs.Loop.{loop}
use Rattle.sched_progs.specs.Turns.{LoopItem}
use Rattle.sched_progs.proofs.Laws.{closed_loop_prefix, closed_loop_whole}
use Rattle.labsys.specs.Clauses.{Written}
use Rattle.labsys.specs.Scheduling.{loop_of, session_by}
use Rattle.labsys.specs.ScheduleClauses.{LoopIsolated, LoopIsolatedWhole, SameProgramsBelow, TwoLoops, TwoLoopsWhole, loop_below, seen_of}
use Rattle.labsys.proofs.ProgramInputs.{IsSchedulable}

-- ---- the first calls

-- of the first calls those before a crossing are the first of those before a crossing
first_before : (l : Label) (m : ℕ) (items : List LoopItem) → IsPrefix (before_crossing l (take m items)) (before_crossing l items)
first_before l zero items = record { rest = before_crossing l items; whole_is = refl }
first_before l (suc m) [] = record { rest = []; whole_is = refl }
first_before l (suc m) (i ∷ is) =
    let more = first_before l m is in
    elim (item_crosses l i) as (λ b. IsPrefix (cond b [] (i ∷ before_crossing l (take m is))) (cond b [] (i ∷ before_crossing l is))) [
      | true ↦ record { rest = []; whole_is = refl }
      | false ↦ record { rest = more.rest; whole_is = ap (λ js. i ∷ js) more.whole_is }
    ]

low_prefix : (l : Label) (xs ys : List LoopItem) → IsPrefix xs ys → IsPrefix (low_items l xs) (low_items l ys)
low_prefix l xs ys p = record { rest = low_items l p.rest; whole_is = ap (low_items l) p.whole_is ∙ filter-append (λ (i : LoopItem). low l i.who.label) xs p.rest }

module _ (l : Label) (a : Accepted) (s : Schedule) (is : IsSchedulable a s) where
  -- what a label sees of the first calls is a prefix of what the part alone does
  seen_alone : (m : ℕ) → IsPrefix (seen_of l (take m (loop_of a s))) (loop_below l a s)
  seen_alone m =
      prefix_through _ (seen_of l (loop_of a s)) _ (low_prefix l _ (before_crossing l (loop_of a s)) (first_before l m (loop_of a s)))
      (closed_loop_prefix l (boot a.world) s.programs s.slices s.rounds (is.loop l))

  pub loop_isolated : (out : List ℕ) → Written (bytes_of (session_by a s)) out → LoopIsolated l a s out
  loop_isolated out w = record { written = w; seen = seen_alone w.count }

  pub loop_isolated_whole : (out : List ℕ) → IsPrefix (replies_of (bytes_of (session_by a s))) out → LoopIsolatedWhole l a s out
  loop_isolated_whole out w = record { written = w; seen = closed_loop_whole l (boot a.world) s.programs s.slices s.rounds (is.loop l) }

-- ---- two inputs
module _ (l : Label) (a : Accepted) (s : Schedule) (is : IsSchedulable a s) (b : Accepted) (t : Schedule) (is' : IsSchedulable b t) (same : SameProgramsBelow l a s b t) where
  -- both parts alone do the same
  same_below : loop_below l b t ≡ loop_below l a s
  same_below = sym (λ i. loop (same.world i) (same.programs i) (same.slices i) (same.rounds i))

  pub two_loops : (out : List ℕ) → Written (bytes_of (session_by a s)) out → TwoLoops l a s b t out
  two_loops out w = record {
    written = w;
    agree = λ n. prefixes_agree _ _ (loop_below l a s) (seen_alone l a s is w.count) (subst (IsPrefix (seen_of l (take n (loop_of b t)))) same_below (seen_alone l b t is' n));
  }

  pub two_loops_whole : (out : List ℕ) → IsPrefix (replies_of (bytes_of (session_by a s))) out → TwoLoopsWhole l a s b t out
  two_loops_whole out w = record {
    written = w;
    equal = λ none none'.
        closed_loop_whole l (boot a.world) s.programs s.slices s.rounds (is.loop l) none
        ∙ sym same_below
        ∙ sym (closed_loop_whole l (boot b.world) t.programs t.slices t.rounds (is'.loop l) none');
  }
