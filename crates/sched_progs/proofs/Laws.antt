-- The proof of the law of loops.
use Rattle.std.specs.Prelude.{◌≡◌, ℕ, false, List, [], ◌∷◌, ◌++◌, refl, cond, filter}
use Rattle.std.specs.List.{list_any, repeat}
use Rattle.std.proofs.Common.{sym, ◌∙◌, ap, subst}
use Rattle.std.proofs.lemmas.Bool.{or_parts}
use Rattle.std.proofs.lemmas.List.{append-nil}
use Rattle.lab_lattice.specs.Label.{Label}
use Rattle.kern_model.specs.Isolation.{low, part}
use Rattle.kern_model.specs.Prefixes.{IsPrefix}
use Rattle.kern_model.specs.State.{State}
use Rattle.iso_laws.proofs.Laws.{kept_boot, top_boot, valid_boot}
use Rattle.iso_laws.proofs.PrefixLemmas.{prefixes_agree}
use Rattle.sched_progs.specs.Programs.{Programs, are_programs}
use Rattle.sched_progs.specs.Turns.{LoopItem, LoopState}
use Rattle.sched_progs.specs.Loop.{items_of_turns, loop, loop_start, state_after_turns}
use Rattle.sched_progs.specs.Laws.{IsLoop, ClosedLoopPrefix, ClosedLoopWhole, ClosedLoopEnd, LoopOfWorld, TwoLoopsAgree, before_crossing, item_crosses, loop_alone, low_items, part_programs, part_slices}
use Rattle.sched_progs.proofs.NextTurns.{part_loop}
use Rattle.sched_progs.proofs.Loops.{ItemsAlone, ends_alone, going_at_start, items_alone, low_rounds, start_in_part}

-- where no call crosses, all calls are before the first that does
all_before : (l : Label) (items : List LoopItem) → list_any (item_crosses l) items ≡ false → before_crossing l items ≡ items
all_before l [] none = refl
all_before l (i ∷ is) none =
    let parts = or_parts (item_crosses l i) (list_any (item_crosses l) is) none in
    ap (λ b. cond b [] (i ∷ before_crossing l is)) parts.0 ∙ ap (λ js. i ∷ js) (all_before l is parts.1)

module _ (l : Label) (s : State) (programs : Programs) (slices : List Label) (rounds : ℕ) (is : IsLoop l s programs) where
  abbrev start : LoopState
  start = loop_start s programs

  -- the part of a loop takes the Low turns, from the part of its first state
  turns_alone : {X : Type 0} (of : LoopState → List Label → X)
      → of (part_loop l start) (filter (low l) (repeat rounds slices)) ≡ of (loop_start (part l s) (part_programs l programs)) (repeat rounds (part_slices l slices))
  turns_alone of = λ i. of (sym (start_in_part l s programs is) i) (low_rounds l rounds slices i)

  pub alone : ItemsAlone l (loop s programs slices rounds) (loop_alone l s programs slices rounds)
  alone = subst (ItemsAlone l (loop s programs slices rounds)) (turns_alone items_of_turns) (items_alone l (repeat rounds slices) start (going_at_start l s programs is))

pub closed_loop_prefix : ClosedLoopPrefix
closed_loop_prefix l s programs slices rounds is = let a = alone l s programs slices rounds is in record { rest = a.rest; whole_is = a.whole_is }

pub closed_loop_whole : ClosedLoopWhole
closed_loop_whole l s programs slices rounds is none =
    let a = alone l s programs slices rounds is in
    let items : List LoopItem = loop s programs slices rounds in
    ap (low_items l) (sym (all_before l items none)) ∙ sym (append-nil _) ∙ ap (λ xs. low_items l (before_crossing l items) ++ xs) (sym (a.all none)) ∙ sym a.whole_is

pub closed_loop_end : ClosedLoopEnd
closed_loop_end l s programs slices rounds is none =
    let ends = ends_alone l (repeat rounds slices) (loop_start s programs) (going_at_start l s programs is) none in (
      ends.0.kept,
      ap (λ (x : LoopState). x.kernel) ends.1 ∙ turns_alone l s programs slices rounds is (λ x ls. (state_after_turns x ls).kernel),
    )

pub loop_of_world : LoopOfWorld
loop_of_world l w programs is programs_are names = record {
  valid = valid_boot w is;
  kept = kept_boot l w;
  programs_are = ap (λ top. are_programs top programs) (top_boot w) ∙ programs_are;
  names = names;
}

pub two_loops_agree : TwoLoopsAgree
two_loops_agree l s t programs others slices turns rounds is is' same same_programs same_slices =
    prefixes_agree _ _ (loop_alone l t others turns rounds)
    (subst (IsPrefix (low_items l (before_crossing l (loop s programs slices rounds)))) (λ i. loop (same i) (same_programs i) (same_slices i) rounds)
    (closed_loop_prefix l s programs slices rounds is))
    (closed_loop_prefix l t others turns rounds is')
