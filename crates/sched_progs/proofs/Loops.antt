-- Whole loops: as long as nothing crosses, the part alone makes the calls of Low numbers that the state makes.
use Rattle.std.specs.Prelude.{◌≡◌, ℕ, zero, suc, Bool, true, false, ◌||◌, List, [], ◌∷◌, ◌++◌, Option, Some, None, refl, cond, filter, option_to_list}
use Rattle.std.specs.List.{list_all, list_any, repeat}
use Rattle.std.specs.FinMap as map
use Rattle.std.specs.FinMap.{get-empty, same_map}
use Rattle.std.proofs.Common.{sym, ◌∙◌, ap, subst}
use Rattle.std.proofs.lemmas.Bool.{and_parts, or_parts, true≢false}
use Rattle.std.proofs.lemmas.List.Elements.{filter-append}
use Rattle.lab_lattice.specs.Label.{Label, label_cmp}
use Rattle.lab_lattice.proofs.Labels.{label_cmp_total, label_cmp_exact}
use Rattle.kern_model.specs.declared.calls.Call.{Call}
use Rattle.kern_model.specs.declared.numbers.Pid.{Pid}
use Rattle.kern_model.specs.Arguments.{has_names, is_call}
use Rattle.kern_model.specs.Isolation.{low, part}
use Rattle.kern_model.specs.Keys.{same_pid}
use Rattle.kern_model.specs.State.{State}
use Rattle.kern_model.proofs.KeyLaws.{pid_cmp_exact}
use Rattle.kern_model.proofs.MapLemmas.{same_key}
use Rattle.sched_progs.specs.Programs.{Programs, Progress, call_passes, calls_pass, first_step, steps_of}
use Rattle.sched_progs.specs.Turns.{LoopItem, LoopState, TurnResult, turn}
use Rattle.sched_progs.specs.Loop.{items_of_turns, loop_start, state_after_turns}
use Rattle.sched_progs.specs.Laws.{IsLoop, before_crossing, item_crosses, low_items, part_programs}
use Rattle.sched_progs.proofs.NextTurns.{low_turns, part_loop}
use Rattle.sched_progs.proofs.LowParts.{get-part}
use Rattle.sched_progs.proofs.Processes.{each_in_part, each_is, living_each}
use Rattle.sched_progs.proofs.TurnLaws.{IsGoing, MayRun, TurnsBeside}
use Rattle.sched_progs.proofs.Turns.{turn_in_part}

-- ---- the start
-- the calls of each program pass a test that all calls pass
steps_pass : (test : Call → Bool) (programs : Programs) → calls_pass test programs ≡ true → (q : Pid) → list_all (call_passes test) (steps_of programs q) ≡ true
steps_pass test [] all q = refl
steps_pass test (p ∷ ps) all q =
    let parts = and_parts (list_all (call_passes test) p.1.steps) (calls_pass test ps) all in
    elim (same_pid p.0 q) as (λ b. list_all (call_passes test) (cond b p.1.steps (steps_of ps q)) ≡ true) [ true ↦ parts.0 | false ↦ steps_pass test ps parts.1 q ]

-- a Low process has the same program in the part
steps_in_part : (l : Label) (programs : Programs) (q : Pid) → low l q.label ≡ true → steps_of (part_programs l programs) q ≡ steps_of programs q
steps_in_part l [] q is = refl
steps_in_part l (p ∷ ps) q is =
    let rest = steps_in_part l ps q is in
    elim (low l p.0.label) as (λ b. low l p.0.label ≡ b → steps_of (cond b (p ∷ part_programs l ps) (part_programs l ps)) q ≡ steps_of (p ∷ ps) q) [
      | true ↦ λ _. ap (cond (same_pid p.0 q) p.1.steps) rest
      | false ↦ λ high.
          elim (same_pid p.0 q) as (λ b. same_pid p.0 q ≡ b → steps_of (part_programs l ps) q ≡ cond b p.1.steps (steps_of ps q)) [
            | true ↦ λ t. absurd (true≢false (sym is ∙ ap (λ (r : Pid). low l r.label) (sym (same_key pid_cmp_exact p.0 q t)) ∙ high))
            | false ↦ λ _. rest
          ] refl
    ] refl

none_either : {X : Type 0} (b : Bool) → cond {A = Option X} b None None ≡ None
none_either true = refl
none_either false = refl

-- of no last turns the part has none
no_turns : (l : Label) → low_turns l map.empty ≡ map.empty
no_turns l = same_map label_cmp_total label_cmp_exact _ _ (λ k.
    let nothing : map.get (map.empty {K = Label} {X = ℕ} {R = label_cmp}) k ≡ None = get-empty label_cmp k in
    get-part label_cmp_total label_cmp_exact (low l) map.empty k
    ∙ ap (λ w. cond (low l k) w None) nothing
    ∙ none_either (low l k)
    ∙ sym nothing)

module _ (l : Label) (s : State) (programs : Programs) (is : IsLoop l s programs) where
  pub going_at_start : IsGoing l (loop_start s programs)
  going_at_start = record {
    valid = is.valid;
    kept = is.kept;
    steps = λ q p e.
        subst (λ (p : Progress). MayRun s.top p.steps) (each_is (λ who. first_step (steps_of programs who)) s.procs q p e)
        (steps_pass (is_call s.top) programs is.programs_are q, steps_pass has_names programs is.names q);
    living = λ q. living_each (λ who. first_step (steps_of programs who)) s.procs q;
  }

  -- the part of a loop starts as the part of its state
  pub start_in_part : loop_start (part l s) (part_programs l programs) ≡ part_loop l (loop_start s programs)
  start_in_part =
      let at : Pid → Progress = λ who. first_step (steps_of programs who) in
      let low_at : Pid → Progress = λ who. first_step (steps_of (part_programs l programs) who) in
      let there = each_in_part l s at low_at is.kept (λ q h. ap first_step (steps_in_part l programs q h)) in
      λ i. record { kernel = part l s; progress = there i; last_turns = sym (no_turns l) i }

-- the Low turns of a loop that goes round
pub low_rounds : (l : Label) (rounds : ℕ) (slices : List Label) → filter (low l) (repeat rounds slices) ≡ repeat rounds (filter (low l) slices)
low_rounds l zero slices = refl
low_rounds l (suc n) slices = filter-append (low l) slices (repeat n slices) ∙ ap (λ ls. filter (low l) slices ++ ls) (low_rounds l n slices)

-- ---- the calls
module _ (l : Label) where
  -- the calls of Low numbers before something crossed are a prefix of those of the part alone, and all of them where nothing crossed
  pub record ItemsAlone (items whole : List LoopItem) : Type 0 where
    pub rest : List LoopItem
    pub whole_is : whole ≡ low_items l (before_crossing l items) ++ rest
    pub all : list_any (item_crosses l) items ≡ false → rest ≡ []

  put : (b : Bool) (i : LoopItem) (xs ys : List LoopItem) → cond b (i ∷ (xs ++ ys)) (xs ++ ys) ≡ cond b (i ∷ xs) xs ++ ys
  put true i xs ys = refl
  put false i xs ys = refl

  -- a call that crosses nothing is added to both
  one_more : (i : LoopItem) (b : Bool) (items whole : List LoopItem) → low l i.who.label ≡ b → item_crosses l i ≡ false → ItemsAlone items whole
      → ItemsAlone (i ∷ items) (cond b (i ∷ whole) whole)
  one_more i b items whole is inside alone = record {
    rest = alone.rest;
    whole_is =
        ap (λ w. cond b (i ∷ w) w) alone.whole_is
        ∙ put b i (low_items l (before_crossing l items)) alone.rest
        ∙ ap (λ t. cond t (i ∷ low_items l (before_crossing l items)) (low_items l (before_crossing l items)) ++ alone.rest) (sym is)
        ∙ ap (λ t. low_items l (cond t [] (i ∷ before_crossing l items)) ++ alone.rest) (sym inside);
    all = λ e. alone.all (or_parts (item_crosses l i) (list_any (item_crosses l) items) e).1;
  }

  -- a turn that crosses nothing adds its call to both, if it makes one
  turn_more : (o : Option LoopItem) (b : Bool) (items whole : List LoopItem) → ((i : LoopItem) → o ≡ Some i → low l i.who.label ≡ b)
      → list_any (item_crosses l) (option_to_list o) ≡ false → ItemsAlone items whole → ItemsAlone (option_to_list o ++ items) (cond b (option_to_list o ++ whole) whole)
  turn_more None b items whole by inside alone = elim b as (λ b. ItemsAlone items (cond b whole whole)) [ true ↦ alone | false ↦ alone ]
  turn_more (Some i) b items whole by inside alone = one_more i b items whole (by i refl) (or_parts (item_crosses l i) false inside).0 alone

  -- nothing is asked after a call that crosses
  none_asked : (i : LoopItem) (items whole : List LoopItem) → item_crosses l i ≡ true → ItemsAlone (i ∷ items) whole
  none_asked i items whole crosses = record {
    rest = whole;
    whole_is = ap (λ t. low_items l (cond t [] (i ∷ before_crossing l items)) ++ whole) (sym crosses);
    all = λ e. absurd (true≢false (sym crosses ∙ (or_parts (item_crosses l i) (list_any (item_crosses l) items) e).0));
  }

  first_crosses : (o : Option LoopItem) (items whole : List LoopItem) → list_any (item_crosses l) (option_to_list o) ≡ true → ItemsAlone (option_to_list o ++ items) whole
  first_crosses None items whole crosses = absurd (true≢false (sym crosses))
  first_crosses (Some i) items whole crosses =
      none_asked i items whole (elim (item_crosses l i) as (λ b. (b || false) ≡ true → b ≡ true) [ true ↦ λ _. refl | false ↦ λ e. e ] crosses)

  pub items_alone : (ls : List Label) (x : LoopState) → IsGoing l x → ItemsAlone (items_of_turns x ls) (items_of_turns (part_loop l x) (filter (low l) ls))
  items_alone [] x going = record { rest = []; whole_is = refl; all = λ _. refl }
  items_alone (k ∷ ks) x going =
      let t : TurnResult = turn x k in
      elim (list_any (item_crosses l) (option_to_list t.item)) as (λ b. list_any (item_crosses l) (option_to_list t.item) ≡ b
      → ItemsAlone (items_of_turns x (k ∷ ks)) (items_of_turns (part_loop l x) (filter (low l) (k ∷ ks)))) [
        | true ↦ λ crosses. first_crosses t.item (items_of_turns t.state ks) _ crosses
        | false ↦ λ inside.
            let beside : TurnsBeside l (low l k) x (turn (part_loop l x) k) t = turn_in_part l x going k inside in
            let more : ItemsAlone (items_of_turns x (k ∷ ks)) (cond (low l k) (option_to_list t.item ++ items_of_turns (part_loop l t.state) (filter (low l) ks)) (items_of_turns (part_loop l t.state) (filter (low l) ks))) =
            turn_more t.item (low l k) (items_of_turns t.state ks) _ beside.by inside (items_alone ks t.state beside.going) in
            elim (low l k) as (λ b. low l k ≡ b → ItemsAlone (items_of_turns x (k ∷ ks)) (cond b (option_to_list t.item ++ items_of_turns (part_loop l t.state) (filter (low l) ks)) (items_of_turns (part_loop l t.state) (filter (low l) ks)))
            → ItemsAlone (items_of_turns x (k ∷ ks)) (items_of_turns (part_loop l x) (cond b (k ∷ filter (low l) ks) (filter (low l) ks)))) [
              | true ↦ λ is alone. subst (λ (u : TurnResult). ItemsAlone (items_of_turns x (k ∷ ks)) (option_to_list u.item ++ items_of_turns u.state (filter (low l) ks))) (sym (beside.low_same is)) alone
              | false ↦ λ high alone. subst (λ y. ItemsAlone (items_of_turns x (k ∷ ks)) (items_of_turns y (filter (low l) ks))) (beside.other_same high) alone
            ] refl more
      ] refl

  -- the first turn of a loop that crosses nothing, and the others
  inside_first : (o : Option LoopItem) (items : List LoopItem) → list_any (item_crosses l) (option_to_list o ++ items) ≡ false
      → (list_any (item_crosses l) (option_to_list o) ≡ false) × (list_any (item_crosses l) items ≡ false)
  inside_first None items e = (refl, e)
  inside_first (Some i) items e = let parts = or_parts (item_crosses l i) (list_any (item_crosses l) items) e in (ap (λ b. b || false) parts.0, parts.1)

  -- where nothing crosses, the loop ends as that of the part alone
  pub ends_alone : (ls : List Label) (x : LoopState) → IsGoing l x → list_any (item_crosses l) (items_of_turns x ls) ≡ false
      → IsGoing l (state_after_turns x ls) × (part_loop l (state_after_turns x ls) ≡ state_after_turns (part_loop l x) (filter (low l) ls))
  ends_alone [] x going inside = (going, refl)
  ends_alone (k ∷ ks) x going inside =
      let t : TurnResult = turn x k in
      let first = inside_first t.item (items_of_turns t.state ks) inside in
      let beside : TurnsBeside l (low l k) x (turn (part_loop l x) k) t = turn_in_part l x going k first.0 in
      let rest = ends_alone ks t.state beside.going first.1 in (
        rest.0,
        rest.1 ∙ elim (low l k) as (λ b. low l k ≡ b → state_after_turns (part_loop l t.state) (filter (low l) ks) ≡ state_after_turns (part_loop l x) (cond b (k ∷ filter (low l) ks) (filter (low l) ks))) [
          | true ↦ λ is. ap (λ (u : TurnResult). state_after_turns u.state (filter (low l) ks)) (sym (beside.low_same is))
          | false ↦ λ high. ap (λ y. state_after_turns y (filter (low l) ks)) (beside.other_same high)
        ] refl,
      )
