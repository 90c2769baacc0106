-- Whole runs: as long as nothing crosses, the part alone answers Low tags as the state does.
use Rattle.std.specs.Prelude.{◌≡◌, ℕ, Bool, true, false, List, [], ◌∷◌, ◌++◌, refl, cond, take, drop}
use Rattle.std.proofs.Common.{sym, ◌∙◌, ap, subst, take-append-drop}
use Rattle.std.proofs.lemmas.Bool.{and_parts}
use Rattle.std.proofs.lemmas.List.{append-nil}
use Rattle.lab_lattice.specs.Label.{Label}
use Rattle.kern_model.specs.declared.world.ScriptItem.{ScriptItem}
use Rattle.kern_model.specs.Arguments.{has_names, is_call, is_item, is_script}
use Rattle.kern_model.specs.State.{State}
use Rattle.kern_model.specs.Step.{StepResult, step}
use Rattle.kern_model.specs.Run.{CallRecord, item_record, run, state_after_run}
use Rattle.kern_model.specs.Isolation.{low, part, part_script, any_crosses, Answered, answer_of_call, answers, all_answers, up_to, Kept}
use Rattle.kern_model.specs.Valid.{IsValid}
use Rattle.kern_model.specs.Prefixes.{IsPrefix}
use Rattle.iso_laws.proofs.PrefixLemmas.{prefix_through}
use Rattle.iso_laws.proofs.Steps.{low_step, other_step, kept_step, valid_step, top_step}

-- what holds of the first call of a script, and of the others
pub record FirstCall (s : State) (i : ScriptItem) (is : List ScriptItem) : Type 0 where
  pub args : is_call s.top i.call ≡ true
  pub names : has_names i.call ≡ true
  pub later_args : is_script (step s i.who i.call).state.top is ≡ true

pub first_of_script : (s : State) (i : ScriptItem) (is : List ScriptItem) → is_script s.top (i ∷ is) ≡ true → FirstCall s i is
first_of_script s i is args =
    let args' = and_parts (is_item s.top i) (is_script s.top is) args in
    record {
      args = (and_parts _ _ (and_parts _ _ args'.0).0).1;
      names = (and_parts _ _ args'.0).1;
      later_args = ap (λ top. is_script top is) (top_step s i.who i.call) ∙ args'.1;
    }

module _ (l : Label) where
  put : (b : Bool) (a : Answered) (xs ys : List Answered) → cond b (a ∷ (xs ++ ys)) (xs ++ ys) ≡ cond b (a ∷ xs) xs ++ ys
  put true a xs ys = refl
  put false a xs ys = refl

  answers-append : (ps qs : List CallRecord) → answers l (ps ++ qs) ≡ answers l ps ++ answers l qs
  answers-append [] qs = refl
  answers-append (p ∷ ps) qs = ap (λ xs. cond (low l p.who.label) (answer_of_call p ∷ xs) xs) (answers-append ps qs) ∙ put (low l p.who.label) (answer_of_call p) (answers l ps) (answers l qs)

  -- the answers to the first calls are a prefix of the answers to all
  pub answers_of_first : (m : ℕ) (ps : List CallRecord) → IsPrefix (answers l (take m ps)) (answers l ps)
  answers_of_first m ps = record { rest = answers l (drop m ps); whole_is = ap (answers l) (sym (take-append-drop m ps)) ∙ answers-append (take m ps) (drop m ps) }

  -- the answers before something crossed are a prefix of those of the part alone, and all of them where nothing crossed
  pub record AnswersAlone (ps : List CallRecord) (whole : List Answered) : Type 0 where
    pub rest : List Answered
    pub whole_is : whole ≡ answers l (up_to l ps) ++ rest
    pub all : up_to l ps ≡ ps → rest ≡ []

  -- a step that crosses nothing adds its answer to both
  alone_more : (p : CallRecord) (b : Bool) (ps : List CallRecord) (whole : List Answered) → low l p.who.label ≡ b → any_crosses l p.recs ≡ false → AnswersAlone ps whole → AnswersAlone (p ∷ ps) (cond b (answer_of_call p ∷ whole) whole)
  alone_more p b ps whole is inside alone = record {
    rest = alone.rest;
    whole_is =
        ap (λ w. cond b (answer_of_call p ∷ w) w) alone.whole_is
        ∙ put b (answer_of_call p) (answers l (up_to l ps)) alone.rest
        ∙ ap (λ t. cond t (answer_of_call p ∷ answers l (up_to l ps)) (answers l (up_to l ps)) ++ alone.rest) (sym is)
        ∙ ap (λ t. answers l (cond t [] (p ∷ up_to l ps)) ++ alone.rest) (sym inside);
    all = λ e. alone.all (let same : p ∷ up_to l ps ≡ p ∷ ps = ap (λ t. cond t [] (p ∷ up_to l ps)) (sym inside) ∙ e in cc);
  }

  alone_none : (p : CallRecord) (ps : List CallRecord) (whole : List Answered) → any_crosses l p.recs ≡ true → AnswersAlone (p ∷ ps) whole
  alone_none p ps whole crosses = record {
    rest = whole;
    whole_is = ap (λ t. answers l (cond t [] (p ∷ up_to l ps)) ++ whole) (sym crosses);
    all = λ e. let no : [] ≡ p ∷ ps = ap (λ t. cond t [] (p ∷ up_to l ps)) (sym crosses) ∙ e in cc;
  }

  -- until something crosses, the answers to Low tags from a state are those of its part alone
  pub answers_alone : (items : List ScriptItem) (s : State) → is_script s.top items ≡ true → IsValid s → Kept l s → AnswersAlone (run s items) (all_answers (run (part l s) (part_script l items)))
  answers_alone [] s args valid kept = record { rest = []; whole_is = refl; all = λ _. refl }
  answers_alone (i ∷ is) s args valid kept =
      let first = first_of_script s i is args in
      let next : State = (step s i.who i.call).state in
      elim (any_crosses l (step s i.who i.call).recs) as (λ b. any_crosses l (step s i.who i.call).recs ≡ b → AnswersAlone (run s (i ∷ is)) (all_answers (run (part l s) (part_script l (i ∷ is))))) [
        | true ↦ λ crosses. alone_none (item_record s i) (run next is) _ crosses
        | false ↦ λ inside.
            let rest : AnswersAlone (run next is) (all_answers (run (part l next) (part_script l is))) = answers_alone is next first.later_args (valid_step s i.who i.call first.args first.names valid) (kept_step l s i.who i.call first.args valid kept inside) in
            elim (low l i.who.label) as (λ b. low l i.who.label ≡ b → AnswersAlone (run s (i ∷ is)) (all_answers (run (part l s) (cond b (i ∷ part_script l is) (part_script l is))))) [
              | true ↦ λ is_low.
                  let e = low_step l s i.who i.call (record { arguments = first.args; valid = valid; kept = kept; is_low = is_low; inside = inside }) in
                  subst (λ (o : StepResult). AnswersAlone (run s (i ∷ is)) (record { who = i.who; head = i.head; reply = o.reply } ∷ all_answers (run o.state (part_script l is)))) (sym e)
                  (alone_more (item_record s i) true (run next is) _ is_low inside rest)
              | false ↦ λ high.
                  subst (λ t. AnswersAlone (run s (i ∷ is)) (all_answers (run t (part_script l is)))) (other_step l s i.who i.call first.args valid kept high inside)
                  (alone_more (item_record s i) false (run next is) _ high inside rest)
            ] refl
      ] refl

  -- each prefix of the answers before something crossed is a prefix of those of the part alone
  pub prefix_alone : (items : List ScriptItem) (m : ℕ) (s : State) → is_script s.top items ≡ true → IsValid s → Kept l s → IsPrefix (answers l (take m (up_to l (run s items)))) (all_answers (run (part l s) (part_script l items)))
  prefix_alone items m s args valid kept =
      let alone = answers_alone items s args valid kept in
      prefix_through _ _ _ (answers_of_first m (up_to l (run s items))) (record { rest = alone.rest; whole_is = alone.whole_is })

  -- where nothing crosses, the answers to Low tags are those of the part alone
  pub whole_alone : (items : List ScriptItem) (s : State) → is_script s.top items ≡ true → IsValid s → Kept l s → up_to l (run s items) ≡ run s items → answers l (run s items) ≡ all_answers (run (part l s) (part_script l items))
  whole_alone items s args valid kept e =
      let alone = answers_alone items s args valid kept in
      ap (answers l) (sym e) ∙ sym (append-nil _) ∙ ap (λ xs. answers l (up_to l (run s items)) ++ xs) (sym (alone.all e)) ∙ sym alone.whole_is

  -- the first call of a run that crosses nothing, and the others
  inside_first : (p : CallRecord) (ps : List CallRecord) → up_to l (p ∷ ps) ≡ p ∷ ps → (any_crosses l p.recs ≡ false) × (up_to l ps ≡ ps)
  inside_first p ps e = elim (any_crosses l p.recs) as (λ b. cond b [] (p ∷ up_to l ps) ≡ p ∷ ps → (b ≡ false) × (up_to l ps ≡ ps)) [
    | true ↦ λ e. absurd (cc)
    | false ↦ λ e. (refl, cc)
  ] e

  -- a run ends kept, in a state whose part is that in which the run of the part alone ends, and that run crosses nothing
  pub record EndsAlone (last alone : State) (ps : List CallRecord) : Type 0 where
    pub kept : Kept l last
    pub same : part l last ≡ alone
    pub inside : up_to l ps ≡ ps

  -- one call more, which crosses nothing
  inside_more : (last alone : State) (p : CallRecord) (ps : List CallRecord) → any_crosses l p.recs ≡ false → EndsAlone last alone ps → EndsAlone last alone (p ∷ ps)
  inside_more last alone p ps inside ends = record {
    kept = ends.kept;
    same = ends.same;
    inside = ap (λ t. cond t [] (p ∷ up_to l ps)) inside ∙ ap (λ qs. p ∷ qs) ends.inside;
  }

  -- where nothing crosses, a run ends as that of the part alone
  pub ends_alone : (items : List ScriptItem) (s : State) → is_script s.top items ≡ true → IsValid s → Kept l s → up_to l (run s items) ≡ run s items
      → EndsAlone (state_after_run s items) (state_after_run (part l s) (part_script l items)) (run (part l s) (part_script l items))
  ends_alone [] s args valid kept e = record { kept = kept; same = refl; inside = refl }
  ends_alone (i ∷ is) s args valid kept e =
      let first = first_of_script s i is args in
      let next : State = (step s i.who i.call).state in
      let inside = inside_first (item_record s i) (run next is) e in
      let rest : EndsAlone (state_after_run next is) (state_after_run (part l next) (part_script l is)) (run (part l next) (part_script l is)) =
      ends_alone is next first.later_args (valid_step s i.who i.call first.args first.names valid) (kept_step l s i.who i.call first.args valid kept inside.0) inside.1 in
      elim (low l i.who.label) as (λ b. low l i.who.label ≡ b → EndsAlone (state_after_run next is) (state_after_run (part l s) (cond b (i ∷ part_script l is) (part_script l is))) (run (part l s) (cond b (i ∷ part_script l is) (part_script l is)))) [
        | true ↦ λ is_low.
            let e' = low_step l s i.who i.call (record { arguments = first.args; valid = valid; kept = kept; is_low = is_low; inside = inside.0 }) in
            subst (λ (o : StepResult). EndsAlone (state_after_run next is) (state_after_run o.state (part_script l is)) (record { who = i.who; head = i.head; reply = o.reply; recs = o.recs } ∷ run o.state (part_script l is))) (sym e')
            (inside_more _ _ (item_record s i) (run (part l next) (part_script l is)) inside.0 rest)
        | false ↦ λ high.
            subst (λ t. EndsAlone (state_after_run next is) (state_after_run t (part_script l is)) (run t (part_script l is))) (other_step l s i.who i.call first.args valid kept high inside.0) rest
      ] refl
