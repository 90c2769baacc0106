-- What a label sees of a run that nothing crosses is what it sees of the run of the part below it alone.
use Rattle.std.specs.Prelude.{◌≡◌, ℕ, Bool, true, false, ◌||◌, List, [], ◌∷◌, ◌++◌, Option, Some, None, refl, cond, length, suc}
use Rattle.std.specs.List.{flat_map}
use Rattle.std.specs.Map.{keys_of}
use Rattle.std.specs.Option.{option_and_then, option_map}
use Rattle.std.specs.FinMap as map
use Rattle.std.proofs.Common.{sym, ◌∙◌, ap}
use Rattle.lab_lattice.specs.Label.{Label}
use Rattle.lab_text.specs.Policy.{PolicyNames}
use Rattle.line_text.specs.Reply.{reply_line}
use Rattle.kern_model.specs.declared.numbers.Pid.{Pid}
use Rattle.kern_model.specs.declared.world.ScriptItem.{ScriptItem}
use Rattle.kern_model.specs.Arguments.{is_script}
use Rattle.kern_model.specs.Boot.{boot}
use Rattle.kern_model.specs.Isolation.{Answered, Kept, answer_of_call, answers, all_answers, any_crosses, low, part, part_script, up_to}
use Rattle.kern_model.specs.Keys.{pid_cmp}
use Rattle.kern_model.specs.Maps.{select}
use Rattle.kern_model.specs.Run.{CallRecord, item_record, run, state_after_run}
use Rattle.kern_model.specs.State.{Process, State}
use Rattle.kern_model.specs.Step.{step}
use Rattle.kern_model.specs.World.{IsWorld}
use Rattle.kern_model.proofs.KeyLaws.{pid_cmp_total, pid_cmp_exact}
use Rattle.kern_model.proofs.MapLemmas.{get-select}
use Rattle.kern_model.proofs.Selections.{flat_map-select, list_after}
use Rattle.iso_laws.proofs.Laws.{isolated_whole, isolated_end, isolated_inside}
use Rattle.lab_engine.specs.Input.{Accepted, Script}
use Rattle.lab_engine.specs.Session.{session_of}
use Rattle.lab_engine.specs.Texts.{caps_in, end_text, ends_text, label_in, last_text, reply_text}
use Rattle.lab_engine.specs.Report.{crossed_line}
use Rattle.lab_engine.specs.Viewing.{low_calls, visible_calls, session_alone, some_crosses, unless_whole, view_text}

-- the reply line of what was answered
abbrev shown : PolicyNames → Answered → List ℕ
shown policy a = reply_line policy a.who a.head a.reply

module _ (l : Label) where
  -- ---- replies

  -- the replies to low calls are told by what they were answered
  replies_by_answers : (policy : PolicyNames) (ps : List CallRecord) → flat_map (reply_text policy) (low_calls l ps) ≡ flat_map (shown policy) (answers l ps)
  unfolding reply_text
  replies_by_answers policy [] = refl
  replies_by_answers policy (p ∷ ps) =
      elim (low l p.who.label) as (λ b. flat_map (reply_text policy) (cond b (p ∷ low_calls l ps) (low_calls l ps)) ≡ flat_map (shown policy) (cond b (answer_of_call p ∷ answers l ps) (answers l ps))) [
        | true ↦ ap (λ (t : List ℕ). reply_line policy p.who p.head p.reply ++ t) (replies_by_answers policy ps)
        | false ↦ replies_by_answers policy ps
      ]

  -- and so is their number
  count_by_answers : (ps : List CallRecord) → length (low_calls l ps) ≡ length (answers l ps)
  count_by_answers [] = refl
  count_by_answers (p ∷ ps) =
      elim (low l p.who.label) as (λ b. length (cond b (p ∷ low_calls l ps) (low_calls l ps)) ≡ length (cond b (answer_of_call p ∷ answers l ps) (answers l ps))) [
        | true ↦ ap (λ n. suc n) (count_by_answers ps)
        | false ↦ count_by_answers ps
      ]

  -- the low items of a script are all answered to low tags
  answers_to_low : (items : List ScriptItem) (s : State) → answers l (run s (part_script l items)) ≡ all_answers (run s (part_script l items))
  answers_to_low [] s = refl
  answers_to_low (i ∷ is) s =
      elim (low l i.who.label) as (λ b. low l i.who.label ≡ b → answers l (run s (cond b (i ∷ part_script l is) (part_script l is))) ≡ all_answers (run s (cond b (i ∷ part_script l is) (part_script l is)))) [
        | true ↦ λ is_low.
            let next : State = (step s i.who i.call).state in
            let rest : List Answered = answers l (run next (part_script l is)) in
            ap (λ t. cond t (answer_of_call (item_record s i) ∷ rest) rest) is_low ∙ ap (λ (xs : List Answered). answer_of_call (item_record s i) ∷ xs) (answers_to_low is next)
        | false ↦ λ _. answers_to_low is s
      ] refl

  -- ---- crossings

  -- no call crosses exactly where all calls stand before the first one that does
  pub none_crosses : (ps : List CallRecord) → up_to l ps ≡ ps → some_crosses l ps ≡ false
  none_crosses [] e = refl
  none_crosses (p ∷ ps) e =
      elim (any_crosses l p.recs) as (λ b. cond b [] (p ∷ up_to l ps) ≡ p ∷ ps → (b || some_crosses l ps) ≡ false) [
        | true ↦ λ e. absurd (cc)
        | false ↦ λ e. none_crosses ps (cc)
      ] e

  -- ---- end lines

  -- the end line of a process, where the label sees its number
  abbrev line_of : PolicyNames → State → Pid → List ℕ
  line_of policy s who = cond (low l who.label) (end_text policy who (label_in s who) (caps_in s who)) []

  over_keys : {X : Type 0} (f : Pid → List ℕ) (es : List (Pid × X)) → flat_map f (keys_of es) ≡ flat_map (λ (e : Pid × X). f e.0) es
  over_keys f [] = refl
  over_keys f (e ∷ es) = ap (λ (t : List ℕ). f e.0 ++ t) (over_keys f es)

  abbrev keep : Pid → Process → Option Process
  keep who p = cond (low l p.label) (Some p) None

  procs_in_part : (s : State) → (part l s).procs ≡ select keep s.procs
  unfolding part
  procs_in_part s = refl

  -- what the part shows of a process that it has
  shows_kept : (policy : PolicyNames) (s : State) (who : Pid) (p : Process) → map.get s.procs who ≡ Some p → low l p.label ≡ true → line_of policy (part l s) who ≡ line_of policy s who
  shows_kept policy s who p at is_low =
      let same : map.get (part l s).procs who ≡ map.get s.procs who =
      ap (λ (m : map.FinMap pid_cmp Process). map.get m who) (procs_in_part s)
      ∙ get-select pid_cmp_exact keep pid_cmp_total s.procs who
      ∙ ap (option_and_then (keep who)) at
      ∙ ap (λ b. cond b (Some p) None) is_low
      ∙ sym at in
      ap (λ (o : Option Process). cond (low l who.label) (end_text policy who (option_map (λ (q : Process). q.label) o) (option_map (λ (q : Process). q.caps) o)) []) same

  -- the same end lines are seen in the part
  ends_in_part : (policy : PolicyNames) (s : State) → Kept l s → ends_text (Some l) policy (part l s) ≡ ends_text (Some l) policy s
  ends_in_part policy s kept =
      over_keys (line_of policy (part l s)) (map.entries (part l s).procs)
      ∙ ap (λ (m : map.FinMap pid_cmp Process). flat_map (λ (e : Pid × Process). line_of policy (part l s) e.0) (map.entries m)) (procs_in_part s)
      ∙ flat_map-select pid_cmp_total pid_cmp_exact keep (λ who p. line_of policy s who) (λ who p. line_of policy (part l s) who) s.procs (λ who p at.
      elim (low l p.label) as (λ b. low l p.label ≡ b → list_after (λ who (q : Process). line_of policy (part l s) who) who (cond b (Some p) None) ≡ line_of policy s who) [
        | true ↦ λ is_low. shows_kept policy s who p at is_low
        | false ↦ λ high. ap (λ b. cond b (end_text policy who (label_in s who) (caps_in s who)) []) (sym (kept.procs who p at ∙ high))
      ] refl)
      ∙ sym (over_keys (line_of policy s) (map.entries s.procs))

-- where nothing crosses, a view of a run is that of the part below the label alone
pub view_alone : (l : Label) (a : Accepted) (m : Script) → IsWorld a.world → is_script a.world.top m.items ≡ true → up_to l (run (boot a.world) m.items) ≡ run (boot a.world) m.items
    → view_text l (session_of a m) ≡ view_text l (session_alone l a m)
unfolding view_text
view_alone l a m is args none =
    let calls : List CallRecord = run (boot a.world) m.items in
    let calls' : List CallRecord = run (part l (boot a.world)) (part_script l m.items) in
    let last : State = state_after_run (boot a.world) m.items in
    let end = isolated_end l a.world m.items is args none in
    let none' = isolated_inside l a.world m.items is args none in
    let same : answers l calls ≡ answers l calls' = isolated_whole l a.world m.items is args none ∙ sym (answers_to_low l m.items (part l (boot a.world))) in
    let replies : flat_map (reply_text a.policy) (visible_calls l calls) ≡ flat_map (reply_text a.policy) (visible_calls l calls') =
    ap (λ (ps : List CallRecord). flat_map (reply_text a.policy) (low_calls l ps)) none
    ∙ replies_by_answers l a.policy calls ∙ ap (flat_map (shown a.policy)) same ∙ sym (replies_by_answers l a.policy calls')
    ∙ sym (ap (λ (ps : List CallRecord). flat_map (reply_text a.policy) (low_calls l ps)) none') in
    let count : length (visible_calls l calls) ≡ length (visible_calls l calls') =
    ap (λ (ps : List CallRecord). length (low_calls l ps)) none
    ∙ count_by_answers l calls ∙ ap (λ (xs : List Answered). length xs) same ∙ sym (count_by_answers l calls')
    ∙ sym (ap (λ (ps : List CallRecord). length (low_calls l ps)) none') in
    let ends : ends_text (Some l) a.policy last ≡ ends_text (Some l) a.policy (state_after_run (part l (boot a.world)) (part_script l m.items)) =
    sym (ends_in_part l a.policy last end.0) ∙ ap (ends_text (Some l) a.policy) end.1 in
    let tail : (b : Bool) → List ℕ → ℕ → List ℕ = λ b lines n. cond b (crossed_line ++ unless_whole m.ending) (lines ++ last_text n m.ending) in
    λ i. replies i ++ tail ((none_crosses l calls none ∙ sym (none_crosses l calls' none')) i) (ends i) (count i)
