-- Records of starts: they are the first records of a run, of one process each.
use Rattle.std.specs.Prelude.{◌≡◌, ⊤, ℕ, ◌+◌, ◌≤◌, ◌<◌, Bool, true, false, List, [], ◌∷◌, ◌++◌, Option, Some, None, refl, cond}
use Rattle.std.specs.List.{AllByRecursion, flat_map}
use Rattle.std.specs.Option.{option_to_list}
use Rattle.std.proofs.Common.{sym, ◌∙◌, ap, subst, arith}
use Rattle.std.proofs.lemmas.Cmp.{eq_by_cmp_equiv}
use Rattle.std.specs.FinMap as map
use Rattle.std.specs.FinMap.{FinMap}
use Rattle.cap_bits.specs.CapSet.{CapSet}
use Rattle.cap_bits.specs.declared.cap.Cap.{Cap}
use Rattle.cap_bits.specs.declared.state.CapState.{CapState}
use Rattle.lab_lattice.specs.Label.{Label, label_cmp}
use Rattle.lab_lattice.proofs.Labels.{label_cmp_total}
use Rattle.kern_model.specs.declared.calls.Call.{Call}
use Rattle.kern_model.specs.declared.calls.CallName.{CallName}
use Rattle.kern_model.specs.declared.checks.Check.{Check}
use Rattle.kern_model.specs.declared.checks.CheckName.{CheckName}
use Rattle.kern_model.specs.declared.checks.Place.{Place}
use Rattle.kern_model.specs.declared.numbers.Pid.{Pid}
use Rattle.kern_model.specs.declared.records.Rec.{Rec}
use Rattle.kern_model.specs.declared.records.Rec.TheVariants as rec
use Rattle.kern_model.specs.declared.world.ScriptItem.{ScriptItem}
use Rattle.kern_model.specs.declared.world.WorldProc.{WorldProc}
use Rattle.kern_model.specs.Boot.{boot_process, boot_recs_from}
use Rattle.kern_model.specs.Drawing.{NeverFalls}
use Rattle.kern_model.proofs.KeyLaws.{pid_cmp_total, pid_cmp_exact}
use Rattle.kern_model.specs.Lineage.{caps_after_one, caps_after, origin, ancestor, StartOnce}
use Rattle.kern_model.specs.Names.{name_of}
use Rattle.kern_model.specs.Row.{Row, Subject, End, Stopped, Refused, Done, judge, exercise_with}
use Rattle.kern_model.specs.Rules.{cap_of, denial_of}
use Rattle.kern_model.specs.Run.{CallRecord, run}
use Rattle.kern_model.specs.State.{State, Process, last_drawn, next_process}
use Rattle.kern_model.specs.Step.{step, subject, own_of}
use Rattle.kern_model.proofs.MapLemmas.{get_or-found, get-insert_same}
use Rattle.iso_laws.proofs.Rows.{used_preserves}
use Rattle.iso_laws.proofs.Steps.{step_cases, row_outcome}
use Rattle.iso_laws.proofs.DrawingLemmas.{falls_nowhere, AllObjects, leads_to_all}
use Rattle.iso_laws.proofs.AllLemmas.{all-append}
use Rattle.iso_laws.proofs.EffectLaws.{IsOwnRecord, ReportsOwn, NumberedByCaller}
use Rattle.iso_laws.proofs.GoingOn.{EndSatisfies, row_ends}
use Rattle.iso_laws.proofs.KeyLemmas.{distinct}

-- ---- no call leaves a record of a start
-- a record that is not of a start
abbrev pub IsNoStart : Rec → Type 0
IsNoStart (rec.Boot who label caps) = ⊥
IsNoStart _ = ⊤

abbrev pub NoStarts : List Rec → Type 0
NoStarts recs = AllByRecursion IsNoStart recs

exercise_no_start : (a : Subject) (c : Check) (with : Option Cap) → NoStarts (exercise_with a c with)
exercise_no_start a c None = tt
exercise_no_start a c (Some cap) = (tt, tt)

used_no_start : (a : Subject) (r : Row) → NoStarts (judge a [] r).used
used_no_start a r = used_preserves NoStarts a (λ c used h. all-append IsNoStart used _ h (exercise_no_start a c (cap_of c.name))) [] r tt

denied_no_start : (b : Bool) (who : Pid) (name : CallName) (check : CheckName) (place : Place) → NoStarts (cond b (rec.Deny who name (denial_of check) check place ∷ []) [])
denied_no_start true who name check place = (tt, tt)
denied_no_start false who name check place = tt

own_record_is_no_start : (who : Pid) (r : Rec) → IsOwnRecord who r → IsNoStart r
own_record_is_no_start who (rec.Boot q label caps) h = h
own_record_is_no_start who r h = tt

left_no_start : (who : Pid) (own : Option Rec) → ReportsOwn who own → NoStarts (option_to_list own)
left_no_start who None h = tt
left_no_start who (Some r) h = (own_record_is_no_start who r h, tt)

own_no_start : (s : State) (who : Pid) (p : Process) (name : CallName) (e : End) → EndSatisfies (NumberedByCaller AllObjects s who) e → NoStarts (own_of who p name e)
own_no_start s who p name (Stopped check place) h = denied_no_start p.audited who name check place
own_no_start s who p name (Refused e) h = tt
own_no_start s who p name (Done cs answer own) h = left_no_start who own h.1

step_no_start : (s : State) (who : Pid) (c : Call) → NoStarts (step s who c).recs
step_no_start s who c = step_cases s who c (λ o. NoStarts o.recs) (λ _. tt) (λ p is.
    all-append IsNoStart (row_outcome s who c p).used _ (used_no_start (subject who p) _) (own_no_start s who p (name_of c) _ (row_ends AllObjects s (leads_to_all s) who p is c)))

pub run_no_start : (items : List ScriptItem) (s : State) → NoStarts (flat_map (λ (p : CallRecord). p.recs) (run s items))
run_no_start [] s = tt
run_no_start (i ∷ is) s = all-append IsNoStart (step s i.who i.call).recs _ (step_no_start s i.who i.call) (run_no_start is (step s i.who i.call).state)

-- ---- starts of one process each
-- a start of another process
abbrev pub StartsOther : Pid → Rec → Type 0
StartsOther who (rec.Boot q label caps) = q ≡ who → ⊥
StartsOther who _ = ⊥

-- the records after a start are starts of other processes
abbrev pub OthersAfter : Rec → List Rec → Type 0
OthersAfter (rec.Boot who label caps) rs = AllByRecursion (StartsOther who) rs
OthersAfter _ rs = ⊥

-- starts, of one process each
abbrev pub AreStarts : List Rec → Type 0
AreStarts [] = ⊤
AreStarts (r ∷ rs) = OthersAfter r rs × AreStarts rs

-- a start with a number above the last ones drawn
abbrev StartsAbove : FinMap label_cmp ℕ → Rec → Type 0
StartsAbove numbers (rec.Boot who label caps) = last_drawn numbers who.label < who.n
StartsAbove numbers _ = ⊥

other_above : (numbers : FinMap label_cmp ℕ) (who : Pid) → who.n ≤ last_drawn numbers who.label → (r : Rec) → StartsAbove numbers r → StartsOther who r
other_above numbers who few (rec.Boot q label caps) above = λ same. let few' : q.n ≤ last_drawn numbers q.label = subst (λ (k : Pid). k.n ≤ last_drawn numbers k.label) (sym same) few in absurd (omega (arith, few', above))
other_above numbers who few r above = absurd above

others_above : (numbers : FinMap label_cmp ℕ) (who : Pid) → who.n ≤ last_drawn numbers who.label → (rs : List Rec) → AllByRecursion (StartsAbove numbers) rs → AllByRecursion (StartsOther who) rs
others_above numbers who few [] h = tt
others_above numbers who few (r ∷ rs) h = (other_above numbers who few r h.0, others_above numbers who few rs h.1)

started_above : (ws : List WorldProc) (s : State) (numbers : FinMap label_cmp ℕ) → NeverFalls numbers s.process_numbers → AllByRecursion (StartsAbove numbers) (boot_recs_from s ws)
unfolding boot_process
started_above [] s numbers up = tt
started_above (w ∷ ws) s numbers up = (
  omega (arith, up w.label),
  started_above ws (boot_process s w) numbers (falls_nowhere numbers s.process_numbers w.label (last_drawn s.process_numbers w.label + 1) up (omega arith)),
)

pub started_once : (ws : List WorldProc) (s : State) → AreStarts (boot_recs_from s ws)
unfolding boot_process
started_once [] s = tt
started_once (w ∷ ws) s =
    let numbers : FinMap label_cmp ℕ = map.insert s.process_numbers w.label (last_drawn s.process_numbers w.label + 1) in
    let now : last_drawn numbers w.label ≡ last_drawn s.process_numbers w.label + 1 = get_or-found _ w.label 0 _ (get-insert_same label_cmp_total s.process_numbers w.label _) in
    (others_above numbers (next_process s w.label) (omega (arith, now)) (boot_recs_from (boot_process s w) ws) (started_above ws (boot_process s w) numbers (λ l. omega arith)), started_once ws (boot_process s w))

-- ---- a start among the records of a run
-- a start among records is among the first of them, where the others are none
pub record IsAmong (first others before : List Rec) (r : Rec) (after : List Rec) : Type 0 where
  pub rest : List Rec
  pub first_is : first ≡ before ++ r ∷ rest
  pub after_is : after ≡ rest ++ others

pub none_here : (before : List Rec) (r : Rec) (after : List Rec) → NoStarts (before ++ r ∷ after) → IsNoStart r
none_here [] r after h = h.0
none_here (b ∷ before) r after h = none_here before r after h.1

among_first : (b : Rec) (first others : List Rec) (r : Rec) (after : List Rec) → b ∷ (first ++ others) ≡ r ∷ after → IsAmong (b ∷ first) others [] r after
among_first b first others r after e =
    let head : b ≡ r = cc in
    let tail : first ++ others ≡ after = cc in
    record { rest = first; first_is = ap (λ x. x ∷ first) head; after_is = sym tail }

among_cons : (b : Rec) (first others before : List Rec) (x r : Rec) (after : List Rec) → b ≡ x → IsAmong first others before r after → IsAmong (b ∷ first) others (x ∷ before) r after
among_cons b first others before x r after same among = record { rest = among.rest; first_is = λ i. same i ∷ among.first_is i; after_is = among.after_is }

pub start_is_among : (first others before : List Rec) (who : Pid) (label : Label) (caps : CapState) (after : List Rec) → NoStarts others → first ++ others ≡ before ++ rec.Boot who label caps ∷ after → IsAmong first others before (rec.Boot who label caps) after
start_is_among [] others before who label caps after none e = absurd (none_here before (rec.Boot who label caps) after (subst NoStarts e none))
start_is_among (b ∷ first) others [] who label caps after none e = among_first b first others (rec.Boot who label caps) after e
start_is_among (b ∷ first) others (x ∷ before) who label caps after none e =
    let head : b ≡ x = cc in
    let tail : first ++ others ≡ before ++ rec.Boot who label caps ∷ after = cc in
    among_cons b first others before x (rec.Boot who label caps) after head (start_is_among first others before who label caps after none tail)

-- the starts after a start are of other processes
pub after_start : (before : List Rec) (r : Rec) (rest : List Rec) → AreStarts (before ++ r ∷ rest) → OthersAfter r rest
after_start [] r rest h = h.0
after_start (b ∷ before) r rest h = after_start before r rest h.1

other_here : (who : Pid) (before : List Rec) (r : Rec) (rest : List Rec) → AllByRecursion (StartsOther who) (before ++ r ∷ rest) → StartsOther who r
other_here who [] r rest h = h.0
other_here who (b ∷ before) r rest h = other_here who before r rest h.1

-- no process starts twice
pub start_once : (first others : List Rec) → AreStarts first → NoStarts others → StartOnce (first ++ others)
start_once first others starts none before between after who label label' caps caps' e =
    let one : IsAmong first others before (rec.Boot who label caps) (between ++ rec.Boot who label' caps' ∷ after) = start_is_among first others before who label caps _ none e in
    let two : IsAmong one.rest others between (rec.Boot who label' caps') after = start_is_among one.rest others between who label' caps' after none (sym one.after_is) in
    let following : AllByRecursion (StartsOther who) one.rest = after_start before (rec.Boot who label caps) one.rest (subst AreStarts one.first_is starts) in
    other_here who between (rec.Boot who label' caps') two.rest (subst (AllByRecursion (StartsOther who)) two.first_is following) refl

-- ---- what starts give
module _ (bound : CapSet) where
  other_leaves : (f : Pid → CapState) (who : Pid) (r : Rec) → StartsOther who r → caps_after_one bound f r who ≡ f who
  other_leaves f who (rec.Boot q label caps) other = ap (λ b. cond b caps (f who)) (distinct pid_cmp_exact who q (λ same. other (sym same)))
  other_leaves f who r other = absurd other

  -- starts of other processes leave the sets of a process
  others_leave : (f : Pid → CapState) (who : Pid) (rs : List Rec) → AllByRecursion (StartsOther who) rs → caps_after bound f rs who ≡ f who
  others_leave f who [] h = refl
  others_leave f who (r ∷ rs) h = others_leave (caps_after_one bound f r) who rs h.1 ∙ other_leaves f who r h.0

  -- a start gives the sets of its process, whatever starts there are before and after it
  pub start_gives : (f : Pid → CapState) (before : List Rec) (who : Pid) (label : Label) (caps : CapState) (rest : List Rec) → AreStarts (before ++ rec.Boot who label caps ∷ rest) → caps_after bound f (before ++ rec.Boot who label caps ∷ rest) who ≡ caps
  start_gives f [] who label caps rest h =
      others_leave (caps_after_one bound f (rec.Boot who label caps)) who rest h.0 ∙ ap (λ b. cond b caps (f who)) ((eq_by_cmp_equiv pid_cmp_total).refl who)
  start_gives f (b ∷ before) who label caps rest h = start_gives (caps_after_one bound f b) before who label caps rest h.1

other_origin : (who q : Pid) (r : Rec) (rs : List Rec) → StartsOther who r → ancestor (r ∷ rs) q ≡ ancestor rs q
other_origin who q (rec.Boot k label caps) rs other = refl
other_origin who q r rs other = absurd other

-- over starts each process is its own ancestor
pub starts_origin : (who q : Pid) (rs : List Rec) → AllByRecursion (StartsOther who) rs → ancestor rs q ≡ q
starts_origin who q [] h = refl
starts_origin who q (r ∷ rs) h = other_origin who q r rs h.0 ∙ starts_origin who q rs h.1

pub ancestor-append : (xs ys : List Rec) (q : Pid) → ancestor (xs ++ ys) q ≡ ancestor xs (ancestor ys q)
ancestor-append [] ys q = refl
ancestor-append (x ∷ xs) ys q = ap (origin x) (ancestor-append xs ys q)
