-- Each record of a run may come after those before it.
use Rattle.std.specs.Prelude.{◌≡◌, ◌⊎◌, ⊤, ℕ, ◌+◌, ◌≤◌, ◌||◌, Bool, true, false, List, [], ◌∷◌, ◌++◌, Option, Some, None, refl, cond}
use Rattle.std.specs.List.{flat_map}
use Rattle.std.specs.Option.{option_to_list}
use Rattle.std.proofs.Common.{arith, sym, ◌∙◌, ap, subst, inl, inr}
use Rattle.std.proofs.lemmas.Bool.{true≢false, false_from_ne_true, or_left, or_right}
use Rattle.std.proofs.lemmas.Cmp.{eq_by_cmp_equiv}
use Rattle.std.specs.FinMap as map
use Rattle.cap_bits.specs.CapSet.{CapSet}
use Rattle.cap_bits.specs.FileCaps.{shown}
use Rattle.cap_bits.specs.declared.state.CapState.{CapState}
use Rattle.cap_bits.specs.State.{no_flags}
use Rattle.lab_lattice.proofs.Labels.{label_cmp_total}
use Rattle.kern_model.specs.declared.calls.Call.{Call}
use Rattle.kern_model.specs.declared.calls.CallName.{CallName}
use Rattle.kern_model.specs.declared.checks.CheckName.{CheckName}
use Rattle.kern_model.specs.declared.checks.Place.{Place}
use Rattle.kern_model.specs.declared.numbers.Pid.{Pid}
use Rattle.kern_model.specs.declared.records.Rec.{Rec}
use Rattle.kern_model.specs.declared.records.Rec.TheVariants as rec
use Rattle.kern_model.specs.declared.world.World.{World}
use Rattle.kern_model.specs.declared.world.WorldProc.{WorldProc}
use Rattle.kern_model.specs.declared.world.ScriptItem.{ScriptItem}
use Rattle.kern_model.specs.Boot.{process_of, boot, boot_recs, boot_process, boot_processes, boot_recs_from, objects_loaded}
use Rattle.kern_model.specs.Drawing.{StayDrawn}
use Rattle.kern_model.specs.Exec.{exec_caps}
use Rattle.kern_model.specs.Keys.{same_pid}
use Rattle.kern_model.proofs.KeyLaws.{pid_cmp_total, pid_cmp_exact}
use Rattle.kern_model.specs.Lineage.{caps_after, caps_of, all_recs}
use Rattle.kern_model.specs.Names.{name_of}
use Rattle.kern_model.specs.Row.{Subject, End, Stopped, Refused, Done}
use Rattle.kern_model.specs.Rules.{denial_of, cap_grow, may_become}
use Rattle.kern_model.specs.Run.{CallRecord, run}
use Rattle.kern_model.specs.State.{State, Process, Change, apply_changes, last_drawn, object_at, next_process}
use Rattle.kern_model.specs.Step.{step, subject, state_after, own_of}
use Rattle.kern_model.specs.Table.{row}
use Rattle.kern_model.specs.Valid.{IsThere}
use Rattle.kern_model.proofs.MapLemmas.{each-insert, same_key, get_or-found, get-insert_same}
use Rattle.iso_laws.specs.Laws.{OwnTrail}
use Rattle.iso_laws.proofs.Part.{bound-apply_change}
use Rattle.iso_laws.proofs.Rows.{Passes, excludes_none, none_excluded}
use Rattle.iso_laws.proofs.Steps.{step_cases, row_outcome, fixed_after}
use Rattle.iso_laws.proofs.Booting.{fixed_booted}
use Rattle.iso_laws.proofs.CapsLemmas.{HaveCaps, have_same, have_booted}
use Rattle.iso_laws.proofs.Lineage.{have_after_step}
use Rattle.iso_laws.proofs.Along.{along_end}
use Rattle.iso_laws.proofs.DrawingLemmas.{born_all, AllObjects, leads_to_all, falls_nowhere, stay_drawn_all, stay_drawn_itself}
use Rattle.iso_laws.proofs.EffectLaws.{ReportsOwn, NumberedByCaller}
use Rattle.iso_laws.proofs.GoingOn.{EndSatisfies, row_ends}
use Rattle.iso_laws.proofs.Effects.{Premise, PremiseHolds, Effect, Note, SetSwitch, SetCaps, Execute, SetLabel, SetFileCaps, KeepLabel, Relabel, MakeChild, EndProcess}
use Rattle.iso_laws.proofs.RowKinds.{row_kinds}
use Rattle.iso_laws.proofs.PartReads.{rule_holds}
use Rattle.iso_laws.proofs.SinceStart.{no_process}
use Rattle.iso_laws.proofs.Trails.{known_after_one, known_after, known_after-append, stays_known, FollowFrom, follow-append, follow_all, used_exercises, exercises_first, exercises_know}

-- ---- what is known of a state
-- each living process is known, and each known one has a number that was drawn
pub record KnowsProcesses (s : State) (known : Pid → Bool) : Type 0 where
  pub living : (q : Pid) → IsThere s.procs q → known q ≡ true
  pub drawn : (q : Pid) → known q ≡ true → q.n ≤ last_drawn s.process_numbers q.label

same_knows : (s : State) (known known' : Pid → Bool) → ((q : Pid) → known' q ≡ known q) → KnowsProcesses s known → KnowsProcesses s known'
same_knows s known known' same knows = record { living = λ q there. same q ∙ knows.living q there; drawn = λ q h. knows.drawn q (sym (same q) ∙ h) }

-- the next number is of no known process
next_unknown : (s : State) (known : Pid → Bool) → KnowsProcesses s known → (who : Pid) → who.n ≡ last_drawn s.process_numbers who.label + 1 → known who ≡ false
next_unknown s known knows who next = false_from_ne_true _ (λ t. let few = knows.drawn who t in omega (arith, few, next))

-- what follows from each of two tests follows where one of them holds
by_either : (Q : Type 0) (b c : Bool) → (b ≡ true → Q) → (c ≡ true → Q) → (b || c) ≡ true → Q
by_either Q true c f g h = f refl
by_either Q false c f g h = g h

same_itself : (q : Pid) → same_pid q q ≡ true
same_itself = (eq_by_cmp_equiv pid_cmp_total).refl

-- ---- the own record of a call
-- a child that the own record names has a number that was drawn by the changes
abbrev ChildIsDrawn : State → Option Rec → Type 0
ChildIsDrawn t (Some (rec.Fork who child)) = child.n ≤ last_drawn t.process_numbers child.label
ChildIsDrawn t _ = ⊤

module _ (s : State) (known : Pid → Bool) (knows : KnowsProcesses s known) (f : Pid → CapState) (has : HaveCaps s f) (who : Pid) (p : Process)
    (is : map.get s.procs who ≡ Some p) where
  caller_known : known who ≡ true
  caller_known = knows.living who (record { value = p; is = is })

  own_caps : p.caps ≡ f who
  own_caps = has who p is

  -- the own record of each kind of effect may come after those before, where checks pass
  own_follows : (a : Subject) (Given : Premise → Type 0) (cs : List Change) (own : Option Rec) → Effect (Passes excludes_none a) (λ b. b ≡ false) Given s who p cs own
      → FollowFrom s.bound known f (option_to_list own)
  own_follows a Given cs own (SetCaps caps passes) =
      ((caller_known, ap (λ (c : CapState). may_become c caps) (sym own_caps) ∙ rule_holds excludes_none a (cap_grow who p caps) refl passes), tt)
  own_follows a Given cs own (Execute id walked) = ((caller_known, ap (λ (c : CapState). exec_caps c (shown (object_at s id).attr.caps) s.bound) own_caps), tt)
  own_follows a Given cs own (MakeChild few) = (((caller_known, next_unknown s known knows (next_process s p.label) refl), tt), tt)
  own_follows a Given cs own (EndProcess q x how at may) = ((knows.living q (record { value = x; is = at }), tt), tt)
  own_follows a Given cs own (Note bytes) = ((caller_known, tt), tt)
  own_follows a Given cs own (SetSwitch on) = ((caller_known, tt), tt)
  own_follows a Given cs own (SetLabel new allowed args) = ((caller_known, tt), tt)
  own_follows a Given cs own (SetFileCaps id caps place reaches written file) = ((caller_known, tt), tt)
  own_follows a Given cs own (KeepLabel id new place reaches written equal args) = ((caller_known, tt), tt)
  own_follows a Given cs own (Relabel id new place reaches written relabel args) = ((caller_known, tt), tt)
  own_follows a Given cs own e = tt

  -- and the child that it names has a number that was drawn
  child_drawn : (a : Subject) (Given : Premise → Type 0) (cs : List Change) (own : Option Rec) → Effect (Passes excludes_none a) (λ b. b ≡ false) Given s who p cs own
      → ChildIsDrawn (apply_changes s cs) own
  child_drawn a Given cs own (MakeChild few) =
      let now : last_drawn (map.insert s.process_numbers p.label (last_drawn s.process_numbers p.label + 1)) p.label ≡ last_drawn s.process_numbers p.label + 1 =
      get_or-found _ p.label 0 _ (get-insert_same label_cmp_total s.process_numbers p.label _) in
      omega (arith, now)
  child_drawn a Given cs own (SetCaps caps passes) = tt
  child_drawn a Given cs own (Execute id walked) = tt
  child_drawn a Given cs own (EndProcess q x how at may) = tt
  child_drawn a Given cs own (Note bytes) = tt
  child_drawn a Given cs own (SetSwitch on) = tt
  child_drawn a Given cs own (SetLabel new allowed args) = tt
  child_drawn a Given cs own (SetFileCaps id caps place reaches written file) = tt
  child_drawn a Given cs own (KeepLabel id new place reaches written equal args) = tt
  child_drawn a Given cs own (Relabel id new place reaches written relabel args) = tt
  child_drawn a Given cs own e = tt

  -- what holds of the end of a row
  abbrev EndFollows : CallName → End → Type 0
  EndFollows name (Stopped check place) = FollowFrom s.bound known f (own_of who p name (Stopped check place))
  EndFollows name (Refused e) = ⊤
  EndFollows name (Done cs answer own) = FollowFrom s.bound known f (option_to_list own) × ChildIsDrawn (apply_changes s cs) own

  denial_follows : (b : Bool) (name : CallName) (check : CheckName) (place : Place) → FollowFrom s.bound known f (cond b (rec.Deny who name (denial_of check) check place ∷ []) [])
  denial_follows true name check place = ((caller_known, tt), tt)
  denial_follows false name check place = tt

  end_follows : (c : Call) → EndFollows (name_of c) (row_outcome s who c p).end
  end_follows c =
      let a : Subject = subject who p in
      along_end excludes_none a _ _ (EndFollows (name_of c)) (denial_follows p.audited (name_of c)) (λ e _. tt)
      (λ cs answer own effect. (own_follows a (PremiseHolds s c) cs own effect, child_drawn a (PremiseHolds s c) cs own effect)) [] (row s who p c)
      (row_kinds (Passes excludes_none a) (λ b. b ≡ false) (PremiseHolds s c) s who p is c (λ x h. h)) (none_excluded (row_outcome s who c p).used)

  -- the records that the end of a row leaves after the exercises may come after those before
  left_follow : (name : CallName) (e : End) → EndFollows name e → FollowFrom s.bound known f (own_of who p name e)
  left_follow name (Stopped check place) h = h
  left_follow name (Refused e) h = tt
  left_follow name (Done cs answer own) h = h.0

  -- ---- what is known after it
  born_known : (own : Option Rec) (q : Pid) → IsThere s.procs q ⊎ (own ≡ Some (rec.Fork who q)) → known_after known (option_to_list own) q ≡ true
  born_known own q (inl there) = stays_known known (option_to_list own) q (knows.living q there)
  born_known own q (inr born) = ap (λ (o : Option Rec). known_after known (option_to_list o) q) born ∙ or_left (same_pid q q) (known q) (same_itself q)

  drawn_after : (t : State) → StayDrawn s t → (q : Pid) → known q ≡ true → q.n ≤ last_drawn t.process_numbers q.label
  drawn_after t stay q h = let few = knows.drawn q h in omega (arith, few, stay.procs q.label)

  child_is : (t : State) (child : Pid) → child.n ≤ last_drawn t.process_numbers child.label → (q : Pid) → same_pid q child ≡ true → q.n ≤ last_drawn t.process_numbers q.label
  child_is t child few q same = subst (λ (k : Pid). k.n ≤ last_drawn t.process_numbers k.label) (sym (same_key pid_cmp_exact q child same)) few

  known_drawn : (t : State) → StayDrawn s t → (own : Option Rec) → ReportsOwn who own → ChildIsDrawn t own → (q : Pid) → known_after known (option_to_list own) q ≡ true
      → q.n ≤ last_drawn t.process_numbers q.label
  known_drawn t stay None reports few q h = drawn_after t stay q h
  known_drawn t stay (Some (rec.Boot w label caps)) reports few q h = absurd reports
  known_drawn t stay (Some (rec.Fork w child)) reports few q h =
      by_either (q.n ≤ last_drawn t.process_numbers q.label) (same_pid q child) (known q) (child_is t child few q) (drawn_after t stay q) h
  known_drawn t stay (Some r) reports few q h = drawn_after t stay q h

  denial_knows : (b : Bool) (name : CallName) (check : CheckName) (place : Place) (q : Pid) → known_after known (cond b (rec.Deny who name (denial_of check) check place ∷ []) []) q ≡ known q
  denial_knows true name check place q = refl
  denial_knows false name check place q = refl

  -- after the end of a row each living process is known, and each known one has a number that was drawn
  end_knows : (name : CallName) (e : End) → EndSatisfies (NumberedByCaller AllObjects s who) e → EndFollows name e → KnowsProcesses (state_after s e) (known_after known (own_of who p name e))
  end_knows name (Stopped check place) fair h = same_knows s known _ (denial_knows p.audited name check place) knows
  end_knows name (Refused e) fair h = knows
  end_knows name (Done cs answer own) fair h = record {
    living = λ q there. born_known own q (born_all AllObjects _ s cs s fair.0 (λ k was. inl was) q there);
    drawn = known_drawn (apply_changes s cs) (stay_drawn_all AllObjects _ s cs s fair.0 (stay_drawn_itself s)) own fair.1 h.1;
  }

-- ---- a step
module _ (s : State) (known : Pid → Bool) (knows : KnowsProcesses s known) (f : Pid → CapState) (has : HaveCaps s f) (who : Pid) (c : Call) where
  -- the records of a step may come after those before
  step_follows : FollowFrom s.bound known f (step s who c).recs
  step_follows = step_cases s who c (λ o. FollowFrom s.bound known f o.recs) (λ _. tt) (λ p is.
      exercises_first s.bound known f who p.caps.e (row_outcome s who c p).used _ (caller_known s known knows f has who p is) (ap (λ (x : CapState). x.e) (has who p is))
      (used_exercises (subject who p) [] (row s who p c) tt)
      (left_follow s known knows f has who p is (name_of c) (row_outcome s who c p).end (end_follows s known knows f has who p is c)))

  settled_knows : (p : Process) → map.get s.procs who ≡ Some p
      → KnowsProcesses (state_after s (row_outcome s who c p).end) (known_after known ((row_outcome s who c p).used ++ own_of who p (name_of c) (row_outcome s who c p).end))
  settled_knows p is =
      let used : List Rec = (row_outcome s who c p).used in
      let own : List Rec = own_of who p (name_of c) (row_outcome s who c p).end in
      let know_used : (q : Pid) → known_after known used q ≡ known q = exercises_know s.bound known f who p.caps.e used (used_exercises (subject who p) [] (row s who p c) tt) in
      same_knows (state_after s (row_outcome s who c p).end) (known_after known own) (known_after known (used ++ own))
      (λ q. known_after-append known used own q ∙ ap (λ (k : Pid → Bool). known_after k own q) (λ i x. know_used x i))
      (end_knows s known knows f has who p is (name_of c) (row_outcome s who c p).end (row_ends AllObjects s (leads_to_all s) who p is c) (end_follows s known knows f has who p is c))

  step_knows : KnowsProcesses (step s who c).state (known_after known (step s who c).recs)
  step_knows = step_cases s who c (λ o. KnowsProcesses o.state (known_after known o.recs)) (λ _. knows) settled_knows

-- ---- a run
run_follows : (items : List ScriptItem) (s : State) (bound : CapSet) (known : Pid → Bool) (f : Pid → CapState) → s.bound ≡ bound → KnowsProcesses s known → HaveCaps s f
    → FollowFrom bound known f (flat_map (λ (p : CallRecord). p.recs) (run s items))
run_follows [] s bound known f same knows has = tt
run_follows (i ∷ is) s bound known f same knows has =
    let next : State = (step s i.who i.call).state in
    let recs : List Rec = (step s i.who i.call).recs in
    let has' : HaveCaps next (caps_after bound f recs) =
    have_same next (caps_after s.bound f recs) (caps_after bound f recs) (λ q. ap (λ b. caps_after b f recs q) same) (have_after_step s i.who i.call f has) in
    follow-append bound known f recs _ (subst (λ b. FollowFrom b known f recs) same (step_follows s known knows f has i.who i.call))
    (run_follows is next bound (known_after known recs) (caps_after bound f recs) (fixed_after s i.who i.call (λ t. t.bound) bound-apply_change ∙ same)
    (step_knows s known knows f has i.who i.call) has')

-- ---- the start
module _ (s : State) (w : WorldProc) (known : Pid → Bool) (knows : KnowsProcesses s known) where
  abbrev first : Pid
  first = next_process s w.label

  abbrev known_then : Pid → Bool
  known_then = known_after_one known (rec.Boot first w.label w.caps)

  -- a process that starts is known, and its number was drawn
  process_knows : KnowsProcesses (boot_process s w) known_then
  unfolding boot_process
  process_knows =
      let last : ℕ = last_drawn s.process_numbers w.label in
      let now : last_drawn (map.insert s.process_numbers w.label (last + 1)) w.label ≡ last + 1 = get_or-found _ w.label 0 _ (get-insert_same label_cmp_total s.process_numbers w.label _) in
      record {
        living = λ q there.
            each-insert pid_cmp_total pid_cmp_exact (λ (k : Pid) (x : Process). known_then k ≡ true) s.procs
            (λ k x e. or_right (same_pid k first) (known k) (knows.living k (record { value = x; is = e }))) first (process_of w)
            (or_left (same_pid first first) (known first) (same_itself first)) q there.value there.is;
        drawn = λ q.
            by_either (q.n ≤ last_drawn (map.insert s.process_numbers w.label (last + 1)) q.label) (same_pid q first) (known q)
            (λ same. subst (λ (k : Pid). k.n ≤ last_drawn (map.insert s.process_numbers w.label (last + 1)) k.label) (sym (same_key pid_cmp_exact q first same)) (omega (arith, now)))
            (λ h.
            let few = knows.drawn q h in
            omega (arith, few, falls_nowhere s.process_numbers s.process_numbers w.label (last + 1) (λ l. omega arith) (omega arith) q.label));
      }

start_follows : (bound : CapSet) (ws : List WorldProc) (s : State) (known : Pid → Bool) (f : Pid → CapState) → KnowsProcesses s known → FollowFrom bound known f (boot_recs_from s ws)
start_follows bound [] s known f knows = tt
start_follows bound (w ∷ ws) s known f knows = (
  (next_unknown s known knows (next_process s w.label) refl, tt),
  start_follows bound ws (boot_process s w) _ _ (process_knows s w known knows),
)

start_knows : (ws : List WorldProc) (s : State) (known : Pid → Bool) → KnowsProcesses s known → KnowsProcesses (boot_processes s ws) (known_after known (boot_recs_from s ws))
start_knows [] s known knows = knows
start_knows (w ∷ ws) s known knows = start_knows ws (boot_process s w) (known_after_one known (rec.Boot (next_process s w.label) w.label w.caps)) (process_knows s w known knows)

-- no process is known before the start
none_knows : (w : World) → KnowsProcesses (objects_loaded w) (λ _. false)
none_knows w = record { living = λ q there. absurd (no_process w q there); drawn = λ q h. absurd (true≢false (sym h)) }

-- the records of a run may come one after another
all_follow : (w : World) (items : List ScriptItem) → FollowFrom w.bound (λ _. false) (λ _. no_flags) (all_recs w items)
all_follow w items =
    follow-append w.bound (λ _. false) (λ _. no_flags) (boot_recs w) _ (start_follows w.bound w.procs (objects_loaded w) (λ _. false) (λ _. no_flags) (none_knows w))
    (run_follows items (boot w) w.bound (known_after (λ _. false) (boot_recs w)) (caps_of w.bound (boot_recs w)) (fixed_booted (λ s. s.bound) bound-apply_change w)
    (start_knows w.procs (objects_loaded w) (λ _. false) (none_knows w)) (have_booted w))

pub own_trail : OwnTrail
own_trail w items = follow_all w.bound (all_recs w items) (all_follow w items)
