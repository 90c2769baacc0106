-- The sets of all processes and files of a state: over changes, over a step, and at the start.
use Rattle.std.specs.Prelude.{◌≡◌, ◌⊎◌, ◌+◌, Bool, true, false, List, [], ◌∷◌, Option, Some, None, cond, unwrap_or}
use Rattle.std.specs.List.{AllByRecursion}
use Rattle.std.specs.Option.{option_to_list}
use Rattle.std.specs.FinMap as map
use Rattle.std.specs.FinMap.{get-empty}
use Rattle.std.proofs.Common.{inl, inr}
use Rattle.cap_bits.specs.declared.file_caps.FileCaps.{FileCaps}
use Rattle.cap_bits.specs.declared.state.CapState.{CapState}
use Rattle.fs_path.specs.Name.{Name}
use Rattle.lab_lattice.specs.Label.{Label}
use Rattle.kern_model.specs.declared.calls.Call.{Call}
use Rattle.kern_model.specs.declared.calls.CallName.{CallName}
use Rattle.kern_model.specs.declared.numbers.Oid.{Oid}
use Rattle.kern_model.specs.declared.numbers.Pid.{Pid}
use Rattle.kern_model.specs.declared.objects.Object.{Object}
use Rattle.kern_model.specs.declared.records.Rec.{Rec}
use Rattle.kern_model.specs.declared.records.Rec.TheVariants as rec
use Rattle.kern_model.specs.declared.world.World.{World}
use Rattle.kern_model.specs.declared.world.WorldObject.{WorldObject}
use Rattle.kern_model.specs.declared.world.WorldProc.{WorldProc}
use Rattle.kern_model.specs.Boot.{boot, boot_object, boot_objects, boot_process, boot_processes, entry_for, nothing, object_of, objects_loaded, process_of}
use Rattle.kern_model.specs.Keys.{oid_cmp, pid_cmp}
use Rattle.kern_model.specs.Names.{name_of}
use Rattle.kern_model.specs.Row.{End, Stopped, Refused, Done}
use Rattle.kern_model.specs.Rules.{denial_of}
use Rattle.kern_model.specs.State.{State, Process, Change, SetObject, SetProcess, DropProcess, DrawObject, DrawProcess, apply_change, apply_changes, last_drawn, look, next_object, next_process, root}
use Rattle.kern_model.specs.Step.{own_of, state_after, step_result, subject}
use Rattle.kern_model.specs.Table.{row}
use Rattle.kern_model.proofs.KeyLaws.{oid_cmp_total, oid_cmp_exact, pid_cmp_total, pid_cmp_exact}
use Rattle.kern_model.proofs.MapLemmas.{each-insert, each-remove, never_some}
use Rattle.iso_laws.proofs.AllLemmas.{all-append}
use Rattle.iso_laws.proofs.Steps.{row_outcome}
use Rattle.ever_caps.proofs.Meets.{EndMeets, IsUse, row_end, row_uses}
use Rattle.ever_caps.proofs.Rows.{Commits, IfOwn, IsKept, IsNoExercise, AsksByLabel, Sets, row_meets}

-- a record is a use of a check by the caller, or no exercise
abbrev pub IsLeft : Pid → Process → Rec → Type 0
IsLeft who p r = IsUse (AsksByLabel p) (subject who p) r ⊎ IsNoExercise r

pub all_weaker : {X : Type 0} (P Q : X → Type 0) → ((x : X) → P x → Q x) → (xs : List X) → AllByRecursion P xs → AllByRecursion Q xs
all_weaker P Q f [] h = tt
all_weaker P Q f (x ∷ xs) h = (f x h.0, all_weaker P Q f xs h.1)

module _ (OfProcess : Label → CapState → Type 0) (OfFile : Label → FileCaps → Type 0) where
  pub record AllSets (s : State) : Type 0 where
    pub processes : (who : Pid) (p : Process) → map.get s.procs who ≡ Some p → OfProcess p.label p.caps
    pub files : (id : Oid) (o : Object) → map.get s.objects id ≡ Some o → OfFile o.label o.attr.caps

  abbrev SetsOf : Change → Type 0
  SetsOf = Sets OfProcess OfFile

  -- ---- changes
  over_one : (s : State) → AllSets s → (c : Change) → SetsOf c → AllSets (apply_change s c)
  over_one s all (SetObject id o) h = record {
    processes = all.processes;
    files = each-insert oid_cmp_total oid_cmp_exact (λ (k : Oid) (x : Object). OfFile x.label x.attr.caps) s.objects all.files id o h;
  }
  over_one s all (SetProcess who p) h = record {
    processes = each-insert pid_cmp_total pid_cmp_exact (λ (k : Pid) (x : Process). OfProcess x.label x.caps) s.procs all.processes who p h;
    files = all.files;
  }
  over_one s all (DropProcess who) h = record {
    processes = each-remove pid_cmp_total pid_cmp_exact (λ (k : Pid) (x : Process). OfProcess x.label x.caps) s.procs all.processes who;
    files = all.files;
  }
  over_one s all c h = record { processes = all.processes; files = all.files }

  over_all : (cs : List Change) (s : State) → AllSets s → AllByRecursion SetsOf cs → AllSets (apply_changes s cs)
  over_all [] s all h = all
  over_all (c ∷ cs) s all h = over_all cs (apply_change s c) (over_one s all c h.0) h.1

  -- ---- a step
  module _ (s : State) (all : AllSets s) (who : Pid) (p : Process) (kept : IsKept OfProcess OfFile s who p) where
    state_sets : (e : End) → EndMeets (subject who p) (AsksByLabel p) (Commits OfProcess OfFile) e → AllSets (state_after s e)
    state_sets (Stopped name place) h = all
    state_sets (Refused e) h = all
    state_sets (Done cs answer own) h = over_all cs s all h.0

    denial_left : (b : Bool) (r : Rec) → IsNoExercise r → AllByRecursion (IsLeft who p) (cond b (r ∷ []) [])
    denial_left true r h = (inr h, tt)
    denial_left false r h = tt

    own_left : (own : Option Rec) → IfOwn own → AllByRecursion (IsLeft who p) (option_to_list own)
    own_left None h = tt
    own_left (Some r) h = (inr h, tt)

    end_left : (name : CallName) (e : End) → EndMeets (subject who p) (AsksByLabel p) (Commits OfProcess OfFile) e → AllByRecursion (IsLeft who p) (own_of who p name e)
    end_left name (Stopped check place) h = denial_left p.audited (rec.Deny who name (denial_of check) check place) tt
    end_left name (Refused e) h = tt
    end_left name (Done cs answer own) h = own_left own h.1

    -- the sets after a step that a living process makes
    pub step_sets : (c : Call) → AllSets (step_result s who p (name_of c) (row_outcome s who c p)).state
    step_sets c =
        state_sets (row_outcome s who c p).end
        (row_end (subject who p) (AsksByLabel p) (Commits OfProcess OfFile) [] (row s who p c) (row_meets OfProcess OfFile s who p kept c))

    -- and its records
    pub step_left : (c : Call) → AllByRecursion (IsLeft who p) (step_result s who p (name_of c) (row_outcome s who c p)).recs
    step_left c =
        let meets = row_meets OfProcess OfFile s who p kept c in
        all-append (IsLeft who p) (row_outcome s who c p).used _
        (all_weaker _ (IsLeft who p) (λ r used. inl used) (row_outcome s who c p).used
        (row_uses (subject who p) (AsksByLabel p) (Commits OfProcess OfFile) [] (row s who p c) meets tt))
        (end_left (name_of c) (row_outcome s who c p).end (row_end (subject who p) (AsksByLabel p) (Commits OfProcess OfFile) [] (row s who p c) meets))

  -- ---- the start
  entries_set : (s : State) (dir : Oid) (names : List Name) (id : Oid) → AllByRecursion SetsOf (entry_for s dir names id)
  entries_set s dir [] id = tt
  entries_set s dir (name ∷ []) id = (tt, tt)
  entries_set s dir (name ∷ next ∷ names) id = entries_set s (unwrap_or (look s dir name) dir) (next ∷ names) id

  objects_set : (os : List WorldObject) (s : State) → AllSets s → AllByRecursion (λ (o : WorldObject). OfFile o.label o.attr.caps) os → AllSets (boot_objects s os)
  unfolding boot_object
  objects_set [] s all h = all
  objects_set (o ∷ os) s all h =
      objects_set os (boot_object s o)
      (over_all
      (DrawObject o.label (last_drawn s.object_numbers o.label + 1) ∷ SetObject (next_object s o.label) (object_of o) ∷ entry_for s root o.path.names (next_object s o.label)) s all
      (tt, (h.0, entries_set s root o.path.names (next_object s o.label))))
      h.1

  processes_set : (ws : List WorldProc) (s : State) → AllSets s → AllByRecursion (λ (w : WorldProc). OfProcess w.label w.caps) ws → AllSets (boot_processes s ws)
  unfolding boot_process
  processes_set [] s all h = all
  processes_set (w ∷ ws) s all h =
      processes_set ws (boot_process s w)
      (over_all (DrawProcess w.label (last_drawn s.process_numbers w.label + 1) ∷ SetProcess (next_process s w.label) (process_of w) ∷ []) s all (tt, (h.0, tt))) h.1

  -- the sets of a first state
  pub boot_sets : (w : World) → AllByRecursion (λ (o : WorldObject). OfFile o.label o.attr.caps) w.objects → AllByRecursion (λ (p : WorldProc). OfProcess p.label p.caps) w.procs
      → AllSets (boot w)
  boot_sets w objects procs =
      processes_set w.procs (objects_loaded w)
      (objects_set w.objects (nothing w.bound w.top)
      (record { processes = λ who p e. absurd (never_some _ p (get-empty pid_cmp who) e); files = λ id o e. absurd (never_some _ o (get-empty oid_cmp id) e) }) objects)
      procs
