-- The first state, object by object and process by process.
use Rattle.std.specs.Prelude.{◌≡◌, ◌==◌, ℕ, ◌+◌, ◌≤◌, ◌<◌, Bool, true, false, not, ◌&&◌, cond, List, [], ◌∷◌, ◌++◌, length, count_by, Option, Some, None, Result, Ok, Err, OnOk, OnErr, refl, unwrap_or}
use Rattle.std.specs.FinMap as map
use Rattle.std.specs.FinMap.{FinMap}
use Rattle.std.specs.Cmp.{unsigned_Decides}
use Rattle.std.specs.Cmp.Lexicographic.{pointwise, pointwise_decides}
use Rattle.std.specs.Ordering.{eq_by_cmp, is_eq}
use Rattle.std.specs.declared.cmp.Ordering.{Ordering}
use Rattle.std.specs.declared.cmp.Ordering.TheVariants.{Less, Equal, Greater}
use Rattle.std.proofs.lemmas.Bool.{and_parts}
use Rattle.std.proofs.lemmas.List.{take_all, take_more}
use Rattle.std.proofs.lemmas.List.Sums.{sum_by-cons}
use Rattle.std.proofs.Common.{ap, sym, ◌∙◌, subst, arith, get_or, take, ◌-◌, append_assoc}
use Rattle.fs_path.specs.Name.{Name}
use Rattle.lab_lattice.specs.Label.{Label, label_cmp}
use Rattle.lab_lattice.proofs.Labels.{label_cmp_total, label_cmp_exact, dominates_itself}
use Rattle.kern_model.specs.declared.limits.TheConstants.{MAX_OBJECTS, MAX_PROCS}
use Rattle.kern_model.specs.declared.numbers.Oid.{Oid}
use Rattle.kern_model.specs.declared.numbers.Pid.{Pid}
use Rattle.kern_model.specs.declared.objects.Object.{Object}
use Rattle.kern_model.specs.declared.records.Rec.{Rec}
use Rattle.kern_model.specs.declared.records.Rec.TheVariants as rec
use Rattle.kern_model.specs.declared.world.World.{World}
use Rattle.kern_model.specs.declared.world.WorldObject.{WorldObject}
use Rattle.kern_model.specs.declared.world.WorldProc.{WorldProc}
use Rattle.kern_model.specs.Maps.{get_or as or_default}
use Rattle.kern_model.specs.Keys.{Spot, spot_cmp}
use Rattle.kern_model.specs.State.{State, Process, Change, SetEntry, SetObject, SetProcess, DrawObject, DrawProcess, apply_changes, last_drawn, next_object, next_process, look, root}
use Rattle.kern_model.specs.Boot.{object_of, process_of, entry_for, boot_object, boot_objects, boot_process, boot_processes, boot_recs_from, nothing, objects_loaded}
use Rattle.kern_model.specs.Rules.{same_label}
use Rattle.kern_model.specs.World.{IsWorld, IsWorldProc, procs_at}
use Rattle.cap_bits.specs.CapSet.{is_within}
use Rattle.std.specs.List.{AllByRecursion}
use Rattle.kern_model.proofs.KeyLaws.{spot_cmp_exact, spot_cmp_total}
use Rattle.kern_model.proofs.TableLemmas.{each_set_at}
use Rattle.fd_table.specs.Fds.{AllFds}
use Rattle.proc_table.specs.Procs.{ProcTable, next_in, with_new}
use Rattle.proc_table.specs.declared.procs.ProcError.{ProcError}
use Rattle.sys_lookup.specs.Owners.{HasOwners}
use Rattle.sys_lookup.proofs.OwnerLemmas.{owners_process}
use Rattle.kern_core.specs.declared.loading.NamedDirectory.{NamedDirectory}
use Rattle.kern_core.specs.Starts.{CanStart, IsSpotOf, LeadsTo, RoomForObjects, directory_from, entry_at, has_no}

-- ---- one object
abbrev pub object_id : WorldObject → ℕ → Oid
object_id o n = record { label = o.label; n = n }

abbrev pub made_object : State → WorldObject → ℕ → Object → List Change → State
made_object s o n made entry = apply_changes s (DrawObject o.label n ∷ SetObject (object_id o n) made ∷ entry)

pub object_booted : (s : State) (o : WorldObject) (n : ℕ) → n ≡ last_drawn s.object_numbers o.label + 1 → (made : Object) → made ≡ object_of o → (dir : Oid) → dir ≡ root → (names : List Name) → names ≡ o.path.names → (spot : Option Spot) → IsSpotOf s dir names spot → made_object s o n made (entry_at spot (object_id o n)) ≡ boot_object s o
unfolding boot_object
object_booted s o n is made made_is dir dir_is names names_is spot spot_is =
    ap (made_object s o n made) (sym (spot_is (object_id o n)))
    ∙ (λ i. made_object s o (is i) (made_is i) (entry_for s (dir_is i) (names_is i) (object_id o (is i))))

-- ---- the directory of one object

-- the entry for an object stands in the directory to which the names before its last lead
entry_at_end : (s : State) (dir : Oid) (names : List Name) (name : Name) (id : Oid) → entry_for s dir (names ++ name ∷ []) id ≡ SetEntry (directory_from s.entries dir names, name) id ∷ []
entry_at_end s dir [] name id = refl
entry_at_end s dir (first ∷ []) name id = refl
entry_at_end s dir (first ∷ next ∷ names) name id = entry_at_end s (unwrap_or (look s dir first) dir) (next ∷ names) name id

pub spot_at_end : (s : State) (names parents : List Name) (name : Name) (dir : Oid) → 0 < length names → parents ≡ take (length names - 1) names → name ≡ get_or names (length names - 1) name
    → directory_from s.entries root parents ≡ dir → IsSpotOf s root names (Some (dir, name))
spot_at_end s names parents name dir some before last leads id =
    let whole : names ≡ parents ++ name ∷ [] =
    sym (take_all (length names) names (omega arith)) ∙ ap (λ n. take n names) (let e : length names ≡ length names - 1 + 1 = omega arith in e)
    ∙ take_more names (length names - 1) name (omega arith) ∙ (λ i. sym before i ++ sym last i ∷ []) in
    ap (λ ns. entry_for s root ns id) whole ∙ entry_at_end s root parents name id ∙ ap (λ d. SetEntry (d, name) id ∷ []) leads

-- two spots of different names are not one
names_apart : (dir : Oid) (name : Name) (spot : Spot) → not (pointwise ◌==◌ name spot.1) ≡ true → eq_by_cmp spot_cmp (dir, name) spot ≡ false
names_apart dir name spot apart = by_order (spot_cmp (dir, name) spot) refl
  where
    by_order : (o : Ordering) → spot_cmp (dir, name) spot ≡ o → eq_by_cmp spot_cmp (dir, name) spot ≡ false
    by_order Less e = ap is_eq e
    by_order Greater e = ap is_eq e
    by_order Equal e =
        let one = spot_cmp_exact (dir, name) spot e in
        let same : pointwise ◌==◌ name spot.1 ≡ true = (pointwise_decides unsigned_Decides name spot.1).1 (ap (λ (s : Spot). s.1) one) in
        let fails : not true ≡ true = ap not (sym same) ∙ apart in
        absurd (cc)

-- names lead to the same directory after an entry of another name is set
directory_kept : (entries : FinMap spot_cmp Oid) (spot : Spot) (id dir : Oid) (names : List Name) → has_no spot.1 names ≡ true → directory_from (map.insert entries spot id) dir names ≡ directory_from entries dir names
directory_kept entries spot id dir [] apart = refl
directory_kept entries spot id dir (name ∷ names) apart =
    let parts = and_parts (not (pointwise ◌==◌ name spot.1)) (has_no spot.1 names) apart in
    let found : map.get (map.insert entries spot id) (dir, name) ≡ map.get entries (dir, name) =
    map.get-insert spot_cmp_total entries spot id (dir, name) ∙ ap (λ b. cond b (Some id) (map.get entries (dir, name))) (names_apart dir name spot parts.0) in
    ap (λ (o : Option Oid). directory_from (map.insert entries spot id) (unwrap_or o dir) names) found ∙ directory_kept entries spot id (unwrap_or (map.get entries (dir, name)) dir) names parts.1

pub leads_still : (entries more : FinMap spot_cmp Oid) (spot : Spot) (id : Oid) (d : NamedDirectory) → more ≡ map.insert entries spot id → has_no spot.1 d.names ≡ true → LeadsTo entries d → LeadsTo more d
leads_still entries more spot id d set apart leads = ap (λ (m : FinMap spot_cmp Oid). directory_from m root d.names) set ∙ directory_kept entries spot id root d.names apart ∙ leads

-- ---- one process
abbrev pub with_made : State → Process → State
with_made s p = apply_changes s (DrawProcess p.label (last_drawn s.process_numbers p.label + 1) ∷ SetProcess (next_process s p.label) p ∷ [])

pub process_booted : (s : State) (w : WorldProc) (made : Process) → made ≡ process_of w → with_made s made ≡ boot_process s w
unfolding boot_process
process_booted s w made is = ap (with_made s) is

-- each process with descriptors still lives after one more was tried
pub owners_booted : (r : Result Pid ProcError) (old new : ProcTable) (rows : AllFds) (p : Process) → OnOk r (new ≡ with_new old p) → OnErr r (new ≡ old) → ∥ HasOwners old.procs rows ∥₁ → ∥ HasOwners new.procs rows ∥₁
owners_booted (Ok who) old new rows p made err known = subst (λ (t : ProcTable). ∥ HasOwners t.procs rows ∥₁) (sym made) (owners_process old.procs rows (next_in old p.label) p known)
owners_booted (Err e) old new rows p made err known = subst (λ (t : ProcTable). ∥ HasOwners t.procs rows ∥₁) (sym err) known

-- ---- the numbers that are drawn
entry_draws : (s t : State) (dir : Oid) (names : List Name) (id : Oid) → (apply_changes t (entry_for s dir names id)).object_numbers ≡ t.object_numbers
entry_draws s t dir [] id = refl
entry_draws s t dir (name ∷ []) id = refl
entry_draws s t dir (name ∷ next ∷ names) id = entry_draws s t (unwrap_or (look s dir name) dir) (next ∷ names) id

object_draws : (s : State) (o : WorldObject) → (boot_object s o).object_numbers ≡ map.insert s.object_numbers o.label (last_drawn s.object_numbers o.label + 1)
unfolding boot_object
object_draws s o = entry_draws s _ root o.path.names (next_object s o.label)

process_draws : (s : State) (w : WorldProc) → (boot_process s w).process_numbers ≡ map.insert s.process_numbers w.label (last_drawn s.process_numbers w.label + 1)
unfolding boot_process
process_draws s w = refl

entry_keeps : (s t : State) (dir : Oid) (names : List Name) (id : Oid) → (apply_changes t (entry_for s dir names id)).process_numbers ≡ t.process_numbers
entry_keeps s t dir [] id = refl
entry_keeps s t dir (name ∷ []) id = refl
entry_keeps s t dir (name ∷ next ∷ names) id = entry_keeps s t (unwrap_or (look s dir name) dir) (next ∷ names) id

object_keeps : (s : State) (o : WorldObject) → (boot_object s o).process_numbers ≡ s.process_numbers
unfolding boot_object
object_keeps s o = entry_keeps s _ root o.path.names (next_object s o.label)

-- objects draw no number of a process
objects_keep : (s : State) (os : List WorldObject) → (boot_objects s os).process_numbers ≡ s.process_numbers
objects_keep s [] = refl
objects_keep s (o ∷ os) = objects_keep (boot_object s o) os ∙ object_keeps s o

-- ---- the room for numbers
same_itself : (l : Label) → same_label l l ≡ true
same_itself l = ap (λ b. b && b) (dominates_itself l)

with_one : (b : Bool) (n : ℕ) → b ≡ true → cond b 1 0 + n ≡ n + 1
with_one true n h = omega arith
with_one false n h = absurd (cc h)

fewer : (limit : ℕ) (b : Bool) (d n m : ℕ) → m ≡ cond b 1 0 + n → d + m ≤ limit → d + n ≤ limit
fewer limit true d n m e h = omega arith
fewer limit false d n m e h = omega arith

drawn_too : (limit d n m : ℕ) → m ≡ n + 1 → d + m ≤ limit → d + 1 + n ≤ limit
drawn_too limit d n m e h = omega arith

left_for_one : (limit d n m : ℕ) → m ≡ n + 1 → d + m ≤ limit → d < limit
left_for_one limit d n m e h = omega arith

module _ {X : Type 0} (label_of : X → Label) (limit : ℕ) where
  -- how many have a label
  abbrev how_many : Label → List X → ℕ
  how_many l xs = count_by (λ x. same_label (label_of x) l) xs

  -- there are numbers left for these at each label
  abbrev RoomFor : FinMap label_cmp ℕ → List X → Type 0
  RoomFor m xs = (l : Label) → last_drawn m l + how_many l xs ≤ limit

  with_first : (l : Label) (x : X) (xs : List X) → how_many l (x ∷ xs) ≡ cond (same_label (label_of x) l) 1 0 + how_many l xs
  with_first l x xs = sum_by-cons (λ y. cond (same_label (label_of y) l) 1 0) x xs

  one_more : (x : X) (xs : List X) → how_many (label_of x) (x ∷ xs) ≡ how_many (label_of x) xs + 1
  one_more x xs = with_first (label_of x) x xs ∙ with_one _ (how_many (label_of x) xs) (same_itself (label_of x))

  -- there is a number for the first of these
  first_room : (m : FinMap label_cmp ℕ) (x : X) (xs : List X) → RoomFor m (x ∷ xs) → last_drawn m (label_of x) < limit
  first_room m x xs room = left_for_one limit (last_drawn m (label_of x)) (how_many (label_of x) xs) _ (one_more x xs) (room (label_of x))

  -- one more number is drawn, for the first of these
  less_room : (m : FinMap label_cmp ℕ) (x : X) (xs : List X) → RoomFor m (x ∷ xs) → RoomFor (map.insert m (label_of x) (last_drawn m (label_of x) + 1)) xs
  less_room m x xs room =
      each_set_at label_cmp_total label_cmp_exact (λ l n. n + how_many l xs ≤ limit) 0 m (label_of x) (last_drawn m (label_of x) + 1)
      (drawn_too limit (last_drawn m (label_of x)) (how_many (label_of x) xs) _ (one_more x xs) (room (label_of x)))
      (λ l. fewer limit (same_label (label_of x) l) (last_drawn m l) (how_many l xs) _ (with_first l x xs) (room l))

-- nothing is drawn yet
none_drawn : (l : Label) → last_drawn map.empty l ≡ 0
unfolding or_default
none_drawn l = ap (λ (v : Option ℕ). elim v [ None ↦ 0 | Some x ↦ x ]) (map.get-empty {X = ℕ} label_cmp l)

from_none : (limit d n : ℕ) → d ≡ 0 → n ≤ limit → d + n ≤ limit
from_none limit d n e h = omega arith

-- there is room for what a world may have, where nothing is drawn
pub all_room : (limit : ℕ) (f : Label → ℕ) → ((l : Label) → f l ≤ limit) → (l : Label) → last_drawn map.empty l + f l ≤ limit
all_room limit f h l = from_none limit _ (f l) (none_drawn l) (h l)

within_all : (top : Label) (ws : List WorldProc) → AllByRecursion (IsWorldProc top) ws → AllByRecursion (λ (w : WorldProc). is_within w.caps.e w.caps.p ≡ true) ws
within_all top [] h = tt
within_all top (w ∷ ws) h = (h.0.within, within_all top ws h.1)

-- the processes of a world can start, where nothing is drawn
all_can : (w : World) → IsWorld w → CanStart map.empty w.procs
all_can w is = record { room = all_room MAX_PROCS (λ l. procs_at l w.procs) is.room.procs; within = within_all w.top w.procs is.procs }

-- and where only its objects were made
pub all_can_start : (w : World) → IsWorld w → (made : State) (ws : List WorldProc) → made ≡ objects_loaded w → ws ≡ w.procs → CanStart made.process_numbers ws
all_can_start w is made ws loaded procs =
    let none : made.process_numbers ≡ map.empty = ap (λ (s : State). s.process_numbers) loaded ∙ objects_keep (nothing w.bound w.top) w.objects in
    subst (λ (m : FinMap label_cmp ℕ). CanStart m ws) (sym none) (subst (λ (xs : List WorldProc). CanStart map.empty xs) (sym procs) (all_can w is))

-- the first object of some has a number, where there is room for all
pub first_numbered : (s : State) (o : WorldObject) (os : List WorldObject) → RoomForObjects s.object_numbers (o ∷ os) → last_drawn s.object_numbers o.label < MAX_OBJECTS
first_numbered s o os room = first_room (λ (x : WorldObject). x.label) MAX_OBJECTS s.object_numbers o os room

-- there is room for the others after it is made
pub others_room : (s t : State) (o : WorldObject) (os : List WorldObject) → t ≡ boot_object s o → RoomForObjects s.object_numbers (o ∷ os) → RoomForObjects t.object_numbers os
others_room s t o os booted room = subst (λ m. RoomForObjects m os) (sym (ap (λ u. u.object_numbers) booted ∙ object_draws s o)) (less_room (λ (x : WorldObject). x.label) MAX_OBJECTS s.object_numbers o os room)

-- the first process that is left can start
module _ (s : State) (w : WorldProc) (rest all : List WorldProc) (is : all ≡ w ∷ rest) (can : CanStart s.process_numbers all) where
  can_first : CanStart s.process_numbers (w ∷ rest)
  can_first = subst (CanStart s.process_numbers) is can

  pub process_room : last_drawn s.process_numbers w.label < MAX_PROCS
  process_room = first_room (λ (x : WorldProc). x.label) MAX_PROCS s.process_numbers w rest can_first.room

  pub process_within : is_within w.caps.e w.caps.p ≡ true
  process_within = can_first.within.0

module _ (s t : State) (w : WorldProc) (rest all : List WorldProc) (is : all ≡ w ∷ rest) (booted : t ≡ boot_process s w) where
  pub processes_step : boot_processes t rest ≡ boot_processes s all
  processes_step = ap (λ u. boot_processes u rest) booted ∙ ap (boot_processes s) (sym is)

  -- and so can the rest
  pub processes_can : CanStart s.process_numbers all → CanStart t.process_numbers rest
  processes_can can =
      let first = can_first s w rest all is can in
      subst (λ m. CanStart m rest) (sym (ap (λ u. u.process_numbers) booted ∙ process_draws s w))
      (record { room = less_room (λ (x : WorldProc). x.label) MAX_PROCS s.process_numbers w rest first.room; within = first.within.1 })

  -- its record, and then those of the rest
  pub started_step : (r : Rec) → r ≡ rec.Boot (next_process s w.label) w.label w.caps → (recs : List Rec) → (recs ++ r ∷ []) ++ boot_recs_from t rest ≡ recs ++ boot_recs_from s all
  started_step r started recs =
      append_assoc recs (r ∷ []) (boot_recs_from t rest)
      ∙ ap (λ xs. recs ++ xs) ((λ j. started j ∷ boot_recs_from (booted j) rest) ∙ ap (boot_recs_from s) (sym is))
