-- The capability sets of living processes, as records give them: over changes, and at the start.
use Rattle.std.specs.Prelude.{◌≡◌, ⊤, ◌+◌, true, false, List, [], ◌∷◌, ◌++◌, Some, refl, cond, unwrap_or}
use Rattle.std.specs.List.{AllByRecursion}
use Rattle.std.proofs.Common.{sym, ◌∙◌, ap}
use Rattle.std.specs.FinMap as map
use Rattle.std.specs.FinMap.{get-empty, get-insert}
use Rattle.cap_bits.specs.CapSet.{CapSet}
use Rattle.cap_bits.specs.declared.state.CapState.{CapState}
use Rattle.cap_bits.specs.State.{no_flags}
use Rattle.fs_path.specs.Name.{Name}
use Rattle.kern_model.specs.declared.numbers.Pid.{Pid}
use Rattle.kern_model.specs.declared.numbers.Oid.{Oid}
use Rattle.kern_model.specs.declared.records.Rec.{Rec}
use Rattle.kern_model.specs.declared.world.World.{World}
use Rattle.kern_model.specs.declared.world.WorldObject.{WorldObject}
use Rattle.kern_model.specs.declared.world.WorldProc.{WorldProc}
use Rattle.kern_model.specs.Keys.{pid_cmp, same_pid}
use Rattle.kern_model.proofs.KeyLaws.{pid_cmp_total, pid_cmp_exact}
use Rattle.kern_model.specs.State.{State, Process, Change, SetObject, SetProcess, DropProcess, DrawObject, DrawProcess, apply_change, apply_changes, last_drawn, look, next_object, next_process, root}
use Rattle.kern_model.specs.Boot.{object_of, process_of, entry_for, boot_object, boot_process, boot_objects, boot_processes, nothing, objects_loaded, boot, boot_recs_from, boot_recs}
use Rattle.kern_model.specs.Lineage.{caps_after_one, caps_after, caps_of}
use Rattle.kern_model.proofs.MapLemmas.{each-insert, each-remove, same_key, some_same, never_some}

-- each living process has the sets that the function gives
abbrev pub HaveCaps : State → (Pid → CapState) → Type 0
HaveCaps s f = (who : Pid) (p : Process) → map.get s.procs who ≡ Some p → p.caps ≡ f who

-- the sets after two lists of records are those after the second, from those after the first
pub caps_after-append : (bound : CapSet) (f : Pid → CapState) (xs ys : List Rec) (q : Pid) → caps_after bound f (xs ++ ys) q ≡ caps_after bound (caps_after bound f xs) ys q
caps_after-append bound f [] ys q = refl
caps_after-append bound f (x ∷ xs) ys q = caps_after-append bound (caps_after_one bound f x) xs ys q

-- a function that gives the same sets gives those of each living process too
pub have_same : (s : State) (f g : Pid → CapState) → ((q : Pid) → f q ≡ g q) → HaveCaps s f → HaveCaps s g
have_same s f g same has who p e = has who p e ∙ same who

-- ---- changes
-- a process that is set has its new sets, and each other one keeps those that it had
pub have_set : (s : State) (f g : Pid → CapState) → HaveCaps s f → (who : Pid) (new : Process) → new.caps ≡ g who → HaveCaps (apply_change s (SetProcess who new)) (λ q. cond (same_pid q who) (g q) (f q))
have_set s f g has who new own q p e =
    elim (same_pid q who) as (λ b. same_pid q who ≡ b → cond b (Some new) (map.get s.procs q) ≡ Some p → p.caps ≡ cond b (g q) (f q)) [
      | true ↦ λ t e. ap (λ (x : Process). x.caps) (sym (some_same new p e)) ∙ own ∙ ap g (sym (same_key pid_cmp_exact q who t))
      | false ↦ λ t e. has q p e
    ] refl (sym (get-insert pid_cmp_total s.procs who new q) ∙ e)

-- a change that leaves each process the sets that it has
abbrev pub LeavesCaps : (Pid → CapState) → Change → Type 0
LeavesCaps f (SetProcess who p) = p.caps ≡ f who
LeavesCaps f _ = ⊤

have_over : (s : State) (f : Pid → CapState) → HaveCaps s f → (c : Change) → LeavesCaps f c → HaveCaps (apply_change s c) f
have_over s f has (SetProcess who p) h = each-insert pid_cmp_total pid_cmp_exact (λ q x. x.caps ≡ f q) s.procs has who p h
have_over s f has (DropProcess who) h = each-remove pid_cmp_total pid_cmp_exact (λ q x. x.caps ≡ f q) s.procs has who
have_over s f has c h = has

pub have_over_all : (cs : List Change) (s : State) (f : Pid → CapState) → HaveCaps s f → AllByRecursion (LeavesCaps f) cs → HaveCaps (apply_changes s cs) f
have_over_all [] s f has h = has
have_over_all (c ∷ cs) s f has h = have_over_all cs (apply_change s c) f (have_over s f has c h.0) h.1

-- ---- the start
module _ (f : Pid → CapState) where
  entries_leave_caps : (s : State) (dir : Oid) (names : List Name) (id : Oid) → AllByRecursion (LeavesCaps f) (entry_for s dir names id)
  entries_leave_caps s dir [] id = tt
  entries_leave_caps s dir (name ∷ []) id = (tt, tt)
  entries_leave_caps s dir (name ∷ next ∷ names) id = entries_leave_caps s (unwrap_or (look s dir name) dir) (next ∷ names) id

  have_objects : (os : List WorldObject) (s : State) → HaveCaps s f → HaveCaps (boot_objects s os) f
  unfolding boot_object
  have_objects [] s has = has
  have_objects (o ∷ os) s has =
      have_objects os (boot_object s o)
      (have_over_all (DrawObject o.label (last_drawn s.object_numbers o.label + 1) ∷ SetObject (next_object s o.label) (object_of o) ∷ entry_for s root o.path.names (next_object s o.label)) s f has
      (tt, (tt, entries_leave_caps s root o.path.names (next_object s o.label))))

  have_objects_loaded : (w : World) → HaveCaps (objects_loaded w) f
  have_objects_loaded w = have_objects w.objects (nothing w.bound w.top) (λ who p e. absurd (never_some _ p (get-empty pid_cmp who) e))

have_processes : (bound : CapSet) (ws : List WorldProc) (s : State) (f : Pid → CapState) → HaveCaps s f → HaveCaps (boot_processes s ws) (caps_after bound f (boot_recs_from s ws))
unfolding boot_process
have_processes bound [] s f has = has
have_processes bound (w ∷ ws) s f has =
    have_processes bound ws (boot_process s w) _ (have_set (apply_change s (DrawProcess w.label (last_drawn s.process_numbers w.label + 1))) f (λ q. w.caps) has (next_process s w.label) (process_of w) refl)

-- the records of the first state give the sets of its processes
pub have_booted : (w : World) → HaveCaps (boot w) (caps_of w.bound (boot_recs w))
have_booted w = have_processes w.bound w.procs (objects_loaded w) (λ q. no_flags) (have_objects_loaded (λ q. no_flags) w)
