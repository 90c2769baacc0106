-- A process that is forked: a valid state stays valid.
use Rattle.std.specs.Prelude.{◌≡◌, ℕ, ◌+◌, ◌<◌, ◌≤◌, [], ◌∷◌, Some, None, refl}
use Rattle.std.specs.FinMap as map
use Rattle.std.specs.FinMap.{FinMap}
use Rattle.std.proofs.Common.{subst, arith}
use Rattle.lab_lattice.specs.Label.{Label, label_cmp}
use Rattle.lab_lattice.proofs.Labels.{label_cmp_total, label_cmp_exact}
use Rattle.kern_model.specs.declared.limits.TheConstants.{MAX_PROCS}
use Rattle.kern_model.specs.declared.numbers.Did.{Did}
use Rattle.kern_model.specs.declared.numbers.Pid.{Pid}
use Rattle.kern_model.specs.Keys.{pid_cmp}
use Rattle.kern_model.specs.ProcessRows.{child_of}
use Rattle.kern_model.specs.State.{State, Process, SetProcess, DrawProcess, apply_changes, last_drawn, next_process}
use Rattle.kern_model.specs.Valid.{IsValid, IsThere, IsHeld, IsValidProcess}
use Rattle.kern_model.proofs.KeyLaws.{pid_cmp_total, pid_cmp_exact}
use Rattle.kern_model.proofs.MapLemmas.{each-insert, get-insert_kept, some_same}
use Rattle.kern_model.proofs.TableLemmas.{each_set_at}
use Rattle.iso_laws.proofs.ValidLemmas.{still_drawn, next_drawn, still_below}
use Rattle.iso_laws.proofs.files.Changes.{itself_like, open_process_in, valid_open, with_open, still_valid_object, still_valid_description}
use Rattle.iso_laws.proofs.KeyLemmas.{still_there}
use Rattle.iso_laws.proofs.ValidIn.{alone_of, held_in}

module _ (s : State) (valid : IsValid s) (who : Pid) (p : Process) (is : map.get s.procs who ≡ Some p) where
  -- no process has the next number
  pub next_process_absent : map.get s.procs (next_process s p.label) ≡ None
  next_process_absent =
      elim (map.get s.procs (next_process s p.label)) as (λ w. map.get s.procs (next_process s p.label) ≡ w → w ≡ None) [
        | None ↦ λ _. refl
        | Some x ↦ λ e. absurd (omega (arith, (valid.procs (next_process s p.label) x e).drawn_already.1))
      ] refl

  abbrev child : Pid
  child = next_process s p.label

  abbrev more_procs : FinMap pid_cmp Process
  more_procs = map.insert s.procs child (child_of who p)

  abbrev more_numbers : FinMap label_cmp ℕ
  more_numbers = map.insert s.process_numbers p.label (last_drawn s.process_numbers p.label + 1)

  abbrev forked_state : State
  forked_state = with_open s s.objects more_procs s.descriptions more_numbers s.description_numbers

  forked_held : (did : Did) → IsHeld s did → IsHeld forked_state did
  forked_held = held_in s forked_state refl (get-insert_kept pid_cmp_total pid_cmp_exact s.procs child (child_of who p) next_process_absent)

  -- a state stays valid where a process is forked
  pub valid_forked : last_drawn s.process_numbers p.label < MAX_PROCS → IsValid (apply_changes s (DrawProcess p.label (last_drawn s.process_numbers p.label + 1) ∷ SetProcess child (child_of who p) ∷ []))
  valid_forked left =
      let own : IsValidProcess s who p = valid.procs who p is in
      let still : (q : Pid) → IsThere s.procs q → IsThere more_procs q = still_there pid_cmp_total s.procs child (child_of who p) in
      valid_open s s.objects more_procs s.descriptions more_numbers s.description_numbers valid (itself_like s.objects) (itself_like s.objects)
      (still_valid_object s valid more_procs s.descriptions more_numbers s.description_numbers (λ id none. none))
      (each-insert pid_cmp_total pid_cmp_exact (IsValidProcess forked_state) s.procs
      (λ q x e. let old = valid.procs q x e in
      open_process_in s s.objects more_procs s.descriptions more_numbers s.description_numbers (itself_like s.objects) (still_drawn s.process_numbers p.label) q x (alone_of s q x old) (λ r at. still r (old.parent r at)) old.fds)
      child (child_of who p) (record {
        below = own.below;
        drawn_already = next_drawn s.process_numbers p.label;
        within = own.within;
        umask = own.umask;
        few_groups = own.few_groups;
        cwd = own.cwd;
        parent = λ q e. subst (IsThere more_procs) (some_same who q e) (still who (record { value = p; is = is }));
        ended = tt;
        fds = own.fds;
      }))
      (still_valid_description s valid more_procs s.descriptions more_numbers s.description_numbers (λ did d old. old.drawn_already) forked_held)
      (record {
        below = still_below s.process_numbers p.label s.top own.below valid.process_numbers.below;
        few = each_set_at label_cmp_total label_cmp_exact (λ (l : Label) (n : ℕ). n ≤ MAX_PROCS) 0 s.process_numbers p.label (last_drawn s.process_numbers p.label + 1) (omega (arith, left)) valid.process_numbers.few;
      })
      valid.description_numbers
