-- What holds of each change that is made where descriptors close, and where a process ends.
use Rattle.std.specs.Prelude.{◌≡◌, Bool, true, not, ◌&&◌, ◌||◌, [], ◌∷◌, Some, cond}
use Rattle.std.specs.List.{AllByRecursion, flat_map}
use Rattle.std.specs.FinMap as map
use Rattle.kern_model.specs.declared.calls.Ending.{Ending}
use Rattle.kern_model.specs.declared.numbers.Did.{Did}
use Rattle.kern_model.specs.declared.numbers.Pid.{Pid}
use Rattle.kern_model.specs.Descriptors.{Descriptor, changes_of_close, let_go, is_let_go, is_drained, truncation}
use Rattle.kern_model.specs.Keys.{same_pid, is_pid}
use Rattle.kern_model.specs.ProcessRows.{changes_after_end, process_after_end, ending_of}
use Rattle.kern_model.specs.State.{State, Process, Description, Change, SetProcess, DropProcess, DropDescription}
use Rattle.kern_model.proofs.KeyLaws.{pid_cmp_total, pid_cmp_exact, did_cmp_total, did_cmp_exact}
use Rattle.kern_model.proofs.MapLemmas.{each-entries}
use Rattle.iso_laws.proofs.AllLemmas.{all-append, all_each, all_if, all_when}

-- a property holds of each change of closing where it holds of dropping each description that is let go and of emptying each object that is drained
module _ (s : State) (P : Change → Type 0) (goes : Descriptor → Bool) where
  pub let_go_each : (e : Did × Description) → (is_let_go s goes e.0 ≡ true → P (DropDescription e.0) × (is_drained s goes e.1.object ≡ true → P (truncation s e.1.object))) → AllByRecursion P (let_go s goes e)
  let_go_each e h =
      all_when P (is_let_go s goes e.0) (DropDescription e.0 ∷ cond (is_drained s goes e.1.object) (truncation s e.1.object ∷ []) [])
      (λ gone. let changes = h gone in (changes.0, all_when P (is_drained s goes e.1.object) (truncation s e.1.object ∷ []) (λ drained. (changes.1 drained, tt))))

  pub each_let_go : ((did : Did) (d : Description) → map.get s.descriptions did ≡ Some d → is_let_go s goes did ≡ true → P (DropDescription did) × (is_drained s goes d.object ≡ true → P (truncation s d.object))) → AllByRecursion P (changes_of_close s goes)
  unfolding changes_of_close
  each_let_go h =
      all_each (λ (e : Did × Description). is_let_go s goes e.0 ≡ true → P (DropDescription e.0) × (is_drained s goes e.1.object ≡ true → P (truncation s e.1.object))) P (let_go s goes) let_go_each (map.entries s.descriptions)
      (each-entries did_cmp_total did_cmp_exact (λ (k : Did) (d : Description). is_let_go s goes k ≡ true → P (DropDescription k) × (is_drained s goes d.object ≡ true → P (truncation s d.object))) s.descriptions h)

-- a property holds of each change of closing where it holds of dropping each description and of emptying each object
module _ (s : State) (P : Change → Type 0) (drop : (did : Did) → P (DropDescription did)) (empty : (did : Did) (d : Description) → map.get s.descriptions did ≡ Some d → P (truncation s d.object)) where
  pub each_closing : (goes : Descriptor → Bool) → AllByRecursion P (changes_of_close s goes)
  each_closing goes = each_let_go s P goes (λ did d e _. (drop did, λ _. empty did d e))

  -- it holds of each change of an end where it also holds of dropping the process and of setting each one that it leaves
  pub each_ending : (who : Pid) (p : Process) (how : Ending) → P (DropProcess who) → ((q : Pid) (x : Process) → map.get s.procs q ≡ Some x → P (SetProcess q (process_after_end who p how q x))) → AllByRecursion P (ending_of s who p how)
  unfolding ending_of
  each_ending who p how gone left =
      let other : (e : Pid × Process) → P (SetProcess e.0 (process_after_end who p how e.0 e.1)) → AllByRecursion P (changes_after_end who p how e) =
      λ e h. all_if P (not (same_pid e.0 who) && (is_pid who e.1.parent || is_pid e.0 p.parent)) (SetProcess e.0 (process_after_end who p how e.0 e.1) ∷ []) (h, tt) in (
        gone,
        all-append P (changes_of_close s _) (flat_map (changes_after_end who p how) (map.entries s.procs)) (each_closing _)
            (all_each (λ (e : Pid × Process). P (SetProcess e.0 (process_after_end who p how e.0 e.1))) P (changes_after_end who p how) other (map.entries s.procs)
            (each-entries pid_cmp_total pid_cmp_exact (λ (q : Pid) (x : Process). P (SetProcess q (process_after_end who p how q x))) s.procs left)),
      )
