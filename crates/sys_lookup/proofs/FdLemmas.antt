-- The processes with their descriptors, and how both change.
use Rattle.std.specs.Prelude.{◌≡◌, None, Some, IsSome, refl}
use Rattle.std.specs.Option.{option_map}
use Rattle.std.specs.FinMap as map
use Rattle.std.specs.FinMap.{FinMap, same_map}
use Rattle.std.proofs.Common.{ap, sym, ◌∙◌, subst}
use Rattle.kern_model.specs.declared.numbers.Pid.{Pid}
use Rattle.kern_model.specs.Keys.{pid_cmp}
use Rattle.kern_model.specs.State.{Process}
use Rattle.kern_model.proofs.KeyLaws.{pid_cmp_total, pid_cmp_exact}
use Rattle.kern_model.proofs.MapLemmas.{never_some, some_same}
use Rattle.kern_model.proofs.Selections.{get-select_each, keys-select_each, select-insert_each}
use Rattle.fd_table.specs.Fds.{AllFds}
use Rattle.sys_lookup.specs.Shared.{process_with_fds, with_fds}

module _ (procs : FinMap pid_cmp Process) (rows : AllFds) where
  pub get-with_fds : (who : Pid) → map.get (with_fds procs rows) who ≡ option_map (process_with_fds rows who) (map.get procs who)
  unfolding with_fds
  get-with_fds who = get-select_each pid_cmp_total pid_cmp_exact (process_with_fds rows) procs who

  pub keys-with_fds : map.keys (with_fds procs rows) ≡ map.keys procs
  unfolding with_fds
  keys-with_fds = keys-select_each pid_cmp_total pid_cmp_exact (process_with_fds rows) procs

  -- a process changes
  pub with_fds-process : (who : Pid) (p : Process) → with_fds (map.insert procs who p) rows ≡ map.insert (with_fds procs rows) who (process_with_fds rows who p)
  unfolding with_fds
  with_fds-process who p = select-insert_each pid_cmp_total pid_cmp_exact (process_with_fds rows) procs who p

  -- a process that is there is found with its descriptors
  pub found : (who : Pid) (q : Process) → map.get procs who ≡ Some q → map.get (with_fds procs rows) who ≡ Some (process_with_fds rows who q)
  found who q e = get-with_fds who ∙ ap (option_map (process_with_fds rows who)) e

  pub not_found : (who : Pid) → map.get procs who ≡ None → map.get (with_fds procs rows) who ≡ None
  not_found who e = get-with_fds who ∙ ap (option_map (process_with_fds rows who)) e

-- a process of the state stands in the table, without its descriptors
pub record StandsIn (procs : FinMap pid_cmp Process) (rows : AllFds) (who : Pid) (p : Process) : Type 0 where
  pub process : Process
  pub is : map.get procs who ≡ Some process
  pub same : process_with_fds rows who process ≡ p

pub stands_in : (procs : FinMap pid_cmp Process) (rows : AllFds) (who : Pid) (p : Process) → map.get (with_fds procs rows) who ≡ Some p → StandsIn procs rows who p
stands_in procs rows who p there =
    elim (map.get procs who) as (λ w. map.get procs who ≡ w → StandsIn procs rows who p) [
      | None ↦ λ e. absurd (never_some (map.get (with_fds procs rows) who) p (not_found procs rows who e) there)
      | Some q ↦ λ e. record { process = q; is = e; same = some_same _ _ (sym (found procs rows who q e) ∙ there) }
    ] refl

-- there is no process where the table has none
pub with_fds-none : (rows : AllFds) → with_fds map.empty rows ≡ map.empty
with_fds-none rows = same_map pid_cmp_total pid_cmp_exact _ _ (λ who. get-with_fds map.empty rows who ∙ ap (option_map (process_with_fds rows who)) (map.get-empty {X = Process} pid_cmp who) ∙ sym (map.get-empty {X = Process} pid_cmp who))

module _ (procs : FinMap pid_cmp Process) (rows : AllFds) (who : Pid) where
  -- a number is that of a process of the state exactly where it is that of one of the table
  pub in_table : IsSome (map.get (with_fds procs rows) who) → IsSome (map.get procs who)
  in_table =
      elim (map.get procs who) as (λ w. map.get procs who ≡ w → IsSome (map.get (with_fds procs rows) who) → IsSome w) [
        | None ↦ λ e there. subst IsSome (not_found procs rows who e) there
        | Some q ↦ λ _ _. refl
      ] refl

-- what is no descriptor of a process is the same in the table
pub field-with_fds : {X : Type 0} (f : Process → X) → ((rows : AllFds) (who : Pid) (q : Process) → f (process_with_fds rows who q) ≡ f q) → (procs : FinMap pid_cmp Process) (rows : AllFds) (who : Pid)
    → option_map f (map.get (with_fds procs rows) who) ≡ option_map f (map.get procs who)
field-with_fds f same procs rows who =
    ap (option_map f) (get-with_fds procs rows who)
    ∙ elim (map.get procs who) as (λ w. option_map f (option_map (process_with_fds rows who) w) ≡ option_map f w) [ None ↦ refl | Some q ↦ ap (λ x. Some x) (same rows who q) ]
