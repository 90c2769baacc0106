-- How changes of the descriptors' table show in the state.
use Rattle.std.specs.Prelude.{◌≡◌, ◌+◌, true, false, [], ◌∷◌, Some, cond, refl}
use Rattle.std.specs.Option.{option_map}
use Rattle.std.specs.FinMap as map
use Rattle.std.specs.FinMap.{FinMap, get-insert, same_map}
use Rattle.std.proofs.Common.{ap, sym, ◌∙◌}
use Rattle.lab_lattice.specs.Label.{Label}
use Rattle.kern_model.specs.declared.numbers.Pid.{Pid}
use Rattle.kern_model.specs.Descriptors.{with_descriptor}
use Rattle.kern_model.specs.Keys.{pid_cmp, same_pid}
use Rattle.kern_model.specs.Maps.{select}
use Rattle.kern_model.specs.State.{State, Process, Description, DrawDescription, SetDescription, SetProcess, apply_changes, last_drawn}
use Rattle.kern_model.proofs.KeyLaws.{pid_cmp_total, pid_cmp_exact}
use Rattle.kern_model.proofs.MapLemmas.{get_or-found, get_or-same, same_key}
use Rattle.fd_table.specs.Files.{OpenFiles, next_in, with_lowest, with_opened}
use Rattle.fd_table.specs.Fds.{AllFds, Fds, fds_of}
use Rattle.sys_lookup.specs.Shared.{process_with_fds, with_fds}
use Rattle.sys_lookup.proofs.FdLemmas.{get-with_fds}

module _ (procs : FinMap pid_cmp Process) (rows : AllFds) where
  -- rows that have the same descriptors show the same processes
  pub with_fds-same : (others : AllFds) → ((who : Pid) → fds_of others who ≡ fds_of rows who) → with_fds procs others ≡ with_fds procs rows
  unfolding with_fds
  with_fds-same others same = λ i. select {X = Process} {Y = Process} {R = pid_cmp} (λ who p. Some (record p { fds = same who i })) procs

  -- a process gets other descriptors
  pub with_fds-row : (who : Pid) (q : Process) (fds : Fds) → map.get procs who ≡ Some q → with_fds procs (map.insert rows who fds) ≡ map.insert (with_fds procs rows) who (record q { fds = fds })
  with_fds-row who q fds there =
      let others : AllFds = map.insert rows who fds in
      let here = λ (r : Pid) (same : same_pid r who ≡ true). get_or-found others r map.empty fds (get-insert pid_cmp_total rows who fds r ∙ ap (λ b. cond b (Some fds) (map.get rows r)) same) in
      let elsewhere = λ (r : Pid) (other : same_pid r who ≡ false). get_or-same others rows r map.empty (get-insert pid_cmp_total rows who fds r ∙ ap (λ b. cond b (Some fds) (map.get rows r)) other) in
      same_map pid_cmp_total pid_cmp_exact _ _ (λ r.
      get-with_fds procs others r
      ∙ elim (same_pid r who) as (λ b. same_pid r who ≡ b → option_map (process_with_fds others r) (map.get procs r) ≡ cond b (Some (record q { fds = fds })) (map.get (with_fds procs rows) r)) [
        | true ↦ λ same.
            (λ i. option_map (λ (p : Process). record p { fds = here r same i }) (map.get procs r))
            ∙ ap (option_map (λ (p : Process). record p { fds = fds })) (ap (map.get procs) (same_key pid_cmp_exact r who same) ∙ there)
        | false ↦ λ other. (λ i. option_map (λ (p : Process). record p { fds = elsewhere r other i }) (map.get procs r)) ∙ sym (get-with_fds procs rows r)
      ] refl
      ∙ sym (get-insert pid_cmp_total (with_fds procs rows) who (record q { fds = fds }) r))

-- a state with other open files
abbrev pub with_files : State → FinMap pid_cmp Process → OpenFiles → State
with_files s procs t = record s { procs = with_fds procs t.processes; descriptions = t.descriptions; description_numbers = t.numbers }

-- tables that differ at most in rows without descriptors
pub record ShowTheSame (t u : OpenFiles) : Type 0 where
  pub processes : (who : Pid) → fds_of u.processes who ≡ fds_of t.processes who
  pub descriptions : u.descriptions ≡ t.descriptions
  pub numbers : u.numbers ≡ t.numbers

-- a description is made, with the lowest free descriptor of a process
pub opened_shows : (s : State) (procs : FinMap pid_cmp Process) (t u : OpenFiles) → ShowTheSame t u → (who : Pid) (q : Process) → map.get procs who ≡ Some q → (l : Label) (d : Description)
    → with_files s procs (with_opened u who l d)
    ≡ apply_changes (with_files s procs t)
    (DrawDescription l (last_drawn t.numbers l + 1)
    ∷ SetDescription (next_in t l) d
    ∷ SetProcess who (with_descriptor (process_with_fds t.processes who q) (next_in t l)) ∷ [])
opened_shows s procs t u same who q there l d =
    ap (λ (m : FinMap pid_cmp Process). record s { procs = m; descriptions = map.insert u.descriptions (next_in u l) d; description_numbers = map.insert u.numbers l (last_drawn u.numbers l + 1) })
    (with_fds-row procs u.processes who q (with_lowest (fds_of u.processes who) (next_in u l)) there)
    ∙ (λ i. record s {
      procs = map.insert (with_fds-same procs t.processes u.processes same.processes i) who (record q { fds = with_lowest (same.processes who i) (record { label = l; n = last_drawn (same.numbers i) l + 1 }) });
      descriptions = map.insert (same.descriptions i) (record { label = l; n = last_drawn (same.numbers i) l + 1 }) d;
      description_numbers = map.insert (same.numbers i) l (last_drawn (same.numbers i) l + 1);
    })
