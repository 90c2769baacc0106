-- What a pipe with its two descriptions makes of a state.
use Rattle.std.specs.Prelude.{◌≡◌, ◌+◌, ◌≤◌, ℕ, Bool, true, false, cond, nat_le}
use Rattle.std.specs.FinMap as map
use Rattle.std.specs.FinMap.{contains_key, len-entries, len-insert}
use Rattle.std.proofs.Common.{ap, sym, ◌∙◌, arith}
use Rattle.std.proofs.lemmas.Bool.{le-leb, leb-true}
use Rattle.std.specs.Cmp.{nat_cmp_total}
use Rattle.lab_lattice.specs.Label.{Label}
use Rattle.lab_lattice.proofs.Labels.{label_cmp_total, label_cmp_exact}
use Rattle.kern_model.specs.declared.calls.OpenFlags.{OpenFlags}
use Rattle.kern_model.specs.declared.numbers.Did.{Did}
use Rattle.kern_model.specs.declared.numbers.Oid.{Oid}
use Rattle.kern_model.specs.declared.numbers.Pid.{Pid}
use Rattle.kern_model.specs.Descriptors.{lowest_free, with_descriptor}
use Rattle.kern_model.specs.FileRows.{pipe_addition, has_free_descriptors, on_pipe, description_creation, pipe_creation, second_description}
use Rattle.kern_model.specs.State.{State, Process, apply_changes, last_drawn, next_description, next_object, process_at}
use Rattle.kern_model.proofs.KeyLaws.{pid_cmp_total, pid_cmp_exact}
use Rattle.kern_model.proofs.MapLemmas.{get-insert_same, get_or-found}
use Rattle.kern_model.proofs.StateLemmas.{process_is}
use Rattle.fd_table.proofs.Loops.{set_twice}
use Rattle.sys_file.specs.PipeEnds.{end_flags}

at_most_one_more : (b : Bool) (n : ℕ) → cond b n (n + 1) ≤ n + 1
at_most_one_more true n = omega arith
at_most_one_more false n = omega arith

-- where two descriptors are free, one still is after one is taken
pub one_left : (p : Process) (did : Did) → has_free_descriptors p 2 ≡ true → has_free_descriptors (with_descriptor p did) 1 ≡ true
one_left p did free =
    let size = sym (len-entries (map.insert p.fds (lowest_free p.fds) did)) ∙ len-insert nat_cmp_total p.fds (lowest_free p.fds) did in
    let few = leb-true _ _ free in
    let more = at_most_one_more (contains_key p.fds (lowest_free p.fds)) (map.len p.fds) in
    le-leb _ _ (omega (arith, size, few, more, len-entries p.fds))

-- the number after the next one
pub drawn_after : (s : State) (l : Label) → last_drawn (map.insert s.description_numbers l (last_drawn s.description_numbers l + 1)) l + 1 ≡ last_drawn s.description_numbers l + 2
drawn_after s l =
    let n = last_drawn s.description_numbers l in
    ap (λ k. k + 1) (get_or-found (map.insert s.description_numbers l (n + 1)) l 0 (n + 1) (get-insert_same label_cmp_total s.description_numbers l (n + 1))) ∙ omega arith

-- where two more may be counted, one may
pub one_less : (n most : ℕ) → nat_le (n + 2) most ≡ true → nat_le (n + 1) most ≡ true
one_less n most fits = let few = leb-true _ _ fits in le-leb _ _ (omega (arith, few))

module _ (s : State) (who : Pid) (p : Process) (id : Oid) where
  -- the state with the pipe, and then with the description for reading
  abbrev pub with_pipe : State
  with_pipe = apply_changes s (pipe_addition s p)

  abbrev pub first : Did
  first = next_description s p.label

  abbrev pub with_reader : State
  with_reader = apply_changes with_pipe (description_creation with_pipe who p id (end_flags true))

  abbrev pub with_both : State
  with_both = apply_changes with_reader (description_creation with_reader who (with_descriptor p first) id (end_flags false))

  pub reader_is : process_at with_reader who ≡ with_descriptor p first
  reader_is = process_is with_reader who (with_descriptor p first) (get-insert_same pid_cmp_total s.procs who (with_descriptor p first))

  pub both_are : id ≡ next_object s p.label → with_both ≡ apply_changes s (pipe_creation s who p)
  both_are is =
      let l = p.label in
      let n = last_drawn s.description_numbers l in
      let last = drawn_after s l in
      let reader = with_descriptor p first in
      (λ i. record with_pipe {
        descriptions = map.insert (map.insert s.descriptions first (on_pipe (is i) true)) (record { label = l; n = last i }) (on_pipe (is i) false);
        description_numbers = map.insert (map.insert s.description_numbers l (n + 1)) l (last i);
        procs = map.insert (map.insert s.procs who reader) who (with_descriptor reader (record { label = l; n = last i }));
      })
      ∙ (λ i. record with_pipe {
        descriptions = map.insert (map.insert s.descriptions first (on_pipe (next_object s p.label) true)) (second_description s p) (on_pipe (next_object s p.label) false);
        description_numbers = set_twice label_cmp_total label_cmp_exact s.description_numbers l (n + 1) (n + 2) i;
        procs = set_twice pid_cmp_total pid_cmp_exact s.procs who reader (with_descriptor reader (second_description s p)) i;
      })

-- a pipe is made, and then a description for reading
pub reader_made : (s : State) (who : Pid) (id : Oid) {u v : State} {flags : OpenFlags} → u ≡ apply_changes s (pipe_addition s (process_at s who))
    → v ≡ apply_changes u (description_creation u who (process_at u who) id flags) → flags ≡ end_flags true → v ≡ with_reader s who (process_at s who) id
reader_made s who id pipe reader same = reader ∙ (λ i. apply_changes (pipe i) (description_creation (pipe i) who (process_at (pipe i) who) id (same i)))
