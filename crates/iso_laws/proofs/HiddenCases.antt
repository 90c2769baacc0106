-- A process that is not Low changes nothing in the part, by each kind of effect.
use Rattle.std.specs.Prelude.{◌≡◌, ℕ, ◌++◌, false, [], ◌∷◌, Some, refl}
use Rattle.std.proofs.Common.{sym, ◌∙◌, ap, inl, inr}
use Rattle.std.proofs.lemmas.Bool.{and_parts}
use Rattle.std.specs.FinMap as map
use Rattle.lab_lattice.specs.Label.{Label}
use Rattle.kern_model.specs.declared.numbers.Oid.{Oid}
use Rattle.kern_model.specs.declared.numbers.Pid.{Pid}
use Rattle.kern_model.specs.declared.checks.Place.{Place}
use Rattle.kern_model.specs.declared.checks.Place.TheVariants.{Handle}
use Rattle.kern_model.specs.Create.{creation}
use Rattle.kern_model.specs.Descriptors.{Opened, changes_of_close}
use Rattle.kern_model.specs.FileRows.{open_object, description_creation, offset_change, with_bytes, pipe_creation}
use Rattle.kern_model.specs.ProcessRows.{child_of}
use Rattle.kern_model.specs.Rules.{mac_write, mac_write_process}
use Rattle.kern_model.specs.State.{State, Process, SetObject, SetProcess, SetEntry, DropEntry, DrawProcess, next_object, next_process}
use Rattle.kern_model.specs.Step.{subject}
use Rattle.kern_model.specs.Isolation.{low, crosses, Kept}
use Rattle.kern_model.specs.Valid.{IsValid, IsDir, IsThere}
use Rattle.kern_model.proofs.MapLemmas.{same_key}
use Rattle.kern_model.proofs.KeyLaws.{pid_cmp_exact}
use Rattle.iso_laws.proofs.Part.{part_changes, hides_first, part_of_high}
use Rattle.iso_laws.proofs.Rows.{Passes}
use Rattle.iso_laws.proofs.PartReads.{IsOpen, open_object_is, write_side, equal_side}
use Rattle.iso_laws.proofs.files.Closing.{closing_hidden}
use Rattle.iso_laws.proofs.files.Closed.{has_fd, without_fd}
use Rattle.iso_laws.proofs.processes.Ending.{ending_hidden}
use Rattle.iso_laws.proofs.Cases.{EffectCases}

-- a process that is not Low changes nothing in the part
pub hidden_cases : (l : Label) (s : State) → Kept l s → IsValid s → (who : Pid) (p : Process) (ArgsValid : Type 0) → map.get s.procs who ≡ Some p → low l who.label ≡ false → EffectCases (crosses l) s who p ArgsValid (λ cs. part_changes l s.top cs ≡ [])
hidden_cases l s kept valid who p ArgsValid is high =
    let mine : low l p.label ≡ false = sym (kept.procs who p is) ∙ high in
    let wrote_there : (id : Oid) (place : Place) → Passes (crosses l) (subject who p) (mac_write s p id place) → IsThere s.objects id → low l id.label ≡ false =
    λ id place written there. sym (write_side l s kept who p id there place written) ∙ mine in
    let wrote : (id : Oid) (place : Place) → Passes (crosses l) (subject who p) (mac_write s p id place) → IsDir s.objects id → low l id.label ≡ false =
    λ id place written dir. wrote_there id place written (record { value = dir.object; is = dir.is }) in
    let wrote_open : (fd : ℕ) (f : Opened) → IsOpen s p fd f → Passes (crosses l) (subject who p) (mac_write s p f.description.object Handle) → low l f.description.object.label ≡ false =
    λ fd f open_is written. wrote_there f.description.object Handle written (record { value = open_object s f; is = open_object_is s valid p fd f open_is }) in
    let described : (fd : ℕ) (f : Opened) → IsOpen s p fd f → low l f.did.label ≡ false = λ fd f open_is. kept.fds who p fd f.did is open_is.fd_is ∙ high in
    let unseen : (q : Process) → part_changes l s.top (SetProcess who q ∷ []) ≡ [] = λ q. part_of_high l s.top (SetProcess who q ∷ []) (high, tt) in
    record {
      none = refl;
      set_caller = λ ids caps umask audited groups within args. unseen _;
      label = λ new passes args. unseen _;
      cwd = λ id place read dir. unseen _;
      remove_entry = λ dir name id place written is_dir at empty. part_of_high l s.top (DropEntry (dir, name) ∷ []) (wrote dir place written is_dir, tt);
      add_entry = λ dir name id place written is_dir free not_removed named no_dir few order args. part_of_high l s.top (SetEntry (dir, name) id ∷ []) (wrote dir place written is_dir, tt);
      move = λ dir name id into new place there_place written is_dir written_there move args. part_of_high l s.top (DropEntry (dir, name) ∷ SetEntry (into, new) id ∷ []) (wrote dir place written is_dir, (wrote into there_place written_there move.into_is, tt));
      create = λ dir name o place making. part_of_high l s.top (creation s p.label dir name o) (mine, (mine, (wrote dir place making.written making.is_dir, tt)));
      open_existing = λ id flags place may. part_of_high l s.top (description_creation s who p id flags) (mine, (mine, (high, tt)));
      open_emptied = λ id flags place attr may writes file mode.
          part_of_high l s.top (SetObject id _ ∷ description_creation s who p id flags) (wrote_there id place (may.written writes) (record { value = may.target.object; is = may.target.is }), (mine, (mine, (high, tt))));
      open_made = λ dir name o place flags making file room.
          part_of_high l s.top (creation s p.label dir name o ++ description_creation s who p (next_object s p.label) flags) (mine, (mine, (wrote dir place making.written making.is_dir, (mine, (mine, (high, tt))))));
      duplicate = λ fd f open_is free. unseen _;
      seek = λ fd f offset open_is. part_of_high l s.top (offset_change f offset ∷ []) (described fd f open_is, tt);
      write_stream = λ fd f bytes open_is written stream few. part_of_high l s.top (with_bytes s f.description.object bytes ∷ []) (wrote_open fd f open_is written, tt);
      write_file = λ fd f attr bytes offset open_is written file mode few. part_of_high l s.top (SetObject f.description.object _ ∷ offset_change f offset ∷ []) (wrote_open fd f open_is written, (described fd f open_is, tt));
      pipe = λ left free numbers. part_of_high l s.top (pipe_creation s who p) (mine, (mine, (mine, (mine, (mine, (high, tt))))));
      close = λ fd.
          hides_first l s.top (SetProcess who (without_fd p fd)) (changes_of_close s (has_fd who fd)) high
          ∙ closing_hidden l s kept valid (has_fd who fd) (λ d of gone. ap (λ (q : Pid). low l q.label) (same_key pid_cmp_exact d.who who (and_parts _ _ gone).0) ∙ high);
      attributes = λ id o attr place at written mode caps. part_of_high l s.top (SetObject id (record o { attr = attr }) ∷ []) (wrote_there id place written (record { value = o; is = at }), tt);
      relabel = λ id o new place at written relabelling args. part_of_high l s.top (SetObject id (record o { label = new }) ∷ []) (wrote_there id place written (record { value = o; is = at }), tt);
      fork = λ left. part_of_high l s.top (DrawProcess p.label _ ∷ SetProcess (next_process s p.label) (child_of who p) ∷ []) (mine, (mine, tt));
      await = λ e es first. unseen _;
      end_process = λ q x how at reached.
          ending_hidden l s kept valid q x how at
          (elim reached as (λ w. low l q.label ≡ false) [
            | inl own ↦ ap (λ (z : Pid). low l z.label) own ∙ high
            | inr written ↦ sym (equal_side l (subject who p) (mac_write_process p q q.label) refl refl written) ∙ mine
          ]);
    }
