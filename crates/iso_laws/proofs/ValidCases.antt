-- A valid state stays valid, by each kind of effect.
use Rattle.std.specs.Prelude.{◌≡◌, ◌≤◌, ◌&&◌, length, ℕ, Bool, true, List, [], Some, refl}
use Rattle.std.specs.List.{AllByRecursion}
use Rattle.std.proofs.Common.{sym, ◌∙◌, ap, subst, arith}
use Rattle.std.proofs.lemmas.Bool.{true≢false, and_from, not-true}
use Rattle.std.specs.FinMap as map
use Rattle.kern_model.specs.declared.limits.TheConstants.{MAX_GROUPS}
use Rattle.cap_bits.specs.CapSet.{is_within}
use Rattle.cap_bits.specs.declared.state.CapState.{CapState}
use Rattle.lab_lattice.specs.Label.{Label, dominates}
use Rattle.kern_model.specs.declared.calls.Ending.{Ending}
use Rattle.kern_model.specs.declared.numbers.Did.{Did}
use Rattle.kern_model.specs.declared.numbers.Ids.{Ids}
use Rattle.kern_model.specs.declared.numbers.Oid.{Oid}
use Rattle.kern_model.specs.declared.numbers.Pid.{Pid}
use Rattle.kern_model.specs.declared.objects.Kind.TheVariants as kind
use Rattle.kern_model.specs.declared.objects.Object.{Object}
use Rattle.kern_model.specs.declared.records.Rec.{Rec}
use Rattle.kern_model.specs.Create.{creation}
use Rattle.kern_model.specs.FileRows.{open_object}
use Rattle.kern_model.specs.Keys.{same_oid}
use Rattle.kern_model.specs.Kinds.{is_file, is_fifo, is_permission, is_stream}
use Rattle.kern_model.specs.State.{State, Process, Description, SetObject, SetProcess, apply_change, apply_changes, next_object, object_at, stub_object}
use Rattle.kern_model.specs.Valid.{IsValid, IsDir, IsValidEnd, IsValidProcess}
use Rattle.kern_model.proofs.MapLemmas.{some_same, get-insert_same, get_or-found}
use Rattle.kern_model.proofs.KeyLaws.{oid_cmp_total, did_cmp_total, did_cmp_exact}
use Rattle.iso_laws.proofs.PartReads.{open_object_is, open_no_dir}
use Rattle.kern_model.proofs.Selections.{one_passes}
use Rattle.iso_laws.proofs.attributes.Labels.{valid_relabelled}
use Rattle.iso_laws.proofs.files.Changes.{valid_moved, valid_content, valid_shared, valid_opened, valid_process}
use Rattle.iso_laws.proofs.files.Closed.{valid_close}
use Rattle.iso_laws.proofs.files.Pipes.{valid_piped}
use Rattle.iso_laws.proofs.processes.Ending.{valid_ended}
use Rattle.iso_laws.proofs.processes.Forking.{valid_forked}
use Rattle.iso_laws.proofs.tree.Changes.{no_dir_is, valid_drop, valid_link, valid_made}
use Rattle.iso_laws.proofs.tree.Moves.{valid_move}
use Rattle.iso_laws.proofs.Cases.{EffectCases}
use Rattle.std.proofs.lemmas.Cmp.{eq_by_cmp_equiv}

module _ (s : State) (valid : IsValid s) (who : Pid) (p : Process) (is : map.get s.procs who ≡ Some p) where
  own : IsValidProcess s who p
  own = valid.procs who p is

  -- a valid state stays valid where the caller changes, but for its parent and descriptors
  valid_caller : (ids : Ids) (caps : CapState) (umask : ℕ) (audited : Bool) (label : Label) (cwd : Oid) (ended : List (Pid × Ending)) → dominates s.top label ≡ true
      → is_within caps.e caps.p ≡ true → is_permission umask ≡ true → length ids.groups ≤ MAX_GROUPS → IsDir s.objects cwd → AllByRecursion (IsValidEnd s) ended
      → IsValid (apply_change s (SetProcess who (record p { ids = ids; caps = caps; umask = umask; audited = audited; label = label; cwd = cwd; ended = ended })))
  valid_caller ids caps umask audited label cwd ended below within mode few dir ends =
      valid_process s valid who _ (λ old e. ap (λ (x : Process). x.fds) (some_same p old (sym is ∙ e))) (record {
        below = below;
        drawn_already = own.drawn_already;
        within = within;
        umask = mode;
        few_groups = few;
        cwd = dir;
        parent = own.parent;
        ended = ends;
        fds = own.fds;
      })

-- a valid state stays valid, whatever crosses
pub valid_cases : (excluded : Rec → Bool) (s : State) → IsValid s → (who : Pid) (p : Process) → map.get s.procs who ≡ Some p → EffectCases excluded s who p (Unit {0}) (λ cs. IsValid (apply_changes s cs))
valid_cases excluded s valid who p is =
    let mine : IsValidProcess s who p = own s valid who p is in
    record {
      none = valid;
      set_caller = λ ids caps umask audited groups within args.
          valid_caller s valid who p is ids caps umask audited p.label p.cwd p.ended mine.below within (args tt) (subst (λ gs. length gs ≤ MAX_GROUPS) (sym groups) mine.few_groups) mine.cwd mine.ended;
      label = λ new passes args.
          valid_caller s valid who p is p.ids p.caps p.umask p.audited new p.cwd p.ended (args tt) mine.within mine.umask mine.few_groups mine.cwd mine.ended;
      cwd = λ id place read dir.
          valid_caller s valid who p is p.ids p.caps p.umask p.audited p.label id p.ended mine.below mine.within mine.umask mine.few_groups dir mine.ended;
      remove_entry = λ dir name id place written is_dir at empty. valid_drop s valid (dir, name) id at empty;
      add_entry = λ dir name id place written is_dir free not_removed named no_dir few order args. valid_link s valid dir name id is_dir free not_removed named.object named.is (not-true _ no_dir) named.no_pipe few order (args tt);
      move = λ dir name id into new place there_place written is_dir written_there move args. valid_move s valid dir name id into new move (args tt);
      create = λ dir name o place making. valid_made s valid p dir name o making.fresh making.is_dir making.free making.not_removed mine.below making.left making.order (making.named tt);
      open_existing = λ id flags place may. valid_opened s valid who p is (record { object = id; reads = flags.r; writes = flags.w; appends = flags.a; offset = 0 }) may.target.object may.target.is (no_dir_is may.target.object may.no_dir) may.room.descriptor may.room.number;
      open_emptied = λ id flags place attr may writes file mode.
          let old : Object = may.target.object in
          let new : Object = record (object_at s id) { attr = attr; bytes = [] } in
          let at : object_at s id ≡ old = get_or-found s.objects id (stub_object s.top) old may.target.is in
          let new_file : new.kind ≡ kind.File = ap (λ (o : Object). o.kind) at ∙ file in
          valid_opened (apply_change s (SetObject id new))
          (valid_content s valid id old new may.target.is (ap (λ (o : Object). o.kind) at) (ap (λ (o : Object). o.label) at)
          (record { mode = mode; only_files = λ other. absurd (true≢false (ap is_file (sym new_file) ∙ other)); dir_bytes = λ _. refl; file_bytes = λ _. omega arith; stream_bytes = λ _. omega arith }) (λ _ _. refl))
          who p is (record { object = id; reads = flags.r; writes = flags.w; appends = flags.a; offset = 0 }) new (get-insert_same oid_cmp_total s.objects id new) (λ dir. let no : kind.File ≡ kind.Dir = sym new_file ∙ dir in cc) may.room.descriptor may.room.number;
      open_made = λ dir name o place flags making file room.
          valid_opened (apply_changes s (creation s p.label dir name o)) (valid_made s valid p dir name o making.fresh making.is_dir making.free making.not_removed mine.below making.left making.order (making.named tt))
          who p is (record { object = next_object s p.label; reads = flags.r; writes = flags.w; appends = flags.a; offset = 0 }) o (get-insert_same oid_cmp_total s.objects (next_object s p.label) o) (λ dir. let no : kind.File ≡ kind.Dir = sym file ∙ dir in cc) room.descriptor room.number;
      duplicate = λ fd f open_is free. valid_shared s valid who p is f.did (record { value = f.description; is = open_is.is }) free;
      seek = λ fd f offset open_is. valid_moved s valid f.did f.description (record f.description { offset = offset }) open_is.is refl;
      write_stream = λ fd f bytes open_is written stream few.
          let id : Oid = f.description.object in
          let there = open_object_is s valid p fd f open_is in
          let old = valid.objects id (open_object s f) there in
          valid_content s valid id (open_object s f) (record (open_object s f) { bytes = bytes }) there refl refl
          (record {
            mode = old.mode;
            only_files = old.only_files;
            dir_bytes = λ dir. absurd (open_no_dir s valid p fd f open_is dir);
            file_bytes = λ file. absurd (true≢false (sym stream ∙ ap is_stream file));
            stream_bytes = λ _. few;
          })
          (λ _ none. absurd (true≢false (sym (one_passes did_cmp_total did_cmp_exact (λ (did : Did) (d : Description). same_oid d.object id && true) s.descriptions f.did f.description open_is.is (and_from _ _ ((eq_by_cmp_equiv oid_cmp_total).refl id) refl)) ∙ none)));
      write_file = λ fd f attr bytes offset open_is written file mode few.
          let there = open_object_is s valid p fd f open_is in
          let new : Object = record (open_object s f) { attr = attr; bytes = bytes } in
          valid_moved (apply_change s (SetObject f.description.object new))
          (valid_content s valid f.description.object (open_object s f) new there refl refl
          (record {
            mode = mode;
            only_files = λ other. absurd (true≢false (ap is_file (sym file) ∙ other));
            dir_bytes = λ dir. absurd (open_no_dir s valid p fd f open_is dir);
            file_bytes = λ _. few;
            stream_bytes = λ stream. absurd (true≢false (sym stream ∙ ap is_stream file));
          })
          (λ fifo _. absurd (true≢false (ap is_fifo (sym fifo) ∙ ap is_fifo file))))
          f.did f.description (record f.description { offset = offset }) open_is.is refl;
      pipe = valid_piped s valid who p is;
      close = λ fd. valid_close s who p is fd valid;
      attributes = λ id o attr place at written mode caps.
          let old = valid.objects id o at in
          valid_content s valid id o (record o { attr = attr }) at refl refl (record { mode = mode tt; only_files = caps; dir_bytes = old.dir_bytes; file_bytes = old.file_bytes; stream_bytes = old.stream_bytes }) old.fifo_bytes;
      relabel = λ id o new place at written relabelling args. valid_relabelled s valid id o at new (args tt) relabelling.above relabelling.no_root relabelling.no_entries;
      fork = valid_forked s valid who p is;
      await = λ e es first.
          valid_caller s valid who p is p.ids p.caps p.umask p.audited p.label p.cwd es mine.below mine.within mine.umask mine.few_groups mine.cwd
          (subst (AllByRecursion (IsValidEnd s)) first mine.ended).1;
      end_process = λ q x how at _. valid_ended s valid q x at how;
    }
