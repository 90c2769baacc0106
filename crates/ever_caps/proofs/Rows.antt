-- The row of each call sets only capability sets and labels that have a property which programs and calls keep.
use Rattle.std.specs.Prelude.{◌≡◌, ◌∷◌, ◌==◌, ⊤, ℕ, ◌+◌, ◌&&◌, ◌||◌, not, Bool, true, false, List, [], Option, Some, None, refl, cond, length, unwrap_or}
use Rattle.std.specs.List.{AllByRecursion}
use Rattle.std.specs.FinMap as map
use Rattle.std.proofs.Common.{sym, subst}
use Rattle.std.proofs.lemmas.Bool.{and_parts}
use Rattle.cap_bits.specs.CapSet.{has}
use Rattle.cap_bits.specs.FileCaps.{caps_by, no_file_caps, shown}
use Rattle.cap_bits.specs.declared.cap.Cap.TheVariants as cap
use Rattle.cap_bits.specs.declared.file_caps.FileCaps.{FileCaps}
use Rattle.cap_bits.specs.declared.state.CapState.{CapState}
use Rattle.fs_path.specs.Name.{Name}
use Rattle.fs_path.specs.Path.{PathValue}
use Rattle.lab_lattice.specs.Label.{Label, dominates}
use Rattle.lab_lattice.proofs.Labels.{dominates_both}
use Rattle.kern_model.specs.declared.calls.Answer.TheVariants as answer
use Rattle.kern_model.specs.declared.calls.Call.{Call}
use Rattle.kern_model.specs.declared.calls.Call.TheVariants as call
use Rattle.kern_model.specs.declared.calls.Ending.{Ending}
use Rattle.kern_model.specs.declared.calls.Ending.TheVariants as ending
use Rattle.kern_model.specs.declared.calls.OpenFlags.{OpenFlags}
use Rattle.kern_model.specs.declared.calls.Signal.{Signal}
use Rattle.kern_model.specs.declared.calls.Signal.TheVariants as signal
use Rattle.kern_model.specs.declared.checks.Check.{Check}
use Rattle.kern_model.specs.declared.checks.CheckName.{CheckName}
use Rattle.kern_model.specs.declared.checks.CheckName.TheVariants as check
use Rattle.kern_model.specs.declared.checks.Place.{Place}
use Rattle.kern_model.specs.declared.checks.Place.TheVariants.{First, Second, Handle}
use Rattle.kern_model.specs.declared.numbers.Oid.{Oid}
use Rattle.kern_model.specs.declared.numbers.Pid.{Pid}
use Rattle.kern_model.specs.declared.objects.Body.{Body}
use Rattle.kern_model.specs.declared.objects.Body.TheVariants as body
use Rattle.kern_model.specs.declared.records.Rec.{Rec}
use Rattle.kern_model.specs.declared.records.Rec.TheVariants as rec
use Rattle.kern_model.specs.AttrRows.{change_mode, change_owner, on_open_object, get_caps, get_label, set_caps, set_label, write_object_then}
use Rattle.kern_model.specs.Descriptors.{Descriptor, Opened, changes_of_close, let_go, is_let_go, is_drained, open_description}
use Rattle.kern_model.specs.Exec.{exec_caps}
use Rattle.kern_model.specs.FileRows.{on_descriptor, open_object, or_not_open}
use Rattle.kern_model.specs.Kinds.{is_file, is_stream}
use Rattle.kern_model.specs.OpenRows.{open_absent, open_emptying, open_found, open_present}
use Rattle.kern_model.specs.Keys.{is_pid, same_oid, same_pid}
use Rattle.kern_model.specs.ProcessRows.{changes_after_end, ending_of, execute, process_after_end, send, signal_row, take_ended}
use Rattle.kern_model.specs.Row.{Row, Commit, need_if}
use Rattle.kern_model.specs.Rules.{cap_grow, cap_within, mac_change_of, mac_downgrade_of, mac_read, mac_subject, mac_upgrade_of, mac_write, same_label}
use Rattle.kern_model.specs.State.{State, Process, Change, SetObject, SetProcess, look, object_at}
use Rattle.kern_model.specs.Step.{subject}
use Rattle.kern_model.specs.Table.{row}
use Rattle.kern_model.specs.TreeRows.{give_way, go_to, link_to, make_row, move_row, move_to, old_entry, read_dir, remove_dir, remove_name, report_stat}
use Rattle.kern_model.specs.Walk.{Found, Start, Entry, dir_place, last_place, on_path, or_missing, start_of, to_entry, to_new_name, to_object, walk, walk_from}
use Rattle.kern_model.proofs.KeyLaws.{pid_cmp_total, pid_cmp_exact}
use Rattle.kern_model.proofs.MapLemmas.{each-entries}
use Rattle.iso_laws.proofs.AllLemmas.{all-append, all_always, all_each, all_if}
use Rattle.ever_caps.proofs.Meets.{IsGranted, Meets, meets_cond, meets_need_if}

-- a new label dominates the old one
abbrev pub GoesUp : Label → Option Label → Type 0
GoesUp old None = ⊥
GoesUp old (Some new) = dominates new old ≡ true

-- a check of reading by label asks that the caller's label dominates the thing's, and gives no label; one of a label that goes up is of an object that the
-- caller writes, by label
abbrev pub AsksByName : Process → Check → CheckName → Type 0
AsksByName p c check.MacRead = (c.holds ≡ dominates p.label c.thing_label) × (c.new_label ≡ None)
AsksByName p c check.MacUpgrade = ((same_label p.label c.thing_label || has p.caps.e cap.MacWrite) ≡ true) × GoesUp c.thing_label c.new_label
AsksByName p c _ = ⊤

abbrev pub AsksByLabel : Process → Check → Type 0
AsksByLabel p c = AsksByName p c c.name

-- a record is no exercise
abbrev pub IsNoExercise : Rec → Type 0
IsNoExercise (rec.Exercise e) = ⊥
IsNoExercise _ = ⊤

abbrev pub IfOwn : Option Rec → Type 0
IfOwn None = ⊤
IfOwn (Some r) = IsNoExercise r

-- the sets of a process and of a file, with its label, have a property
module _ (OfProcess : Label → CapState → Type 0) (OfFile : Label → FileCaps → Type 0) where
  abbrev pub Sets : Change → Type 0
  Sets (SetObject id o) = OfFile o.label o.attr.caps
  Sets (SetProcess who p) = OfProcess p.label p.caps
  Sets change = ⊤

  abbrev pub Commits : List Change → Option Rec → Type 0
  Commits cs own = AllByRecursion Sets cs × IfOwn own

  -- what a process may do keeps the property
  pub record IsKept (s : State) (who : Pid) (p : Process) : Type 0 where
    pub processes : (q : Pid) (x : Process) → map.get s.procs q ≡ Some x → OfProcess x.label x.caps
    pub caller : OfProcess p.label p.caps
    pub files : (id : Oid) → OfFile (object_at s id).label (object_at s id).attr.caps
    pub bare : (l : Label) → OfFile l no_file_caps
    -- it sets its own sets
    pub own_sets : (caps : CapState) → IsGranted (subject who p) (cap_grow who p caps) → OfProcess p.label caps
    -- it executes a file
    pub programs : (id : Oid) (place : Place) → IsGranted (subject who p) (mac_read s p id place)
        → OfProcess p.label (exec_caps p.caps (shown (object_at s id).attr.caps) s.bound)
    -- it sets the sets of a file
    pub file_sets : (id : Oid) (place : Place) (caps : CapState) → IsGranted (subject who p) (mac_write s p id place) → IsGranted (subject who p) (cap_within who p caps)
        → OfFile (object_at s id).label (caps_by caps)
    -- it changes its label, or that of an object
    pub own_label : (new : Label) → (not (same_label new p.label) ≡ true → IsGranted (subject who p) (mac_subject who p new)) → OfProcess new p.caps
    pub file_label : (id : Oid) (new : Label) (place : Place) → IsGranted (subject who p) (mac_write s p id place) → IsGranted (subject who p) (mac_change_of new id (object_at s id) place)
        → OfFile new (object_at s id).attr.caps

  module _ (s : State) (who : Pid) (p : Process) (kept : IsKept s who p) where
    abbrev RowMeets : Row → Type 0
    RowMeets = Meets (subject who p) (AsksByLabel p) Commits

    -- ---- parts of rows
    either : (b : Bool) (x y : Row) → (b ≡ true → RowMeets x) → (b ≡ false → RowMeets y) → RowMeets (cond b x y)
    either = meets_cond (subject who p) (AsksByLabel p) Commits

    missing : (o : Option Oid) (k : Oid → Row) → ((id : Oid) → RowMeets (k id)) → RowMeets (or_missing o k)
    missing None k h = tt
    missing (Some id) k h = h id

    opened : (o : Option Opened) (k : Opened → Row) → ((f : Opened) → RowMeets (k f)) → RowMeets (or_not_open o k)
    opened None k h = tt
    opened (Some f) k h = h f

    on_open : (fd : ℕ) (k : Opened → Row) → ((f : Opened) → RowMeets (k f)) → RowMeets (on_descriptor s p fd k)
    on_open fd k h = opened (open_description s p fd) k h

    walked_from : (place : ℕ → Place) (at : ℕ) (dir : Oid) (names : List Name) (k : Found → Row) → ((found : Found) → RowMeets (k found)) → RowMeets (walk_from s p place at dir names k)
    walked_from place at dir [] k h = h (Start dir)
    walked_from place at dir (name ∷ []) k h = ((refl, refl), λ _. (tt, λ _. h (Entry dir name (look s dir name))))
    walked_from place at dir (name ∷ next ∷ names) k h =
        ((refl, refl), λ _. (tt, λ _. missing (look s dir name) _ (λ id. walked_from place (at + 1) id (next ∷ names) k h)))

    walked : (place : ℕ → Place) (path : PathValue) (k : Found → Row) → ((found : Found) → RowMeets (k found)) → RowMeets (walk s p place path k)
    walked place path k h = walked_from place 0 (start_of p path) path.names k h

    to_what_is_there : (found : Found) (k : Oid → Row) → ((id : Oid) → RowMeets (k id)) → RowMeets (to_object found k)
    to_what_is_there (Start id) k h = h id
    to_what_is_there (Entry dir name object) k h = missing object k h

    to_a_new_name : (found : Found) (k : Oid → Name → Row) → ((dir : Oid) (name : Name) → RowMeets (k dir name)) → RowMeets (to_new_name found k)
    to_a_new_name (Start id) k h = tt
    to_a_new_name (Entry dir name None) k h = h dir name
    to_a_new_name (Entry dir name (Some id)) k h = tt

    to_an_entry : (found : Found) (k : Oid → Name → Option Oid → Row) → ((dir : Oid) (name : Name) (object : Option Oid) → RowMeets (k dir name object)) → RowMeets (to_entry found k)
    to_an_entry (Start id) k h = tt
    to_an_entry (Entry dir name object) k h = h dir name object

    reached : (path : PathValue) (k : Oid → Place → Row) → ((id : Oid) (place : Place) → RowMeets (k id place)) → RowMeets (on_path s p path k)
    reached path k h = walked (λ n. First n) path _ (λ found. to_what_is_there found _ (λ id. h id _))

    on_object_of : (fd : ℕ) (k : Oid → Place → Row) → ((id : Oid) (place : Place) → RowMeets (k id place)) → RowMeets (on_open_object s p fd k)
    on_object_of fd k h = on_open fd _ (λ f. h f.description.object Handle)

    -- ---- open
    emptying : (flags : OpenFlags) (id : Oid) (place : Place) → RowMeets (open_emptying s who p flags id place)
    emptying flags id place =
        either (flags.t && is_file (object_at s id).kind) _ _
        (λ _. (tt, ((λ _. ((kept.files id, (tt, (tt, (kept.caller, tt)))), tt)), ((kept.bare (object_at s id).label, (tt, (tt, (kept.caller, tt)))), tt))))
        (λ _. ((tt, (tt, (kept.caller, tt))), tt))

    asked : (b : Bool) (c : Check) (r : Row) → AsksByLabel p c → RowMeets r → RowMeets (need_if b c r)
    asked b c r h rest = meets_need_if (subject who p) (AsksByLabel p) Commits b c r h (λ _. rest)

    present : (flags : OpenFlags) (id : Oid) (place : Place) → RowMeets (open_present s who p flags id place)
    present flags id place =
        asked _ _ _ (refl, refl) (asked _ _ _ tt (asked _ _ _ tt (asked _ _ _ tt (asked _ _ _ tt (emptying flags id place)))))

    absent : (flags : OpenFlags) (mode : ℕ) (dir : Oid) (name : Name) (place : Place) → RowMeets (open_absent s who p flags mode dir name place)
    absent flags mode dir name place =
        (tt, λ _. (tt, λ _. (tt, λ _. ((tt, (kept.bare p.label, (tt, (tt, (tt, (kept.caller, tt)))))), tt))))

    found_meets : (path : PathValue) (flags : OpenFlags) (mode : ℕ) (found : Found) → RowMeets (open_found s who p path flags mode found)
    found_meets path flags mode (Start id) = present flags id _
    found_meets path flags mode (Entry dir name None) = absent flags mode dir name (dir_place (λ n. First n) path)
    found_meets path flags mode (Entry dir name (Some id)) = present flags id _

    -- ---- closing and ending
    closing : (goes : Descriptor → Bool) → AllByRecursion Sets (changes_of_close s goes)
    unfolding changes_of_close
    closing goes =
        all_each (λ _. ⊤) Sets (let_go s goes)
        (λ e _. all_if Sets (is_let_go s goes e.0) _ (tt, all_if Sets (is_drained s goes e.1.object) _ (kept.files e.1.object, tt)))
        (map.entries s.descriptions) (all_always (λ _. ⊤) (λ _. tt) (map.entries s.descriptions))

    ended : (q : Pid) (x : Process) (how : Ending) → AllByRecursion Sets (ending_of s q x how)
    unfolding ending_of
    ended q x how = (
      tt,
      all-append Sets (changes_of_close s _) _ (closing _)
          (all_each (λ (e : Pid × Process). OfProcess e.1.label e.1.caps) Sets (changes_after_end q x how) (λ e h.
          all_if Sets (not (same_pid e.0 q) && (is_pid q e.1.parent || is_pid e.0 x.parent)) (SetProcess e.0 (process_after_end q x how e.0 e.1) ∷ []) (h, tt)) (map.entries s.procs)
          (each-entries pid_cmp_total pid_cmp_exact (λ (k : Pid) (y : Process). OfProcess y.label y.caps) s.procs kept.processes)),
    )

    taken : (es : List (Pid × Ending)) → RowMeets (take_ended who p es)
    taken [] = tt
    taken (e ∷ es) = ((kept.caller, tt), tt)

    signalled : (target : Pid) (t : Process) (sig : Signal) → RowMeets (signal_row s target t sig)
    signalled target t signal.Zero = (tt, tt)
    signalled target t signal.Term = (ended target t ending.Term, tt)
    signalled target t signal.Kill = (ended target t ending.Kill, tt)

    sent : (target : Pid) (sig : Signal) (o : Option Process) → RowMeets (send s p target sig o)
    sent target sig None = tt
    sent target sig (Some t) = asked _ _ _ tt (tt, λ _. signalled target t sig)

    -- ---- entries
    made : (path : PathValue) (mode : ℕ) (b : Body) → RowMeets (make_row s who p path mode b)
    made path mode b =
        walked (λ n. First n) path _ (λ found. to_a_new_name found _ (λ dir name. (tt, λ _. (tt, λ _. (tt, λ _. ((tt, (kept.bare p.label, (tt, tt))), tt))))))

    old : (path : PathValue) (k : Oid × Name × Oid → Row) → ((e : Oid × Name × Oid) → RowMeets (k e)) → RowMeets (old_entry s p path k)
    old path k h =
        walked (λ n. First n) path _ (λ found. to_an_entry found _ (λ dir name object. missing object _ (λ id. (tt, λ _. (tt, λ _. (tt, λ _. h (dir, name, id)))))))

    gave_way : (id : Oid) (object : Option Oid) (place : Place) (r : Row) → RowMeets r → RowMeets (give_way s p id object place r)
    gave_way id None place r h = h
    gave_way id (Some t) place r h = (tt, λ _. either (same_oid t id) (Commit [] answer.Nothing None) _ (λ _. (tt, tt)) (λ _. h))

    -- ---- attributes
    got_caps : (id : Oid) (place : Place) → RowMeets (get_caps s p id place)
    got_caps id place = ((refl, refl), λ _. (tt, tt))

    set_of_file : (caps : CapState) (id : Oid) (place : Place) → RowMeets (set_caps s who p caps id place)
    set_of_file caps id place = (tt, λ written. (tt, λ _. (tt, λ _. (tt, λ within. ((kept.file_sets id place caps written within, tt), tt)))))

    got_label : (id : Oid) (place : Place) → RowMeets (get_label s p id place)
    got_label id place = ((refl, refl), λ _. (tt, tt))

    change_asks : (b : Bool) (new : Label) (id : Oid) (place : Place) → dominates new (object_at s id).label ≡ b → IsGranted (subject who p) (mac_write s p id place)
        → AsksByLabel p (cond b (mac_upgrade_of new id (object_at s id) place) (mac_downgrade_of new id (object_at s id) place))
    change_asks true new id place up written = (written, up)
    change_asks false new id place up written = tt

    relabelled : (new : Label) (id : Oid) (place : Place) → RowMeets (set_label s who p new id place)
    relabelled new id place =
        let was : Label = (object_at s id).label in (
          tt,
          λ written. (
            tt,
            λ _. either (same_label new was) _ _
                (λ equal.
                let parts = and_parts (dominates new was) (dominates was new) equal in
                ((subst (λ (l : Label). OfFile l (object_at s id).attr.caps) (sym (dominates_both new was parts.0 parts.1)) (kept.files id), tt), tt))
                (λ _. (change_asks (dominates new was) new id place refl written, λ granted. (tt, λ _. ((kept.file_label id new place written granted, tt), tt)))),
          ),
        )

    -- ---- each call
    pub row_meets : (c : Call) → RowMeets (row s who p c)
    row_meets (call.OpenPath path flags mode) = walked (λ n. First n) path _ (found_meets path flags (unwrap_or mode 0))
    row_meets (call.Close fd) = on_open fd _ (λ f. ((kept.caller, closing _), tt))
    row_meets (call.Read fd n) = on_open fd _ (λ f. (
      (refl, refl),
      λ _. asked _ _ _ tt (either (is_stream (open_object s f).kind) _ _
          (λ _. ((kept.files f.description.object, tt), tt)) (λ _. ((tt, tt), tt))),
    ))
    row_meets (call.Write fd bytes) = on_open fd _ (λ f. (
      tt,
      λ _. either (is_stream (open_object s f).kind) _ _
          (λ _. ((kept.files f.description.object, tt), tt))
          (λ _. either (length bytes == 0) _ _ (λ _. ((tt, tt), tt))
          (λ _. (tt, ((λ _. ((kept.files f.description.object, (tt, tt)), tt)), ((kept.bare (open_object s f).label, (tt, tt)), tt))))),
    ))
    row_meets (call.Lseek fd from offset) = on_open fd _ (λ f. ((refl, refl), λ _. ((tt, tt), tt)))
    row_meets (call.Dup fd) = on_open fd _ (λ f. ((kept.caller, tt), tt))
    row_meets call.Pipe = ((tt, (kept.bare p.label, (tt, (tt, (tt, (kept.caller, tt)))))), tt)
    row_meets (call.Mkfifo path mode) = made path mode body.Fifo
    row_meets (call.Fstat fd) = on_open fd _ (λ f. ((refl, refl), λ _. (tt, tt)))
    row_meets (call.Mkdir path mode) = made path mode body.Dir
    row_meets (call.Rmdir path) = old path (remove_dir s) (λ e. ((tt, tt), tt))
    row_meets (call.Link path to) = reached path (link_to s p to) (λ id place. (
      tt,
      λ _. (
        tt,
        λ _. walked (λ n. Second n) to _ (λ found. to_a_new_name found _ (λ dir name.
            (tt, λ _. (tt, λ _. (tt, λ _. ((tt, tt), tt)))))),
      ),
    ))
    row_meets (call.Unlink path) = old path (remove_name s path) (λ e. (tt, λ _. ((tt, tt), tt)))
    row_meets (call.Rename path to) = old path (move_to s p to) (λ e. walked (λ n. Second n) to _ (λ target. to_an_entry target _ (λ into new object.
        (tt, λ _. (tt, λ _. (tt, λ _. gave_way e.2 object (last_place (λ n. Second n) to) (move_row s e.0 e.1 e.2 into new) ((tt, (tt, tt)), tt)))))))
    row_meets (call.Readdir path) = reached path (read_dir s p) (λ id place. ((refl, refl), λ _. (tt, λ _. (tt, tt))))
    row_meets (call.Stat path) = reached path (report_stat s p) (λ id place. ((refl, refl), λ _. (tt, tt)))
    row_meets (call.Chdir path) = reached path (go_to s who p) (λ id place. ((refl, refl), λ _. (tt, λ _. ((kept.caller, tt), tt))))
    row_meets (call.Chmod path mode) = reached path (write_object_then s p (change_mode p mode)) (λ id place. (tt, λ _. (tt, λ _. (tt, ((λ _. ((kept.files id, tt), tt)), ((kept.files id, tt), tt))))))
    row_meets (call.Chown path user group) = reached path (write_object_then s p (change_owner p user group)) (λ id place. (tt, λ _. (tt, λ _. (tt, ((λ _. ((kept.files id, tt), tt)), ((kept.files id, tt), tt))))))
    row_meets (call.Umask mode) = ((kept.caller, tt), tt)
    row_meets (call.CapGetFile path) = reached path (get_caps s p) got_caps
    row_meets (call.CapSetFile path caps) = reached path (set_caps s who p caps) (set_of_file caps)
    row_meets (call.CapGetFd fd) = on_object_of fd (get_caps s p) got_caps
    row_meets (call.CapSetFd fd caps) = on_object_of fd (set_caps s who p caps) (set_of_file caps)
    row_meets (call.MacGetFile path) = reached path (get_label s p) got_label
    row_meets (call.MacSetFile path new) = reached path (set_label s who p new) (relabelled new)
    row_meets (call.MacGetFd fd) = on_object_of fd (get_label s p) got_label
    row_meets (call.MacSetFd fd new) = on_object_of fd (set_label s who p new) (relabelled new)
    row_meets call.Fork = ((tt, (kept.caller, tt)), tt)
    row_meets (call.Exec path) = reached path (execute s who p) (λ id place. ((refl, refl), λ read. (tt, λ _. (tt, λ _. ((kept.programs id place read, tt), tt)))))
    row_meets (call.Exit code) = (ended who p (ending.Exit code), tt)
    row_meets call.Wait = taken p.ended
    row_meets (call.Kill target sig) = (tt, λ _. sent target sig (map.get s.procs target))
    row_meets call.Getpid = (tt, tt)
    row_meets call.Getppid = (tt, tt)
    row_meets call.Getids = (tt, tt)
    row_meets (call.Setuid user) = (tt, ((λ _. ((kept.caller, tt), tt)), (tt, λ _. ((kept.caller, tt), tt))))
    row_meets (call.Setgid group) = (tt, ((λ _. ((kept.caller, tt), tt)), (tt, λ _. ((kept.caller, tt), tt))))
    row_meets call.CapGetProc = (tt, tt)
    row_meets (call.CapSetProc caps) = (tt, λ granted. ((kept.own_sets caps granted, tt), tt))
    row_meets call.MacGetProc = (tt, tt)
    row_meets (call.MacSetProc new) = meets_need_if (subject who p) (AsksByLabel p) Commits _ _ _ tt (λ granted. ((kept.own_label new granted, tt), tt))
    row_meets (call.AudWrite bytes) = (tt, λ _. (tt, tt))
    row_meets (call.AudSwitch on) = (tt, λ _. ((kept.caller, tt), tt))
