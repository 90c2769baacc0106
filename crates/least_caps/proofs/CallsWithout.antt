-- The row of each call in a state without some capabilities follows the row in the state that has them.
use Rattle.std.specs.Prelude.{◌≡◌, ℕ, ◌+◌, ◌&&◌, ◌||◌, ◌==◌, not, zero, suc, Bool, true, false, List, [], ◌∷◌, ◌++◌, length, map as map_list, Option, Some, None, refl, cond, unwrap_or, ℤ, pos, ◌+ℤ◌}
use Rattle.std.specs.List.{flat_map, list_any}
use Rattle.std.specs.Option.{option_map}
use Rattle.std.specs.FinMap as map
use Rattle.std.proofs.Common.{sym, ◌∙◌, ap, subst, inr, append-nil}
use Rattle.std.proofs.lemmas.Bool.{and_parts, and_from, not-true, true≢false}
use Rattle.cap_bits.specs.CapSet.{CapSet, has}
use Rattle.cap_bits.specs.FileCaps.{no_file_caps}
use Rattle.cap_bits.specs.declared.cap.Cap.TheVariants as cap
use Rattle.cap_bits.specs.declared.file_caps.FileCaps.{FileCaps}
use Rattle.cap_bits.specs.declared.state.CapState.{CapState}
use Rattle.cap_bits.proofs.RoundTrips.{none_decides}
use Rattle.fs_path.specs.Name.{Name}
use Rattle.fs_path.specs.Path.{PathValue}
use Rattle.lab_lattice.specs.Label.{Label, dominates}
use Rattle.kern_model.specs.declared.calls.Answer.{Answer}
use Rattle.kern_model.specs.declared.calls.Answer.TheVariants as answer
use Rattle.kern_model.specs.declared.calls.Call.{Call}
use Rattle.kern_model.specs.declared.calls.Call.TheVariants as call
use Rattle.kern_model.specs.declared.calls.Ending.{Ending}
use Rattle.kern_model.specs.declared.calls.Ending.TheVariants as ending
use Rattle.kern_model.specs.declared.calls.Errno.{Errno}
use Rattle.kern_model.specs.declared.calls.Errno.TheVariants as errno
use Rattle.kern_model.specs.declared.calls.OpenFlags.{OpenFlags}
use Rattle.kern_model.specs.declared.calls.Signal.{Signal}
use Rattle.kern_model.specs.declared.calls.Whence.{Whence}
use Rattle.kern_model.specs.declared.calls.Whence.TheVariants as whence
use Rattle.kern_model.specs.declared.calls.Signal.TheVariants as signal
use Rattle.kern_model.specs.declared.checks.Check.{Check}
use Rattle.kern_model.specs.declared.checks.CheckName.TheVariants as check
use Rattle.kern_model.specs.declared.checks.Place.{Place}
use Rattle.kern_model.specs.declared.checks.Place.TheVariants.{Handle}
use Rattle.kern_model.specs.declared.checks.Want.{Want}
use Rattle.kern_model.specs.declared.checks.Want.TheVariants as want
use Rattle.kern_model.specs.declared.numbers.Did.{Did}
use Rattle.kern_model.specs.declared.numbers.Oid.{Oid}
use Rattle.kern_model.specs.declared.numbers.Pid.{Pid}
use Rattle.kern_model.specs.declared.objects.Attr.{Attr}
use Rattle.kern_model.specs.declared.objects.Body.{Body}
use Rattle.kern_model.specs.declared.objects.Body.TheVariants as body
use Rattle.kern_model.specs.declared.objects.Kind.{Kind}
use Rattle.kern_model.specs.declared.objects.Kind.TheVariants as kind
use Rattle.kern_model.specs.declared.objects.Object.{Object}
use Rattle.kern_model.specs.declared.records.Rec.{Rec}
use Rattle.kern_model.specs.declared.records.Rec.TheVariants as rec
use Rattle.kern_model.specs.AttrRows.{change_mode, change_owner, get_label, relabel, report_label, set_label}
use Rattle.kern_model.specs.Create.{attr_of, creation, enter_in, make_in, object_addition}
use Rattle.kern_model.specs.Descriptors.{Opened, Descriptor, open_description, descriptors, changes_of_close, is_let_go, is_drained, let_go, with_descriptor}
use Rattle.kern_model.specs.Entries.{has_entries, holder, is_empty as is_empty_dir, is_so_above, is_under, is_under_within, names_in}
use Rattle.kern_model.specs.FileRows.{base_of, comes_out, description_creation, into_file, into_stream, keeps_attr, move_after, moves, on_descriptor, on_pipe, or_not_open, pipe_mode, place_in, put_in, read_opened, second_description, seek_opened, unprivileged, write_opened, writes_at}
use Rattle.kern_model.specs.Keys.{Spot, same_did, same_oid, same_pid, is_pid}
use Rattle.kern_model.specs.Kinds.{is_dir, is_fifo, is_mode, is_stream, has_set_id, object_with, masked_permissions, permissions}
use Rattle.kern_model.specs.Maps.{any_entry}
use Rattle.kern_model.specs.OpenRows.{to_emptied, to_present, opens, opens_present, open_found, open_present, new_file, truncation_if}
use Rattle.kern_model.specs.Exec.{exec_ids}
use Rattle.kern_model.specs.ProcessRows.{changes_after_end, ending_of, execute, has_child, kill_with, process_after_end, send, signal_row, take_ended, take_on}
use Rattle.kern_model.specs.Row.{CheckOutcome, Subject, exercise_with, Row, Need, Soft, Refuse, Commit, need_if, judge, verdict_of}
use Rattle.kern_model.specs.Rules.{created_order, dac_read_of, dac_write_of, dac_search, dac_read, dac_write, fsetid_of, held_order, is_above_holders, is_plain, has_no_caps, link_dir, unlink_dir, mac_change_of, mac_read, mac_read_of, mac_write, mac_write_of, mode_allows, of_object, relabelled_order}
use Rattle.kern_model.specs.Stat.{names_reported, size_of, stat_by, stat_of, tell_stat}
use Rattle.kern_model.specs.State.{State, Process, Description, Change, DropDescription, DropProcess, SetObject, SetProcess, SetDescription, DrawDescription, last_drawn, object_at, look, next_description, next_object, root}
use Rattle.kern_model.specs.Table.{row}
use Rattle.kern_model.specs.TreeRows.{give_way, go_to, leave_at, link_to, list_names, make_row, move_row, move_to, old_entry, read_dir, remove_dir, remove_name}
use Rattle.kern_model.specs.Walk.{Found, Start, Entry, enter, on_path, or_missing, read_object, start_of, to_entry, to_new_name, to_object, walk, walk_from, write_object}
use Rattle.kern_model.proofs.KeyLaws.{pid_cmp_total, pid_cmp_exact}
use Rattle.kern_model.proofs.Selections.{any_entry-select, flat_map-select}
use Rattle.least_caps.specs.Asks.{asks}
use Rattle.least_caps.specs.Narrowed.{attr_narrowed, file_narrowed}
use Rattle.least_caps.specs.NarrowedStates.{is_fsetid, object_without, process_without, state_without}
use Rattle.least_caps.proofs.NarrowedSets.{exec-narrowed, narrowed-no_file_caps, shown-narrowed}
use Rattle.least_caps.proofs.RowsWithout.{after_check, passed_by, Follows, LessWithout, NoneOf, OutcomeFollows, less_more, own_without, row_without, follows_commit, follows_cond, follows_equal, follows_fail, follows_need, follows_need_if, follows_refuse, follows_soft, subject_with, subject_without}
use Rattle.least_caps.proofs.StatesWithout.{changes_without, changes_without-append, changes_without-flat_map, mode_of_permissions, object_at-without, process-without}

module _ (d : CapSet) (s : State) (modes : (id : Oid) → is_mode (object_at s id).attr.mode ≡ true) (who : Pid) (p : Process) where
  abbrev s' : State
  s' = state_without d s

  abbrev p' : Process
  p' = process_without d p

  abbrev RowFollows : Row → Row → Type 0
  RowFollows r r' = Follows d who p r r'

  -- the object with a number
  at : (id : Oid) → object_at s' id ≡ object_without d (object_at s id)
  at id = object_at-without d s id

  -- ---- rows by their first item
  need : {k k' : Check} {r r' : Row} → k' ≡ k → RowFollows r r' → RowFollows (Need k r) (Need k' r')
  need same rest = follows_need d who p _ _ _ _ same rest

  soft : {k k' : Check} {r w r' w' : Row} → k' ≡ k → RowFollows r r' → RowFollows w w' → RowFollows (Soft k r w) (Soft k' r' w')
  soft same granted weaker = follows_soft d who p _ _ _ _ _ _ same granted weaker

  refuse : {e : Errno} {b b' : Bool} {r r' : Row} → b' ≡ b → RowFollows r r' → RowFollows (Refuse e b r) (Refuse e b' r')
  refuse same rest = follows_refuse d who p _ _ _ _ _ same rest

  commit : {changes changes' : List Change} {a : Answer} {own own' : Option Rec} → changes' ≡ changes_without d changes → own' ≡ own_without d own
      → RowFollows (Commit changes a own) (Commit changes' a own')
  commit same own = follows_commit d who p _ _ _ _ _ same own

  asked : {b b' : Bool} {k k' : Check} {r r' : Row} → b' ≡ b → k' ≡ k → RowFollows r r' → RowFollows (need_if b k r) (need_if b' k' r')
  asked same equal rest = follows_need_if d who p _ _ _ _ _ _ same equal rest

  choice : {b b' : Bool} {x y x' y' : Row} → b' ≡ b → RowFollows x x' → RowFollows y y' → RowFollows (cond b x y) (cond b' x' y')
  choice same f g = follows_cond d who p _ _ _ _ _ _ same f g

  equal : {r r' : Row} → r' ≡ row_without d r → RowFollows r r'
  equal same = follows_equal d who p _ _ same

  -- ---- checks
  same_mode : (attr : Attr) (w : Want) → mode_allows (attr_narrowed d attr) p.ids w ≡ mode_allows attr p.ids w
  unfolding mode_allows
  same_mode attr w = refl

  reads : (id : Oid) (place : Place) → mac_read s' p' id place ≡ mac_read s p id place
  reads id place = ap (λ (o : Object). mac_read_of p id o place) (at id)

  writes : (id : Oid) (place : Place) → mac_write s' p' id place ≡ mac_write s p id place
  writes id place = ap (λ (o : Object). mac_write_of p id o place) (at id)

  searches : (id : Oid) (place : Place) → dac_search s' p' id place ≡ dac_search s p id place
  unfolding mode_allows
  searches id place = ap (λ (o : Object). of_object check.DacSearch (mode_allows o.attr p.ids want.Execute) None id o place) (at id)

  reads_by_mode : (id : Oid) (place : Place) → dac_read s' p' id place ≡ dac_read s p id place
  unfolding mode_allows
  reads_by_mode id place = ap (λ (o : Object). dac_read_of p id o place) (at id)

  writes_by_mode : (id : Oid) (place : Place) → dac_write s' p' id place ≡ dac_write s p id place
  unfolding mode_allows
  writes_by_mode id place = ap (λ (o : Object). dac_write_of p id o place) (at id)

  same_created : (dir : Oid) (place : Place) → created_order s' p' dir place ≡ created_order s p dir place
  same_created dir place = ap (λ (o : Object). of_object check.LabelOrder (dominates p.label o.label) None dir o place) (at dir)

  same_held : (id dir : Oid) (place : Place) → held_order s' id dir place ≡ held_order s id dir place
  same_held id dir place = λ i. of_object check.LabelOrder (dominates (at id i).label (at dir i).label) None dir (at dir i) place

  same_link_dir : (id : Oid) (place : Place) → link_dir s' id place ≡ link_dir s id place
  same_link_dir id place = ap (λ (o : Object). of_object check.LinkDir (not (is_dir o.kind)) None id o place) (at id)

  same_unlink_dir : (id : Oid) (place : Place) → unlink_dir s' id place ≡ unlink_dir s id place
  same_unlink_dir id place = ap (λ (o : Object). of_object check.UnlinkDir (not (is_dir o.kind)) None id o place) (at id)

  same_above : (id : Oid) (label : Label) → is_above_holders s' id label ≡ is_above_holders s id label
  unfolding is_above_holders
  same_above id label = λ i. not (any_entry (λ (spot : Spot) (x : Oid). same_oid x id && not (dominates label (at spot.0 i).label)) s.entries)

  same_relabelled : (id : Oid) (new : Label) (place : Place) → relabelled_order s' id new place ≡ relabelled_order s id new place
  same_relabelled id new place = λ i. of_object check.LabelOrder (same_above id new i && not (same_oid id root)) None id (at id i) place

  dir_at : (id : Oid) → is_dir (object_at s' id).kind ≡ is_dir (object_at s id).kind
  dir_at id = ap (λ (o : Object). is_dir o.kind) (at id)

  -- ---- walks
  entered : (dir : Oid) (place : Place) (r r' : Row) → RowFollows r r' → RowFollows (enter s p dir place r) (enter s' p' dir place r')
  entered dir place r r' h = need (reads dir place) (refuse (ap not (dir_at dir)) (need (searches dir place) h))

  missing : (o : Option Oid) (k k' : Oid → Row) → ((id : Oid) → RowFollows (k id) (k' id)) → RowFollows (or_missing o k) (or_missing o k')
  missing None k k' h = follows_fail d who p errno.ENOENT
  missing (Some id) k k' h = h id

  to_objects : (found : Found) (k k' : Oid → Row) → ((id : Oid) → RowFollows (k id) (k' id)) → RowFollows (to_object found k) (to_object found k')
  to_objects (Start id) k k' h = h id
  to_objects (Entry dir name object) k k' h = missing object k k' h

  walked_from : (place : ℕ → Place) (n : ℕ) (dir : Oid) (names : List Name) (k k' : Found → Row) → ((found : Found) → RowFollows (k found) (k' found))
      → RowFollows (walk_from s p place n dir names k) (walk_from s' p' place n dir names k')
  walked_from place n dir [] k k' h = h (Start dir)
  walked_from place n dir (name ∷ []) k k' h = entered dir (place n) _ _ (h _)
  walked_from place n dir (name ∷ next ∷ names) k k' h =
      entered dir (place n) _ _ (missing (look s dir name) _ _ (λ id. walked_from place (n + 1) id (next ∷ names) k k' h))

  walked : (place : ℕ → Place) (path : PathValue) (k k' : Found → Row) → ((found : Found) → RowFollows (k found) (k' found))
      → RowFollows (walk s p place path k) (walk s' p' place path k')
  walked place path k k' h = walked_from place 0 (start_of p path) path.names k k' h

  reached : (path : PathValue) (k k' : Oid → Place → Row) → ((id : Oid) (place : Place) → RowFollows (k id place) (k' id place))
      → RowFollows (on_path s p path k) (on_path s' p' path k')
  reached path k k' h = walked _ path _ _ (λ found. to_objects found _ _ (λ id. h id _))

  -- a row on an object that was read, or is written
  read_then : (id : Oid) (place : Place) (k k' : Object → Row) → RowFollows (k (object_at s id)) (k' (object_without d (object_at s id)))
      → RowFollows (read_object s p id place k) (read_object s' p' id place k')
  read_then id place k k' h = need (reads id place) (subst (λ o. RowFollows (k (object_at s id)) (k' o)) (sym (at id)) h)

  write_then : (id : Oid) (place : Place) (k k' : Object → Row) → RowFollows (k (object_at s id)) (k' (object_without d (object_at s id)))
      → RowFollows (write_object s p id place k) (write_object s' p' id place k')
  write_then id place k k' h = need (writes id place) (subst (λ o. RowFollows (k (object_at s id)) (k' o)) (sym (at id)) h)

  -- ---- descriptors
  opened : (o : Option Opened) (k k' : Opened → Row) → ((f : Opened) → RowFollows (k f) (k' f)) → RowFollows (or_not_open o k) (or_not_open o k')
  opened None k k' h = follows_fail d who p errno.EBADF
  opened (Some f) k k' h = h f

  on_open : (fd : ℕ) (k k' : Opened → Row) → ((f : Opened) → RowFollows (k f) (k' f)) → RowFollows (on_descriptor s p fd k) (on_descriptor s' p' fd k')
  unfolding open_description
  on_open fd k k' h = opened (open_description s p fd) k k' h

  -- the descriptors of a process
  abbrev held_by : Pid → Process → List Descriptor
  held_by q x = map_list (λ (f : ℕ × Did). record { who = q; fd = f.0; did = f.1 }) (map.entries x.fds)

  same_descriptors : descriptors s' ≡ descriptors s
  unfolding descriptors
  same_descriptors = flat_map-select pid_cmp_total pid_cmp_exact (λ q x. Some (process_without d x)) held_by held_by s.procs (λ q x _. refl)

  same_let_go : (goes : Descriptor → Bool) (did : Did) → is_let_go s' goes did ≡ is_let_go s goes did
  same_let_go goes did = ap
      (λ fs. list_any (λ (f : Descriptor). goes f && same_did f.did did) fs && not (list_any (λ (f : Descriptor). not (goes f) && same_did f.did did) fs))
      same_descriptors

  same_drained : (goes : Descriptor → Bool) (id : Oid) → is_drained s' goes id ≡ is_drained s goes id
  same_drained goes id =
      λ i. is_fifo (at id i).kind && not (any_entry (λ (did : Did) (x : Description). same_oid x.object id && not (same_let_go goes did i)) s.descriptions)

  closed_by : (gone drained : Bool) (did : Did) (id : Oid) (o : Object)
      → cond gone (DropDescription did ∷ cond drained (SetObject id (record (object_without d o) { bytes = [] }) ∷ []) []) []
      ≡ changes_without d (cond gone (DropDescription did ∷ cond drained (SetObject id (record o { bytes = [] }) ∷ []) []) [])
  closed_by true true did id o = refl
  closed_by true false did id o = refl
  closed_by false drained did id o = refl

  same_let : (goes : Descriptor → Bool) (e : Did × Description) → let_go s' goes e ≡ changes_without d (let_go s goes e)
  same_let goes e =
      let id : Oid = e.1.object in
      (λ i. cond (same_let_go goes e.0 i) (DropDescription e.0 ∷ cond (same_drained goes id i) (SetObject id (record (at id i) { bytes = [] }) ∷ []) []) [])
      ∙ closed_by (is_let_go s goes e.0) (is_drained s goes e.1.object) e.0 e.1.object (object_at s e.1.object)

  same_closing : (goes : Descriptor → Bool) → changes_of_close s' goes ≡ changes_without d (changes_of_close s goes)
  unfolding changes_of_close
  same_closing goes =
      (λ i. flat_map (λ e. same_let goes e i) (map.entries s.descriptions)) ∙ sym (changes_without-flat_map d (let_go s goes) (map.entries s.descriptions))

  -- ---- ends of processes
  same_children : has_child s' who ≡ has_child s who
  same_children =
      let is_child : Pid → Process → Bool = λ q x. is_pid who x.parent in
      any_entry-select pid_cmp_total pid_cmp_exact (λ q x. Some (process_without d x)) is_child is_child s.procs (λ q x _. refl)

  ended_by : (b : Bool) (q : Pid) (x : Process) → cond b (SetProcess q (process_without d x) ∷ []) [] ≡ changes_without d (cond b (SetProcess q x ∷ []) [])
  ended_by true q x = refl
  ended_by false q x = refl

  same_ending : (target : Pid) (t : Process) (how : Ending) → ending_of s' target (process_without d t) how ≡ changes_without d (ending_of s target t how)
  unfolding ending_of
  same_ending target t how =
      let goes : Descriptor → Bool = λ (x : Descriptor). same_pid x.who target in
      let after : Pid → Process → List Change = λ q x. changes_without d (changes_after_end target t how (q, x)) in
      let after' : Pid → Process → List Change = λ q x. changes_after_end target (process_without d t) how (q, x) in
      let others = flat_map-select pid_cmp_total pid_cmp_exact (λ q x. Some (process_without d x)) after after' s.procs
      (λ q x _. ended_by (not (same_pid q target) && (is_pid target x.parent || is_pid q t.parent)) q (process_after_end target t how q x)) in
      (λ i. DropProcess target ∷ (same_closing goes i ++ others i))
      ∙ ap (λ cs. DropProcess target ∷ cs)
      (ap (λ cs. changes_without d (changes_of_close s goes) ++ cs) (sym (changes_without-flat_map d (changes_after_end target t how) (map.entries s.procs)))
      ∙ sym (changes_without-append d (changes_of_close s goes) (flat_map (changes_after_end target t how) (map.entries s.procs))))

  killed : (target : Pid) (t : Process) (how : Ending) → RowFollows (kill_with s target t how) (kill_with s' target (process_without d t) how)
  killed target t how = commit (same_ending target t how) refl

  signalled : (target : Pid) (t : Process) (sig : Signal) → RowFollows (signal_row s target t sig) (signal_row s' target (process_without d t) sig)
  signalled target t signal.Zero = commit refl refl
  signalled target t signal.Term = killed target t ending.Term
  signalled target t signal.Kill = killed target t ending.Kill

  sent : (target : Pid) (sig : Signal) (t : Option Process) → RowFollows (send s p target sig t) (send s' p' target sig (option_map (process_without d) t))
  sent target sig None = follows_fail d who p errno.ESRCH
  sent target sig (Some t) = asked refl refl (need refl (signalled target t sig))

  -- ---- what is reported of objects
  same_size : (id : Oid) (k : Kind) → size_of s' id k ≡ size_of s id k
  same_size id kind.Dir = refl
  same_size id kind.File = ap (λ (o : Object). length o.bytes) (at id)
  same_size id kind.Fifo = ap (λ (o : Object). length o.bytes) (at id)
  same_size id kind.Pipe = ap (λ (o : Object). length o.bytes) (at id)

  same_names : (id : Oid) (k : Kind) → names_reported s' id k ≡ names_reported s id k
  same_names id kind.Dir = refl
  same_names id kind.Pipe = refl
  same_names id kind.File = refl
  same_names id kind.Fifo = refl

  same_stat : (id : Oid) → stat_of s' id ≡ stat_of s id
  unfolding stat_of
  same_stat id =
      ap (stat_by s' id) (at id)
      ∙ (λ i. record (stat_by s id (object_at s id)) { size = same_size id (object_at s id).kind i; names = same_names id (object_at s id).kind i })

  told : (id : Oid) → RowFollows (tell_stat s id) (tell_stat s' id)
  told id = equal (ap (λ t. Commit [] (answer.Stat t) None) (same_stat id))

  -- ---- objects that are made: they have no capabilities
  same_made : (label : Label) (mode : ℕ) (b : Body) → object_with label (attr_of p' mode) b ≡ object_without d (object_with label (attr_of p mode) b)
  same_made label mode b = ap (λ (caps : FileCaps). object_with label (record (attr_of p mode) { caps = caps }) b) (sym (narrowed-no_file_caps d))

  same_creation : (label : Label) (dir : Oid) (name : Name) (mode : ℕ) (b : Body)
      → creation s' label dir name (object_with label (attr_of p' mode) b)
      ≡ changes_without d (creation s label dir name (object_with label (attr_of p mode) b))
  same_creation label dir name mode b = ap (λ (o : Object). creation s label dir name o) (same_made label mode b)

  made_in : (dir : Oid) (place : Place) (r r' : Row) → RowFollows r r' → RowFollows (make_in s p dir place r) (make_in s' p' dir place r')
  made_in dir place r r' h = need (writes dir place) (need (writes_by_mode dir place) (need (same_created dir place) (refuse refl h)))

  -- ---- attributes that a caller without `fsetid` clears
  -- attributes without set-id bits and capabilities, without the capabilities
  same_unprivileged : (attr : Attr) → unprivileged (attr_narrowed d attr) ≡ attr_narrowed d (unprivileged attr)
  same_unprivileged attr = ap (λ (caps : FileCaps). record attr { mode = permissions attr.mode; caps = caps }) (sym (narrowed-no_file_caps d))

  -- where nothing has to be cleared without the capabilities, what is cleared with them are capabilities alone
  cleared_alone : (attr : Attr) → is_mode attr.mode ≡ true → is_plain (attr_narrowed d attr) ≡ true → attr_narrowed d attr ≡ attr_narrowed d (unprivileged attr)
  cleared_alone attr is plain =
      let parts = and_parts (not (has_set_id attr.mode)) (has_no_caps (file_narrowed d attr.caps)) plain in
      let mode : permissions attr.mode ≡ attr.mode = mode_of_permissions attr.mode is (not-true (has_set_id attr.mode) parts.0) in
      let none : file_narrowed d attr.caps ≡ no_file_caps = (none_decides (file_narrowed d attr.caps)).0 parts.1 in
      ap (λ (caps : FileCaps). record attr { caps = caps }) none ∙ ap (λ n. record attr { mode = n; caps = no_file_caps }) (sym mode)
      ∙ ap (λ (caps : FileCaps). record attr { mode = permissions attr.mode; caps = caps }) (sym (narrowed-no_file_caps d))

  -- a file without set-id bits and capabilities stays one
  stays_plain : (attr : Attr) → is_plain attr ≡ true → is_plain (attr_narrowed d attr) ≡ true
  stays_plain attr plain =
      let parts = and_parts (not (has_set_id attr.mode)) (has_no_caps attr.caps) plain in
      let none : attr.caps ≡ no_file_caps = (none_decides attr.caps).0 parts.1 in
      and_from _ _ parts.0 ((none_decides (file_narrowed d attr.caps)).1 (ap (file_narrowed d) none ∙ narrowed-no_file_caps d))

  -- one exercise by that check may go
  less_one : (k : Check) (used used' : List Rec) → k.name ≡ check.Fsetid → LessWithout d used used'
      → LessWithout d (used ++ exercise_with (subject_with d who p) k (Some cap.Fsetid)) used'
  less_one k used used' name less =
      subst (λ recs. LessWithout d (used ++ exercise_with (subject_with d who p) k (Some cap.Fsetid)) recs) (append-nil used')
      (less_more d used used' (exercise_with (subject_with d who p) k (Some cap.Fsetid)) [] less (inr (ap is_fsetid name, refl)))

  -- a file that has something to clear with the capabilities, and nothing without them
  lost_exercise : (id : Oid) (place : Place) (o : Object) (keep keep' clear clear' : Row) → RowFollows keep keep' → RowFollows clear keep'
      → RowFollows (Soft (fsetid_of false id o place) keep clear) (Soft (fsetid_of true id (object_without d o) place) keep' clear')
  unfolding judge verdict_of
  lost_exercise id place o keep keep' clear clear' kept lost =
      let a : Subject = subject_with d who p in
      let after : Bool → List Rec → CheckOutcome = λ able used.
      after_check d who p a (fsetid_of false id o place) (passed_by d who p false able) used keep (judge a used clear) in
      record {
        ends = λ used used' less.
            let kept' : CheckOutcome = judge (subject_without d who p) used' keep' in
            elim (has p.caps.e cap.Fsetid) as (λ able. NoneOf d (after able used).used → OutcomeFollows d (after able used) kept') [
              | true ↦ kept.ends _ used' (less_one (fsetid_of false id o place) used used' refl less)
              | false ↦ lost.ends used used' less
            ];
      }

  fsetid_by : (b b' : Bool) (id : Oid) (place : Place) (o : Object) (keep keep' clear clear' : Row) → (b ≡ true → b' ≡ true) → RowFollows keep keep'
      → RowFollows clear clear'
      → (b' ≡ true → RowFollows clear keep')
      → RowFollows (Soft (fsetid_of b id o place) keep clear) (Soft (fsetid_of b' id (object_without d o) place) keep' clear')
  fsetid_by true true id place o keep keep' clear clear' stays kept cleared lost = soft refl kept cleared
  fsetid_by true false id place o keep keep' clear clear' stays kept cleared lost = absurd (true≢false (sym (stays refl)))
  fsetid_by false true id place o keep keep' clear clear' stays kept cleared lost = lost_exercise id place o keep keep' clear clear' kept (lost refl)
  fsetid_by false false id place o keep keep' clear clear' stays kept cleared lost = soft refl kept cleared

  -- the attributes of a file whose content changes
  attr_kept : (id : Oid) (place : Place) (o : Object) (rest rest' : Attr → Row) → is_mode o.attr.mode ≡ true
      → ((attr : Attr) → RowFollows (rest attr) (rest' (attr_narrowed d attr)))
      → RowFollows (keeps_attr id place o rest) (keeps_attr id place (object_without d o) rest')
  attr_kept id place o rest rest' is h =
      fsetid_by (is_plain o.attr) (is_plain (attr_narrowed d o.attr)) id place o (rest o.attr) (rest' (attr_narrowed d o.attr)) (rest (unprivileged o.attr))
      (rest' (unprivileged (attr_narrowed d o.attr)))
      (stays_plain o.attr) (h o.attr)
      (subst (λ attr. RowFollows (rest (unprivileged o.attr)) (rest' attr)) (sym (same_unprivileged o.attr)) (h (unprivileged o.attr)))
      (λ plain. subst (λ attr. RowFollows (rest (unprivileged o.attr)) (rest' attr)) (sym (cleared_alone o.attr is plain)) (h (unprivileged o.attr)))

  -- ---- open
  opening : (id : Oid) (flags : OpenFlags) (before before' : List Change) → before' ≡ changes_without d before
      → RowFollows (opens s who p id flags before) (opens s' who p' id flags before')
  opening id flags before before' same =
      commit (ap (λ cs. cs ++ description_creation s' who p' id flags) same
      ∙ sym (changes_without-append d before (description_creation s who p id flags))) refl

  emptied : (flags : OpenFlags) (id : Oid) (place : Place) (o : Object) → is_mode o.attr.mode ≡ true
      → RowFollows (to_emptied flags id place o (opens_present s who p flags id o))
      (to_emptied flags id place (object_without d o) (opens_present s' who p' flags id (object_without d o)))
  emptied flags id place o is =
      choice refl
      (attr_kept id place o _ (λ attr. opens_present s' who p' flags id (object_without d o) (Some attr)) is
      (λ attr. opening id flags (truncation_if id o (Some attr)) _ refl))
      (opening id flags [] [] refl)

  present_object : (flags : OpenFlags) (id : Oid) (place : Place) (o : Object) → is_mode o.attr.mode ≡ true
      → RowFollows (to_present p flags id place o (opens_present s who p flags id o))
      (to_present p' flags id place (object_without d o) (opens_present s' who p' flags id (object_without d o)))
  unfolding mode_allows
  present_object flags id place o is =
      refuse refl
      (asked refl refl (asked refl refl (refuse refl (refuse refl (asked refl refl (asked refl refl (asked refl refl (emptied flags id place o is))))))))

  present : (flags : OpenFlags) (id : Oid) (place : Place) → RowFollows (open_present s who p flags id place) (open_present s' who p' flags id place)
  present flags id place =
      subst (λ o. RowFollows (open_present s who p flags id place) (to_present p' flags id place o (opens_present s' who p' flags id o))) (sym (at id))
      (present_object flags id place (object_at s id) (modes id))

  open_one : (path : PathValue) (flags : OpenFlags) (mode : ℕ) (found : Found)
      → RowFollows (open_found s who p path flags mode found) (open_found s' who p' path flags mode found)
  open_one path flags mode (Start id) = present flags id _
  open_one path flags mode (Entry dir name None) =
      refuse refl
      (made_in dir _ _ _ (refuse refl (opening (next_object s p.label) flags (creation s p.label dir name (new_file p mode)) _
      (same_creation p.label dir name (masked_permissions mode p.umask) (body.File [])))))
  open_one path flags mode (Entry dir name (Some id)) = present flags id _

  -- ---- read, write and lseek
  came_out : (n : ℕ) (f : Opened) (o : Object) → RowFollows (comes_out (is_stream o.kind) s n f o) (comes_out (is_stream o.kind) s' n f (object_without d o))
  came_out n f o = refuse refl (choice refl (equal refl) (equal refl))

  read_one : (n : ℕ) (f : Opened) → RowFollows (read_opened s p n f) (read_opened s' p' n f)
  read_one n f =
      let id : Oid = f.description.object in
      asked (ap (λ (o : Object). is_stream o.kind) (at id)) (writes id Handle)
      (subst (λ (o : Object). RowFollows (comes_out (is_stream (object_at s id).kind) s n f (object_at s id)) (comes_out (is_stream o.kind) s' n f o)) (sym (at id))
      (came_out n f (object_at s id)))

  written_at : (bytes : List ℕ) (f : Opened) (o : Object) (n : ℕ) → is_mode o.attr.mode ≡ true
      → RowFollows (writes_at bytes f o n) (writes_at bytes f (object_without d o) n)
  written_at bytes f o n is =
      choice refl (equal refl)
      (attr_kept f.description.object Handle o (λ attr. move_after bytes f n (put_in bytes f o n attr ∷ []))
      (λ attr. move_after bytes f n (put_in bytes f (object_without d o) n attr ∷ [])) is
      (λ attr. equal refl))

  write_one : (bytes : List ℕ) (f : Opened) → RowFollows (write_opened s bytes f) (write_opened s' bytes f)
  write_one bytes f =
      let id : Oid = f.description.object in
      let o : Object = object_at s id in
      subst (λ (x : Object). RowFollows (write_opened s bytes f) (cond (is_stream x.kind) (into_stream s' bytes f x) (into_file bytes f x))) (sym (at id))
      (choice refl (refuse refl (refuse refl (commit refl refl))) (refuse refl (refuse refl (written_at bytes f o (place_in o f) (modes id)))))

  same_base : (f : Opened) (from : Whence) → base_of s' f from ≡ base_of s f from
  same_base f whence.Set = refl
  same_base f whence.Cur = refl
  same_base f whence.End = ap (λ (o : Object). length o.bytes) (at f.description.object)

  seek_one : (from : Whence) (offset : ℤ) (f : Opened) → RowFollows (seek_opened s from offset f) (seek_opened s' from offset f)
  seek_one from offset f = equal (λ i. moves f (pos (same_base f from i) +ℤ offset) (length (at f.description.object i).bytes))

  -- ---- entries
  entered_in : (dir : Oid) (place : Place) (order order' : Check) (r r' : Row) → order' ≡ order → RowFollows r r'
      → RowFollows (enter_in s p dir place order r) (enter_in s' p' dir place order' r')
  entered_in dir place order order' r r' same h = need (writes dir place) (need (writes_by_mode dir place) (need same (refuse refl h)))

  new_names : (found : Found) (k k' : Oid → Name → Row) → ((dir : Oid) (name : Name) → RowFollows (k dir name) (k' dir name))
      → RowFollows (to_new_name found k) (to_new_name found k')
  new_names (Start id) k k' h = follows_fail d who p errno.EEXIST
  new_names (Entry dir name None) k k' h = h dir name
  new_names (Entry dir name (Some id)) k k' h = follows_fail d who p errno.EEXIST

  to_entries : (found : Found) (k k' : Oid → Name → Option Oid → Row)
      → ((dir : Oid) (name : Name) (object : Option Oid) → RowFollows (k dir name object) (k' dir name object))
      → RowFollows (to_entry found k) (to_entry found k')
  to_entries (Start id) k k' h = follows_fail d who p errno.EBUSY
  to_entries (Entry dir name object) k k' h = h dir name object

  make_one : (path : PathValue) (mode : ℕ) (b : Body) → RowFollows (make_row s who p path mode b) (make_row s' who p' path mode b)
  make_one path mode b = walked _ path _ _ (λ found. new_names found _ _ (λ dir name.
      made_in dir _ _ _ (refuse refl (commit (same_creation p.label dir name (masked_permissions mode p.umask) b) refl))))

  left : (dir : Oid) (dir_at : Place) (id : Oid) (place : Place) (r r' : Row) → RowFollows r r'
      → RowFollows (leave_at s p dir dir_at id place r) (leave_at s' p' dir dir_at id place r')
  left dir dir_at id place r r' h = need (writes dir dir_at) (need (writes_by_mode dir dir_at) (need (writes id place) h))

  -- an entry of an object, which may be taken away
  old_entries : (path : PathValue) (k k' : Oid × Name × Oid → Row) → ((e : Oid × Name × Oid) → RowFollows (k e) (k' e))
      → RowFollows (old_entry s p path k) (old_entry s' p' path k')
  old_entries path k k' h =
      walked _ path _ _ (λ found. to_entries found _ _ (λ dir name object. missing object _ _ (λ id. left dir _ id _ _ _ (h (dir, name, id)))))

  has_entries_at : (id : Oid) → has_entries s' id ≡ has_entries s id
  has_entries_at id = ap (λ b. b && not (is_empty_dir s id)) (dir_at id)

  same_under_within : (n : ℕ) (dir top : Oid) → is_under_within s' n dir top ≡ is_under_within s n dir top
  unfolding holder
  same_under_within zero dir top = refl
  same_under_within (suc n) dir top = ap (λ b. same_oid dir top || b)
      (elim (holder s dir) as (λ w. is_so_above (λ above. is_under_within s' n above top) w ≡ is_so_above (λ above. is_under_within s n above top) w) [
        | None ↦ refl
        | Some above ↦ same_under_within n above top
      ])

  same_under : (dir top : Oid) → is_under s' dir top ≡ is_under s dir top
  unfolding is_under
  same_under dir top = same_under_within (length (map.entries s.entries)) dir top

  moved : (dir : Oid) (name : Name) (id into : Oid) (new : Name) → RowFollows (move_row s dir name id into new) (move_row s' dir name id into new)
  moved dir name id into new = refuse (λ i. dir_at id i && same_under into id i) (refuse refl (commit refl refl))

  gave_way : (id : Oid) (object : Option Oid) (place : Place) (r r' : Row) → RowFollows r r'
      → RowFollows (give_way s p id object place r) (give_way s' p' id object place r')
  gave_way id None place r r' h = h
  gave_way id (Some t) place r r' h =
      need (writes t place) (choice refl (commit refl refl)
      (refuse (λ i. dir_at id i && not (dir_at t i)) (refuse (λ i. dir_at t i && not (dir_at id i)) (refuse (has_entries_at t) h))))

  linked : (to : PathValue) (id : Oid) (place : Place) → RowFollows (link_to s p to id place) (link_to s' p' to id place)
  linked to id place =
      need (writes id place) (need (same_link_dir id place) (refuse refl
      (walked _ to _ _ (λ found. new_names found _ _ (λ dir name. entered_in dir _ _ _ _ _ (same_held id dir _) (commit refl refl))))))

  moved_to : (to : PathValue) (e : Oid × Name × Oid) → RowFollows (move_to s p to e) (move_to s' p' to e)
  moved_to to (dir, name, id) = walked _ to _ _ (λ target. to_entries target _ _ (λ into new object.
      need (writes into _) (need (writes_by_mode into _) (need (same_held id into _) (gave_way id object _ _ _ (moved dir name id into new))))))

  removed : (e : Oid × Name × Oid) → RowFollows (remove_dir s e) (remove_dir s' e)
  removed (dir, name, id) = refuse (ap not (dir_at id)) (refuse refl (commit refl refl))

  unlinked : (path : PathValue) (e : Oid × Name × Oid) → RowFollows (remove_name s path e) (remove_name s' path e)
  unlinked path (dir, name, id) = need (same_unlink_dir id _) (commit refl refl)

  listed : (id : Oid) (place : Place) → RowFollows (read_dir s p id place) (read_dir s' p' id place)
  unfolding names_in
  listed id place = read_then id place (list_names s p id place) (list_names s' p' id place) (refuse refl (need (reads_by_mode id place) (commit refl refl)))

  went_to : (id : Oid) (place : Place) → RowFollows (go_to s who p id place) (go_to s' who p' id place)
  went_to id place = entered id place _ _ (commit refl refl)

  -- ---- attributes
  relabelled : (new : Label) (id : Oid) (place : Place) → RowFollows (set_label s who p new id place) (set_label s' who p' new id place)
  relabelled new id place =
      write_then id place (relabel s who p new id place) (relabel s' who p' new id place)
      (need refl (choice refl (commit refl refl)
      (need (ap (λ (o : Object). mac_change_of new id o place) (at id)) (need (same_relabelled id new place) (refuse (has_entries_at id) (commit refl refl))))))

  got_label : (id : Oid) (place : Place) → RowFollows (get_label s p id place) (get_label s' p' id place)
  got_label id place = read_then id place report_label report_label (equal refl)

  -- ---- processes
  executed : (id : Oid) (place : Place) → RowFollows (execute s who p id place) (execute s' who p' id place)
  unfolding mode_allows
  executed id place =
      let attr : Attr = (object_at s id).attr in
      let caps = exec-narrowed d p.caps attr.caps s.bound in
      read_then id place (take_on s.bound who p id place) (take_on s'.bound who p' id place)
      (need refl (need refl (commit
      (ap (λ (c : CapState). SetProcess who (record p { ids = exec_ids p.ids attr; caps = c }) ∷ []) caps)
      (λ i. Some (rec.Exec who id (shown-narrowed d attr.caps i) (caps i))))))

  taken : (es : List (Pid × Ending)) → RowFollows (take_ended who p es) (take_ended who p' es)
  taken [] = follows_fail d who p errno.EAGAIN
  taken (e ∷ es) = commit refl refl

  sent_to : (target : Pid) (sig : Signal) → RowFollows (send s p target sig (map.get s.procs target)) (send s' p' target sig (map.get s'.procs target))
  sent_to target sig =
      subst (λ t. RowFollows (send s p target sig (map.get s.procs target)) (send s' p' target sig t)) (sym (process-without d s target))
      (sent target sig (map.get s.procs target))

  -- what a pipe changes after the object is made
  abbrev piped : List Change
  piped =
      let reading : Did = next_description s p.label in
      DrawDescription p.label (last_drawn s.description_numbers p.label + 2) ∷ SetDescription reading (on_pipe (next_object s p.label) true)
      ∷ SetDescription (second_description s p) (on_pipe (next_object s p.label) false)
      ∷ SetProcess who (with_descriptor (with_descriptor p' reading) (second_description s p)) ∷ []

  -- ---- the row of each call that asks for no capability sets
  pub row_follows : (called : Call) → asks called ≡ false → RowFollows (row s who p called) (row s' who p' called)
  row_follows (call.OpenPath path flags mode) other = refuse refl (refuse refl (walked _ path _ _ (open_one path flags (unwrap_or mode 0))))
  row_follows (call.Close fd) other =
      on_open fd _ _
      (λ f.
      commit (ap (λ cs. SetProcess who (record p' { fds = map.remove p.fds fd }) ∷ cs) (same_closing (λ (x : Descriptor). same_pid x.who who && x.fd == fd))) refl)
  row_follows (call.Read fd n) other = on_open fd _ _ (λ f. refuse refl (need (reads f.description.object Handle) (read_one n f)))
  row_follows (call.Write fd bytes) other = on_open fd _ _ (λ f. refuse refl (need (writes f.description.object Handle) (write_one bytes f)))
  row_follows (call.Lseek fd from offset) other = on_open fd _ _ (λ f.
      need (reads f.description.object Handle) (refuse (ap (λ (o : Object). is_stream o.kind) (at f.description.object)) (seek_one from offset f)))
  row_follows (call.Dup fd) other = on_open fd _ _ (λ f. refuse refl (commit refl refl))
  row_follows call.Pipe other =
      refuse refl (refuse refl (refuse refl (commit (ap (λ (o : Object). object_addition s p.label o ++ piped) (same_made p.label pipe_mode body.Pipe)) refl)))
  row_follows (call.Mkfifo path mode) other = make_one path mode body.Fifo
  row_follows (call.Fstat fd) other = on_open fd _ _ (λ f. need (reads f.description.object Handle) (told f.description.object))
  row_follows (call.Mkdir path mode) other = make_one path mode body.Dir
  row_follows (call.Rmdir path) other = old_entries path _ _ removed
  row_follows (call.Link path to) other = reached path _ _ (linked to)
  row_follows (call.Unlink path) other = old_entries path _ _ (unlinked path)
  row_follows (call.Rename path to) other = old_entries path _ _ (moved_to to)
  row_follows (call.Readdir path) other = reached path _ _ listed
  row_follows (call.Stat path) other = reached path _ _ (λ id place. need (reads id place) (told id))
  row_follows (call.Chdir path) other = reached path _ _ went_to
  row_follows (call.Chmod path mode) other =
      reached path _ _ (λ id place. write_then id place (change_mode p mode id place) (change_mode p' mode id place) (equal refl))
  row_follows (call.Chown path user group) other =
      reached path _ _ (λ id place. write_then id place (change_owner p user group id place) (change_owner p' user group id place) (equal refl))
  row_follows (call.Umask mode) other = equal refl
  row_follows (call.CapGetFile path) other = absurd (true≢false other)
  row_follows (call.CapSetFile path caps) other = absurd (true≢false other)
  row_follows (call.CapGetFd fd) other = absurd (true≢false other)
  row_follows (call.CapSetFd fd caps) other = absurd (true≢false other)
  row_follows (call.MacGetFile path) other = reached path _ _ got_label
  row_follows (call.MacSetFile path new) other = reached path _ _ (relabelled new)
  row_follows (call.MacGetFd fd) other = on_open fd _ _ (λ f. got_label f.description.object Handle)
  row_follows (call.MacSetFd fd new) other = on_open fd _ _ (λ f. relabelled new f.description.object Handle)
  row_follows call.Fork other = refuse refl (commit refl refl)
  row_follows (call.Exec path) other = reached path _ _ executed
  row_follows (call.Exit code) other = killed who p (ending.Exit code)
  row_follows call.Wait other = refuse (λ i. length p.ended == 0 && not (same_children i)) (taken p.ended)
  row_follows (call.Kill target sig) other = need refl (sent_to target sig)
  row_follows call.Getpid other = equal refl
  row_follows call.Getppid other = equal refl
  row_follows call.Getids other = equal refl
  row_follows (call.Setuid user) other = equal refl
  row_follows (call.Setgid group) other = equal refl
  row_follows call.CapGetProc other = absurd (true≢false other)
  row_follows (call.CapSetProc caps) other = absurd (true≢false other)
  row_follows call.MacGetProc other = equal refl
  row_follows (call.MacSetProc new) other = asked refl refl (commit refl refl)
  row_follows (call.AudWrite bytes) other = equal refl
  row_follows (call.AudSwitch on) other = equal refl
