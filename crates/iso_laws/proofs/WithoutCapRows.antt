-- The row of each call by a process that has one capability less: it is the same, once the capability is taken in what it changes.
use Rattle.std.specs.Prelude.{◌≡◌, ℕ, ◌+◌, ◌&&◌, ◌||◌, ◌==◌, not, zero, suc, Bool, true, false, List, [], ◌∷◌, ◌++◌, length, map as map_list, Option, Some, None, refl, cond, unwrap_or}
use Rattle.std.specs.List.{flat_map, list_any}
use Rattle.std.specs.Option.{option_map}
use Rattle.std.specs.FinMap as map
use Rattle.std.proofs.Common.{sym, ◌∙◌, ap}
use Rattle.std.proofs.lemmas.Bool.{true≢false}
use Rattle.cap_bits.specs.declared.cap.Cap.{Cap}
use Rattle.fs_path.specs.Name.{Name}
use Rattle.fs_path.specs.Path.{PathValue}
use Rattle.kern_model.specs.declared.calls.Answer.{Answer}
use Rattle.kern_model.specs.declared.calls.Answer.TheVariants as answer
use Rattle.kern_model.specs.declared.calls.Call.{Call}
use Rattle.kern_model.specs.declared.calls.Call.TheVariants as call
use Rattle.kern_model.specs.declared.calls.Ending.{Ending}
use Rattle.kern_model.specs.declared.calls.Ending.TheVariants as ending
use Rattle.kern_model.specs.declared.calls.Errno.{Errno}
use Rattle.kern_model.specs.declared.calls.Errno.TheVariants as errno
use Rattle.kern_model.specs.declared.calls.OpenFlags.{OpenFlags}
use Rattle.kern_model.specs.declared.calls.Signal.{Signal}
use Rattle.kern_model.specs.declared.calls.Signal.TheVariants as signal
use Rattle.kern_model.specs.declared.checks.Check.{Check}
use Rattle.kern_model.specs.declared.checks.Place.{Place}
use Rattle.kern_model.specs.declared.checks.Place.TheVariants.{First, Second}
use Rattle.kern_model.specs.declared.numbers.Did.{Did}
use Rattle.kern_model.specs.declared.numbers.Ids.{Ids}
use Rattle.kern_model.specs.declared.numbers.Oid.{Oid}
use Rattle.kern_model.specs.declared.numbers.Pid.{Pid}
use Rattle.kern_model.specs.declared.objects.Attr.{Attr}
use Rattle.kern_model.specs.declared.objects.Body.TheVariants as body
use Rattle.kern_model.specs.declared.objects.Kind.{Kind}
use Rattle.kern_model.specs.declared.objects.Kind.TheVariants as kind
use Rattle.kern_model.specs.declared.objects.Object.{Object}
use Rattle.kern_model.specs.declared.records.Rec.{Rec}
use Rattle.kern_model.specs.Create.{attr_of, creation}
use Rattle.kern_model.specs.Descriptors.{Opened, Descriptor, open_description, descriptors, changes_of_close, is_let_go, truncation, with_descriptor}
use Rattle.kern_model.specs.Entries.{names_in, holder, is_under, is_under_within, is_so_above}
use Rattle.kern_model.specs.FileRows.{or_not_open, on_descriptor, description_creation, second_description, unprivileged}
use Rattle.kern_model.specs.OpenRows.{opens, truncation_if, open_present, open_found, to_absent}
use Rattle.kern_model.specs.Keys.{same_oid, same_pid, same_did, is_pid}
use Rattle.kern_model.specs.Kinds.{is_dir, is_fifo, is_file, object_with, masked_permissions}
use Rattle.kern_model.specs.Maps.{any_entry}
use Rattle.kern_model.specs.ProcessRows.{child_of, has_child, take_ended, changes_after_end, process_after_end, ending_of, set_ids, kill_with, signal_row, send}
use Rattle.kern_model.specs.Row.{Row, Need, Soft, Refuse, Commit, need_if}
use Rattle.kern_model.specs.Rules.{is_above_holders}
use Rattle.kern_model.specs.Stat.{stat_of, stat_by, size_of, names_reported, tell_stat}
use Rattle.kern_model.specs.State.{State, Process, Change, DropDescription, SetProcess, object_at, look, next_description, next_object, next_process}
use Rattle.kern_model.specs.Table.{row}
use Rattle.kern_model.specs.TreeRows.{give_way, leave_from, write_end, move_row}
use Rattle.kern_model.specs.Walk.{Found, Start, Entry, enter, or_missing, to_entry, to_object, walk_from, walk, reach, start_of, dir_place, last_place}
use Rattle.kern_model.proofs.KeyLaws.{pid_cmp_total, pid_cmp_exact}
use Rattle.kern_model.proofs.Selections.{get-select_each, any_entry-select, flat_map-select}
use Rattle.iso_laws.specs.Unnamed.{process_without, state_without, is_caller, reports_own_sets}
use Rattle.iso_laws.proofs.WithoutCap.{process_if_picked, change_without, changes_without, row_without, set_without, picks_caller}

-- ---- rows and changes with one equal part
need_same : {k : Check} {r r' : Row} → r' ≡ r → Need k r' ≡ Need k r
need_same {k = k} h = ap (Need k) h

soft_same : {k : Check} {r r' w w' : Row} → r' ≡ r → w' ≡ w → Soft k r' w' ≡ Soft k r w
soft_same {k = k} h g = λ i. Soft k (h i) (g i)

refuse_same : {e : Errno} {b : Bool} {r r' : Row} → r' ≡ r → Refuse e b r' ≡ Refuse e b r
refuse_same {e = e} {b = b} h = ap (Refuse e b) h

condition_same : {e : Errno} {b b' : Bool} {r : Row} → b' ≡ b → Refuse e b' r ≡ Refuse e b r
condition_same {e = e} {r = r} h = ap (λ b. Refuse e b r) h

commit_same : {changes changes' : List Change} {a : Answer} {own : Option Rec} → changes' ≡ changes → Commit changes' a own ≡ Commit changes a own
commit_same {a = a} {own = own} h = ap (λ cs. Commit cs a own) h

then_same : {change : Change} {changes changes' : List Change} → changes' ≡ changes → (change ∷ changes') ≡ (change ∷ changes)
then_same {change = change} h = ap (λ cs. change ∷ cs) h

first_same : {change change' : Change} {changes : List Change} → change' ≡ change → (change' ∷ changes) ≡ (change ∷ changes)
first_same {changes = changes} h = ap (λ ch. ch ∷ changes) h

module _ (c : Cap) (s : State) (who : Pid) (p : Process) (picks : Pid → Bool) (covers : (q : Pid) → is_caller who q ≡ true → picks q ≡ true) where
  abbrev s' : State
  s' = state_without c (is_caller who) s

  abbrev p' : Process
  p' = process_without c p

  -- a process of the other state
  abbrev lessened : Pid → Process → Process
  lessened = process_if_picked c (is_caller who)

  -- changes once the capability is taken
  abbrev without : List Change → List Change
  without = changes_without c picks

  abbrev SameRowWithout : Row → Row → Type 0
  SameRowWithout r r' = row_without c picks r' ≡ row_without c picks r

  -- the caller is set
  set_self : (x : Process) → change_without c picks (SetProcess who (process_without c x)) ≡ change_without c picks (SetProcess who x)
  set_self x = set_without c picks who x (picks_caller c s who picks covers)

  same_self : (x : Process) {a : Answer} {own : Option Rec} → SameRowWithout (Commit (SetProcess who x ∷ []) a own) (Commit (SetProcess who (process_without c x) ∷ []) a own)
  same_self x = commit_same (first_same (set_self x))

  -- ---- parts of rows
  same_cond : (b : Bool) (x y x' y' : Row) → SameRowWithout x x' → SameRowWithout y y' → SameRowWithout (cond b x y) (cond b x' y')
  same_cond true x y x' y' f g = f
  same_cond false x y x' y' f g = g

  same_need_if : (b : Bool) (k : Check) (r r' : Row) → SameRowWithout r r' → SameRowWithout (need_if b k r) (need_if b k r')
  unfolding need_if
  same_need_if b k r r' h = same_cond b (Need k r) r (Need k r') r' (ap (Need k) h) h

  same_missing : (o : Option Oid) (k k' : Oid → Row) → ((id : Oid) → SameRowWithout (k id) (k' id)) → SameRowWithout (or_missing o k) (or_missing o k')
  same_missing None k k' h = refl
  same_missing (Some id) k k' h = h id

  same_object : (found : Found) (k k' : Oid → Row) → ((id : Oid) → SameRowWithout (k id) (k' id)) → SameRowWithout (to_object found k) (to_object found k')
  same_object (Start id) k k' h = h id
  same_object (Entry dir name object) k k' h = same_missing object k k' h

  same_walk_from : (place : ℕ → Place) (at : ℕ) (dir : Oid) (names : List Name) (k k' : Found → Row) → ((found : Found) → SameRowWithout (k found) (k' found))
      → SameRowWithout (walk_from s p place at dir names k) (walk_from s' p' place at dir names k')
  same_walk_from place at dir [] k k' h = h (Start dir)
  same_walk_from place at dir (name ∷ []) k k' h = ap (enter s p dir (place at)) (h _)
  same_walk_from place at dir (name ∷ next ∷ names) k k' h =
      ap (enter s p dir (place at)) (same_missing (look s dir name) _ _ (λ id. same_walk_from place (at + 1) id (next ∷ names) k k' h))

  same_walk : (place : ℕ → Place) (path : PathValue) (k k' : Found → Row) → ((found : Found) → SameRowWithout (k found) (k' found))
      → SameRowWithout (walk s p place path k) (walk s' p' place path k')
  same_walk place path k k' h = same_walk_from place 0 (start_of p path) path.names k k' h

  -- a row after a path
  same_path : (path : PathValue) (k k' : Oid → Row) → ((id : Oid) → SameRowWithout (k id) (k' id))
      → SameRowWithout (reach s p (λ n. First n) path k) (reach s' p' (λ n. First n) path k')
  same_path path k k' h = same_walk _ path _ _ (λ found. same_object found k k' h)

  same_open : (o : Option Opened) (k k' : Opened → Row) → ((f : Opened) → SameRowWithout (k f) (k' f)) → SameRowWithout (or_not_open o k) (or_not_open o k')
  same_open None k k' h = refl
  same_open (Some f) k k' h = h f

  same_descriptor : (fd : ℕ) (k k' : Opened → Row) → ((f : Opened) → SameRowWithout (k f) (k' f)) → SameRowWithout (on_descriptor s p fd k) (on_descriptor s' p' fd k')
  unfolding open_description
  same_descriptor fd k k' h = same_open (open_description s p fd) k k' h

  -- ---- what rows read of other processes
  -- the descriptors of a process
  abbrev held_by : Pid → Process → List Descriptor
  held_by q x = map_list (λ (f : ℕ × Did). record { who = q; fd = f.0; did = f.1 }) (map.entries x.fds)

  same_descriptors : descriptors s' ≡ descriptors s
  unfolding descriptors
  same_descriptors = flat_map-select pid_cmp_total pid_cmp_exact (λ q x. Some (lessened q x)) held_by held_by s.procs
      (λ q x _. elim (is_caller who q) as (λ b. held_by q (cond b (process_without c x) x) ≡ held_by q x) [ true ↦ refl | false ↦ refl ])

  same_let_go : (goes : Descriptor → Bool) (did : Did) → is_let_go s' goes did ≡ is_let_go s goes did
  same_let_go goes did = ap
      (λ fs. list_any (λ (f : Descriptor). goes f && same_did f.did did) fs && not (list_any (λ (f : Descriptor). not (goes f) && same_did f.did did) fs))
      same_descriptors

  same_closing : (goes : Descriptor → Bool) → changes_of_close s' goes ≡ changes_of_close s goes
  unfolding changes_of_close
  same_closing goes = λ i. flat_map (λ e. cond (same_let_go goes e.0 i) (DropDescription e.0
      ∷ cond (is_fifo (object_at s e.1.object).kind
      && not (any_entry (λ did d. same_oid d.object e.1.object && not (same_let_go goes did i)) s.descriptions)) (truncation s e.1.object ∷ []) []) [])
      (map.entries s.descriptions)

  same_has_child : has_child s' who ≡ has_child s who
  same_has_child =
      let is_child : Pid → Process → Bool = λ q x. is_pid who x.parent in
      any_entry-select pid_cmp_total pid_cmp_exact (λ q x. Some (lessened q x)) is_child is_child s.procs
      (λ q x _. elim (is_caller who q) as (λ b. is_child q (cond b (process_without c x) x) ≡ is_child q x) [ true ↦ refl | false ↦ refl ])

  -- the end of a process, which maybe sets the caller
  without-append : (xs ys : List Change) → without (xs ++ ys) ≡ without xs ++ without ys
  without-append [] ys = refl
  without-append (x ∷ xs) ys = then_same (without-append xs ys)

  without-flat_map : {X : Type 0} (f : X → List Change) (xs : List X) → without (flat_map f xs) ≡ flat_map (λ x. without (f x)) xs
  without-flat_map f [] = refl
  without-flat_map f (x ∷ xs) = without-append (f x) (flat_map f xs) ∙ ap (λ cs. without (f x) ++ cs) (without-flat_map f xs)

  same_changes_after_end : (target : Pid) (t : Process) (how : Ending) (q : Pid) (x : Process)
      → without (changes_after_end target t how (q, lessened q x)) ≡ without (changes_after_end target t how (q, x))
  same_changes_after_end target t how q x =
      let survive : Process → Bool → List Change = λ y b. without (cond b (SetProcess q (process_after_end target t how q y) ∷ []) []) in
      elim (is_caller who q) as (λ b. is_caller who q ≡ b → without (changes_after_end target t how (q, cond b (process_without c x) x)) ≡ without (changes_after_end target t how (q, x))) [
        | true ↦ λ h.
            elim (not (same_pid q target) && (is_pid target x.parent || is_pid q t.parent)) as (λ b. survive (process_without c x) b ≡ survive x b) [
              | true ↦ first_same (set_without c picks q (process_after_end target t how q x) (covers q h))
              | false ↦ refl
            ]
        | false ↦ λ _. refl
      ] refl

  same_ending : (target : Pid) (t : Process) (how : Ending) → without (ending_of s' target t how) ≡ without (ending_of s target t how)
  unfolding ending_of
  same_ending target t how =
      let survive : Pid → Process → List Change = λ q x. without (changes_after_end target t how (q, x)) in
      let goes : Descriptor → Bool = λ (d : Descriptor). same_pid d.who target in
      let others = flat_map-select pid_cmp_total pid_cmp_exact (λ q x. Some (lessened q x)) survive survive s.procs (λ q x _. same_changes_after_end target t how q x) in
      let rest : without (flat_map (changes_after_end target t how) (map.entries s'.procs)) ≡ without (flat_map (changes_after_end target t how) (map.entries s.procs)) =
      without-flat_map _ (map.entries s'.procs) ∙ others ∙ sym (without-flat_map _ (map.entries s.procs)) in
      then_same (without-append (changes_of_close s' goes) _ ∙ (λ i. without (same_closing goes i) ++ rest i) ∙ sym (without-append (changes_of_close s goes) _))

  -- ---- calls on files
  same_opens : (id : Oid) (flags : OpenFlags) (before : List Change) → SameRowWithout (opens s who p id flags before) (opens s' who p' id flags before)
  same_opens id flags before =
      let described = then_same (then_same (first_same (set_self (with_descriptor p (next_description s p.label))))) in
      commit_same (without-append before (description_creation s' who p' id flags) ∙ ap (λ cs. without before ++ cs) described
      ∙ sym (without-append before (description_creation s who p id flags)))

  same_present : (flags : OpenFlags) (id : Oid) (place : Place) → SameRowWithout (open_present s who p flags id place) (open_present s' who p' flags id place)
  same_present flags id place =
      let o : Object = object_at s id in
      let truncation = λ (a : Option Attr). same_opens id flags (truncation_if id o a) in
      refuse_same (same_need_if _ _ _ _ (same_need_if _ _ _ _ (refuse_same (refuse_same
      (same_need_if _ _ _ _ (same_need_if _ _ _ _ (same_need_if _ _ _ _
      (same_cond (flags.t && is_file o.kind) _ _ _ _ (soft_same (truncation (Some o.attr)) (truncation (Some (unprivileged o.attr)))) (truncation None)))))))))

  same_found : (path : PathValue) (flags : OpenFlags) (mode : ℕ) (found : Found)
      → SameRowWithout (open_found s who p path flags mode found) (open_found s' who p' path flags mode found)
  same_found path flags mode (Start id) = same_present flags id _
  same_found path flags mode (Entry dir name None) =
      ap (to_absent s p flags dir (dir_place (λ n. First n) path))
      (refuse_same (same_opens (next_object s p.label) flags (creation s p.label dir name (object_with p.label (attr_of p (masked_permissions mode p.umask)) (body.File [])))))
  same_found path flags mode (Entry dir name (Some id)) = same_present flags id _

  -- ---- calls on entries
  same_under : (n : ℕ) (dir top : Oid) → is_under_within s' n dir top ≡ is_under_within s n dir top
  unfolding holder
  same_under zero dir top = refl
  same_under (suc n) dir top = ap (λ b. same_oid dir top || b)
      (elim (holder s dir) as (λ w. is_so_above (λ above. is_under_within s' n above top) w ≡ is_so_above (λ above. is_under_within s n above top) w) [
        | None ↦ refl
        | Some above ↦ same_under n above top
      ])

  same_entry : (found : Found) (k k' : Oid → Name → Option Oid → Row)
      → ((dir : Oid) (name : Name) (object : Option Oid) → SameRowWithout (k dir name object) (k' dir name object)) → SameRowWithout (to_entry found k) (to_entry found k')
  same_entry (Start id) k k' h = refl
  same_entry (Entry dir name object) k k' h = h dir name object

  same_way : (id : Oid) (object : Option Oid) (place : Place) (r r' : Row) → SameRowWithout r r'
      → SameRowWithout (give_way s p id object place r) (give_way s' p' id object place r')
  same_way id None place r r' h = h
  same_way id (Some t) place r r' h = need_same (same_cond (same_oid t id) _ _ _ _ refl (refuse_same (refuse_same (refuse_same h))))

  same_move : (dir : Oid) (name : Name) (id into : Oid) (new : Name) → SameRowWithout (move_row s dir name id into new) (move_row s' dir name id into new)
  unfolding is_under
  same_move dir name id into new = condition_same (ap (λ b. is_dir (object_at s id).kind && b) (same_under _ into id))

  same_size : (id : Oid) (k : Kind) → size_of s' id k ≡ size_of s id k
  same_size id kind.Dir = refl
  same_size id k = refl

  same_names : (id : Oid) (k : Kind) → names_reported s' id k ≡ names_reported s id k
  same_names id kind.Dir = refl
  same_names id kind.Pipe = refl
  same_names id k = refl

  same_stat : (id : Oid) → stat_of s' id ≡ stat_of s id
  unfolding stat_of
  same_stat id = λ i. record (stat_by s id (object_at s id)) { size = same_size id (object_at s id).kind i; names = same_names id (object_at s id).kind i }

  same_told : (id : Oid) → SameRowWithout (tell_stat s id) (tell_stat s' id)
  same_told id = ap (λ t. Commit [] (answer.Stat t) None) (same_stat id)

  -- ---- calls on processes
  same_ids : (ids : Ids) → SameRowWithout (set_ids who p ids) (set_ids who p' ids)
  same_ids ids = same_self (record p { ids = ids })

  same_take : (es : List (Pid × Ending)) → SameRowWithout (take_ended who p es) (take_ended who p' es)
  same_take [] = refl
  same_take (e ∷ es) = same_self (record p { ended = es })

  -- the end of a process does not depend on its capability sets
  same_end : (b : Bool) (target : Pid) (t : Process) (how : Ending) → SameRowWithout (kill_with s target t how) (kill_with s' target (cond b (process_without c t) t) how)
  unfolding ending_of
  same_end true target t how = commit_same (same_ending target t how)
  same_end false target t how = commit_same (same_ending target t how)

  same_signalled : (b : Bool) (target : Pid) (t : Process) (sig : Signal) → SameRowWithout (signal_row s target t sig) (signal_row s' target (cond b (process_without c t) t) sig)
  same_signalled b target t signal.Zero = refl
  same_signalled b target t signal.Term = same_end b target t ending.Term
  same_signalled b target t signal.Kill = same_end b target t ending.Kill

  same_send : (target : Pid) (sig : Signal) (t : Option Process)
      → SameRowWithout (send s p target sig t) (send s' p' target sig (option_map (lessened target) t))
  same_send target sig None = refl
  same_send target sig (Some t) =
      elim (is_caller who target) as (λ b. SameRowWithout (send s p target sig (Some t)) (send s' p' target sig (Some (cond b (process_without c t) t)))) [
        | true ↦ same_need_if _ _ _ _ (need_same (same_signalled true target t sig))
        | false ↦ same_need_if _ _ _ _ (need_same (same_signalled false target t sig))
      ]

  -- ---- the row of each call, but for that of the one that reports the caller's own sets
  pub same_row : (called : Call) → reports_own_sets called ≡ false → (called ≡ call.Fork → picks (next_process s p.label) ≡ true)
      → SameRowWithout (row s who p called) (row s' who p' called)
  unfolding is_above_holders names_in stat_of
  same_row (call.OpenPath path flags mode) other child = refuse_same (refuse_same (same_walk _ path _ _ (same_found path flags (unwrap_or mode 0))))
  same_row (call.Close fd) other child = same_descriptor fd _ _ (λ f i.
      Commit (set_self (record p { fds = map.remove p.fds fd }) i ∷ without (same_closing (λ (d : Descriptor). same_pid d.who who && d.fd == fd) i))
      answer.Nothing None)
  same_row (call.Read fd n) other child = same_descriptor fd _ _ (λ f. refl)
  same_row (call.Write fd bytes) other child = same_descriptor fd _ _ (λ f. refl)
  same_row (call.Lseek fd from offset) other child = same_descriptor fd _ _ (λ f. refl)
  same_row (call.Dup fd) other child = same_descriptor fd _ _ (λ f. refuse_same (same_self (with_descriptor p f.did)))
  same_row call.Pipe other child =
      refuse_same (refuse_same (refuse_same (commit_same (then_same (then_same (then_same (then_same (then_same
      (first_same (set_self (with_descriptor (with_descriptor p (next_description s p.label)) (second_description s p))))))))))))
  same_row (call.Mkfifo path mode) other child = same_walk _ path _ _ (λ found. refl)
  same_row (call.Fstat fd) other child = same_descriptor fd _ _ (λ f. need_same (same_told f.description.object))
  same_row (call.Mkdir path mode) other child = same_walk _ path _ _ (λ found. refl)
  same_row (call.Rmdir path) other child = same_walk _ path _ _ (λ found. refl)
  same_row (call.Link path to) other child = same_path path _ _ (λ id. need_same (need_same (refuse_same (same_walk _ to _ _ (λ target. refl)))))
  same_row (call.Unlink path) other child = same_walk _ path _ _ (λ found. refl)
  same_row (call.Rename path to) other child =
      same_walk _ path _ _ (λ found. same_entry found _ _ (λ dir name object. same_missing object _ _ (λ id. ap (leave_from s p path dir id)
      (same_walk _ to _ _ (λ target. same_entry target _ _ (λ into new at. ap (write_end s p to id into)
      (same_way id at (last_place (λ n. Second n) to) _ _ (same_move dir name id into new))))))))
  same_row (call.Readdir path) other child = same_walk _ path _ _ (λ found. refl)
  same_row (call.Stat path) other child = same_path path _ _ (λ id. need_same (same_told id))
  same_row (call.Chdir path) other child = same_path path _ _ (λ id. need_same (refuse_same (need_same (same_self (record p { cwd = id })))))
  same_row (call.Chmod path mode) other child = same_walk _ path _ _ (λ found. refl)
  same_row (call.Chown path user group) other child = same_walk _ path _ _ (λ found. refl)
  same_row (call.Umask mode) other child = same_self (record p { umask = mode })
  same_row (call.CapGetFile path) other child = same_walk _ path _ _ (λ found. refl)
  same_row (call.CapSetFile path caps) other child = same_walk _ path _ _ (λ found. refl)
  same_row (call.CapGetFd fd) other child = same_descriptor fd _ _ (λ f. refl)
  same_row (call.CapSetFd fd caps) other child = same_descriptor fd _ _ (λ f. refl)
  same_row (call.MacGetFile path) other child = same_walk _ path _ _ (λ found. refl)
  same_row (call.MacSetFile path new) other child = same_walk _ path _ _ (λ found. refl)
  same_row (call.MacGetFd fd) other child = same_descriptor fd _ _ (λ f. refl)
  same_row (call.MacSetFd fd new) other child = same_descriptor fd _ _ (λ f. refl)
  same_row call.Fork other child =
      refuse_same (commit_same (then_same (first_same (set_without c picks (next_process s p.label) (child_of who p) (child refl)))))
  same_row (call.Exec path) other child = same_walk _ path _ _ (λ found. refl)
  same_row (call.Exit code) other child = same_end true who p (ending.Exit code)
  same_row call.Wait other child = λ i. Refuse errno.ECHILD (length p.ended == 0 && not (same_has_child i)) (same_take p.ended i)
  same_row (call.Kill target sig) other child =
      need_same (ap (λ t. row_without c picks (send s' p' target sig t)) (get-select_each pid_cmp_total pid_cmp_exact lessened s.procs target)
      ∙ same_send target sig (map.get s.procs target))
  same_row call.Getpid other child = refl
  same_row call.Getppid other child = refl
  same_row call.Getids other child = refl
  same_row (call.Setuid user) other child =
      soft_same (same_ids (record p.ids { ruid = user; euid = user; suid = user })) (need_same (same_ids (record p.ids { euid = user })))
  same_row (call.Setgid group) other child =
      soft_same (same_ids (record p.ids { rgid = group; egid = group; sgid = group })) (need_same (same_ids (record p.ids { egid = group })))
  same_row call.CapGetProc other child = absurd (true≢false other)
  same_row (call.CapSetProc caps) other child = refl
  same_row call.MacGetProc other child = refl
  same_row (call.MacSetProc new) other child = same_need_if _ _ _ _ (same_self (record p { label = new }))
  same_row (call.AudWrite bytes) other child = refl
  same_row (call.AudSwitch on) other child = need_same (same_self (record p { audited = on }))
