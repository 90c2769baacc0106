-- The row of each call: the labels in its answers are below top, and the modes in them are modes.
use Rattle.std.specs.Prelude.{◌≡◌, ⊤, ℕ, ◌+◌, ◌==◌, ◌&&◌, length, Bool, true, false, List, [], ◌∷◌, Option, Some, None, refl, cond, unwrap_or}
use Rattle.std.specs.List.{AllByRecursion}
use Rattle.std.proofs.Common.{sym, subst}
use Rattle.std.proofs.lemmas.Bool.{and_parts, leb-true}
use Rattle.std.specs.FinMap as map
use Rattle.fs_path.specs.Name.{Name}
use Rattle.fs_path.specs.Path.{PathValue}
use Rattle.lab_lattice.specs.Label.{Label, dominates}
use Rattle.kern_model.specs.declared.calls.Answer.TheVariants as answer
use Rattle.kern_model.specs.declared.calls.Call.{Call}
use Rattle.kern_model.specs.declared.calls.Call.TheVariants as call
use Rattle.kern_model.specs.declared.calls.Ending.{Ending}
use Rattle.kern_model.specs.declared.calls.OpenFlags.{OpenFlags}
use Rattle.kern_model.specs.declared.calls.Signal.{Signal}
use Rattle.kern_model.specs.declared.calls.Signal.TheVariants as signal
use Rattle.kern_model.specs.declared.checks.Check.{Check}
use Rattle.kern_model.specs.declared.checks.Place.{Place}
use Rattle.kern_model.specs.declared.checks.Place.TheVariants.{Handle, Second}
use Rattle.kern_model.specs.declared.limits.TheConstants.{MAX_PERMISSIONS}
use Rattle.kern_model.specs.declared.numbers.Oid.{Oid}
use Rattle.kern_model.specs.declared.numbers.Pid.{Pid}
use Rattle.kern_model.specs.declared.objects.Object.{Object}
use Rattle.kern_model.specs.declared.records.Rec.{Rec}
use Rattle.kern_model.specs.Arguments.{is_call}
use Rattle.kern_model.specs.AttrRows.{change_label, change_mode, change_owner, get_caps, get_label, give_label, set_caps, set_label, write_object_then}
use Rattle.kern_model.specs.Descriptors.{Opened, open_description}
use Rattle.kern_model.specs.FileRows.{keeps_attr, move_after, on_descriptor, open_object, or_not_open, place_in, put_in, put_in_file, put_in_stream, take_from, write_opened, writes_at}
use Rattle.kern_model.specs.Keys.{same_oid}
use Rattle.kern_model.specs.Kinds.{is_file, is_stream, is_mode, is_permission}
use Rattle.kern_model.specs.OpenRows.{open_found, open_present, opens_present}
use Rattle.kern_model.specs.ProcessRows.{await_child, execute, has_child, send, signal_row}
use Rattle.kern_model.specs.Row.{Row, Need, Soft, Refuse, Fail, Commit, Subject, End, Stopped, Refused, Done, judge, verdict_of, is_denied, exercises_after, need_if}
use Rattle.kern_model.specs.Rules.{same_label}
use Rattle.kern_model.specs.Stat.{stat_of, tell_stat}
use Rattle.kern_model.specs.State.{State, Process, look, object_at, root, stub_object}
use Rattle.kern_model.specs.Step.{reply_of, subject}
use Rattle.kern_model.specs.Table.{row}
use Rattle.kern_model.specs.TreeRows.{add_name, gives_way, go_to, if_moves, link_to, move_over, move_row, move_to, read_dir, report_stat, target_found}
use Rattle.kern_model.specs.Valid.{IsValid, IsValidEnd, IsThere}
use Rattle.kern_model.specs.Walk.{Found, Start, Entry, or_missing, to_entry, to_entry_of_object, to_new_name, to_object, walk_from, walk, start_of, on_path, last_place}
use Rattle.kern_model.proofs.MapLemmas.{get_or-found, get_or-absent}
use Rattle.iso_laws.specs.Labels.{AnswerBelow, HasAnswerBelow}
use Rattle.iso_laws.specs.Laws.{CallerBelow, CallBelow, ReplyBelow}
use Rattle.iso_laws.proofs.BelowRows.{NumberBelow, leads_below, object_below, process_below}
use Rattle.iso_laws.proofs.Effects.{small_is_mode}
use Rattle.iso_laws.proofs.PartReads.{is_open}
use Rattle.iso_laws.proofs.Rows.{cond_satisfies}
use Rattle.iso_laws.proofs.Steps.{step_cases}

-- ---- a call
pub caller_below : CallerBelow
caller_below s who p valid is = process_below s valid who p is

pub call_below : CallBelow
unfolding is_call
call_below top (call.MacSetFile path label) args = (args, tt)
call_below top (call.MacSetFd fd label) args = (args, tt)
call_below top (call.Kill target sig) args = ((and_parts _ _ args).1, tt)
call_below top (call.MacSetProc label) args = (args, tt)
call_below top c args = tt

-- ---- rows
-- each answer of a row is below
abbrev RowAnswersBelow : Label → Row → Type 0
RowAnswersBelow top (Need c r) = RowAnswersBelow top r
RowAnswersBelow top (Soft c r w) = RowAnswersBelow top r × RowAnswersBelow top w
RowAnswersBelow top (Refuse e b r) = RowAnswersBelow top r
RowAnswersBelow top (Fail e) = ⊤
RowAnswersBelow top (Commit cs a own) = AnswerBelow top a

-- so is that of its end
abbrev EndAnswerBelow : Label → End → Type 0
EndAnswerBelow top (Stopped name place) = ⊤
EndAnswerBelow top (Refused e) = ⊤
EndAnswerBelow top (Done cs a own) = AnswerBelow top a

end_below : (top : Label) (a : Subject) (used : List Rec) (r : Row) → RowAnswersBelow top r → EndAnswerBelow top (judge a used r).end
unfolding judge
end_below top a used (Need c r) h =
    cond_satisfies (λ j. EndAnswerBelow top j.end) (is_denied (verdict_of a c)) _ _ (λ _. tt)
    (λ _. end_below top a (exercises_after a c (verdict_of a c) used) r h)
end_below top a used (Soft c r w) h =
    cond_satisfies (λ j. EndAnswerBelow top j.end) (is_denied (verdict_of a c)) _ _ (λ _. end_below top a used w h.1)
    (λ _. end_below top a (exercises_after a c (verdict_of a c) used) r h.0)
end_below top a used (Refuse e b r) h = cond_satisfies (λ j. EndAnswerBelow top j.end) b _ _ (λ _. tt) (λ _. end_below top a used r h)
end_below top a used (Fail e) h = tt
end_below top a used (Commit cs answer own) h = h

reply_of_end : (top : Label) (e : End) → EndAnswerBelow top e → HasAnswerBelow top (reply_of e)
reply_of_end top (Stopped name place) h = tt
reply_of_end top (Refused e) h = tt
reply_of_end top (Done cs a own) h = h

-- permission bits are a mode
permission_is_mode : (mode : ℕ) → is_permission mode ≡ true → is_mode mode ≡ true
permission_is_mode mode h = small_is_mode mode (leb-true mode MAX_PERMISSIONS h)

-- an answer without labels and modes, and two of them
plain : ⊤ × ⊤
plain = (tt, tt)

both_plain : (⊤ × ⊤) × (⊤ × ⊤)
both_plain = (plain, plain)

-- ---- what is reported of a valid state
module _ (s : State) (valid : IsValid s) where
  abbrev Answers : Row → Type 0
  Answers = RowAnswersBelow s.top

  mode_at : (id : Oid) → is_mode (object_at s id).attr.mode ≡ true
  mode_at id =
      elim (map.get s.objects id) as (λ found. map.get s.objects id ≡ found → is_mode (object_at s id).attr.mode ≡ true) [
        | None ↦ λ none. subst (λ (o : Object). is_mode o.attr.mode ≡ true) (sym (get_or-absent s.objects id (stub_object s.top) none)) refl
        | Some o ↦ λ is. subst (λ (o : Object). is_mode o.attr.mode ≡ true) (sym (get_or-found s.objects id (stub_object s.top) o is)) (valid.objects id o is).mode
      ] refl

  told : (id : Oid) → NumberBelow s valid id → Answers (tell_stat s id)
  unfolding stat_of
  told id below = ((below, (object_below s valid id, tt)), (mode_at id, tt))

  -- the number of a living process
  there_below : (q : Pid) → IsThere s.procs q → dominates s.top q.label ≡ true
  there_below q there = process_below s valid q there.value there.is

  -- ---- parts of rows
  answers_cond : (b : Bool) (x y : Row) → Answers x → Answers y → Answers (cond b x y)
  answers_cond true x y f g = f
  answers_cond false x y f g = g

  answers_need_if : (b : Bool) (c : Check) (r : Row) → Answers r → Answers (need_if b c r)
  unfolding need_if
  answers_need_if b c r h = answers_cond b (Need c r) r h h

  answers_missing : (o : Option Oid) (k : Oid → Row) → ((id : Oid) → o ≡ Some id → Answers (k id)) → Answers (or_missing o k)
  answers_missing None k h = tt
  answers_missing (Some id) k h = h id refl

  answers_open : (o : Option Opened) (k : Opened → Row) → ((f : Opened) → o ≡ Some f → Answers (k f)) → Answers (or_not_open o k)
  answers_open None k h = tt
  answers_open (Some f) k h = h f refl

  answers_new_name : (found : Found) (k : Oid → Name → Row) → ((dir : Oid) (name : Name) → Answers (k dir name)) → Answers (to_new_name found k)
  answers_new_name (Start id) k h = tt
  answers_new_name (Entry dir name None) k h = h dir name
  answers_new_name (Entry dir name (Some id)) k h = tt

  answers_entry : (found : Found) (k : Oid → Name → Option Oid → Row) → ((dir : Oid) (name : Name) (object : Option Oid) → Answers (k dir name object)) → Answers (to_entry found k)
  answers_entry (Start id) k h = tt
  answers_entry (Entry dir name object) k h = h dir name object

  answers_entry_of_object : (found : Found) (k : Oid → Name → Oid → Row) → ((dir : Oid) (name : Name) (id : Oid) → Answers (k dir name id)) → Answers (to_entry_of_object found k)
  answers_entry_of_object found k h = answers_entry found _ (λ dir name object. answers_missing object _ (λ id _. h dir name id))

  -- ---- what a walk found
  -- the label of the number of what was found, if something was
  abbrev FoundBelow : Found → Type 0
  FoundBelow (Start id) = NumberBelow s valid id
  FoundBelow (Entry dir name None) = ⊤
  FoundBelow (Entry dir name (Some id)) = NumberBelow s valid id

  entry_below : (dir : Oid) (name : Name) (object : Option Oid) → look s dir name ≡ object → FoundBelow (Entry dir name object)
  entry_below dir name None at = tt
  entry_below dir name (Some id) at = (leads_below s valid).entries (dir, name) id at

  answers_object : (found : Found) (k : Oid → Row) → FoundBelow found → ((id : Oid) → NumberBelow s valid id → Answers (k id)) → Answers (to_object found k)
  answers_object (Start id) k below h = h id below
  answers_object (Entry dir name None) k below h = tt
  answers_object (Entry dir name (Some id)) k below h = h id below

  -- ---- a caller
  module _ (who : Pid) (p : Process) (is : map.get s.procs who ≡ Some p) where
    answers_walk_from : (place : ℕ → Place) (at : ℕ) (dir : Oid) (names : List Name) (k : Found → Row) → NumberBelow s valid dir
        → ((found : Found) → FoundBelow found → Answers (k found)) → Answers (walk_from s p place at dir names k)
    answers_walk_from place at dir [] k below h = h (Start dir) below
    answers_walk_from place at dir (name ∷ []) k below h = h (Entry dir name (look s dir name)) (entry_below dir name (look s dir name) refl)
    answers_walk_from place at dir (name ∷ next ∷ names) k below h =
        answers_missing (look s dir name) _ (λ id e. answers_walk_from place (at + 1) id (next ∷ names) k (entry_below dir name (Some id) e) h)

    start_below : (path : PathValue) → NumberBelow s valid (start_of p path)
    start_below path =
        elim path.absolute as (λ b. NumberBelow s valid (cond b root p.cwd)) [ true ↦ (leads_below s valid).root_there | false ↦ (leads_below s valid).procs who p is ]

    answers_walk : (place : ℕ → Place) (path : PathValue) (k : Found → Row) → ((found : Found) → FoundBelow found → Answers (k found)) → Answers (walk s p place path k)
    answers_walk place path k h = answers_walk_from place 0 (start_of p path) path.names k (start_below path) h

    answers_path : (path : PathValue) (k : Oid → Place → Row) → ((id : Oid) (place : Place) → NumberBelow s valid id → Answers (k id place)) → Answers (on_path s p path k)
    answers_path path k h = answers_walk _ path _ (λ found below. answers_object found _ below (λ id. h id _))

    answers_descriptor : (fd : ℕ) (k : Opened → Row) → ((f : Opened) → NumberBelow s valid f.description.object → Answers (k f)) → Answers (on_descriptor s p fd k)
    answers_descriptor fd k h =
        answers_open (open_description s p fd) k (λ f e. h f ((leads_below s valid).descriptions f.did f.description (is_open s p fd f e).is))

    -- ---- calls
    present_answers : (flags : OpenFlags) (id : Oid) (place : Place) → Answers (open_present s who p flags id place)
    present_answers flags id place =
        answers_need_if _ _ _ (answers_need_if _ _ _ (answers_need_if _ _ _ (answers_need_if _ _ _ (answers_need_if _ _ _
        (answers_cond (flags.t && is_file (object_at s id).kind) (keeps_attr id place (object_at s id) (λ attr. opens_present s who p flags id (object_at s id) (Some attr)))
        (opens_present s who p flags id (object_at s id) None) both_plain plain)))))

    open_answers : (path : PathValue) (flags : OpenFlags) (mode : ℕ) (found : Found) → Answers (open_found s who p path flags mode found)
    open_answers path flags mode (Start id) = present_answers flags id _
    open_answers path flags mode (Entry dir name None) = plain
    open_answers path flags mode (Entry dir name (Some id)) = present_answers flags id _

    gives_way_answers : (id : Oid) (at : Option Oid) (place : Place) (k : Bool → Row) → ((b : Bool) → Answers (k b)) → Answers (gives_way s p id at place k)
    gives_way_answers id None place k h = h true
    gives_way_answers id (Some t) place k h = answers_cond (same_oid t id) _ _ (h false) (h true)

    await_answers : (living : Bool) (es : List (Pid × Ending)) → AllByRecursion (IsValidEnd s) es → Answers (await_child living who p es)
    await_answers living [] ends = tt
    await_answers living (e ∷ es) ends = ((ends.0.below, tt), tt)

    signal_answers : (target : Pid) (t : Process) (sig : Signal) → Answers (signal_row s target t sig)
    signal_answers target t signal.Zero = plain
    signal_answers target t signal.Term = plain
    signal_answers target t signal.Kill = plain

    send_answers : (target : Pid) (sig : Signal) (t : Option Process) → Answers (send s p target sig t)
    send_answers target sig None = tt
    send_answers target sig (Some t) = answers_need_if _ _ _ (signal_answers target t sig)

    taken_answers : (stream : Bool) (n : ℕ) (f : Opened) (o : Object) → Answers (take_from stream n f o)
    taken_answers true n f o = plain
    taken_answers false n f o = plain

    rewrites_answers : (bytes : List ℕ) (f : Opened) (o : Object) (at : ℕ) → Answers (writes_at bytes f o at)
    rewrites_answers bytes f o at =
        answers_cond (length bytes == 0) (move_after bytes f at [])
        (keeps_attr f.description.object Handle o (λ attr. move_after bytes f at (put_in bytes f o at attr ∷ []))) plain both_plain

    write_answers : (bytes : List ℕ) (f : Opened) → Answers (write_opened s bytes f)
    write_answers bytes f =
        answers_cond (is_stream (open_object s f).kind) (put_in_stream s f bytes) (put_in_file s f bytes) plain
        (rewrites_answers bytes f (open_object s f) (place_in (open_object s f) f))

    add_answers : (to : PathValue) (id : Oid) → Answers (add_name s p to id)
    add_answers to id = answers_walk (λ n. Second n) to _ (λ found _. answers_new_name found _ (λ dir name. plain))

    link_answers : (to : PathValue) (id : Oid) (place : Place) → Answers (link_to s p to id place)
    link_answers to id place = add_answers to id

    over_answers : (to : PathValue) (from : Oid × Name × Oid) (target : Oid × Name × Option Oid) → Answers (move_over s p to from target)
    over_answers to from target =
        gives_way_answers from.2 target.2 (last_place (λ n. Second n) to) (if_moves (move_row s from.0 from.1 from.2 target.0 target.1))
        (λ moves. answers_cond moves (move_row s from.0 from.1 from.2 target.0 target.1) (Commit [] answer.Nothing None) plain plain)

    move_answers : (to : PathValue) (from : Oid × Name × Oid) → Answers (move_to s p to from)
    move_answers to from =
        answers_walk (λ n. Second n) to (λ found. target_found s p to from.2 found (move_over s p to from))
        (λ target _. answers_entry target _ (λ into new at. over_answers to from (into, new, at)))

    relabel_answers : (new : Label) (id : Oid) (place : Place) → Answers (set_label s who p new id place)
    relabel_answers new id place =
        let o : Object = object_at s id in
        answers_cond (same_label new o.label) (give_label who new id o) (change_label s new id place (give_label who new id o)) plain plain

    label_answers : (id : Oid) (place : Place) → Answers (get_label s p id place)
    label_answers id place = ((object_below s valid id, tt), tt)

    parent_answers : (q : Option Pid) → p.parent ≡ q → AnswerBelow s.top (answer.Parent q)
    parent_answers None e = plain
    parent_answers (Some q) e = ((there_below q ((valid.procs who p is).parent q e), tt), tt)

    row_answers : (c : Call) → Answers (row s who p c)
    row_answers (call.OpenPath path flags mode) = answers_walk _ path _ (λ found _. open_answers path flags (unwrap_or mode 0) found)
    row_answers (call.Close fd) = answers_descriptor fd _ (λ f _. plain)
    row_answers (call.Read fd n) = answers_descriptor fd _ (λ f _. answers_need_if _ _ _ (taken_answers _ n f _))
    row_answers (call.Write fd bytes) = answers_descriptor fd _ (λ f _. write_answers bytes f)
    row_answers (call.Lseek fd from offset) = answers_descriptor fd _ (λ f _. plain)
    row_answers (call.Dup fd) = answers_descriptor fd _ (λ f _. plain)
    row_answers call.Pipe = plain
    row_answers (call.Mkfifo path mode) = answers_walk _ path _ (λ found _. answers_new_name found _ (λ dir name. plain))
    row_answers (call.Fstat fd) = answers_descriptor fd _ (λ f below. told f.description.object below)
    row_answers (call.Mkdir path mode) = answers_walk _ path _ (λ found _. answers_new_name found _ (λ dir name. plain))
    row_answers (call.Rmdir path) = answers_walk _ path _ (λ found _. answers_entry_of_object found _ (λ dir name id. plain))
    row_answers (call.Link path to) = answers_path path (link_to s p to) (λ id place _. link_answers to id place)
    row_answers (call.Unlink path) = answers_walk _ path _ (λ found _. answers_entry_of_object found _ (λ dir name id. plain))
    row_answers (call.Rename path to) =
        answers_walk _ path _ (λ found _. answers_entry_of_object found _ (λ dir name id. move_answers to (dir, name, id)))
    row_answers (call.Readdir path) = answers_path path (read_dir s p) (λ id place _. plain)
    row_answers (call.Stat path) = answers_path path (report_stat s p) (λ id place below. told id below)
    row_answers (call.Chdir path) = answers_path path (go_to s who p) (λ id place _. plain)
    row_answers (call.Chmod path mode) = answers_path path (write_object_then s p (change_mode p mode)) (λ id place _. both_plain)
    row_answers (call.Chown path user group) = answers_path path (write_object_then s p (change_owner p user group)) (λ id place _. both_plain)
    row_answers (call.Umask mode) = (tt, (permission_is_mode p.umask (valid.procs who p is).umask, tt))
    row_answers (call.CapGetFile path) = answers_path path (get_caps s p) (λ id place _. plain)
    row_answers (call.CapSetFile path caps) = answers_path path (set_caps s who p caps) (λ id place _. plain)
    row_answers (call.CapGetFd fd) = answers_descriptor fd _ (λ f _. plain)
    row_answers (call.CapSetFd fd caps) = answers_descriptor fd _ (λ f _. plain)
    row_answers (call.MacGetFile path) = answers_path path (get_label s p) (λ id place _. label_answers id place)
    row_answers (call.MacSetFile path new) = answers_path path (set_label s who p new) (λ id place _. relabel_answers new id place)
    row_answers (call.MacGetFd fd) = answers_descriptor fd _ (λ f _. label_answers f.description.object Handle)
    row_answers (call.MacSetFd fd new) = answers_descriptor fd _ (λ f _. relabel_answers new f.description.object Handle)
    row_answers call.Fork = (((valid.procs who p is).below, tt), tt)
    row_answers (call.Exec path) = answers_path path (execute s who p) (λ id place _. plain)
    row_answers (call.Exit code) = plain
    row_answers call.Wait = await_answers (has_child s who) p.ended (valid.procs who p is).ended
    row_answers (call.Kill target sig) = send_answers target sig (map.get s.procs target)
    row_answers call.Getpid = ((process_below s valid who p is, tt), tt)
    row_answers call.Getppid = parent_answers p.parent refl
    row_answers call.MacGetProc = (((valid.procs who p is).below, tt), tt)
    row_answers (call.Setuid user) = both_plain
    row_answers (call.Setgid group) = both_plain
    row_answers (call.MacSetProc new) = answers_need_if _ _ _ plain
    row_answers c = plain

-- ---- the reply of a step
pub reply_below : ReplyBelow
reply_below s who c valid = step_cases s who c (λ o. HasAnswerBelow s.top o.reply)
    (λ _. tt)
    (λ p is.
    reply_of_end s.top (judge (subject who p) [] (row s who p c)).end (end_below s.top (subject who p) [] (row s who p c) (row_answers s valid who p is c)))
