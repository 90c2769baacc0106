-- What the rows that make and move entries ask beside their checks.
use Rattle.std.specs.Prelude.{◌≡◌, ⊤, ℕ, ◌&&◌, ◌<◌, true, false, nat_le, Option, None, Some, Result, Ok, Err, cond, refl}
use Rattle.std.specs.Result.{IsErrAnd}
use Rattle.std.specs.FinMap as map
use Rattle.std.specs.FinMap.{FinMap}
use Rattle.std.proofs.Common.{ap, sym, ◌∙◌, subst, inl, inr, arith, leb-false}
use Rattle.std.proofs.Math.Logic.{∥∥₁_map, ∥∥₁_elim}
use Rattle.fs_path.specs.Name.{Name}
use Rattle.fs_path.specs.Path.{PathValue}
use Rattle.lab_lattice.specs.Label.{Label}
use Rattle.kern_model.specs.declared.limits.TheConstants.{MAX_LINKS}
use Rattle.kern_model.specs.declared.checks.Check.{Check}
use Rattle.kern_model.specs.declared.checks.Place.{Place}
use Rattle.kern_model.specs.declared.numbers.Oid.{Oid}
use Rattle.kern_model.specs.declared.numbers.Pid.{Pid}
use Rattle.kern_model.specs.declared.objects.Object.{Object}
use Rattle.kern_model.specs.Entries.{is_under, link_count}
use Rattle.kern_model.specs.Keys.{oid_cmp, spot_cmp}
use Rattle.kern_model.specs.Kinds.{is_dir}
use Rattle.kern_model.specs.Maps.{get_or}
use Rattle.kern_model.specs.Row.{Row}
use Rattle.kern_model.specs.Rules.{held_order}
use Rattle.kern_model.specs.State.{State, Process, object_at, process_at, root, stub_object}
use Rattle.kern_model.specs.TreeRows.{old_entry}
use Rattle.kern_model.specs.Valid.{IsDir, IsValid}
use Rattle.kern_model.specs.Walk.{on_path, start_of}
use Rattle.kern_model.proofs.MapLemmas.{get_or-found, never_some, some_same}
use Rattle.chk_rules.specs.CheckLog.{CheckLog}
use Rattle.chk_rules.specs.RowSteps.{GoesOn}
use Rattle.chk_rules.specs.declared.stop.Stop.{Stop}
use Rattle.fs_dirs.specs.Tree.{MayBeAdded, TreeView, state_of_tree, would_loop}
use Rattle.fs_dirs.proofs.SameEntries.{is_under-same}
use Rattle.sys_lookup.specs.declared.effect.Effect.{Effect}
use Rattle.sys_lookup.specs.declared.shared.Metadata.{Metadata}
use Rattle.sys_lookup.specs.declared.shared.Shared.TheInside.{Inside}
use Rattle.sys_lookup.specs.Callers.{CallerView, caller_in}
use Rattle.sys_lookup.specs.PlaysRow.{PlaysRow}
use Rattle.sys_lookup.specs.Shared.{metadata_of, state_of}
use Rattle.sys_lookup.specs.Walks.{IsEntry, IsLedTo}
use Rattle.sys_lookup.proofs.PlayLemmas.{step_called, stops_row, then_plays}
use Rattle.sys_tree.specs.Entries.{IsReadBy, entry_taken}

-- the row of an entry whose object's metadata are known
abbrev pub on_entry : (Oid × Name × Oid → Row) → Oid × Name × Metadata → Row
on_entry row (dir, name, object) = row (dir, name, object.id)

-- the row of what a path leads to
abbrev pub on_reached : (Oid → Place → Row) → Oid × Place → Row
on_reached row (id, place) = row id place

-- the part of a row that leads to the object at the end of the first path
abbrev pub reached : CallerView → PathValue → (Oid × Place → Row) → Row
reached k path rest = on_path k.state k.process path (λ id place. rest (id, place))

-- the caller read what are the metadata of an object
pub read_by : (k : CallerView) (id : Oid) {object : Metadata} → object ≡ metadata_of k.state id → IsReadBy k object
read_by k id is = is ∙ ap (metadata_of k.state) (sym (ap (λ (m : Metadata). m.id) is))

-- what stands in the state of the caller stands in the state in which it is the caller
pub entry_in : {s : State} {who : Pid} {k : CallerView} {dir : Oid} {name : Name} {object : Option Oid} → k ≡ caller_in s who → IsEntry k.state dir name object → IsEntry s dir name object
entry_in {dir = dir} {name = name} {object = object} same entry = subst (λ (x : CallerView). IsEntry x.state dir name object) same entry

-- a call that changes nothing plays the row of the process with the caller's number
pub called_still : {s : State} {a b : CheckLog} {r : Result Effect Stop} {who : Pid} {k : CallerView} (row : CallerView → Row) → k ≡ caller_in s who → PlaysRow k.state a (row k) r k.state b → PlaysRow s a (row (caller_in s who)) r s b
called_still {a = a} {b = b} {r = r} row same plays = subst (λ (x : CallerView). PlaysRow x.state a (row x) r x.state b) same plays

-- ---- the first steps of a row

module _ (s : State) (who : Pid) {k : CallerView} (same : k ≡ caller_in s who) (path : PathValue) {a b : CheckLog} where
  -- the row of a call on what its first path leads to goes on from there
  pub path_plays : {c : CheckLog} {t : State} {r : Result Effect Stop} {id : Oid} {place : Place} (row : Oid → Place → Row) → GoesOn a (reached k path) (Ok (id, place)) b → PlaysRow s b (row id place) r t c
      → PlaysRow s a (on_path s (process_at s who) path row) r t c
  path_plays row step plays = then_plays {rest = on_reached row} (step_called (λ (x : CallerView). reached x path) same step) plays

  -- or stops before
  pub path_stops : {how : Stop} (row : Oid → Place → Row) (r : Result Effect Stop) → IsErrAnd r (λ e. e ≡ how) → GoesOn a (reached k path) (Err how) b → PlaysRow s a (on_path s (process_at s who) path row) r s b
  path_stops row r is step = stops_row {rest = on_reached row} r is refl (step_called (λ (x : CallerView). reached x path) same step)

  -- the row of a call that takes away an entry goes on where it may be taken away
  pub entry_plays : {c : CheckLog} {t : State} {r : Result Effect Stop} {e : Oid × Name × Metadata} (row : Oid × Name × Oid → Row) → GoesOn a (entry_taken k path) (Ok e) b → PlaysRow s b (on_entry row e) r t c
      → PlaysRow s a (old_entry s (process_at s who) path row) r t c
  entry_plays row step plays = then_plays {rest = on_entry row} (step_called (λ (x : CallerView). entry_taken x path) same step) plays

  -- or stops before
  pub entry_stops : {how : Stop} (row : Oid × Name × Oid → Row) (r : Result Effect Stop) → IsErrAnd r (λ e. e ≡ how) → GoesOn a (entry_taken k path) (Err how) b → PlaysRow s a (old_entry s (process_at s who) path row) r s b
  entry_stops row r is step = stops_row {rest = on_entry row} r is refl (step_called (λ (x : CallerView). entry_taken x path) same step)

-- ---- the directory that gets an entry

-- a part of a row that has the place of a directory and the order of labels there, by an equal place and check
pub equal_directory : (part : Place → Check → Row → Row) (s : State) (id dir : Oid) {at place : Place} {order : Check} {a b : CheckLog} {r : Result ⊤ Stop} → at ≡ place → order ≡ held_order s id dir at
    → GoesOn a (λ (rest : ⊤ → Row). part at order (rest tt)) r b → GoesOn a (λ (rest : ⊤ → Row). part place (held_order s id dir place) (rest tt)) r b
equal_directory part s id dir {at = at} {a = a} {b = b} {r = r} same is step =
    subst (λ (x : Place). GoesOn a (λ (rest : ⊤ → Row). part x (held_order s id dir x) (rest tt)) r b) same
    (subst (λ (o : Check). GoesOn a (λ (rest : ⊤ → Row). part at o (rest tt)) r b) is step)

-- ---- the object that gets one more name

-- where a path starts is a directory
start_is_dir : (s : State) → IsValid s → (who : Pid) (p : Process) → map.get s.procs who ≡ Some p → (path : PathValue) → IsDir s.objects (start_of p path)
start_is_dir s valid who p there path =
    let r = valid.root_is in
    elim path.absolute as (λ b. IsDir s.objects (cond b root p.cwd)) [ true ↦ record { object = r.object; is = r.is; dir = r.root_dir } | false ↦ (valid.procs who p there).cwd ]

reads_as_dir : (s : State) (id : Oid) → IsDir s.objects id → is_dir (object_at s id).kind ≡ true
reads_as_dir s id dir = ap (λ (o : Object). is_dir o.kind) (get_or-found s.objects id (stub_object s.top) dir.object dir.is) ∙ ap is_dir dir.dir

fewer : (n : ℕ) → nat_le MAX_LINKS n ≡ false → n < MAX_LINKS
fewer n h = omega (arith, leb-false MAX_LINKS n h)

-- the same where the proof that the state is valid is at hand
added_in : (s : State) → IsValid s → (who : Pid) (p : Process) → map.get s.procs who ≡ Some p → (path : PathValue) (id : Oid) → IsLedTo s (start_of p path) id
    → is_dir (object_at s id).kind ≡ false → nat_le MAX_LINKS (link_count s id) ≡ false → MayBeAdded s id
added_in s valid who p there path id (inl same) no_dir few =
    let no : true ≡ false = sym (reads_as_dir s id (subst (IsDir s.objects) (sym same) (start_is_dir s valid who p there path))) ∙ no_dir in
    cc
added_in s valid who p there path id (inr named) no_dir few =
    let entry = valid.entries (named.dir, named.name) id named.leads in
    record {
      object = entry.object;
      is = entry.object_is;
      few = fewer (link_count s id) few;
      no_root = entry.no_root;
      no_pipe = entry.no_pipe;
      one = λ dir.
          let no : true ≡ false = sym (reads_as_dir s id (record { object = entry.object; is = entry.object_is; dir = dir })) ∙ no_dir in
          cc;
    }

-- what a path leads to may be added under another name where it is no directory and has few names
pub may_be_added : (s : State) → ∥ IsValid s ∥₁ → (who : Pid) (p : Process) → map.get s.procs who ≡ Some p → (path : PathValue) (id : Oid) → IsLedTo s (start_of p path) id
    → is_dir (object_at s id).kind ≡ false → nat_le MAX_LINKS (link_count s id) ≡ false → MayBeAdded s id
may_be_added s valid who p there path id led no_dir few =
    let known = ∥∥₁_map valid (λ v. added_in s v who p there path id led no_dir few) in
    elim (map.get s.objects id) as (λ w. map.get s.objects id ≡ w → MayBeAdded s id) [
      | None ↦ λ e. absurd (∥∥₁_elim known (λ a b. absurd a) (λ m. never_some (map.get s.objects id) m.object e m.is))
      | Some o ↦ λ e. record {
        object = o;
        is = e;
        few = fewer (link_count s id) few;
        no_root = λ r. ∥∥₁_elim known (λ a b. absurd a) (λ m. m.no_root r);
        no_pipe = λ k. ∥∥₁_elim known (λ a b. absurd a) (λ m. m.no_pipe (ap (λ (x : Object). x.kind) (some_same m.object o (sym m.is ∙ e)) ∙ k));
        one = λ dir.
            let no : true ≡ false = sym (reads_as_dir s id (record { object = o; is = e; dir = dir })) ∙ no_dir in
            cc;
      }
    ] refl

-- ---- the entry that moves

dir_whatever_stub : (m : FinMap oid_cmp Object) (id : Oid) (a b : Label) → is_dir (get_or m id (stub_object a)).kind ≡ is_dir (get_or m id (stub_object b)).kind
unfolding get_or
dir_whatever_stub m id a b =
    elim (map.get m id) as (λ (w : Option Object). is_dir (elim w as (λ _. Object) [ None ↦ stub_object a | Some x ↦ x ]).kind ≡ is_dir (elim w as (λ _. Object) [ None ↦ stub_object b | Some x ↦ x ]).kind) [ None ↦ refl | Some o ↦ refl ]

module _ (h : Inside) {s : State} (is : state_of h ≡ s) where
  -- whether a directory would lie under itself is the same of the tree alone
  pub loops_same : (id into : Oid) → would_loop s id into ≡ would_loop (state_of_tree h.tree) id into
  loops_same id into =
      let a = state_of h in
      let t = state_of_tree h.tree in
      ap (λ (x : State). would_loop x id into) (sym is)
      ∙ ap (λ b. b && is_under a into id) (dir_whatever_stub a.objects id a.top t.top)
      ∙ ap (λ b. is_dir (object_at t id).kind && b) (is_under-same a t refl into id)

  -- the entries change as those of the tree do
  pub entries_changed : (change : FinMap spot_cmp Oid → FinMap spot_cmp Oid) {t : TreeView} → t ≡ record h.tree { entries = change h.tree.entries } → state_of (record h { tree = t }) ≡ record s { entries = change s.entries }
  entries_changed change made = ap (λ (t : TreeView). state_of (record h { tree = t })) made ∙ ap (λ (x : State). record x { entries = change x.entries }) is
