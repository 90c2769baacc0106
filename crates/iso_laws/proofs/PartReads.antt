-- What a Low process reads of a state and of its part.
use Rattle.std.specs.Prelude.{◌≡◌, ℕ, ◌+◌, Bool, true, false, not, ◌&&◌, ◌||◌, List, [], ◌∷◌, Option, Some, None, refl, cond}
use Rattle.std.specs.Option.{option_map, option_and_then}
use Rattle.std.specs.List.{list_any}
use Rattle.std.proofs.Common.{sym, ◌∙◌, ap, subst}
use Rattle.std.proofs.lemmas.Bool.{true≢false, and_from, or_left, and_parts, not-false, false_from_ne_true}
use Rattle.std.specs.FinMap as map
use Rattle.cap_bits.specs.declared.cap.Cap.{Cap}
use Rattle.cap_bits.specs.declared.cap.Cap.TheVariants as cap
use Rattle.fs_path.specs.Name.{Name}
use Rattle.fs_path.specs.Path.{PathValue}
use Rattle.lab_lattice.specs.Label.{Label, dominates}
use Rattle.lab_lattice.proofs.Labels.{dominates_through, dominates_bottom, label_cmp_total, label_cmp_exact}
use Rattle.kern_model.specs.declared.numbers.Pid.{Pid}
use Rattle.kern_model.specs.declared.numbers.Oid.{Oid}
use Rattle.kern_model.specs.declared.numbers.Did.{Did}
use Rattle.kern_model.specs.declared.objects.Kind.TheVariants as kind
use Rattle.kern_model.specs.declared.objects.Object.{Object}
use Rattle.kern_model.specs.declared.checks.Check.{Check}
use Rattle.kern_model.specs.declared.checks.CheckName.{CheckName}
use Rattle.kern_model.specs.declared.checks.CheckName.TheVariants as check
use Rattle.kern_model.specs.declared.checks.Place.{Place}
use Rattle.kern_model.specs.declared.checks.Verdict.TheVariants.{Passed, Exercised, Denied}
use Rattle.kern_model.specs.declared.checks.Want.TheVariants as want
use Rattle.kern_model.specs.declared.calls.Errno.TheVariants as errno
use Rattle.kern_model.specs.declared.records.Rec.{Rec}
use Rattle.kern_model.specs.Maps.{get_or}
use Rattle.kern_model.proofs.KeyLaws.{oid_cmp_total, oid_cmp_exact, pid_cmp_total, pid_cmp_exact, did_cmp_total, did_cmp_exact, spot_cmp_total, spot_cmp_exact}
use Rattle.kern_model.specs.Descriptors.{Opened, open_description}
use Rattle.kern_model.specs.Kinds.{is_dir}
use Rattle.kern_model.specs.State.{State, Process, Description, last_drawn, object_at, look, stub, stub_object, root}
use Rattle.kern_model.specs.Rules.{cap_of, same_label, mode_allows, of_object, mac_read, mac_write, dac_search, mac_read_of, mac_write_of}
use Rattle.kern_model.specs.Row.{Row, Need, Refuse, Subject, verdict_of, is_denied, exercises_after, exercise_with, may}
use Rattle.kern_model.specs.Walk.{Found, Start, Entry, walk_from, walk, reach, start_of, enter, or_missing, to_object}
use Rattle.kern_model.specs.Step.{subject}
use Rattle.kern_model.specs.Isolation.{low, crosses, is_mac, differ, differs_from, Kept}
use Rattle.kern_model.specs.Valid.{IsValid, IsThere, IsDir}
use Rattle.kern_model.proofs.MapLemmas.{get-select_kept, get-select_dropped, get_or-found, get_or-absent, get_or-same, never_some, some_same}
use Rattle.iso_laws.proofs.Part.{part_by_number, shown_oid, low_oid, low_pid, low_did, low_spot, as_is}
use Rattle.kern_model.proofs.StateLemmas.{dir_there}
use Rattle.iso_laws.proofs.Rows.{Passes, in_part_check, in_part_hidden, in_part_refuse, in_part_missing, SameInPart}

-- a check whose rule fails is exercised or denied
pub failed_verdict : (a : Subject) (c : Check) → c.holds ≡ false → verdict_of a c ≡ cond (may a.effective (cap_of c.name)) Exercised Denied
unfolding verdict_of
failed_verdict a c h = ap (λ b. cond b Passed (cond (may a.effective (cap_of c.name)) Exercised Denied)) h

-- a check whose rule fails passes only by crossing, where the two labels are on different sides
pub cannot_pass : (l : Label) (a : Subject) (c : Check) (with : Cap) → c.holds ≡ false → cap_of c.name ≡ Some with → is_mac with ≡ true
    → differ (low l a.label) (low l c.thing_label) ≡ true → Passes (crosses l) a c → ⊥
cannot_pass l a c with fails named mac apart passes =
    elim (may a.effective (cap_of c.name)) as (λ b. verdict_of a c ≡ cond b Exercised Denied → ⊥) [
      | true ↦ λ v.
          let inside : list_any (crosses l) (exercise_with a c (Some with)) ≡ false =
          ap (λ o. list_any (crosses l) (exercise_with a c o)) (sym named) ∙ ap (λ w. list_any (crosses l) (exercises_after a c w [])) (sym v) ∙ passes.inside in
          let is : list_any (crosses l) (exercise_with a c (Some with)) ≡ true = or_left _ _ (and_from (is_mac with) _ mac (or_left _ _ apart)) in
          let no : true ≡ false = sym is ∙ inside in
          cc
      | false ↦ λ v. let no : true ≡ false = ap is_denied (sym v) ∙ passes.granted in cc
    ] (failed_verdict a c fails)

-- ---- labels
-- what a Low label dominates is Low
pub low_below : (l x y : Label) → low l x ≡ true → dominates x y ≡ true → low l y ≡ true
low_below l x y h d = dominates_through l x y h d

-- a Low label dominates no label that is not Low
pub not_below : (l x y : Label) → low l x ≡ true → low l y ≡ false → dominates x y ≡ false
not_below l x y h n = false_from_ne_true _ (λ d. let no : true ≡ false = sym (low_below l x y h d) ∙ n in cc)

-- top is not Low where a label that it dominates is not
pub top_hidden : (l top y : Label) → dominates top y ≡ true → low l y ≡ false → low l top ≡ false
top_hidden l top y d n = false_from_ne_true _ (λ h. let no : true ≡ false = sym (low_below l top y h d) ∙ n in cc)

equal_bools : (a b : Bool) → (a ≡ true → b ≡ true) → (b ≡ true → a ≡ true) → a ≡ b
equal_bools true b f g = sym (f refl)
equal_bools false true f g = g refl
equal_bools false false f g = refl

-- equal labels are on the same side
pub same_side : (l x y : Label) → same_label x y ≡ true → low l x ≡ low l y
same_side l x y h =
    let parts = and_parts (dominates x y) (dominates y x) h in
    equal_bools _ _ (λ w. low_below l x y w parts.0) (λ w. low_below l y x w parts.1)

differ_false : (a b : Bool) → differ a b ≡ false → a ≡ b
differ_false true true h = refl
differ_false true false h = cc
differ_false false true h = cc
differ_false false false h = refl

inner : (a b d : Bool) → a ≡ true → ((a && (b || d)) || false) ≡ false → d ≡ false
inner true true d p e = cc
inner true false true p e = cc
inner true false false p e = refl
inner false b d p e = cc

-- a new label that only a capability allows is on the caller's side, unless giving it crosses
pub new_side : (l : Label) (a : Subject) (c : Check) (with : Cap) (new : Label) → cap_of c.name ≡ Some with → is_mac with ≡ true → c.new_label ≡ Some new
    → c.holds ≡ false → Passes (crosses l) a c → low l a.label ≡ low l new
new_side l a c with new named mac is_new fails passes =
    elim (may a.effective (cap_of c.name)) as (λ b. verdict_of a c ≡ cond b Exercised Denied → low l a.label ≡ low l new) [
      | true ↦ λ v.
          let inside : list_any (crosses l) (exercise_with a c (Some with)) ≡ false =
          ap (λ o. list_any (crosses l) (exercise_with a c o)) (sym named) ∙ ap (λ w. list_any (crosses l) (exercises_after a c w [])) (sym v) ∙ passes.inside in
          differ_false _ _
          (inner (is_mac with) (differ (low l a.label) (low l c.thing_label)) _ mac
          (ap (λ n. (is_mac with && (differ (low l a.label) (low l c.thing_label) || differs_from l (low l a.label) n)) || false) (sym is_new) ∙ inside))
      | false ↦ λ v. let no : true ≡ false = ap is_denied (sym v) ∙ passes.granted in cc
    ] (failed_verdict a c fails)

-- a check that no capability overrides passes only where its rule holds
pub rule_holds : (excluded : Rec → Bool) (a : Subject) (c : Check) → cap_of c.name ≡ None → Passes excluded a c → c.holds ≡ true
rule_holds excluded a c unnamed passes =
    elim c.holds as (λ b. c.holds ≡ b → b ≡ true) [
      | true ↦ λ _. refl
      | false ↦ λ fails.
          let denied : verdict_of a c ≡ Denied = failed_verdict a c fails ∙ ap (λ o. cond (may a.effective o) Exercised Denied) unnamed in
          let no : true ≡ false = ap is_denied (sym denied) ∙ passes.granted in cc
    ] refl

-- the root is Low for each label
pub root_low : (l : Label) → low l root.label ≡ true
root_low l = dominates_bottom l

-- ---- what is there
-- an object that a path may lead to: it is there, and is no pipe
pub record IsPathTarget (s : State) (id : Oid) : Type 0 where
  pub object : Object
  pub is : map.get s.objects id ≡ Some object
  pub no_pipe : object.kind ≡ kind.Pipe → ⊥

-- what an entry leads to is there
pub led_there : (s : State) → IsValid s → (dir : Oid) (name : Name) (id : Oid) → look s dir name ≡ Some id → IsThere s.objects id
led_there s valid dir name id e = let entry = valid.entries (dir, name) id e in record { value = entry.object; is = entry.object_is }

pub entry_target : (s : State) → IsValid s → (dir : Oid) (name : Name) (id : Oid) → look s dir name ≡ Some id → IsPathTarget s id
entry_target s valid dir name id e = let entry = valid.entries (dir, name) id e in record { object = entry.object; is = entry.object_is; no_pipe = entry.no_pipe }

pub dir_target : (s : State) (id : Oid) → IsDir s.objects id → IsPathTarget s id
dir_target s id dir = record { object = dir.object; is = dir.is; no_pipe = λ pipe. let no : kind.Dir ≡ kind.Pipe = sym dir.dir ∙ pipe in cc }

-- the root is there
pub root_there : (s : State) → IsValid s → IsThere s.objects root
root_there s valid = record { value = valid.root_is.object; is = valid.root_is.is }

-- the directory where a path starts is there
start_there : (s : State) → IsValid s → (who : Pid) (p : Process) (path : PathValue) → map.get s.procs who ≡ Some p → IsThere s.objects (start_of p path)
start_there s valid who p path is =
    let cwd = (valid.procs who p is).cwd in
    elim path.absolute as (λ b. IsThere s.objects (cond b root p.cwd)) [ true ↦ root_there s valid | false ↦ record { value = cwd.object; is = cwd.is } ]

-- ---- a Low process and the part
option_map_as_is : {X : Type 0} (w : Option X) → option_map (as_is {X = X}) w ≡ w
option_map_as_is None = refl
option_map_as_is (Some x) = refl

module _ (l : Label) (s : State) where
  get_low : (id : Oid) → low l id.label ≡ true → map.get (part_by_number l s).objects id ≡ map.get s.objects id
  unfolding part_by_number
  get_low id h = get-select_kept oid_cmp_total oid_cmp_exact (low_oid l) as_is s.objects id h ∙ option_map_as_is _

  -- the last number drawn at a Low label is the same in the part
  pub drawn_low : (label : Label) → low l label ≡ true → last_drawn (part_by_number l s).object_numbers label ≡ last_drawn s.object_numbers label
  unfolding part_by_number
  drawn_low label h = get_or-same _ _ label 0 (get-select_kept label_cmp_total label_cmp_exact (low l) as_is s.object_numbers label h ∙ option_map_as_is _)

  pub descriptions_drawn_low : (label : Label) → low l label ≡ true → last_drawn (part_by_number l s).description_numbers label ≡ last_drawn s.description_numbers label
  unfolding part_by_number
  descriptions_drawn_low label h =
      get_or-same _ _ label 0 (get-select_kept label_cmp_total label_cmp_exact (low l) as_is s.description_numbers label h ∙ option_map_as_is _)

  pub processes_drawn_low : (label : Label) → low l label ≡ true → last_drawn (part_by_number l s).process_numbers label ≡ last_drawn s.process_numbers label
  unfolding part_by_number
  processes_drawn_low label h = get_or-same _ _ label 0 (get-select_kept label_cmp_total label_cmp_exact (low l) as_is s.process_numbers label h ∙ option_map_as_is _)

  -- the process of a Low number is the same in the part
  pub get_process : (q : Pid) → low l q.label ≡ true → map.get (part_by_number l s).procs q ≡ map.get s.procs q
  unfolding part_by_number
  get_process q h = get-select_kept pid_cmp_total pid_cmp_exact (low_pid l) as_is s.procs q h ∙ option_map_as_is _

  pub get_description : (did : Did) → low l did.label ≡ true → map.get (part_by_number l s).descriptions did ≡ map.get s.descriptions did
  unfolding part_by_number
  get_description did h = get-select_kept did_cmp_total did_cmp_exact (low_did l) as_is s.descriptions did h ∙ option_map_as_is _

  get_stub : low l s.top ≡ false → map.get (part_by_number l s).objects (stub s.top) ≡ None
  unfolding part_by_number
  get_stub h = get-select_dropped oid_cmp_total oid_cmp_exact (low_oid l) as_is s.objects (stub s.top) h

  top_is : (part_by_number l s).top ≡ s.top
  unfolding part_by_number
  top_is = refl

  -- a Low object reads the same in the part
  pub object_low : (id : Oid) → low l id.label ≡ true → object_at (part_by_number l s) id ≡ object_at s id
  object_low id h = ap (λ t. get_or (part_by_number l s).objects id (stub_object t)) top_is ∙ get_or-same _ _ id _ (get_low id h)

  object_stub : low l s.top ≡ false → object_at (part_by_number l s) (stub s.top) ≡ stub_object s.top
  object_stub h = ap (λ t. get_or (part_by_number l s).objects (stub s.top) (stub_object t)) top_is ∙ get_or-absent _ _ _ (get_stub h)

  -- an entry of a Low directory leads in the part to what the part shows of its object
  pub look_low : (dir : Oid) (name : Name) → low l dir.label ≡ true → look (part_by_number l s) dir name ≡ option_map (shown_oid l s.top) (look s dir name)
  unfolding part_by_number
  look_low dir name h = get-select_kept spot_cmp_total spot_cmp_exact (low_spot l) (shown_oid l s.top) s.entries (dir, name) h

  -- a Low object is shown as it is
  pub shown_oid_low : (id : Oid) → low l id.label ≡ true → shown_oid l s.top id ≡ id
  shown_oid_low id h = ap (λ b. cond b id (stub s.top)) h

-- A check of an object's label: a Low process meets its rule for no label that is not Low, and a capability on labels overrides it.
module _ (l : Label) (s : State) (kept : Kept l s) (who : Pid) (p : Process) (is_low : low l p.label ≡ true) (of : Oid → Object → Check) (name : CheckName)
    (place : Place) (with : Cap) (form : (q : Oid) (o : Object) → ((of q o).name ≡ name) × ((of q o).place ≡ place) × ((of q o).thing_label ≡ o.label))
    (named : cap_of name ≡ Some with) (mac : is_mac with ≡ true)
    (fails : (q : Oid) (o : Object) → low l o.label ≡ false → (of q o).holds ≡ false) where
  hidden_label : (id : Oid) → IsThere s.objects id → low l id.label ≡ false → low l (object_at s id).label ≡ false
  hidden_label id there high = ap (λ (o : Object). low l o.label) (get_or-found _ _ _ _ there.is) ∙ sym (kept.objects id there.value there.is) ∙ high

  -- it passes the check of no object that is not Low
  hidden_not_passed : (id : Oid) → IsThere s.objects id → low l id.label ≡ false → Passes (crosses l) (subject who p) (of id (object_at s id)) → ⊥
  hidden_not_passed id there high =
      let c : Check = of id (object_at s id) in
      let hidden = hidden_label id there high in
      cannot_pass l (subject who p) c with (fails id (object_at s id) hidden) (ap cap_of (form id (object_at s id)).0 ∙ named) mac
      (ap (λ b. differ b (low l c.thing_label)) is_low ∙ ap (λ x. not (low l x)) (form id (object_at s id)).2 ∙ ap not hidden)

  -- its check ends in the part as in the state, and what passes it is Low
  in_part_label_check : IsValid s → (id : Oid) → IsThere s.objects id → (r : Row) (r' : Oid → Row) → (low l id.label ≡ true → SameInPart l s who p r (r' id))
      → SameInPart l s who p (Need (of id (object_at s id)) r)
      (Need (of (shown_oid l s.top id) (object_at (part_by_number l s) (shown_oid l s.top id))) (r' (shown_oid l s.top id)))
  in_part_label_check valid id there r r' rest =
      let a : Subject = subject who p in
      let c : Check = of id (object_at s id) in
      let in_part : Oid → Check = λ q. of q (object_at (part_by_number l s) q) in
      elim (low l id.label) as (λ b. low l id.label ≡ b → SameInPart l s who p (Need c r) (Need (in_part (cond b id (stub s.top))) (r' (cond b id (stub s.top))))) [
        | true ↦ λ h. in_part_check l s who p _ _ r (r' id) (ap (of id) (object_low l s id h)) (λ _. rest h)
        | false ↦ λ high.
            let hidden = hidden_label id there high in
            let top : low l s.top ≡ false =
            top_hidden l s.top (object_at s id).label
            (ap (λ (o : Object). dominates s.top o.label) (get_or-found _ _ _ _ there.is) ∙ (valid.objects id there.value there.is).below) hidden in
            let c' : Check = in_part (stub s.top) in
            let stub_hidden : low l (object_at (part_by_number l s) (stub s.top)).label ≡ false = ap (λ (o : Object). low l o.label) (object_stub l s top) ∙ top in
            let names : c'.name ≡ c.name = (form _ _).0 ∙ sym (form _ _).0 in
            in_part_hidden l s who p c c' r (r' (stub s.top)) names ((form _ _).1 ∙ sym (form _ _).1)
            (failed_verdict a c' (fails _ _ stub_hidden) ∙ ap (λ n. cond (may a.effective (cap_of n)) Exercised Denied) names
            ∙ sym (failed_verdict a c (fails id (object_at s id) hidden)))
            (hidden_not_passed id there high)
      ] refl

-- a Low label is not equal to one that is not Low
not_equal : (l x y : Label) → low l x ≡ true → low l y ≡ false → same_label x y ≡ false
not_equal l x y h n = false_from_ne_true _ (λ same. true≢false (sym h ∙ same_side l x y same ∙ n))

-- what passes the mac_read of a Low process is Low
pub read_low : (l : Label) (s : State) → Kept l s → (who : Pid) (p : Process) → low l p.label ≡ true → (id : Oid) → IsThere s.objects id → (place : Place)
    → Passes (crosses l) (subject who p) (mac_read s p id place) → low l id.label ≡ true
read_low l s kept who p is_low id there place passes =
    elim (low l id.label) as (λ b. low l id.label ≡ b → b ≡ true) [
      | true ↦ λ _. refl
      | false ↦ λ high.
          absurd (hidden_not_passed l s kept who p is_low (λ q o. mac_read_of p q o place) check.MacRead place cap.MacRead (λ q o. (refl, refl, refl)) refl refl
          (λ q o n. not_below l p.label o.label is_low n) id there high passes)
    ] refl

-- what passes a check of the same label is on the side of the process
pub equal_side : (l : Label) (a : Subject) (c : Check) → cap_of c.name ≡ Some cap.MacWrite → c.holds ≡ same_label a.label c.thing_label → Passes (crosses l) a c
    → low l a.label ≡ low l c.thing_label
equal_side l a c named rule passes =
    elim (same_label a.label c.thing_label) as (λ b. same_label a.label c.thing_label ≡ b → low l a.label ≡ low l c.thing_label) [
      | true ↦ λ same. same_side l a.label c.thing_label same
      | false ↦ λ other.
          differ_false _ _
          (false_from_ne_true (differ (low l a.label) (low l c.thing_label)) (λ apart. cannot_pass l a c cap.MacWrite (rule ∙ other) named refl apart passes))
    ] refl

-- what passes the mac_write of a process is on its side
pub write_side : (l : Label) (s : State) → Kept l s → (who : Pid) (p : Process) (id : Oid) → IsThere s.objects id → (place : Place)
    → Passes (crosses l) (subject who p) (mac_write s p id place) → low l p.label ≡ low l id.label
write_side l s kept who p id there place passes =
    equal_side l (subject who p) (mac_write s p id place) refl refl passes
    ∙ ap (λ (o : Object). low l o.label) (get_or-found _ _ _ _ there.is) ∙ sym (kept.objects id there.value there.is)

module _ (l : Label) (s : State) (kept : Kept l s) (valid : IsValid s) (who : Pid) (p : Process) (is_low : low l p.label ≡ true) where
  -- the mac_read of a Low process ends in the part as in the state, and what passes it is Low
  pub in_part_mac_read : (id : Oid) → IsThere s.objects id → (place : Place) (r : Row) (r' : Oid → Row) → (low l id.label ≡ true → SameInPart l s who p r (r' id))
      → SameInPart l s who p (Need (mac_read s p id place) r) (Need (mac_read (part_by_number l s) p (shown_oid l s.top id) place) (r' (shown_oid l s.top id)))
  in_part_mac_read id there place r r' rest =
      in_part_label_check l s kept who p is_low (λ q o. mac_read_of p q o place) check.MacRead place cap.MacRead (λ q o. (refl, refl, refl)) refl refl
      (λ q o n. not_below l p.label o.label is_low n) valid id there r r' rest

  -- the mac_write of a Low process ends in the part as in the state, and what passes it is Low
  pub in_part_mac_write : (id : Oid) → IsThere s.objects id → (place : Place) (r : Row) (r' : Oid → Row) → (low l id.label ≡ true → SameInPart l s who p r (r' id))
      → SameInPart l s who p (Need (mac_write s p id place) r) (Need (mac_write (part_by_number l s) p (shown_oid l s.top id) place) (r' (shown_oid l s.top id)))
  in_part_mac_write id there place r r' rest =
      in_part_label_check l s kept who p is_low (λ q o. mac_write_of p q o place) check.MacWrite place cap.MacWrite (λ q o. (refl, refl, refl)) refl refl
      (λ q o n. not_equal l p.label o.label is_low n) valid id there r r' rest

  pub in_part_enter : (dir : Oid) → IsThere s.objects dir → (place : Place) (r : Row) (r' : Oid → Row)
      → (low l dir.label ≡ true → IsDir s.objects dir → SameInPart l s who p r (r' dir))
      → SameInPart l s who p (enter s p dir place r) (enter (part_by_number l s) p (shown_oid l s.top dir) place (r' (shown_oid l s.top dir)))
  in_part_enter dir there place r r' rest =
      in_part_mac_read dir there place
      (Refuse errno.ENOTDIR (not (is_dir (object_at s dir).kind)) (Need (dac_search s p dir place) r))
      (λ d. Refuse errno.ENOTDIR (not (is_dir (object_at (part_by_number l s) d).kind)) (Need (dac_search (part_by_number l s) p d place) (r' d)))
      (λ h. in_part_refuse l s who p errno.ENOTDIR _ _ _ _ (ap (λ o. not (is_dir o.kind)) (object_low l s dir h))
      (λ is. in_part_check l s who p (dac_search s p dir place) (dac_search (part_by_number l s) p dir place) r (r' dir)
      (ap (λ o. of_object check.DacSearch (mode_allows o.attr p.ids want.Execute) None dir o place) (object_low l s dir h))
      (λ _. rest h (dir_there s dir (not-false _ is)))))

  -- what a walk found, in the part
  abbrev pub part_found : Found → Found
  part_found (Start id) = Start (shown_oid l s.top id)
  part_found (Entry dir name object) = Entry dir name (option_map (shown_oid l s.top) object)

  -- what a Low process's walk found is there, in a Low directory
  abbrev pub IsLowFound : Found → Type 0
  IsLowFound (Start id) = IsThere s.objects id
  IsLowFound (Entry dir name object) = (low l dir.label ≡ true) × IsDir s.objects dir × (object ≡ look s dir name)

  pub in_part_walk_from : (place : ℕ → Place) (at : ℕ) (dir : Oid) (names : List Name) (k k' : Found → Row) → IsThere s.objects dir
      → ((found : Found) → IsLowFound found → SameInPart l s who p (k found) (k' (part_found found)))
      → SameInPart l s who p (walk_from s p place at dir names k) (walk_from (part_by_number l s) p place at (shown_oid l s.top dir) names k')
  in_part_walk_from place at dir [] k k' there h = h (Start dir) there
  in_part_walk_from place at dir (name ∷ []) k k' there h =
      in_part_enter dir there (place at) (k (Entry dir name (look s dir name))) (λ d. k' (Entry d name (look (part_by_number l s) d name)))
      (λ is_low_dir is. subst (λ w. SameInPart l s who p (k (Entry dir name (look s dir name))) (k' (Entry dir name w))) (sym (look_low l s dir name is_low_dir))
      (h (Entry dir name (look s dir name)) (is_low_dir, is, refl)))
  in_part_walk_from place at dir (name ∷ next ∷ names) k k' there h =
      in_part_enter dir there (place at) (or_missing (look s dir name) (λ id. walk_from s p place (at + 1) id (next ∷ names) k))
      (λ d. or_missing (look (part_by_number l s) d name) (λ id. walk_from (part_by_number l s) p place (at + 1) id (next ∷ names) k'))
      (λ is_low_dir _.
      subst
      (λ w. SameInPart l s who p (or_missing (look s dir name) (λ id. walk_from s p place (at + 1) id (next ∷ names) k))
      (or_missing w (λ id. walk_from (part_by_number l s) p place (at + 1) id (next ∷ names) k')))
      (sym (look_low l s dir name is_low_dir))
      (in_part_missing l s who p (look s dir name) _ _ (shown_oid l s.top)
      (λ id e. in_part_walk_from place (at + 1) id (next ∷ names) k k' (led_there s valid dir name id e) h)))

  start_low : (path : PathValue) → map.get s.procs who ≡ Some p → low l (start_of p path).label ≡ true
  start_low path is = elim path.absolute as (λ b. low l (cond b root p.cwd).label ≡ true) [ true ↦ root_low l | false ↦ kept.cwd who p is is_low ]

  -- the walk of a path, in the state and in its part
  pub in_part_walk : map.get s.procs who ≡ Some p → (place : ℕ → Place) (path : PathValue) (k k' : Found → Row)
      → ((found : Found) → IsLowFound found → SameInPart l s who p (k found) (k' (part_found found))) → SameInPart l s who p (walk s p place path k) (walk (part_by_number l s) p place path k')
  in_part_walk is place path k k' h =
      let start : low l (start_of p path).label ≡ true = start_low path is in
      subst (λ d. SameInPart l s who p (walk s p place path k) (walk_from (part_by_number l s) p place 0 d path.names k')) (shown_oid_low l s (start_of p path) start)
      (in_part_walk_from place 0 (start_of p path) path.names k k' (start_there s valid who p path is) h)

  in_part_to_object : (k k' : Oid → Row) → ((id : Oid) → IsThere s.objects id → SameInPart l s who p (k id) (k' (shown_oid l s.top id))) → (found : Found) → IsLowFound found
      → SameInPart l s who p (to_object found k) (to_object (part_found found) k')
  in_part_to_object k k' h (Start id) there = h id there
  in_part_to_object k k' h (Entry dir name object) seen =
      in_part_missing l s who p object k k' (shown_oid l s.top) (λ id e. h id (led_there s valid dir name id (sym seen.2 ∙ e)))

  -- a walk to an object, in the state and in its part
  pub in_part_reach : map.get s.procs who ≡ Some p → (place : ℕ → Place) (path : PathValue) (k k' : Oid → Row)
      → ((id : Oid) → IsThere s.objects id → SameInPart l s who p (k id) (k' (shown_oid l s.top id))) → SameInPart l s who p (reach s p place path k) (reach (part_by_number l s) p place path k')
  in_part_reach is place path k k' h = in_part_walk is place path _ _ (in_part_to_object k k' h)

-- ---- what a descriptor refers to
-- an open descriptor of a process
pub record IsOpen (s : State) (p : Process) (fd : ℕ) (f : Opened) : Type 0 where
  pub fd_is : map.get p.fds fd ≡ Some f.did
  pub is : map.get s.descriptions f.did ≡ Some f.description

described : (s : State) (p : Process) (fd : ℕ) (did : Did) (f : Opened) (w : Option Description) → map.get p.fds fd ≡ Some did → map.get s.descriptions did ≡ w
    → option_map (λ d. record { did = did; description = d }) w ≡ Some f → IsOpen s p fd f
described s p fd did f None at is e = absurd (never_some None f refl e)
described s p fd did f (Some d) at is e = subst (IsOpen s p fd) (some_same (record { did = did; description = d }) f e) (record { fd_is = at; is = is })

pub is_open : (s : State) (p : Process) (fd : ℕ) (f : Opened) → open_description s p fd ≡ Some f → IsOpen s p fd f
unfolding open_description
is_open s p fd f =
    elim (map.get p.fds fd) as (λ w. map.get p.fds fd ≡ w
    → option_and_then (λ did. option_map (λ d. record { did = did; description = d }) (map.get s.descriptions did)) w ≡ Some f → IsOpen s p fd f) [
      | None ↦ λ _ e. absurd (never_some None f refl e)
      | Some did ↦ λ at e. described s p fd did f (map.get s.descriptions did) at refl e
    ] refl

module _ (l : Label) (s : State) (kept : Kept l s) (who : Pid) (p : Process) (is : map.get s.procs who ≡ Some p) (is_low : low l p.label ≡ true) (fd : ℕ) where
  fd_low : (did : Did) → map.get p.fds fd ≡ Some did → low l did.label ≡ true
  fd_low did at = kept.fds who p fd did is at ∙ kept.procs who p is ∙ is_low

  -- a descriptor of a Low process refers to the same in the part
  pub opened_low : open_description (part_by_number l s) p fd ≡ open_description s p fd
  unfolding open_description
  opened_low =
      let following : State → Did → Option Opened = λ t did. option_map (λ d. record { did = did; description = d }) (map.get t.descriptions did) in
      elim (map.get p.fds fd) as (λ w. map.get p.fds fd ≡ w → option_and_then (following (part_by_number l s)) w ≡ option_and_then (following s) w) [
        | None ↦ λ _. refl
        | Some did ↦ λ at. ap (option_map (λ (d : Description). record { did = did; description = d })) (get_description l s did (fd_low did at))
      ] refl

  -- its description has a Low number
  pub open_did_low : (f : Opened) → IsOpen s p fd f → low l f.did.label ≡ true
  open_did_low f held = fd_low f.did held.fd_is

  -- a descriptor of a Low process refers to a Low object
  pub open_object_low : (f : Opened) → open_description s p fd ≡ Some f → low l f.description.object.label ≡ true
  open_object_low f e = let held = is_open s p fd f e in kept.descriptions f.did f.description held.is (fd_low f.did held.fd_is)

-- what an open descriptor refers to is there, and is no directory
pub open_object_is : (s : State) → IsValid s → (p : Process) (fd : ℕ) (f : Opened) → IsOpen s p fd f
    → map.get s.objects f.description.object ≡ Some (object_at s f.description.object)
open_object_is s valid p fd f is =
    let described = valid.descriptions f.did f.description is.is in
    described.object_is
    ∙ ap (λ (o : Object). Some o) (sym (get_or-found s.objects f.description.object (stub_object s.top) described.object described.object_is))

pub open_no_dir : (s : State) → IsValid s → (p : Process) (fd : ℕ) (f : Opened) → IsOpen s p fd f → (object_at s f.description.object).kind ≡ kind.Dir → ⊥
open_no_dir s valid p fd f is dir =
    let described = valid.descriptions f.did f.description is.is in
    described.no_dir
    (ap (λ (o : Object). o.kind) (sym (get_or-found s.objects f.description.object (stub_object s.top) described.object described.object_is)) ∙ dir)
