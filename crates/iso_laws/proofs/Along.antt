-- What holds along a row, in one predicate: of each check, and of changes and own record at each end.
use Rattle.std.specs.Prelude.{◌≡◌, ⊤, ℕ, ◌+◌, not, Bool, true, false, List, [], ◌∷◌, Option, Some, None, refl, cond}
use Rattle.std.specs.List.{list_any, list_all}
use Rattle.std.proofs.Common.{◌∙◌}
use Rattle.std.proofs.lemmas.Bool.{and_parts}
use Rattle.std.specs.FinMap as map
use Rattle.fs_path.specs.Name.{Name, is_name}
use Rattle.fs_path.specs.Path.{PathValue}
use Rattle.lab_lattice.specs.Label.{Label}
use Rattle.kern_model.specs.declared.calls.Answer.{Answer}
use Rattle.kern_model.specs.declared.calls.Errno.{Errno}
use Rattle.kern_model.specs.declared.checks.Check.{Check}
use Rattle.kern_model.specs.declared.checks.CheckName.{CheckName}
use Rattle.kern_model.specs.declared.checks.Place.{Place}
use Rattle.kern_model.specs.declared.checks.Place.TheVariants.{First, Handle}
use Rattle.kern_model.specs.declared.numbers.Oid.{Oid}
use Rattle.kern_model.specs.declared.records.Rec.{Rec}
use Rattle.kern_model.specs.AttrRows.{on_open_object}
use Rattle.kern_model.specs.Descriptors.{Opened, open_description}
use Rattle.kern_model.specs.FileRows.{on_descriptor, or_not_open}
use Rattle.kern_model.specs.Keys.{Spot}
use Rattle.kern_model.specs.Kinds.{is_dir}
use Rattle.kern_model.specs.Refusals.{is_denial}
use Rattle.kern_model.specs.Row.{Row, Need, Soft, Refuse, Fail, Commit, need_if, Subject, End, Stopped, Refused, Done, judge, verdict_of, is_denied, exercises_after}
use Rattle.kern_model.specs.Rules.{on_object, mac_read}
use Rattle.kern_model.specs.State.{State, Process, Change, look, object_at, root}
use Rattle.kern_model.specs.Walk.{Found, Start, Entry, enter, or_missing, to_object, to_new_name, to_entry, to_entry_of_object, walk_from, walk, reach, start_of, on_path, last_place}
use Rattle.kern_model.specs.Step.{changes_of}
use Rattle.iso_laws.proofs.BelowRows.{CheckBelow, OwnBelow, RowBelow}
use Rattle.iso_laws.proofs.Rows.{Passes, ChangesSatisfy, EachCommit, cond_satisfies, check_passes}
use Rattle.iso_laws.proofs.PartReads.{IsOpen, is_open}

-- ---- what a process reaches
-- a walk leads to the root, to the current directory, or to what an entry leads to
pub data WalksTo (s : State) (p : Process) : Oid → Type 0 where
  ToRoot : WalksTo s p root
  ToCurrent : WalksTo s p p.cwd
  ToEntry : (spot : Spot) (id : Oid) → map.get s.entries spot ≡ Some id → WalksTo s p id

-- what a process reaches by a walk, or by a descriptor
pub data Reaches (s : State) (p : Process) : Oid → Type 0 where
  ByWalk : (id : Oid) → WalksTo s p id → Reaches s p id
  ByDescriptor : (fd : ℕ) (f : Opened) → IsOpen s p fd f → Reaches s p f.description.object

-- what a walk of some names found last: a directory, a name, and where the entry of that name leads
pub record IsEntry (Not : Bool → Type 0) (s : State) (p : Process) (names : List Name) (dir : Oid) (name : Name) (object : Option Oid) : Type 0 where
  pub walked : WalksTo s p dir
  pub dir_kind : Not (not (is_dir (object_at s dir).kind))
  pub at : look s dir name ≡ object
  pub named : list_all is_name names ≡ true → is_name name ≡ true

-- what a walk of some names found
abbrev pub IsFound : (Bool → Type 0) → State → Process → List Name → Found → Type 0
IsFound Not s p names (Start id) = WalksTo s p id
IsFound Not s p names (Entry dir name object) = IsEntry Not s p names dir name object

-- what a walk of the names after the first one found
found_after : (Not : Bool → Type 0) (s : State) (p : Process) (name : Name) (names : List Name) (found : Found) → IsFound Not s p names found
    → IsFound Not s p (name ∷ names) found
found_after Not s p name names (Start id) f = f
found_after Not s p name names (Entry dir last object) f =
    record { walked = f.walked; dir_kind = f.dir_kind; at = f.at; named = λ h. f.named (and_parts (is_name name) (list_all is_name names) h).1 }

-- ---- along a row
-- Each check has a property, no refusal is a denial, and changes and own record at each end have a property. After a check it is known that it passed, and
-- after a refusal that its condition does not hold: what "known" means is a parameter, and may mean nothing.
module _ (Known : Check → Type 0) (Not : Bool → Type 0) (CheckHolds : Check → Type 0) (CommitHolds : List Change → Option Rec → Type 0) where
  abbrev pub Along : Row → Type 0
  Along (Need c rest) = CheckHolds c × (Known c → Along rest)
  Along (Soft c granted weaker) = CheckHolds c × ((Known c → Along granted) × Along weaker)
  Along (Refuse e b rest) = (is_denial e ≡ false) × (Not b → Along rest)
  Along (Fail e) = is_denial e ≡ false
  Along (Commit cs answer own) = CommitHolds cs own

  -- ---- parts of rows
  pub along_cond : (b : Bool) (x y : Row) → (b ≡ true → Along x) → (b ≡ false → Along y) → Along (cond b x y)
  along_cond true x y f g = f refl
  along_cond false x y f g = g refl

  pub along_need_if : (b : Bool) (c : Check) (r : Row) → CheckHolds c → ((b ≡ true → Known c) → Along r) → Along (need_if b c r)
  unfolding need_if
  along_need_if true c r h rest = (h, λ known. rest (λ _. known))
  along_need_if false c r h rest = rest (λ e. cc)

  along_missing : (o : Option Oid) (k : Oid → Row) → ((id : Oid) → o ≡ Some id → Along (k id)) → Along (or_missing o k)
  along_missing None k h = refl
  along_missing (Some id) k h = h id refl

  along_open : (o : Option Opened) (k : Opened → Row) → ((f : Opened) → o ≡ Some f → Along (k f)) → Along (or_not_open o k)
  along_open None k h = refl
  along_open (Some f) k h = h f refl

  module _ (s : State) (p : Process) where
    -- what was found is asked for
    along_object : (names : List Name) (k : Oid → Row) → ((id : Oid) → WalksTo s p id → Along (k id)) → (found : Found) → IsFound Not s p names found
        → Along (to_object found k)
    along_object names k h (Start id) f = h id f
    along_object names k h (Entry dir name object) f = along_missing object k (λ id e. h id (ToEntry (dir, name) id (f.at ∙ e)))

    pub along_new_name : (names : List Name) (k : Oid → Name → Row) → ((dir : Oid) (name : Name) → IsEntry Not s p names dir name None → Along (k dir name))
        → (found : Found) → IsFound Not s p names found → Along (to_new_name found k)
    along_new_name names k h (Start id) f = refl
    along_new_name names k h (Entry dir name None) f = h dir name f
    along_new_name names k h (Entry dir name (Some id)) f = refl

    pub along_entry : (names : List Name) (k : Oid → Name → Option Oid → Row)
        → ((dir : Oid) (name : Name) (object : Option Oid) → IsEntry Not s p names dir name object → Along (k dir name object))
        → (found : Found) → IsFound Not s p names found → Along (to_entry found k)
    along_entry names k h (Start id) f = refl
    along_entry names k h (Entry dir name object) f = h dir name object f

    pub along_entry_of_object : (names : List Name) (k : Oid → Name → Oid → Row)
        → ((dir : Oid) (name : Name) (id : Oid) → IsEntry Not s p names dir name (Some id) → Along (k dir name id))
        → (found : Found) → IsFound Not s p names found → Along (to_entry_of_object found k)
    along_entry_of_object names k h (Start id) f = refl
    along_entry_of_object names k h (Entry dir name None) f = refl
    along_entry_of_object names k h (Entry dir name (Some id)) f = h dir name id f

    -- a row after a descriptor
    pub along_descriptor : (fd : ℕ) (k : Opened → Row) → ((f : Opened) → IsOpen s p fd f → Along (k f)) → Along (on_descriptor s p fd k)
    along_descriptor fd k h = along_open (open_description s p fd) k (λ f e. h f (is_open s p fd f e))

    pub along_open_object : (fd : ℕ) (k : Oid → Place → Row) → ((id : Oid) (place : Place) → Reaches s p id → Along (k id place))
        → Along (on_open_object s p fd k)
    along_open_object fd k h = along_descriptor fd _ (λ f open_is. h f.description.object Handle (ByDescriptor fd f open_is))

    -- a row after a walk, where a check of a directory that was reached has the property
    module _ (checks : (name : CheckName) (holds : Bool) (id : Oid) (place : Place) → Reaches s p id → CheckHolds (on_object s name holds None id place)) where
      along_enter : (dir : Oid) (place : Place) (rest : Row) → WalksTo s p dir
          → (Known (mac_read s p dir place) → Not (not (is_dir (object_at s dir).kind)) → Along rest) → Along (enter s p dir place rest)
      along_enter dir place rest walked h =
          (checks _ _ dir place (ByWalk dir walked), λ read. (refl, λ dir_kind. (checks _ _ dir place (ByWalk dir walked), λ _. h read dir_kind)))

      along_walk_from : (place : ℕ → Place) (at : ℕ) (dir : Oid) (names : List Name) (k : Found → Row) → WalksTo s p dir
          → ((found : Found) → IsFound Not s p names found → Along (k found)) → Along (walk_from s p place at dir names k)
      along_walk_from place at dir [] k walked h = h (Start dir) walked
      along_walk_from place at dir (name ∷ []) k walked h =
          along_enter dir (place at) _ walked
          (λ _ dir_kind.
          h (Entry dir name (look s dir name))
          (record { walked = walked; dir_kind = dir_kind; at = refl; named = λ named. (and_parts (is_name name) true named).0 }))
      along_walk_from place at dir (name ∷ next ∷ names) k walked h =
          along_enter dir (place at) _ walked
          (λ _ _.
          along_missing (look s dir name) _
          (λ id e. along_walk_from place (at + 1) id (next ∷ names) k (ToEntry (dir, name) id e)
          (λ found f. h found (found_after Not s p name (next ∷ names) found f))))

      start_walked : (path : PathValue) → WalksTo s p (start_of p path)
      start_walked path = elim path.absolute as (λ b. WalksTo s p (cond b root p.cwd)) [ true ↦ ToRoot | false ↦ ToCurrent ]

      pub along_walk : (place : ℕ → Place) (path : PathValue) (k : Found → Row) → ((found : Found) → IsFound Not s p path.names found → Along (k found))
          → Along (walk s p place path k)
      along_walk place path k h = along_walk_from place 0 (start_of p path) path.names k (start_walked path) h

      pub along_reach : (place : ℕ → Place) (path : PathValue) (k : Oid → Row) → ((id : Oid) → WalksTo s p id → Along (k id)) → Along (reach s p place path k)
      along_reach place path k h = along_walk place path _ (along_object path.names k h)

      pub along_path : (path : PathValue) (k : Oid → Place → Row) → ((id : Oid) (place : Place) → WalksTo s p id → Along (k id place))
          → Along (on_path s p path k)
      along_path path k h = along_reach (λ n. First n) path _ (λ id walked. h id (last_place (λ n. First n) path) walked)

-- ---- what follows
-- unless an exercise is excluded, the end of a row has a property that each stop, each refusal that is no denial, and each commit of the row has
module _ (excluded : Rec → Bool) (a : Subject) (CheckHolds : Check → Type 0) (CommitHolds : List Change → Option Rec → Type 0) (P : End → Type 0)
    (stopped : (name : CheckName) (place : Place) → P (Stopped name place)) (refused : (e : Errno) → is_denial e ≡ false → P (Refused e))
    (done : (cs : List Change) (answer : Answer) (own : Option Rec) → CommitHolds cs own → P (Done cs answer own)) where
  pub along_end : (used : List Rec) (r : Row) → Along (Passes excluded a) (λ b. b ≡ false) CheckHolds CommitHolds r → list_any excluded (judge a used r).used ≡ false
      → P (judge a used r).end
  unfolding judge
  along_end used (Need c r) h =
      cond_satisfies (λ j. list_any excluded j.used ≡ false → P j.end) (is_denied (verdict_of a c)) _ _ (λ _ _. stopped c.name c.place)
      (λ granted inside. along_end (exercises_after a c (verdict_of a c) used) r (h.1 (check_passes excluded a c used r granted inside)) inside)
  along_end used (Soft c r w) h =
      cond_satisfies (λ j. list_any excluded j.used ≡ false → P j.end) (is_denied (verdict_of a c)) _ _ (λ _. along_end used w h.1.1)
      (λ granted inside. along_end (exercises_after a c (verdict_of a c) used) r (h.1.0 (check_passes excluded a c used r granted inside)) inside)
  along_end used (Refuse e b r) h = cond_satisfies (λ j. list_any excluded j.used ≡ false → P j.end) b _ _ (λ _ _. refused e h.0) (λ not. along_end used r (h.1 not))
  along_end used (Fail e) h = λ _. refused e h
  along_end used (Commit cs answer own) h = λ _. done cs answer own h

-- the changes that are made have a property that those at each end have
pub along_changes : (excluded : Rec → Bool) (a : Subject) (CheckHolds : Check → Type 0) (CommitHolds : List Change → Option Rec → Type 0) (P : List Change → Type 0) → P []
    → ((cs : List Change) (own : Option Rec) → CommitHolds cs own → P cs)
    → (r : Row) → Along (Passes excluded a) (λ b. b ≡ false) CheckHolds CommitHolds r → ChangesSatisfy excluded a P r
along_changes excluded a CheckHolds CommitHolds P none each r h =
    record { ends = λ used inside. along_end excluded a CheckHolds CommitHolds (λ e. P (changes_of e)) (λ _ _. none) (λ _ _. none) (λ cs answer own k. each cs own k) used r h inside }

-- nothing is known
abbrev pub NothingKnown : {X : Type 0} → X → Type 0
NothingKnown x = ⊤

-- where nothing is known after a check: each end of the row has a weaker property
pub along_each_commit : (CheckHolds : Check → Type 0) (CommitHolds Q : List Change → Option Rec → Type 0) → ((cs : List Change) (own : Option Rec) → CommitHolds cs own → Q cs own) → (r : Row)
    → Along NothingKnown NothingKnown CheckHolds CommitHolds r → EachCommit Q r
along_each_commit CheckHolds CommitHolds Q weaker (Need c r) h = along_each_commit CheckHolds CommitHolds Q weaker r (h.1 tt)
along_each_commit CheckHolds CommitHolds Q weaker (Soft c r w) h = (along_each_commit CheckHolds CommitHolds Q weaker r (h.1.0 tt), along_each_commit CheckHolds CommitHolds Q weaker w h.1.1)
along_each_commit CheckHolds CommitHolds Q weaker (Refuse e b r) h = (h.0, along_each_commit CheckHolds CommitHolds Q weaker r (h.1 tt))
along_each_commit CheckHolds CommitHolds Q weaker (Fail e) h = h
along_each_commit CheckHolds CommitHolds Q weaker (Commit cs answer own) h = weaker cs own h

-- and the labels of its checks and of its own record are below
pub along_below : (top : Label) (CheckHolds : Check → Type 0) (CommitHolds : List Change → Option Rec → Type 0) → ((c : Check) → CheckHolds c → CheckBelow top c)
    → ((cs : List Change) (own : Option Rec) → CommitHolds cs own → OwnBelow top own)
    → (r : Row) → Along NothingKnown NothingKnown CheckHolds CommitHolds r → RowBelow top r
along_below top CheckHolds CommitHolds checks owns (Need c r) h = (checks c h.0, along_below top CheckHolds CommitHolds checks owns r (h.1 tt))
along_below top CheckHolds CommitHolds checks owns (Soft c r w) h = (checks c h.0, (along_below top CheckHolds CommitHolds checks owns r (h.1.0 tt), along_below top CheckHolds CommitHolds checks owns w h.1.1))
along_below top CheckHolds CommitHolds checks owns (Refuse e b r) h = along_below top CheckHolds CommitHolds checks owns r (h.1 tt)
along_below top CheckHolds CommitHolds checks owns (Fail e) h = tt
along_below top CheckHolds CommitHolds checks owns (Commit cs answer own) h = owns cs own h
