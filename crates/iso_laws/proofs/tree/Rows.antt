-- The calls on entries: of which kinds the checks and the effects of their rows are.
use Rattle.std.specs.Prelude.{◌≡◌, ℕ, ◌&&◌, not, Bool, true, false, List, [], Option, Some, None, refl}
use Rattle.std.proofs.Common.{sym, ◌∙◌, subst}
use Rattle.fs_path.specs.Name.{Name}
use Rattle.fs_path.specs.Path.{PathValue}
use Rattle.kern_model.specs.declared.checks.Check.{Check}
use Rattle.kern_model.specs.declared.checks.CheckName.{CheckName}
use Rattle.kern_model.specs.declared.checks.Place.{Place}
use Rattle.kern_model.specs.declared.checks.Place.TheVariants.{First, Second}
use Rattle.kern_model.specs.declared.numbers.Oid.{Oid}
use Rattle.kern_model.specs.declared.numbers.Pid.{Pid}
use Rattle.kern_model.specs.declared.objects.Body.{Body}
use Rattle.kern_model.specs.declared.objects.Body.TheVariants as body
use Rattle.kern_model.specs.declared.objects.Kind.TheVariants as kind
use Rattle.kern_model.specs.declared.records.Rec.{Rec}
use Rattle.kern_model.specs.Arguments.{are_names}
use Rattle.kern_model.specs.Create.{attr_of}
use Rattle.kern_model.specs.Entries.{is_empty, is_removed}
use Rattle.kern_model.specs.Keys.{Spot, same_oid}
use Rattle.kern_model.specs.Kinds.{is_dir, kind_of, bytes_of, object_with, masked_permissions}
use Rattle.kern_model.specs.Row.{Row}
use Rattle.kern_model.specs.Rules.{on_object, mac_write, created_order, held_order}
use Rattle.kern_model.specs.State.{State, Process, Change, object_at}
use Rattle.kern_model.specs.TreeRows.{new_spot, make_object, make_row, mkfifo_row, mkdir_row, old_entry, remove_dir, rmdir_row, remove_name, unlink_row, add_entry, link_row, give_way, move_to, rename_row, readdir_row, stat_row, chdir_row}
use Rattle.kern_model.specs.Walk.{reach, dir_place}
use Rattle.kern_model.proofs.MapLemmas.{some_same}
use Rattle.iso_laws.proofs.Along.{WalksTo, ToEntry, ByWalk, IsEntry, along_cond, along_new_name, along_entry, along_entry_of_object, along_walk, along_reach}
use Rattle.iso_laws.proofs.Effects.{Premise, OfKinds, of_reached, HasNames, CheckKind, RemovesEntry, Effect, NoChange, ChangeDir, RemoveEmpty, RemoveFile, Link, Move, Create}
use Rattle.iso_laws.proofs.Effects.{masked_is_mode}

module _ (Known : Check → Type 0) (Not : Bool → Type 0) (Given : Premise → Type 0) (s : State) (who : Pid) (p : Process) where
  -- the kinds of checks, and those of effects
  abbrev KindOfCheck : Check → Type 0
  KindOfCheck = CheckKind Given s who p

  abbrev KindOfEffect : List Change → Option Rec → Type 0
  KindOfEffect = Effect Known Not Given s who p

  -- a check of an object that a walk led to
  walked_check : (name : CheckName) (holds : Bool) (id : Oid) (place : Place) → WalksTo s p id → KindOfCheck (on_object s name holds None id place)
  walked_check name holds id place walked = of_reached name holds id place (ByWalk id walked)

  -- ---- parts of rows
  -- the row goes on from what a path leads to
  on_reached : (path : PathValue) (k : Oid → Row) → ((id : Oid) → WalksTo s p id → OfKinds Known Not Given s who p (k id))
      → OfKinds Known Not Given s who p (reach s p (λ n. First n) path k)
  on_reached = along_reach Known Not KindOfCheck KindOfEffect s p of_reached (λ n. First n)

  -- the row goes on from the spot of a new entry
  on_new_spot : (place : ℕ → Place) (path : PathValue) (order : Oid → Place → Check) → ((dir : Oid) (at : Place) → WalksTo s p dir → KindOfCheck (order dir at))
      → (k : Spot → Row)
      → ((dir : Oid) (name : Name) → IsEntry Not s p path.names dir name None → Known (mac_write s p dir (dir_place place path))
      → Known (order dir (dir_place place path)) → Not (is_removed s dir) → OfKinds Known Not Given s who p (k (dir, name)))
      → OfKinds Known Not Given s who p (new_spot s p place path order k)
  on_new_spot place path order orders k h =
      along_walk Known Not KindOfCheck KindOfEffect s p of_reached place path _ (along_new_name Known Not KindOfCheck KindOfEffect s p path.names _ (λ dir name entry. (
        walked_check _ _ dir _ entry.walked,
        λ written. (walked_check _ _ dir _ entry.walked, λ _. (orders dir _ entry.walked, λ order. (refl, λ not_removed. h dir name entry written order not_removed))),
      )))

  -- the row goes on from an entry that may be taken away
  on_old_entry : (path : PathValue) (k : Oid × Name × Oid → Row)
      → ((dir : Oid) (name : Name) (id : Oid) → WalksTo s p id → RemovesEntry Known Not Given s who p dir name id (dir_place (λ n. First n) path)
      → OfKinds Known Not Given s who p (k (dir, name, id)))
      → OfKinds Known Not Given s who p (old_entry s p path k)
  on_old_entry path k h =
      along_walk Known Not KindOfCheck KindOfEffect s p of_reached (λ n. First n) path _ (along_entry_of_object Known Not KindOfCheck KindOfEffect s p path.names _ (λ dir name id entry.
      let walked : WalksTo s p id = ToEntry (dir, name) id entry.at in (
        walked_check _ _ dir _ entry.walked,
        λ written. (
          walked_check _ _ dir _ entry.walked,
          λ _. (walked_check _ _ id _ walked, λ _. h dir name id walked (record { walked = entry.walked; dir_kind = entry.dir_kind; at = entry.at; written = written })),
        ),
      )))

  -- the row goes on where what is at the target gives way
  give_way_kinds : (id : Oid) (object : Option Oid) (place : Place) (rest : Row) → ((t : Oid) → object ≡ Some t → WalksTo s p t)
      → (((t : Oid) → object ≡ Some t → (same_oid t id ≡ false) × Not (is_dir (object_at s t).kind && not (is_empty s t)))
      → OfKinds Known Not Given s who p rest)
      → OfKinds Known Not Given s who p (give_way s p id object place rest)
  give_way_kinds id None place rest walked h = h (λ t none. cc)
  give_way_kinds id (Some t) place rest walked h = (
    walked_check _ _ t place (walked t refl),
    λ _.
        along_cond Known Not KindOfCheck KindOfEffect (same_oid t id) _ _ (λ _. NoChange)
        (λ other. (
          refl,
          λ _. (
            refl,
            λ _. (
              refl,
              λ full. h (λ x e.
                  subst (λ (y : Oid). (same_oid y id ≡ false) × Not (is_dir (object_at s y).kind && not (is_empty s y))) (some_same t x e) (other, full)),
            ),
          ),
        )),
  )

  -- ---- making
  make_kinds : (path : PathValue) (mode : ℕ) (b : Body) → bytes_of b ≡ [] → (kind_of b ≡ kind.Pipe → ⊥) → (Given HasNames → are_names path ≡ true)
      → OfKinds Known Not Given s who p (make_row s who p path mode b)
  make_kinds path mode b no_bytes no_pipe args =
      on_new_spot (λ n. First n) path (created_order s p) (λ dir. walked_check _ _ dir) (make_object s p mode b) (λ dir name entry written order not_removed. (
        refl,
        λ left.
            Create dir name (object_with p.label (attr_of p (masked_permissions mode p.umask)) b) _ (record {
              walked = entry.walked;
              dir_kind = entry.dir_kind;
              free = entry.at;
              written = written;
              order = order;
              not_removed = not_removed;
              left = left;
              fresh = record { label = refl; mode = masked_is_mode mode p.umask; caps = refl; bytes = no_bytes; no_pipe = no_pipe };
              named = λ given. entry.named (args given);
            }),
      ))

  pub mkfifo_kinds : (path : PathValue) (mode : ℕ) → (Given HasNames → are_names path ≡ true) → OfKinds Known Not Given s who p (mkfifo_row s who p path mode)
  mkfifo_kinds path mode args = make_kinds path mode body.Fifo refl (λ e. let no : kind.Fifo ≡ kind.Pipe = e in cc) args

  pub mkdir_kinds : (path : PathValue) (mode : ℕ) → (Given HasNames → are_names path ≡ true) → OfKinds Known Not Given s who p (mkdir_row s who p path mode)
  mkdir_kinds path mode args = make_kinds path mode body.Dir refl (λ e. let no : kind.Dir ≡ kind.Pipe = e in cc) args

  -- ---- removing, linking and moving
  pub rmdir_kinds : (path : PathValue) → OfKinds Known Not Given s who p (rmdir_row s who p path)
  rmdir_kinds path = on_old_entry path (remove_dir s) (λ dir name id walked leaving. (refl, λ _. (refl, λ empty. RemoveEmpty dir name id _ leaving empty)))

  pub unlink_kinds : (path : PathValue) → OfKinds Known Not Given s who p (unlink_row s who p path)
  unlink_kinds path =
      on_old_entry path (remove_name s path) (λ dir name id walked leaving. (walked_check _ _ id _ walked, λ no_dir. RemoveFile dir name id _ _ leaving no_dir))

  pub link_kinds : (path to : PathValue) → (Given HasNames → are_names to ≡ true) → OfKinds Known Not Given s who p (link_row s who p path to)
  link_kinds path to args = on_reached path _ (λ id walked. (
    walked_check _ _ id _ walked,
    λ _. (
      walked_check _ _ id _ walked,
      λ no_dir. (
        refl,
        λ few. on_new_spot (λ n. Second n) to (held_order s id) (λ dir. walked_check _ _ dir) (add_entry id) (λ dir name entry written order not_removed.
            Link dir name id _ _ walked
            (record { walked = entry.walked; dir_kind = entry.dir_kind; written = written; order = order; not_removed = not_removed }) entry.at no_dir few
            (λ given. entry.named (args given))),
      ),
    ),
  ))

  pub rename_kinds : (path to : PathValue) → (Given HasNames → are_names to ≡ true) → OfKinds Known Not Given s who p (rename_row s who p path to)
  rename_kinds path to args = on_old_entry path (move_to s p to) (λ dir name id _ leaving.
      along_walk Known Not KindOfCheck KindOfEffect s p of_reached (λ n. Second n) to _ (along_entry Known Not KindOfCheck KindOfEffect s p to.names _ (λ into new object entry. (
        walked_check _ _ into _ entry.walked,
        λ written. (
          walked_check _ _ into _ entry.walked,
          λ _. (
            walked_check _ _ into _ entry.walked,
            λ order. give_way_kinds id object _ _ (λ t e. ToEntry (into, new) t (entry.at ∙ e)) (λ other. (
              refl,
              λ outside. (
                refl,
                λ not_removed.
                    Move dir name id into new _ _ leaving
                    (record { walked = entry.walked; dir_kind = entry.dir_kind; written = written; order = order; not_removed = not_removed }) outside
                    (λ t e. other t (sym entry.at ∙ e)) (λ given. entry.named (args given)),
              ),
            )),
          ),
        ),
      ))))

  -- ---- reading
  pub readdir_kinds : (path : PathValue) → OfKinds Known Not Given s who p (readdir_row s who p path)
  readdir_kinds path = on_reached path _ (λ id walked. (walked_check _ _ id _ walked, λ _. (refl, λ _. (walked_check _ _ id _ walked, λ _. NoChange))))

  pub stat_kinds : (path : PathValue) → OfKinds Known Not Given s who p (stat_row s who p path)
  stat_kinds path = on_reached path _ (λ id walked. (walked_check _ _ id _ walked, λ _. NoChange))

  pub chdir_kinds : (path : PathValue) → OfKinds Known Not Given s who p (chdir_row s who p path)
  chdir_kinds path = on_reached path _ (λ id walked. (walked_check _ _ id _ walked, λ read. (refl, λ dir_kind. (walked_check _ _ id _ walked, λ _. ChangeDir id _ walked read dir_kind))))
