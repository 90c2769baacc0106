-- The calls on attributes: of which kinds the checks and the effects of their rows are.
use Rattle.std.specs.Prelude.{◌≡◌, ℕ, Bool, true, false, List, Option, Some, refl, cond}
use Rattle.cap_bits.specs.declared.state.CapState.{CapState}
use Rattle.fs_path.specs.Path.{PathValue}
use Rattle.lab_lattice.specs.Label.{Label, dominates}
use Rattle.kern_model.specs.declared.checks.Check.{Check}
use Rattle.kern_model.specs.declared.checks.CheckName.{CheckName}
use Rattle.kern_model.specs.declared.checks.Place.{Place}
use Rattle.kern_model.specs.declared.numbers.Oid.{Oid}
use Rattle.kern_model.specs.declared.numbers.Pid.{Pid}
use Rattle.kern_model.specs.declared.objects.Attr.{Attr}
use Rattle.kern_model.specs.declared.records.Rec.{Rec}
use Rattle.kern_model.specs.AttrRows.{on_open_object, write_object_then, change_mode, change_owner, chmod_row, chown_row, cap_get_file_row, cap_set_file_row, cap_get_fd_row, cap_set_fd_row, mac_get_file_row, mac_set_file_row, mac_get_fd_row, mac_set_fd_row, get_caps, set_caps, get_label, set_label}
use Rattle.kern_model.specs.Kinds.{is_mode, permissions}
use Rattle.kern_model.specs.Row.{Row}
use Rattle.kern_model.specs.Rules.{on_object, same_label, mac_upgrade, mac_downgrade}
use Rattle.kern_model.specs.State.{State, Process, Change, object_at}
use Rattle.kern_model.specs.Walk.{on_path}
use Rattle.iso_laws.proofs.Along.{Reaches, ByWalk, along_cond, along_path, along_open_object}
use Rattle.iso_laws.proofs.Effects.{Premise, OfKinds, of_reached, of_caller, InRange, CheckKind, OfObject, Effect, NoChange, SetAttr, SetFileCaps, KeepLabel, Relabel}
use Rattle.iso_laws.proofs.Effects.{permissions_are_mode}

module _ (Known : Check → Type 0) (Not : Bool → Type 0) (Given : Premise → Type 0) (s : State) (who : Pid) (p : Process) where
  -- the kinds of checks, and those of effects
  abbrev KindOfCheck : Check → Type 0
  KindOfCheck = CheckKind Given s who p

  abbrev KindOfEffect : List Change → Option Rec → Type 0
  KindOfEffect = Effect Known Not Given s who p

  -- a check of an object that gets a label
  gets : (name : CheckName) (holds : Bool) (new : Label) (id : Oid) (place : Place) → Reaches s p id → (Given InRange → dominates s.top new ≡ true)
      → KindOfCheck (on_object s name holds (Some new) id place)
  gets name holds new id place reached below = OfObject name holds (Some new) id place reached (λ l same given. cc (below given))

  -- the row goes on from what a path leads to, or from the object of a descriptor
  on_reached : (path : PathValue) (k : Oid → Place → Row) → ((id : Oid) (place : Place) → Reaches s p id → OfKinds Known Not Given s who p (k id place))
      → OfKinds Known Not Given s who p (on_path s p path k)
  on_reached path k h = along_path Known Not KindOfCheck KindOfEffect s p of_reached path k (λ id place walked. h id place (ByWalk id walked))

  on_open : (fd : ℕ) (k : Oid → Place → Row) → ((id : Oid) (place : Place) → Reaches s p id → OfKinds Known Not Given s who p (k id place))
      → OfKinds Known Not Given s who p (on_open_object s p fd k)
  on_open = along_open_object Known Not KindOfCheck KindOfEffect s p

  -- ---- modes and owners
  pub chmod_kinds : (path : PathValue) (mode : ℕ) → (Given InRange → is_mode mode ≡ true) → OfKinds Known Not Given s who p (chmod_row s who p path mode)
  chmod_kinds path mode args = on_reached path (write_object_then s p (change_mode p mode)) (λ id place reached.
      let old : Attr = (object_at s id).attr in (
        of_reached _ _ id place reached,
        λ may. (
          of_reached _ _ id place reached,
          λ _. (
            of_reached _ _ id place reached,
            (
              (λ _. SetAttr id (record old { mode = mode }) place reached may (λ _. args) refl),
              SetAttr id (record old { mode = permissions mode }) place reached may (λ _ _. permissions_are_mode mode) refl,
            ),
          ),
        ),
      ))

  pub chown_kinds : (path : PathValue) (user group : ℕ) → OfKinds Known Not Given s who p (chown_row s who p path user group)
  chown_kinds path user group = on_reached path (write_object_then s p (change_owner p user group)) (λ id place reached.
      let old : Attr = (object_at s id).attr in (
        of_reached _ _ id place reached,
        λ may. (
          of_reached _ _ id place reached,
          λ _. (
            of_reached _ _ id place reached,
            (
              (λ _. SetAttr id (record old { owner = user; group = group; mode = old.mode }) place reached may (λ is _. is) refl),
              SetAttr id (record old { owner = user; group = group; mode = permissions old.mode }) place reached may
                  (λ _ _. permissions_are_mode old.mode) refl,
            ),
          ),
        ),
      ))

  -- ---- capability sets of files
  get_caps_kinds : (id : Oid) (place : Place) → Reaches s p id → OfKinds Known Not Given s who p (get_caps s p id place)
  get_caps_kinds id place reached = (of_reached _ _ id place reached, λ _. (refl, λ _. NoChange))

  set_caps_kinds : (caps : CapState) (id : Oid) (place : Place) → Reaches s p id → OfKinds Known Not Given s who p (set_caps s who p caps id place)
  set_caps_kinds caps id place reached = (
    of_reached _ _ id place reached,
    λ may. (
      refl,
      λ file. (
        of_reached _ _ id place reached,
        λ _. (of_reached _ _ id place reached, λ _. (of_caller _ _, λ _. SetFileCaps id caps place reached may file)),
      ),
    ),
  )

  pub cap_get_file_kinds : (path : PathValue) → OfKinds Known Not Given s who p (cap_get_file_row s who p path)
  cap_get_file_kinds path = on_reached path (get_caps s p) get_caps_kinds

  pub cap_get_fd_kinds : (fd : ℕ) → OfKinds Known Not Given s who p (cap_get_fd_row s who p fd)
  cap_get_fd_kinds fd = on_open fd (get_caps s p) get_caps_kinds

  pub cap_set_file_kinds : (path : PathValue) (caps : CapState) → OfKinds Known Not Given s who p (cap_set_file_row s who p path caps)
  cap_set_file_kinds path caps = on_reached path (set_caps s who p caps) (set_caps_kinds caps)

  pub cap_set_fd_kinds : (fd : ℕ) (caps : CapState) → OfKinds Known Not Given s who p (cap_set_fd_row s who p fd caps)
  cap_set_fd_kinds fd caps = on_open fd (set_caps s who p caps) (set_caps_kinds caps)

  -- ---- labels of objects
  get_label_kinds : (id : Oid) (place : Place) → Reaches s p id → OfKinds Known Not Given s who p (get_label s p id place)
  get_label_kinds id place reached = (of_reached _ _ id place reached, λ _. NoChange)

  set_label_kinds : (new : Label) → (Given InRange → dominates s.top new ≡ true) → (id : Oid) (place : Place) → Reaches s p id
      → OfKinds Known Not Given s who p (set_label s who p new id place)
  set_label_kinds new below id place reached = (
    of_reached _ _ id place reached,
    λ may. (
      of_reached _ _ id place reached,
      λ _.
          along_cond Known Not KindOfCheck KindOfEffect (same_label new (object_at s id).label) _ _
          (λ equal. KeepLabel id new place reached may equal below)
          (λ _. (
            elim (dominates new (object_at s id).label) as (λ b. KindOfCheck (cond b (mac_upgrade s id new place) (mac_downgrade s id new place))) [
              | true ↦ gets _ _ new id place reached below
              | false ↦ gets _ _ new id place reached below
            ],
            λ allowed. (
              of_reached _ _ id place reached,
              λ order. (refl, λ no_entries. Relabel id new place reached may (record { allowed = allowed; order = order; no_entries = no_entries }) below),
            ),
          )),
    ),
  )

  pub mac_get_file_kinds : (path : PathValue) → OfKinds Known Not Given s who p (mac_get_file_row s who p path)
  mac_get_file_kinds path = on_reached path (get_label s p) get_label_kinds

  pub mac_get_fd_kinds : (fd : ℕ) → OfKinds Known Not Given s who p (mac_get_fd_row s who p fd)
  mac_get_fd_kinds fd = on_open fd (get_label s p) get_label_kinds

  pub mac_set_file_kinds : (path : PathValue) (new : Label) → (Given InRange → dominates s.top new ≡ true)
      → OfKinds Known Not Given s who p (mac_set_file_row s who p path new)
  mac_set_file_kinds path new below = on_reached path (set_label s who p new) (set_label_kinds new below)

  pub mac_set_fd_kinds : (fd : ℕ) (new : Label) → (Given InRange → dominates s.top new ≡ true) → OfKinds Known Not Given s who p (mac_set_fd_row s who p fd new)
  mac_set_fd_kinds fd new below = on_open fd (set_label s who p new) (set_label_kinds new below)
