-- The calls on files: of which kinds the checks and the effects of their rows are.
use Rattle.std.specs.Prelude.{◌≡◌, ℕ, ◌==◌, ◌&&◌, not, Bool, true, false, List, [], length, Option, Some, None, refl, cond, unwrap_or, ℤ}
use Rattle.fs_path.specs.Name.{Name}
use Rattle.fs_path.specs.Path.{PathValue}
use Rattle.kern_model.specs.declared.calls.OpenFlags.{OpenFlags}
use Rattle.kern_model.specs.declared.calls.Whence.{Whence}
use Rattle.kern_model.specs.declared.checks.Check.{Check}
use Rattle.kern_model.specs.declared.checks.CheckName.{CheckName}
use Rattle.kern_model.specs.declared.checks.Place.{Place}
use Rattle.kern_model.specs.declared.checks.Place.TheVariants.{First, Handle}
use Rattle.kern_model.specs.declared.numbers.Oid.{Oid}
use Rattle.kern_model.specs.declared.numbers.Pid.{Pid}
use Rattle.kern_model.specs.declared.objects.Attr.{Attr}
use Rattle.kern_model.specs.declared.objects.Body.TheVariants as body
use Rattle.kern_model.specs.declared.objects.Kind.TheVariants as kind
use Rattle.kern_model.specs.declared.objects.Object.{Object}
use Rattle.kern_model.specs.Arguments.{are_flags, are_names}
use Rattle.kern_model.specs.Create.{attr_of, has_object_number}
use Rattle.kern_model.specs.Descriptors.{Opened}
use Rattle.kern_model.specs.Entries.{is_removed}
use Rattle.kern_model.specs.FileRows.{close_row, read_row, write_row, lseek_row, dup_row, pipe_row, fstat_row, on_descriptor, open_object, put_in_file, unprivileged}
use Rattle.kern_model.specs.OpenRows.{open_row, open_found, open_present, open_absent, open_emptying}
use Rattle.kern_model.specs.Kinds.{is_file, is_stream, object_with, masked_permissions}
use Rattle.kern_model.specs.Row.{Row, need_if}
use Rattle.kern_model.specs.Rules.{on_object, mac_write, created_order}
use Rattle.kern_model.specs.State.{State, Process, object_at}
use Rattle.kern_model.specs.Walk.{Found, Start, Entry, last_place, dir_place}
use Rattle.iso_laws.proofs.Along.{WalksTo, ToEntry, Reaches, ByWalk, ByDescriptor, IsEntry, IsFound, along_cond, along_need_if, along_descriptor, along_walk}
use Rattle.iso_laws.proofs.Effects.{Premise, OfKinds, of_reached, HasNames, HasFlags, CheckKind, Effect, Creates, Room, Opens, NoChange, Duplicate, Seek, Close, ReadStream, WriteStream, WriteFile, Open, OpenEmptied, OpenMade, MakePipe}
use Rattle.iso_laws.proofs.PartReads.{IsOpen}
use Rattle.iso_laws.proofs.Effects.{masked_is_mode, permissions_are_mode}

module _ (Known : Check → Type 0) (Not : Bool → Type 0) (Given : Premise → Type 0) (s : State) (who : Pid) (p : Process) where
  -- the row goes on by a test
  either : (b : Bool) (x y : Row) → (b ≡ true → OfKinds Known Not Given s who p x) → (b ≡ false → OfKinds Known Not Given s who p y)
      → OfKinds Known Not Given s who p (cond b x y)
  either = along_cond Known Not (CheckKind Given s who p) (Effect Known Not Given s who p)

  -- a check that is made where it is asked for
  where_asked : (b : Bool) (c : Check) (r : Row) → CheckKind Given s who p c → ((b ≡ true → Known c) → OfKinds Known Not Given s who p r)
      → OfKinds Known Not Given s who p (need_if b c r)
  where_asked = along_need_if Known Not (CheckKind Given s who p) (Effect Known Not Given s who p)

  -- the row goes on from what a descriptor refers to
  on_open : (fd : ℕ) (k : Opened → Row) → ((f : Opened) → IsOpen s p fd f → OfKinds Known Not Given s who p (k f))
      → OfKinds Known Not Given s who p (on_descriptor s p fd k)
  on_open = along_descriptor Known Not (CheckKind Given s who p) (Effect Known Not Given s who p) s p

  -- a check of what a descriptor refers to
  at_handle : (name : CheckName) (holds : Bool) (fd : ℕ) (f : Opened) → IsOpen s p fd f
      → CheckKind Given s who p (on_object s name holds None f.description.object Handle)
  at_handle name holds fd f open_is = of_reached name holds f.description.object Handle (ByDescriptor fd f open_is)

  -- ---- open
  emptying_kinds : (flags : OpenFlags) (id : Oid) (place : Place) → Opens Known Not Given s who p id flags place
      → OfKinds Known Not Given s who p (open_emptying s who p flags id place)
  emptying_kinds flags id place may =
      let old : Attr = (object_at s id).attr in
      either (flags.t && is_file (object_at s id).kind) _ _
      (λ empties. (
        of_reached _ _ id place (ByWalk id may.walked),
        (
          (λ _. OpenEmptied id flags place old may empties (λ mode. mode)),
          OpenEmptied id flags place (unprivileged old) may empties (λ _. permissions_are_mode old.mode),
        ),
      ))
      (λ _. Open id flags place may)

  -- the file that is made where nothing has the name
  abbrev new_file : ℕ → Object
  new_file mode = object_with p.label (attr_of p (masked_permissions mode p.umask)) (body.File [])

  -- what the row says of it
  making : (path : PathValue) → (Given HasNames → are_names path ≡ true) → (mode : ℕ) (dir : Oid) (name : Name) (place : Place)
      → IsEntry Not s p path.names dir name None
      → Known (mac_write s p dir place) → Known (created_order s p dir place) → Not (is_removed s dir) → Not (not (has_object_number s p.label))
      → Creates Known Not Given s who p dir name (new_file mode) place
  making path names mode dir name place e written order not_removed left = record {
    walked = e.walked;
    dir_kind = e.dir_kind;
    free = e.at;
    written = written;
    order = order;
    not_removed = not_removed;
    left = left;
    fresh =
        record { label = refl; mode = masked_is_mode mode p.umask; caps = refl; bytes = refl; no_pipe = λ pipe. let no : kind.File ≡ kind.Pipe = pipe in cc };
    named = λ h. e.named (names h);
  }

  module _ (flags : OpenFlags) (flags_are : Given HasFlags → are_flags flags ≡ true) (room : Room Known Not Given s who p) where
    present_kinds : (id : Oid) (place : Place) → WalksTo s p id → OfKinds Known Not Given s who p (open_present s who p flags id place)
    present_kinds id place walked =
        let reached : Reaches s p id = ByWalk id walked in (
          refl,
          λ _.
              where_asked _ _ _ (of_reached _ _ id place reached) (λ read. where_asked _ _ _ (of_reached _ _ id place reached) (λ written. (
                refl,
                λ no_dir. (
                  refl,
                  λ _.
                      where_asked _ _ _ (of_reached _ _ id place reached) (λ fifo.
                      where_asked _ _ _ (of_reached _ _ id place reached) (λ _. where_asked _ _ _ (of_reached _ _ id place reached) (λ _.
                      emptying_kinds flags id place
                      (record { walked = walked; no_dir = no_dir; flags_are = flags_are; read = read; written = written; fifo = fifo; room = room })))),
                ),
              ))),
        )

    absent_kinds : (path : PathValue) → (Given HasNames → are_names path ≡ true) → (mode : ℕ) (dir : Oid) (name : Name) (place : Place)
        → IsEntry Not s p path.names dir name None → OfKinds Known Not Given s who p (open_absent s who p flags mode dir name place)
    absent_kinds path names mode dir name place e =
        let reached : Reaches s p dir = ByWalk dir e.walked in
        let may = making path names mode dir name place e in (
          refl,
          λ _. (
            of_reached _ _ dir place reached,
            λ written. (
              of_reached _ _ dir place reached,
              λ _. (
                of_reached _ _ dir place reached,
                λ order. (refl, λ not_removed. (refl, λ left. OpenMade dir name (new_file mode) place flags (may written order not_removed left) refl room)),
              ),
            ),
          ),
        )

    found_kinds : (path : PathValue) → (Given HasNames → are_names path ≡ true) → (mode : ℕ) (found : Found) → IsFound Not s p path.names found
        → OfKinds Known Not Given s who p (open_found s who p path flags mode found)
    found_kinds path names mode (Start id) f = present_kinds id (last_place (λ n. First n) path) f
    found_kinds path names mode (Entry dir name None) f = absent_kinds path names mode dir name (dir_place (λ n. First n) path) f
    found_kinds path names mode (Entry dir name (Some id)) f = present_kinds id (last_place (λ n. First n) path) (ToEntry (dir, name) id f.at)

  pub open_kinds : (path : PathValue) (flags : OpenFlags) (mode : Option ℕ) → (Given HasFlags → are_flags flags ≡ true)
      → (Given HasNames → are_names path ≡ true) → OfKinds Known Not Given s who p (open_row s who p path flags mode)
  open_kinds path flags mode flags_are names = (
    refl,
    λ descriptor. (
      refl,
      λ number.
          along_walk Known Not (CheckKind Given s who p) (Effect Known Not Given s who p) s p of_reached (λ n. First n) path
          (open_found s who p path flags (unwrap_or mode 0))
          (found_kinds flags flags_are (record { descriptor = descriptor; number = number }) path names (unwrap_or mode 0)),
    ),
  )

  -- ---- what is done through a descriptor
  pub close_kinds : (fd : ℕ) → OfKinds Known Not Given s who p (close_row s who p fd)
  close_kinds fd = on_open fd _ (λ f _. Close fd)

  pub read_kinds : (fd n : ℕ) → OfKinds Known Not Given s who p (read_row s who p fd n)
  read_kinds fd n = on_open fd _ (λ f open_is. (
    refl,
    λ _. (
      at_handle _ _ fd f open_is,
      λ _.
          where_asked _ _ _ (at_handle _ _ fd f open_is) (λ written.
          (refl, λ _. either (is_stream (open_object s f).kind) _ _ (λ stream. ReadStream fd f n open_is (written stream) stream) (λ _. Seek fd f _ open_is))),
    ),
  ))

  -- a piece goes into a file, unless it is empty
  writing_kinds : (fd : ℕ) (f : Opened) (bytes : List ℕ) → IsOpen s p fd f → Known (mac_write s p f.description.object Handle)
      → is_stream (open_object s f).kind ≡ false → OfKinds Known Not Given s who p (put_in_file s f bytes)
  writing_kinds fd f bytes open_is written no_stream =
      let old : Attr = (open_object s f).attr in (
        refl,
        λ inside. (
          refl,
          λ fits.
              either (length bytes == 0) _ _ (λ _. Seek fd f _ open_is)
              (λ _. (
                at_handle _ _ fd f open_is,
                (
                  (λ _. WriteFile fd f old bytes _ open_is written no_stream inside fits (λ mode. mode)),
                  WriteFile fd f (unprivileged old) bytes _ open_is written no_stream inside fits (λ _. permissions_are_mode old.mode),
                ),
              )),
        ),
      )

  pub write_kinds : (fd : ℕ) (bytes : List ℕ) → OfKinds Known Not Given s who p (write_row s who p fd bytes)
  write_kinds fd bytes = on_open fd _ (λ f open_is. (
    refl,
    λ _. (
      at_handle _ _ fd f open_is,
      λ written.
          either (is_stream (open_object s f).kind) _ _ (λ stream. (refl, λ _. (refl, λ fits. WriteStream fd f bytes open_is written stream fits)))
          (writing_kinds fd f bytes open_is written),
    ),
  ))

  pub lseek_kinds : (fd : ℕ) (from : Whence) (offset : ℤ) → OfKinds Known Not Given s who p (lseek_row s who p fd from offset)
  lseek_kinds fd from offset = on_open fd _ (λ f open_is. (at_handle _ _ fd f open_is, λ _. (refl, λ _. (refl, λ _. Seek fd f _ open_is))))

  pub dup_kinds : (fd : ℕ) → OfKinds Known Not Given s who p (dup_row s who p fd)
  dup_kinds fd = on_open fd _ (λ f open_is. (refl, λ free. Duplicate fd f open_is free))

  pub pipe_kinds : OfKinds Known Not Given s who p (pipe_row s who p)
  pipe_kinds = (refl, λ descriptors. (refl, λ numbers. (refl, λ left. MakePipe left descriptors numbers)))

  pub fstat_kinds : (fd : ℕ) → OfKinds Known Not Given s who p (fstat_row s who p fd)
  fstat_kinds fd = on_open fd _ (λ f open_is. (at_handle _ _ fd f open_is, λ _. NoChange))
