-- The row of open: what a path leads to may be opened, or made, and then it is opened.
use Rattle.std.specs.Prelude.{ℕ, ◌&&◌, not, cond, List, [], ◌∷◌, ◌++◌, Option, None, Some, unwrap_or}
use Rattle.fs_path.specs.Name.{Name}
use Rattle.fs_path.specs.Path.{PathValue}
use Rattle.kern_model.specs.declared.calls.Answer.TheVariants as answer
use Rattle.kern_model.specs.declared.calls.Errno.TheVariants as errno
use Rattle.kern_model.specs.declared.calls.OpenFlags.{OpenFlags}
use Rattle.kern_model.specs.declared.checks.Place.{Place}
use Rattle.kern_model.specs.declared.checks.Place.TheVariants.{First}
use Rattle.kern_model.specs.declared.numbers.Oid.{Oid}
use Rattle.kern_model.specs.declared.numbers.Pid.{Pid}
use Rattle.kern_model.specs.declared.objects.Attr.{Attr}
use Rattle.kern_model.specs.declared.objects.Body.TheVariants as body
use Rattle.kern_model.specs.declared.objects.Object.{Object}
use Rattle.kern_model.specs.Kinds.{is_dir, is_file, is_fifo, object_with, masked_permissions}
use Rattle.kern_model.specs.State.{State, Process, Change, object_at}
use Rattle.kern_model.specs.Descriptors.{lowest_free}
use Rattle.kern_model.specs.Rules.{mac_read_of, mac_write_of, dac_read_of, dac_write_of}
use Rattle.kern_model.specs.Row.{Row, Refuse, Commit, need_if}
use Rattle.kern_model.specs.Walk.{Found, Start, Entry, walk, last_place, dir_place}
use Rattle.kern_model.specs.Create.{make_in, attr_of, creation, to_number}
use Rattle.kern_model.specs.FileRows.{may_describe, description_creation, keeps_attr, content_change}

-- ---- whether an object that is there may be opened

-- the caller may open an object by its label
abbrev pub allowed_by_label : Process → OpenFlags → Oid → Place → Object → Row → Row
allowed_by_label p flags id place o rest = need_if flags.r (mac_read_of p id o place) (need_if flags.w (mac_write_of p id o place) rest)

-- the object is of a kind that is opened so; a FIFO that is opened for reading is written too, since bytes come out
abbrev pub allowed_by_kind : Process → OpenFlags → Oid → Place → Object → Row → Row
allowed_by_kind p flags id place o rest =
    Refuse errno.EISDIR (is_dir o.kind)
    (Refuse errno.EINVAL (is_fifo o.kind && flags.r && flags.w)
    (need_if (is_fifo o.kind && flags.r) (mac_write_of p id o place) rest))

-- the caller may open an object by its mode
abbrev pub allowed_by_mode : Process → OpenFlags → Oid → Place → Object → Row → Row
allowed_by_mode p flags id place o rest = need_if flags.r (dac_read_of p id o place) (need_if flags.w (dac_write_of p id o place) rest)

-- with `t` a file is emptied: the attributes that it has then, or none where an object keeps its content
abbrev pub to_emptied : OpenFlags → Oid → Place → Object → (Option Attr → Row) → Row
to_emptied flags id place o rest = cond (flags.t && is_file o.kind) (keeps_attr id place o (λ attr. rest (Some attr))) (rest None)

-- the caller may open an object that its label allows
abbrev pub to_labelled : Process → OpenFlags → Oid → Place → Object → (Option Attr → Row) → Row
to_labelled p flags id place o rest = allowed_by_kind p flags id place o (allowed_by_mode p flags id place o (to_emptied flags id place o rest))

-- the caller may open an object that is there
abbrev pub to_present : Process → OpenFlags → Oid → Place → Object → (Option Attr → Row) → Row
to_present p flags id place o rest = Refuse errno.EEXIST (flags.c && flags.x) (allowed_by_label p flags id place o (to_labelled p flags id place o rest))

-- ---- what is opened

-- what was done before, and then the description
abbrev pub opens : State → Pid → Process → Oid → OpenFlags → List Change → Row
opens s who p id flags before = Commit (before ++ description_creation s who p id flags) (answer.Number (lowest_free p.fds)) None

-- the change of an object that is emptied with these attributes, if it is
abbrev pub truncation_if : Oid → Object → Option Attr → List Change
truncation_if id o None = []
truncation_if id o (Some attr) = content_change id o [] attr ∷ []

-- an object that is there is opened
abbrev pub opens_present : State → Pid → Process → OpenFlags → Oid → Object → Option Attr → Row
opens_present s who p flags id o emptied = opens s who p id flags (truncation_if id o emptied)

-- an object whose label allows it is opened, if the caller may
abbrev pub open_labelled : State → Pid → Process → OpenFlags → Oid → Place → Object → Row
open_labelled s who p flags id place o = to_labelled p flags id place o (opens_present s who p flags id o)

-- where an object has the name it is opened, if the caller may
abbrev pub open_present : State → Pid → Process → OpenFlags → Oid → Place → Row
open_present s who p flags id place = to_present p flags id place (object_at s id) (opens_present s who p flags id (object_at s id))

-- the part of it from the content on
abbrev pub open_emptying : State → Pid → Process → OpenFlags → Oid → Place → Row
open_emptying s who p flags id place = to_emptied flags id place (object_at s id) (opens_present s who p flags id (object_at s id))

-- the caller may make a file under a name that nothing has
abbrev pub to_absent : State → Process → OpenFlags → Oid → Place → Row → Row
to_absent s p flags dir place rest = Refuse errno.ENOENT (not flags.c) (make_in s p dir place rest)

-- an empty file that the caller makes
abbrev pub new_file : Process → ℕ → Object
new_file p mode = object_with p.label (attr_of p (masked_permissions mode p.umask)) (body.File [])

-- a file is made under a number, and opened
abbrev pub opens_made : State → Pid → Process → OpenFlags → ℕ → Oid → Name → Oid → Row
opens_made s who p flags mode dir name id = opens s who p id flags (creation s p.label dir name (new_file p mode))

abbrev pub opens_new : State → Pid → Process → OpenFlags → ℕ → Oid → Name → Row
opens_new s who p flags mode dir name = to_number s p.label (opens_made s who p flags mode dir name)

-- where nothing has the name a file is made, if that is asked for
abbrev pub open_absent : State → Pid → Process → OpenFlags → ℕ → Oid → Name → Place → Row
open_absent s who p flags mode dir name place = to_absent s p flags dir place (opens_new s who p flags mode dir name)

abbrev pub open_found : State → Pid → Process → PathValue → OpenFlags → ℕ → Found → Row
open_found s who p path flags mode (Start id) = open_present s who p flags id (last_place (λ n. First n) path)
open_found s who p path flags mode (Entry dir name None) = open_absent s who p flags mode dir name (dir_place (λ n. First n) path)
open_found s who p path flags mode (Entry dir name (Some id)) = open_present s who p flags id (last_place (λ n. First n) path)

abbrev pub open_path : State → Pid → Process → PathValue → OpenFlags → ℕ → Row
open_path s who p path flags mode = walk s p (λ n. First n) path (open_found s who p path flags mode)

-- `open PATH FLAGS [MODE]`
abbrev pub open_row : State → Pid → Process → PathValue → OpenFlags → Option ℕ → Row
open_row s who p path flags mode = may_describe s p 1 (open_path s who p path flags (unwrap_or mode 0))
