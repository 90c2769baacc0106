-- The rows of the calls that make, remove, move and read entries.
use Rattle.std.specs.Prelude.{ℕ, ◌&&◌, not, nat_le, Bool, true, false, cond, [], ◌∷◌, Option, None, Some}
use Rattle.fs_path.specs.Name.{Name}
use Rattle.fs_path.specs.Path.{PathValue}
use Rattle.lab_lattice.specs.Label.{Label}
use Rattle.kern_model.specs.declared.limits.TheConstants.{MAX_LINKS}
use Rattle.kern_model.specs.declared.calls.Answer.TheVariants as answer
use Rattle.kern_model.specs.declared.calls.Errno.TheVariants as errno
use Rattle.kern_model.specs.declared.checks.Check.{Check}
use Rattle.kern_model.specs.declared.checks.Place.{Place}
use Rattle.kern_model.specs.declared.checks.Place.TheVariants.{First, Second}
use Rattle.kern_model.specs.declared.numbers.Oid.{Oid}
use Rattle.kern_model.specs.declared.numbers.Pid.{Pid}
use Rattle.kern_model.specs.declared.objects.Body.{Body}
use Rattle.kern_model.specs.declared.objects.Body.TheVariants as body
use Rattle.kern_model.specs.declared.objects.Object.{Object}
use Rattle.kern_model.specs.declared.objects.Object.{Object}
use Rattle.kern_model.specs.Entries.{has_entries, is_empty, is_removed, is_under, link_count, names_in}
use Rattle.kern_model.specs.Keys.{Spot, same_oid}
use Rattle.kern_model.specs.Kinds.{is_dir, object_with, masked_permissions}
use Rattle.kern_model.specs.Create.{enter_in, write_directory, attr_of, creation, to_number}
use Rattle.kern_model.specs.Rules.{mac_write, dac_read, dac_write, created_order, held_order, link_dir, unlink_dir}
use Rattle.kern_model.specs.Row.{Row, Need, Refuse, Commit}
use Rattle.kern_model.specs.State.{State, Process, SetEntry, DropEntry, SetProcess, object_at}
use Rattle.kern_model.specs.Stat.{tell_stat}
use Rattle.kern_model.specs.Walk.{Found, enter, walk, on_path, read_object, to_new_name, to_entry, to_entry_of_object, last_place, dir_place}

-- ---- the spot of a new entry

-- the directory in which the last name of a path stands gets a new entry, whose order of labels is given
abbrev pub enter_end : State → Process → (ℕ → Place) → PathValue → (Oid → Place → Check) → Oid → Row → Row
enter_end s p place path order dir rest = enter_in s p dir (dir_place place path) (order dir (dir_place place path)) rest

-- a walk found a name that nothing has yet, in a directory that gets the entry
abbrev pub new_spot_found : State → Process → (ℕ → Place) → PathValue → (Oid → Place → Check) → Found → (Spot → Row) → Row
new_spot_found s p place path order found rest = to_new_name found (λ dir name. enter_end s p place path order dir (rest (dir, name)))

-- the spot of a new entry, at the end of a path
abbrev pub new_spot : State → Process → (ℕ → Place) → PathValue → (Oid → Place → Check) → (Spot → Row) → Row
new_spot s p place path order rest = walk s p place path (λ found. new_spot_found s p place path order found rest)

-- ---- making

-- an object is made at a label, and the spot leads to it
abbrev pub put_object : State → Label → Object → Spot → Row
put_object s label object (dir, name) = Commit (creation s label dir name object) answer.Nothing None

-- the same, where a number is left
abbrev pub make_at : State → Label → Object → Spot → Row
make_at s label object spot = to_number s label (λ _. put_object s label object spot)

-- an object of the caller is made, and the spot leads to it
abbrev pub make_object : State → Process → ℕ → Body → Spot → Row
make_object s p mode body spot = make_at s p.label (object_with p.label (attr_of p (masked_permissions mode p.umask)) body) spot

-- the spot of what the caller makes
abbrev pub make_spot : State → Process → PathValue → (Spot → Row) → Row
make_spot s p path rest = new_spot s p (λ n. First n) path (created_order s p) rest

-- a directory or a FIFO is made where nothing has the name
abbrev pub make_row : State → Pid → Process → PathValue → ℕ → Body → Row
make_row s who p path mode body = make_spot s p path (make_object s p mode body)

-- `mkfifo PATH MODE`
abbrev pub mkfifo_row : State → Pid → Process → PathValue → ℕ → Row
mkfifo_row s who p path mode = make_row s who p path mode body.Fifo

-- `mkdir PATH MODE`
abbrev pub mkdir_row : State → Pid → Process → PathValue → ℕ → Row
mkdir_row s who p path mode = make_row s who p path mode body.Dir

-- ---- an entry that is taken away, or moves

-- an entry may be taken away: the caller writes the directory, by label and mode, and the object, by label
abbrev pub leave_at : State → Process → Oid → Place → Oid → Place → Row → Row
leave_at s p dir dir_at id at rest = Need (mac_write s p dir dir_at) (Need (dac_write s p dir dir_at) (Need (mac_write s p id at) rest))

-- the same, by the places of a path
abbrev pub leave_from : State → Process → PathValue → Oid → Oid → Row → Row
leave_from s p path dir id rest = leave_at s p dir (dir_place (λ n. First n) path) id (last_place (λ n. First n) path) rest

-- a walk found an entry of an object, which may be taken away
abbrev pub old_entry_found : State → Process → PathValue → Found → (Oid × Name × Oid → Row) → Row
old_entry_found s p path found rest = to_entry_of_object found (λ dir name id. leave_from s p path dir id (rest (dir, name, id)))

-- the entry of an object at the end of a path, which may be taken away: its directory, its name and its object
abbrev pub old_entry : State → Process → PathValue → (Oid × Name × Oid → Row) → Row
old_entry s p path rest = walk s p (λ n. First n) path (λ found. old_entry_found s p path found rest)

-- ---- removing

-- an entry goes
abbrev pub drop_entry : Spot → Row
drop_entry spot = Commit (DropEntry spot ∷ []) answer.Nothing None

-- an object is a directory without entries
abbrev pub must_be_empty : State → Oid → Row → Row
must_be_empty s id rest = Refuse errno.ENOTDIR (not (is_dir (object_at s id).kind)) (Refuse errno.ENOTEMPTY (not (is_empty s id)) rest)

-- the entry of an empty directory goes
abbrev pub remove_dir : State → Oid × Name × Oid → Row
remove_dir s (dir, name, id) = must_be_empty s id (drop_entry (dir, name))

-- `rmdir PATH`
abbrev pub rmdir_row : State → Pid → Process → PathValue → Row
rmdir_row s who p path = old_entry s p path (remove_dir s)

-- the entry of an object that is no directory goes
abbrev pub remove_name : State → PathValue → Oid × Name × Oid → Row
remove_name s path (dir, name, id) = Need (unlink_dir s id (last_place (λ n. First n) path)) (drop_entry (dir, name))

-- `unlink PATH`
abbrev pub unlink_row : State → Pid → Process → PathValue → Row
unlink_row s who p path = old_entry s p path (remove_name s path)

-- ---- linking

-- an object may get one more name where it is no directory, and its names are not too many
abbrev pub has_name_left : State → Oid → Place → Row → Row
has_name_left s id place rest = Need (link_dir s id place) (Refuse errno.EMLINK (nat_le MAX_LINKS (link_count s id)) rest)

-- the caller may give an object one more name: it writes the object, by label
abbrev pub asks_name : State → Process → Oid → Place → Row → Row
asks_name s p id place rest = Need (mac_write s p id place) (has_name_left s id place rest)

-- the spot of a further name of an object
abbrev pub name_spot : State → Process → PathValue → Oid → (Spot → Row) → Row
name_spot s p to id rest = new_spot s p (λ n. Second n) to (held_order s id) rest

-- a spot leads to an object
abbrev pub add_entry : Oid → Spot → Row
add_entry id spot = Commit (SetEntry spot id ∷ []) answer.Nothing None

-- a new name leads to an object
abbrev pub add_name : State → Process → PathValue → Oid → Row
add_name s p to id = name_spot s p to id (add_entry id)

-- an object gets one more name
abbrev pub link_to : State → Process → PathValue → Oid → Place → Row
link_to s p to id place = asks_name s p id place (add_name s p to id)

-- `link PATH PATH`
abbrev pub link_row : State → Pid → Process → PathValue → PathValue → Row
link_row s who p path to = on_path s p path (link_to s p to)

-- ---- moving

-- the directory in which the last name of the second path stands is written for an entry of an object
abbrev pub write_end : State → Process → PathValue → Oid → Oid → Row → Row
write_end s p to id dir rest = write_directory s p dir (dir_place (λ n. Second n) to) (held_order s id dir (dir_place (λ n. Second n) to)) rest

-- a walk found an entry, which an object may take
abbrev pub target_found : State → Process → PathValue → Oid → Found → (Oid × Name × Option Oid → Row) → Row
target_found s p to id found rest = to_entry found (λ dir name at. write_end s p to id dir (rest (dir, name, at)))

-- the entry to which an object is to move: its directory, its name, and what has the name
abbrev pub target_entry : State → Process → PathValue → Oid → (Oid × Name × Option Oid → Row) → Row
target_entry s p to id rest = walk s p (λ n. Second n) to (λ found. target_found s p to id found rest)

-- an object may take the place of another one: the two are of one sort, and a directory is empty
abbrev pub may_replace : State → Oid → Oid → Row → Row
may_replace s id t rest =
    Refuse errno.ENOTDIR (is_dir (object_at s id).kind && not (is_dir (object_at s t).kind))
    (Refuse errno.EISDIR (is_dir (object_at s t).kind && not (is_dir (object_at s id).kind))
    (Refuse errno.ENOTEMPTY (has_entries s t) rest))

-- an object takes the place of what was written, if that is another one; whether it moves is given
abbrev pub over_other : State → Oid → Oid → Bool → (Bool → Row) → Row
over_other s id t same rest = cond same (rest false) (may_replace s id t (rest true))

-- the object at the target gives way, if there is one; whether the entry moves is given: not where that is the object itself
abbrev pub gives_way : State → Process → Oid → Option Oid → Place → (Bool → Row) → Row
gives_way s p id None place rest = rest true
gives_way s p id (Some t) place rest = Need (mac_write s p t place) (over_other s id t (same_oid t id) rest)

-- the row goes on where the entry moves, and else nothing is done
abbrev pub if_moves : Row → Bool → Row
if_moves rest moves = cond moves rest (Commit [] answer.Nothing None)

-- the object at the target gives way, if there is one, and nothing is done where it is the object itself
abbrev pub give_way : State → Process → Oid → Option Oid → Place → Row → Row
give_way s p id at place rest = gives_way s p id at place (if_moves rest)

-- an entry moves to another spot, unless a directory would come to lie under itself or the new directory is removed
abbrev pub move_row : State → (dir : Oid) → (name : Name) → (id : Oid) → (into : Oid) → (new : Name) → Row
move_row s dir name id into new =
    Refuse errno.EINVAL (is_dir (object_at s id).kind && is_under s into id)
    (Refuse errno.ENOENT (is_removed s into)
    (Commit (DropEntry (dir, name) ∷ SetEntry (into, new) id ∷ []) answer.Nothing None))

-- an entry moves in place of what is at the target
abbrev pub move_over : State → Process → PathValue → Oid × Name × Oid → Oid × Name × Option Oid → Row
move_over s p to (dir, name, id) (into, new, at) = give_way s p id at (last_place (λ n. Second n) to) (move_row s dir name id into new)

-- an entry moves to the end of a path
abbrev pub move_to : State → Process → PathValue → Oid × Name × Oid → Row
move_to s p to (dir, name, id) = target_entry s p to id (move_over s p to (dir, name, id))

-- `rename PATH PATH`
abbrev pub rename_row : State → Pid → Process → PathValue → PathValue → Row
rename_row s who p path to = old_entry s p path (move_to s p to)

-- ---- reading

-- the names in a directory that was read are reported, where the caller may read it, by mode
abbrev pub list_names : State → Process → Oid → Place → Object → Row
list_names s p id place o = Refuse errno.ENOTDIR (not (is_dir o.kind)) (Need (dac_read s p id place) (Commit [] (answer.Names (names_in s id)) None))

-- a directory is read
abbrev pub read_dir : State → Process → Oid → Place → Row
read_dir s p id place = read_object s p id place (list_names s p id place)

-- `readdir PATH`
abbrev pub readdir_row : State → Pid → Process → PathValue → Row
readdir_row s who p path = on_path s p path (read_dir s p)

-- what an object is like is reported, where it may be read
abbrev pub report_stat : State → Process → Oid → Place → Row
report_stat s p id place = read_object s p id place (λ _. tell_stat s id)

-- `stat PATH`
abbrev pub stat_row : State → Pid → Process → PathValue → Row
stat_row s who p path = on_path s p path (report_stat s p)

-- the caller gets another current directory
abbrev pub change_directory : Pid → Process → Oid → Row
change_directory who p id = Commit (SetProcess who (record p { cwd = id }) ∷ []) answer.Nothing None

-- the caller goes to a directory
abbrev pub go_to : State → Pid → Process → Oid → Place → Row
go_to s who p id place = enter s p id place (change_directory who p id)

-- `chdir PATH`
abbrev pub chdir_row : State → Pid → Process → PathValue → Row
chdir_row s who p path = on_path s p path (go_to s who p)
