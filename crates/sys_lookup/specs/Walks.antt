-- What a walk finds, and the parts of rows that walk.
use Rattle.std.specs.Prelude.{◌≡◌, ◌⊎◌, ℕ, ◌+◌, List, [], ◌∷◌, Option, Some, Result, Ok, Err}
use Rattle.fs_path.specs.Name.{Name}
use Rattle.fs_path.specs.Path.{PathValue}
use Rattle.kern_model.specs.declared.checks.Place.{Place}
use Rattle.kern_model.specs.declared.checks.Place.TheVariants as place
use Rattle.kern_model.specs.declared.numbers.Oid.{Oid}
use Rattle.kern_model.specs.State.{State, Process, look}
use Rattle.kern_model.specs.Row.{Row}
use Rattle.kern_model.specs.Walk.{Found, Start, Entry, enter, last_place, or_missing, reach}
use Rattle.kern_model.specs.Valid.{IsDir}
use Rattle.chk_rules.specs.declared.stop.Stop.{Stop}
use Rattle.sys_lookup.specs.declared.argument.PathArgument.{PathArgument}
use Rattle.sys_lookup.specs.declared.argument.PathArgument.TheVariants as argument
use Rattle.sys_lookup.specs.declared.found.Found as walked
use Rattle.sys_lookup.specs.declared.found.Found.TheVariants as found

-- the places of a path, by how many names were passed
abbrev pub place_in : PathArgument → ℕ → Place
place_in argument.First = λ n. place.First n
place_in argument.Second = λ n. place.Second n

-- what a walk found, as the rows read it
abbrev pub found_of : walked.Found → Found
found_of (found.Start id) = Start id
found_of (found.Entry dir name object) = Entry dir name object

-- the same of a walk that may have stopped
abbrev pub found_by : Result walked.Found Stop → Result Found Stop
found_by (Ok w) = Ok (found_of w)
found_by (Err how) = Err how

-- the part of a row that walks a path to an object that is there, and goes on with its number and its place
abbrev pub reach_end : State → Process → (ℕ → Place) → PathValue → (Oid × Place → Row) → Row
reach_end s p place path rest = reach s p place path (λ id. rest (id, last_place place path))

-- the part of a row that looks up the last name of a walk
abbrev pub find_name : State → Process → Place → Oid → Name → (Found → Row) → Row
find_name s p place dir name rest = enter s p dir place (rest (Entry dir name (look s dir name)))

-- the part of a row that passes a name which is not the last
abbrev pub pass_name : State → Process → Place → Oid → Name → (Oid → Row) → Row
pass_name s p place dir name rest = enter s p dir place (or_missing (look s dir name) rest)

-- the part of a row that passes names, of which none is the last, and goes on from the directory that they lead to
abbrev pub pass_names : State → Process → (ℕ → Place) → ℕ → Oid → List Name → (Oid → Row) → Row
pass_names s p place at dir [] rest = rest dir
pass_names s p place at dir (name ∷ names) rest = pass_name s p (place at) dir name (λ id. pass_names s p place (at + 1) id names rest)

-- ---- what stands in the state of what a walk found

-- the directory is one, and this is where the name leads in it
pub record IsEntry (s : State) (dir : Oid) (name : Name) (object : Option Oid) : Type 0 where
  pub is_dir : IsDir s.objects dir
  pub leads : look s dir name ≡ object

-- a walk from a start found this: the start, or an entry
abbrev pub IsFound : State → Oid → walked.Found → Type 0
IsFound s start (found.Start id) = id ≡ start
IsFound s start (found.Entry dir name object) = IsEntry s dir name object

-- an entry of an object
pub record HasEntry (s : State) (id : Oid) : Type 0 where
  pub dir : Oid
  pub name : Name
  pub leads : look s dir name ≡ Some id

-- a walk from a start may lead to this object: it is the start, or an entry leads to it
abbrev pub IsLedTo : State → Oid → Oid → Type 0
IsLedTo s start id = (id ≡ start) ⊎ HasEntry s id
