-- Which living processes are children of which, as it is kept.
use Rattle.std.specs.Prelude.{◌≡◌, ◌≢◌, ℕ, ◌+◌, ◌≤◌, Bool, false, List, [], Option, None, Some, length, refl, slice_get}
use Rattle.std.specs.Coded.{Coded, code_by, coded×}
use Rattle.std.specs.Option.{option_map}
use Rattle.std.specs.FinMap as map
use Rattle.std.specs.FinMap.{FinMap}
use Rattle.kern_model.specs.Maps.{get_or}
use Rattle.kern_model.specs.declared.numbers.Pid.{Pid}
use Rattle.kern_model.specs.Keys.{is_pid, pid_cmp}
use Rattle.kern_model.specs.State.{Process}
use Rattle.proc_table.specs.declared.positions.Position.{Position}
use Rattle.proc_table.specs.declared.table.TheConstants.{MAX_MADE}

-- a list of children for each parent, and where each child stands: of which parent, and at which place of its list
pub record ChildIndex : Type 0 where
  pub lists : FinMap pid_cmp (List Pid)
  pub positions : FinMap pid_cmp Position

-- how it is stored
abbrev pub child_index_code : Coded Pid → Coded (List Pid) → Coded Position → Coded ChildIndex
child_index_code who list position =
    code_by (FinMap pid_cmp (List Pid) × FinMap pid_cmp Position)
    (coded× (map.code who list) (map.code who position))
    (λ k. (k.lists, k.positions))
    (λ p. record { lists = p.0; positions = p.1 })
    (λ _. refl)

-- the list of a parent, empty where there is none
abbrev pub list_at : FinMap pid_cmp (List Pid) → Pid → List Pid
list_at lists q = get_or lists q []

-- a list without what stood at a place, to which the last one has moved
pub record IsSwapRemoved (old : List Pid) (place : ℕ) (new : List Pid) : Type 0 where
  pub size : length new + 1 ≡ length old
  pub moved : place ≢ length new → slice_get new place ≡ slice_get old (length new)
  pub same : (i : ℕ) → i ≢ place → i ≢ length new → slice_get new i ≡ slice_get old i

-- the list of one parent lacks what stood at a place of it, and all others are as they were
pub record IsSwapRemovedAt (old : FinMap pid_cmp (List Pid)) (parent : Pid) (place : ℕ) (new : FinMap pid_cmp (List Pid)) : Type 0 where
  pub its : IsSwapRemoved (list_at old parent) place (list_at new parent)
  pub others : (q : Pid) → q ≢ parent → list_at new q ≡ list_at old q

-- at the place of each child stands the child, and who stands at a place has it as its own
pub record AreInPlace (child_index : ChildIndex) : Type 0 where
  pub there : (c : Pid) (position : Position) → map.get child_index.positions c ≡ Some position → slice_get (list_at child_index.lists position.parent) position.place ≡ Some c
  pub placed : (q : Pid) (place : ℕ) (c : Pid) → slice_get (list_at child_index.lists q) place ≡ Some c → map.get child_index.positions c ≡ Some (record { parent = q; place = place })

-- the parent by where a child stands
abbrev pub parent_by : Option Position → Option Pid
parent_by position = option_map (λ (p : Position). p.parent) position

-- whether a process is kept as a child of another
unfoldable pub is_child : ChildIndex → Pid → Pid → Bool
is_child child_index q c = is_pid q (parent_by (map.get child_index.positions c))

-- how many children of a process are kept
abbrev pub child_count : ChildIndex → Pid → ℕ
child_count child_index q = length (list_at child_index.lists q)

-- whether a process, if there is one, has a process as its parent
abbrev pub has_parent : Option Process → Pid → Bool
has_parent None q = false
has_parent (Some p) q = is_pid q p.parent

-- what is kept of children and counted fits the living processes
pub record IsKept (living : FinMap pid_cmp Process) (children : ChildIndex) (made : ℕ) : Type 0 where
  -- the children that are kept are those of the processes' parents
  pub index : (q c : Pid) → is_child children q c ≡ has_parent (map.get living c) q
  -- no list of ended children has more than the processes that were made and do not live
  pub room : (q : Pid) (p : Process) → map.get living q ≡ Some p → length p.ended + map.len living ≤ made
  pub all : map.len living ≤ made
  pub few : made ≤ MAX_MADE
