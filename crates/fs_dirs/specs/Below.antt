-- What lies below an object, and which of the entries there are due.
use Rattle.std.specs.Prelude.{◌≡◌, ◌&&◌, ◌==◌, ◌≤◌, ◌-◌, ℕ, Bool, true, false, ◌⊎◌, List, [], ◌∷◌, ◌++◌, Some, cond, length, slice_get}
use Rattle.kern_model.specs.declared.numbers.Oid.{Oid}
use Rattle.kern_model.specs.Entries.{is_under_within}
use Rattle.kern_model.specs.Keys.{same_oid}
use Rattle.kern_model.specs.State.{State}
use Rattle.fs_dirs.specs.declared.below.Below.{Below}
use Rattle.fs_dirs.specs.declared.below.Due.{Due}
use Rattle.fs_dirs.specs.Entries.{objects_in}

-- some number of steps up leads from an object to another one
pub record LiesUnder (s : State) (id top : Oid) : Type 0 where
  pub steps : ℕ
  pub under : is_under_within s steps id top ≡ true

-- an object lies under one to which an entry of a directory leads that is due
pub record IsUnderEntry (s : State) (due : Due) (id : Oid) : Type 0 where
  pub place : ℕ
  pub child : Oid
  pub is_due : place ≤ due.place
  pub is : slice_get (objects_in s due.dir) place ≡ Some child
  pub under : LiesUnder s id child

-- and one of several directories is such a one
abbrev pub IsUnderOne : State → List Due → Oid → Type 0
IsUnderOne s [] id = ⊥
IsUnderOne s (due ∷ rest) id = IsUnderEntry s due id ⊎ IsUnderOne s rest id

-- an object lies under an entry that is due, or the way down is given up
abbrev pub IsUnderDue : State → Below → Oid → Type 0
IsUnderDue s below id = (below.complete ≡ false) ⊎ IsUnderOne s below.due.items id

-- each other object that lies under an object lies under an entry that is due, or the way down is given up
abbrev pub HasAllDue : State → Oid → Below → Type 0
HasAllDue s top below = (id : Oid) → LiesUnder s id top → same_oid id top ≡ false → IsUnderDue s below id

-- the directories with one more, of which so many entries are due, if any
abbrev pub with_due : List Due → Oid → ℕ → List Due
with_due due dir count = cond (count == 0) due (due ++ record { dir = dir; place = count - 1 } ∷ [])

-- no entry is due any more, and everything below the object was looked at
abbrev pub is_over : Below → Bool
is_over below = below.complete && (length below.due.items == 0)
