-- One directory: its names in order, and where each of them leads.
use Rattle.std.specs.Prelude.{◌≡◌, ℕ, ◌+◌, ◌*◌, ◌^◌, ◌<◌, ◌≤◌, List, T, length, map}
use Rattle.std.specs.declared.cmp.Ordering.{Ordering}
use Rattle.std.specs.declared.cmp.Ordering.TheVariants.{Less, Equal, Greater}
use Rattle.std.specs.Ordering.{nat_cmp}
use Rattle.std.specs.Cmp.Lexicographic.{slice_cmp}
use Rattle.std.specs.List.{AllWithin, HoldsAt}
use Rattle.std.specs.FinMap.{FinMap, from_sorted, is_sorted}
use Rattle.fs_path.specs.Name.{Name}
use Rattle.kern_model.specs.declared.numbers.Oid.{Oid}
use Rattle.fs_dirs.specs.declared.slot.Slot.{Slot}

-- names, by their bytes
abbrev pub name_cmp : Name → Name → Ordering
name_cmp = slice_cmp nat_cmp

-- each name with the object to which it leads
abbrev pub pairs_of : List Slot → List (Name × Oid)
pairs_of entries = map (λ (e : Slot). (e.entry.value.name, e.entry.value.id)) entries

-- the names rise strictly
abbrev pub AreSorted : List Slot → Type 0
AreSorted entries = T (is_sorted name_cmp (pairs_of entries))

-- the map that sorted entries make
abbrev pub directory_of : List Slot → FinMap name_cmp Oid
directory_of entries = from_sorted (pairs_of entries)

-- the entry at a place has the name
pub record IsAt (entries : List Slot) (name : Name) (place : ℕ) : Type 0 where
  pub within : place < length entries
  pub same : HoldsAt (λ (e : Slot). name_cmp e.entry.value.name name ≡ Equal) entries place

-- lesser names stand before one place, and greater ones from another place on
pub record IsBetween (entries : List Slot) (name : Name) (from to : ℕ) : Type 0 where
  pub ordered : from ≤ to
  pub within : to ≤ length entries
  pub less : AllWithin (λ (e : Slot). name_cmp e.entry.value.name name ≡ Less) entries 0 from
  pub greater : AllWithin (λ (e : Slot). name_cmp e.entry.value.name name ≡ Greater) entries to (length entries)

-- the name belongs at a place: lesser names stand before it, and greater ones from it on
abbrev pub IsGap : List Slot → Name → ℕ → Type 0
IsGap entries name place = IsBetween entries name place place

-- a look-up among n names makes few comparisons, of names or of their heads: 2 to the power of their number is at most 4 n + 2
pub record TakesFewSteps (n before after : ℕ) : Type 0 where
  pub steps : ℕ
  pub counted : after ≡ before + steps
  pub few : 2 ^ steps ≤ 4 * n + 2
