-- What is kept of the directories that hold an object.
use Rattle.std.specs.Prelude.{◌≡◌, ◌≤◌, ℕ, List, [], ◌∷◌, T, length, map}
use Rattle.std.specs.declared.cmp.Ordering.TheVariants.{Less, Greater}
use Rattle.std.specs.List.{AllWithin}
use Rattle.std.specs.FinMap.{is_sorted}
use Rattle.kern_model.specs.Keys.{oid_cmp}
use Rattle.kern_model.specs.declared.numbers.Oid.{Oid}
use Rattle.fs_dirs.specs.declared.links.Holder.{Holder}
use Rattle.fs_dirs.specs.declared.links.Kept.{Kept}
use Rattle.fs_dirs.specs.declared.links.Kept.TheVariants as kept
use Rattle.fs_dirs.specs.Entries.{dir_of, names_in_all}

-- the directories that are kept
abbrev pub holders_in : Kept → List Holder
holders_in kept.None = []
holders_in (kept.One holder) = holder ∷ []
holders_in (kept.Several several) = several.value.holders.items

-- the number of each directory with how many further names stand there
abbrev pub pairs_of : List Holder → List (Oid × ℕ)
pairs_of holders = map (λ (h : Holder). (dir_of h, h.further)) holders

-- the numbers of the directories rise strictly
abbrev pub AreSorted : List Holder → Type 0
AreSorted holders = T (is_sorted oid_cmp (pairs_of holders))

-- a directory belongs at a place: lesser ones stand before it, and greater ones from it on
pub record IsGap (holders : List Holder) (dir : Oid) (place : ℕ) : Type 0 where
  pub within : place ≤ length holders
  pub less : AllWithin (λ (h : Holder). oid_cmp (dir_of h) dir ≡ Less) holders 0 place
  pub greater : AllWithin (λ (h : Holder). oid_cmp (dir_of h) dir ≡ Greater) holders place (length holders)

-- where there are several directories, their numbers rise strictly, and the names in them are counted
abbrev pub AreKept : Kept → Type 0
AreKept (kept.Several several) = AreSorted several.value.holders.items × (several.value.count ≡ names_in_all several.value.holders.items)
AreKept _ = Unit {0}
