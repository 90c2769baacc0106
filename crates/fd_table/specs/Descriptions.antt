-- Open descriptions, with how many descriptors refer to each.
use Rattle.std.specs.Prelude.{◌≡◌, ℕ, ◌-◌, ◌&&◌, nat_le, Bool, Option, None, Some, cond, true}
use Rattle.std.specs.FinMap as map
use Rattle.std.specs.FinMap.{FinMap}
use Rattle.kern_model.specs.declared.numbers.Did.{Did}
use Rattle.kern_model.specs.declared.numbers.Oid.{Oid}
use Rattle.kern_model.specs.Keys.{did_cmp, oid_cmp, same_oid}
use Rattle.kern_model.specs.Maps.{any_entry, count_entries, get_or, select, where_key}
use Rattle.kern_model.specs.State.{Description}
use Rattle.fd_table.specs.declared.shared.How.{How}
use Rattle.fd_table.specs.declared.shared.Shared.{Shared}
use Rattle.fd_table.specs.declared.uses.UseCount.{UseCount}
use Rattle.fd_table.specs.Uses.{no_use}

-- open descriptions by their numbers
abbrev pub SharedTable : Type 0
SharedTable = FinMap did_cmp Shared

-- a new description, to which one descriptor refers
abbrev pub made_for : Oid → How → Shared
made_for object how = record { object = object; how = how; offset = 0; holders = 1 }

-- a description without the count
abbrev pub description_of : Shared → Description
description_of s = record { object = s.object; reads = s.how.reads; writes = s.how.writes; appends = s.how.appends; offset = s.offset }

-- the descriptions without the counts
unfoldable pub descriptions_of : SharedTable → FinMap did_cmp Description
descriptions_of shared = select (where_key (λ did. true) description_of) shared

-- how many descriptors refer to a description, if it is there
abbrev pub holders_kept : Option Shared → ℕ
holders_kept None = 0
holders_kept (Some s) = s.holders

-- how many descriptions an object has
abbrev pub uses_of : SharedTable → Oid → ℕ
uses_of shared id = count_entries (λ (did : Did) (s : Shared). same_oid s.object id) shared

-- how many of them pass a test
abbrev pub users_of : (Shared → Bool) → SharedTable → Oid → ℕ
users_of test shared id = count_entries (λ (did : Did) (s : Shared). same_oid s.object id && test s) shared

-- whether some of them does
abbrev pub has_user : (Shared → Bool) → SharedTable → Oid → Bool
has_user test shared id = any_entry (λ (did : Did) (s : Shared). same_oid s.object id && test s) shared

-- how many there are, for reading, and for writing
abbrev pub count_of : SharedTable → Oid → UseCount
count_of shared id = record { all = uses_of shared id; readers = users_of (λ s. s.how.reads) shared id; writers = users_of (λ s. s.how.writes) shared id }

-- the table in which one descriptor less refers to a description, which goes with the last one
abbrev pub with_one_less : SharedTable → Did → Shared → SharedTable
with_one_less shared did s = cond (nat_le s.holders 1) (map.remove shared did) (map.insert shared did (record s { holders = s.holders - 1 }))

-- what is counted of each object is how many descriptions it has
abbrev pub AreCounted : SharedTable → FinMap oid_cmp UseCount → Type 0
AreCounted shared uses = (id : Oid) → get_or uses id no_use ≡ count_of shared id
