-- A state and records without some capabilities.
use Rattle.std.specs.Prelude.{◌≡◌, ◌⊎◌, Bool, true, false, List, [], ◌∷◌, Some}
use Rattle.cap_bits.specs.CapSet.{CapSet, minus_of}
use Rattle.kern_model.specs.declared.checks.CheckName.{CheckName}
use Rattle.kern_model.specs.declared.checks.CheckName.TheVariants as check
use Rattle.kern_model.specs.declared.objects.Object.{Object}
use Rattle.kern_model.specs.declared.records.Rec.{Rec}
use Rattle.kern_model.specs.declared.records.Rec.TheVariants as rec
use Rattle.kern_model.specs.Maps.{select}
use Rattle.kern_model.specs.State.{State, Process}
use Rattle.least_caps.specs.Narrowed.{attr_narrowed, caps_narrowed}

-- an object without some capabilities
abbrev pub object_without : CapSet → Object → Object
object_without d o = record o { attr = attr_narrowed d o.attr }

-- a process without them in any of its three sets
abbrev pub process_without : CapSet → Process → Process
process_without d p = record p { caps = caps_narrowed d p.caps }

-- a state without them: in the bound, and in the sets of each object and each process
abbrev pub state_without : CapSet → State → State
state_without d s = record s {
  bound = minus_of s.bound d;
  objects = select (λ id o. Some (object_without d o)) s.objects;
  procs = select (λ who p. Some (process_without d p)) s.procs;
}

-- a record without them in the sets that it has
abbrev pub record_without : CapSet → Rec → Rec
record_without d (rec.Boot who label caps) = rec.Boot who label (caps_narrowed d caps)
record_without d (rec.Exec who file file_caps caps) = rec.Exec who file (caps_narrowed d file_caps) (caps_narrowed d caps)
record_without d (rec.CapSetProc who caps) = rec.CapSetProc who (caps_narrowed d caps)
record_without d (rec.CapSetFile who file caps) = rec.CapSetFile who file (caps_narrowed d caps)
record_without d r = r

-- whether a check is the one that keeps set-id bits and capabilities of a file
abbrev pub is_fsetid : CheckName → Bool
is_fsetid check.Fsetid = true
is_fsetid _ = false

-- whether a record is an exercise by that check
abbrev pub exercises_fsetid : Rec → Bool
exercises_fsetid (rec.Exercise e) = is_fsetid e.check
exercises_fsetid _ = false

-- the second records are the first ones in order, less some exercises by that check
abbrev pub LessFsetid : List Rec → List Rec → Type 0
LessFsetid [] less = less ≡ []
LessFsetid (r ∷ recs) less = ((rest : List Rec) × (less ≡ r ∷ rest) × LessFsetid recs rest) ⊎ ((exercises_fsetid r ≡ true) × LessFsetid recs less)
