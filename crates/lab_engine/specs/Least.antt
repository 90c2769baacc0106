-- The capabilities that the exercises of calls name.
use Rattle.std.specs.Prelude.{List}
use Rattle.std.specs.List.{flat_map}
use Rattle.cap_bits.specs.CapSet.{CapSet}
use Rattle.kern_model.specs.declared.records.Rec.{Rec}
use Rattle.kern_model.specs.Run.{CallRecord}
use Rattle.least_caps.specs.Named.{named}

-- the records of calls, in order
abbrev pub recs_of : List CallRecord → List Rec
recs_of calls = flat_map (λ (p : CallRecord). p.recs) calls

-- the capabilities that the exercises of calls name
abbrev pub named_by : List CallRecord → CapSet
named_by calls = named (recs_of calls)
