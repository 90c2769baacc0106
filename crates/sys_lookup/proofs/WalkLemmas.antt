-- The steps of a walk.
use Rattle.std.specs.Prelude.{◌≡◌, Option, Some, Result, Ok, Err, IfOk, OnOk}
use Rattle.std.specs.Result.{IsErrAnd}
use Rattle.std.proofs.Common.{◌∙◌, subst, inr}
use Rattle.fs_path.specs.Name.{Name}
use Rattle.kern_model.specs.declared.numbers.Oid.{Oid}
use Rattle.kern_model.specs.State.{State}
use Rattle.chk_rules.specs.declared.stop.Stop.{Stop}
use Rattle.sys_lookup.specs.declared.found.Found as walked
use Rattle.sys_lookup.specs.declared.found.Found.TheVariants as found
use Rattle.sys_lookup.specs.Walks.{IsEntry, IsFound, IsLedTo, found_by}

-- a walk that stops finds nothing
pub walk_stops : (how : Stop) (r : Result walked.Found Stop) → IsErrAnd r (λ e. e ≡ how) → IsErrAnd (found_by r) (λ e. e ≡ how)
walk_stops how (Ok w) is = absurd is
walk_stops how (Err e) is = is

-- what holds anyway holds of a result that is Ok
pub where_ok : {X E P : Type 0} (r : Result X E) → P → OnOk r P
where_ok (Ok x) h = h
where_ok (Err e) h = tt

-- an entry of an object leads to it
pub entry_leads : (s : State) (start : Oid) (w : walked.Found) (dir : Oid) (name : Name) (object : Option Oid) → w ≡ found.Entry dir name object → IsFound s start w → (r : Result Oid Stop) → IfOk r (λ id. object ≡ Some id) → IfOk r (IsLedTo s start)
entry_leads s start w dir name object is stands (Ok id) there =
    let entry : IsEntry s dir name object = subst (IsFound s start) is stands in
    inr (record { dir = dir; name = name; leads = entry.leads ∙ there })
entry_leads s start w dir name object is stands (Err e) there = tt
