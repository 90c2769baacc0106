-- What each step keeps, for every call: refusals are named, and numbers go on.
use Rattle.std.specs.Prelude.{◌≡◌, ⊤, true, false, List, [], ◌∷◌, ◌++◌, Some, refl, Option}
use Rattle.std.proofs.Common.{sym, subst}
use Rattle.std.specs.FinMap as map
use Rattle.kern_model.specs.declared.numbers.Oid.{Oid}
use Rattle.kern_model.specs.declared.numbers.Pid.{Pid}
use Rattle.kern_model.specs.declared.checks.CheckName.{CheckName}
use Rattle.kern_model.specs.declared.checks.CheckName.TheVariants as check
use Rattle.kern_model.specs.declared.calls.Call.{Call}
use Rattle.kern_model.specs.declared.world.ScriptItem.{ScriptItem}
use Rattle.kern_model.specs.declared.records.Rec.{Rec}
use Rattle.kern_model.specs.Boot.{boot}
use Rattle.kern_model.specs.Drawing.{StayDrawn, NumbersGoOn}
use Rattle.kern_model.specs.Refusals.{is_denial, IsNamed}
use Rattle.kern_model.specs.Row.{End, Stopped, Refused, Done}
use Rattle.kern_model.specs.Rules.{denial_of}
use Rattle.kern_model.specs.Run.{state_after_run}
use Rattle.kern_model.specs.State.{State, Process, Change}
use Rattle.kern_model.specs.Step.{step, subject, reply_of, state_after}
use Rattle.kern_model.specs.Table.{row}
use Rattle.kern_model.specs.Valid.{IsThere}
use Rattle.iso_laws.specs.Laws.{RefusalsAreNamed, DrawnStep, NumbersStep, NumbersRun, GoneRun}
use Rattle.iso_laws.proofs.Rows.{EachCommit, end_satisfies}
use Rattle.iso_laws.proofs.Steps.{step_cases, row_outcome}
use Rattle.iso_laws.proofs.ValidBoot.{valid_boot}
use Rattle.iso_laws.proofs.DrawingLemmas.{LeadsTo, AllObjects, leads_to_all, NoDangling, stay_drawn_all, stay_drawn_itself, valid_no_dangling, IsLaterState, later_all, later_itself, go_on_itself, go_on_over, nothing_back}
use Rattle.iso_laws.proofs.Along.{NothingKnown, along_each_commit}
use Rattle.iso_laws.proofs.EffectLaws.{NumberedByCaller, numbered_effect}
use Rattle.iso_laws.proofs.Effects.{PremiseHolds}
use Rattle.iso_laws.proofs.RowKinds.{row_kinds}

-- ---- the end of a row
-- the changes of each row are numbered in order, its own record is of the caller, and it refuses by no denial
row_numbered : (There : Oid → Type 0) (s : State) → LeadsTo There s → (who : Pid) (p : Process) → map.get s.procs who ≡ Some p → (c : Call)
    → EachCommit (NumberedByCaller There s who) (row s who p c)
row_numbered There s leads who p is c =
    along_each_commit _ _ _ (numbered_effect There s leads who p is NothingKnown NothingKnown (PremiseHolds s c)) (row s who p c)
    (row_kinds NothingKnown NothingKnown (PremiseHolds s c) s who p is c (λ x h. h))

-- a refusal at the end of a row is no denial, and changes and an own record at the end satisfy a property
abbrev pub EndSatisfies : (List Change → Option Rec → Type 0) → End → Type 0
EndSatisfies P (Stopped name place) = ⊤
EndSatisfies P (Refused e) = is_denial e ≡ false
EndSatisfies P (Done cs answer own) = P cs own

pub row_ends : (There : Oid → Type 0) (s : State) → LeadsTo There s → (who : Pid) (p : Process) → map.get s.procs who ≡ Some p → (c : Call)
    → EndSatisfies (NumberedByCaller There s who) (row_outcome s who c p).end
row_ends There s leads who p is c =
    end_satisfies (EndSatisfies (NumberedByCaller There s who)) (NumberedByCaller There s who) (λ name place. tt) (λ e h. h) (λ cs answer own h. h) (subject who p) [] (row s who p c)
    (row_numbered There s leads who p is c)

-- ---- in every state
-- what a check denies is EACCES or EPERM
denial_named : (name : CheckName) → is_denial (denial_of name) ≡ true
denial_named check.MacRead = refl
denial_named _ = refl

reply_named : (P : List Change → Option Rec → Type 0) (e : End) → EndSatisfies P e → IsNamed (reply_of e)
reply_named P (Stopped name place) h = denial_named name
reply_named P (Refused e) h = h
reply_named P (Done cs answer own) h = tt

pub refusals_are_named : RefusalsAreNamed
refusals_are_named s who c = step_cases s who c (λ o. IsNamed o.reply) (λ _. refl) (λ p is. reply_named _ _ (row_ends AllObjects s (leads_to_all s) who p is c))

stay_drawn_at_end : (s : State) (who : Pid) (e : End) → EndSatisfies (NumberedByCaller AllObjects s who) e → StayDrawn s (state_after s e)
stay_drawn_at_end s who (Stopped name place) h = stay_drawn_itself s
stay_drawn_at_end s who (Refused e) h = stay_drawn_itself s
stay_drawn_at_end s who (Done cs answer own) h = stay_drawn_all AllObjects _ s cs s h.0 (stay_drawn_itself s)

pub drawn_step : DrawnStep
drawn_step s who c =
    step_cases s who c (λ o. StayDrawn s o.state) (λ _. stay_drawn_itself s) (λ p is. stay_drawn_at_end s who _ (row_ends AllObjects s (leads_to_all s) who p is c))

-- ---- in a state in which what leads to an object leads to one that is there
later_at_end : (s : State) → NoDangling s → (who : Pid) (e : End) → EndSatisfies (NumberedByCaller (λ id. IsThere s.objects id) s who) e → IsLaterState s (state_after s e)
later_at_end s no_dangling who (Stopped name place) h = later_itself s no_dangling
later_at_end s no_dangling who (Refused e) h = later_itself s no_dangling
later_at_end s no_dangling who (Done cs answer own) h = later_all _ s cs s h.0 (later_itself s no_dangling)

pub later_after : (s : State) (who : Pid) (c : Call) → NoDangling s → IsLaterState s (step s who c).state
later_after s who c no_dangling =
    step_cases s who c (λ o. IsLaterState s o.state) (λ _. later_itself s no_dangling)
    (λ p is. later_at_end s no_dangling who _ (row_ends (λ id. IsThere s.objects id) s no_dangling who p is c))

pub numbers_step : NumbersStep
numbers_step s who c valid = (later_after s who c (valid_no_dangling s valid)).on

-- ---- over runs
pub no_dangling_after_run : (items : List ScriptItem) (s : State) → NoDangling s → NoDangling (state_after_run s items)
no_dangling_after_run [] s no_dangling = no_dangling
no_dangling_after_run (i ∷ is) s no_dangling = no_dangling_after_run is (step s i.who i.call).state (later_after s i.who i.call no_dangling).no_dangling

go_on_after_run : (items : List ScriptItem) (s : State) → NoDangling s → NumbersGoOn s (state_after_run s items)
go_on_after_run [] s no_dangling = go_on_itself s
go_on_after_run (i ∷ is) s no_dangling =
    let later : IsLaterState s (step s i.who i.call).state = later_after s i.who i.call no_dangling in
    go_on_over s (step s i.who i.call).state (state_after_run (step s i.who i.call).state is) later.on (go_on_after_run is (step s i.who i.call).state later.no_dangling)

state_after_run-append : (s : State) (is js : List ScriptItem) → state_after_run s (is ++ js) ≡ state_after_run (state_after_run s is) js
state_after_run-append s [] js = refl
state_after_run-append s (i ∷ is) js = state_after_run-append (step s i.who i.call).state is js

pub numbers_run : NumbersRun
numbers_run w items more is =
    subst (NumbersGoOn (state_after_run (boot w) items)) (sym (state_after_run-append (boot w) items more))
    (go_on_after_run more (state_after_run (boot w) items) (no_dangling_after_run items (boot w) (valid_no_dangling (boot w) (valid_boot w is))))

pub gone_run : GoneRun
gone_run w items more is = nothing_back (state_after_run (boot w) items) (state_after_run (boot w) (items ++ more)) (numbers_run w items more is)
