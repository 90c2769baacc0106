use Rattle.std.proofs.Common.{◌≡◌, ◌∙◌, sym, ap, subst, Bool, IsOk, IsSome, false, inl, inr, refl, true}
use Rattle.std.proofs.lemmas.Result.{IfOk-weaker}
use Rattle.kern_model.specs.declared.calls.CallName.{CallName}
use Rattle.kern_model.specs.Names.{name_of}
use Rattle.kern_model.specs.State.{process_at}
use Rattle.kern_model.specs.Table.{row}
use Rattle.kern_model.proofs.MapLemmas.{never_some}
use Rattle.chk_rules.specs.CheckLog.{CheckLog, check_log}
use Rattle.sys_lookup.specs.Callers.{CallerView, IsLiving}
use Rattle.sys_lookup.specs.PlaysRow.{PlaysRow}
use Rattle.kern_core.specs.Reports.{OutcomeOf}
use Rattle.kern_core.proofs.StepLemmas.{no_process, is_played}
use Rattle.kern_core.proofs.calls.play.Goals as goal

pub returns-in_default-clause-played : goal.returns-in_default-clause-played
returns-in_default-clause-played c =
    let s = c.args.shared.now in
    no_process s c.args.who.now c.args.call.now c.in_default.ensures
    ∙ (λ i. record { state = s; reply = (sym c.no_process.ensures i).reply; recs = (sym c.no_process.ensures i).recs })

pub returns-clause-played : goal.returns-clause-played
returns-clause-played c =
    let s = c.args.shared.now in
    let who = c.args.who.now in
    let call = c.args.call.now in
    let p = process_at s who in
    let is = c.in-Some.ensures.0 in
    let living = subst IsLiving is c.in-Some.ensures.1 in
    let new_log : c.new-checks.result ≡ check_log who p.label p.caps.e = c.new-checks.ensures ∙ (λ i. check_log who (c.label.ensures i) (c.caps.ensures i).e) ∙ ap (λ (k : CallerView). check_log who k.process.label k.process.caps.e) is in
    let from_new = subst (λ (log : CheckLog). PlaysRow s log (row s who p call) c.play_body-played.result c.play_body-played.new.shared c.play_body-played.new.checks) new_log c.play_body-played.ensures.played in
    IfOk-weaker c.report.result _ _ (λ o reports. is_played s who call p living _ _ _ from_new o
    (subst (λ (b : Bool). OutcomeOf c.play_body-played.new.checks who b (name_of call) c.play_body-played.result o) (c.is_audited-audited.ensures ∙ ap (λ (k : CallerView). k.process.audited) is)
    (subst (λ (n : CallName). OutcomeOf c.play_body-played.new.checks who c.is_audited-audited.result n c.play_body-played.result o) c.name.ensures reports))) c.report.ensures.reported

pub returns-in_default-clause-names : goal.returns-in_default-clause-names
returns-in_default-clause-names c = λ living. let no : false ≡ true = subst IsSome c.in_default.ensures living in cc

pub play_body-played-requires-clause-living : goal.play_body-played-requires-clause-living
play_body-played-requires-clause-living c = subst IsSome (sym (subst IsLiving c.in-Some.ensures.0 c.in-Some.ensures.1)) refl

pub returns-clause-ready : goal.returns-clause-ready
returns-clause-ready c = λ takes.
    elim takes as (λ _. IsOk c.report.result) [
      | inl none ↦ absurd (never_some _ _ none (subst IsLiving c.in-Some.ensures.0 c.in-Some.ensures.1))
      | inr is ↦ c.report.ensures.ready (c.play_body-played.ensures.nothing is)
    ]
