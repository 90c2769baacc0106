use Rattle.std.proofs.Common.{ap, arith, length, refl, sym, ◌∙◌}
use Rattle.sched_engine.specs.Reporting.{is_all}
use Rattle.sched_engine.proofs.ItemLemmas.{all_known, hold_more, hold_stop, no_item, none_known, one_more, only_one, stop_counts}
use Rattle.sched_engine.proofs.reporting.ProgramReporterWatch.saw.Goals as goal

pub report_next-requires-clause-all : goal.report_next-requires-clause-all
report_next-requires-clause-all g c = all_known _ (c.args.self.now.going c.requires.going).0

pub report_next-requires-clause-seen : goal.report_next-requires-clause-seen
report_next-requires-clause-seen g c = let going = c.args.self.now.going c.requires.going in (going.1, none_known _ going.2)

pub invariant_of-self : goal.invariant_of-self
invariant_of-self g c = record { going = λ none. let r = c.in-Ok.ensures in (ap is_all r.kept, r.shown.0 ∙ sym r.number, ap length r.shown.1, (c.args.self.now.going none).3) }

pub returns-in-Ok-clause-saw : goal.returns-in-Ok-clause-saw
returns-in-Ok-clause-saw g c = record { ok = (one_more _ _ _ _ _ c.with-self.ensures, c.requires.going); err = tt }

pub returns-in-Ok-clause-rest : goal.returns-in-Ok-clause-rest
returns-in-Ok-clause-rest g c =
    let r = c.in-Ok.ensures in
    (r.same, λ out trail held. hold_more _ _ r.same.0 _ _ _ _ _ _ _ _ _ _ c.requires.going _ held _ _ r.number (one_more _ _ _ _ _ c.with-self.ensures) r.readable r.writes)

pub invariant_of-self-in-Err : goal.invariant_of-self-in-Err
invariant_of-self-in-Err g c = record { going = λ none. absurd (no_item _ (sym (only_one _ _ _ _ _ c.with-self-in-Err.ensures c.requires.going) ∙ none)) }

pub returns-in-Err-clause-saw : goal.returns-in-Err-clause-saw
returns-in-Err-clause-saw g c = record { ok = tt; err = (refl, only_one _ _ _ _ _ c.with-self-in-Err.ensures c.requires.going) }

pub returns-in-Err-clause-rest : goal.returns-in-Err-clause-rest
returns-in-Err-clause-rest g c =
    let r = c.in-Err.ensures in
    let no_fault = (c.args.self.now.going c.requires.going).3 in
    (r.same, λ out trail held. hold_stop _ _ r.same.0 _ _ _ _ _ _ _ _ _ _ c.requires.going _ held _ _ no_fault (only_one _ _ _ _ _ c.with-self-in-Err.ensures c.requires.going) r.writes)

pub returns-in-Err-clause-later : goal.returns-in-Err-clause-later
returns-in-Err-clause-later g c = let no_fault = (c.args.self.now.going c.requires.going).3 in omega (arith, no_fault)

pub returns-in-Err-clause-cause : goal.returns-in-Err-clause-cause
returns-in-Err-clause-cause g c = λ is.
    let no_fault = (c.args.self.now.going c.requires.going).3 in
    let counts = stop_counts c.in-Err.fault (sym c.sched_fault.ensures ∙ is) in
    omega (arith, no_fault, counts)
