use Rattle.std.proofs.Common.{◌≡◌, ap, ◌∙◌, inr, Some}
use Rattle.std.specs.Prelude.{option_map}
use Rattle.std.specs.FinMap as map
use Rattle.kern_model.specs.State.{Process}
use Rattle.proc_creds.specs.Credentials.{Credentials}
use Rattle.proc_table.specs.Procs.{creds_of, set_creds, under_creds, with_creds}
use Rattle.proc_table.specs.contracts.process.Proc.{the_view}
use Rattle.num_table.proofs.Outcomes.{at_some}
use Rattle.proc_table.proofs.LendLemmas.{lent_alike}
use Rattle.proc_table.proofs.living.Living.creds_mut.Goals as goal

pub returns-in-Some : goal.returns-in-Some
returns-in-Some c =
    let procs = c.args.self.now in
    let who = c.args.who.now in
    let there = c.in-Some.ensures.value in
    let left : (w : Credentials) → c.get_mut.follows.lender (with_creds (the_view c.process.inside) w) ≡ under_creds procs who w =
    λ w. at_some c.in-Some.is (c.get_mut.follows.holds (with_creds (the_view c.process.inside) w)) ∙ ap (λ (p : Process). map.insert procs who (with_creds p w)) c.process.view_is ∙ ap (set_creds procs who w) there in
    (lent_alike left, record { writes_back = tt; value = ap (λ (p : Process). option_map creds_of (Some p)) c.process.view_is ∙ ap (option_map creds_of) there })

pub returns-in-None : goal.returns-in-None
returns-in-None c = (ap inr c.get_mut.follows.holds-at-none, record { writes_back = tt; value = ap (option_map creds_of) c.in-None.ensures.value })
