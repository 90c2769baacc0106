-- Credentials of a process, and how the state shows that they changed.
use Rattle.std.specs.Prelude.{◌≡◌, None, Some, IsSome, option_map}
use Rattle.std.specs.FinMap as map
use Rattle.std.proofs.Common.{ap, sym, ◌∙◌, subst}
use Rattle.kern_model.specs.declared.numbers.Pid.{Pid}
use Rattle.kern_model.specs.State.{State, process_at}
use Rattle.kern_model.proofs.StateLemmas.{process_there}
use Rattle.proc_creds.specs.Credentials.{Credentials}
use Rattle.proc_table.specs.Procs.{creds_of, under_creds, with_creds}
use Rattle.sys_lookup.specs.Shared.{state_of, with_fds}
use Rattle.sys_lookup.specs.declared.shared.Shared.TheInside.{Inside}
use Rattle.sys_lookup.proofs.LendLemmas.{creds_left, creds_lent, creds_there}
use Rattle.sys_proc.specs.Changing.{state_with_process}

-- the state where a process was left with other credentials
abbrev pub under : Inside → Pid → Credentials → State
under h who c = record (state_of h) { procs = with_fds (under_creds h.procs.procs who c) h.fds.processes }

module _ (h : Inside) (s : State) (is : state_of h ≡ s) (who : Pid) (living : IsSome (map.get s.procs who)) where
  -- those of a living process are lent
  pub some_lent : option_map creds_of (map.get h.procs.procs who) ≡ None → ⊥
  some_lent none = creds_there h.procs.procs h.fds.processes who (subst (λ (t : State). IsSome (map.get t.procs who)) (sym is) living) none

  there : map.get (state_of h).procs who ≡ Some (process_at s who)
  there = ap (λ (t : State). map.get t.procs who) is ∙ process_there s who living

  module _ (lent : Credentials) (value : Some lent ≡ option_map creds_of (map.get h.procs.procs who)) where
    -- what is lent is the process's
    pub lent_is : creds_of (process_at s who) ≡ lent
    lent_is = creds_lent h.procs.procs h.fds.processes who (process_at s who) there lent value

    -- where they are changed, the process is
    pub left_changed : (change : Credentials → Credentials) (new : Credentials) → new ≡ change lent → under h who new ≡ state_with_process s who (λ p. with_creds p (change (creds_of p)))
    left_changed change new made =
        let left : with_fds (under_creds h.procs.procs who new) h.fds.processes ≡ map.insert (state_of h).procs who (with_creds (process_at s who) new) =
        creds_left h.procs.procs h.fds.processes who (process_at s who) there new in
        (λ i. record (state_of h) { procs = left i })
        ∙ (λ i. record (is i) { procs = map.insert (is i).procs who (with_creds (process_at s who) ((made ∙ ap change (sym lent_is)) i)) })
