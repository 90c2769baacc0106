-- What a descriptor of a process refers to.
use Rattle.std.specs.Prelude.{◌≡◌, ℕ, ◌+◌, ◌≤◌, ◌<◌, nat_le, true, false, Option, None, Some, IsSome, Result, refl}
use Rattle.std.specs.Option.{option_and_then, option_map}
use Rattle.std.specs.Ordering.{nat_cmp}
use Rattle.std.specs.FinMap as map
use Rattle.std.proofs.Common.{ap, arith, leb-false, leb-true, subst, sym, ◌∙◌}
use Rattle.kern_model.specs.declared.numbers.Did.{Did}
use Rattle.kern_model.specs.declared.limits.TheConstants.{MAX_DESCRIPTORS}
use Rattle.kern_model.specs.declared.numbers.Oid.{Oid}
use Rattle.kern_model.specs.declared.numbers.Pid.{Pid}
use Rattle.kern_model.specs.Descriptors.{Opened, open_description}
use Rattle.kern_model.specs.Row.{Row}
use Rattle.kern_model.specs.State.{State, Process, Description, process_at, stub_process}
use Rattle.chk_rules.specs.CheckLog.{CheckLog}
use Rattle.chk_rules.specs.RowSteps.{GoesOn}
use Rattle.chk_rules.specs.declared.stop.Stop.{Stop}
use Rattle.kern_model.proofs.MapLemmas.{get_or-absent, never_some, some_same}
use Rattle.kern_model.proofs.StateLemmas.{process_is, process_there}
use Rattle.sys_lookup.specs.Callers.{CallerView, caller_in}
use Rattle.sys_lookup.specs.declared.shared.Shared.TheInside.{Inside}
use Rattle.sys_lookup.specs.Shared.{state_of}
use Rattle.sys_lookup.proofs.FdLemmas.{StandsIn, stands_in}
use Rattle.sys_lookup.proofs.OpenedLemmas.{RefersInTables, refers_to}
use Rattle.sys_lookup.proofs.StandsLemmas.{opened_is}

-- something is there
pub record Holds {X : Type 0} (w : Option X) : Type 0 where
  pub value : X
  pub is : w ≡ Some value

pub holds : {X : Type 0} (w : Option X) → IsSome w → Holds w
holds None there = let no : false ≡ true = there in absurd (cc)
holds (Some x) there = record { value = x; is = refl }

-- what is open for a caller is open
pub open_of : {k : CallerView} {s : State} {who : Pid} (fd : ℕ) (f : Opened) → k ≡ caller_in s who → open_description k.state k.process fd ≡ Some f → open_description s (process_at s who) fd ≡ Some f
open_of fd f same found = ap (λ (x : CallerView). open_description x.state x.process fd) (sym same) ∙ found

-- what a descriptor refers to is there
pub described : (s : State) (p : Process) (fd : ℕ) (f : Opened) → open_description s p fd ≡ Some f → map.get s.descriptions f.did ≡ Some f.description
unfolding open_description
described s p fd f =
    elim (map.get p.fds fd) as (λ w. option_and_then (λ did. option_map (λ (d : Description). record { did = did; description = d }) (map.get s.descriptions did)) w ≡ Some f → map.get s.descriptions f.did ≡ Some f.description) [
      | None ↦ λ h. absurd (never_some None f refl h)
      | Some did ↦
          elim (map.get s.descriptions did) as (λ w. map.get s.descriptions did ≡ w → option_map (λ (d : Description). record { did = did; description = d }) w ≡ Some f → map.get s.descriptions f.did ≡ Some f.description) [
            | None ↦ λ _ h. absurd (never_some None f refl h)
            | Some d ↦ λ is h. subst (λ (x : Opened). map.get s.descriptions x.did ≡ Some x.description) (some_same _ f h) is
          ] refl
    ]

-- a process with a descriptor that is open is living
pub opener_there : (s : State) (who : Pid) (fd : ℕ) (f : Opened) → open_description s (process_at s who) fd ≡ Some f → map.get s.procs who ≡ Some (process_at s who)
unfolding open_description
opener_there s who fd f is =
    elim (map.get s.procs who) as (λ w. map.get s.procs who ≡ w → map.get s.procs who ≡ Some (process_at s who)) [
      | None ↦ λ none.
          let none_open = ap (option_and_then (λ did. option_map (λ (d : Description). record { did = did; description = d }) (map.get s.descriptions did))) (map.get-empty {X = Did} nat_cmp fd) in
          absurd (never_some (open_description s (process_at s who) fd) f (ap (λ (p : Process). open_description s p fd) (get_or-absent s.procs who (stub_process s.top) none) ∙ none_open) is)
      | Some p ↦ λ e. e ∙ ap (λ (x : Process). Some x) (sym (process_is s who p e))
    ] refl

-- a living process stands in the table
pub caller_stands : (h : Inside) {s : State} → state_of h ≡ s → (who : Pid) → IsSome (map.get s.procs who) → StandsIn h.procs.procs h.fds.processes who (process_at s who)
caller_stands h {s} is who living = stands_in h.procs.procs h.fds.processes who (process_at s who) (ap (λ (x : State). map.get x.procs who) is ∙ process_there s who living)

-- What is open in a state stands in the tables that it is made of.
module _ (h : Inside) {s : State} (is : state_of h ≡ s) (who : Pid) (fd : ℕ) (f : Opened) (found : open_description s (process_at s who) fd ≡ Some f) where
  pub opener : StandsIn h.procs.procs h.fds.processes who (process_at s who)
  opener = stands_in h.procs.procs h.fds.processes who (process_at s who) (ap (λ (x : State). map.get x.procs who) is ∙ opener_there s who fd f found)

  pub referred : RefersInTables h.fds who fd f
  referred = refers_to h.fds who fd f (opened_is h (caller_in s who) is (opener_there s who fd f found) fd ∙ found)

-- one more descriptor is free
pub one_is_free : (n : ℕ) → nat_le (n + 1) MAX_DESCRIPTORS ≡ true → n < MAX_DESCRIPTORS
one_is_free n h = omega (arith, leb-true (n + 1) MAX_DESCRIPTORS h)

-- and where none is, all are open
pub none_is_free : (n : ℕ) → nat_le (n + 1) MAX_DESCRIPTORS ≡ false → MAX_DESCRIPTORS ≤ n
none_is_free n h = omega (arith, leb-false (n + 1) MAX_DESCRIPTORS h)

-- a step on an object is one on an equal one
pub step_at : {X : Type 0} (part : Oid → (X → Row) → Row) {a b : CheckLog} {r : Result X Stop} {id at : Oid} → id ≡ at → GoesOn a (part id) r b → GoesOn a (part at) r b
step_at part {a} {b} {r} same step = subst (λ x. GoesOn a (part x) r b) same step
