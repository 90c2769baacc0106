-- What a walk refuses.
use Rattle.std.specs.Prelude.{◌≡◌, ℕ, ◌+◌, Bool, true, false, List, [], ◌∷◌, Option, None, Some, Err, cond, not}
use Rattle.std.proofs.Common.{ap, inl, inr}
use Rattle.fs_path.specs.Name.{Name}
use Rattle.kern_model.specs.declared.calls.Answer.TheVariants.{Nothing}
use Rattle.kern_model.specs.declared.calls.Errno.{Errno}
use Rattle.kern_model.specs.declared.calls.Errno.TheVariants.{ENOTDIR, ENOENT}
use Rattle.kern_model.specs.declared.checks.Check.{Check}
use Rattle.kern_model.specs.declared.checks.Place.{Place}
use Rattle.kern_model.specs.declared.numbers.Oid.{Oid}
use Rattle.kern_model.specs.declared.records.Rec.{Rec}
use Rattle.kern_model.specs.Kinds.{is_dir}
use Rattle.kern_model.specs.Row.{Row, Need, Refuse, Commit, Subject, Stopped, Refused, Done, check_outcome, judge, is_denied, exercises_after, verdict_of}
use Rattle.kern_model.specs.Rules.{mac_read, dac_search}
use Rattle.kern_model.specs.State.{State, Process, look, object_at}
use Rattle.kern_model.specs.Walk.{Found, Start, Entry, enter, or_missing, walk_from}
use Rattle.chk_rules.specs.CheckLog.{CheckLog}
use Rattle.chk_rules.specs.RowSteps.{EndsBy, GoesOn}
use Rattle.chk_rules.specs.declared.stop.Stop.{Stop}
use Rattle.chk_rules.specs.declared.stop.Stop.TheVariants as stop
use Rattle.sys_lookup.specs.WalkStops.{IsWalkStop}

-- where the row ends in a refusal, a walk may refuse so
record RefusesSo (r : Row) : Type 0 where
  so : (a : Subject) (used : List Rec) (e : Errno) → (judge a used r).end ≡ Refused e → IsWalkStop (stop.Refused e)

so_need : (c : Check) (r : Row) → RefusesSo r → RefusesSo (Need c r)
unfolding judge
so_need c r rest = record {
  so = λ a used e.
      elim (is_denied (verdict_of a c)) as (λ b. (cond b (check_outcome used (Stopped c.name c.place)) (judge a (exercises_after a c (verdict_of a c) used) r)).end ≡ Refused e → IsWalkStop (stop.Refused e)) [
        | true ↦ λ (h : Stopped c.name c.place ≡ Refused e). absurd (cc)
        | false ↦ λ h. rest.so a (exercises_after a c (verdict_of a c) used) e h
      ];
}

so_kind : (is : Bool) (r : Row) → RefusesSo r → RefusesSo (Refuse ENOTDIR (not is) r)
unfolding judge
so_kind is r rest = record {
  so = λ a used e.
      elim (not is) as (λ b. (cond b (check_outcome used (Refused ENOTDIR)) (judge a used r)).end ≡ Refused e → IsWalkStop (stop.Refused e)) [
        | true ↦ λ (h : Refused ENOTDIR ≡ Refused e). inl (cc)
        | false ↦ λ h. rest.so a used e h
      ];
}

so_enter : (s : State) (p : Process) (dir : Oid) (place : Place) (r : Row) → RefusesSo r → RefusesSo (enter s p dir place r)
so_enter s p dir place r rest = so_need (mac_read s p dir place) _ (so_kind (is_dir (object_at s dir).kind) _ (so_need (dac_search s p dir place) r rest))

so_missing : (object : Option Oid) (k : Oid → Row) → ((id : Oid) → RefusesSo (k id)) → RefusesSo (or_missing object k)
unfolding judge
so_missing None k rest = record { so = λ a used e (h : Refused ENOENT ≡ Refused e). inr (cc) }
so_missing (Some id) k rest = rest id

so_walk : (s : State) (p : Process) (place : ℕ → Place) (at : ℕ) (dir : Oid) (names : List Name) (k : Found → Row) → ((found : Found) → RefusesSo (k found)) → RefusesSo (walk_from s p place at dir names k)
so_walk s p place at dir [] k rest = rest (Start dir)
so_walk s p place at dir (name ∷ []) k rest = so_enter s p dir (place at) _ (rest (Entry dir name (look s dir name)))
so_walk s p place at dir (name ∷ next ∷ names) k rest =
    so_enter s p dir (place at) _ (so_missing (look s dir name) _ (λ id. so_walk s p place (at + 1) id (next ∷ names) k rest))

so_commit : RefusesSo (Commit [] Nothing None)
unfolding judge
so_commit = record { so = λ a used e (h : Done [] Nothing None ≡ Refused e). absurd (cc) }

-- a walk that stops a call stops it so
pub stops_so : (a b : CheckLog) (s : State) (p : Process) (place : ℕ → Place) (at : ℕ) (dir : Oid) (names : List Name) (how : Stop) → GoesOn a (walk_from s p place at dir names) (Err how) b → IsWalkStop how
unfolding EndsBy
stops_so a b s p place at dir names (stop.Denied name there) step = tt
stops_so a b s p place at dir names (stop.Refused e) step =
    (so_walk s p place at dir names (λ _. Commit [] Nothing None) (λ _. so_commit)).so a.subject a.used e (ap (λ j. j.end) (step.stops (λ _. Commit [] Nothing None)))
stops_so a b s p place at dir names (stop.NoMemory m) step = tt
