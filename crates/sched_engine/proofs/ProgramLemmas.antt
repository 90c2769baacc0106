-- Which processes have a program, and what a further line does to programs.
use Rattle.std.proofs.Common.{◌≡◌, ◌<◌, ◌≤◌, ◌&&◌, ◌||◌, not, Bool, true, false, cond, List, [], ◌∷◌, ◌++◌, length, refl, sym, ◌∙◌, ap, subst, Option, Some, None}
use Rattle.std.specs.Prelude.{nat_lt, option_map, option_to_list, IfSome}
use Rattle.std.specs.BTreeSet as set
use Rattle.std.specs.BTreeSet.{BTreeSet, contains}
use Rattle.std.specs.Cmp.{eq_by_cmp_equiv}
use Rattle.std.specs.List.{list_all}
use Rattle.std.proofs.lemmas.Bool.{and_parts, and_from, or_parts, le-ltb, lt-ltb}
use Rattle.std.proofs.lemmas.List.{append-nil}
use Rattle.std.proofs.lemmas.List.Folds.{list_any-append}
use Rattle.kern_model.specs.declared.numbers.Pid.{Pid}
use Rattle.kern_model.specs.Keys.{pid_cmp, same_pid}
use Rattle.kern_model.proofs.KeyLaws.{pid_cmp_total}
use Rattle.lab_lattice.specs.Label.{Label}
use Rattle.script_text.specs.declared.step.ProgStep.{ProgStep}
use Rattle.sched_progs.specs.declared.program.Program.{Program}
use Rattle.kern_model.specs.declared.calls.Call.{Call}
use Rattle.kern_model.specs.Arguments.{has_names, is_call}
use Rattle.sched_progs.specs.Programs.{Programs, are_programs, call_passes, calls_pass, have_names}
use Rattle.sched_engine.specs.declared.programs.TheConstants.{MAX_STEPS}
use Rattle.sched_engine.specs.Programs.{AreOwners, are_distinct, has_program, program_of, with_program, with_step}

-- ---- lists

all_end : {X : Type 0} (p : X → Bool) (xs : List X) (x : X) → list_all p xs ≡ true → p x ≡ true → list_all p (xs ++ x ∷ []) ≡ true
all_end p [] x all this = and_from (p x) true this refl
all_end p (y ∷ ys) x all this = let both = and_parts (p y) (list_all p ys) all in and_from (p y) (list_all p (ys ++ x ∷ [])) both.0 (all_end p ys x both.1 this)

or_false : (b : Bool) → (b || false) ≡ b
or_false true = refl
or_false false = refl

-- a value that is there where a test passes, or where it does not
pub where_true : {X : Type 0} (b : Bool) (x : X) (P : X → Type 0) → (b ≡ true → P x) → IfSome (cond b (Some x) None) P
where_true true x P p = p refl
where_true false x P p = tt

where_false : {X : Type 0} (b : Bool) (x : X) (P : X → Type 0) → (b ≡ false → P x) → IfSome (cond b None (Some x)) P
where_false true x P p = tt
where_false false x P p = p refl

-- ---- which processes have a program

has_end : (programs : Programs) (p : Pid × Program) (q : Pid) → has_program (programs ++ p ∷ []) q ≡ (has_program programs q || same_pid p.0 q)
has_end programs p q = list_any-append (λ (e : Pid × Program). same_pid e.0 q) programs (p ∷ []) ∙ ap (λ b. has_program programs q || b) (or_false (same_pid p.0 q))

same_back : (p q : Pid) → same_pid p q ≡ same_pid q p
same_back p q = (eq_by_cmp_equiv pid_cmp_total).symm p q

-- no process has one at first
pub no_owners : (owners : BTreeSet Pid) → set.IsEmpty owners → AreOwners [] None owners
no_owners owners none = record { first = λ h. refl; have = λ q. ap (λ (ks : List Pid). contains pid_cmp (record { keys = ks }) q) none }

-- a process asks for a program
module _ (programs earlier : Programs) (last : Option (Pid × Program)) (owners : BTreeSet Pid) (who : Pid) (known : AreOwners earlier last owners) (view : earlier ++ option_to_list last ≡ programs) where
  owner_is : contains pid_cmp owners who ≡ has_program programs who
  owner_is = known.have who ∙ ap (λ (ps : Programs). has_program ps who) view

  -- it has one
  pub program_refused : (added : Bool) → added ≡ not (contains pid_cmp owners who) → added ≡ false → with_program programs who ≡ None
  program_refused added is none = ap (λ b. cond b None (Some (programs ++ program_of who [] ∷ []))) (sym owner_is ∙ from_not (contains pid_cmp owners who) (sym is ∙ none))
    where
      from_not : (b : Bool) → not b ≡ false → b ≡ true
      from_not true e = refl
      from_not false e = absurd (cc)

  -- it gets the empty one
  module _ (steps : List ProgStep) (empty : steps ≡ []) (next : Programs) (last' : Option (Pid × Program)) (first : next ≡ earlier ++ option_to_list last) (second : last' ≡ Some (program_of who steps)) where
    abbrev added_last : Option (Pid × Program)
    added_last = Some (program_of who [])

    last_is : last' ≡ added_last
    last_is = second ∙ ap (λ (made : List ProgStep). Some (program_of who made)) empty

    pub program_added : (added : Bool) → added ≡ not (contains pid_cmp owners who) → added ≡ true → with_program programs who ≡ Some (next ++ option_to_list last')
    program_added added is new =
        ap (λ b. cond b None (Some (programs ++ program_of who [] ∷ []))) (sym owner_is ∙ from_not (contains pid_cmp owners who) (sym is ∙ new))
        ∙ ap (λ (ps : Programs). Some (ps ++ program_of who [] ∷ [])) (sym (first ∙ view))
        ∙ ap (λ (l : Option (Pid × Program)). Some (next ++ option_to_list l)) (sym last_is)
      where
        from_not : (b : Bool) → not b ≡ true → b ≡ false
        from_not true e = absurd (cc)
        from_not false e = refl

    pub more_owners : (owners' : BTreeSet Pid) → ((q : Pid) → contains pid_cmp owners' q ≡ cond (same_pid who q) true (contains pid_cmp owners q)) → AreOwners next last' owners'
    more_owners owners' updates = subst (λ (l : Option (Pid × Program)). AreOwners next l owners') (sym last_is) (record {
      first = λ h. absurd (cc);
      have = λ q.
          updates q
          ∙ ap (λ b. cond (same_pid who q) true b) (known.have q)
          ∙ as_or (same_pid who q) (has_program (earlier ++ option_to_list last) q)
          ∙ sym (has_end (earlier ++ option_to_list last) (program_of who []) q)
          ∙ ap (λ (ps : Programs). has_program (ps ++ program_of who [] ∷ []) q) (sym first);
    })
      where
        as_or : (a b : Bool) → cond a true b ≡ (b || a)
        as_or true true = refl
        as_or true false = refl
        as_or false b = sym (or_false b)

-- the earlier programs, and the last one after them
pub then_none : (earlier : Programs) (w last : Option (Pid × Program)) → w ≡ last → w ≡ None → earlier ≡ earlier ++ option_to_list last
then_none earlier w last same none = sym (append-nil earlier) ∙ ap (λ (l : Option (Pid × Program)). earlier ++ option_to_list l) (sym none ∙ same)

pub then_last : (earlier next : Programs) (w last : Option (Pid × Program)) (p : Pid × Program) → w ≡ last → w ≡ Some p → next ≡ earlier ++ p ∷ [] → next ≡ earlier ++ option_to_list last
then_last earlier next w last p same some is = is ∙ ap (λ (l : Option (Pid × Program)). earlier ++ option_to_list l) (sym some ∙ same)

-- the last program gets a step
pub same_owners : (earlier : Programs) (last : Option (Pid × Program)) (owners : BTreeSet Pid) (who : Pid) (steps more : List ProgStep)
    → last ≡ Some (program_of who steps) → AreOwners earlier last owners → AreOwners earlier (Some (program_of who more)) owners
same_owners earlier last owners who steps more is known = record {
  first = λ h. absurd (cc);
  have = λ q.
      known.have q
      ∙ ap (λ (l : Option (Pid × Program)). has_program (earlier ++ option_to_list l) q) is
      ∙ has_end earlier (program_of who steps) q
      ∙ sym (has_end earlier (program_of who more) q);
}

-- ---- a step more

with_first : (p : Pid × Program) (b : Bool) (ps : Programs) → option_map (λ (more : Programs). p ∷ more) (cond b (Some ps) None) ≡ cond b (Some (p ∷ ps)) None
with_first p true ps = refl
with_first p false ps = refl

-- where there is a last program
pub step_last : (earlier : Programs) (who : Pid) (steps : List ProgStep) (made : ProgStep)
    → with_step (earlier ++ program_of who steps ∷ []) made ≡ cond (nat_lt (length steps) MAX_STEPS) (Some (earlier ++ program_of who (steps ++ made ∷ []) ∷ [])) None
step_last [] who steps made = refl
step_last (p ∷ []) who steps made = with_first p (nat_lt (length steps) MAX_STEPS) (program_of who (steps ++ made ∷ []) ∷ [])
step_last (p ∷ e ∷ earlier) who steps made =
    ap (option_map (λ (more : Programs). p ∷ more)) (step_last (e ∷ earlier) who steps made)
    ∙ with_first p (nat_lt (length steps) MAX_STEPS) (e ∷ earlier ++ program_of who (steps ++ made ∷ []) ∷ [])

-- a step goes to the last program, where there is one
module _ (programs earlier : Programs) (last : Option (Pid × Program)) (who : Pid) (steps : List ProgStep) (made : ProgStep) (some : last ≡ Some (program_of who steps)) (view : earlier ++ option_to_list last ≡ programs) where
  at_last : with_step programs made ≡ cond (nat_lt (length steps) MAX_STEPS) (Some (earlier ++ program_of who (steps ++ made ∷ []) ∷ [])) None
  at_last = ap (λ (ps : Programs). with_step ps made) (sym (ap (λ (l : Option (Pid × Program)). earlier ++ option_to_list l) (sym some) ∙ view)) ∙ step_last earlier who steps made

  -- it has room
  pub step_added : (more items : List ProgStep) → more ≡ steps ++ made ∷ [] → items ≡ steps → length items < MAX_STEPS → Some (earlier ++ program_of who more ∷ []) ≡ with_step programs made
  step_added more items is same room =
      ap (λ (ms : List ProgStep). Some (earlier ++ program_of who ms ∷ [])) is
      ∙ sym (at_last ∙ ap (λ b. cond b (Some (earlier ++ program_of who (steps ++ made ∷ []) ∷ [])) None) (lt-ltb (length steps) MAX_STEPS (subst (λ (ms : List ProgStep). length ms < MAX_STEPS) same room)))

  -- it has none
  pub step_refused : (items : List ProgStep) → items ≡ steps → MAX_STEPS ≤ length items → None ≡ with_step programs made
  step_refused items same full =
      sym (at_last ∙ ap (λ b. cond b (Some (earlier ++ program_of who (steps ++ made ∷ []) ∷ [])) None) (le-ltb (length steps) MAX_STEPS (subst (λ (ms : List ProgStep). MAX_STEPS ≤ length ms) same full)))

-- what it keeps of the programs, where the calls of the step pass a test
record StepKeeps (test : Call → Bool) (programs more : Programs) : Type 0 where
  has : (q : Pid) → has_program more q ≡ has_program programs q
  distinct : are_distinct more ≡ are_distinct programs
  passes : calls_pass test programs ≡ true → calls_pass test more ≡ true

module _ (test : Call → Bool) (made : ProgStep) (may : call_passes test made ≡ true) where
  step_keeps : (programs : Programs) → IfSome (with_step programs made) (StepKeeps test programs)
  step_keeps [] = tt
  step_keeps (p ∷ []) = where_true (nat_lt (length p.1.steps) MAX_STEPS) _ (StepKeeps test (p ∷ [])) (λ t. record {
    has = λ q. refl;
    distinct = refl;
    passes = λ all. and_from _ true (all_end (call_passes test) p.1.steps made (and_parts (list_all (call_passes test) p.1.steps) true all).0 may) refl;
  })
  step_keeps (p ∷ e ∷ ps) = kept (with_step (e ∷ ps) made) (step_keeps (e ∷ ps))
    where
      kept : (w : Option Programs) → IfSome w (StepKeeps test (e ∷ ps)) → IfSome (option_map (λ (more : Programs). p ∷ more) w) (StepKeeps test (p ∷ e ∷ ps))
      kept None k = tt
      kept (Some more) k = record {
        has = λ q. ap (λ b. same_pid p.0 q || b) (k.has q);
        distinct = (λ i. not (k.has p.0 i) && k.distinct i);
        passes = λ all. let both = and_parts (list_all (call_passes test) p.1.steps) (calls_pass test (e ∷ ps)) all in and_from (list_all (call_passes test) p.1.steps) (calls_pass test more) both.0 (k.passes both.1);
      }

-- ---- what may be played

-- programs that may be played, of which no process has two
pub record MayRun (top : Label) (programs : Programs) : Type 0 where
  pub plays : are_programs top programs ≡ true
  pub names : have_names programs ≡ true
  pub distinct : are_distinct programs ≡ true

pub step_may_run : (top : Label) (made : ProgStep) → call_passes (is_call top) made ≡ true → call_passes has_names made ≡ true → (programs : Programs) → MayRun top programs → IfSome (with_step programs made) (MayRun top)
step_may_run top made may named programs run = with_it (with_step programs made) (step_keeps (is_call top) made may programs) (step_keeps has_names made named programs)
  where
    with_it : (w : Option Programs) → IfSome w (StepKeeps (is_call top) programs) → IfSome w (StepKeeps has_names programs) → IfSome w (MayRun top)
    with_it None k n = tt
    with_it (Some more) k n = record { plays = k.passes run.plays; names = n.passes run.names; distinct = k.distinct ∙ run.distinct }

distinct_end : (programs : Programs) (who : Pid) → are_distinct programs ≡ true → has_program programs who ≡ false → are_distinct (programs ++ program_of who [] ∷ []) ≡ true
distinct_end [] who distinct none = refl
distinct_end (p ∷ ps) who distinct none =
    let both = and_parts (not (has_program ps p.0)) (are_distinct ps) distinct in
    let others = or_parts (same_pid p.0 who) (has_program ps who) none in
    let apart : has_program (ps ++ program_of who [] ∷ []) p.0 ≡ has_program ps p.0 =
    has_end ps (program_of who []) p.0 ∙ ap (λ b. has_program ps p.0 || b) (same_back who p.0 ∙ others.0) ∙ or_false (has_program ps p.0) in
    and_from (not (has_program (ps ++ program_of who [] ∷ []) p.0)) (are_distinct (ps ++ program_of who [] ∷ [])) (ap not apart ∙ both.0) (distinct_end ps who both.1 others.1)

pub program_may_run : (top : Label) (programs : Programs) (who : Pid) → MayRun top programs → IfSome (with_program programs who) (MayRun top)
program_may_run top programs who run = where_false (has_program programs who) _ (MayRun top) (λ none. record {
  plays = all_end (λ (p : Pid × Program). list_all (call_passes (is_call top)) p.1.steps) programs (program_of who []) run.plays refl;
  names = all_end (λ (p : Pid × Program). list_all (call_passes has_names) p.1.steps) programs (program_of who []) run.names refl;
  distinct = distinct_end programs who run.distinct none;
})
