-- Permitted sets grow by exec alone, by the records.
use Rattle.std.specs.Prelude.{◌≡◌, Bool, true, false, ◌&&◌, ◌||◌, List, [], ◌∷◌, ◌++◌, refl, cond}
use Rattle.std.proofs.Common.{sym, ◌∙◌, ap, subst, append_assoc}
use Rattle.std.specs.List.{flat_map}
use Rattle.std.proofs.lemmas.Bool.{true≢false}
use Rattle.cap_bits.specs.CapSet.{CapSet, has, meet_of}
use Rattle.cap_bits.proofs.CapSets.{has-union_of, has-meet_of}
use Rattle.cap_bits.specs.Laws.{within-has}
use Rattle.cap_bits.specs.declared.cap.Cap.{Cap}
use Rattle.cap_bits.specs.declared.state.CapState.{CapState}
use Rattle.cap_bits.specs.State.{no_flags}
use Rattle.lab_lattice.specs.Label.{Label}
use Rattle.kern_model.specs.declared.numbers.Oid.{Oid}
use Rattle.kern_model.specs.declared.numbers.Pid.{Pid}
use Rattle.kern_model.specs.declared.records.Rec.{Rec}
use Rattle.kern_model.specs.declared.records.Rec.TheVariants as rec
use Rattle.kern_model.specs.Exec.{exec_caps, exec_permitted}
use Rattle.kern_model.specs.Keys.{same_pid}
use Rattle.kern_model.proofs.KeyLaws.{pid_cmp_exact}
use Rattle.kern_model.specs.Lineage.{caps_after_one, caps_after, caps_of, origin, ancestor, StartedWith, FromExec}
use Rattle.kern_model.specs.Boot.{boot, boot_recs, objects_loaded}
use Rattle.kern_model.specs.Run.{CallRecord, run}
use Rattle.kern_model.proofs.MapLemmas.{same_key}
use Rattle.iso_laws.specs.Laws.{GrowthByRecords}
use Rattle.iso_laws.proofs.CapsLemmas.{caps_after-append}
use Rattle.iso_laws.proofs.Drops.{Drops, AllDrop, all_drop}
use Rattle.iso_laws.proofs.SinceStart.{all_started}
use Rattle.iso_laws.proofs.StartLemmas.{NoStarts, AreStarts, IsAmong, start_is_among, none_here, after_start, start_once, started_once, run_no_start, start_gives, starts_origin, ancestor-append}

-- what follows where one of two states permits a capability, by the test that chooses the state
by_one : (Q : Type 0) (q k : Pid) (cap : Cap) (new old : CapState) → (q ≡ k → has new.p cap ≡ true → Q) → (has old.p cap ≡ true → Q) → has (cond (same_pid q k) new old).p cap ≡ true → Q
by_one Q q k cap new old f g =
    elim (same_pid q k) as (λ b. same_pid q k ≡ b → has (cond b new old).p cap ≡ true → Q) [
      | true ↦ λ t. f (same_key pid_cmp_exact q k t)
      | false ↦ λ _. g
    ] refl

either_parent : (Q : Type 0) (b : Bool) (f : Pid → CapState) (cap : Cap) (who q : Pid) → (has (f (cond b who q)).p cap ≡ true → Q) → has (cond b (f who) (f q)).p cap ≡ true → Q
either_parent Q true f cap who q g = g
either_parent Q false f cap who q g = g

-- ---- where a capability is from
-- what follows from each way in which a capability comes to be permitted follows where it is permitted after these records
module _ (bound : CapSet) (cap : Cap) (Q : Type 0) where
  abbrev IfPermitted : CapState → Type 0
  IfPermitted caps = has caps.p cap ≡ true → Q

  -- it was permitted to the ancestor before the record, or the record gave it
  following : (f : Pid → CapState) (r : Rec) (q : Pid) → Drops f r → IfPermitted (f (origin r q))
      → ((label : Label) (caps : CapState) → r ≡ rec.Boot q label caps → IfPermitted caps)
      → ((id : Oid) (file new : CapState) → r ≡ rec.Exec q id file new → IfPermitted (exec_caps (f q) file bound))
      → IfPermitted (caps_after_one bound f r q)
  following f (rec.Boot who label caps) q drops before start program = by_one Q q who cap caps (f q) (λ same. start label caps (ap (λ w. rec.Boot w label caps) (sym same))) before
  following f (rec.Fork who child) q drops before start program = either_parent Q (same_pid q child) f cap who q before
  following f (rec.Exec who id file new) q drops before start program = by_one Q q who cap (exec_caps (f q) file bound) (f q) (λ same. program id file new (ap (λ w. rec.Exec w id file new) (sym same))) before
  following f (rec.CapSetProc who caps) q drops before start program =
      by_one Q q who cap caps (f q) (λ same h. before (ap (λ w. has (f w).p cap) same ∙ within-has caps.p (f who).p drops cap h)) before
  following f r q drops before start program = before

  after_all : (f : Pid → CapState) (rs : List Rec) (q : Pid) → AllDrop bound f rs → IfPermitted (f (ancestor rs q))
      → ((before after : List Rec) (label : Label) (caps : CapState) → rs ≡ before ++ rec.Boot (ancestor after q) label caps ∷ after → IfPermitted caps)
      → ((before after : List Rec) (id : Oid) (file new : CapState) → rs ≡ before ++ rec.Exec (ancestor after q) id file new ∷ after → IfPermitted (exec_caps (caps_after bound f before (ancestor after q)) file bound))
      → IfPermitted (caps_after bound f rs q)
  after_all f [] q drops before start program = before
  after_all f (r ∷ rs) q drops before start program =
      after_all (caps_after_one bound f r) rs q drops.1
      (following f r (ancestor rs q) drops.0 before (λ label caps e. start [] rs label caps (ap (λ x. x ∷ rs) e)) (λ id file new e. program [] rs id file new (ap (λ x. x ∷ rs) e)))
      (λ first after label caps e. start (r ∷ first) after label caps (ap (λ xs. r ∷ xs) e))
      (λ first after id file new e. program (r ∷ first) after id file new (ap (λ xs. r ∷ xs) e))

-- the capabilities that the exec formula permits
has-exec_permitted : (old file : CapState) (bound : CapSet) (cap : Cap) → has (exec_permitted old file bound) cap ≡ (has file.p cap && has bound cap || has file.i cap && has old.i cap)
has-exec_permitted old file bound cap =
    has-union_of (meet_of file.p bound) (meet_of file.i old.i) cap ∙ (λ i. has-meet_of file.p bound cap i || has-meet_of file.i old.i cap i)

drops_after : (bound : CapSet) (f : Pid → CapState) (xs ys : List Rec) → AllDrop bound f (xs ++ ys) → AllDrop bound (caps_after bound f xs) ys
drops_after bound f [] ys h = h
drops_after bound f (x ∷ xs) ys h = drops_after bound (caps_after_one bound f x) xs ys h.1

-- ---- records of which the first are starts of one process each, and no other is a start
module _ (bound : CapSet) (first others : List Rec) (starts : AreStarts first) (none : NoStarts others) (drops : AllDrop bound (λ _. no_flags) (first ++ others)) where
  abbrev Recs : List Rec
  Recs = first ++ others

  abbrev at_start : Pid → CapState
  at_start q = caps_of bound first q

  -- a capability that the exec formula gives at a record after the starts is from a program
  given_later : (q : Pid) (cap : Cap) (before after : List Rec) (id : Oid) (file new : CapState) → others ≡ before ++ rec.Exec (ancestor after q) id file new ∷ after
      → has (exec_caps (caps_after bound at_start before (ancestor after q)) file bound).p cap ≡ true → FromExec bound Recs q cap
  given_later q cap before after id file new e h =
      let before_is : caps_of bound (first ++ before) (ancestor after q) ≡ caps_after bound at_start before (ancestor after q) = caps_after-append bound (λ _. no_flags) first before (ancestor after q) in
      record {
        before = first ++ before;
        after = after;
        id = id;
        file = file;
        new = new;
        split = ap (λ xs. first ++ xs) e ∙ sym (append_assoc first before (rec.Exec (ancestor after q) id file new ∷ after));
        given = ap (λ (c : CapState). has file.p cap && has bound cap || has file.i cap && has c.i cap) before_is
            ∙ sym (has-exec_permitted (caps_after bound at_start before (ancestor after q)) file bound cap) ∙ h;
      }

  -- the starts give the ancestor of a process the sets that it started with
  started_with : (q : Pid) (caps : CapState) → StartedWith Recs q caps → at_start (ancestor others q) ≡ caps
  started_with q caps with =
      let who : Pid = ancestor with.after q in
      let is : IsAmong first others with.before (rec.Boot who with.label caps) with.after = start_is_among first others with.before who with.label caps with.after none with.split in
      let starts' : AreStarts (with.before ++ rec.Boot who with.label caps ∷ is.rest) = subst AreStarts is.first_is starts in
      let who_is : who ≡ ancestor others q =
      ap (λ xs. ancestor xs q) is.after_is ∙ ancestor-append is.rest others q ∙ starts_origin who (ancestor others q) is.rest (after_start with.before (rec.Boot who with.label caps) is.rest starts') in
      ap at_start (sym who_is) ∙ ap (λ xs. caps_of bound xs who) is.first_is ∙ start_gives bound (λ _. no_flags) with.before who with.label caps is.rest starts'

  -- a permitted capability that the ancestor of a process did not start with is from a program
  grown_since : (q : Pid) (cap : Cap) (caps : CapState) → has (caps_of bound Recs q).p cap ≡ true → StartedWith Recs q caps → has caps.p cap ≡ false → FromExec bound Recs q cap
  grown_since q cap caps h with without =
      after_all bound cap (FromExec bound Recs q cap) at_start others q (drops_after bound (λ _. no_flags) first others drops)
      (λ had. absurd (true≢false (sym had ∙ ap (λ (c : CapState). has c.p cap) (started_with q caps with) ∙ without)))
      (λ before after label caps' e. absurd (none_here before (rec.Boot (ancestor after q) label caps') after (subst NoStarts e none)))
      (given_later q cap)
      (ap (λ (c : CapState). has c.p cap) (sym (caps_after-append bound (λ _. no_flags) first others q)) ∙ h)

pub growth_by_records : GrowthByRecords
growth_by_records w items =
    let later : List Rec = flat_map (λ (p : CallRecord). p.recs) (run (boot w) items) in
    let starts : AreStarts (boot_recs w) = started_once w.procs (objects_loaded w) in
    let none : NoStarts later = run_no_start items (boot w) in
    record { start_once = start_once (boot_recs w) later starts none; started = all_started w items; grown = grown_since w.bound (boot_recs w) later starts none (all_drop w items) }
