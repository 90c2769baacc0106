-- A capability that only processes with some labels may have: what calls do keeps it from the others.
use Rattle.std.specs.Prelude.{◌≡◌, ◌&&◌, ◌||◌, not, Bool, true, false, None, Some, refl, cond}
use Rattle.std.specs.FinMap as map
use Rattle.std.proofs.Common.{sym, ◌∙◌, ap, subst, inl, inr}
use Rattle.std.proofs.lemmas.Bool.{and_parts, or_cases, false_from_ne_true, or_from, true≢false}
use Rattle.cap_bits.specs.CapSet.{CapSet, has, is_empty, is_within, meet_of, no_caps, union_of}
use Rattle.cap_bits.specs.FileCaps.{caps_by, no_file_caps, shown}
use Rattle.cap_bits.specs.Laws.{within-has}
use Rattle.cap_bits.specs.declared.cap.Cap.{Cap}
use Rattle.cap_bits.specs.declared.file_caps.FileCaps.{FileCaps}
use Rattle.cap_bits.specs.declared.state.CapState.{CapState}
use Rattle.cap_bits.proofs.CapSets.{has-meet_of, has-no_caps, has-union_of}
use Rattle.lab_lattice.specs.Label.{Label}
use Rattle.kern_model.specs.declared.checks.Check.{Check}
use Rattle.kern_model.specs.declared.checks.Place.{Place}
use Rattle.kern_model.specs.declared.numbers.Oid.{Oid}
use Rattle.kern_model.specs.declared.numbers.Pid.{Pid}
use Rattle.kern_model.specs.Exec.{exec_caps, exec_permitted}
use Rattle.kern_model.specs.Row.{Subject, may}
use Rattle.kern_model.specs.Rules.{cap_grow, cap_of, cap_within, mac_change_of, mac_read, mac_subject, mac_write, same_label}
use Rattle.kern_model.specs.State.{State, Process, object_at, stub_object}
use Rattle.kern_model.specs.Step.{subject}
use Rattle.kern_model.proofs.MapLemmas.{get_or-absent, get_or-found}
use Rattle.ever_caps.proofs.Meets.{IsGranted}
use Rattle.ever_caps.proofs.Rows.{IsKept}
use Rattle.ever_caps.proofs.States.{AllSets}

-- ---- rules and sets
-- the rule of a check holds that no capability overrides
pub rule_holds : (a : Subject) (c : Check) → cap_of c.name ≡ None → IsGranted a c → c.holds ≡ true
rule_holds a c none granted =
    elim (or_cases c.holds (may a.effective (cap_of c.name)) granted) as (λ _. c.holds ≡ true) [
      | inl holds ↦ holds
      | inr over ↦ absurd (true≢false (sym over ∙ ap (may a.effective) none))
    ]

-- and that of a check whose capability the caller lacks
pub rule_holds_without : (a : Subject) (c : Check) (cap : Cap) → cap_of c.name ≡ Some cap → has a.effective cap ≡ false → IsGranted a c → c.holds ≡ true
rule_holds_without a c cap is without granted =
    elim (or_cases c.holds (may a.effective (cap_of c.name)) granted) as (λ _. c.holds ≡ true) [
      | inl holds ↦ holds
      | inr over ↦ absurd (true≢false (sym over ∙ ap (may a.effective) is ∙ without))
    ]

-- what a set lacks, a set within it lacks
lacks_within : (a b : CapSet) (c : Cap) → is_within a b ≡ true → has b c ≡ false → has a c ≡ false
lacks_within a b c within lacks = false_from_ne_true _ (λ h. true≢false (sym (within-has a b within c h) ∙ lacks))

-- what a program would permit
pub has-exec_permitted : (old file : CapState) (bound : CapSet) (c : Cap) → has (exec_permitted old file bound) c ≡ (has file.p c && has bound c || has file.i c && has old.i c)
has-exec_permitted old file bound c =
    has-union_of (meet_of file.p bound) (meet_of file.i old.i) c ∙ (λ i. has-meet_of file.p bound c i || has-meet_of file.i old.i c i)

effective_lacks : (b : Bool) (a : CapSet) (c : Cap) → has a c ≡ false → has (cond b no_caps a) c ≡ false
effective_lacks true a c lacks = has-no_caps c
effective_lacks false a c lacks = lacks

-- ---- a capability, and the labels whose processes may have it; of each other label: whether a process has the label, and may inherit the capability, and whether a
-- file with the label may permit it within the bound, or let it be inherited
module _ (c : Cap) (bound : CapSet) (may_have : Label → Bool) (Lives Inherits Permits LetsInherit : Label → Type 0) where
  pub record IsWithout (l : Label) (caps : CapState) : Type 0 where
    pub lives : Lives l
    pub effective : has caps.e c ≡ false
    pub permitted : has caps.p c ≡ false
    pub inherits : has caps.i c ≡ true → Inherits l

  abbrev pub OfProcess : Label → CapState → Type 0
  OfProcess l caps = may_have l ≡ false → IsWithout l caps

  pub record IsLimited (l : Label) (f : FileCaps) : Type 0 where
    pub permits : (has f.p c && has bound c) ≡ true → Permits l
    pub lets_inherit : has f.i c ≡ true → LetsInherit l

  abbrev pub OfFile : Label → FileCaps → Type 0
  OfFile l f = may_have l ≡ false → IsLimited l f

  -- programs, writes and new labels keep processes of other labels without it
  pub record IsFair (s : State) (who : Pid) (p : Process) : Type 0 where
    pub same_bound : s.bound ≡ bound
    pub reads : (id : Oid) (place : Place) → may_have p.label ≡ false → IsWithout p.label p.caps → IsGranted (subject who p) (mac_read s p id place)
        → (may_have (object_at s id).label ≡ false) × (Permits (object_at s id).label → ⊥) × (LetsInherit (object_at s id).label → Inherits p.label → ⊥)
    pub writes : (id : Oid) (place : Place) → IsGranted (subject who p) (mac_write s p id place) → may_have (object_at s id).label ≡ false → may_have p.label ≡ false
    pub own_label : (new : Label) → (not (same_label new p.label) ≡ true → IsGranted (subject who p) (mac_subject who p new))
        → (caps : CapState) → OfProcess p.label caps → OfProcess new caps
    pub file_label : (id : Oid) (new : Label) (place : Place) → IsGranted (subject who p) (mac_write s p id place) → IsGranted (subject who p) (mac_change_of new id (object_at s id) place)
        → (f : FileCaps) → OfFile (object_at s id).label f → OfFile new f

  no_caps_limited : (l : Label) → OfFile l no_file_caps
  no_caps_limited l other = record {
    permits = λ h. absurd (true≢false (sym (and_parts (has no_caps c) (has bound c) h).0 ∙ has-no_caps c));
    lets_inherit = λ h. absurd (true≢false (sym h ∙ has-no_caps c));
  }

  module _ (s : State) (all : AllSets OfProcess OfFile s) (who : Pid) (p : Process) (is : map.get s.procs who ≡ Some p) (fair : IsFair s who p) where
    caller : OfProcess p.label p.caps
    caller = all.processes who p is

    files : (id : Oid) → OfFile (object_at s id).label (object_at s id).attr.caps
    files id =
        elim (map.get s.objects id) as (λ w. map.get s.objects id ≡ w → OfFile (object_at s id).label (object_at s id).attr.caps) [
          | None ↦ λ none.
              subst (λ o. OfFile o.label o.attr.caps) (sym (get_or-absent s.objects id (stub_object s.top) none)) (no_caps_limited s.top)
          | Some o ↦ λ there. subst (λ x. OfFile x.label x.attr.caps) (sym (get_or-found s.objects id (stub_object s.top) o there)) (all.files id o there)
        ] refl

    own_sets : (caps : CapState) → IsGranted (subject who p) (cap_grow who p caps) → OfProcess p.label caps
    own_sets caps granted other =
        let was = caller other in
        let grow = rule_holds (subject who p) (cap_grow who p caps) refl granted in
        let parts = and_parts (is_within caps.p p.caps.p && is_within caps.e caps.p) (is_within caps.i (union_of p.caps.i p.caps.p)) grow in
        let first = and_parts (is_within caps.p p.caps.p) (is_within caps.e caps.p) parts.0 in
        let permitted : has caps.p c ≡ false = lacks_within caps.p p.caps.p c first.0 was.permitted in
        record {
          lives = was.lives;
          effective = lacks_within caps.e caps.p c first.1 permitted;
          permitted = permitted;
          inherits = λ h.
              elim (or_cases (has p.caps.i c) (has p.caps.p c) (sym (has-union_of p.caps.i p.caps.p c) ∙ within-has caps.i (union_of p.caps.i p.caps.p) parts.1 c h)) as
              (λ _. Inherits p.label) [
                | inl inherited ↦ was.inherits inherited
                | inr held ↦ absurd (true≢false (sym held ∙ was.permitted))
              ];
        }

    programs : (id : Oid) (place : Place) → IsGranted (subject who p) (mac_read s p id place)
        → OfProcess p.label (exec_caps p.caps (shown (object_at s id).attr.caps) s.bound)
    programs id place granted other =
        let was = caller other in
        let can = fair.reads id place other was granted in
        let f : FileCaps = (object_at s id).attr.caps in
        let limited : IsLimited (object_at s id).label f = files id can.0 in
        let lacks : has (exec_permitted p.caps (shown f) s.bound) c ≡ false =
        has-exec_permitted p.caps (shown f) s.bound c
        ∙ or_from (has f.p c && has s.bound c) (has f.i c && has p.caps.i c)
        (false_from_ne_true _ (λ h. can.1 (limited.permits (ap (λ b. has f.p c && has b c) (sym fair.same_bound) ∙ h))))
        (false_from_ne_true _ (λ h. let parts = and_parts (has f.i c) (has p.caps.i c) h in can.2 (limited.lets_inherit parts.0) (was.inherits parts.1))) in
        record {
          lives = was.lives;
          effective = effective_lacks (is_empty (shown f).e) (exec_permitted p.caps (shown f) s.bound) c lacks;
          permitted = lacks;
          inherits = was.inherits;
        }

    file_sets : (id : Oid) (place : Place) (caps : CapState) → IsGranted (subject who p) (mac_write s p id place) → IsGranted (subject who p) (cap_within who p caps)
        → OfFile (object_at s id).label (caps_by caps)
    file_sets id place caps written granted other =
        let was = caller (fair.writes id place written other) in
        let within = rule_holds (subject who p) (cap_within who p caps) refl granted in
        let parts = and_parts (is_within caps.e p.caps.p && is_within caps.i p.caps.p) (is_within caps.p p.caps.p) within in
        let inner = and_parts (is_within caps.e p.caps.p) (is_within caps.i p.caps.p) parts.0 in
        record {
          permits = λ h. absurd (true≢false (sym (and_parts (has caps.p c) (has bound c) h).0 ∙ lacks_within caps.p p.caps.p c parts.1 was.permitted));
          lets_inherit = λ h. absurd (true≢false (sym h ∙ lacks_within caps.i p.caps.p c inner.1 was.permitted));
        }

    pub is_kept : IsKept OfProcess OfFile s who p
    is_kept = record {
      processes = all.processes;
      caller = caller;
      files = files;
      bare = no_caps_limited;
      own_sets = own_sets;
      programs = programs;
      file_sets = file_sets;
      own_label = λ new allowed. fair.own_label new allowed p.caps caller;
      file_label = λ id new place written granted. fair.file_label id new place written granted (object_at s id).attr.caps (files id);
    }
