-- What holds along a row: of each check, and of changes and own record where the call is done. After a check it is known that it was granted.
use Rattle.std.specs.Prelude.{◌≡◌, ⊤, ◌||◌, Bool, true, false, List, Option, Some, None, refl, cond}
use Rattle.std.specs.List.{AllByRecursion}
use Rattle.std.proofs.Common.{sym, subst}
use Rattle.std.proofs.lemmas.Bool.{true≢false}
use Rattle.cap_bits.specs.CapSet.{has}
use Rattle.cap_bits.specs.declared.cap.Cap.{Cap}
use Rattle.kern_model.specs.declared.checks.Check.{Check}
use Rattle.kern_model.specs.declared.checks.Verdict.TheVariants.{Passed, Exercised, Denied}
use Rattle.kern_model.specs.declared.records.Rec.{Rec}
use Rattle.kern_model.specs.declared.records.Rec.TheVariants as rec
use Rattle.kern_model.specs.Row.{Row, Need, Soft, Refuse, Fail, Commit, need_if, Subject, End, Stopped, Refused, Done, judge, verdict_of, is_denied, exercises_after, exercise_with, may}
use Rattle.kern_model.specs.Rules.{cap_of}
use Rattle.kern_model.specs.State.{Change}
use Rattle.iso_laws.proofs.AllLemmas.{all-append}
use Rattle.iso_laws.proofs.Rows.{cond_satisfies}

-- a check lets the call go on: its rule holds, or its capability is effective
abbrev pub IsGranted : Subject → Check → Type 0
IsGranted a c = (c.holds || may a.effective (cap_of c.name)) ≡ true

-- the record of an exercise of a capability by a check
abbrev pub exercise_of : Subject → Check → Cap → Rec
exercise_of a c cap = rec.Exercise (record {
  who = a.who;
  label = a.label;
  cap = cap;
  check = c.name;
  thing = c.thing;
  thing_label = c.thing_label;
  new_label = c.new_label;
  place = c.place;
})

-- a record is an exercise, of an effective capability, by a check that holds something and whose rule fails
pub record IsUse (CheckHolds : Check → Type 0) (a : Subject) (r : Rec) : Type 0 where
  pub check : Check
  pub cap : Cap
  pub of_check : CheckHolds check
  pub fails : check.holds ≡ false
  pub cap_is : cap_of check.name ≡ Some cap
  pub effective : has a.effective cap ≡ true
  pub is : r ≡ exercise_of a check cap

module _ (a : Subject) (CheckHolds : Check → Type 0) (CommitHolds : List Change → Option Rec → Type 0) where
  abbrev pub Meets : Row → Type 0
  Meets (Need c rest) = CheckHolds c × (IsGranted a c → Meets rest)
  Meets (Soft c granted weaker) = CheckHolds c × ((IsGranted a c → Meets granted) × Meets weaker)
  Meets (Refuse e b rest) = Meets rest
  Meets (Fail e) = ⊤
  Meets (Commit cs answer own) = CommitHolds cs own

  pub meets_cond : (b : Bool) (x y : Row) → (b ≡ true → Meets x) → (b ≡ false → Meets y) → Meets (cond b x y)
  meets_cond true x y f g = f refl
  meets_cond false x y f g = g refl

  pub meets_need_if : (b : Bool) (c : Check) (r : Row) → CheckHolds c → ((b ≡ true → IsGranted a c) → Meets r) → Meets (need_if b c r)
  unfolding need_if
  meets_need_if true c r h rest = (h, λ granted. rest (λ _. granted))
  meets_need_if false c r h rest = rest (λ no. absurd (true≢false (sym no)))

  -- ---- how a row ends
  abbrev AreUses : List Rec → Type 0
  AreUses recs = AllByRecursion (IsUse CheckHolds a) recs

  is_granted : (c : Check) → is_denied (verdict_of a c) ≡ false → IsGranted a c
  unfolding verdict_of
  is_granted c =
      elim c.holds as (λ b. is_denied (cond b Passed (cond (may a.effective (cap_of c.name)) Exercised Denied)) ≡ false → (b || may a.effective (cap_of c.name)) ≡ true) [
        | true ↦ λ _. refl
        | false ↦ elim (may a.effective (cap_of c.name)) as (λ b. is_denied (cond b Exercised Denied) ≡ false → b ≡ true) [
          | true ↦ λ _. refl
          | false ↦ λ no. absurd (true≢false no)
        ]
      ]

  used_by : (c : Check) → CheckHolds c → c.holds ≡ false → (used : List Rec) → AreUses used → (o : Option Cap) → cap_of c.name ≡ o
      → AreUses (exercises_after a c (cond (may a.effective o) Exercised Denied) used)
  used_by c h fails used uses None is = uses
  used_by c h fails used uses (Some cap) is =
      elim (has a.effective cap) as (λ b. has a.effective cap ≡ b → AreUses (exercises_after a c (cond b Exercised Denied) used)) [
        | true ↦ λ effective.
            all-append (IsUse CheckHolds a) used (exercise_with a c (cap_of c.name)) uses
            (subst (λ o. AreUses (exercise_with a c o)) (sym is)
            (record { check = c; cap = cap; of_check = h; fails = fails; cap_is = is; effective = effective; is = refl }, tt))
        | false ↦ λ _. uses
      ] refl

  noted_uses : (c : Check) → CheckHolds c → (used : List Rec) → AreUses used → AreUses (exercises_after a c (verdict_of a c) used)
  unfolding verdict_of
  noted_uses c h used uses =
      elim c.holds as (λ b. c.holds ≡ b → AreUses (exercises_after a c (cond b Passed (cond (may a.effective (cap_of c.name)) Exercised Denied)) used)) [
        | true ↦ λ _. uses
        | false ↦ λ fails. used_by c h fails used uses (cap_of c.name) refl
      ] refl

  -- the exercises of a row are uses of its checks
  pub row_uses : (used : List Rec) (r : Row) → Meets r → AreUses used → AreUses (judge a used r).used
  unfolding judge
  row_uses used (Need c rest) h uses =
      cond_satisfies (λ j. AreUses j.used) (is_denied (verdict_of a c)) _ _ (λ _. uses)
      (λ granted. row_uses (exercises_after a c (verdict_of a c) used) rest (h.1 (is_granted c granted)) (noted_uses c h.0 used uses))
  row_uses used (Soft c granted weaker) h uses =
      cond_satisfies (λ j. AreUses j.used) (is_denied (verdict_of a c)) _ _ (λ _. row_uses used weaker h.1.1 uses)
      (λ is. row_uses (exercises_after a c (verdict_of a c) used) granted (h.1.0 (is_granted c is)) (noted_uses c h.0 used uses))
  row_uses used (Refuse e b rest) h uses = cond_satisfies (λ j. AreUses j.used) b _ _ (λ _. uses) (λ _. row_uses used rest h uses)
  row_uses used (Fail e) h uses = uses
  row_uses used (Commit cs answer own) h uses = uses

  -- what holds of the end of a row
  abbrev pub EndMeets : End → Type 0
  EndMeets (Stopped name place) = ⊤
  EndMeets (Refused e) = ⊤
  EndMeets (Done cs answer own) = CommitHolds cs own

  pub row_end : (used : List Rec) (r : Row) → Meets r → EndMeets (judge a used r).end
  unfolding judge
  row_end used (Need c rest) h =
      cond_satisfies (λ j. EndMeets j.end) (is_denied (verdict_of a c)) _ _ (λ _. tt) (λ granted. row_end (exercises_after a c (verdict_of a c) used) rest (h.1 (is_granted c granted)))
  row_end used (Soft c granted weaker) h =
      cond_satisfies (λ j. EndMeets j.end) (is_denied (verdict_of a c)) _ _ (λ _. row_end used weaker h.1.1)
      (λ is. row_end (exercises_after a c (verdict_of a c) used) granted (h.1.0 (is_granted c is)))
  row_end used (Refuse e b rest) h = cond_satisfies (λ j. EndMeets j.end) b _ _ (λ _. tt) (λ _. row_end used rest h)
  row_end used (Fail e) h = tt
  row_end used (Commit cs answer own) h = h
