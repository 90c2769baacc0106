-- A process keeps its capability sets over a step whose records give it no others.
use Rattle.std.specs.Prelude.{◌≡◌, false, List, [], ◌∷◌, Option, Some, None, refl, cond}
use Rattle.std.specs.List.{list_any}
use Rattle.std.specs.FinMap as map
use Rattle.std.proofs.Common.{sym, ◌∙◌, ap}
use Rattle.std.proofs.lemmas.Bool.{or_parts}
use Rattle.cap_bits.specs.CapSet.{CapSet}
use Rattle.cap_bits.specs.State.{no_flags}
use Rattle.cap_bits.specs.declared.state.CapState.{CapState}
use Rattle.kern_model.specs.declared.numbers.Pid.{Pid}
use Rattle.kern_model.specs.declared.records.Rec.{Rec}
use Rattle.kern_model.specs.declared.records.Rec.TheVariants as rec
use Rattle.kern_model.specs.Exec.{exec_caps}
use Rattle.kern_model.specs.Lineage.{caps_after_one, caps_after}
use Rattle.kern_model.specs.State.{Process}
use Rattle.kern_model.specs.Step.{step}
use Rattle.iso_laws.specs.Laws.{CapsStay, gives_sets}
use Rattle.iso_laws.proofs.CapsLemmas.{HaveCaps}
use Rattle.iso_laws.proofs.Lineage.{have_after_step}

-- a record that gives a process no sets leaves it those that it has
left_after : (bound : CapSet) (f : Pid → CapState) (r : Rec) (q : Pid) → gives_sets q r ≡ false → caps_after_one bound f r q ≡ f q
left_after bound f (rec.Boot who label caps) q none = ap (λ b. cond b caps (f q)) none
left_after bound f (rec.Fork who child) q none = ap (λ b. cond b (f who) (f q)) none
left_after bound f (rec.Exec who file file_caps caps) q none = ap (λ b. cond b (exec_caps (f q) file_caps bound) (f q)) none
left_after bound f (rec.CapSetProc who caps) q none = ap (λ b. cond b caps (f q)) none
left_after bound f r q none = refl

left_by_all : (bound : CapSet) (recs : List Rec) (f : Pid → CapState) (q : Pid) → list_any (gives_sets q) recs ≡ false → caps_after bound f recs q ≡ f q
left_by_all bound [] f q none = refl
left_by_all bound (r ∷ recs) f q none = let parts = or_parts (gives_sets q r) _ none in left_by_all bound recs (caps_after_one bound f r) q parts.1 ∙ left_after bound f r q parts.0

-- the sets of the process with a number, if one lives
abbrev sets_if : Option Process → CapState
sets_if None = no_flags
sets_if (Some p) = p.caps

pub caps_stay : CapsStay
caps_stay s who c q old new was is none =
    let f : Pid → CapState = λ q. sets_if (map.get s.procs q) in
    let has : HaveCaps s f = λ q p e. ap sets_if (sym e) in
    have_after_step s who c f has q new is ∙ left_by_all s.bound (step s who c).recs f q none ∙ ap sets_if was
