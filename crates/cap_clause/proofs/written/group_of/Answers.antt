use Rattle.std.proofs.Common.{Bool, true, false, ◌≡◌, refl, ap, ◌∙◌, sym}
use Rattle.std.specs.Prelude.{◌&&◌}
use Rattle.std.specs.Bool.{beq}
use Rattle.cap_bits.specs.CapSet.{has}
use Rattle.cap_bits.proofs.CapSets.{has-meet_of}
use Rattle.cap_bits.specs.Laws.{same_caps}
use Rattle.cap_clause.proofs.Groups.{has-group_of}
use Rattle.cap_clause.specs.Written.{same_flags, group_of}
use Rattle.cap_clause.proofs.written.group_of.Goals as goal

regroup : (a b c : Bool) → ((a && b) && c) ≡ (a && (b && (c && true)))
regroup true true true = refl
regroup true true false = refl
regroup true false c = refl
regroup false b c = refl

pub returns : goal.returns
unfolding same_flags
returns c =
    let s = c.args.state.now in
    let cap = c.args.cap in
    same_caps c.meet-2.result (group_of s cap) (λ q.
    let both : has c.meet.result q ≡ (beq (has s.e cap) (has s.e q) && beq (has s.i cap) (has s.i q)) =
    ap (λ caps. has caps q) c.meet.ensures ∙ has-meet_of c.alike.result c.alike-2.result q ∙ (λ i. c.alike.ensures q i && c.alike-2.ensures q i) in
    ap (λ caps. has caps q) c.meet-2.ensures ∙ has-meet_of c.meet.result c.alike-3.result q ∙ (λ i. both i && c.alike-3.ensures q i)
    ∙ regroup (beq (has s.e cap) (has s.e q)) (beq (has s.i cap) (has s.i q)) (beq (has s.p cap) (has s.p q)) ∙ sym (has-group_of s cap q))
