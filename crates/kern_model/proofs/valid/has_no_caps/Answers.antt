use Rattle.std.proofs.Common.{◌≡◌, ◌&&◌, ap, ◌∙◌}
use Rattle.std.proofs.lemmas.Bool.Decides.{Decides-at}
use Rattle.cap_bits.proofs.RoundTrips.{none_decides}
use Rattle.cap_bits.specs.CapSet.{is_empty, same_sets}
use Rattle.kern_model.proofs.valid.has_no_caps.Goals as goal

pub returns-then-eq : goal.returns-then-eq
returns-then-eq c =
    let caps = c.args.caps.now in
    let inheritable : c.eq-then-eq.result ≡ is_empty caps.i = c.eq-then-eq.ensures ∙ ap (same_sets caps.i) c.none-then-eq.ensures in
    Decides-at _ _ (inheritable ∙ ap (λ b. b && is_empty caps.i) (c.if-eq.ensures ∙ ap (same_sets caps.p) c.none.ensures)) (none_decides caps)

pub returns-else-eq : goal.returns-else-eq
returns-else-eq c =
    let caps = c.args.caps.now in
    Decides-at _ _ (c.if-eq.false ∙ ap (λ b. b && is_empty caps.i) (c.if-eq.ensures ∙ ap (same_sets caps.p) c.none.ensures)) (none_decides caps)
