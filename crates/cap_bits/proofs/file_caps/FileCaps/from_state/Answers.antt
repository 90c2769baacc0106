use Rattle.std.specs.Prelude.{not}
use Rattle.std.proofs.Common.{refl, ap, sym, ◌∙◌}
use Rattle.cap_bits.specs.CapSet.{same_sets}
use Rattle.cap_bits.proofs.RoundTrips.{flag_of_uniform, file_caps_by, state_of_flag}
use Rattle.cap_bits.proofs.file_caps.FileCaps.from_state.Goals as goal

pub invariant_of-result : goal.invariant_of-result
invariant_of-result c =
    let s = c.args.state.now in
    record {
      flag_off = λ none. c.ne.ensures ∙ ap (λ n. not (same_sets s.e n)) c.none.ensures ∙ flag_of_uniform s (sym c.can_have.ensures ∙ c.if-not-can_have.false) none;
    }

pub returns-clause-value : goal.returns-clause-value
returns-clause-value c =
    let s = c.args.state.now in
    file_caps_by s _ (sym c.can_have.ensures ∙ c.if-not-can_have.false) refl refl (c.ne.ensures ∙ ap (λ n. not (same_sets s.e n)) c.none.ensures)

pub returns-clause-back : goal.returns-clause-back
returns-clause-back c =
    let s = c.args.state.now in
    state_of_flag s c.ne.result (sym c.can_have.ensures ∙ c.if-not-can_have.false) (c.ne.ensures ∙ ap (λ n. not (same_sets s.e n)) c.none.ensures)
