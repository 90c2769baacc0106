use Rattle.std.proofs.Common.{◌∙◌, sym}
use Rattle.std.proofs.lemmas.Result.{IfOk-weaker}
use Rattle.kern_core.specs.Kernel.{has_failed, state_of}
use Rattle.kern_core.proofs.KernelLemmas.{kept_played, named_played, needs_only_named, valid_played, go_on_played, where_no_error}
use Rattle.kern_core.proofs.kernel.Kernel.call.Goals as goal

pub invariant_of-self : goal.invariant_of-self
unfolding state_of has_failed
invariant_of-self c = record {
  valid = λ sound.
      where_no_error c.play-outcome.result
      (valid_played c.args.self.now.shared c.play-outcome.new.shared c.args.who.now c.args.call.now c.play-outcome.result c.play-outcome.ensures.played (c.requires.arguments c.if-self.false) c.play-outcome.ensures.names (c.args.self.now.valid c.if-self.false))
      (sym c.is_err-self.ensures.value ∙ sound);
}

pub returns-clause-kept : goal.returns-clause-kept
unfolding state_of
returns-clause-kept c =
    IfOk-weaker c.play-outcome.result _ _ (λ o is. kept_played c.args.self.now.shared c.play-outcome.new.shared c.args.who.now c.args.call.now o is) c.play-outcome.ensures.played

pub returns-clause-valid : goal.returns-clause-valid
unfolding state_of has_failed
returns-clause-valid c =
    valid_played c.args.self.now.shared c.play-outcome.new.shared c.args.who.now c.args.call.now c.play-outcome.result c.play-outcome.ensures.played (c.requires.arguments c.if-self.false) c.play-outcome.ensures.names (c.args.self.now.valid c.if-self.false)

pub returns-clause-named : goal.returns-clause-named
returns-clause-named c = named_played c.args.self.now.shared c.play-outcome.new.shared c.args.who.now c.args.call.now c.play-outcome.result c.play-outcome.ensures.played

pub returns-clause-numbers : goal.returns-clause-numbers
unfolding state_of
returns-clause-numbers c =
    go_on_played c.args.self.now.shared c.play-outcome.new.shared c.args.who.now c.args.call.now c.play-outcome.result c.play-outcome.ensures.played (c.args.self.now.valid c.if-self.false)

pub returns-clause-unnamed : goal.returns-clause-unnamed
unfolding state_of
returns-clause-unnamed c = needs_only_named c.args.self.now.shared c.play-outcome.new.shared c.args.who.now c.args.call.now c.play-outcome.result c.play-outcome.ensures.played

pub play-outcome-requires : goal.play-outcome-requires
play-outcome-requires c = record { valid = c.args.self.now.valid c.if-self.false }
