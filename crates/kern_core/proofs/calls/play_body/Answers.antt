use Rattle.std.proofs.Common.{refl}
use Rattle.kern_model.specs.Arguments.{has_names}
use Rattle.kern_model.specs.State.{process_at}
use Rattle.sys_lookup.proofs.PlayingLemmas.{plays_as, names_as}
use Rattle.kern_core.proofs.calls.play_body.Goals as goal

pub returns-in-AudWrite-clause-played : goal.returns-in-AudWrite-clause-played
returns-in-AudWrite-clause-played c = plays_as c.args.shared.now c.args.who.now (process_at c.args.shared.now c.args.who.now) c.in-AudWrite.is c.aud_write.ensures

pub returns-in-AudWrite-clause-names : goal.returns-in-AudWrite-clause-names
unfolding has_names
returns-in-AudWrite-clause-names c = names_as c.in-AudWrite.is refl

pub returns-in-AudSwitch-clause-played : goal.returns-in-AudSwitch-clause-played
returns-in-AudSwitch-clause-played c = plays_as c.args.shared.now c.args.who.now (process_at c.args.shared.now c.args.who.now) c.in-AudSwitch.is c.aud_switch.ensures

pub returns-in-AudSwitch-clause-names : goal.returns-in-AudSwitch-clause-names
unfolding has_names
returns-in-AudSwitch-clause-names c = names_as c.in-AudSwitch.is refl
