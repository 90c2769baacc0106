use Rattle.std.proofs.Common.{◌∙◌, None, ap}
use Rattle.kern_model.specs.declared.calls.Answer.TheVariants.{Bits}
use Rattle.sys_lookup.proofs.PlayLemmas.{commits_as}
use Rattle.sys_attr.proofs.modes.umask.Goals as goal

pub returns-clause-played : goal.returns-clause-played
returns-clause-played c = commits_as (c.answers.ensures ∙ ap (λ bits. record { answer = Bits bits; own = None }) c.give_umask-old.ensures.bits) c.give_umask-old.ensures.changed
