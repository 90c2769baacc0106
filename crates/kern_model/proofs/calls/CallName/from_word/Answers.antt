use Rattle.std.proofs.Common.{◌∙◌}
use Rattle.kern_model.specs.Names.{word_of}
use Rattle.kern_model.specs.Named.{all_calls}
use Rattle.kern_model.proofs.NamedLaws.{found_by, call_round_trip}
use Rattle.kern_model.proofs.calls.CallName.from_word.Goals as goal

pub returns-clause-exact : goal.returns-clause-exact
returns-clause-exact c = found_by word_of all_calls c.args.word.now c.first_named.result call_round_trip (c.first_named.ensures ∙ c.candidates.ensures)
