use Rattle.std.proofs.lemmas.Result.{IfOk-weaker}
use Rattle.world_text.proofs.FaultLemmas.{words_said}
use Rattle.world_text.proofs.expecting.parse_line.Goals as goal

pub returns-in-Some-clause-fault : goal.returns-in-Some-clause-fault
returns-in-Some-clause-fault c = IfOk-weaker c.parse_words.result _ _ (words_said c.args.expecting c.items.result.now) c.parse_words.ensures
