use Rattle.std.proofs.Common.{◌∙◌}
use Rattle.std.proofs.lemmas.Result.{IfOk-weaker}
use Rattle.world_text.proofs.WordLemmas.{plain_others, plain_read}
use Rattle.world_text.proofs.tree.parse_plain.Goals as goal

pub returns : goal.returns
returns c =
    IfOk-weaker c.parse_tree.result _ _ (λ fault h. h ∙ plain_read c.args.so_far.now c.args.body c.args.words.now c.none.result c.if-words-ne5.false c.none.ensures) c.parse_tree.ensures

pub returns-then-words-ne5 : goal.returns-then-words-ne5
returns-then-words-ne5 c = plain_others c.args.so_far.now c.args.body c.args.words.now c.if-words-ne5.true
