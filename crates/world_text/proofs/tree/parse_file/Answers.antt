use Rattle.std.proofs.Common.{◌∙◌, ap}
use Rattle.std.proofs.lemmas.Result.{IfOk-weaker}
use Rattle.world_text.specs.Values.{caps_of}
use Rattle.world_text.proofs.WordLemmas.{file_read, caps_file_read, file_others}
use Rattle.world_text.proofs.tree.parse_file.Goals as goal

pub returns-then-words-eq6 : goal.returns-then-words-eq6
returns-then-words-eq6 c =
    IfOk-weaker c.parse_tree.result _ _
    (λ fault h. h ∙ file_read c.args.so_far.now c.args.words.now c.index-words-5.result c.none.result c.in_ok-body.body c.if-words-eq6.true c.index-words-5.is c.none.ensures c.in_ok-body.ensures) c.parse_tree.ensures

pub returns-then-words-eq7 : goal.returns-then-words-eq7
returns-then-words-eq7 c =
    IfOk-weaker c.parse_tree-then-words-eq7.result _ _
    (λ fault h. h ∙ caps_file_read c.args.so_far.now c.args.words.now c.index-words-5-then-words-eq7.result c.index-words-6.result c.caps_of-caps.result c.in_ok-body-2.body c.if-words-eq7.true
    c.index-words-5-then-words-eq7.is (c.caps_of-caps.ensures ∙ ap caps_of c.items.ensures) c.in_ok-body-2.ensures) c.parse_tree-then-words-eq7.ensures

pub returns : goal.returns
returns c = file_others c.args.so_far.now c.args.words.now c.if-words-eq6.false c.if-words-eq7.false
