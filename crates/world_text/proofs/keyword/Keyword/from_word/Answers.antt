use Rattle.std.proofs.Common.{◌∙◌, ap}
use Rattle.world_text.specs.Keywords.{keyword_named}
use Rattle.world_text.proofs.KeywordLaws.{keyword_found}
use Rattle.world_text.proofs.keyword.Keyword.from_word.Goals as goal

pub returns-clause-exact : goal.returns-clause-exact
returns-clause-exact c = keyword_found c.args.word.now c.keyword_named.result c.if-word.false (c.keyword_named.ensures ∙ ap keyword_named c.items.ensures)
