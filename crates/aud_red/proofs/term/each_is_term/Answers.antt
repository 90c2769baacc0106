use Rattle.std.proofs.Common.{rules, tests}
use Rattle.std.proofs.lemmas.Iterator.Search.{all_from_yields_List}
use Rattle.std.proofs.lemmas.Iterator.Splits.{YieldsList-from_slice_split}
use Rattle.std.specs.List.{list_any}
use Rattle.aud_red.specs.Select.{all_kinds, is_term_of}
use Rattle.aud_red.proofs.term.each_is_term.Goals as goal

pub returns : goal.returns
returns c =
    all_from_yields_List (λ term. list_any (λ kind. is_term_of kind term) all_kinds) _ _ c.all.result c.all.ensures.ran
    (YieldsList-from_slice_split _ _ c.args.text.now c.split.ensures.rest c.split.ensures.done c.split.ensures.closure (λ x r q k. search (rules, tests)))
    (λ x r q k. search (rules, tests))
