use Rattle.std.proofs.Common.{rules, tests, ◌∙◌}
use Rattle.std.proofs.lemmas.Iterator.Consumers.{YieldsList-at, YieldsList-from_filter, count_from_yields_List}
use Rattle.std.proofs.lemmas.Iterator.Splits.{YieldsList-from_slice_split}
use Rattle.std.proofs.lemmas.List.Sums.{length-filter}
use Rattle.fs_path.specs.Split.{pieces}
use Rattle.aud_red.specs.Select.{is_term_of}
use Rattle.aud_red.proofs.term.TermKind.count_in.Goals as goal

pub returns : goal.returns
returns c =
    count_from_yields_List c.filter.result c.count.result c.count.ensures.ran
    (YieldsList-from_filter _ (is_term_of c.args.self) (YieldsList-at c.filter.ensures.source (YieldsList-from_slice_split _ _ c.args.text.now c.split.ensures.rest c.split.ensures.done c.split.ensures.closure (λ x r q k. search (rules, tests)))) c.filter.ensures.closure (λ x r q k. search (rules, tests)))
    ∙ length-filter (is_term_of c.args.self) (pieces 59 c.args.text.now)
