use Rattle.std.proofs.Common.{◌==◌, ◌∙◌, sym, rules, tests}
use Rattle.std.proofs.lemmas.Iterator.{YieldsList-from_slice}
use Rattle.std.proofs.lemmas.Iterator.Adapters.{option_map_id}
use Rattle.std.proofs.lemmas.Iterator.Consumers.{YieldsList-from_copied}
use Rattle.std.proofs.lemmas.Iterator.Search.{find_from_yields_List}
use Rattle.std.specs.Cmp.Lexicographic.{pointwise}
use Rattle.kern_model.specs.Named.{find_named}
use Rattle.kern_model.proofs.NamedLaws.{found_by}
use Rattle.world_text.specs.Formats.{format_word, all_formats}
use Rattle.world_text.proofs.FormatLaws.{format_round_trip}
use Rattle.world_text.proofs.format.Format.from_word.Goals as goal

pub returns-clause-exact : goal.returns-clause-exact
unfolding find_named
returns-clause-exact c =
    let found = find_from_yields_List (λ x. pointwise ◌==◌ c.args.word.now (format_word x)) _ _ c.find.result c.find.ensures.ran (YieldsList-from_copied (YieldsList-from_slice all_formats cc)) (λ x b q k. search (rules, tests)) in
    found_by format_word all_formats c.args.word.now c.find.result format_round_trip (sym (option_map_id c.find.result) ∙ found)
