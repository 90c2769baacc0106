use Rattle.std.proofs.Common.{◌==◌, ◌∙◌, sym, rules, tests}
use Rattle.std.proofs.lemmas.Iterator.{YieldsList-from_slice}
use Rattle.std.proofs.lemmas.Iterator.Adapters.{option_map_id}
use Rattle.std.proofs.lemmas.Iterator.Consumers.{YieldsList-from_copied}
use Rattle.std.proofs.lemmas.Iterator.Search.{find_from_yields_List}
use Rattle.std.specs.Cmp.Lexicographic.{pointwise}
use Rattle.kern_model.specs.Names.{errno_word}
use Rattle.kern_model.specs.Named.{find_named, all_errnos}
use Rattle.kern_model.proofs.NamedLaws.{found_by, errno_round_trip}
use Rattle.kern_model.proofs.calls.Errno.from_word.Goals as goal

pub returns-clause-exact : goal.returns-clause-exact
unfolding find_named
returns-clause-exact c =
    let found = find_from_yields_List (λ x. pointwise ◌==◌ c.args.word.now (errno_word x)) _ _ c.find.result c.find.ensures.ran (YieldsList-from_copied (YieldsList-from_slice all_errnos cc)) (λ x b q k. search (rules, tests)) in
    found_by errno_word all_errnos c.args.word.now c.find.result errno_round_trip (sym (option_map_id c.find.result) ∙ found)
