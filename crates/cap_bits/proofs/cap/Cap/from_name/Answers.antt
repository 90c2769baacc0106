use Rattle.std.proofs.Common.{◌∙◌, sym, rules, tests}
use Rattle.std.proofs.lemmas.Iterator.{YieldsList-from_slice}
use Rattle.std.proofs.lemmas.Iterator.Adapters.{option_map_id}
use Rattle.std.proofs.lemmas.Iterator.Consumers.{YieldsList-from_copied}
use Rattle.std.proofs.lemmas.Iterator.Search.{find_from_yields_List}
use Rattle.cap_bits.specs.Cap.{all_caps, cap_named, is_name_of}
use Rattle.cap_bits.proofs.Names.{cap_found_by}
use Rattle.cap_bits.proofs.cap.Cap.from_name.Goals as goal

pub returns-clause-exact : goal.returns-clause-exact
unfolding cap_named
returns-clause-exact c = cap_found_by c.args.name.now c.find.result
    (sym (option_map_id c.find.result) ∙ find_from_yields_List (is_name_of c.args.name.now) _ _ c.find.result c.find.ensures.ran (YieldsList-from_copied (YieldsList-from_slice all_caps cc)) (λ x b q k. search (rules, tests)))
