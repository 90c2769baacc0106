use Rattle.std.proofs.Common.{◌∙◌, refl, sym, rules, tests}
use Rattle.std.proofs.lemmas.Iterator.{YieldsList-from_range}
use Rattle.std.proofs.lemmas.Iterator.Adapters.{option_map_id}
use Rattle.std.proofs.lemmas.Iterator.Consumers.{YieldsList-from_filter_map}
use Rattle.std.proofs.lemmas.Iterator.Search.{find_from_yields_List}
use Rattle.cap_bits.specs.CapSet.{has}
use Rattle.cap_bits.specs.Laws.{same_sets-decides}
use Rattle.cap_clause.proofs.WriteLemmas.{numbered, numbered_is, first_found}
use Rattle.cap_clause.proofs.written.first_of.Goals as goal

pub returns-then-eq : goal.returns-then-eq
returns-then-eq c = (same_sets-decides c.args.caps.now c.none.result).0 (sym c.if-eq.ensures) ∙ c.none.ensures

pub returns : goal.returns
returns c =
    let caps = c.args.caps.now in
    first_found caps c.find.result (sym (option_map_id c.find.result) ∙ find_from_yields_List (has caps) _ _ c.find.result c.find.ensures.ran
    (YieldsList-from_filter_map _ numbered (YieldsList-from_range 0 18 18 c.filter_map.ensures.source refl) c.filter_map.ensures.closure (λ n r q k. search (rules, numbered_is)))
    (λ x b q k. search (rules, tests)))
