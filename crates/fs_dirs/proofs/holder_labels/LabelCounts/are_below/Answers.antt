use Rattle.std.specs.Prelude.{◌≡◌}
use Rattle.std.specs.List.{list_all}
use Rattle.std.specs.Map.{keys_of}
use Rattle.std.proofs.Common.{ap, rules, tests, ◌∙◌}
use Rattle.std.proofs.lemmas.Iterator.Consumers.{YieldsList-from_rest}
use Rattle.std.proofs.lemmas.Iterator.Search.{all_from_yields_List}
use Rattle.lab_lattice.specs.Label.{dominates}
use Rattle.fs_dirs.specs.HolderLabels.{are_below}
use Rattle.fs_dirs.proofs.HolderLabelLemmas.{all_below}
use Rattle.fs_dirs.proofs.holder_labels.LabelCounts.are_below.Goals as goal

pub returns : goal.returns
returns c =
    let label = c.args.label.now in
    let listed : c.all.result ≡ list_all (dominates label) (keys_of c.self.inside.further.entries) =
    all_from_yields_List (dominates label) _ _ c.all.result c.all.ensures.ran (YieldsList-from_rest (keys_of c.self.inside.further.entries) c.keys.ensures.rest) (λ x b q k. search (rules, tests)) in
    listed ∙ all_below label c.self.inside.further.entries c.keys.ensures.ordered ∙ ap (are_below label) c.self.view_is
