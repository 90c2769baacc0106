use Rattle.std.proofs.Common.{sym, ◌∙◌}
use Rattle.std.proofs.lemmas.Bool.{not-false}
use Rattle.kern_model.proofs.WorldLemmas.{names_same}
use Rattle.kern_core.proofs.loading.Loading.go_to.Goals as goal

pub returns-else-ne-clause-there : goal.returns-else-ne-clause-there
returns-else-ne-clause-there c = sym c.items.ensures ∙ names_same c.items.result.now c.args.names.now (not-false _ (sym c.if-ne.ensures))
