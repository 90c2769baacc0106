use Rattle.std.proofs.Common.{◌<◌, ◌-◌, List, [], ◌∷◌, length, take, refl, ap, sym, ◌∙◌, arith}
use Rattle.std.proofs.lemmas.Bool.{eqb-false}
use Rattle.fs_path.specs.Name.{Name}
use Rattle.kern_model.specs.State.{SetEntry, root}
use Rattle.kern_core.specs.Starts.{directory_from, state_loaded}
use Rattle.kern_core.proofs.BootLemmas.{spot_at_end}
use Rattle.kern_core.proofs.loading.Loading.spot_of.Goals as goal

pub returns-clause-spot : goal.returns-clause-spot
returns-clause-spot c =
    let apart = eqb-false (length c.args.names.now) 0 (sym c.if-is_empty.ensures) in
    let some : 0 < length c.args.names.now = omega arith in
    let leads = ap (λ (names : List Name). directory_from c.args.self.now.spots root names) (sym c.in_ok-go_to.ensures.there) ∙ c.in_ok-go_to.ensures.leads in
    let spot = spot_at_end (state_loaded c.args.self.now) c.args.names.now (take (length c.args.names.now - 1) c.args.names.now) c.index-names-names.result c.go_to.new.last.dir some refl c.index-names-names.is leads in
    λ id. spot id ∙ ap (λ (name : Name). SetEntry (c.go_to.new.last.dir, name) id ∷ []) (sym c.in_ok-copy.ensures)
