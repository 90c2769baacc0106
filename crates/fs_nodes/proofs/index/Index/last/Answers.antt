use Rattle.std.specs.Prelude.{[]}
use Rattle.std.proofs.Common.{sym, ◌∙◌}
use Rattle.fs_nodes.proofs.Keys.{drawn_is}
use Rattle.kern_model.proofs.ListItems.{list_absent, list_found}
use Rattle.fs_nodes.proofs.index.Index.last.Goals as goal

pub returns-in-Some : goal.returns-in-Some
returns-in-Some c =
    let lists = c.self.inside.by_label in
    let label = c.args.label.now in
    let list = c.in-Some.keys.now in
    c.last.ensures ∙ sym (drawn_is lists c.args.self.now c.self.view_is label list (list_found lists label list c.in-Some.ensures))

pub returns-in-None : goal.returns-in-None
returns-in-None c =
    let lists = c.self.inside.by_label in
    let label = c.args.label.now in
    sym (drawn_is lists c.args.self.now c.self.view_is label [] (list_absent lists label c.in-None.ensures))
