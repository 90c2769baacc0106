use Rattle.std.specs.Prelude.{[]}
use Rattle.std.proofs.Common.{sym, ◌∙◌}
use Rattle.fs_nodes.proofs.Keys.{key_is, none_first}
use Rattle.kern_model.proofs.ListItems.{list_absent, list_found}
use Rattle.fs_nodes.proofs.index.Index.get.Goals as goal

pub returns-in_err-get : goal.returns-in_err-get
returns-in_err-get c =
    let lists = c.self.inside.by_label in
    let id = c.args.id.now in
    c.from_residual.ensures ∙ sym (key_is lists c.args.self.now c.self.view_is id [] (list_absent lists id.label c.in_err-get.ensures) ∙ none_first id.n)

pub returns-in_err-key : goal.returns-in_err-key
returns-in_err-key c =
    let lists = c.self.inside.by_label in
    let id = c.args.id.now in
    let list = c.in_ok-get.field-0.now in
    c.from_residual-in_err-key.ensures ∙ c.in_err-key.ensures ∙ sym (key_is lists c.args.self.now c.self.view_is id list (list_found lists id.label list c.in_ok-get.ensures))

pub returns : goal.returns
returns c =
    let lists = c.self.inside.by_label in
    let id = c.args.id.now in
    let list = c.in_ok-get.field-0.now in
    c.in_ok-key.ensures ∙ sym (key_is lists c.args.self.now c.self.view_is id list (list_found lists id.label list c.in_ok-get.ensures))
