use Rattle.std.specs.Prelude.{[], Option, option_copied, unwrap_or}
use Rattle.std.specs.Borrow.{Bor}
use Rattle.std.proofs.Common.{ap, sym, ◌∙◌}
use Rattle.std.specs.FinMap as map
use Rattle.kern_model.proofs.ListItems.{list_absent, list_found}
use Rattle.fs_dirs.specs.Entries.{Contents}
use Rattle.fs_dirs.proofs.DirLemmas.{contained}
use Rattle.fs_dirs.proofs.dirs.Dirs.directory.Goals as goal

pub returns-in_err-get : goal.returns-in_err-get
returns-in_err-get c =
    let lists = c.self.inside.by_label in
    ap (λ (w : Option (Bor Contents)). unwrap_or (option_copied w) map.empty) c.from_residual.ensures
    ∙ sym (contained lists c.args.self.now c.self.view_is c.args.dir.now [] (list_absent lists c.args.dir.now.label c.in_err-get.ensures))

pub returns : goal.returns
returns c =
    let lists = c.self.inside.by_label in
    let list = c.in_ok-get.field-0.now in
    c.get-2.ensures ∙ sym (contained lists c.args.self.now c.self.view_is c.args.dir.now list (list_found lists c.args.dir.now.label list c.in_ok-get.ensures))
