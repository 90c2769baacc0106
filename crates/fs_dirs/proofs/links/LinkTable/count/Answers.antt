use Rattle.std.specs.Prelude.{List, [], get_or}
use Rattle.std.proofs.Common.{ap, sym, ◌∙◌}
use Rattle.std.specs.Option.{option_copied}
use Rattle.std.specs.FinMap as map
use Rattle.kern_model.proofs.ListItems.{list_absent, list_found}
use Rattle.fs_dirs.specs.declared.links.Holder.{Holder}
use Rattle.fs_dirs.specs.Entries.{Holders, names_in_all}
use Rattle.fs_dirs.proofs.links.LinkTable.count.Goals as goal

pub returns-in-Some : goal.returns-in-Some
returns-in-Some c =
    let label = c.args.id.now.label in
    let is = sym (ap option_copied c.in-Some.is) ∙ c.get.ensures ∙ ap (λ (m : Holders). map.get m label) c.self.view_is in
    c.count.ensures ∙ sym (ap (λ (r : List (List Holder)). names_in_all (get_or r c.args.id.now.n [])) (list_found c.args.self.now label c.in-Some.list.now is))

pub returns-in-None : goal.returns-in-None
returns-in-None c =
    let label = c.args.id.now.label in
    let is = sym (ap option_copied c.in-None.is) ∙ c.get.ensures ∙ ap (λ (m : Holders). map.get m label) c.self.view_is in
    sym (ap (λ (r : List (List Holder)). names_in_all (get_or r c.args.id.now.n [])) (list_absent c.args.self.now label is))
