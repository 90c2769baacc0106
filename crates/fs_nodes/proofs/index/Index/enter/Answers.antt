use Rattle.std.specs.Prelude.{ℕ, ◌<◌}
use Rattle.std.proofs.Common.{ap, sym, ◌∙◌, subst}
use Rattle.std.proofs.lemmas.Result.{on_err_weaker, on_ok_weaker}
use Rattle.std.specs.Option.{option_copied_mut}
use Rattle.std.specs.FinMap as map
use Rattle.lab_lattice.proofs.Labels.{label_cmp_total, label_cmp_exact}
use Rattle.kern_model.specs.declared.limits.TheConstants.{MAX_OBJECTS}
use Rattle.kern_model.proofs.LabelMaps.{at_some}
use Rattle.kern_model.proofs.MapLemmas.{insert-same}
use Rattle.kern_model.specs.LabelLists.{Lists}
use Rattle.fs_nodes.proofs.Keys.{drawn_is, entered, viewed}
use Rattle.kern_model.proofs.ListItems.{list_absent, list_found}
use Rattle.fs_nodes.proofs.index.Index.enter.Goals as goal

pub push-requires : goal.push-requires
push-requires c =
    let lists = c.self.inside.by_label in
    let label = c.args.id.now.label in
    let list = c.in-Some.keys.now in
    let found = list_found lists label list (sym (ap option_copied_mut c.in-Some.is) ∙ c.get_mut.ensures.value) in
    subst (λ n. n < MAX_OBJECTS) (drawn_is lists c.args.self.now c.self.view_is label list found) c.requires.left

pub returns-in-Some-clause-ok : goal.returns-in-Some-clause-ok
returns-in-Some-clause-ok c =
    let lists = c.self.inside.by_label in
    let id = c.args.id.now in
    let list = c.in-Some.keys.now in
    let new = c.push.new.self in
    let found = list_found lists id.label list (sym (ap option_copied_mut c.in-Some.is) ∙ c.get_mut.ensures.value) in
    let set = at_some c.in-Some.is (c.get_mut.follows.holds new) in
    on_ok_weaker c.push.result (entered lists c.args.self.now c.self.view_is id c.args.key c.requires.next list found (c.get_mut.follows.lender new) new set) c.push.ensures.ok

pub returns-in-Some-clause-err : goal.returns-in-Some-clause-err
returns-in-Some-clause-err c =
    let lists = c.self.inside.by_label in
    let label = c.args.id.now.label in
    let is = sym (ap option_copied_mut c.in-Some.is) ∙ c.get_mut.ensures.value in
    let set = at_some c.in-Some.is (c.get_mut.follows.holds c.push.new.self) in
    let same = insert-same label_cmp_total label_cmp_exact lists label c.in-Some.keys.now (sym is) in
    on_err_weaker c.push.result (λ kept. ap viewed (set ∙ ap (map.insert lists label) kept ∙ same) ∙ c.self.view_is) c.push.ensures.err

pub returns-clause-ok : goal.returns-clause-ok
returns-clause-ok c =
    let lists = c.self.inside.by_label in
    let id = c.args.id.now in
    let new = c.push-2.new.self in
    let absent = list_absent lists id.label (sym (ap option_copied_mut c.in_default.is) ∙ c.get_mut.ensures.value) in
    let set = c.in_ok-insert.ensures.ok ∙ ap (λ (m : Lists ℕ). map.insert m id.label new) c.get_mut.follows.holds-at-none in
    entered lists c.args.self.now c.self.view_is id c.args.key c.requires.next c.new-keys.result (absent ∙ sym c.new-keys.ensures) c.insert.new.self new set c.in_ok-push.ensures.ok
