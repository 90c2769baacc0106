use Rattle.std.specs.Prelude.{[], ◌∷◌, List}
use Rattle.std.proofs.Common.{ap, sym, ◌∙◌, subst}
use Rattle.kern_model.proofs.KeyLaws.{oid_cmp_exact}
use Rattle.kern_model.proofs.MapLemmas.{same_key}
use Rattle.fs_dirs.specs.declared.links.Holder.{Holder}
use Rattle.fs_dirs.specs.Entries.{IsWith, dir_of}
use Rattle.fs_dirs.specs.Links.{holders_in}
use Rattle.fs_dirs.proofs.LinkLemmas.{with_one}
use Rattle.fs_dirs.proofs.links.Links.push.Goals as goal

pub returns-in_ok-holder-in-One-clause-ok : goal.returns-in_ok-holder-in-One-clause-ok
returns-in_ok-holder-in-One-clause-ok c =
    let h = c.in-One.holder in
    let g = c.in_ok-holder-in-One.field-0 in
    let dir = c.args.dir.now in
    let is = same_key oid_cmp_exact (dir_of h) dir (sym c.is.ensures ∙ c.if-is.true) in
    subst (λ (hs : List Holder). IsWith hs dir (g ∷ [])) (sym (ap holders_in c.in-One.is) ∙ c.self.view_is)
    (with_one h dir g is (ap dir_of c.in_ok-holder-in-One.ensures ∙ is) (ap (λ (x : Holder). x.further) c.in_ok-holder-in-One.ensures))
