use Rattle.std.specs.Prelude.{[], ◌∷◌, List}
use Rattle.std.proofs.Common.{ap, sym, ◌∙◌, subst, arith}
use Rattle.kern_model.specs.declared.numbers.Oid.{Oid}
use Rattle.kern_model.specs.Keys.{same_oid}
use Rattle.fs_dirs.specs.declared.links.Holder.{Holder}
use Rattle.fs_dirs.specs.declared.links.Several.{Several}
use Rattle.fs_dirs.specs.Entries.{IsIn, IsWith}
use Rattle.fs_dirs.specs.Links.{AreKept, holders_in}
use Rattle.fs_dirs.proofs.LinkLemmas.{names_within, only_in}
use Rattle.fs_dirs.proofs.links.Links.take_out.Goals as goal
use Rattle.fs_dirs.proofs.links.Links.take_out.Goals.{in-Several-2, in-None-2}

pub take_out-requires-clause-some : goal.take_out-requires-clause-some
take_out-requires-clause-some c =
    let several = c.in-Several.several in
    let dir = c.args.dir.now in
    let counted = (subst AreKept c.in-Several.is c.self.invariant).1 in
    let some = subst (λ (hs : List Holder). IsIn dir hs) (sym c.self.view_is ∙ ap holders_in c.in-Several.is) c.requires in
    let least = names_within (λ (d : Oid). same_oid d dir) several.value.holders.items in
    let same = ap (λ (s : Several). s.count) c.deref_mut.ensures.value in
    omega (arith, counted, some, least, same)

pub returns-in-One : goal.returns-in-One
returns-in-One c =
    let h = c.in-One.holder in
    let dir = c.args.dir.now in
    let left = holders_in c.without_one.result in
    let old = sym c.self.view_is ∙ ap holders_in c.in-One.is in
    let only = only_in h dir (subst (λ (hs : List Holder). IsIn dir hs) old c.requires) in
    let less = subst (λ (hs : List Holder). IsWith left dir hs) (sym old) (subst (λ (d : Oid). IsWith left d (h ∷ [])) only c.without_one.ensures.names) in
    elim c.match-self-without_one.branch [
      | in-Several-2 w ↦ subst (λ (hs : List Holder). IsWith hs dir c.args.self.now) (sym w.self-is) less
      | in-None-2 w ↦ subst (λ (hs : List Holder). IsWith hs dir c.args.self.now) (sym w.self-is) less
    ]
