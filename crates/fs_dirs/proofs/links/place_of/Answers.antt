use Rattle.std.proofs.Common.{rules}
use Rattle.std.proofs.lemmas.List.Sorted.{answers_always}
use Rattle.kern_model.specs.Keys.{oid_cmp}
use Rattle.fs_dirs.specs.Entries.{dir_of}
use Rattle.fs_dirs.proofs.SortedHolders.{absent, found, gap}
use Rattle.fs_dirs.proofs.links.place_of.Goals as goal

pub returns-clause-is : goal.returns-clause-is
unfolding oid_cmp
returns-clause-is c =
    let answers = c.binary_search_by_key.ensures in
    found c.args.holders.now c.args.dir.now _ (answers.position dir_of (answers_always _ _ _ (λ f a r g called. search rules)))

pub returns-clause-absent : goal.returns-clause-absent
unfolding oid_cmp
returns-clause-absent c =
    let answers = c.binary_search_by_key.ensures in
    absent c.args.holders.now c.args.dir.now _ (gap c.args.holders.now c.args.dir.now c.requires _ answers.bound (answers.position dir_of (answers_always _ _ _ (λ f a r g called. search rules))))

pub returns-clause-gap : goal.returns-clause-gap
unfolding oid_cmp
returns-clause-gap c =
    let answers = c.binary_search_by_key.ensures in
    gap c.args.holders.now c.args.dir.now c.requires _ answers.bound (answers.position dir_of (answers_always _ _ _ (λ f a r g called. search rules)))
