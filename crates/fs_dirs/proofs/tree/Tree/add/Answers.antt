use Rattle.std.specs.Prelude.{◌≡◌, Option, None, Some, false, is_some, refl}
use Rattle.std.proofs.Common.{sym, ◌∙◌}
use Rattle.std.proofs.lemmas.Bool.{true≢false}
use Rattle.kern_model.specs.declared.numbers.Oid.{Oid}
use Rattle.fs_dirs.proofs.tree.Tree.add.Goals as goal

none_there : (w : Option Oid) → is_some w ≡ false → w ≡ None
none_there None e = refl
none_there (Some id) e = absurd (true≢false e)

pub add_absent-requires-clause-absent : goal.add_absent-requires-clause-absent
add_absent-requires-clause-absent c = sym c.look.ensures ∙ none_there c.look.result (sym c.is_some.ensures ∙ c.if-is_some.false)
