use Rattle.std.proofs.Common.{ap, sym, ◌∙◌}
use Rattle.std.specs.FinMap as map
use Rattle.fs_dirs.proofs.Names.{how_many}
use Rattle.fs_dirs.proofs.directory.Directory.len.Goals as goal

pub returns : goal.returns
returns c = c.len.ensures ∙ sym (how_many c.self.inside.entries c.self.invariant) ∙ ap map.len c.self.view_is
