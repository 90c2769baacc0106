use Rattle.std.proofs.Common.{rules}
use Rattle.gen_world.proofs.PieceLemmas.{no_line_left, line_left}
use Rattle.gen_world.proofs.generator.Generator.put_next.Goals as goal

pub returns-then-self-eq0-clause-appended : goal.returns-then-self-eq0-clause-appended
returns-then-self-eq0-clause-appended c = rw (← c.self.view_is, c.if-self.false, no_line_left _ _ c.if-self-eq0.true) (search rules)

pub returns-clause-appended : goal.returns-clause-appended
returns-clause-appended c = rw (← c.self.view_is, c.if-self.false, line_left _ _ c.if-self-eq0.false) (search rules)
