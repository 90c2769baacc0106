use Rattle.std.proofs.Common.{sym, ◌∙◌, ap, arith}
use Rattle.io_ends.specs.LinesState.{LinesState}
use Rattle.io_ends.proofs.NextLemmas.{answers_line, given_line, answers_long, answers_too_much, answers_end, answers_unended}
use Rattle.io_ends.proofs.lines.Lines.next.Goals as goal

pub returns-in-Line-clause-advances : goal.returns-in-Line-clause-advances
returns-in-Line-clause-advances g c = answers_line _ _ _ _ _ _ c.self.view_is _ c.consume.ensures _ _ _ _ c.in-Ok.ensures.seeks c.in-Line.length c.in-Line.is

pub returns-in-LongLine-clause-advances : goal.returns-in-LongLine-clause-advances
returns-in-LongLine-clause-advances g c = answers_long _ _ _ _ _ _ c.self.view_is _ c.consume.ensures _ _ _ _ c.in-Ok.ensures.seeks c.in-LongLine.is

pub returns-in-TooMuch-clause-advances : goal.returns-in-TooMuch-clause-advances
returns-in-TooMuch-clause-advances g c = answers_too_much _ _ _ _ _ _ c.self.view_is _ c.consume.ensures _ _ _ _ c.in-Ok.ensures.seeks c.in-TooMuch.is

pub returns-in-Part-clause-advances : goal.returns-in-Part-clause-advances
returns-in-Part-clause-advances g c = answers_end _ _ _ _ _ _ c.self.view_is _ c.consume.ensures _ _ _ _ c.in-Ok.ensures.seeks c.in-Part.is _ c.held.ensures.value (sym c.is_empty.ensures ∙ c.if-is_empty.true)

pub returns-in-Part-2-clause-advances : goal.returns-in-Part-2-clause-advances
returns-in-Part-2-clause-advances g c = answers_unended _ _ _ _ _ _ c.self.view_is _ c.consume.ensures _ _ _ _ c.in-Ok.ensures.seeks c.in-Part-2.is _ c.held.ensures.value (sym c.is_empty.ensures ∙ c.if-is_empty.false)

pub invariant_of-self-in-Line : goal.invariant_of-self-in-Line
invariant_of-self-in-Line g c =
    let line = given_line _ _ _ _ _ _ c.self.view_is _ c.consume.ensures _ _ _ _ c.in-Ok.ensures.seeks c.in-Line.length c.in-Line.is in
    let small = c.self.invariant.3 (ap (λ (s : LinesState). s.more) c.self.view_is ∙ c.requires) in
    let room = c.self.invariant.2 in
    (line.0, line.1, omega (arith, room), λ _. omega (arith, small, line.2), λ _ _. line.3)
