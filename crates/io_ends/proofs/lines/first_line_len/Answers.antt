use Rattle.io_ends.proofs.LineLemmas.{line_found, line_missing}
use Rattle.io_ends.proofs.lines.first_line_len.Goals as goal

pub returns-in-Some : goal.returns-in-Some
returns-in-Some c = line_found c.args.text.now c.args.searched c.in-Some.at c.requires.within c.requires.none c.in-Some.ensures

pub returns-in-None : goal.returns-in-None
returns-in-None c = line_missing c.args.text.now c.args.searched c.requires.within c.requires.none c.in-None.ensures
