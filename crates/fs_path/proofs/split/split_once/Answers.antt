use Rattle.fs_path.proofs.SplitLemmas.{split_parts}
use Rattle.fs_path.proofs.split.split_once.Goals as goal

pub returns-clause-parts : goal.returns-clause-parts
returns-clause-parts c = split_parts c.args.at c.in_ok-place.place c.args.text.now c.in_ok-place.ensures
