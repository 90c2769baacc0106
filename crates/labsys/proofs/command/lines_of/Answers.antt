use Rattle.std.proofs.Common.{◌≡◌, sym, rules}
use Rattle.std.specs.Prelude.{Some}
use Rattle.fs_path.proofs.ValueRanges.{numeral_range}
use Rattle.gen_world.specs.declared.generator.TheConstants.{MAX_LINES}
use Rattle.labsys.specs.Commands.{lines_of}
use Rattle.labsys.proofs.command.lines_of.Goals as goal

pub returns-clause-fits : goal.returns-clause-fits
returns-clause-fits c =
    let is : Some c.in_ok-lines.lines ≡ lines_of c.args.word.now = search rules in
    numeral_range 10 6 1 MAX_LINES c.args.word.now _ (sym is)
