-- The table agrees with the definition at each byte, by computing.
use Rattle.std.proofs.Common.{nat_eq, get_or, refl, arith}
use Rattle.std.proofs.lemmas.Bool.{agree_below_at}
use Rattle.fs_path.specs.declared.words.TheConstants.{BARE_MAP}
use Rattle.fs_path.specs.Words.{is_bare}
use Rattle.fs_path.proofs.words.is_bare.Goals as goal

pub returns : goal.returns
returns c = agree_below_at (λ b. nat_eq (get_or BARE_MAP b 0) b) is_bare 256 c.args.byte refl (omega arith)
