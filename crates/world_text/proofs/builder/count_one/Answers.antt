use Rattle.std.proofs.Common.{◌+◌, ap}
use Rattle.world_text.proofs.BuilderLemmas.{counted}
use Rattle.world_text.proofs.builder.count_one.Goals as goal

pub returns : goal.returns
returns c = counted c.args.counts.now c.insert.new.self c.args.label.now (c.args.count + 1) c.in_ok-insert.ensures.ok (ap (λ n. n + 1) c.requires.known)
