use Rattle.cap_bits.proofs.Names.{named}
use Rattle.cap_bits.proofs.cap.Cap.has_name.Goals as goal

pub returns : goal.returns
returns c = named c.eq_ignore_ascii_case.result c.args.self c.name.result.now c.args.name.now c.name.ensures c.eq_ignore_ascii_case.ensures.test
