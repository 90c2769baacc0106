use Rattle.world_text.proofs.LineLemmas.{process_refused}
use Rattle.world_text.proofs.expecting.PartialWorld.parse_process.Goals as goal

pub returns-in-Some : goal.returns-in-Some
returns-in-Some c = process_refused c.args.self.now c.args.process c.in-Some.fault c.in-Some.ensures
