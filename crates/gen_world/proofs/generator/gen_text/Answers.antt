use Rattle.gen_world.proofs.TextLaws.{pieces_joined}
use Rattle.gen_world.proofs.generator.gen_text.Goals as goal

pub loop-text-init : goal.loop-text-init
loop-text-init c = rw (c.new-text.ensures.items, c.new-generator.ensures) (pieces_joined c.args.n)
