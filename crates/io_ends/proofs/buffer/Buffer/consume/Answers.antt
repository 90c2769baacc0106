use Rattle.std.proofs.Common.{List, ℕ, ◌≤◌, ◌-◌, ◌∙◌, ap, arith, drop, length, length-take, subst, sym}
use Rattle.io_ends.proofs.BufferLemmas.{later_start}
use Rattle.io_ends.proofs.buffer.Buffer.consume.Goals as goal

pub returns : goal.returns
returns c =
    let inside = c.self.inside in
    let within = subst (λ (held : List ℕ). c.args.count ≤ length held) (sym c.self.view_is) c.requires in
    let few = length-take (inside.end - inside.start) (drop inside.start inside.bytes.items) in
    later_start inside.bytes.items inside.start inside.end c.args.count (omega arith) ∙ ap (drop c.args.count) c.self.view_is
