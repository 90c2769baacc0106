use Rattle.std.proofs.Common.{ap, ◌+◌, ◌*◌, ◌^◌, ◌∙◌}
use Rattle.std.specs.Ordering.{nat_cmp}
use Rattle.fs_dirs.proofs.HeadLemmas.{by_digits}
use Rattle.fs_dirs.proofs.head.Head.compare.Goals as goal

pub returns-clause-order : goal.returns-clause-order
returns-clause-order g c =
    let own = c.self.inside in
    let other = c.other.inside in
    c.compare.ensures.order ∙ by_digits (2 ^ 64) own.first own.second other.first other.second c.self.invariant c.other.invariant
    ∙ ap (λ n. nat_cmp n (other.first * 2 ^ 64 + other.second)) c.self.view_is ∙ ap (λ n. nat_cmp c.args.self.now n) c.other.view_is
