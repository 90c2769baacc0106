use Rattle.std.proofs.Common.{ap, sym, ◌∙◌}
use Rattle.std.specs.FinMap as map
use Rattle.std.specs.Option.{option_copied}
use Rattle.fs_nodes.specs.Nodes.{NodeSlots}
use Rattle.fs_nodes.proofs.Places.{at_key, at_no_key}
use Rattle.fs_nodes.proofs.nodes.Nodes.get.Goals as goal

pub returns-in_err-key : goal.returns-in_err-key
returns-in_err-key c =
    ap option_copied c.from_residual.ensures ∙ sym (at_no_key c.self.inside.slots c.self.inside.index.keys c.args.id.now (sym c.get.ensures ∙ c.in_err-key.was))
    ∙ ap (λ (n : NodeSlots). map.get n.table.objects c.args.id.now) c.self.view_is

pub returns : goal.returns
returns c =
    c.get-2.ensures ∙ sym (at_key c.self.inside.slots c.self.inside.index.keys c.args.id.now c.in_ok-key.key (sym c.get.ensures ∙ c.in_ok-key.was))
    ∙ ap (λ (n : NodeSlots). map.get n.table.objects c.args.id.now) c.self.view_is
