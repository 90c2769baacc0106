use Rattle.std.specs.FinMap as map
use Rattle.std.specs.Option.{option_and_then, option_map}
use Rattle.std.proofs.Common.{ap, sym, ◌∙◌}
use Rattle.kern_model.specs.declared.numbers.Did.{Did}
use Rattle.fd_table.specs.Descriptions.{description_of}
use Rattle.fd_table.specs.Files.{OpenFiles}
use Rattle.fd_table.proofs.Leaving.{get-descriptions}
use Rattle.fd_table.proofs.table.FdTable.shared.Goals as goal

pub returns : goal.returns
returns c =
    let did = c.in_ok-did.did in
    ap (option_map description_of) c.get.ensures ∙ sym (get-descriptions c.self.inside.descriptions did) ∙ ap (λ (t : OpenFiles). map.get t.descriptions did) c.self.view_is
    ∙ ap (option_and_then (λ (d : Did). map.get c.args.self.now.descriptions d)) c.in_ok-did.ensures.did
