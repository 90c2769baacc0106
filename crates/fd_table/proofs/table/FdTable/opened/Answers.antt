use Rattle.std.specs.Prelude.{Option}
use Rattle.std.specs.FinMap as map
use Rattle.std.specs.Option.{option_and_then, option_map}
use Rattle.std.proofs.Common.{ap, sym, ◌∙◌}
use Rattle.kern_model.specs.declared.numbers.Did.{Did}
use Rattle.kern_model.specs.Descriptors.{Opened}
use Rattle.kern_model.specs.State.{Description}
use Rattle.fd_table.specs.Descriptions.{description_of}
use Rattle.fd_table.specs.Files.{OpenFiles}
use Rattle.fd_table.specs.declared.shared.Shared.{Shared}
use Rattle.fd_table.proofs.Leaving.{get-descriptions}
use Rattle.fd_table.proofs.table.FdTable.opened.Goals as goal

-- what a description is opened as
abbrev as_opened : Did → Description → Opened
as_opened did d = record { did = did; description = d }

-- what a number of a description is opened as
abbrev at : OpenFiles → Did → Option Opened
at t did = option_map (as_opened did) (map.get t.descriptions did)

abbrev from : Did → Option Shared → Option Opened
from did w = option_map (as_opened did) (option_map description_of w)

pub returns-in_err-shared : goal.returns-in_err-shared
returns-in_err-shared c =
    let did = c.in_ok-did.did in
    c.from_residual-in_err-shared.ensures
    ∙ ap (from did) (sym c.in_err-shared.was ∙ c.get.ensures)
    ∙ ap (option_map (as_opened did)) (sym (get-descriptions c.self.inside.descriptions did))
    ∙ ap (λ (t : OpenFiles). at t did) c.self.view_is
    ∙ ap (option_and_then (at c.args.self.now)) c.in_ok-did.ensures.did

pub returns : goal.returns
returns c =
    let did = c.in_ok-did.did in
    ap (from did) (sym c.in_ok-shared.was ∙ c.get.ensures)
    ∙ ap (option_map (as_opened did)) (sym (get-descriptions c.self.inside.descriptions did))
    ∙ ap (λ (t : OpenFiles). at t did) c.self.view_is
    ∙ ap (option_and_then (at c.args.self.now)) c.in_ok-did.ensures.did
