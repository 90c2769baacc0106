use Rattle.std.specs.Prelude.{◌≡◌}
use Rattle.std.specs.FinMap as map
use Rattle.std.specs.FinMap.{FinMap}
use Rattle.std.proofs.Common.{ap, sym, ◌∙◌, subst, ℕ}
use Rattle.lab_lattice.specs.Label.{label_cmp}
use Rattle.fd_table.specs.Descriptions.{SharedTable, descriptions_of}
use Rattle.fd_table.specs.Files.{AreHeld}
use Rattle.fd_table.specs.Fds.{AllFds}
use Rattle.fd_table.proofs.Holding.{none_held}
use Rattle.fd_table.proofs.Leaving.{descriptions-empty}
use Rattle.fd_table.proofs.table.FdTable.new.Goals as goal

pub invariant_of-result : goal.invariant_of-result
invariant_of-result c =
    subst (λ (processes : AllFds). AreHeld processes c.new-2.result c.new-3.result) (sym c.new.ensures)
    (subst (λ (shared : SharedTable). AreHeld map.empty shared c.new-3.result) (sym c.new-2.ensures)
    (subst (λ (numbers : FinMap label_cmp ℕ). AreHeld map.empty map.empty numbers) (sym c.new-3.ensures) none_held))

pub returns : goal.returns
returns c =
    let descriptions : descriptions_of c.new-2.result ≡ map.empty = ap descriptions_of c.new-2.ensures ∙ descriptions-empty in
    λ i. record { processes = c.new.ensures i; descriptions = descriptions i; numbers = c.new-3.ensures i }
