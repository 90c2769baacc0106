use Rattle.std.proofs.Common.{◌≡◌, ◌||◌, arith, ◌∙◌, ap, refl, sym, subst, false, unsigned_abs, w64, ℕ, pos, IsSome}
use Rattle.std.proofs.Math.Facts.{to_z-of_z}
use Rattle.std.specs.Result.{is_err}
use Rattle.std.proofs.lemmas.Bool.{le-ltb, true≢false}
use Rattle.kern_model.specs.FileRows.{offset_change}
use Rattle.kern_model.specs.State.{State, apply_change}
use Rattle.fd_table.specs.Files.{is_past}
use Rattle.fd_table.specs.Fds.{AllFds}
use Rattle.fd_table.proofs.Counting.{where_ok}
use Rattle.sys_lookup.specs.Owners.{HasOwners}
use Rattle.sys_lookup.specs.Shared.{state_of, with_fds}
use Rattle.sys_file.proofs.ReferLemmas.{holds, referred}
use Rattle.sys_file.proofs.offsets.set_offset.Goals as goal

-- an offset is not past itself
not_past : (n : ℕ) → is_past (pos n) n ≡ false
not_past n =
    let more = le-ltb n 0 (omega arith) in
    let over = le-ltb n n (omega arith) in
    (λ i. more i || over i)

pub unreachable-requires : goal.unreachable-requires
unreachable-requires c =
    let w = holds _ c.requires in
    let at = referred c.shared.inside c.shared.view_is c.args.who.now c.args.fd _ w.is in
    let to = to_z-of_z {w = w64} {z = c.from.result} (record { sfits = c.from.type_inv }) ∙ c.from.ensures in
    let within = ap (λ z. is_past z c.args.to) to ∙ not_past c.args.to in
    true≢false (sym c.if-is_err.true ∙ c.is_err.ensures.value ∙ ap is_err (c.seek.ensures.offset (subst IsSome (sym at.did) refl) within))

pub returns : goal.returns
returns c = λ f is.
    let h = c.shared.inside in
    let s = state_of h in
    let at = referred h c.shared.view_is c.args.who.now c.args.fd f is in
    let set = where_ok c.seek.result (sym c.is_err.ensures.value ∙ c.if-is_err.false) (c.seek.ensures.moved f.did f.description at.did at.description) in
    (λ i. record s { procs = with_fds h.procs.procs (set i).processes; descriptions = (set i).descriptions; description_numbers = (set i).numbers })
    ∙ ap (λ z. apply_change s (offset_change f (unsigned_abs z))) (to_z-of_z {w = w64} {z = c.from.result} (record { sfits = c.from.type_inv }) ∙ c.from.ensures)
    ∙ ap (λ (x : State). apply_change x (offset_change f c.args.to)) c.shared.view_is

pub invariant_of-shared : goal.invariant_of-shared
invariant_of-shared c = subst (λ (rows : AllFds). ∥ HasOwners c.shared.inside.procs.procs rows ∥₁) (sym c.seek.ensures.processes) c.shared.invariant
