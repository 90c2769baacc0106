use Rattle.std.specs.Prelude.{◌≡◌, Option, Some, None, cond, refl}
use Rattle.std.specs.FinMap as map
use Rattle.std.proofs.Common.{ap, sym, ◌∙◌, subst, ℕ, rules}
use Rattle.kern_model.specs.declared.numbers.Did.{Did}
use Rattle.kern_model.specs.State.{Description}
use Rattle.kern_model.specs.Valid.{IsThere}
use Rattle.fd_table.specs.Descriptions.{SharedTable, description_of, descriptions_of}
use Rattle.fd_table.specs.Files.{AreHeld, OpenFiles}
use Rattle.std.specs.Prelude.{Bool, true, false, unsigned_abs, ℤ}
use Rattle.std.specs.Int.{w64}
use Rattle.std.proofs.lemmas.Int.{to_z-of_z}
use Rattle.kern_model.proofs.MapLemmas.{never_some, some_same}
use Rattle.fd_table.specs.Files.{is_past, with_offset}
use Rattle.fd_table.proofs.Holding.{held-moved}
use Rattle.fd_table.proofs.Leaving.{description_is, descriptions-insert, there_with}
use Rattle.fd_table.proofs.table.FdTable.seek.Goals as goal

pub set_offset-requires : goal.set_offset-requires
set_offset-requires c =
    there_with c.self.inside.descriptions c.in_ok-did.did
    (subst (λ (t : OpenFiles). IsThere t.descriptions c.in_ok-did.did) (sym c.self.view_is) (c.did.ensures.there c.in_ok-did.did c.in_ok-did.ensures.ok_part))

pub invariant_of-self : goal.invariant_of-self
invariant_of-self c =
    let shared = c.self.inside.descriptions in
    let did = c.in_ok-did.did in
    let there = there_with shared did (subst (λ (t : OpenFiles). IsThere t.descriptions did) (sym c.self.view_is) (c.did.ensures.there did c.in_ok-did.ensures.ok_part)) in
    subst (λ (m : SharedTable). AreHeld c.self.inside.processes m c.self.inside.numbers) (sym (c.set_offset.ensures there.value there.is))
    (held-moved c.self.inside.processes shared c.self.inside.numbers c.self.invariant did there.value (record there.value { offset = c.in_ok-offset.offset }) there.is refl)

offset_is : (b : Bool) (x n : ℕ) → Some x ≡ cond b None (Some n) → x ≡ n
offset_is true x n e = absurd (never_some (Some x) x e refl)
offset_is false x n e = some_same x n e

pub returns-clause-moved : goal.returns-clause-moved
returns-clause-moved c did d at is =
    let shared = c.self.inside.descriptions in
    let here = c.in_ok-did.did in
    let there = there_with shared here (subst (λ (t : OpenFiles). IsThere t.descriptions here) (sym c.self.view_is) (c.did.ensures.there here c.in_ok-did.ensures.ok_part)) in
    let same : here ≡ did = some_same here did (sym c.in_ok-did.ensures.ok_part ∙ c.did.ensures.did ∙ at) in
    let offset : c.in_ok-offset.offset ≡ unsigned_abs c.args.to = offset_is (is_past c.args.to c.args.size) c.in_ok-offset.offset (unsigned_abs c.args.to) (sym c.in_ok-offset.ensures.ok_part ∙ c.offset_within.ensures ∙ ap (λ (z : ℤ). cond {A = Option ℕ} (is_past z c.args.size) None (Some (unsigned_abs z))) (to_z-of_z w64 c.args.to (search rules))) in
    let described : description_of there.value ≡ d =
    description_is shared here there.value d there.is (ap (λ (t : OpenFiles). map.get t.descriptions here) c.self.view_is ∙ ap (map.get c.args.self.now.descriptions) same ∙ is) in
    let descriptions : descriptions_of c.set_offset.new.self ≡ map.insert (descriptions_of shared) did (record d { offset = unsigned_abs c.args.to }) =
    ap descriptions_of (c.set_offset.ensures there.value there.is) ∙ descriptions-insert shared here (record there.value { offset = c.in_ok-offset.offset })
    ∙ ap (λ n. map.insert (descriptions_of shared) here (record (description_of there.value) { offset = n })) offset
    ∙ ap (λ (x : Description). map.insert (descriptions_of shared) here (record x { offset = unsigned_abs c.args.to })) described
    ∙ ap (λ (q : Did). map.insert (descriptions_of shared) q (record d { offset = unsigned_abs c.args.to })) same in
    let all : ◌≡◌ {A = OpenFiles} (record { processes = c.self.inside.processes; descriptions = descriptions_of c.set_offset.new.self; numbers = c.self.inside.numbers })
    (record { processes = c.self.inside.processes; descriptions = map.insert (descriptions_of shared) did (record d { offset = unsigned_abs c.args.to }); numbers = c.self.inside.numbers }) = (λ i. record { processes = c.self.inside.processes; descriptions = descriptions i; numbers = c.self.inside.numbers }) in
    all ∙ ap (λ (t : OpenFiles). with_offset t did d (unsigned_abs c.args.to)) c.self.view_is
