use Rattle.std.proofs.Common.{ap, sym, ◌∙◌, subst}
use Rattle.std.specs.Prelude.{Some, is_some}
use Rattle.std.specs.FinMap as map
use Rattle.std.proofs.lemmas.Bool.{true≢false}
use Rattle.fs_dirs.specs.Directory.{AreSorted, IsGap, directory_of}
use Rattle.fs_dirs.specs.declared.slot.Entry.{Entry}
use Rattle.kern_model.proofs.LabelMaps.{at_some}
use Rattle.fs_dirs.proofs.Names.{absent, found, sorted_over, map_over, sorted_added, map_added}
use Rattle.fs_dirs.proofs.directory.Directory.insert.Goals as goal

pub invariant_of-self : goal.invariant_of-self
invariant_of-self c =
    let new = c.lead_to.new.self in
    subst AreSorted (sym (at_some c.in-Some.is (c.get_mut.follows.holds new)))
    (sorted_over c.self.inside.entries c.self.invariant c.args.name c.in-Ok.place c.in-Ok.ensures.found c.in-Some.slot.now new c.in-Some.ensures.value c.args.id (ap (λ (e : Entry). (e.name, e.id)) c.lead_to.ensures.leads))

pub unreachable-requires : goal.unreachable-requires
unreachable-requires c = true≢false (sym (c.in_default.ensures.variant.1 c.in-Ok.ensures.found.within))

pub returns-in-Some-clause-inserted : goal.returns-in-Some-clause-inserted
returns-in-Some-clause-inserted c =
    let new = c.lead_to.new.self in
    ap directory_of (at_some c.in-Some.is (c.get_mut.follows.holds new))
    ∙ map_over c.self.inside.entries c.self.invariant c.args.name c.in-Ok.place c.in-Ok.ensures.found c.in-Some.slot.now new c.in-Some.ensures.value c.args.id (ap (λ (e : Entry). (e.name, e.id)) c.lead_to.ensures.leads)
    ∙ ap (λ m. map.insert m c.args.name c.args.id) c.self.view_is

pub returns-in-Some-clause-found : goal.returns-in-Some-clause-found
returns-in-Some-clause-found c =
    ap Some c.lead_to.ensures.led ∙ sym (found c.self.inside.entries c.self.invariant c.args.name c.in-Ok.place c.in-Some.slot.now c.in-Ok.ensures.found c.in-Some.ensures.value)
    ∙ ap (λ m. map.get m c.args.name) c.self.view_is

pub returns-in_ok-insert-in-Err-clause-found : goal.returns-in_ok-insert-in-Err-clause-found
returns-in_ok-insert-in-Err-clause-found c =
    let gap = c.in-Err.ensures.absent in
    sym (absent c.self.inside.entries c.self.invariant c.args.name c.in-Err.place gap) ∙ ap (λ m. map.get m c.args.name) c.self.view_is

pub returns-in_err-slot-in-Err-clause-replaced : goal.returns-in_err-slot-in-Err-clause-replaced
returns-in_err-slot-in-Err-clause-replaced c there =
    let gap = c.in-Err.ensures.absent in
    let none = absent c.self.inside.entries c.self.invariant c.args.name c.in-Err.place gap in
    absurd (true≢false (sym there ∙ ap is_some (ap (λ m. map.get m c.args.name) (sym c.self.view_is) ∙ none)))

pub returns-in_err-insert-in-Err-clause-replaced :
    goal.returns-in_err-insert-in-Err-clause-replaced
returns-in_err-insert-in-Err-clause-replaced c there =
    let gap = c.in-Err.ensures.absent in
    let none = absent c.self.inside.entries c.self.invariant c.args.name c.in-Err.place gap in
    absurd (true≢false (sym there ∙ ap is_some (ap (λ m. map.get m c.args.name) (sym c.self.view_is) ∙ none)))

pub invariant_of-self-in-Err : goal.invariant_of-self-in-Err
invariant_of-self-in-Err c =
    let entry = c.in_ok-slot-in-Err.slot in
    let gap = c.in-Err.ensures.absent in
    let gap_of_entry = subst (λ (e : Entry). IsGap c.self.inside.entries e.name c.in-Err.place) (sym c.in_ok-slot-in-Err.ensures) gap in
    subst AreSorted (sym c.in_ok-insert-in-Err.ensures.ok) (sorted_added c.self.inside.entries c.self.invariant entry c.in-Err.place gap_of_entry)

pub returns-in_ok-insert-in-Err-clause-inserted : goal.returns-in_ok-insert-in-Err-clause-inserted
returns-in_ok-insert-in-Err-clause-inserted c =
    let entry = c.in_ok-slot-in-Err.slot in
    let gap = c.in-Err.ensures.absent in
    let gap_of_entry = subst (λ (e : Entry). IsGap c.self.inside.entries e.name c.in-Err.place) (sym c.in_ok-slot-in-Err.ensures) gap in
    ap directory_of c.in_ok-insert-in-Err.ensures.ok ∙ map_added c.self.inside.entries c.self.invariant entry c.in-Err.place gap_of_entry
    ∙ ap (λ (e : Entry). map.insert (directory_of c.self.inside.entries) e.name e.id) c.in_ok-slot-in-Err.ensures ∙ ap (λ m. map.insert m c.args.name c.args.id) c.self.view_is
