use Rattle.std.proofs.Common.{true, false, sym, ◌∙◌, refl}
use Rattle.world_text.proofs.PlacingLemmas.{fault_reported}
use Rattle.world_text.proofs.builder.WorldBuilder.object_fault.Goals as goal

pub returns-then-is_given : goal.returns-then-is_given
returns-then-is_given c = fault_reported c.args.self.now c.args.object.now c.args.spot.now _ true _ _ _ _ c.requires refl (sym c.is_given.ensures ∙ c.if-is_given.true) refl refl refl refl

pub returns-then-not-has_parent : goal.returns-then-not-has_parent
returns-then-not-has_parent c =
    fault_reported c.args.self.now c.args.object.now c.args.spot.now c.entry_at-directory.result false false _ _ _ c.requires c.entry_at-directory.ensures (sym c.is_given.ensures ∙ c.if-is_given.false)
    (sym c.has_parent.ensures ∙ c.if-not-has_parent.true) refl refl refl

pub returns-then-is_wrong_root : goal.returns-then-is_wrong_root
returns-then-is_wrong_root c =
    fault_reported c.args.self.now c.args.object.now c.args.spot.now c.entry_at-directory.result false true true _ _ c.requires c.entry_at-directory.ensures (sym c.is_given.ensures ∙ c.if-is_given.false)
    (sym c.has_parent.ensures ∙ c.if-not-has_parent.false) (sym c.is_wrong_root.ensures ∙ c.if-is_wrong_root.true) refl refl

pub returns-then-not-is_above_entry : goal.returns-then-not-is_above_entry
returns-then-not-is_above_entry c =
    fault_reported c.args.self.now c.args.object.now c.args.spot.now c.entry_at-directory.result false true false false _ c.requires c.entry_at-directory.ensures (sym c.is_given.ensures ∙ c.if-is_given.false)
    (sym c.has_parent.ensures ∙ c.if-not-has_parent.false) (sym c.is_wrong_root.ensures ∙ c.if-is_wrong_root.false) (sym c.is_above_entry.ensures ∙ c.if-not-is_above_entry.true) refl

pub returns-then-is_full : goal.returns-then-is_full
returns-then-is_full c =
    fault_reported c.args.self.now c.args.object.now c.args.spot.now c.entry_at-directory.result false true false true true c.requires c.entry_at-directory.ensures (sym c.is_given.ensures ∙ c.if-is_given.false)
    (sym c.has_parent.ensures ∙ c.if-not-has_parent.false) (sym c.is_wrong_root.ensures ∙ c.if-is_wrong_root.false) (sym c.is_above_entry.ensures ∙ c.if-not-is_above_entry.false)
    (sym c.is_full.ensures ∙ c.if-is_full.true)

pub returns : goal.returns
returns c =
    fault_reported c.args.self.now c.args.object.now c.args.spot.now c.entry_at-directory.result false true false true false c.requires c.entry_at-directory.ensures (sym c.is_given.ensures ∙ c.if-is_given.false)
    (sym c.has_parent.ensures ∙ c.if-not-has_parent.false) (sym c.is_wrong_root.ensures ∙ c.if-is_wrong_root.false) (sym c.is_above_entry.ensures ∙ c.if-not-is_above_entry.false)
    (sym c.is_full.ensures ∙ c.if-is_full.false)
