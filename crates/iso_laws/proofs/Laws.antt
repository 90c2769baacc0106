-- The proof of each law, for the crates above.
pub use Rattle.iso_laws.proofs.Steps.{low_step_reply, low_step_records, low_step_state, other_step, kept_step, valid_step, top_step}
pub use Rattle.iso_laws.proofs.Booting.{kept_boot, top_boot}
pub use Rattle.iso_laws.proofs.ValidBoot.{valid_boot}
pub use Rattle.iso_laws.proofs.Worlds.{isolated_prefix, isolated_whole, isolated_end, isolated_inside, two_worlds_agree, two_worlds_same}
pub use Rattle.iso_laws.proofs.Below.{labels_below, records_below}
pub use Rattle.iso_laws.proofs.ReplyRows.{caller_below, call_below, reply_below}
pub use Rattle.iso_laws.proofs.Lineage.{caps_by_records}
pub use Rattle.iso_laws.proofs.Drops.{drops_by_records}
pub use Rattle.iso_laws.proofs.Growth.{growth_by_records}
pub use Rattle.iso_laws.proofs.OwnTrail.{own_trail}
pub use Rattle.iso_laws.proofs.GoingOn.{refusals_are_named, drawn_step, numbers_step, numbers_run, gone_run}
pub use Rattle.iso_laws.proofs.UnnamedLaw.{unnamed_capability}
pub use Rattle.iso_laws.proofs.CapsStay.{caps_stay}
pub use Rattle.kern_model.proofs.ItemLaws.{judge-items as rows_are_items}
pub use Rattle.kern_model.proofs.ExecLaws.{old_exec as uniform_exec}
