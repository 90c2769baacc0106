-- The members of a record in the order of their keys.
use Rattle.std.specs.Prelude.{◌≡◌, ◌≤◌, false, refl}
use Rattle.std.proofs.Common.{arith}
use Rattle.lab_text.specs.Policy.{PolicyNames}
use Rattle.kern_model.specs.declared.records.Rec.{Rec}
use Rattle.kern_model.specs.declared.records.Rec.TheVariants as rec
use Rattle.serde_json.specs.Data.{no_members, depth}
use Rattle.serde_json.specs.Read.{max_depth}
use Rattle.serde_json.specs.Written.{has_float}
use Rattle.aud_record.specs.declared.reading.ReadRec.{ReadRec}
use Rattle.aud_red.specs.Json.{in_key_order, rec_members}
use Rattle.aud_red.specs.JsonValue.{members_of, json_of}
use Rattle.aud_red.specs.Objects.{with_members}
use Rattle.aud_red.proofs.JsonText.{object_flat, object_whole}

-- the members of a record, put one after another, are its object
pub put_in_order : (p : PolicyNames) (read : ReadRec) → with_members no_members (rec_members p read) ≡ members_of (in_key_order (rec_members p read))
put_in_order p read = by_kind read.rec
  where
    of_rec : Rec → ReadRec
    of_rec r = record { call = read.call; rec = r; used = read.used }

    by_kind : (r : Rec) → with_members no_members (rec_members p (of_rec r)) ≡ members_of (in_key_order (rec_members p (of_rec r)))
    by_kind (rec.Boot who label caps) = refl
    by_kind (rec.Fork who child) = refl
    by_kind (rec.Exec who file file_caps caps) = refl
    by_kind (rec.Exit who ending) = refl
    by_kind (rec.CapSetProc who caps) = refl
    by_kind (rec.CapSetFile who file caps) = refl
    by_kind (rec.MacSetProc who old new) = refl
    by_kind (rec.MacSetFile who object old new) = refl
    by_kind (rec.Exercise exercise) = refl
    by_kind (rec.Deny who call errno check place) = refl
    by_kind (rec.Switch who on) = refl
    by_kind (rec.Note who bytes) = refl

-- the value of a record has no float
pub record_whole : (p : PolicyNames) (read : ReadRec) → has_float (json_of p read) ≡ false
unfolding json_of
record_whole p read = object_whole (in_key_order (rec_members p read))

-- the value of a record nests as deep as a text may that is read
pub record_shallow : (p : PolicyNames) (read : ReadRec) → depth (json_of p read) ≤ max_depth
unfolding json_of
record_shallow p read = let flat = object_flat (in_key_order (rec_members p read)) in omega (arith, flat)
