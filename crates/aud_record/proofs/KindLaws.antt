-- The forms of all kinds of records.
use Rattle.std.specs.Prelude.{◌≡◌, Bool, true, false, None, Some, refl}
use Rattle.std.proofs.Common.{sym}
use Rattle.fs_path.specs.Words.{after_spaces}
use Rattle.lab_text.specs.Policy.{PolicyNames}
use Rattle.kern_model.specs.declared.calls.Ending.TheVariants as ending
use Rattle.kern_model.specs.declared.numbers.Pid.{Pid}
use Rattle.kern_model.specs.declared.records.Rec.{Rec}
use Rattle.kern_model.specs.declared.records.Rec.TheVariants as rec
use Rattle.kern_model.specs.Records.{who_of}
use Rattle.aud_record.specs.Events.{event_of}
use Rattle.aud_record.specs.Fits.{rest_tests, all_hold}
use Rattle.aud_record.proofs.FormLaws.{Values, record_of, words_in, values_fit, IsWide}
use Rattle.aud_record.specs.Forms.{exit_form, form_of}
use Rattle.aud_record.specs.Written.{rest_words}
use Rattle.aud_record.specs.declared.canonical.NewLabel.TheVariants as new
use Rattle.aud_record.specs.declared.event.Event.{Event}
use Rattle.aud_record.specs.declared.event.Event.TheVariants as event

exit_wide : (who : Pid) (exits : Bool) → IsWide (exit_form who exits)
exit_wide who true = (refl, λ code. tt)
exit_wide who false = (refl, λ term. tt)

pub form_wide : (e : Event) (who : Pid) → IsWide (form_of e who)
form_wide event.Boot who = (refl, λ label. (refl, λ caps. tt))
form_wide event.Fork who = (refl, λ child. tt)
form_wide event.Exec who = (refl, λ file. (refl, λ file_caps. (refl, λ caps. tt)))
form_wide event.Exit who = (refl, exit_wide who)
form_wide event.CapSetProc who = (refl, λ caps. tt)
form_wide event.CapSetFile who = (refl, λ file. (refl, λ caps. tt))
form_wide event.MacSetProc who = (refl, λ old. (refl, λ new. tt))
form_wide event.MacSetFile who = (refl, λ object. (refl, λ old. (refl, λ new. tt)))
form_wide event.Exercise who = (refl, λ label. (refl, λ cap. (refl, λ check. (refl, λ thing. (refl, λ thing_label. (refl, λ new_label. (refl, λ place. tt)))))))
form_wide event.Deny who = (refl, λ call. (refl, λ errno. (refl, λ check. (refl, λ place. tt))))
form_wide event.Switch who = (refl, λ on. tt)
form_wide event.Note who = (refl, λ bytes. tt)

-- the record that a form makes is of its kind and about its process, has the words of its values, and fits where they do
pub record IsOfKind (p : PolicyNames) (e : Event) (who : Pid) (vs : Values (form_of e who)) : Type 0 where
  pub kind : event_of (record_of (form_of e who) vs) ≡ e
  pub about : who_of (record_of (form_of e who) vs) ≡ who
  pub text : after_spaces (words_in p (form_of e who) vs) ≡ after_spaces (rest_words p (record_of (form_of e who) vs))
  pub fit : all_hold (rest_tests p (record_of (form_of e who) vs)) ≡ values_fit p (form_of e who) vs

pub of_kind : (p : PolicyNames) (e : Event) (who : Pid) (vs : Values (form_of e who)) → IsOfKind p e who vs
of_kind p event.Boot who vs = record { kind = refl; about = refl; text = refl; fit = refl }
of_kind p event.Fork who vs = record { kind = refl; about = refl; text = refl; fit = refl }
of_kind p event.Exec who vs = record { kind = refl; about = refl; text = refl; fit = refl }
of_kind p event.Exit who (true, vs) = record { kind = refl; about = refl; text = refl; fit = refl }
of_kind p event.Exit who (false, (true, vs)) = record { kind = refl; about = refl; text = refl; fit = refl }
of_kind p event.Exit who (false, (false, vs)) = record { kind = refl; about = refl; text = refl; fit = refl }
of_kind p event.CapSetProc who vs = record { kind = refl; about = refl; text = refl; fit = refl }
of_kind p event.CapSetFile who vs = record { kind = refl; about = refl; text = refl; fit = refl }
of_kind p event.MacSetProc who vs = record { kind = refl; about = refl; text = refl; fit = refl }
of_kind p event.MacSetFile who vs = record { kind = refl; about = refl; text = refl; fit = refl }
of_kind p event.Exercise who vs = record { kind = refl; about = refl; text = refl; fit = refl }
of_kind p event.Deny who vs = record { kind = refl; about = refl; text = refl; fit = refl }
of_kind p event.Switch who vs = record { kind = refl; about = refl; text = refl; fit = refl }
of_kind p event.Note who vs = record { kind = refl; about = refl; text = refl; fit = refl }

-- a record is made from values of its form
pub record IsMade (r : Rec) : Type 0 where
  pub values : Values (form_of (event_of r) (who_of r))
  pub makes : record_of (form_of (event_of r) (who_of r)) values ≡ r

pub made_by : (r : Rec) → IsMade r
made_by (rec.Boot who label caps) = record { values = (label, (caps, tt)); makes = refl }
made_by (rec.Fork who child) = record { values = (child, tt); makes = refl }
made_by (rec.Exec who file file_caps caps) = record { values = (file, (file_caps, (caps, tt))); makes = refl }
made_by (rec.Exit who (ending.Exit code)) = record { values = (true, (code, tt)); makes = refl }
made_by (rec.Exit who ending.Term) = record { values = (false, (true, tt)); makes = refl }
made_by (rec.Exit who ending.Kill) = record { values = (false, (false, tt)); makes = refl }
made_by (rec.CapSetProc who caps) = record { values = (caps, tt); makes = refl }
made_by (rec.CapSetFile who file caps) = record { values = (file, (caps, tt)); makes = refl }
made_by (rec.MacSetProc who old new) = record { values = (old, (new, tt)); makes = refl }
made_by (rec.MacSetFile who object old new) = record { values = (object, (old, (new, tt))); makes = refl }
made_by (rec.Exercise e) =
    elim e.new_label as (λ n. e.new_label ≡ n → IsMade (rec.Exercise e)) [
      | None ↦ λ is. record {
        values = (e.label, (e.cap, (e.check, (e.thing, (e.thing_label, (new.Absent, (e.place, tt)))))));
        makes = λ i. rec.Exercise (record e { new_label = sym is i });
      }
      | Some label ↦ λ is. record {
        values = (e.label, (e.cap, (e.check, (e.thing, (e.thing_label, (new.Given label, (e.place, tt)))))));
        makes = λ i. rec.Exercise (record e { new_label = sym is i });
      }
    ] refl
made_by (rec.Deny who call errno check place) = record { values = (call, (errno, (check, (place, tt)))); makes = refl }
made_by (rec.Switch who on) = record { values = (on, tt); makes = refl }
made_by (rec.Note who bytes) = record { values = (bytes, tt); makes = refl }
