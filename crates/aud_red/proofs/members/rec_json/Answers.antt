use Rattle.std.specs.Prelude.{◌≡◌, true}
use Rattle.std.proofs.Common.{ap, sym, ◌∙◌}
use Rattle.serde_json.specs.Data.{object}
use Rattle.serde_json.specs.Written.{compact_text}
use Rattle.aud_red.specs.Json.{in_key_order, rec_members, are_printable, json_line}
use Rattle.aud_red.specs.JsonValue.{members_of}
use Rattle.aud_red.specs.Objects.{are_simple}
use Rattle.aud_red.proofs.JsonText.{object_is, object_printable}
use Rattle.aud_red.proofs.members.rec_json.Goals as goal

pub returns-clause-text : goal.returns-clause-text
unfolding json_line
returns-clause-text c =
    let ms = in_key_order (rec_members c.args.policy.now c.args.rec.now) in
    let is = c.in_ok-object_of.ensures in
    ap compact_text (c.into_value.ensures.value ∙ ap object is) ∙ object_is ms (sym (ap are_simple is) ∙ c.into_value.ensures.simple)

pub returns-clause-printable : goal.returns-clause-printable
returns-clause-printable c =
    let ms = in_key_order (rec_members c.args.policy.now c.args.rec.now) in
    let is = c.in_ok-object_of.ensures in
    let simple : are_simple (members_of ms) ≡ true = sym (ap are_simple is) ∙ c.into_value.ensures.simple in
    ap are_printable (ap compact_text (c.into_value.ensures.value ∙ ap object is) ∙ object_is ms simple) ∙ object_printable ms simple
