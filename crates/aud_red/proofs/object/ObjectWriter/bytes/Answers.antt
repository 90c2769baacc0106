use Rattle.std.specs.Prelude.{◌≡◌, ◌++◌, List, ℕ, OnOk}
use Rattle.std.proofs.Common.{ap, ◌∙◌, subst, arith}
use Rattle.fs_path.specs.Words.{quoted_text}
use Rattle.fs_path.proofs.ValueRanges.{bytes_from}
use Rattle.serde_json.specs.Data.{string, put}
use Rattle.serde_json.specs.View.{members_view}
use Rattle.aud_red.specs.Json.{are_printable}
use Rattle.aud_red.proofs.Printable.{of_items}
use Rattle.aud_red.proofs.Unquoted.{quoted_long, unquoted_items}
use Rattle.aud_red.proofs.object.ObjectWriter.bytes.Goals as goal

pub returns-in_default : goal.returns-in_default
returns-in_default c =
    let is = c.as_slice.ensures.value ∙ c.in_ok-put_quoted.ensures.text ∙ ap (λ (t : List ℕ). t ++ quoted_text c.args.bytes.now) c.in_ok-text.ensures in
    let long = quoted_long c.as_slice.result.now c.args.bytes.now is in
    absurd (omega (arith, long, c.in_default.len_below))

pub string-requires-clause-text : goal.string-requires-clause-text
string-requires-clause-text c =
    let is = c.as_slice.ensures.value ∙ c.in_ok-put_quoted.ensures.text ∙ ap (λ (t : List ℕ). t ++ quoted_text c.args.bytes.now) c.in_ok-text.ensures in
    ap are_printable (c.in_ok-text-2.ensures.items ∙ unquoted_items c.as_slice.result.now c.args.bytes.now is) ∙ of_items c.args.bytes.now (bytes_from c.args.bytes.now (λ i. omega (arith, c.type_inv.bytes i)))

pub returns : goal.returns
returns c =
    let is = c.as_slice.ensures.value ∙ c.in_ok-put_quoted.ensures.text ∙ ap (λ (t : List ℕ). t ++ quoted_text c.args.bytes.now) c.in_ok-text.ensures in
    subst (λ (t : List ℕ). OnOk c.string.result (members_view c.string.new.self ≡ put c.args.key.now (string t) (members_view c.args.self.now))) (c.in_ok-text-2.ensures.items ∙ unquoted_items c.as_slice.result.now c.args.bytes.now is) c.string.ensures
