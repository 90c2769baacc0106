use Rattle.std.proofs.Common.{ap, sym, ◌∙◌}
use Rattle.std.specs.Prelude.{unwrap_or}
use Rattle.std.proofs.lemmas.Result.{IfOk-weaker}
use Rattle.cap_bits.specs.declared.file_caps.FileCaps.{FileCaps}
use Rattle.world_text.specs.TreeLines.{object_of, parse_object}
use Rattle.world_text.proofs.FileCapsLemmas.{tree_read}
use Rattle.world_text.proofs.tree.parse_tree.Goals as goal

pub returns-in-Known : goal.returns-in-Known
returns-in-Known c =
    let object = c.object_of-object.ensures ∙ ap (λ (caps : FileCaps). object_of c.in-Some.fields c.in-Known.label caps c.args.body) (c.unwrap_or.ensures ∙ ap (λ (none : FileCaps). unwrap_or c.from_state-caps.result none) c.none.ensures) in
    IfOk-weaker c.parse_object.result _ _ (λ fault h. h ∙ (λ i. parse_object c.args.so_far.now (object i) (c.is_some.ensures i))
    ∙ tree_read c.args.so_far.now _ c.args.caps c.args.body c.in-Some.fields c.in-Known.label c.in-Known.state c.from_state-caps.result (sym c.in_ok-fields.ensures ∙ c.in-Some.is) (sym c.both.ensures ∙ c.in-Known.is) c.from_state-caps.ensures.value) c.parse_object.ensures
