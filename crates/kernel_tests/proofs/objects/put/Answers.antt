use borrow.Author.Tests.{eqb-true}
use denote.Enum.Bare.{same_true}
use Rattle.std.specs.Prelude.{length}
use Rattle.std.proofs.Common.{◌≡◌, ap, arith, rules, sym, ◌∙◌}
use Rattle.kern_model.specs.declared.objects.Kind.TheVariants.{Fifo}
use Rattle.kern_model.specs.declared.objects.Object.{Object}
use Rattle.kern_model.specs.Kinds.{is_stream}
use Rattle.kern_model.specs.contracts.objects.Kind.{the_type}
use Rattle.kern_model.proofs.MapLemmas.{some_same}
use Rattle.kernel_tests.proofs.objects.put.Goals as goal

pub put_bytes-requires-clause-stream : goal.put_bytes-requires-clause-stream
put_bytes-requires-clause-stream c = record {
  object = c.in-Some.object.now;
  is = sym c.in-Some.ensures;
  stream = let kind : c.in-Some.object.now.kind ≡ Fifo = same_true the_type (search rules) _ _ (sym c.if-eq.ensures) in ap is_stream kind;
}

pub put_bytes-requires-clause-room : goal.put_bytes-requires-clause-room
put_bytes-requires-clause-room c o h =
    let same : o ≡ c.in-Some.object.now = some_same o c.in-Some.object.now (sym h ∙ sym c.in-Some.ensures) in
    let bytes : o.bytes ≡ c.in-Some.object.now.bytes = ap (λ (x : Object). x.bytes) same in
    let none : length o.bytes ≡ 0 = ap length (bytes ∙ sym c.items.ensures) ∙ eqb-true _ _ (sym c.if-is_empty.ensures) in
    omega arith
