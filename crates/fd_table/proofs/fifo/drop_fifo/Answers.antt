use denote.Enum.Bare.{same_true}
use Rattle.std.proofs.Common.{◌≡◌, ap, sym, rules}
use Rattle.kern_model.specs.declared.objects.Kind.TheVariants.{Fifo}
use Rattle.kern_model.specs.Kinds.{is_stream}
use Rattle.kern_model.specs.contracts.objects.Kind.{the_type}
use Rattle.fd_table.proofs.fifo.drop_fifo.Goals as goal

pub drop_bytes-requires : goal.drop_bytes-requires
drop_bytes-requires g c = record {
  stream = record {
    object = c.in-Some-object.object.now;
    is = sym c.in-Some-object.ensures;
    stream = let kind : c.in-Some-object.object.now.kind ≡ Fifo = same_true the_type (search rules) _ _ (sym c.if-eq.ensures) in ap is_stream kind;
  };
}
