use Rattle.std.specs.Prelude.{◌≡◌, ◌↔◌, ◌<◌, length, Err}
use Rattle.std.specs.FinMap.{FinMap}
use Rattle.std.proofs.Common.{ap, ◌∙◌, subst}
use Rattle.std.proofs.lemmas.Result.{on_err_weaker, on_ok_weaker}
use Rattle.kern_model.specs.declared.objects.Object.{Object}
use Rattle.kern_model.specs.Keys.{oid_cmp}
use Rattle.fs_nodes.specs.declared.nodes.WriteError.TheVariants as error
use Rattle.fs_nodes.specs.Nodes.{IsTooBig, with_bytes, with_written}
use Rattle.fs_nodes.proofs.Places.{same_bytes, same_object}
use Rattle.fs_nodes.proofs.nodes.Nodes.write_at.Goals as goal

pub object_mut-requires : goal.object_mut-requires
object_mut-requires c = record { value = c.requires.object; is = c.requires.is }

pub returns-clause-written : goal.returns-clause-written
returns-clause-written c = λ o there. on_ok_weaker c.write_over.result
    (λ written. ap (λ bytes. record c.args.self.now.table { objects = with_bytes c.args.self.now.table.objects c.args.id.now c.object_mut.result.now bytes }) written
    ∙ ap (λ (x : Object). with_written c.args.self.now.table c.args.id.now x c.args.at c.args.bytes.now)
    (same_object c.args.self.now.table.objects c.args.id.now c.object_mut.result.now o c.object_mut.ensures.value there))
    c.write_over.ensures.written

pub returns-clause-past_end : goal.returns-clause-past_end
returns-clause-past_end c = λ o there. subst (λ (x : Object). (c.write_over.result ≡ Err error.PastEnd) ↔ (length x.bytes < c.args.at))
    (same_object c.args.self.now.table.objects c.args.id.now c.object_mut.result.now o c.object_mut.ensures.value there) c.write_over.ensures.past_end

pub returns-clause-too_big : goal.returns-clause-too_big
returns-clause-too_big c = λ o there. subst (λ (x : Object). (c.write_over.result ≡ Err error.TooBig) ↔ IsTooBig x.bytes c.args.at c.args.bytes.now)
    (same_object c.args.self.now.table.objects c.args.id.now c.object_mut.result.now o c.object_mut.ensures.value there) c.write_over.ensures.too_big

pub returns-clause-err : goal.returns-clause-err
returns-clause-err c = on_err_weaker c.write_over.result
    (λ same. ap (λ (m : FinMap oid_cmp Object). record c.args.self.now.table { objects = m }) (same_bytes c.args.self.now.table.objects c.args.id.now c.object_mut.result.now c.object_mut.ensures.value c.write_over.new.old same))
    c.write_over.ensures.err
