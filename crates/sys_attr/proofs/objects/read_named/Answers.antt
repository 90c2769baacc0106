use Rattle.std.proofs.Common.{◌≡◌, ◌∙◌, Result, Ok, Err, IfOk, ap, sym}
use Rattle.kern_model.specs.declared.numbers.Oid.{Oid}
use Rattle.kern_model.specs.State.{State}
use Rattle.chk_rules.specs.declared.stop.Stop.{Stop}
use Rattle.chk_rules.proofs.Steps.{then_goes, stops_there}
use Rattle.sys_lookup.specs.Shared.{metadata_of}
use Rattle.sys_lookup.specs.declared.shared.Metadata.{Metadata}
use Rattle.sys_attr.specs.Objects.{read_found}
use Rattle.sys_attr.proofs.objects.read_named.Goals as goal

-- the metadata of an object are those of the object whose number they have
by_own_number : (s : State) (id : Oid) (r : Result Metadata Stop) → IfOk r (λ m. m ≡ metadata_of s id) → IfOk r (λ m. m ≡ metadata_of s m.id)
by_own_number s id (Ok m) is = is ∙ ap (metadata_of s) (sym (ap (λ (x : Metadata). x.id) is))
by_own_number s id (Err how) is = tt

pub returns-in_err-id-clause-step : goal.returns-in_err-id-clause-step
returns-in_err-id-clause-step c = stops_there {next = read_found c.args.caller.now.state c.args.caller.now.process} c.from_residual.result c.from_residual.ensures.1 c.in_err-id.ensures.step

pub returns-clause-step : goal.returns-clause-step
returns-clause-step c = then_goes {next = read_found c.args.caller.now.state c.args.caller.now.process} c.in_ok-id.ensures.step c.read_object.ensures.step

pub returns-clause-object : goal.returns-clause-object
returns-clause-object c = by_own_number c.args.caller.now.state c.in_ok-id.id c.read_object.result c.read_object.ensures.object
