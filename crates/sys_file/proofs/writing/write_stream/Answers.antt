use Rattle.std.proofs.Common.{◌≡◌, ◌∙◌, ◌+◌, ◌++◌, ap, sym, refl, length, nat_lt, Some, Ok, Err}
use Rattle.std.specs.FinMap as map
use Rattle.std.proofs.lemmas.Bool.{ltb-false, ltb-true}
use Rattle.kern_model.specs.declared.limits.TheConstants.{MAX_PIPE_BYTES}
use Rattle.kern_model.specs.Descriptors.{any_open}
use Rattle.kern_model.specs.FileRows.{put_in_stream}
use Rattle.kern_model.specs.State.{State, SetObject, apply_change}
use Rattle.chk_rules.specs.declared.stop.Stop.TheVariants as stop
use Rattle.sys_lookup.proofs.PlayLemmas.{no_memory_row}
use Rattle.sys_lookup.specs.Shared.{state_of}
use Rattle.sys_lookup.specs.declared.effect.Effect.{Effect}
use Rattle.sys_file.proofs.BranchLemmas.{plays_in, plays_result}
use Rattle.sys_file.proofs.StreamLemmas.{breaks, full, put, when_again, when_broken, when_put}
use Rattle.sys_file.proofs.writing.write_stream.Goals.{in-Ok, in-Err-Broken, in-Err-Again, in-Err-NoMemory}
use Rattle.sys_file.proofs.writing.write_stream.Goals as goal

pub returns : goal.returns
returns c = λ log.
    let s = state_of c.shared.inside in
    let f = c.args.opened.now in
    let o = c.requires.object in
    let bytes = c.args.bytes.now in
    let id : c.opened.inside.object ≡ f.description.object = λ i. (c.opened.view_is i).description.object in
    let is : map.get s.objects f.description.object ≡ Some o = ap (λ (x : State). map.get x.objects f.description.object) c.shared.view_is ∙ c.requires.is in
    let there : map.get s.objects c.opened.inside.object ≡ Some o = (λ i. map.get s.objects (id i)) ∙ is in
    let reads = any_open s (λ d. d.reads) c.opened.inside.object in
    let over = nat_lt MAX_PIPE_BYTES (length o.bytes + length bytes) in
    plays_in (λ x. put_in_stream x f bytes) c.shared.view_is
    (elim c.match-pipe_put.branch [
      | in-Ok w ↦
          let when = when_put reads over c.pipe_put.ensures.broken (λ r l. c.pipe_put.ensures.again o there r (ltb-true _ _ l)) w.in-Ok.is in
          plays_result (w.result-is ∙ ap (λ (e : Effect). Ok e) w.answers.ensures)
          (put s log f o is bytes _ ((λ i. any_open s (λ d. d.reads) (sym id i)) ∙ when.0) when.1
          ((λ i. record s { objects = w.in-Ok.ensures.put o there i; object_numbers = w.in-Ok.ensures.rest.0 i; entries = w.in-Ok.ensures.rest.1 i })
          ∙ (λ i. apply_change s (SetObject (id i) (record o { bytes = o.bytes ++ bytes })))))
      | in-Err-Broken w ↦
          let when = when_broken reads over (λ r l. c.pipe_put.ensures.again o there r (ltb-true _ _ l)) (λ r l. c.pipe_put.ensures.memory o there r (ltb-false _ _ l)) (w.in-Err-Broken.is ∙ ap Err w.in-Err-Broken.field-0-is) in
          plays_result w.result-is
          (breaks s log f o is bytes _ ((λ i. any_open s (λ d. d.reads) (sym id i)) ∙ when)
          (λ i. record s { objects = w.in-Err-Broken.ensures.err i; object_numbers = w.in-Err-Broken.ensures.rest.0 i; entries = w.in-Err-Broken.ensures.rest.1 i }))
      | in-Err-Again w ↦
          let when = when_again reads over c.pipe_put.ensures.broken (λ r l. c.pipe_put.ensures.memory o there r (ltb-false _ _ l)) (w.in-Err-Again.is ∙ ap Err w.in-Err-Again.field-0-is) in
          plays_result w.result-is
          (full s log f o is bytes _ ((λ i. any_open s (λ d. d.reads) (sym id i)) ∙ when.0) when.1
          (λ i. record s { objects = w.in-Err-Again.ensures.err i; object_numbers = w.in-Err-Again.ensures.rest.0 i; entries = w.in-Err-Again.ensures.rest.1 i }))
      | in-Err-NoMemory w ↦ plays_result w.result-is (no_memory_row (Err (stop.NoMemory w.in-Err-NoMemory.e)) refl)
    ])
