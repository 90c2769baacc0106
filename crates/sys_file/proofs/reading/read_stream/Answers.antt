use Rattle.std.proofs.Common.{◌≡◌, ◌∙◌, ◌==◌, ◌&&◌, ◌≤◌, ap, sym, arith, length, drop, min, take, ℕ, List, Some, true, Ok, Err}
use Rattle.std.specs.FinMap as map
use Rattle.std.proofs.lemmas.List.{drop_min, length-take, length-take-le}
use Rattle.kern_model.specs.Descriptors.{any_open}
use Rattle.kern_model.specs.declared.numbers.Oid.{Oid}
use Rattle.kern_model.specs.FileRows.{comes_out, open_object}
use Rattle.kern_model.specs.State.{State, SetObject, apply_change}
use Rattle.kern_model.specs.Valid.{IsValid}
use Rattle.fs_nodes.specs.Nodes.{IsStream}
use Rattle.sys_lookup.proofs.PlayLemmas.{no_memory_row}
use Rattle.sys_lookup.specs.Shared.{state_of}
use Rattle.sys_lookup.specs.declared.effect.Effect.{Effect}
use Rattle.sys_file.proofs.BranchLemmas.{no_error, no_value, plays_in, plays_result}
use Rattle.sys_file.proofs.ObjectLemmas.{few_wait}
use Rattle.sys_file.proofs.StreamLemmas.{ok_value, only_again, taken, waits}
use Rattle.sys_file.proofs.reading.read_stream.Goals.{in-Ok, in-Err-Again}
use Rattle.sys_file.proofs.reading.read_stream.Goals as goal

-- as many bytes go as are copied
dropped : (n k len : ℕ) (bytes : List ℕ) → k ≡ min (length bytes) len → len ≡ length (take n bytes) → drop k bytes ≡ drop n bytes
dropped n k len bytes count is = ap (λ m. drop m bytes) (let few = is ∙ length-take n bytes in omega (arith, count, few)) ∙ drop_min n bytes

pub returns-in_err-bytes : goal.returns-in_err-bytes
returns-in_err-bytes c = λ log. no_memory_row c.from_residual.result c.from_residual.ensures.1

few_copied : (s : State) → ∥ IsValid s ∥₁ → (id : Oid) (stream : IsStream s.objects id) (n : ℕ) (copied : List ℕ) → copied ≡ take n stream.object.bytes → length copied ≤ 4096
few_copied s valid id stream n copied is =
    let count = ap length is ∙ length-take n stream.object.bytes in
    let few = few_wait s valid id stream.object stream.is stream.stream in
    omega (arith, count, few)

pub slice_bounds-buffer-end : goal.slice_bounds-buffer-end
slice_bounds-buffer-end c =
    let stream = c.requires.stream in
    let bytes = c.in_ok-bytes.ensures stream.object ((λ i. map.get c.args.shared.now.objects (c.opened.view_is i).description.object) ∙ stream.is) in
    few_copied c.args.shared.now c.requires.valid c.args.opened.now.description.object stream c.args.n c.items.result.now (c.items.ensures ∙ bytes)

pub slice_bounds-taken-end : goal.slice_bounds-taken-end
slice_bounds-taken-end c =
    let stream = c.requires.stream in
    let bytes = c.in_ok-bytes.ensures stream.object ((λ i. map.get c.args.shared.now.objects (c.opened.view_is i).description.object) ∙ stream.is) in
    sym (length-take-le _ _ (few_copied c.args.shared.now c.requires.valid c.args.opened.now.description.object stream c.args.n c.items.result.now (c.items.ensures ∙ bytes)))

pub unreachable-requires : goal.unreachable-requires
unreachable-requires c =
    let s = state_of c.shared.inside in
    let o = c.requires.stream.object in
    let there = ap (λ (x : State). map.get x.objects c.opened.inside.object) c.shared.view_is ∙ (λ i. map.get c.args.shared.now.objects (c.opened.view_is i).description.object) ∙ c.requires.stream.is in
    let empty = length o.bytes == 0 && any_open s (λ d. d.writes) c.opened.inside.object in
    let again = only_again empty _ (c.pipe_take.ensures.again o there) (c.pipe_take.ensures.count o there) (c.in-Err-Broken.is ∙ ap Err c.in-Err-Broken.field-0-is) in
    cc

pub unreachable-requires-in-Err-NoMemory : goal.unreachable-requires-in-Err-NoMemory
unreachable-requires-in-Err-NoMemory c =
    let s = state_of c.shared.inside in
    let o = c.requires.stream.object in
    let there = ap (λ (x : State). map.get x.objects c.opened.inside.object) c.shared.view_is ∙ (λ i. map.get c.args.shared.now.objects (c.opened.view_is i).description.object) ∙ c.requires.stream.is in
    let empty = length o.bytes == 0 && any_open s (λ d. d.writes) c.opened.inside.object in
    let again = only_again empty _ (c.pipe_take.ensures.again o there) (c.pipe_take.ensures.count o there) (c.in-Err-NoMemory.is ∙ ap Err c.in-Err-NoMemory.field-0-is) in
    cc

pub returns : goal.returns
returns c = λ log.
    let s = state_of c.shared.inside in
    let f = c.args.opened.now in
    let o = c.requires.stream.object in
    let id : c.opened.inside.object ≡ f.description.object = λ i. (c.opened.view_is i).description.object in
    let is : map.get s.objects f.description.object ≡ Some o = ap (λ (x : State). map.get x.objects f.description.object) c.shared.view_is ∙ c.requires.stream.is in
    let there : map.get s.objects c.opened.inside.object ≡ Some o = (λ i. map.get s.objects (id i)) ∙ is in
    let bytes = c.in_ok-bytes.ensures o ((λ i. map.get c.args.shared.now.objects (id i)) ∙ c.requires.stream.is) in
    let empty = length o.bytes == 0 && any_open s (λ d. d.writes) c.opened.inside.object in
    plays_in (λ x. comes_out true x c.args.n f (open_object x f)) c.shared.view_is
    (elim c.match-pipe_take.branch [
      | in-Ok w ↦
          let more = no_error empty (c.pipe_take.ensures.again o there) w.in-Ok.is in
          let count = ok_value w.in-Ok.field-0 _ w.in-Ok.is (c.pipe_take.ensures.count o there more) in
          let rest = dropped c.args.n w.in-Ok.field-0 _ o.bytes count (length-take-le _ _ (few_copied c.args.shared.now c.requires.valid f.description.object c.requires.stream c.args.n c.items.result.now (c.items.ensures ∙ bytes)) ∙ ap length (c.items.ensures ∙ bytes)) in
          plays_result (w.result-is ∙ ap (λ (e : Effect). Ok e) w.answers.ensures)
          (taken s log f o is c.args.n c.in_ok-bytes.bytes _ ((λ i. length o.bytes == 0 && any_open s (λ d. d.writes) (sym id i)) ∙ more) bytes
          ((λ i. record s { objects = w.in-Ok.ensures.left o there i; object_numbers = w.in-Ok.ensures.rest.0 i; entries = w.in-Ok.ensures.rest.1 i })
          ∙ (λ i. apply_change s (SetObject (id i) (record o { bytes = rest i })))))
      | in-Err-Again w ↦
          let waiting = no_value empty (c.pipe_take.ensures.count o there) (w.in-Err-Again.is ∙ ap Err w.in-Err-Again.field-0-is) in
          plays_result w.result-is
          (waits s log f o is c.args.n _ ((λ i. length o.bytes == 0 && any_open s (λ d. d.writes) (sym id i)) ∙ waiting)
          (λ i. record s { objects = w.in-Err-Again.ensures.err i; object_numbers = w.in-Err-Again.ensures.rest.0 i; entries = w.in-Err-Again.ensures.rest.1 i }))
    ])
