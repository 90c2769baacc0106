-- The row of `open` from what the walk found.
use Rattle.std.specs.Prelude.{◌≡◌, ⊤, Option, None, Some, IsSome, Result, Ok, Err, unwrap_or, refl}
use Rattle.std.specs.FinMap as map
use Rattle.std.specs.Result.{IsErrAnd}
use Rattle.std.proofs.Common.{sym, ◌∙◌, subst, inl, inr}
use Rattle.fs_path.specs.Name.{Name}
use Rattle.fs_path.specs.Path.{PathValue}
use Rattle.kern_model.specs.declared.checks.Place.{Place}
use Rattle.kern_model.specs.declared.checks.Place.TheVariants.{First}
use Rattle.kern_model.specs.declared.numbers.Oid.{Oid}
use Rattle.kern_model.specs.declared.numbers.Pid.{Pid}
use Rattle.kern_model.specs.declared.objects.Attr.{Attr}
use Rattle.kern_model.specs.FileRows.{may_describe}
use Rattle.kern_model.specs.OpenRows.{open_absent, open_found, open_path, open_present, to_absent, to_present}
use Rattle.kern_model.specs.Row.{Row}
use Rattle.kern_model.specs.State.{State, object_at, process_at}
use Rattle.kern_model.specs.Valid.{IsValid}
use Rattle.kern_model.specs.Walk.{Found, Entry, dir_place, last_place, start_of, walk}
use Rattle.kern_model.proofs.MapLemmas.{some_same}
use Rattle.kern_model.proofs.StateLemmas.{process_there}
use Rattle.chk_rules.specs.CheckLog.{CheckLog}
use Rattle.chk_rules.specs.RowSteps.{GoesOn}
use Rattle.chk_rules.specs.declared.stop.Stop.{Stop}
use Rattle.sys_lookup.specs.Callers.{CallerView, caller_in}
use Rattle.sys_lookup.specs.declared.effect.Effect.{Effect}
use Rattle.sys_lookup.specs.declared.found.Found as walked
use Rattle.sys_lookup.specs.declared.found.Found.TheVariants as found
use Rattle.sys_lookup.specs.PlaysRow.{PlaysRow}
use Rattle.sys_lookup.specs.Walks.{IsEntry, IsFound, IsLedTo, found_of}
use Rattle.sys_lookup.proofs.PlayLemmas.{step_called, then_plays, stops_row, item_plays, item_stops_row}
use Rattle.sys_file.specs.declared.opening.OpenRequest.{OpenRequest}
use Rattle.sys_file.specs.Opening.{CanBeEmptied, EmptiesFiles, object_found, opens_file, opens_object, request_row}
use Rattle.sys_file.proofs.OpenLemmas.{can_be_emptied}

-- the path leads to it
led_by : (s : State) (start : Oid) (w : walked.Found) (id : Oid) → IsFound s start w → object_found w ≡ Some id → IsLedTo s start id
led_by s start (found.Start at) id is same = inl (sym (some_same at id same) ∙ is)
led_by s start (found.Entry dir name object) id is same = inr (record { dir = dir; name = name; leads = is.leads ∙ same })

module _ {s : State} {who : Pid} {k : CallerView} (caller : k ≡ caller_in s who) (path : PathValue) (w : walked.Found) (is : IsFound k.state (start_of k.process path) w) where
  found_here : IsFound s (start_of (process_at s who) path) w
  found_here = subst (λ (x : CallerView). IsFound x.state (start_of x.process path) w) caller is

  -- the entry that the walk found
  pub entry_found : {dir : Oid} {name : Name} {object : Option Oid} → w ≡ found.Entry dir name object → IsEntry s dir name object
  entry_found same = subst (IsFound s (start_of (process_at s who) path)) same found_here

  -- the object that the walk found can be emptied where only a file is
  pub found_empties : ∥ IsValid s ∥₁ → IsSome (map.get s.procs who) → (id : Oid) → object_found w ≡ Some id → (emptied : Option Attr) → EmptiesFiles k.state id emptied → CanBeEmptied s id emptied
  found_empties valid living id same emptied files =
      can_be_emptied s valid who (process_at s who) (process_there s who living) path id (led_by s (start_of (process_at s who) path) w id found_here same) emptied
      (subst (λ (x : CallerView). EmptiesFiles x.state id emptied) caller files)

module _ (s : State) (who : Pid) (request : OpenRequest) where
  -- the row of an object that is there, at a place
  abbrev present_row : Oid → Place → Row
  present_row id place = open_present s who (process_at s who) request.flags id place

  -- the row after the walk
  abbrev found_row : Found → Row
  found_row f = open_found s who (process_at s who) request.path.now request.flags (unwrap_or request.mode 0) f

module _ {s : State} {who : Pid} {k : CallerView} (caller : k ≡ caller_in s who) (request : OpenRequest) {log : CheckLog} {x : ⊤} {r : Result Effect Stop} (first : GoesOn log (λ (rest : ⊤ → Row). may_describe k.state k.process 1 (rest tt)) (Ok x) log) where
  -- the row goes on after the first step
  goes_on : {t : State} {after : CheckLog} → PlaysRow s log (open_path s who (process_at s who) request.path.now request.flags (unwrap_or request.mode 0)) r t after → PlaysRow s log (request_row s who request) r t after
  goes_on plays =
      then_plays {rest = λ _. open_path s who (process_at s who) request.path.now request.flags (unwrap_or request.mode 0)} (step_called (λ (y : CallerView) (rest : ⊤ → Row). may_describe y.state y.process 1 (rest tt)) caller first) plays

  -- where the walk stops the body stops
  pub walk_stops : {b : CheckLog} {how : Stop} → IsErrAnd r (λ e. e ≡ how) → GoesOn log (walk k.state k.process (λ n. First n) request.path.now) (Err how) b → PlaysRow s log (request_row s who request) r s b
  walk_stops is step = goes_on (stops_row {rest = found_row s who request} r is refl (step_called (λ (y : CallerView). walk y.state y.process (λ n. First n) request.path.now) caller step))

  module _ {b : CheckLog} (w : walked.Found) (step : GoesOn log (walk k.state k.process (λ n. First n) request.path.now) (Ok (found_of w)) b) {after : CheckLog} where
    -- the row goes on from what the walk found
    from_walk : {t : State} → PlaysRow s b (found_row s who request (found_of w)) r t after → PlaysRow s log (request_row s who request) r t after
    from_walk plays = goes_on (then_plays {rest = found_row s who request} (step_called (λ (y : CallerView). walk y.state y.process (λ n. First n) request.path.now) caller step) plays)

    module _ {id : Oid} {place : Place} (same : object_found w ≡ Some id) (at : place ≡ last_place (λ n. First n) request.path.now) where
      by_object : {t : State} (v : walked.Found) → object_found v ≡ Some id → PlaysRow s b (present_row s who request id place) r t after → PlaysRow s b (found_row s who request (found_of v)) r t after
      by_object {t} (found.Start start) is plays =
          subst (λ (o : Oid). PlaysRow s b (present_row s who request o (last_place (λ n. First n) request.path.now)) r t after) (sym (some_same start id is))
          (subst (λ (y : Place). PlaysRow s b (present_row s who request id y) r t after) at plays)
      by_object {t} (found.Entry dir name object) is plays =
          subst (λ (o : Option Oid). PlaysRow s b (found_row s who request (Entry dir name o)) r t after) (sym is)
          (subst (λ (y : Place). PlaysRow s b (present_row s who request id y) r t after) at plays)

      -- an object that is there may not be opened
      pub present_stops : {how : Stop} → IsErrAnd r (λ e. e ≡ how) → GoesOn b (to_present k.process request.flags id place (object_at k.state id)) (Err how) after → PlaysRow s log (request_row s who request) r s after
      present_stops is stop =
          from_walk (by_object w same (stops_row {rest = opens_object s who request.flags id} r is refl (step_called (λ (y : CallerView). to_present y.process request.flags id place (object_at y.state id)) caller stop)))

      -- an object that is there is opened
      pub present_plays : {t : State} {c : CheckLog} {emptied : Option Attr} → GoesOn b (to_present k.process request.flags id place (object_at k.state id)) (Ok emptied) c → PlaysRow s c (opens_object s who request.flags id emptied) r t after → PlaysRow s log (request_row s who request) r t after
      present_plays goes plays =
          from_walk (by_object w same (then_plays {rest = opens_object s who request.flags id} (step_called (λ (y : CallerView). to_present y.process request.flags id place (object_at y.state id)) caller goes) plays))

    module _ {dir : Oid} {name : Name} {place : Place} (same : w ≡ found.Entry dir name None) (at : place ≡ dir_place (λ n. First n) request.path.now) where
      by_entry : {t : State} → PlaysRow s b (open_absent s who (process_at s who) request.flags (unwrap_or request.mode 0) dir name place) r t after → PlaysRow s log (request_row s who request) r t after
      by_entry {t} plays =
          from_walk (subst (λ (v : walked.Found). PlaysRow s b (found_row s who request (found_of v)) r t after) (sym same)
          (subst (λ (y : Place). PlaysRow s b (open_absent s who (process_at s who) request.flags (unwrap_or request.mode 0) dir name y) r t after) at plays))

      -- a file may not be made
      pub absent_stops : {how : Stop} → IsErrAnd r (λ e. e ≡ how) → GoesOn b (λ (rest : ⊤ → Row). to_absent k.state k.process request.flags dir place (rest tt)) (Err how) after → PlaysRow s log (request_row s who request) r s after
      absent_stops is stop =
          by_entry (item_stops_row (to_absent s (process_at s who) request.flags dir place) r is refl (step_called (λ (y : CallerView) (rest : ⊤ → Row). to_absent y.state y.process request.flags dir place (rest tt)) caller stop))

      -- a file is made and opened
      pub absent_plays : {t : State} {c : CheckLog} {y : ⊤} → GoesOn b (λ (rest : ⊤ → Row). to_absent k.state k.process request.flags dir place (rest tt)) (Ok y) c → PlaysRow s c (opens_file s who request (dir, name)) r t after → PlaysRow s log (request_row s who request) r t after
      absent_plays goes plays =
          by_entry (item_plays (to_absent s (process_at s who) request.flags dir place) (step_called (λ (y : CallerView) (rest : ⊤ → Row). to_absent y.state y.process request.flags dir place (rest tt)) caller goes) plays)
