-- A kept state stays kept over a single change.
use Rattle.std.specs.Prelude.{◌≡◌, ℕ, true, Some, refl}
use Rattle.std.specs.List.{AllByRecursion}
use Rattle.std.proofs.Common.{◌∙◌, ap}
use Rattle.std.specs.FinMap as map
use Rattle.std.specs.FinMap.{FinMap}
use Rattle.lab_lattice.specs.Label.{Label, label_cmp}
use Rattle.kern_model.specs.declared.calls.Ending.{Ending}
use Rattle.kern_model.specs.declared.numbers.Pid.{Pid}
use Rattle.kern_model.specs.declared.numbers.Oid.{Oid}
use Rattle.kern_model.specs.declared.numbers.Did.{Did}
use Rattle.kern_model.specs.declared.objects.Object.{Object}
use Rattle.kern_model.specs.Keys.{oid_cmp, did_cmp, pid_cmp, spot_cmp}
use Rattle.kern_model.proofs.KeyLaws.{oid_cmp_total, oid_cmp_exact, pid_cmp_total, pid_cmp_exact, did_cmp_total, did_cmp_exact}
use Rattle.kern_model.specs.Kinds.{is_stream}
use Rattle.kern_model.specs.State.{State, Process, Description, SetObject, SetProcess, SetDescription, DropDescription, apply_change}
use Rattle.kern_model.specs.Isolation.{low, Kept}
use Rattle.kern_model.proofs.MapLemmas.{each-insert, each-remove}

-- ---- numbers and labels stay on one side
-- what `Kept` says of one process
pub record KeptProcess (l : Label) (who : Pid) (p : Process) : Type 0 where
  pub label : low l who.label ≡ low l p.label
  pub parent : (q : Pid) → p.parent ≡ Some q → low l q.label ≡ low l who.label
  pub ended : AllByRecursion (λ (e : Pid × Ending). low l e.0.label ≡ low l who.label) p.ended
  pub fds : (fd : ℕ) (did : Did) → map.get p.fds fd ≡ Some did → low l did.label ≡ low l who.label
  pub cwd : low l p.label ≡ true → low l p.cwd.label ≡ true

module _ (l : Label) (s : State) (kept : Kept l s) where
  pub kept_of : (who : Pid) (p : Process) → map.get s.procs who ≡ Some p → KeptProcess l who p
  kept_of who p is = record {
    label = kept.procs who p is;
    parent = λ q e. kept.parents who q p is e;
    ended = kept.ended who p is;
    fds = λ fd did e. kept.fds who p fd did is e;
    cwd = kept.cwd who p is;
  }

  -- a state stays kept with other processes, of each of which what `Kept` says holds
  pub kept_procs : (procs : FinMap pid_cmp Process) → ((q : Pid) (x : Process) → map.get procs q ≡ Some x → KeptProcess l q x) → Kept l (record s { procs = procs })
  kept_procs procs each = record {
    objects = kept.objects;
    procs = λ q x e. (each q x e).label;
    parents = λ q parent x e f. (each q x e).parent parent f;
    ended = λ q x e. (each q x e).ended;
    fds = λ q x fd did e f. (each q x e).fds fd did f;
    cwd = λ q x e. (each q x e).cwd;
    descriptions = kept.descriptions;
    streams = kept.streams;
  }

  pub kept_process : (who : Pid) (p : Process) → KeptProcess l who p → Kept l (apply_change s (SetProcess who p))
  kept_process who p new = kept_procs (map.insert s.procs who p) (each-insert pid_cmp_total pid_cmp_exact (KeptProcess l) s.procs kept_of who p new)

  -- a state stays kept with other objects, if their labels and the descriptions of pipes and FIFOs are on their side, whatever its entries and drawn numbers
  kept_objects : (objects : FinMap oid_cmp Object) (entries : FinMap spot_cmp Oid) (object_numbers process_numbers description_numbers : FinMap label_cmp ℕ)
      → ((id : Oid) (o : Object) → map.get objects id ≡ Some o → low l id.label ≡ low l o.label)
      → ((did : Did) (d : Description) (o : Object) → map.get s.descriptions did ≡ Some d → map.get objects d.object ≡ Some o → is_stream o.kind ≡ true → low l did.label ≡ low l d.object.label)
      → Kept l (record s { objects = objects; entries = entries; object_numbers = object_numbers; process_numbers = process_numbers; description_numbers = description_numbers })
  kept_objects objects entries object_numbers process_numbers description_numbers sides streams = record {
    objects = sides;
    procs = kept.procs;
    parents = kept.parents;
    ended = kept.ended;
    fds = kept.fds;
    cwd = kept.cwd;
    descriptions = kept.descriptions;
    streams = streams;
  }

  pub kept_with : (entries : FinMap spot_cmp Oid) (object_numbers process_numbers description_numbers : FinMap label_cmp ℕ)
      → Kept l (record s { entries = entries; object_numbers = object_numbers; process_numbers = process_numbers; description_numbers = description_numbers })
  kept_with entries object_numbers process_numbers description_numbers =
      kept_objects s.objects entries object_numbers process_numbers description_numbers kept.objects kept.streams

  -- a state stays kept where an object is set, if the descriptions of a pipe or FIFO are on its side
  pub kept_object : (id : Oid) (o : Object) → low l id.label ≡ low l o.label
      → ((did : Did) (d : Description) → map.get s.descriptions did ≡ Some d → d.object ≡ id → is_stream o.kind ≡ true → low l did.label ≡ low l d.object.label) → Kept l (apply_change s (SetObject id o))
  kept_object id o side streams =
      kept_objects (map.insert s.objects id o) s.entries s.object_numbers s.process_numbers s.description_numbers
      (each-insert oid_cmp_total oid_cmp_exact (λ (q : Oid) (x : Object). low l q.label ≡ low l x.label) s.objects kept.objects id o side)
      (λ did d x is at stream.
      each-insert oid_cmp_total oid_cmp_exact (λ (q : Oid) (x : Object). d.object ≡ q → is_stream x.kind ≡ true → low l did.label ≡ low l d.object.label) s.objects
      (λ q x at same stream. kept.streams did d x is (ap (map.get s.objects) same ∙ at) stream)
      id o (λ same stream. streams did d is same stream) d.object x at refl stream)

  -- what `Kept` says of one description: it is of a Low object where its number is Low, and on the side of a pipe or FIFO
  abbrev IsKeptDescription : Did → Description → Type 0
  IsKeptDescription did d =
      (low l did.label ≡ true → low l d.object.label ≡ true)
      × ((o : Object) → map.get s.objects d.object ≡ Some o → is_stream o.kind ≡ true → low l did.label ≡ low l d.object.label)

  kept_descriptions : (ds : FinMap did_cmp Description) → ((did : Did) (d : Description) → map.get ds did ≡ Some d → IsKeptDescription did d)
      → Kept l (record s { descriptions = ds })
  kept_descriptions ds each = record {
    objects = kept.objects;
    procs = kept.procs;
    parents = kept.parents;
    ended = kept.ended;
    fds = kept.fds;
    cwd = kept.cwd;
    descriptions = λ did d e. (each did d e).0;
    streams = λ did d o e. (each did d e).1 o;
  }

  kept_each : (did : Did) (d : Description) → map.get s.descriptions did ≡ Some d → IsKeptDescription did d
  kept_each did d e = (kept.descriptions did d e, λ o. kept.streams did d o e)

  -- a state stays kept where a description is set
  pub kept_description : (did : Did) (d : Description) → (low l did.label ≡ true → low l d.object.label ≡ true)
      → ((o : Object) → map.get s.objects d.object ≡ Some o → is_stream o.kind ≡ true → low l did.label ≡ low l d.object.label) → Kept l (apply_change s (SetDescription did d))
  kept_description did d side stream =
      kept_descriptions (map.insert s.descriptions did d) (each-insert did_cmp_total did_cmp_exact IsKeptDescription s.descriptions kept_each did d (side, stream))

  -- and where one goes
  pub kept_dropped : (did : Did) → Kept l (apply_change s (DropDescription did))
  kept_dropped did = kept_descriptions (map.remove s.descriptions did) (each-remove did_cmp_total did_cmp_exact IsKeptDescription s.descriptions kept_each did)
