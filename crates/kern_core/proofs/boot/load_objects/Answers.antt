use Rattle.std.proofs.Common.{◌≡◌, ◌∙◌, ap, sym, subst, ℕ}
use Rattle.std.specs.FinMap as map
use Rattle.std.specs.FinMap.{FinMap}
use Rattle.lab_lattice.specs.Label.{label_cmp}
use Rattle.kern_model.specs.declared.limits.TheConstants.{MAX_OBJECTS}
use Rattle.kern_model.specs.Boot.{boot_objects, objects_loaded}
use Rattle.kern_model.specs.State.{State}
use Rattle.kern_model.specs.Valid.{IsValid}
use Rattle.kern_model.specs.World.{objects_at}
use Rattle.fs_dirs.proofs.LoadLemmas.{valid_entries}
use Rattle.kern_core.specs.Starts.{RoomForObjects, state_loaded}
use Rattle.kern_core.proofs.BootLemmas.{all_room}
use Rattle.kern_core.proofs.KernelLemmas.{valid_objects_loaded}
use Rattle.kern_core.proofs.boot.load_objects.Goals as goal

pub take_objects-requires : goal.take_objects-requires
take_objects-requires c =
    let none_drawn : c.in_ok-loading.loading.nodes.table.numbers ≡ map.empty = ap (λ (s : State). s.object_numbers) c.in_ok-loading.ensures in
    subst (λ (m : FinMap label_cmp ℕ). RoomForObjects m c.args.world.objects) (sym none_drawn) (all_room MAX_OBJECTS (λ l. objects_at l c.args.world.objects) c.requires.room.objects)

pub load-requires : goal.load-requires
load-requires c =
    let w = c.args.world in
    let whole : state_loaded c.take_objects.new.self ≡ objects_loaded w = c.in_ok-take_objects.ensures ∙ (λ i. boot_objects (c.in_ok-loading.ensures i) c.args.world.objects) in
    valid_entries (state_loaded c.take_objects.new.self) (subst IsValid (sym whole) (valid_objects_loaded w c.requires))

pub returns-clause-state : goal.returns-clause-state
returns-clause-state c =
    let whole : state_loaded c.take_objects.new.self ≡ objects_loaded c.args.world = c.in_ok-take_objects.ensures ∙ (λ i. boot_objects (c.in_ok-loading.ensures i) c.args.world.objects) in
    c.in_ok-shared.ensures ∙ whole
