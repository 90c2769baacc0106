use Rattle.std.proofs.Common.{◌∙◌, ap, true, false, refl}
use Rattle.std.proofs.lemmas.Bool.Decides.{Decides-at}
use Rattle.kern_model.proofs.WorldLemmas.{objects_numbered, procs_numbered, Decides-room}
use Rattle.kern_model.proofs.valid.has_room.Goals as goal

pub returns-then-have_object_numbers : goal.returns-then-have_object_numbers
returns-then-have_object_numbers c =
    Decides-room c.args.world.now true c.have_proc_numbers.result (c.if-have_object_numbers.ensures ∙ ap objects_numbered c.items.ensures)
    (c.have_proc_numbers.ensures ∙ ap procs_numbered c.items-then-have_object_numbers.ensures)

pub returns-else-have_object_numbers : goal.returns-else-have_object_numbers
returns-else-have_object_numbers c =
    Decides-at _ false c.if-have_object_numbers.false (Decides-room c.args.world.now false _ (c.if-have_object_numbers.ensures ∙ ap objects_numbered c.items.ensures) refl)
