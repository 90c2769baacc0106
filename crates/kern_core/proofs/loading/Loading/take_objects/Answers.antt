use Rattle.std.proofs.Common.{◌≡◌, ◌∙◌, List, [], ◌∷◌, ap, reverse, subst, sym}
use Rattle.std.proofs.lemmas.List.{reverse-append}
use Rattle.kern_model.specs.declared.world.WorldObject.{WorldObject}
use Rattle.kern_model.specs.Boot.{boot_objects}
use Rattle.kern_model.specs.State.{State}
use Rattle.kern_core.specs.Starts.{RoomForObjects, state_loaded}
use Rattle.kern_core.proofs.BootLemmas.{first_numbered, others_room}
use Rattle.kern_core.proofs.loading.Loading.take_objects.Goals as goal

pub boot_object-requires-clause-room : goal.boot_object-requires-clause-room
boot_object-requires-clause-room c =
    let s = state_loaded c.loop-object.self in
    let rest = c.pop.new.self.items in
    let first : reverse c.loop-object.left.items ≡ c.in-Some.object ∷ reverse rest = ap (reverse {A = WorldObject}) c.in-Some.ensures.items ∙ reverse-append rest (c.in-Some.object ∷ []) in
    first_numbered s c.in-Some.object (reverse rest) (subst (λ (os : List WorldObject). RoomForObjects s.object_numbers os) first c.loop-object.invariant.room)

pub loop-object-preserved : goal.loop-object-preserved
loop-object-preserved c =
    let s = state_loaded c.loop-object.self in
    let t = state_loaded c.boot_object.new.self in
    let rest = c.pop.new.self.items in
    let first : reverse c.loop-object.left.items ≡ c.in-Some.object ∷ reverse rest = ap (reverse {A = WorldObject}) c.in-Some.ensures.items ∙ reverse-append rest (c.in-Some.object ∷ []) in
    let left : reverse rest ≡ reverse c.give_back.new.left.items = ap (reverse {A = WorldObject}) (sym c.give_back.ensures) in
    record {
      same = ap (boot_objects t) (sym left) ∙ ap (λ (u : State). boot_objects u (reverse rest)) c.in_ok-boot_object.ensures.state ∙ ap (boot_objects s) (sym first) ∙ c.loop-object.invariant.same;
      room = subst (λ (os : List WorldObject). RoomForObjects t.object_numbers os) left
          (others_room s t c.in-Some.object (reverse rest) c.in_ok-boot_object.ensures.state (subst (λ (os : List WorldObject). RoomForObjects s.object_numbers os) first c.loop-object.invariant.room));
      last = c.in_ok-boot_object.ensures.last;
    }
