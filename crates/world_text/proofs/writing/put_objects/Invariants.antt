use Rattle.std.proofs.Common.{◌≡◌, ◌++◌, take}
use Rattle.std.specs.List.{AllByRecursion, flat_map}
use Rattle.world_text.specs.CanBeRead.{IsWrittenObject}
use Rattle.world_text.specs.Written.{line_of, object_words}
use Rattle.world_text.proofs.writing.put_objects.Given as goal

abbrev pub invariant-loop-object : goal.invariant-loop-object
invariant-loop-object l = record {
  text : l.line ≡ l.fn.line ++ flat_map (λ object. line_of (object_words l.policy object)) (take l.object-index l.objects);
  in_range : AllByRecursion IsWrittenObject (take l.object-index l.objects);
}
