-- What calls report of an object.
use Rattle.std.specs.Prelude.{ℕ, length, [], None}
use Rattle.kern_model.specs.declared.calls.Answer.TheVariants as answer
use Rattle.kern_model.specs.declared.numbers.Oid.{Oid}
use Rattle.kern_model.specs.declared.objects.Kind.{Kind}
use Rattle.kern_model.specs.declared.objects.Kind.TheVariants as kind
use Rattle.kern_model.specs.declared.objects.Object.{Object}
use Rattle.kern_model.specs.declared.objects.StatAnswer.{StatAnswer}
use Rattle.kern_model.specs.Entries.{entry_count, link_count}
use Rattle.kern_model.specs.Row.{Row, Commit}
use Rattle.kern_model.specs.State.{State, object_at}

-- the entries of a directory, or the bytes of anything else
abbrev pub size_of : State → Oid → Kind → ℕ
size_of s id kind.Dir = entry_count s id
size_of s id _ = length (object_at s id).bytes

-- the names of a file or FIFO; a directory counts as one, and a pipe has none
abbrev pub names_reported : State → Oid → Kind → ℕ
names_reported s id kind.Dir = 1
names_reported s id kind.Pipe = 0
names_reported s id _ = link_count s id

abbrev pub stat_by : State → Oid → Object → StatAnswer
stat_by s id o = record {
  kind = o.kind;
  mode = o.attr.mode;
  owner = o.attr.owner;
  group = o.attr.group;
  size = size_of s id o.kind;
  names = names_reported s id o.kind;
  id = id;
  label = o.label;
}

-- what `stat` reports of an object
unfoldable pub stat_of : State → Oid → StatAnswer
stat_of s id = stat_by s id (object_at s id)

-- what an object is like is the answer, and nothing changes
abbrev pub tell_stat : State → Oid → Row
tell_stat s id = Commit [] (answer.Stat (stat_of s id)) None
