-- When the text of a world is read as that world.
use Rattle.std.specs.Prelude.{◌≡◌, ◌≤◌, true, List, length, map}
use Rattle.std.specs.List.{AllByRecursion}
use Rattle.fs_path.specs.declared.words.LineWord.{LineWord}
use Rattle.fs_path.specs.Words.{spelling, line_text}
use Rattle.lab_text.specs.Policy.{MakePolicy, top_of}
use Rattle.kern_model.specs.declared.numbers.Ids.{Ids}
use Rattle.kern_model.specs.declared.objects.Body.{Body}
use Rattle.kern_model.specs.declared.objects.Body.TheVariants as body
use Rattle.kern_model.specs.declared.world.WorldObject.{WorldObject}
use Rattle.kern_model.specs.declared.world.WorldProc.{WorldProc}
use Rattle.fs_path.specs.declared.words.TheConstants.{MAX_LINE}
use Rattle.kern_model.specs.World.{IsWorld}
use Rattle.line_text.specs.Ranges.{are_bytes, are_numbers, IsNumber}
use Rattle.world_text.specs.declared.world.WorldText.{WorldText}
use Rattle.world_text.specs.Written.{path_text, lines_of}

-- the content of a file is bytes
abbrev pub HasBytes : Body → Type 0
HasBytes (body.File bytes) = are_bytes bytes ≡ true
HasBytes _ = Unit {0}

-- an object as its types keep it: its path and its content are bytes, and its owner and group fit 32 bits
pub record IsWrittenObject (o : WorldObject) : Type 0 where
  pub path : are_bytes (path_text o.path.names) ≡ true
  pub owner : IsNumber o.attr.owner
  pub group : IsNumber o.attr.group
  pub body : HasBytes o.body

-- ids as their types keep them: numbers that fit 32 bits
pub record IsWrittenIds (ids : Ids) : Type 0 where
  pub user : IsNumber ids.euid
  pub group : IsNumber ids.egid
  pub groups : are_numbers ids.groups ≡ true

-- a line that is not too long
abbrev pub IsShort : List LineWord → Type 0
IsShort words = length (line_text (map spelling words)) ≤ MAX_LINE

-- a world whose highest label is that of its policy
pub record IsWorldText (w : WorldText) : Type 0 where
  pub world : IsWorld w.world
  pub top : w.world.top ≡ top_of w.policy

-- each line of the text of a world has at most 2,048 bytes
abbrev pub HasShortLines : WorldText → Type 0
HasShortLines w = AllByRecursion IsShort (lines_of w)

-- a world whose text is read as this world: it is valid, its lines are short, and its parts are in the ranges of their types
pub record CanBeRead (w : WorldText) : Type 0 where
  pub is : IsWorldText w
  pub lines : HasShortLines w
  pub policy : MakePolicy w.policy
  pub objects : AllByRecursion IsWrittenObject w.world.objects
  pub procs : AllByRecursion (λ (p : WorldProc). IsWrittenIds p.ids) w.world.procs
