-- Generated calls, and the lines that they are written as.
use Rattle.std.specs.Prelude.{ℕ, ◌/◌, ◌%◌, List, [], ◌∷◌, ◌++◌, slice_index_or, codes}
use Rattle.std.specs.Fmt.{decimal}
use Rattle.gen_world.specs.declared.call.Action.{Action}
use Rattle.gen_world.specs.declared.call.Action.TheVariants.{Mkdir, Open, Close, Write, Read, Stat, Unlink, Readdir}
use Rattle.gen_world.specs.declared.call.Call.{Call}

-- the action with a number below 8
abbrev pub action_at : ℕ → Action
action_at n = slice_index_or (Mkdir ∷ Open ∷ Close ∷ Write ∷ Read ∷ Stat ∷ Unlink ∷ Readdir ∷ []) n Mkdir

-- the call that a generated number stands for: its parts are drawn from the digits that are not the low 16 bits
abbrev pub call_of : ℕ → Call
call_of number =
    let drawn = number / 65536 in
    record { level = drawn % 4; action = action_at ((drawn / 16) % 8); directory = (drawn / 4) % 4; file = (drawn / 128) % 16 }

-- the path of the directory of a call
abbrev pub directory_path : Call → List ℕ
directory_path call = codes "/d" ++ decimal call.directory

-- the path of the file of a call
abbrev pub file_path : Call → List ℕ
file_path call = directory_path call ++ codes "/f" ++ decimal call.file

-- the words of a call after its tag, by its action
abbrev pub words_of : Action → Call → List ℕ
words_of Mkdir call = codes "mkdir " ++ file_path call ++ codes " 0755"
words_of Open call = codes "open " ++ file_path call ++ codes " rwc 0644"
words_of Close call = codes "close " ++ decimal call.file
words_of Write call = codes "write " ++ decimal call.file ++ codes " \"x\""
words_of Read call = codes "read " ++ decimal call.file ++ codes " 8"
words_of Stat call = codes "stat " ++ file_path call
words_of Unlink call = codes "unlink " ++ file_path call
words_of Readdir call = codes "readdir " ++ directory_path call

-- the line of a call, which the first process of a level makes
abbrev pub call_line : Call → List ℕ
call_line call = codes "1@l" ++ decimal call.level ++ codes " " ++ words_of call.action call

-- a line with its line feed
abbrev pub with_line_feed : List ℕ → List ℕ
with_line_feed line = line ++ codes "\n"
