-- The rows of the calls on descriptors.
use Rattle.std.specs.Prelude.{ℕ, ◌+◌, ◌==◌, ◌&&◌, ◌||◌, not, nat_le, nat_lt, int_lt, Bool, true, false, cond, List, [], ◌∷◌, ◌++◌, length, take, drop, Option, None, Some, ℤ, pos, ◌+ℤ◌, unsigned_abs}
use Rattle.std.specs.FinMap as map
use Rattle.cap_bits.specs.FileCaps.{no_file_caps}
use Rattle.lab_lattice.specs.Label.{Label}
use Rattle.kern_model.specs.declared.limits.TheConstants.{MAX_DESCRIPTIONS, MAX_DESCRIPTORS, MAX_FILE_BYTES, MAX_PIPE_BYTES}
use Rattle.kern_model.specs.declared.calls.Answer.{Answer}
use Rattle.kern_model.specs.declared.calls.Answer.TheVariants as answer
use Rattle.kern_model.specs.declared.calls.Errno.TheVariants as errno
use Rattle.kern_model.specs.declared.calls.OpenFlags.{OpenFlags}
use Rattle.kern_model.specs.declared.calls.Whence.{Whence}
use Rattle.kern_model.specs.declared.calls.Whence.TheVariants as whence
use Rattle.kern_model.specs.declared.checks.CheckName.TheVariants as check
use Rattle.kern_model.specs.declared.checks.Place.{Place}
use Rattle.kern_model.specs.declared.checks.Place.TheVariants.{Handle}
use Rattle.kern_model.specs.declared.numbers.Oid.{Oid}
use Rattle.kern_model.specs.declared.numbers.Did.{Did}
use Rattle.kern_model.specs.declared.numbers.Pid.{Pid}
use Rattle.kern_model.specs.declared.objects.Attr.{Attr}
use Rattle.kern_model.specs.declared.objects.Body.TheVariants as body
use Rattle.kern_model.specs.declared.objects.Object.{Object}
use Rattle.kern_model.specs.Keys.{same_pid}
use Rattle.kern_model.specs.Kinds.{is_stream, object_with, permissions}
use Rattle.kern_model.specs.State.{State, Process, Description, Change, SetObject, SetProcess, SetDescription, DrawDescription, object_at, last_drawn}
use Rattle.kern_model.specs.Descriptors.{Opened, Descriptor, open_description, open_count, lowest_free, with_descriptor, any_open, changes_of_close}
use Rattle.kern_model.specs.Rules.{of_object, mac_write, is_plain}
use Rattle.kern_model.specs.Row.{Row, Soft, Refuse, Fail, Commit, need_if}
use Rattle.kern_model.specs.Walk.{read_object, write_object}
use Rattle.kern_model.specs.Create.{attr_of, object_addition, object_addition_after, to_number}
use Rattle.kern_model.specs.Stat.{tell_stat}

-- ---- what rows of descriptors share

abbrev pub or_not_open : Option Opened → (Opened → Row) → Row
or_not_open None k = Fail errno.EBADF
or_not_open (Some f) k = k f

-- the row goes on with what a descriptor refers to, and fails where it is not open
abbrev pub on_descriptor : State → Process → ℕ → (Opened → Row) → Row
on_descriptor s p fd k = or_not_open (open_description s p fd) k

abbrev pub open_object : State → Opened → Object
open_object s f = object_at s f.description.object

-- whether n more descriptors of the caller are free
abbrev pub has_free_descriptors : Process → ℕ → Bool
has_free_descriptors p n = nat_le (open_count p + n) MAX_DESCRIPTORS

-- whether n more numbers of descriptions are left at the caller's label
abbrev pub has_descriptions : State → Process → ℕ → Bool
has_descriptions s p n = nat_le (last_drawn s.description_numbers p.label + n) MAX_DESCRIPTIONS

-- n more descriptors of the caller are free
abbrev pub has_free : Process → ℕ → Row → Row
has_free p n rest = Refuse errno.EMFILE (not (has_free_descriptors p n)) rest

-- the caller may make n more descriptions, each with a descriptor
abbrev pub may_describe : State → Process → ℕ → Row → Row
may_describe s p n rest = has_free p n (Refuse errno.ENFILE (not (has_descriptions s p n)) rest)

-- a description with another offset
abbrev pub offset_change : Opened → ℕ → Change
offset_change f offset = SetDescription f.did (record f.description { offset = offset })

-- an object with other bytes
abbrev pub with_bytes : State → Oid → List ℕ → Change
with_bytes s id bytes = SetObject id (record (object_at s id) { bytes = bytes })

-- attributes without set-id bits and capabilities
abbrev pub unprivileged : Attr → Attr
unprivileged attr = record attr { mode = permissions attr.mode; caps = no_file_caps }

-- soft fsetid of a file whose content changes: its attributes stay, or are cleared where that is denied
abbrev pub keeps_attr : Oid → Place → Object → (Attr → Row) → Row
keeps_attr id place o rest = Soft (of_object check.Fsetid (is_plain o.attr) None id o place) (rest o.attr) (rest (unprivileged o.attr))

-- a file that was read gets other bytes and attributes
abbrev pub content_change : Oid → Object → List ℕ → Attr → Change
content_change id o bytes attr = SetObject id (record o { bytes = bytes; attr = attr })

-- a description with the number after n of a label is made, with the lowest free descriptor of a process
abbrev pub description_creation_after : ℕ → Label → Pid → Process → Description → List Change
description_creation_after n label who p description =
    let did : Did = record { label = label; n = n + 1 } in
    DrawDescription label (n + 1) ∷ SetDescription did description ∷ SetProcess who (with_descriptor p did) ∷ []

-- a description of an object that is opened with flags
abbrev pub opened_with : OpenFlags → Oid → Description
opened_with flags id = record { object = id; reads = flags.r; writes = flags.w; appends = flags.a; offset = 0 }

-- a description of the caller is made, with its lowest free descriptor
abbrev pub description_creation : State → Pid → Process → Oid → OpenFlags → List Change
description_creation s who p id flags = description_creation_after (last_drawn s.description_numbers p.label) p.label who p (opened_with flags id)

-- ---- close, dup and fstat

-- a descriptor of the caller closes
abbrev pub closes : State → Pid → Process → ℕ → List Change
closes s who p fd = SetProcess who (record p { fds = map.remove p.fds fd }) ∷ changes_of_close s (λ (d : Descriptor). same_pid d.who who && d.fd == fd)

abbrev pub close_opened : State → Pid → Process → ℕ → Row
close_opened s who p fd = Commit (closes s who p fd) answer.Nothing None

-- `close FD`
abbrev pub close_row : State → Pid → Process → ℕ → Row
close_row s who p fd = on_descriptor s p fd (λ _. close_opened s who p fd)

-- the caller's lowest free descriptor refers to the same description
abbrev pub repeat : Pid → Process → Opened → Row
repeat who p f = has_free p 1 (Commit (SetProcess who (with_descriptor p f.did) ∷ []) (answer.Number (lowest_free p.fds)) None)

-- `dup FD`
abbrev pub dup_row : State → Pid → Process → ℕ → Row
dup_row s who p fd = on_descriptor s p fd (repeat who p)

-- what a descriptor refers to is reported, where the caller reads it by label
abbrev pub report_opened : State → Process → Opened → Row
report_opened s p f = read_object s p f.description.object Handle (λ _. tell_stat s f.description.object)

-- `fstat FD`
abbrev pub fstat_row : State → Pid → Process → ℕ → Row
fstat_row s who p fd = on_descriptor s p fd (report_opened s p)

-- ---- pipe

-- octal 0600
abbrev pub pipe_mode : ℕ
pipe_mode = 384

-- an empty pipe that the caller makes
abbrev pub new_pipe : Process → Object
new_pipe p = object_with p.label (attr_of p pipe_mode) body.Pipe

-- a description on a pipe, for reading or for writing
abbrev pub on_pipe : Oid → Bool → Description
on_pipe id reads = record { object = id; reads = reads; writes = not reads; appends = false; offset = 0 }

-- the second number after b of a description of the caller
abbrev pub second_after : ℕ → Process → Did
second_after b p = record { label = p.label; n = b + 2 }

-- a pipe is made with the number after a, and descriptions with the two numbers after b: one for reading, and one for writing
abbrev pub pipe_creation_after : ℕ → ℕ → Pid → Process → List Change
pipe_creation_after a b who p =
    let id : Oid = record { label = p.label; n = a + 1 } in
    let reading : Did = record { label = p.label; n = b + 1 } in
    object_addition_after a p.label (new_pipe p)
    ++ (DrawDescription p.label (b + 2)
    ∷ SetDescription reading (on_pipe id true)
    ∷ SetDescription (second_after b p) (on_pipe id false)
    ∷ SetProcess who (with_descriptor (with_descriptor p reading) (second_after b p)) ∷ [])

-- the caller's two lowest free descriptors, where the first gets the number after b
abbrev pub ends_after : ℕ → Process → Answer
ends_after b p = answer.Two (lowest_free p.fds) (lowest_free (with_descriptor p (record { label = p.label; n = b + 1 })).fds)

abbrev pub make_pipe_after : ℕ → ℕ → Pid → Process → Row
make_pipe_after a b who p = Commit (pipe_creation_after a b who p) (ends_after b p) None

-- an object gets the next number, as a pipe of the caller
abbrev pub pipe_addition : State → Process → List Change
pipe_addition s p = object_addition s p.label (new_pipe p)

-- the number after the next one of a description
abbrev pub second_description : State → Process → Did
second_description s p = second_after (last_drawn s.description_numbers p.label) p

-- a pipe is made with the next numbers, and descriptions for reading and for writing
abbrev pub pipe_creation : State → Pid → Process → List Change
pipe_creation s who p = pipe_creation_after (last_drawn s.object_numbers p.label) (last_drawn s.description_numbers p.label) who p

abbrev pub both_ends : State → Process → Answer
both_ends s p = ends_after (last_drawn s.description_numbers p.label) p

abbrev pub make_pipe : State → Pid → Process → Row
make_pipe s who p = make_pipe_after (last_drawn s.object_numbers p.label) (last_drawn s.description_numbers p.label) who p

-- `pipe`
abbrev pub pipe_row : State → Pid → Process → Row
pipe_row s who p = may_describe s p 2 (to_number s p.label (λ _. make_pipe s who p))

-- ---- read

-- a descriptor is open for reading, on an object that the caller reads by label
abbrev pub to_read : State → Process → Opened → (Opened → Row) → Row
to_read s p f rest = Refuse errno.EBADF (not f.description.reads) (read_object s p f.description.object Handle (λ _. rest f))

abbrev pub opened_to_read : State → Process → ℕ → (Opened → Row) → Row
opened_to_read s p fd rest = on_descriptor s p fd (λ f. to_read s p f rest)

-- up to n bytes of a file from the offset on
abbrev pub taken_from : Object → Opened → ℕ → List ℕ
taken_from o f n = take n (drop f.description.offset o.bytes)

-- bytes come out of a file, whose offset moves after them
abbrev pub from_file : Opened → List ℕ → Row
from_file f bytes = Commit (offset_change f (f.description.offset + length bytes) ∷ []) (answer.Bytes bytes) None

-- bytes come out of a pipe or FIFO from the start, which loses them
abbrev pub from_stream : ℕ → Oid → Object → Row
from_stream n id o = Commit (SetObject id (record o { bytes = drop n o.bytes }) ∷ []) (answer.Bytes (take n o.bytes)) None

-- bytes come out of a pipe or FIFO where `stream` holds, and else of a file
abbrev pub take_from : Bool → ℕ → Opened → Object → Row
take_from stream n f o = cond stream (from_stream n f.description.object o) (from_file f (taken_from o f n))

-- the same, unless it is a pipe or FIFO that is empty and has a description for writing
abbrev pub comes_out : Bool → State → ℕ → Opened → Object → Row
comes_out stream s n f o =
    Refuse errno.EAGAIN (stream && length o.bytes == 0 && any_open s (λ d. d.writes) f.description.object) (take_from stream n f o)

-- the same, where the caller writes the pipe or FIFO, by label
abbrev pub read_as : Bool → State → Process → ℕ → Opened → Row
read_as stream s p n f = need_if stream (mac_write s p f.description.object Handle) (comes_out stream s n f (open_object s f))

abbrev pub read_opened : State → Process → ℕ → Opened → Row
read_opened s p n f = read_as (is_stream (open_object s f).kind) s p n f

-- `read FD N`
abbrev pub read_row : State → Pid → Process → ℕ → ℕ → Row
read_row s who p fd n = opened_to_read s p fd (read_opened s p n)

-- ---- write

-- a descriptor is open for writing, on an object that the caller writes by label
abbrev pub to_write : State → Process → Opened → (Opened → Row) → Row
to_write s p f rest = Refuse errno.EBADF (not f.description.writes) (write_object s p f.description.object Handle (λ _. rest f))

abbrev pub opened_to_write : State → Process → ℕ → (Opened → Row) → Row
opened_to_write s p fd rest = on_descriptor s p fd (λ f. to_write s p f rest)

-- bytes go in at the end of a pipe or FIFO
abbrev pub into_stream : State → List ℕ → Opened → Object → Row
into_stream s bytes f o =
    Refuse errno.EPIPE (not (any_open s (λ d. d.reads) f.description.object))
    (Refuse errno.EAGAIN (nat_lt MAX_PIPE_BYTES (length o.bytes + length bytes))
    (Commit (SetObject f.description.object (record o { bytes = o.bytes ++ bytes }) ∷ []) (answer.Number (length bytes)) None))

-- where a piece goes into a file: at the offset, or at the end
abbrev pub place_in : Object → Opened → ℕ
place_in o f = cond f.description.appends (length o.bytes) f.description.offset

-- a piece may go there, and the row goes on with the place
abbrev pub to_place : List ℕ → Opened → Object → (ℕ → Row) → Row
to_place bytes f o rest =
    Refuse errno.EINVAL (nat_lt (length o.bytes) (place_in o f))
    (Refuse errno.EFBIG (nat_lt MAX_FILE_BYTES (place_in o f + length bytes)) (rest (place_in o f)))

-- a file's bytes with a piece written over them from a place on
abbrev pub written_over : List ℕ → ℕ → List ℕ → List ℕ
written_over old at bytes = take at old ++ (bytes ++ drop (at + length bytes) old)

-- a file gets a piece at a place, and these attributes
abbrev pub put_in : List ℕ → Opened → Object → ℕ → Attr → Change
put_in bytes f o at attr = content_change f.description.object o (written_over o.bytes at bytes) attr

-- what changes of a file where a piece goes in, with soft fsetid, unless no byte is written
abbrev pub rewrites : List ℕ → Opened → Object → ℕ → (List Change → Row) → Row
rewrites bytes f o at rest =
    cond (length bytes == 0) (rest []) (keeps_attr f.description.object Handle o (λ attr. rest (put_in bytes f o at attr ∷ [])))

-- the offset moves after a piece, and the number of its bytes is answered
abbrev pub move_after : List ℕ → Opened → ℕ → List Change → Row
move_after bytes f at changes = Commit (changes ++ offset_change f (at + length bytes) ∷ []) (answer.Number (length bytes)) None

-- a piece goes into a file at a place
abbrev pub writes_at : List ℕ → Opened → Object → ℕ → Row
writes_at bytes f o at = rewrites bytes f o at (move_after bytes f at)

abbrev pub into_file : List ℕ → Opened → Object → Row
into_file bytes f o = to_place bytes f o (writes_at bytes f o)

abbrev pub put_in_stream : State → Opened → List ℕ → Row
put_in_stream s f bytes = into_stream s bytes f (open_object s f)

abbrev pub put_in_file : State → Opened → List ℕ → Row
put_in_file s f bytes = into_file bytes f (open_object s f)

abbrev pub write_opened : State → List ℕ → Opened → Row
write_opened s bytes f = cond (is_stream (open_object s f).kind) (put_in_stream s f bytes) (put_in_file s f bytes)

-- `write FD BYTES`
abbrev pub write_row : State → Pid → Process → ℕ → List ℕ → Row
write_row s who p fd bytes = opened_to_write s p fd (write_opened s bytes)

-- ---- lseek

-- the caller reads what a descriptor refers to, by label, and it has offsets
abbrev pub to_seek : State → Process → Opened → (Opened → Row) → Row
to_seek s p f rest = read_object s p f.description.object Handle (λ o. Refuse errno.ESPIPE (is_stream o.kind) (rest f))

abbrev pub opened_to_seek : State → Process → ℕ → (Opened → Row) → Row
opened_to_seek s p fd rest = on_descriptor s p fd (λ f. to_seek s p f rest)

-- from where an offset is counted
abbrev pub base_of : State → Opened → Whence → ℕ
base_of s f whence.Set = 0
base_of s f whence.Cur = f.description.offset
base_of s f whence.End = length (open_object s f).bytes

-- an offset moves in a file of so many bytes
abbrev pub moves : Opened → ℤ → ℕ → Row
moves f to size =
    Refuse errno.EINVAL (int_lt to (pos 0) || int_lt (pos size) to)
    (Commit (offset_change f (unsigned_abs to) ∷ []) (answer.Number (unsigned_abs to)) None)

abbrev pub seek_opened : State → Whence → ℤ → Opened → Row
seek_opened s from offset f = moves f (pos (base_of s f from) +ℤ offset) (length (open_object s f).bytes)

-- `lseek FD set|cur|end OFFSET`
abbrev pub lseek_row : State → Pid → Process → ℕ → Whence → ℤ → Row
lseek_row s who p fd from offset = opened_to_seek s p fd (seek_opened s from offset)
