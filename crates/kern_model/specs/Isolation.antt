-- What a label sees of a state and of a script, and what crosses it.
use Rattle.std.specs.Prelude.{◌≡◌, ℕ, Bool, true, false, not, ◌&&◌, ◌||◌, List, [], ◌∷◌, Option, Some, None, cond}
use Rattle.std.specs.List.{list_any, AllByRecursion}
use Rattle.std.specs.FinMap as map
use Rattle.cap_bits.specs.declared.cap.Cap.{Cap}
use Rattle.cap_bits.specs.declared.cap.Cap.TheVariants as cap
use Rattle.lab_lattice.specs.Label.{Label, dominates}
use Rattle.kern_model.specs.declared.numbers.Pid.{Pid}
use Rattle.kern_model.specs.declared.numbers.Oid.{Oid}
use Rattle.kern_model.specs.declared.numbers.Did.{Did}
use Rattle.kern_model.specs.declared.objects.Object.{Object}
use Rattle.kern_model.specs.declared.calls.Ending.{Ending}
use Rattle.kern_model.specs.declared.calls.Reply.{Reply}
use Rattle.kern_model.specs.declared.records.Rec.{Rec}
use Rattle.kern_model.specs.declared.records.Rec.TheVariants as rec
use Rattle.kern_model.specs.declared.world.World.{World}
use Rattle.kern_model.specs.declared.world.ScriptItem.{ScriptItem}
use Rattle.kern_model.specs.Keys.{Spot}
use Rattle.kern_model.specs.Maps.{select}
use Rattle.kern_model.specs.Kinds.{is_stream}
use Rattle.kern_model.specs.State.{State, Process, Description, stub}
use Rattle.kern_model.specs.Boot.{boot}
use Rattle.kern_model.specs.Run.{CallRecord, run}

-- a label is Low for l where l dominates it
abbrev pub low : Label → Label → Bool
low l label = dominates l label

-- the five capabilities that override the rules on labels
abbrev pub is_mac : Cap → Bool
is_mac cap.MacDowngrade = true
is_mac cap.MacRead = true
is_mac cap.MacRelabelSubj = true
is_mac cap.MacUpgrade = true
is_mac cap.MacWrite = true
is_mac _ = false

-- whether one is and the other is not
abbrev pub differ : Bool → Bool → Bool
differ true b = not b
differ false b = b

abbrev pub differs_from : Label → Bool → Option Label → Bool
differs_from l b None = false
differs_from l b (Some label) = differ b (low l label)

-- a record crosses l where it is an exercise of one of the five and, of the process's label, the thing's label and the
-- new label if there is one, some are Low and some are not
abbrev pub crosses : Label → Rec → Bool
crosses l (rec.Exercise e) = is_mac e.cap && (differ (low l e.label) (low l e.thing_label) || differs_from l (low l e.label) e.new_label)
crosses l _ = false

abbrev pub any_crosses : Label → List Rec → Bool
any_crosses l recs = list_any (crosses l) recs

-- ---- the part of a state

-- the present label, or the number's where nothing has the number
abbrev pub label_in : Option Object → Oid → Label
label_in None id = id.label
label_in (Some o) id = o.label

abbrev pub shows : Label → State → Oid → Bool
shows l s id = low l (label_in (map.get s.objects id) id)

-- the part that l sees: objects and processes whose present label is Low, the entries of such objects, descriptions with a Low number, and
-- the drawn numbers of Low labels. An entry that leads to what is not seen leads to the stub.
unfoldable pub part : Label → State → State
part l s = record {
  objects = select (λ id o. cond (low l o.label) (Some o) None) s.objects;
  entries = select (λ (spot : Spot) (id : Oid). cond (shows l s spot.0) (Some (cond (shows l s id) id (stub s.top))) None) s.entries;
  procs = select (λ who p. cond (low l p.label) (Some p) None) s.procs;
  descriptions = select (λ (did : Did) d. cond (low l did.label) (Some d) None) s.descriptions;
  object_numbers = select (λ label (n : ℕ). cond (low l label) (Some n) None) s.object_numbers;
  process_numbers = select (λ label (n : ℕ). cond (low l label) (Some n) None) s.process_numbers;
  description_numbers = select (λ label (n : ℕ). cond (low l label) (Some n) None) s.description_numbers;
  bound = s.bound;
  top = s.top;
}

-- ---- the part of a script

-- the items with a Low tag, in order
abbrev pub part_script : Label → List ScriptItem → List ScriptItem
part_script l [] = []
part_script l (i ∷ is) = cond (low l i.who.label) (i ∷ part_script l is) (part_script l is)

-- who called, the word or words that the reply shows, and the reply
pub record Answered : Type 0 where
  pub who : Pid
  pub head : List ℕ
  pub reply : Reply

abbrev pub answer_of_call : CallRecord → Answered
answer_of_call p = record { who = p.who; head = p.head; reply = p.reply }

-- what Low tags were answered, in order
abbrev pub answers : Label → List CallRecord → List Answered
answers l [] = []
answers l (p ∷ ps) = cond (low l p.who.label) (answer_of_call p ∷ answers l ps) (answers l ps)

-- all that was answered
abbrev pub all_answers : List CallRecord → List Answered
all_answers [] = []
all_answers (p ∷ ps) = answer_of_call p ∷ all_answers ps

-- what the part of a world answers to the part of a script, with nothing else there
abbrev pub alone : Label → World → List ScriptItem → List Answered
alone l w items = all_answers (run (part l (boot w)) (part_script l items))

-- the calls before the first one that has a record which crosses l
abbrev pub up_to : Label → List CallRecord → List CallRecord
up_to l [] = []
up_to l (p ∷ ps) = cond (any_crosses l p.recs) [] (p ∷ up_to l ps)

-- ---- what holds until something crosses

-- numbers and present labels are on one side, and so is what belongs together: a process with its parent, its ended
-- children and its descriptors, a pipe or FIFO with its descriptions. A Low process stands in a Low directory, and a
-- description with a Low number is of a Low object.
pub record Kept (l : Label) (s : State) : Type 0 where
  pub objects : (id : Oid) (o : Object) → map.get s.objects id ≡ Some o → low l id.label ≡ low l o.label
  pub procs : (who : Pid) (p : Process) → map.get s.procs who ≡ Some p → low l who.label ≡ low l p.label
  pub parents : (who parent : Pid) (p : Process) → map.get s.procs who ≡ Some p → p.parent ≡ Some parent → low l parent.label ≡ low l who.label
  pub ended : (who : Pid) (p : Process) → map.get s.procs who ≡ Some p → AllByRecursion (λ (e : Pid × Ending). low l e.0.label ≡ low l who.label) p.ended
  pub fds : (who : Pid) (p : Process) (fd : ℕ) (did : Did) → map.get s.procs who ≡ Some p → map.get p.fds fd ≡ Some did → low l did.label ≡ low l who.label
  pub cwd : (who : Pid) (p : Process) → map.get s.procs who ≡ Some p → low l p.label ≡ true → low l p.cwd.label ≡ true
  pub descriptions : (did : Did) (d : Description) → map.get s.descriptions did ≡ Some d → low l did.label ≡ true → low l d.object.label ≡ true
  pub streams : (did : Did) (d : Description) (o : Object) → map.get s.descriptions did ≡ Some d → map.get s.objects d.object ≡ Some o → is_stream o.kind ≡ true → low l did.label ≡ low l d.object.label
