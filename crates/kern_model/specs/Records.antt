-- What every record says: the process that it is about, and labels.
use Rattle.std.specs.Prelude.{List, [], ◌∷◌, Option, Some, None}
use Rattle.lab_lattice.specs.Label.{Label}
use Rattle.kern_model.specs.declared.checks.Thing.{Thing}
use Rattle.kern_model.specs.declared.checks.Thing.TheVariants as thing
use Rattle.kern_model.specs.declared.numbers.Pid.{Pid}
use Rattle.kern_model.specs.declared.records.Rec.{Rec}
use Rattle.kern_model.specs.declared.records.Rec.TheVariants as rec

-- the process that a record is about
abbrev pub who_of : Rec → Pid
who_of (rec.Boot who label caps) = who
who_of (rec.Fork who child) = who
who_of (rec.Exec who file file_caps caps) = who
who_of (rec.Exit who ending) = who
who_of (rec.CapSetProc who caps) = who
who_of (rec.CapSetFile who file caps) = who
who_of (rec.MacSetProc who old new) = who
who_of (rec.MacSetFile who object old new) = who
who_of (rec.Exercise exercise) = exercise.who
who_of (rec.Deny who call errno check place) = who
who_of (rec.Switch who on) = who
who_of (rec.Note who bytes) = who

-- the label of the number of an object or a process
abbrev pub label_of : Thing → Label
label_of (thing.Object id) = id.label
label_of (thing.Process who) = who.label

-- a label that may be none
abbrev pub label_if : Option Label → List Label
label_if None = []
label_if (Some label) = label ∷ []

-- the labels that stand after the number of the process
abbrev pub rest_labels : Rec → List Label
rest_labels (rec.Boot who label caps) = label ∷ []
rest_labels (rec.Fork who child) = child.label ∷ []
rest_labels (rec.Exec who file file_caps caps) = file.label ∷ []
rest_labels (rec.Exit who ending) = []
rest_labels (rec.CapSetProc who caps) = []
rest_labels (rec.CapSetFile who file caps) = file.label ∷ []
rest_labels (rec.MacSetProc who old new) = old ∷ new ∷ []
rest_labels (rec.MacSetFile who object old new) = object.label ∷ old ∷ new ∷ []
rest_labels (rec.Exercise e) = e.label ∷ label_of e.thing ∷ e.thing_label ∷ label_if e.new_label
rest_labels (rec.Deny who call errno check place) = []
rest_labels (rec.Switch who on) = []
rest_labels (rec.Note who bytes) = []

-- the labels of a record, those of its numbers too
abbrev pub labels_in : Rec → List Label
labels_in r = (who_of r).label ∷ rest_labels r
