-- The labels in calls, replies and records, and the modes in replies.
use Rattle.std.specs.Prelude.{◌≡◌, ℕ, true, List, [], ◌∷◌, Some}
use Rattle.std.specs.List.{AllByRecursion}
use Rattle.lab_lattice.specs.Label.{Label, dominates}
use Rattle.kern_model.specs.declared.calls.Answer.{Answer}
use Rattle.kern_model.specs.declared.calls.Answer.TheVariants as answer
use Rattle.kern_model.specs.declared.calls.Call.{Call}
use Rattle.kern_model.specs.declared.calls.Call.TheVariants as call
use Rattle.kern_model.specs.declared.calls.Reply.{Reply}
use Rattle.kern_model.specs.declared.calls.Reply.TheVariants as reply
use Rattle.kern_model.specs.declared.records.Rec.{Rec}
use Rattle.kern_model.specs.Kinds.{is_mode}
use Rattle.kern_model.specs.Records.{labels_in}

-- a label dominates each of these
abbrev pub AreBelow : Label → List Label → Type 0
AreBelow top labels = AllByRecursion (λ (l : Label). dominates top l ≡ true) labels

-- a label dominates each label of a record
abbrev pub HasLabelsBelow : Label → Rec → Type 0
HasLabelsBelow top r = AreBelow top (labels_in r)

-- ---- calls and replies

-- the labels in the arguments of a call, that of a number too
abbrev pub labels_in_call : Call → List Label
labels_in_call (call.MacSetFile path label) = label ∷ []
labels_in_call (call.MacSetFd fd label) = label ∷ []
labels_in_call (call.Kill target signal) = target.label ∷ []
labels_in_call (call.MacSetProc label) = label ∷ []
labels_in_call _ = []

-- the labels in an answer, those of numbers too
abbrev pub labels_in_answer : Answer → List Label
labels_in_answer (answer.Stat stat) = stat.id.label ∷ stat.label ∷ []
labels_in_answer (answer.Mark label) = label ∷ []
labels_in_answer (answer.Process who) = who.label ∷ []
labels_in_answer (answer.Parent (Some who)) = who.label ∷ []
labels_in_answer (answer.Ended who ending) = who.label ∷ []
labels_in_answer _ = []

-- the modes in an answer
abbrev pub modes_in_answer : Answer → List ℕ
modes_in_answer (answer.Stat stat) = stat.mode ∷ []
modes_in_answer (answer.Bits mode) = mode ∷ []
modes_in_answer _ = []

-- each of these lies within octal 6777
abbrev pub AreModes : List ℕ → Type 0
AreModes modes = AllByRecursion (λ mode. is_mode mode ≡ true) modes

-- a label dominates each label of an answer, and its modes are modes
abbrev pub AnswerBelow : Label → Answer → Type 0
AnswerBelow top a = AreBelow top (labels_in_answer a) × AreModes (modes_in_answer a)

-- the same of a reply, which has an answer where the call was done
abbrev pub HasAnswerBelow : Label → Reply → Type 0
HasAnswerBelow top (reply.Done a) = AnswerBelow top a
HasAnswerBelow top _ = Unit {0}
