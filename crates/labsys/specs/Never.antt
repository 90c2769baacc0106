-- What is written of a world of what no script can do in it.
use Rattle.std.specs.Prelude.{ℕ, ◌==◌, ◌&&◌, Bool, true, false, cond, List, [], ◌∷◌, ◌++◌, length, Option, Some, None, codes}
use Rattle.std.specs.Bool.{beq}
use Rattle.std.specs.FinMap as map
use Rattle.std.specs.List.{filter, flat_map}
use Rattle.cap_bits.specs.CapSet.{CapSet, all_of_caps, is_within, minus_of, no_caps}
use Rattle.cap_bits.specs.declared.state.CapState.{CapState}
use Rattle.cap_clause.specs.Written.{set_text}
use Rattle.fs_path.specs.Words.{line_text, spelling, with_quotes_if_needed}
use Rattle.lab_lattice.specs.Label.{Label}
use Rattle.lab_text.specs.Policy.{PolicyNames}
use Rattle.lab_text.specs.Text.{label_text}
use Rattle.line_text.specs.Words.{pid_text}
use Rattle.kern_model.specs.declared.numbers.Pid.{Pid}
use Rattle.kern_model.specs.declared.world.World.{World}
use Rattle.kern_model.specs.declared.world.WorldObject.{WorldObject}
use Rattle.kern_model.specs.Boot.{boot}
use Rattle.kern_model.specs.State.{State}
use Rattle.world_text.specs.Written.{path_text}
use Rattle.ever_caps.specs.Ever.{all_processes, ever, mac_given_to, mac_in}
use Rattle.ever_caps.specs.Uncrossed.{is_uncrossed}
use Rattle.lab_engine.specs.declared.ending.InputEnd.{InputEnd}
use Rattle.lab_engine.specs.declared.ending.InputEnd.TheVariants.{Whole, Refused, RefusedWord, TooMuch}
use Rattle.lab_engine.specs.Input.{Accepted, Input, Script}
use Rattle.lab_engine.specs.Order.{Sent, to_out}
use Rattle.lab_engine.specs.Texts.{caps_in, last_text}

-- ---- capabilities

-- the capabilities that no script exercises
abbrev pub unexercised : World → CapSet
unexercised w = minus_of all_of_caps (ever w)

-- their line: `never SET`
unfoldable pub unexercised_text : CapSet → List ℕ
unexercised_text caps = line_text (codes "never" ∷ set_text caps ∷ []) ++ 10 ∷ []

-- ---- who has one of the five capabilities over labels, and which file gives one

-- the line of a process that has some: `holds PID SET`
unfoldable pub holder_text : PolicyNames → Pid → CapSet → List ℕ
holder_text policy who caps = line_text (codes "holds" ∷ pid_text policy who ∷ set_text caps ∷ []) ++ 10 ∷ []

-- the line of a process, if it has some
abbrev pub holder_line : PolicyNames → Pid → Option CapState → List ℕ
holder_line policy who None = []
holder_line policy who (Some caps) = cond (is_within (mac_in caps) no_caps) [] (holder_text policy who (mac_in caps))

-- the lines of processes, in the order of their numbers
abbrev pub holders_text : PolicyNames → State → List Pid → List ℕ
holders_text policy s numbers = flat_map (λ who. holder_line policy who (caps_in s who)) numbers

-- the line of a file that may give some: `gives PATH SET`
unfoldable pub giver_text : WorldObject → CapSet → List ℕ
giver_text o caps =
    line_text (codes "gives" ∷ spelling (with_quotes_if_needed (path_text o.path.names)) ∷ set_text caps ∷ []) ++ 10 ∷ []

-- the line of an object, if it gives some to a process with these sets
abbrev pub giver_line : CapState → CapSet → WorldObject → List ℕ
giver_line caps bound o = cond (is_within (mac_given_to caps bound o) no_caps) [] (giver_text o (mac_given_to caps bound o))

-- the lines of the files, in the order of the world
abbrev pub givers_text : World → List ℕ
givers_text w = flat_map (giver_line (all_processes w) w.bound) w.objects

-- ---- labels

-- the word of a label that nothing ever crosses, and of one that a script may cross
abbrev pub label_word : Bool → List ℕ
label_word true = codes "uncrossed"
label_word false = codes "open"

-- the line of a label: `uncrossed LABEL` or `open LABEL`
unfoldable pub label_line : Bool → PolicyNames → Label → List ℕ
label_line left policy l = line_text (label_word left ∷ label_text policy l ∷ []) ++ 10 ∷ []

-- a process is the first that has its label, and the test of the label has this answer
abbrev pub is_answered : (Label → Bool) → Bool → Pid → Bool
is_answered test left who = (who.n == 1) && beq (test who.label) left

-- the lines of the labels of processes for which a test has this answer, in the order of labels
abbrev pub labels_text : (Label → Bool) → PolicyNames → Bool → List Pid → List ℕ
labels_text test policy left numbers =
    flat_map (λ (who : Pid). cond (is_answered test left who) (label_line left policy who.label) []) numbers

-- how many they are
abbrev pub count_labels : (Label → Bool) → Bool → List Pid → ℕ
count_labels test left numbers = length (filter (is_answered test left) numbers)

-- ---- a world

-- what is written of a world by a test of labels and the numbers of its processes
abbrev pub lines_by : (Label → Bool) → PolicyNames → World → List Pid → List ℕ
lines_by test policy w numbers =
    (unexercised_text (unexercised w) ++ (holders_text policy (boot w) numbers ++ givers_text w))
    ++ (labels_text test policy true numbers
    ++ (labels_text test policy false numbers ++ last_text (count_labels test true numbers) Whole))

-- what is written of an accepted world
abbrev pub never_text : Accepted → List ℕ
never_text a = lines_by (λ l. is_uncrossed l a.world) a.policy a.world (map.keys (boot a.world).procs)

-- what is written by how the input ends: where a line is refused or there is too much, that alone
abbrev pub said_text : Accepted → InputEnd → List ℕ
said_text a Whole = never_text a
said_text a (Refused n part why) = last_text 0 (Refused n part why)
said_text a (RefusedWord word why) = last_text 0 (RefusedWord word why)
said_text a TooMuch = last_text 0 TooMuch

-- what is written of an input by its world and how it ends; without a world it is the last line alone
abbrev pub text_of_never : Option Accepted → Script → List ℕ
text_of_never None script = last_text 0 script.ending
text_of_never (Some a) script = said_text a script.ending

-- the order of an input of which it is written what no script can do
abbrev pub order_of_never : Input → List Sent
order_of_never i = to_out (text_of_never i.accepted i.script)
