-- What is written of an input that is upgraded.
use Rattle.std.specs.Prelude.{◌≡◌, ℕ, List, ◌++◌, Option, Some, None}
use Rattle.world_text.specs.Written.{text_of_world}
use Rattle.lab_engine.specs.Input.{Accepted}
use Rattle.lab_engine.specs.Order.{Sent, to_out}
use Rattle.lab_engine.specs.Texts.{last_text}
use Rattle.lab_engine.specs.UpgradeInput.{UpgradeInput, UpgradeScript}
use Rattle.lab_engine.specs.Upgrading.{ReadsBack}
use Rattle.lab_engine.specs.Viewing.{unless_whole}

-- what is written of an input: the text of its world in the format of today, the lines of its script as they came, and
-- the last line where the input is not whole; without a world it is the last line alone
abbrev pub upgrade_text : Option Accepted → UpgradeScript → List ℕ
upgrade_text None script = last_text 0 script.ending
upgrade_text (Some a) script = text_of_world a ++ (script.text ++ unless_whole script.ending)

-- the order of an input that is upgraded
abbrev pub order_of_upgrade : UpgradeInput → List Sent
order_of_upgrade i = to_out (upgrade_text i.accepted i.script)

-- where an input has a world, the text of this is read as the same world
abbrev pub WorldReadsBack : UpgradeInput → Type 0
WorldReadsBack i = (a : Accepted) → i.accepted ≡ Some a → ReadsBack a
