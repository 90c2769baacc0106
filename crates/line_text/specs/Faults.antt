-- The words of faults.
use Rattle.std.specs.Prelude.{ℕ, List, codes}
use Rattle.line_text.specs.declared.fault.LineFault.{LineFault}
use Rattle.line_text.specs.declared.fault.LineFault.TheVariants as fault

-- the word of what is wrong with a line
unfoldable pub fault_word : LineFault → List ℕ
fault_word fault.TooLong = codes "too_long"
fault_word fault.OldFormat = codes "old_format"
fault_word fault.Syntax = codes "syntax"
fault_word fault.UnknownName = codes "unknown_name"
fault_word fault.Repeated = codes "repeated"
fault_word fault.NoParent = codes "no_parent"
fault_word fault.RootLabel = codes "root_label"
fault_word fault.LabelOrder = codes "label_order"
fault_word fault.TooMany = codes "too_many"
fault_word fault.MixedCaps = codes "mixed_caps"
fault_word fault.BadTag = codes "bad_tag"
fault_word fault.BadPath = codes "bad_path"
fault_word fault.BadLabel = codes "bad_label"
fault_word fault.BadCaps = codes "bad_caps"
fault_word fault.CapsAsked = codes "caps_asked"
fault_word fault.Unended = codes "unended"
fault_word fault.Header = codes "header"
fault_word fault.Record = codes "record"
