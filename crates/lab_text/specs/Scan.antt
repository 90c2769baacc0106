-- A label's text as it is read.
use Rattle.std.specs.Prelude.{ℕ, ◌+◌, ◌==◌, nat_lt, cond, Option, None, Some}
use Rattle.std.specs.Option.{option_map}
use Rattle.lab_text.specs.Names.{is_letter, is_name_part}
use Rattle.lab_text.specs.declared.lists.NameList.{NameList}
use Rattle.lab_text.specs.declared.lists.NameList.TheVariants.{Levels, Categories, Grades}
use Rattle.lab_text.specs.declared.scan.Scan.{Scan}

-- the list of the next name, where this byte may end a name of a list: a colon a level's, a comma a category's, a slash either's
abbrev pub list_after : NameList → ℕ → Option NameList
list_after Levels byte = cond (byte == 58) (Some Categories) (cond (byte == 47) (Some Grades) None)
list_after Categories byte = cond (byte == 44) (Some Categories) (cond (byte == 47) (Some Grades) None)
list_after Grades byte = None

-- the state after one more byte, where some label's text goes on with it
abbrev pub step : Scan → ℕ → Option Scan
step s byte =
    cond (s.len == 0) (cond (is_letter byte) (Some (record { list = s.list; len = 1 })) None)
    (cond (is_name_part byte) (cond (nat_lt s.len 31) (Some (record { list = s.list; len = s.len + 1 })) None)
    (option_map (λ list. record { list = list; len = 0 }) (list_after s.list byte)))
