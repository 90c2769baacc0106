-- The states and sets that texts denote.
use Rattle.std.specs.Prelude.{ℕ, ◌==◌, cond, List, length, Option, Result, Ok, Err, codes, fold}
use Rattle.std.specs.Str.{str_eq_ignore_ascii_case}
use Rattle.cap_bits.specs.CapSet.{CapSet, no_caps}
use Rattle.cap_bits.specs.State.{no_flags}
use Rattle.cap_bits.specs.declared.state.CapState.{CapState}
use Rattle.cap_clause.specs.Clauses.{clauses_of, parse_list, first_fault_or, unless_fault, clause_fault, with_clause}
use Rattle.cap_clause.specs.declared.error.CapTextError.{CapTextError}
use Rattle.cap_clause.specs.declared.error.CapTextError.TheVariants as error

-- the first fault of a text, which must have a clause
unfoldable pub caps_fault : List ℕ → Option CapTextError
caps_fault text = first_fault_or error.Empty clause_fault (clauses_of 0 text)

-- what the clauses of a text make, one after another, of the state in which all flags are lowered
unfoldable pub caps_meant : List ℕ → CapState
caps_meant text = fold with_clause no_flags (clauses_of 0 text)

-- the state that a text denotes, or its first fault
unfoldable pub parse_caps : List ℕ → Result CapState CapTextError
parse_caps text = unless_fault (caps_fault text) (caps_meant text)

-- the set that a text denotes, or its first fault: `none` in any case of its letters, or a list
unfoldable pub parse_set : List ℕ → Result CapSet CapTextError
parse_set text =
    cond (length text == 0) (Err error.Empty)
    (cond (str_eq_ignore_ascii_case (codes "none") text) (Ok no_caps)
    (parse_list 0 text))
