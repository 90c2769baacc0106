-- How a text is read from the left.
use Rattle.std.specs.Prelude.{ℕ, cond, List, Option, None, Some, Result, Ok, Err, fold, is_some}
use Rattle.fs_path.specs.Split.{Piece}
use Rattle.cap_bits.specs.CapSet.{CapSet, all_of_caps}
use Rattle.cap_bits.specs.declared.state.CapState.{CapState}
use Rattle.cap_clause.specs.Clauses.{first_fault, unless_fault, parse_list, actions_in, action_fault, with_action, first_operator, clause_fault, with_clause}
use Rattle.cap_clause.specs.declared.action.Operator.{Operator}
use Rattle.cap_clause.specs.declared.action.Operator.TheVariants.{Assign, Raise, Lower}
use Rattle.cap_clause.specs.declared.error.CapTextError.{CapTextError}
use Rattle.cap_clause.specs.declared.error.CapTextError.TheVariants as error

-- the state after actions, where an operator begins them, or the first fault
unfoldable pub parse_actions : ℕ → CapSet → List ℕ → CapState → Result CapState CapTextError
parse_actions at caps actions s =
    cond (is_some (first_operator actions))
    (unless_fault (first_fault action_fault (actions_in at actions)) (fold (with_action caps) s (actions_in at actions)))
    (Err (error.NoOperator at))

-- the capabilities that a clause is about, by its list and the operator with which it begins, or its first fault before its actions
abbrev pub parse_prefix : ℕ → List ℕ → Option Operator → Result CapSet CapTextError
parse_prefix at list None = parse_list at list
parse_prefix at list (Some Assign) = Ok all_of_caps
parse_prefix at list (Some Raise) = Err (error.NoNames at)
parse_prefix at list (Some Lower) = Err (error.NoNames at)

-- what a clause makes of a state, or its first fault
unfoldable pub parse_clause : CapState → Piece → Result CapState CapTextError
parse_clause s clause = unless_fault (clause_fault clause) (with_clause s clause)
