-- The grammar of capability texts: clauses with blanks between them, in each a list of capabilities and then actions.
use Rattle.std.specs.Prelude.{ℕ, ◌+◌, ◌==◌, ◌||◌, ◌&&◌, nat_lt, Bool, true, false, cond, List, [], ◌∷◌, length, Option, None, Some, Result, Ok, Err, codes, fold, is_some, unwrap_or}
use Rattle.std.specs.List.{before_first, cons_option, filter, filter_map, prefix_len, slice_split}
use Rattle.std.specs.Option.{option_map, option_or}
use Rattle.std.specs.Str.{str_eq_ignore_ascii_case}
use Rattle.fs_path.specs.Split.{Piece, pieces, pieces_at}
use Rattle.cap_bits.specs.Cap.{cap_named}
use Rattle.cap_bits.specs.CapSet.{CapSet, no_caps, all_of_caps, with_cap, union_of, minus_of}
use Rattle.cap_bits.specs.declared.state.CapState.{CapState}
use Rattle.cap_bits.specs.declared.state.Flag.{Flag}
use Rattle.cap_bits.specs.declared.state.Flag.TheVariants.{Effective, Inheritable, Permitted}
use Rattle.cap_clause.specs.declared.action.Operator.{Operator}
use Rattle.cap_clause.specs.declared.action.Operator.TheVariants.{Assign, Raise, Lower}
use Rattle.cap_clause.specs.declared.error.CapTextError.{CapTextError}
use Rattle.cap_clause.specs.declared.error.CapTextError.TheVariants as error

-- ---- bytes

-- whether a byte separates clauses: a space or a tab
abbrev pub is_blank : ℕ → Bool
is_blank b = b == 32 || b == 9

-- the operator that a byte is: `=`, `+` or `-`
abbrev pub operator_of : ℕ → Option Operator
operator_of b = cond (b == 61) (Some Assign) (cond (b == 43) (Some Raise) (cond (b == 45) (Some Lower) None))

-- whether a byte is an operator
abbrev pub is_operator : ℕ → Bool
is_operator b = is_some (operator_of b)

-- the flag that a byte is: `e`, `i` or `p`
abbrev pub flag_of : ℕ → Option Flag
flag_of b = cond (b == 101) (Some Effective) (cond (b == 105) (Some Inheritable) (cond (b == 112) (Some Permitted) None))

-- whether a byte is a flag
abbrev pub is_flag : ℕ → Bool
is_flag b = is_some (flag_of b)

-- ---- pieces

-- whether there are bytes
abbrev pub are_some : List ℕ → Bool
are_some [] = false
are_some (b ∷ bs) = true

-- whether a piece has bytes
abbrev pub has_bytes : Piece → Bool
has_bytes piece = are_some piece.bytes

-- the clauses of a text that begins at a place: the pieces between blanks that are not empty
unfoldable pub clauses_of : ℕ → List ℕ → List Piece
clauses_of at text = filter has_bytes (pieces_at at (slice_split is_blank text))

-- the pieces between commas of a list that begins at a place
abbrev pub pieces_of : ℕ → List ℕ → List Piece
pieces_of at list = pieces_at at (pieces 44 list)

-- ---- faults

-- the first fault among items
abbrev pub first_fault : {X : Type 0} → (X → Option CapTextError) → List X → Option CapTextError
first_fault fault [] = None
first_fault fault (x ∷ xs) = option_or (fault x) (first_fault fault xs)

-- the first fault among items, or another where there is no item
abbrev pub first_fault_or : {X : Type 0} → CapTextError → (X → Option CapTextError) → List X → Option CapTextError
first_fault_or missing fault [] = Some missing
first_fault_or missing fault (x ∷ xs) = first_fault fault (x ∷ xs)

-- a value, unless there is a fault
abbrev pub unless_fault : {V : Type 0} → Option CapTextError → V → Result V CapTextError
unless_fault None v = Ok v
unless_fault (Some fault) v = Err fault

-- ---- lists of capabilities

-- the capabilities that a word names, in any case of its ASCII letters: all 18 for `all`, one for its name
unfoldable pub caps_named : List ℕ → Option CapSet
caps_named word = cond (str_eq_ignore_ascii_case (codes "all") word) (Some all_of_caps) (option_map (λ cap. with_cap no_caps cap) (cap_named word))

-- the fault of a piece: it is no name
abbrev pub piece_fault : Piece → Option CapTextError
piece_fault piece = cond (is_some (caps_named piece.bytes)) None (Some (error.UnknownName piece.at))

-- capabilities, and those that a piece names
abbrev pub with_piece : CapSet → Piece → CapSet
with_piece caps piece = union_of caps (unwrap_or (caps_named piece.bytes) no_caps)

-- the capabilities that pieces name
abbrev pub caps_listed : List Piece → CapSet
caps_listed pieces = fold with_piece no_caps pieces

-- the capabilities that a list names which begins at a place, or its first fault
unfoldable pub parse_list : ℕ → List ℕ → Result CapSet CapTextError
parse_list at list = unless_fault (first_fault piece_fault (pieces_of at list)) (caps_listed (pieces_of at list))

-- ---- actions

-- an operator with its place, and the bytes after it up to the next one
pub record Action : Type 0 where
  pub at : ℕ
  pub operator : Operator
  pub rest : List ℕ

-- the actions in bytes that begin at a place
abbrev pub actions_in : ℕ → List ℕ → List Action
actions_in at [] = []
actions_in at (b ∷ bs) = cons_option (option_map (λ operator. record { at = at; operator = operator; rest = before_first is_operator bs }) (operator_of b)) (actions_in (at + 1) bs)

-- whether an operator needs a flag: `+` and `-` do
abbrev pub needs_flag : Operator → Bool
needs_flag Assign = false
needs_flag Raise = true
needs_flag Lower = true

-- the fault of an action: no flag after an operator that needs one, or another byte after its flags
abbrev pub action_fault : Action → Option CapTextError
action_fault a =
    cond (needs_flag a.operator && prefix_len is_flag a.rest == 0) (Some (error.NoFlag (a.at + 1)))
    (cond (nat_lt (prefix_len is_flag a.rest) (length a.rest)) (Some (error.NoOperator (a.at + 1 + prefix_len is_flag a.rest))) None)

-- the three flags, in the order in which they are written
abbrev pub all_flags : List Flag
all_flags = Effective ∷ Inheritable ∷ Permitted ∷ []

-- a set with capabilities, or without them
abbrev pub put_caps : CapSet → CapSet → Bool → CapSet
put_caps set caps there = cond there (union_of set caps) (minus_of set caps)

-- a state in which a flag of capabilities is raised or lowered
abbrev pub put_flag : CapSet → Bool → CapState → Flag → CapState
put_flag caps raised s Effective = record s { e = put_caps s.e caps raised }
put_flag caps raised s Inheritable = record s { i = put_caps s.i caps raised }
put_flag caps raised s Permitted = record s { p = put_caps s.p caps raised }

-- a state in which flags of capabilities are raised or lowered
abbrev pub put_flags : CapSet → Bool → List Flag → CapState → CapState
put_flags caps raised flags s = fold (put_flag caps raised) s flags

-- the state after an operator with flags: `=` lowers all flags of the capabilities first
abbrev pub after_operator : CapSet → Operator → List Flag → CapState → CapState
after_operator caps Assign flags s = put_flags caps true flags (put_flags caps false all_flags s)
after_operator caps Raise flags s = put_flags caps true flags s
after_operator caps Lower flags s = put_flags caps false flags s

-- the state after an action
abbrev pub with_action : CapSet → CapState → Action → CapState
with_action caps s a = after_operator caps a.operator (filter_map flag_of a.rest) s

-- ---- clauses

-- the operator with which bytes begin, if they begin with one
abbrev pub first_operator : List ℕ → Option Operator
first_operator [] = None
first_operator (b ∷ bs) = operator_of b

-- the pieces of a clause's list, which are the bytes before its first operator
abbrev pub list_in : Piece → List Piece
list_in clause = pieces_of clause.at (before_first is_operator clause.bytes)

-- the first fault of a clause's actions, of which there must be one
abbrev pub actions_fault : Piece → Option CapTextError
actions_fault clause = first_fault_or (error.NoOperator (clause.at + length clause.bytes)) action_fault (actions_in clause.at clause.bytes)

-- the first fault of a clause, by the operator with which it begins: `=` may begin a clause, without a list, and no other may
abbrev pub clause_fault_by : Option Operator → Piece → Option CapTextError
clause_fault_by None clause = option_or (first_fault piece_fault (list_in clause)) (actions_fault clause)
clause_fault_by (Some Assign) clause = actions_fault clause
clause_fault_by (Some Raise) clause = Some (error.NoNames clause.at)
clause_fault_by (Some Lower) clause = Some (error.NoNames clause.at)

-- the first fault of a clause
unfoldable pub clause_fault : Piece → Option CapTextError
clause_fault clause = clause_fault_by (first_operator clause.bytes) clause

-- the capabilities that a clause is about: those that it lists, or all where it has no list
abbrev pub caps_in : Piece → CapSet
caps_in clause = cond (is_some (first_operator clause.bytes)) all_of_caps (caps_listed (list_in clause))

-- the state after a clause: after its actions, one after another
unfoldable pub with_clause : CapState → Piece → CapState
with_clause s clause = fold (with_action (caps_in clause)) s (actions_in clause.at clause.bytes)
