-- The text of a path: names with slashes between them.
use Rattle.std.specs.Prelude.{◌≡◌, ℕ, ◌+◌, ◌==◌, ◌||◌, not, nat_le, nat_lt, Bool, cond, List, [], ◌∷◌, length, map, Option, None, Some}
use Rattle.std.specs.Cmp.Lexicographic.{pointwise}
use Rattle.std.specs.List.{filter, list_all, position, starts_with}
use Rattle.std.specs.Option.{option_map, option_or}
use Rattle.fs_path.specs.Name.{Name}
use Rattle.fs_path.specs.Path.{PathValue}
use Rattle.fs_path.specs.Split.{Piece, pieces, pieces_at}
use Rattle.fs_path.specs.declared.path.PathError.{PathError}
use Rattle.fs_path.specs.declared.path.PathError.TheVariants as error

-- whether a byte is `/`
abbrev pub is_slash : ℕ → Bool
is_slash b = b == 47

-- whether two lists of bytes are the same
abbrev pub are_same : List ℕ → List ℕ → Bool
are_same = pointwise ◌==◌

-- ---- components

-- whether there are no bytes, or they are `.`
abbrev pub is_empty_or_dot : List ℕ → Bool
is_empty_or_dot bytes = are_same bytes [] || are_same bytes (46 ∷ [])

-- a component that counts: neither empty nor `.`
abbrev pub counts : Piece → Bool
counts c = not (is_empty_or_dot c.bytes)

-- the components of a text: the pieces between slashes that count
unfoldable pub components_of : List ℕ → List Piece
components_of text = filter counts (pieces_at 0 (pieces 47 text))

-- the bytes of components, in order
abbrev pub names_of : List Piece → List Name
names_of cs = map (λ c. c.bytes) cs

-- ---- faults

-- whether bytes are `..`, or a byte 0 is the first of them
abbrev pub starts_badly : List ℕ → Bool
starts_badly bytes = are_same bytes (46 ∷ 46 ∷ []) || starts_with ◌==◌ bytes (0 ∷ [])

-- the fault of a component that comes after `count` others: it is too long, it is `..` or its first byte is 0, it is one too
-- many, a later byte is 0; the first of these that holds
unfoldable pub component_fault : ℕ → Piece → Option PathError
component_fault count c =
    cond (nat_lt 63 (length c.bytes)) (Some (error.NameTooLong c.at))
    (cond (starts_badly c.bytes) (Some (error.BadByte c.at))
    (cond (nat_le 32 count) (Some error.TooDeep)
    (option_map (λ i. error.BadByte (c.at + i)) (position (λ b. b == 0) c.bytes))))

-- the first fault of components that come after `count` others
abbrev pub first_fault : ℕ → List Piece → Option PathError
first_fault count [] = None
first_fault count (c ∷ cs) = option_or (component_fault count c) (first_fault (count + 1) cs)

-- why a text is no path, if it is none
unfoldable pub path_fault : List ℕ → Option PathError
path_fault text =
    cond (length text == 0) (Some error.Empty)
    (cond (nat_lt 1023 (length text)) (Some error.TooLong)
    (first_fault 0 (components_of text)))

-- an error that reports this fault, or that memory ran out
abbrev pub Says : Option PathError → PathError → Type 0
Says fault (error.NoMemory _) = Unit {0}
Says fault e = fault ≡ Some e

-- a text is no path for this cause, if memory did not run out
abbrev pub IsNoPath : List ℕ → PathError → Type 0
IsNoPath text e = Says (path_fault text) e

-- ---- paths

-- the path that a text without a fault denotes
unfoldable pub parse_path : List ℕ → PathValue
parse_path text = record { absolute = starts_with ◌==◌ text (47 ∷ []); names = names_of (components_of text) }

-- ---- reading from the left

-- whether no byte is `/`
abbrev pub has_no_slash : List ℕ → Bool
has_no_slash bytes = list_all (λ b. not (is_slash b)) bytes

-- one component, if it counts
abbrev pub counted_component : ℕ → List ℕ → List Piece
counted_component at bytes = filter counts (record { at = at; bytes = bytes } ∷ [])
