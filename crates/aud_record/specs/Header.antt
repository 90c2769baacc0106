-- The header with which a text begins.
use Rattle.std.specs.Prelude.{ℕ, ◌+◌, ◌-◌, Bool, true, false, not, ◌&&◌, cond, List, [], ◌∷◌, ◌++◌, length, Option, None, Some, Result, Ok, Err, codes}
use Rattle.std.specs.Option.{ok_or}
use Rattle.cap_bits.specs.CapSet.{CapSet}
use Rattle.cap_clause.specs.declared.error.CapTextError.{CapTextError}
use Rattle.cap_clause.specs.declared.error.CapTextError.TheVariants as set
use Rattle.cap_clause.specs.Parsed.{parse_set}
use Rattle.cap_clause.specs.Written.{set_text}
use Rattle.fs_path.specs.Options.{keep_if}
use Rattle.fs_path.specs.Split.{split_once, pieces}
use Rattle.lab_text.specs.Lists.{all_lists, keyword_of, line_is_optional}
use Rattle.lab_text.specs.Names.{same_bytes}
use Rattle.lab_text.specs.Policy.{PolicyNames, with_names, no_names, names_fault}
use Rattle.lab_text.specs.declared.lists.NameList.{NameList}
use Rattle.lab_text.specs.declared.policy.PolicyError.{PolicyError}
use Rattle.lab_text.specs.declared.policy.PolicyError.TheVariants as names
use Rattle.line_text.specs.Words.{are_none}
use Rattle.aud_record.specs.Canonical.{after_prefix}
use Rattle.aud_record.specs.Words.{◌>>=◌}
use Rattle.aud_record.specs.Written.{header_text}
use Rattle.aud_record.specs.declared.header.Header.{Header}
use Rattle.aud_record.specs.declared.header.HeaderError.{HeaderError}
use Rattle.aud_record.specs.declared.header.HeaderError.TheVariants as error

-- ---- errors

-- whether an error is that memory ran out
abbrev pub is_no_memory : HeaderError → Bool
is_no_memory (error.NoMemory _) = true
is_no_memory _ = false

-- ---- lines

-- the words after a keyword
abbrev pub after_keyword : List ℕ → List (List ℕ) → Option (List (List ℕ))
after_keyword keyword [] = None
after_keyword keyword (w ∷ ws) = keep_if (same_bytes w keyword) ws

-- the words after the keyword of line n, with which a text begins, and the text after the line; the words have one space between them
unfoldable pub keyword_line : ℕ → List ℕ → List ℕ → Result (List (List ℕ) × List ℕ) HeaderError
keyword_line n keyword text = do
  parts ← ok_or (split_once 10 text) (error.Form n)
  words ← ok_or (after_keyword keyword (pieces 32 parts.0)) (error.Form n)
  Ok (words, parts.1)

-- what is wrong in line n, whose names make no policy
abbrev pub names_error : ℕ → PolicyError → HeaderError
names_error n names.Empty = error.Form n
names_error n names.BadName = error.Form n
names_error n names.TooMany = error.Name n
names_error n names.Repeated = error.Name n
names_error n (names.NoMemory e) = error.NoMemory e

-- names, unless they make no policy
abbrev pub names_unless : ℕ → PolicyNames → Option PolicyError → Result PolicyNames HeaderError
names_unless n p None = Ok p
names_unless n p (Some e) = Err (names_error n e)

-- names of which the last are those of line n, unless they make no policy
unfoldable pub policy_of : ℕ → PolicyNames → Result PolicyNames HeaderError
policy_of n p = names_unless n p (names_fault p)

-- names with those of a list from line n, with which a text begins, and the text after the line
unfoldable pub names_line : ℕ → NameList → PolicyNames → List ℕ → Result (PolicyNames × List ℕ) HeaderError
names_line n list p text = do
  words ← keyword_line n (keyword_of list) text
  policy ← policy_of n (with_names p list words.0)
  Ok (policy, words.1)

-- whether a keyword is what stands before the first space of a text
abbrev pub is_before : List ℕ → Option (List ℕ × List ℕ) → Bool
is_before keyword None = false
is_before keyword (Some parts) = same_bytes parts.0 keyword

-- whether a list has no line where a text begins: its line is optional, and the text does not begin with its keyword and a space
abbrev pub has_no_line : NameList → List ℕ → Bool
has_no_line list text = line_is_optional list && not (is_before (keyword_of list) (split_once 32 text))

-- names with those of a list, from line n where the list has a line, and the text after the line
unfoldable pub list_line : ℕ → NameList → PolicyNames → List ℕ → Result (PolicyNames × List ℕ) HeaderError
list_line n list p text = cond (has_no_line list text) (Ok (p, text)) (names_line n list p text)

-- names with those of some lists, each from a line of its own from line n on, and the text after these lines; the line of the last
-- list may be left out
unfoldable pub names_lines : ℕ → List NameList → PolicyNames → List ℕ → Result (PolicyNames × List ℕ) HeaderError
names_lines n [] p text = Ok (p, text)
names_lines n (list ∷ lists) p text = do
  first ← list_line n list p text
  names_lines (n + 1) lists first.0 first.1

-- the number of the last line, that of the bound, which comes after the lines of names
abbrev pub bound_number : PolicyNames → ℕ
bound_number p = cond (are_none p.grades) 4 5

-- what is wrong in line n, which denotes no set
abbrev pub set_error : ℕ → CapTextError → HeaderError
set_error n (set.UnknownName at) = error.Name n
set_error n _ = error.Form n

-- the set of line n, where a word is its canonical text
abbrev pub canonical_set : ℕ → List ℕ → Result CapSet CapTextError → Result CapSet HeaderError
canonical_set n word (Ok bound) = cond (same_bytes (set_text bound) word) (Ok bound) (Err (error.Form n))
canonical_set n word (Err e) = Err (set_error n e)

-- the set of which the only word of line n is the canonical text
unfoldable pub bound_of : ℕ → List (List ℕ) → Result CapSet HeaderError
bound_of n [] = Err (error.Form n)
bound_of n (word ∷ []) = canonical_set n word (parse_set word)
bound_of n (word ∷ other ∷ words) = Err (error.Form n)

-- ---- the header

-- the text after the first line, which is the format
unfoldable pub format_line : List ℕ → Result (List ℕ) HeaderError
format_line text = ok_or (after_prefix (codes "trail 1" ++ 10 ∷ []) text) (error.Form 1)

-- the policy and the bound whose header a text begins with, or which line is at fault
unfoldable pub parse_header : List ℕ → Result Header HeaderError
parse_header text = do
  first ← format_line text
  names ← names_lines 2 all_lists no_names first
  words ← keyword_line (bound_number names.0) (codes "bound") names.1
  bound ← bound_of (bound_number names.0) words.0
  Ok (record { policy = names.0; bound = bound; used = length text - length words.1 })

-- what is read of the header of this policy and this bound
abbrev pub header_of : PolicyNames → CapSet → Header
header_of policy bound = record { policy = policy; bound = bound; used = length (header_text policy bound) }
