-- The words of a line, one space between each and the next. A fault has the number of bytes of the line from its place on.
use Rattle.std.specs.Prelude.{◌≡◌, ℕ, ◌+◌, ◌==◌, ◌&&◌, not, nat_lt, Bool, true, false, cond, List, [], ◌∷◌, length, take, drop, Option, None, Some, Result, Ok, Err}
use Rattle.std.specs.List.{prefix_len}
use Rattle.fs_path.specs.Words.{is_space}
use Rattle.aud_record.specs.Results.{FailsBy}
use Rattle.aud_record.specs.declared.fault.Fault.{Fault}
use Rattle.aud_record.specs.declared.fault.Fault.TheVariants as fault

-- ---- where a word ends

-- how many bytes of a quoted word stand after its opening quote: it ends with the first quote that is not escaped, and a backslash that is not escaped escapes the next byte
abbrev pub quoted_len : Bool → List ℕ → ℕ
quoted_len escaped [] = 0
quoted_len escaped (b ∷ bs) = cond (b == 34 && not escaped) 1 (1 + quoted_len (b == 92 && not escaped) bs)

-- how many bytes the first word has: a quoted one ends with its closing quote, any other before the next space
unfoldable pub word_len : List ℕ → ℕ
word_len [] = 0
word_len (b ∷ bs) = cond (b == 34) (1 + quoted_len false bs) (prefix_len (λ c. not (is_space c)) (b ∷ bs))

abbrev pub first_word : List ℕ → List ℕ
first_word left = take (word_len left) left

abbrev pub after_word : List ℕ → List ℕ
after_word left = drop (word_len left) left

-- ---- reading

infixl 10 ◌>>=◌
abbrev pub ◌>>=◌ : {A B E : Type 0} → Result A E → (A → Result B E) → Result B E
(Ok x) >>= f = f x
(Err e) >>= f = Err e

-- whether a fault is that memory ran out
abbrev pub is_no_memory : Fault → Bool
is_no_memory (fault.NoMemory _) = true
is_no_memory _ = false

-- the answer of a function is the value that is read, and this is left of the line, unless memory ran out
abbrev pub Reads : {X : Type 0} → Result X Fault → Result (X × List ℕ) Fault → List ℕ → Type 0
Reads (Ok x) read left = read ≡ Ok (x, left)
Reads (Err f) read left = FailsBy is_no_memory f read

-- what stands after the space that is due
unfoldable pub after_space : List ℕ → Result (List ℕ) Fault
after_space [] = Err (fault.Syntax 0)
after_space (b ∷ bs) = cond (is_space b) (Ok bs) (Err (fault.Syntax (length (b ∷ bs))))

-- a value with which the line ends; a further word is at fault where it begins
unfoldable pub value_at_end : {X : Type 0} → X → List ℕ → Result X Fault
value_at_end x [] = Ok x
value_at_end x (b ∷ bs) = Err (fault.Syntax (cond (is_space b) (length bs) (length (b ∷ bs))))

-- the fault where the first word has no value: an unknown word where one of a list is due and a word is there
unfoldable pub fault_of : Bool → List ℕ → Fault
fault_of listed left = cond (listed && nat_lt 0 (length (first_word left))) (fault.UnknownWord (length left)) (fault.Syntax (length left))

-- the value of the first word and what stands after it
abbrev pub value_and_rest : {X : Type 0} → Bool → List ℕ → Option X → Result (X × List ℕ) Fault
value_and_rest listed left (Some x) = Ok (x, after_word left)
value_and_rest listed left None = Err (fault_of listed left)

-- the first word, where words have these values
unfoldable pub parse_word : {X : Type 0} → Bool → (List ℕ → Option X) → List ℕ → Result (X × List ℕ) Fault
parse_word listed parsed left = value_and_rest listed left (parsed (first_word left))

-- the word after a space
unfoldable pub parse_field : {X : Type 0} → Bool → (List ℕ → Option X) → List ℕ → Result (X × List ℕ) Fault
parse_field listed parsed left = after_space left >>= parse_word listed parsed
