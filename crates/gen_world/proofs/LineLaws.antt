-- The lines of the generated text.
use Rattle.std.proofs.Common.{◌≡◌, ℕ, ◌+◌, ◌%◌, ◌<◌, ◌≤◌, ◌&&◌, ◌==◌, not, nat_le, true, false, Bool, zero, suc, List, [], ◌∷◌, ◌++◌, length, map, codes, refl, ap, ◌∙◌, append_assoc, length-append, arith}
use Rattle.std.specs.Fmt.{decimal}
use Rattle.std.specs.List.{concat, list_all, slice_split, All}
use Rattle.std.proofs.lemmas.Bool.{and_parts, leb-true, ne_eqb, not-true}
use Rattle.std.proofs.lemmas.Fmt.{decimal_by_steps, length-decimal-le}
use Rattle.std.proofs.lemmas.List.Elements.{All-nil, All-cons, All-head, All-tail, All-append}
use Rattle.std.proofs.lemmas.List.Splits.{slice_split_at}
use Rattle.gen_world.specs.declared.call.Action.{Action}
use Rattle.gen_world.specs.declared.call.Action.TheVariants.{Mkdir, Open, Close, Write, Read, Stat, Unlink, Readdir}
use Rattle.gen_world.specs.declared.call.Call.{Call}
use Rattle.gen_world.specs.Calls.{call_line, call_of, directory_path, with_line_feed, file_path, words_of}
use Rattle.gen_world.specs.Text.{gen_lines, gen_text, head_lines, lines_after, step}

abbrev pub NoLineFeed : List ℕ → Type 0
NoLineFeed text = All (λ b. (b == 10) ≡ false) text

-- no byte of a text is a line feed, and it has at most so many bytes
pub record Fits (most : ℕ) (text : List ℕ) : Type 0 where
  pub one_line : NoLineFeed text
  pub short : length text ≤ most

abbrev fits : ℕ → List ℕ → Bool
fits most text = list_all (λ b. not (b == 10)) text && nat_le (length text) most

without_line_feed : (text : List ℕ) → list_all (λ b. not (b == 10)) text ≡ true → NoLineFeed text
without_line_feed [] all = All-nil (λ b. (b == 10) ≡ false)
without_line_feed (b ∷ bs) all =
    let parts = and_parts (not (b == 10)) (list_all (λ c. not (c == 10)) bs) all in
    All-cons (λ b. (b == 10) ≡ false) b bs (not-true (b == 10) parts.0) (without_line_feed bs parts.1)

fits-true : (most : ℕ) (text : List ℕ) → fits most text ≡ true → Fits most text
fits-true most text test =
    let parts = and_parts (list_all (λ b. not (b == 10)) text) (nat_le (length text) most) test in
    record { one_line = without_line_feed text parts.0; short = leb-true (length text) most parts.1 }

wider : (m n : ℕ) (text : List ℕ) → m ≤ n → Fits m text → Fits n text
wider m n text le fits = record { one_line = fits.one_line; short = omega (arith, le, fits.short) }

fits_append : (m n : ℕ) (xs ys : List ℕ) → Fits m xs → Fits n ys → Fits (m + n) (xs ++ ys)
fits_append m n xs ys first rest = record {
  one_line = All-append (λ b. (b == 10) ≡ false) xs ys first.one_line rest.one_line;
  short = rw (length-append xs ys) (omega (arith, first.short, rest.short));
}

digit_fits : (n : ℕ) → n < 10 → NoLineFeed ((48 + n) ∷ [])
digit_fits n small = All-cons (λ b. (b == 10) ≡ false) (48 + n) [] (ne_eqb (48 + n) 10 (λ is. omega arith)) (All-nil (λ b. (b == 10) ≡ false))

number_fits : (n : ℕ) → n < 16 → Fits 2 (decimal n)
number_fits n small = record {
  one_line = decimal_by_steps (λ m ds. NoLineFeed ds) digit_fits (λ m ds high all. All-append (λ b. (b == 10) ≡ false) ds ((48 + m % 10) ∷ []) all (digit_fits (m % 10) (omega arith))) n (omega arith);
  short = length-decimal-le 2 n (omega arith) (omega arith) (omega arith);
}

-- ---- calls

directory_fits : (call : Call) → call.directory < 16 → Fits 8 (directory_path call)
directory_fits call small = wider 4 8 (directory_path call) (omega arith) (fits_append 2 2 (codes "/d") (decimal call.directory) (fits-true 2 (codes "/d") refl) (number_fits call.directory small))

file_fits : (call : Call) → call.directory < 16 → call.file < 16 → Fits 8 (file_path call)
file_fits call directory file =
    let start = fits_append 2 2 (codes "/d") (decimal call.directory) (fits-true 2 (codes "/d") refl) (number_fits call.directory directory) in
    let middle = fits_append 4 2 (directory_path call) (codes "/f") start (fits-true 2 (codes "/f") refl) in
    fits_append 6 2 (directory_path call ++ codes "/f") (decimal call.file) middle (number_fits call.file file)

descriptor_fits : (call : Call) → call.file < 16 → Fits 8 (decimal call.file)
descriptor_fits call file = wider 2 8 (decimal call.file) (omega arith) (number_fits call.file file)

two_fit : (word value : List ℕ) → fits 8 word ≡ true → Fits 8 value → Fits 25 (word ++ value)
two_fit word value a b = wider 16 25 (word ++ value) (omega arith) (fits_append 8 8 word value (fits-true 8 word a) b)

three_fit : (word value rest : List ℕ) → fits 8 word ≡ true → Fits 8 value → fits 9 rest ≡ true → Fits 25 (word ++ value ++ rest)
three_fit word value rest a b c = fits_append 16 9 (word ++ value) rest (fits_append 8 8 word value (fits-true 8 word a) b) (fits-true 9 rest c)

words_fit : (action : Action) (call : Call) → call.directory < 16 → call.file < 16 → Fits 25 (words_of action call)
words_fit Mkdir call directory file = three_fit (codes "mkdir ") (file_path call) (codes " 0755") refl (file_fits call directory file) refl
words_fit Open call directory file = three_fit (codes "open ") (file_path call) (codes " rwc 0644") refl (file_fits call directory file) refl
words_fit Close call directory file = two_fit (codes "close ") (decimal call.file) refl (descriptor_fits call file)
words_fit Write call directory file = three_fit (codes "write ") (decimal call.file) (codes " \"x\"") refl (descriptor_fits call file) refl
words_fit Read call directory file = three_fit (codes "read ") (decimal call.file) (codes " 8") refl (descriptor_fits call file) refl
words_fit Stat call directory file = two_fit (codes "stat ") (file_path call) refl (file_fits call directory file)
words_fit Unlink call directory file = two_fit (codes "unlink ") (file_path call) refl (file_fits call directory file)
words_fit Readdir call directory file = two_fit (codes "readdir ") (directory_path call) refl (directory_fits call directory)

call_fits : (call : Call) → call.level < 16 → call.directory < 16 → call.file < 16 → Fits 32 (call_line call)
call_fits call level directory file =
    let start = fits_append 3 2 (codes "1@l") (decimal call.level) (fits-true 3 (codes "1@l") refl) (number_fits call.level level) in
    let tag = fits_append 5 1 (codes "1@l" ++ decimal call.level) (codes " ") start (fits-true 1 (codes " ") refl) in
    wider 31 32 (call_line call) (omega arith) (fits_append 6 25 (codes "1@l" ++ decimal call.level ++ codes " ") (words_of call.action call) tag (words_fit call.action call directory file))

-- ---- the text

all_fit : (lines : List (List ℕ)) → list_all (fits 32) lines ≡ true → All (Fits 32) lines
all_fit [] test = All-nil (Fits 32)
all_fit (line ∷ lines) test =
    let parts = and_parts (fits 32 line) (list_all (fits 32) lines) test in
    All-cons (Fits 32) line lines (fits-true 32 line parts.0) (all_fit lines parts.1)

lines_fit : (left number : ℕ) → All (Fits 32) (lines_after left number)
unfolding lines_after
lines_fit zero number = All-nil (Fits 32)
lines_fit (suc more) number = All-cons (Fits 32) (call_line (call_of (step number))) (lines_after more (step number)) (call_fits (call_of (step number)) (omega arith) (omega arith) (omega arith)) (lines_fit more (step number))

-- no line has a line feed, and each has at most 32 bytes
pub gen_lines_fit : (n : ℕ) → All (Fits 32) (gen_lines n)
gen_lines_fit n = All-append (Fits 32) head_lines (lines_after n n) (all_fit head_lines refl) (lines_fit n n)

split_ended : (lines : List (List ℕ)) → All (Fits 32) lines → slice_split (λ b. b == 10) (concat (map with_line_feed lines)) ≡ lines ++ [] ∷ []
split_ended [] all = refl
split_ended (line ∷ lines) all =
    ap (slice_split (λ b. b == 10)) (append_assoc line (10 ∷ []) (concat (map with_line_feed lines)))
    ∙ slice_split_at (λ b. b == 10) line 10 (concat (map with_line_feed lines)) (All-head (Fits 32) line lines all).one_line refl
    ∙ ap (λ ls. line ∷ ls) (split_ended lines (All-tail (Fits 32) line lines all))

-- the text, split at its line feeds, is its lines and an empty piece
pub gen_text_split : (n : ℕ) → slice_split (λ b. b == 10) (gen_text n) ≡ gen_lines n ++ [] ∷ []
unfolding gen_text
gen_text_split n = split_ended (gen_lines n) (gen_lines_fit n)
