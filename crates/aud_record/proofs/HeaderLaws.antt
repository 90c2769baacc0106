-- The round trip of a header, and that a text whose header is read begins with it.
use Rattle.std.specs.Prelude.{◌≡◌, ℕ, ◌-◌, List, [], ◌∷◌, ◌++◌, length, take, Result, Ok, codes}
use Rattle.std.proofs.Common.{ap, sym, subst, ◌∙◌, arith, append_assoc}
use Rattle.std.proofs.lemmas.List.{length-append, take_at}
use Rattle.cap_bits.specs.CapSet.{CapSet}
use Rattle.lab_text.specs.Lists.{all_lists}
use Rattle.lab_text.specs.Names.{Names}
use Rattle.lab_text.specs.Policy.{PolicyNames, no_names, MakePolicy}
use Rattle.lab_text.specs.declared.lists.NameList.TheVariants.{Levels, Categories, Grades}
use Rattle.aud_record.proofs.FormLaws.{bound_is}
use Rattle.aud_record.proofs.HeaderLines.{format_is, format_round_trip, line_for, lines_for, names_are, names_round_trip, bound_text, bound_no_grades, bound_are, set_made, bound_round_trip}
use Rattle.aud_record.specs.Header.{format_line, names_lines, keyword_line, bound_number, bound_of, parse_header}
use Rattle.aud_record.specs.Words.{◌>>=◌}
use Rattle.aud_record.specs.Written.{line_of, header_text}
use Rattle.aud_record.specs.declared.header.Header.{Header}
use Rattle.aud_record.specs.declared.header.HeaderError.{HeaderError}

-- ---- the lines one after another

abbrev trail_line : List ℕ
trail_line = line_of (codes "trail" ∷ codes "1" ∷ [])

-- the text of the lines, and what stands after them
abbrev lines : PolicyNames → CapSet → List ℕ → List ℕ
lines p bound rest = trail_line ++ lines_for p (bound_text bound ++ rest)

-- three lines and more before a rest
three_lines : (a b c more rest : List ℕ) → (a ++ (b ++ (c ++ more))) ++ rest ≡ a ++ (b ++ (c ++ (more ++ rest)))
three_lines a b c more rest = append_assoc a (b ++ (c ++ more)) rest ∙ ap (λ (t : List ℕ). a ++ t) (append_assoc b (c ++ more) rest ∙ ap (λ (t : List ℕ). b ++ t) (append_assoc c more rest))

by_lines : (p : PolicyNames) (bound : CapSet) (rest : List ℕ) → header_text p bound ++ rest ≡ lines p bound rest
unfolding header_text
by_lines p bound rest = by_grades p.grades
  where
    named : Names → PolicyNames
    named grades = record p { grades = grades }

    by_grades : (grades : Names) → header_text (named grades) bound ++ rest ≡ lines (named grades) bound rest
    by_grades [] = three_lines trail_line (line_for Levels p.levels) (line_for Categories p.cats) (bound_text bound ++ []) rest ∙ ap (λ (t : List ℕ). trail_line ++ (line_for Levels p.levels ++ (line_for Categories p.cats ++ t))) (append_assoc (bound_text bound) [] rest)
    by_grades (name ∷ names) =
        let grades = line_for Grades (name ∷ names) in
        three_lines trail_line (line_for Levels p.levels) (line_for Categories p.cats) (grades ++ (bound_text bound ++ [])) rest
        ∙ ap (λ (t : List ℕ). trail_line ++ (line_for Levels p.levels ++ (line_for Categories p.cats ++ t))) (append_assoc grades (bound_text bound ++ []) rest ∙ ap (λ (t : List ℕ). grades ++ t) (append_assoc (bound_text bound) [] rest))

-- how many bytes stand before a rest
used_is : (text xs rest : List ℕ) → xs ++ rest ≡ text → length text - length rest ≡ length xs
used_is text xs rest h = let size = length-append xs rest in let same = ap length h in omega (arith, size, same)

-- ---- how they are read

abbrev from_words : List ℕ → PolicyNames → List (List ℕ) × List ℕ → Result Header HeaderError
from_words text p x = bound_of (bound_number p) x.0 >>= λ bound. Ok (record { policy = p; bound = bound; used = length text - length x.1 })

abbrev from_policy : List ℕ → PolicyNames × List ℕ → Result Header HeaderError
from_policy text x = keyword_line (bound_number x.0) (codes "bound") x.1 >>= from_words text x.0

abbrev from_format : List ℕ → List ℕ → Result Header HeaderError
from_format text rest = names_lines 2 all_lists no_names rest >>= from_policy text

-- a text that begins with the header of a policy that can be made is read as that header
pub header_round_trip : (p : PolicyNames) (bound : CapSet) (rest : List ℕ) → MakePolicy p → parse_header (header_text p bound ++ rest) ≡ Ok (record { policy = p; bound = bound; used = length (header_text p bound) })
unfolding parse_header
header_round_trip p bound rest h =
    let text = lines p bound rest in
    let last = bound_text bound ++ rest in
    ap parse_header (by_lines p bound rest)
    ∙ ap (λ (r : Result (List ℕ) HeaderError). r >>= from_format text) (format_round_trip (lines_for p last))
    ∙ ap (λ (r : Result (PolicyNames × List ℕ) HeaderError). r >>= from_policy text) (names_round_trip p last h (bound_no_grades bound rest))
    ∙ ap (λ (r : Result (List (List ℕ) × List ℕ) HeaderError). r >>= from_words text p) (bound_round_trip (bound_number p) bound rest)
    ∙ ap (λ (r : Result CapSet HeaderError). r >>= λ bound. Ok (record { policy = p; bound = bound; used = length text - length rest })) (set_made (bound_number p) bound)
    ∙ ap (λ (n : ℕ). Ok (record { policy = p; bound = bound; used = n })) (used_is text (header_text p bound) rest (by_lines p bound rest))

-- a text begins with the header of a policy that can be made
pub record BeginsWith (text : List ℕ) (header : Header) : Type 0 where
  pub fine : MakePolicy header.policy
  pub prefix : take header.used text ≡ header_text header.policy header.bound

begins : (text : List ℕ) (p : PolicyNames) (bound : CapSet) (rest : List ℕ) (header : Header) → MakePolicy p → text ≡ lines p bound rest → record { policy = p; bound = bound; used = length text - length rest } ≡ header → BeginsWith text header
begins text p bound rest header fine h same =
    let whole : text ≡ header_text p bound ++ rest = h ∙ sym (by_lines p bound rest) in
    let used = length text - length rest in
    subst (BeginsWith text) same (record { fine = fine; prefix = ap (take used) whole ∙ take_at (header_text p bound) rest used (sym (used_is text (header_text p bound) rest (sym whole))) })

pub header_is : (text : List ℕ) (header : Header) → parse_header text ≡ Ok header → BeginsWith text header
unfolding parse_header
header_is text header h =
    let first = bound_is (format_line text) (from_format text) header h in
    let second = bound_is (names_lines 2 all_lists no_names first.0) (from_policy text) header first.2 in
    let last = bound_is (keyword_line (bound_number second.0.0) (codes "bound") second.0.1) (from_words text second.0.0) header second.2 in
    let set = bound_is (bound_of (bound_number second.0.0) last.0.0) (λ bound. Ok (record { policy = second.0.0; bound = bound; used = length text - length last.0.1 })) header last.2 in
    let names = names_are second.0.0 first.0 second.0.1 second.1 in
    let last_line = bound_are (bound_number second.0.0) second.0.1 last.0.1 last.0.0 set.0 last.1 set.1 in
    begins text second.0.0 set.0 last.0.1 header names.fine
    (format_is text first.0 first.1 ∙ ap (λ (t : List ℕ). trail_line ++ t) (names.begins ∙ ap (lines_for second.0.0) last_line)) (cc)
