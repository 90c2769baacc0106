-- A whole trail: its header, and a record in each line after it.
use Rattle.std.specs.Prelude.{◌≡◌, ℕ, ◌+◌, ◌≤◌, ◌==◌, ⊤, nat_le, nat_lt, Bool, true, false, cond, List, [], ◌∷◌, ◌++◌, length, drop, count_by, Result, Ok, Err}
use Rattle.std.specs.List.{All, flat_map}
use Rattle.fs_path.specs.Split.{pieces}
use Rattle.lab_text.specs.Policy.{PolicyNames, MakePolicy}
use Rattle.aud_record.specs.Fits.{has_valid_labels}
use Rattle.aud_record.specs.Header.{bound_number, parse_header}
use Rattle.aud_record.specs.Parsed.{parse_line, line_read}
use Rattle.aud_record.specs.Words.{◌>>=◌}
use Rattle.aud_record.specs.Written.{header_text, rec_text}
use Rattle.aud_record.specs.declared.header.Header.{Header}
use Rattle.aud_record.specs.declared.header.HeaderError.{HeaderError}
use Rattle.aud_record.specs.declared.header.HeaderError.TheVariants as header
use Rattle.aud_record.specs.declared.reading.ReadRec.{ReadRec}
use Rattle.aud_record.specs.declared.reading.RecError.{RecError}
use Rattle.aud_record.specs.declared.reading.RecError.TheVariants as rec
use Rattle.aud_red.specs.declared.trail.Trail.{Trail}
use Rattle.aud_red.specs.declared.trail.TrailError.{TrailError}
use Rattle.aud_red.specs.declared.trail.TrailError.TheVariants as error

-- ---- the text of a trail

-- the lines of records
abbrev pub recs_text : PolicyNames → List ReadRec → List ℕ
recs_text p recs = flat_map (λ (r : ReadRec). rec_text p r.call r.rec) recs

-- the header of a policy and a bound, and the lines of the records
unfoldable pub trail_text : Trail → List ℕ
trail_text t = header_text t.policy t.bound ++ recs_text t.policy t.recs

-- the labels of a record are valid in the policy, and it has the number of bytes of its line
pub record IsRecOf (p : PolicyNames) (r : ReadRec) : Type 0 where
  pub labels : has_valid_labels p r.rec ≡ true
  pub used : r.used ≡ length (rec_text p r.call r.rec)

-- the call numbers of records never fall, and the first is not below a number
abbrev pub NeverFall : ℕ → List ReadRec → Type 0
NeverFall low [] = ⊤
NeverFall low (r ∷ rs) = (low ≤ r.call) × NeverFall r.call rs

-- a text is that of a trail: its names make a policy, the labels of its records are valid, and their call numbers never fall
pub record IsTextOf (text : List ℕ) (t : Trail) : Type 0 where
  pub names : MakePolicy t.policy
  pub whole : text ≡ trail_text t
  pub recs : All (IsRecOf t.policy) t.recs
  pub order : NeverFall 0 t.recs

-- ---- the trail of a text, or the first line at fault

-- whether an error is that memory ran out
abbrev pub is_no_memory : TrailError → Bool
is_no_memory (error.NoMemory _) = true
is_no_memory _ = false

-- what is wrong in line n of a text, which is no line of a header: the text ends in it where it has fewer line feeds
abbrev pub line_error : List ℕ → ℕ → TrailError
line_error text n = cond (nat_lt (count_by (λ b. b == 10) text) n) (error.Unended n) (error.Header n)

-- what is wrong in a text that does not begin with a header
abbrev pub header_error : List ℕ → HeaderError → TrailError
header_error text (header.Form n) = line_error text n
header_error text (header.Name n) = line_error text n
header_error text (header.NoMemory e) = error.NoMemory e

-- the header of a text, or what is wrong in it
abbrev pub header_or : List ℕ → Result Header HeaderError → Result Header TrailError
header_or text (Ok h) = Ok h
header_or text (Err e) = Err (header_error text e)

-- what is wrong in line n, which is no record
abbrev pub rec_error : ℕ → RecError → TrailError
rec_error n rec.Truncated = error.Unended n
rec_error n (rec.NoMemory e) = error.NoMemory e
rec_error n _ = error.Record n

-- the record of line n, where the number of its call is not below the one before
abbrev pub rec_from : ℕ → ℕ → Result ReadRec RecError → Result ReadRec TrailError
rec_from n low (Ok r) = cond (nat_le low r.call) (Ok r) (Err (error.Record n))
rec_from n low (Err e) = Err (rec_error n e)

-- no record, where nothing stands in the last line, n, after which there is no line feed
abbrev pub text_end : ℕ → List ℕ → Result (List ReadRec) TrailError
text_end n [] = Ok []
text_end n (b ∷ bs) = Err (error.Unended n)

-- the records of lines from line n on, after a call number; these are the pieces of a text between line feeds
unfoldable pub parse_recs : PolicyNames → ℕ → ℕ → List (List ℕ) → Result (List ReadRec) TrailError
parse_recs p n low [] = Ok []
parse_recs p n low (last ∷ []) = text_end n last
parse_recs p n low (line ∷ next ∷ more) = do
  r ← rec_from n low (line_read (length line) (parse_line p line))
  rs ← parse_recs p (n + 1) r.call (next ∷ more)
  Ok (r ∷ rs)

-- the trail that a text is, or its first line at fault
unfoldable pub parse_trail : List ℕ → Result Trail TrailError
parse_trail text = do
  h ← header_or text (parse_header text)
  recs ← parse_recs h.policy (bound_number h.policy + 1) 0 (pieces 10 (drop h.used text))
  Ok (record { policy = h.policy; bound = h.bound; recs = recs })
