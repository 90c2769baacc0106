-- What is written of a trail whose records may follow one another or not.
use Rattle.std.specs.Prelude.{◌≡◌, ◌⊎◌, ℕ, ◌+◌, List, [], ◌∷◌, ◌++◌, length, codes}
use Rattle.std.specs.Fmt.{decimal}
use Rattle.fs_path.specs.Words.{line_text}
use Rattle.aud_record.specs.Header.{bound_number}
use Rattle.aud_red.specs.declared.lineage.Lineage.{Lineage}
use Rattle.aud_red.specs.declared.lineage.Lineage.TheVariants.{Yes, No}
use Rattle.aud_red.specs.declared.trail.Trail.{Trail}
use Rattle.aud_red.specs.declared.lineage.Why.{Why}
use Rattle.aud_red.specs.Lineage.{FailsAt, lineage_of, recs_of, why_word}
use Rattle.aud_red.specs.Trail.{IsTextOf}
use Rattle.iso_laws.specs.Follows.{AllFollow}
use Rattle.lab_engine.specs.declared.ending.InputEnd.{InputEnd}
use Rattle.lab_engine.specs.declared.ending.InputEnd.TheVariants.{Whole}
use Rattle.lab_engine.specs.Texts.{last_text}
use Rattle.labsys.specs.declared.trails.ReadTrail.{ReadTrail}
use Rattle.labsys.specs.declared.trails.ReadTrail.TheVariants as read_is

-- the words of an answer, for a trail with so many lines before its records and so many records: `yes COUNT`, or
-- `no LINE WORD` with the line of the first record that may not come where it stands
abbrev pub lineage_words : (head count : ℕ) → Lineage → List (List ℕ)
lineage_words head count Yes = codes "yes" ∷ decimal count ∷ []
lineage_words head count (No at why) = codes "no" ∷ decimal (head + at + 1) ∷ why_word why ∷ []

unfoldable pub lineage_line : (head count : ℕ) → Lineage → List ℕ
lineage_line head count l = line_text (lineage_words head count l) ++ 10 ∷ []

-- the line of a trail for an answer
abbrev pub line_for : Trail → Lineage → List ℕ
line_for t l = lineage_line (bound_number t.policy) (length t.recs) l

-- the line of a trail
abbrev pub lineage_text : Trail → List ℕ
lineage_text t = line_for t (lineage_of t.bound (recs_of t))

-- what is written of an input; without a trail it is the last line alone
abbrev pub text_of_lineage : ReadTrail → List ℕ
text_of_lineage (read_is.Trail t) = lineage_text t
text_of_lineage (read_is.Ended ending) = last_text 0 ending

-- how an input ends
abbrev pub ending_of_lineage : ReadTrail → InputEnd
ending_of_lineage (read_is.Trail t) = Whole
ending_of_lineage (read_is.Ended ending) = ending

-- ---- what the line says

-- `yes` and the number of records is written of a trail, and each of them may come after those before it
pub record SaysYes (t : Trail) (out : List ℕ) : Type 0 where
  pub line : out ≡ line_for t Yes
  pub follow : AllFollow t.bound (recs_of t)

-- `no` is written of a trail with the line of a record and a reason, and the record is the first that may not come
-- after those before it, for this reason
pub record SaysNo (t : Trail) (out : List ℕ) : Type 0 where
  pub at : ℕ
  pub why : Why
  pub line : out ≡ line_for t (No at why)
  pub fails : FailsAt t.bound (recs_of t) at why

-- bytes are those of a trail, and what is written says whether its records may follow one another
pub record SaysLineage (text out : List ℕ) : Type 0 where
  pub trail : Trail
  pub text_is : IsTextOf text trail
  pub says : SaysYes trail out ⊎ SaysNo trail out
