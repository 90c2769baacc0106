-- How a text is read on by one line.
use Rattle.std.proofs.Common.{◌≡◌, ℕ, ◌+◌, List, ◌∷◌, sym, ◌∙◌, ap, subst, Some, None}
use Rattle.fs_path.specs.Split.{split_once, pieces}
use Rattle.fs_path.proofs.SplitLemmas.{pieces_some, pieces_none, pieces_first}
use Rattle.line_text.specs.declared.fault.LineFault.{LineFault}
use Rattle.line_text.specs.declared.fault.LineFault.TheVariants as cause
use Rattle.world_text.specs.declared.fault.WorldError.{WorldError}
use Rattle.world_text.specs.declared.fault.WorldError.TheVariants as error
use Rattle.world_text.specs.declared.world.WorldText.{WorldText}
use Rattle.world_text.specs.declared.expecting.Expecting.{Expecting}
use Rattle.world_text.specs.declared.expecting.Parsed.{Parsed}
use Rattle.world_text.specs.declared.expecting.Parsed.TheVariants.{Refuses, GoesOn, Begins}
use Rattle.world_text.specs.Expecting.{parse_line}
use Rattle.world_text.specs.Reading.{Reading, Accepted, Refused, Ended, after, read_lines, error_at, error_of, IsNotRead}

more_lines : (n : ℕ) (expecting : Expecting) (line : List ℕ) (ls : List (List ℕ)) (p : List ℕ) (ps : List (List ℕ)) → ls ≡ p ∷ ps → read_lines n expecting (line ∷ ls) ≡ after (parse_line expecting line) n ls (λ s. read_lines (n + 1) s ls)
unfolding read_lines
more_lines n expecting line ls p ps e =
    ap (λ (q : List (List ℕ)). read_lines n expecting (line ∷ q)) e ∙ sym (ap (λ (q : List (List ℕ)). after (parse_line expecting line) n q (λ s. read_lines (n + 1) s q)) e)

line_read : (n : ℕ) (expecting : Expecting) (text line rest : List ℕ) (parsed : Parsed) → split_once 10 text ≡ Some (line, rest) → parsed ≡ parse_line expecting line
    → read_lines n expecting (pieces 10 text) ≡ after parsed n (pieces 10 rest) (λ s. read_lines (n + 1) s (pieces 10 rest))
line_read n expecting text line rest parsed e is =
    let first = pieces_first 10 rest in
    ap (read_lines n expecting) (pieces_some 10 text line rest e) ∙ more_lines n expecting line (pieces 10 rest) first.0 first.1 first.2
    ∙ ap (λ (s : Parsed). after s n (pieces 10 rest) (λ s. read_lines (n + 1) s (pieces 10 rest))) (sym is)

pub read_on : (r : Reading) (n : ℕ) (expecting next : Expecting) (text line rest : List ℕ) (parsed : Parsed) → r ≡ read_lines n expecting (pieces 10 text) → split_once 10 text ≡ Some (line, rest) → parsed ≡ parse_line expecting line → parsed ≡ GoesOn next
    → r ≡ read_lines (n + 1) next (pieces 10 rest)
read_on r n expecting next text line rest parsed so_far e is goes =
    so_far ∙ line_read n expecting text line rest parsed e is ∙ ap (λ (s : Parsed). after s n (pieces 10 rest) (λ s. read_lines (n + 1) s (pieces 10 rest))) goes

pub read_refused : (r : Reading) (n : ℕ) (expecting : Expecting) (text line rest : List ℕ) (parsed : Parsed) (fault : LineFault) → r ≡ read_lines n expecting (pieces 10 text) → split_once 10 text ≡ Some (line, rest) → parsed ≡ parse_line expecting line → parsed ≡ Refuses fault
    → r ≡ Refused n fault
read_refused r n expecting text line rest parsed fault so_far e is refuses =
    so_far ∙ line_read n expecting text line rest parsed e is ∙ ap (λ (s : Parsed). after s n (pieces 10 rest) (λ s. read_lines (n + 1) s (pieces 10 rest))) refuses

pub read_world : (r : Reading) (n : ℕ) (expecting : Expecting) (text line rest : List ℕ) (parsed : Parsed) (world : WorldText) → r ≡ read_lines n expecting (pieces 10 text) → split_once 10 text ≡ Some (line, rest) → parsed ≡ parse_line expecting line → parsed ≡ Begins world
    → r ≡ Accepted world (n + 1) (pieces 10 rest)
read_world r n expecting text line rest parsed world so_far e is begins =
    so_far ∙ line_read n expecting text line rest parsed e is ∙ ap (λ (s : Parsed). after s n (pieces 10 rest) (λ s. read_lines (n + 1) s (pieces 10 rest))) begins

pub read_end : (r : Reading) (n : ℕ) (expecting : Expecting) (text : List ℕ) → r ≡ read_lines n expecting (pieces 10 text) → split_once 10 text ≡ None → r ≡ Ended n text
unfolding read_lines
read_end r n expecting text so_far e = so_far ∙ ap (read_lines n expecting) (pieces_none 10 text e)

-- ---- why no world is read

pub refused_for : (n : ℕ) (fault : LineFault) (e : WorldError) (r : Reading) → e ≡ error_at n fault → r ≡ Refused n fault → IsNotRead r e
refused_for n fault e r is read = subst (λ (e : WorldError). IsNotRead r e) (sym is) (by_fault fault read)
  where
    by_fault : (fault : LineFault) → r ≡ Refused n fault → IsNotRead r (error_at n fault)
    by_fault cause.UnknownName read = ap error_of read
    by_fault cause.Repeated read = ap error_of read
    by_fault cause.NoParent read = ap error_of read
    by_fault cause.LabelOrder read = ap error_of read
    by_fault cause.RootLabel read = ap error_of read
    by_fault cause.TooMany read = ap error_of read
    by_fault cause.MixedCaps read = ap error_of read
    by_fault cause.OldFormat read = ap error_of read
    by_fault _ read = ap error_of read

pub ended_for : (n : ℕ) (last : List ℕ) (r : Reading) → r ≡ Ended n last → IsNotRead r (error.Syntax n)
ended_for n last r read = ap error_of read
