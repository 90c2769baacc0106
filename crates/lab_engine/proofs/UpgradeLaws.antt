-- What an input is after an upgrade.
use Rattle.std.proofs.Common.{◌≡◌, ◌==◌, ℕ, ◌+◌, ◌≤◌, Bool, true, false, cond, List, [], ◌∷◌, ◌++◌, length, take, refl, sym, ◌∙◌, ap, subst, append_assoc, Some}
use Rattle.std.specs.Prelude.{nat_lt}
use Rattle.std.specs.List.{join_with_byte, onto_first}
use Rattle.std.proofs.lemmas.Bool.{eqb-true, le-ltb, ltb-false}
use Rattle.std.proofs.lemmas.List.{take_all}
use Rattle.std.proofs.lemmas.List.Splits.{join_with_byte-slice_split}
use Rattle.fs_path.specs.Split.{pieces}
use Rattle.fs_path.specs.declared.words.TheConstants.{MAX_LINE}
use Rattle.fs_path.proofs.SplitLemmas.{pieces_first}
use Rattle.kern_model.specs.declared.limits.TheConstants.{MAX_INPUT}
use Rattle.line_text.specs.declared.fault.LineFault.TheVariants as fault
use Rattle.world_text.specs.declared.expecting.Expecting.{Expecting}
use Rattle.world_text.specs.declared.expecting.Expecting.TheVariants as at
use Rattle.world_text.specs.declared.expecting.Parsed.{Parsed}
use Rattle.world_text.specs.declared.expecting.Parsed.TheVariants.{Refuses, GoesOn, Begins}
use Rattle.world_text.specs.declared.format.Format.TheVariants.{One, Two}
use Rattle.world_text.specs.declared.world.WorldText.{WorldText}
use Rattle.world_text.specs.CanBeRead.{HasShortLines}
use Rattle.world_text.specs.Expecting.{parse_line}
use Rattle.world_text.specs.Reading.{Reading, Accepted as AcceptedWorld, Refused as Stopped, Ended, after, read_lines, read_text}
use Rattle.world_text.specs.Written.{next_number, text_of_world}
use Rattle.lab_engine.specs.declared.ending.InputEnd.{InputEnd}
use Rattle.lab_engine.specs.declared.ending.InputEnd.TheVariants.{Whole, Refused, TooMuch}
use Rattle.lab_engine.specs.declared.ending.Part.TheVariants as part
use Rattle.lab_engine.specs.Input.{Accepted, Input, Begun, HasWorld, NoWorld, ScriptLines, begun_by, begun_in, input_from, input_in, input_of, lines_from, old_input_of, script_of, takes_all}
use Rattle.lab_engine.specs.UpgradeInput.{refuses_mixed, text_of_lines, upgrade_by, upgrade_in, upgrade_of}
use Rattle.lab_engine.specs.Upgrading.{ReadsBack, UpgradedTo}
use Rattle.lab_engine.proofs.TakenLines.{IsTaken, all_taken}

-- ---- pieces

-- a text of which one piece has others after it
record Cut (t l : List ℕ) (ps : List (List ℕ)) : Type 0 where
  rest : List ℕ
  text_is : t ≡ l ++ 10 ∷ rest
  pieces_are : pieces 10 rest ≡ ps
  again : (x : List ℕ) → pieces 10 (l ++ 10 ∷ x) ≡ l ∷ pieces 10 x

cut : (t l p : List ℕ) (ps : List (List ℕ)) → pieces 10 t ≡ l ∷ p ∷ ps → Cut t l (p ∷ ps)
cut [] l p ps e = absurd (cc)
cut (x ∷ t) l p ps e = by_test (λ q h. cut t q p ps h) (x == 10) refl e
  where
    by_test : ((q : List ℕ) → pieces 10 t ≡ q ∷ p ∷ ps → Cut t q (p ∷ ps)) → (v : Bool) → (x == 10) ≡ v → cond v ([] ∷ pieces 10 t) (onto_first x (pieces 10 t)) ≡ l ∷ p ∷ ps → Cut (x ∷ t) l (p ∷ ps)
    by_test later true is e =
        let none : [] ≡ l = cc in
        let byte : x ≡ 10 = eqb-true x 10 is in
        subst (λ (l : List ℕ). Cut (x ∷ t) l (p ∷ ps)) none (record { rest = t; text_is = ap (λ b. b ∷ t) byte; pieces_are = cc; again = λ y. refl })
    by_test later false is e =
        let first = pieces_first 10 t in
        let whole : (x ∷ first.0) ∷ first.1 ≡ l ∷ p ∷ ps = sym (ap (onto_first x) first.2) ∙ e in
        let begins : x ∷ first.0 ≡ l = cc in
        let tails : first.1 ≡ p ∷ ps = cc in
        let more = later first.0 (first.2 ∙ ap (λ (qs : List (List ℕ)). first.0 ∷ qs) tails) in
        subst (λ (l : List ℕ). Cut (x ∷ t) l (p ∷ ps)) begins (record {
          rest = more.rest;
          text_is = ap (λ (r : List ℕ). x ∷ r) more.text_is;
          pieces_are = more.pieces_are;
          again = λ y. ap (λ v. cond v ([] ∷ pieces 10 (first.0 ++ 10 ∷ y)) (onto_first x (pieces 10 (first.0 ++ 10 ∷ y)))) is ∙ ap (onto_first x) (more.again y);
        })

-- a text of one piece is that piece
one_piece : (t l : List ℕ) → pieces 10 t ≡ l ∷ [] → t ≡ l
one_piece t l e = sym (join_with_byte-slice_split 10 t) ∙ ap (join_with_byte 10) e

-- ---- the world

-- a line before others
pub step : (n : ℕ) (e : Expecting) (line p : List ℕ) (ps : List (List ℕ)) → read_lines n e (line ∷ p ∷ ps) ≡ after (parse_line e line) n (p ∷ ps) (λ next. read_lines (n + 1) next (p ∷ ps))
unfolding read_lines
step n e line p ps = refl

pub ended : (n : ℕ) (e : Expecting) (last : List ℕ) → read_lines n e (last ∷ []) ≡ Ended n last
unfolding read_lines
ended n e last = refl

pub nothing : (n : ℕ) (e : Expecting) → read_lines n e [] ≡ Ended n []
unfolding read_lines
nothing n e = refl

-- what stands behind the line `script` of a text
pub record Behind (t : List ℕ) (ps : List (List ℕ)) : Type 0 where
  pub head : List ℕ
  pub rest : List ℕ
  pub text_is : t ≡ head ++ rest
  pub pieces_are : ps ≡ pieces 10 rest

pub behind : (qs : List (List ℕ)) (t : List ℕ) (n : ℕ) (e : Expecting) (w : WorldText) (m : ℕ) (ps : List (List ℕ)) → pieces 10 t ≡ qs → read_lines n e qs ≡ AcceptedWorld w m ps → Behind t ps
behind [] t n e w m ps is read = let no = sym (nothing n e) ∙ read in absurd (cc)
behind (l ∷ []) t n e w m ps is read = let no = sym (ended n e l) ∙ read in absurd (cc)
behind (l ∷ p ∷ qs) t n e w m ps is read =
    let c = cut t l p qs is in
    let text_is : t ≡ (l ++ 10 ∷ []) ++ c.rest = c.text_is ∙ sym (append_assoc l (10 ∷ []) c.rest) in
    by_parsed c (λ next h. behind (p ∷ qs) c.rest (n + 1) next w m ps c.pieces_are h) text_is (parse_line e l) (sym (step n e l p qs) ∙ read)
  where
    by_parsed : (c : Cut t l (p ∷ qs)) → ((next : Expecting) → read_lines (n + 1) next (p ∷ qs) ≡ AcceptedWorld w m ps → Behind c.rest ps) → t ≡ (l ++ 10 ∷ []) ++ c.rest → (r : Parsed) → after r n (p ∷ qs) (λ next. read_lines (n + 1) next (p ∷ qs)) ≡ AcceptedWorld w m ps → Behind t ps
    by_parsed c later text_is (Refuses why) h = absurd (cc)
    by_parsed c later text_is (GoesOn next) h =
        let more = later next h in
        record {
          head = (l ++ 10 ∷ []) ++ more.head;
          rest = more.rest;
          text_is = text_is ∙ ap (λ (r : List ℕ). (l ++ 10 ∷ []) ++ r) more.text_is ∙ sym (append_assoc (l ++ 10 ∷ []) more.head more.rest);
          pieces_are = more.pieces_are;
        }
    by_parsed c later text_is (Begins v) h =
        let same : p ∷ qs ≡ ps = cc in
        record { head = l ++ 10 ∷ []; rest = c.rest; text_is = text_is; pieces_are = sym same ∙ sym c.pieces_are }

-- a text that is a world with no script after it is read as that world, whatever comes after it
pub with_rest : (qs : List (List ℕ)) (t : List ℕ) (n : ℕ) (e : Expecting) (w : WorldText) (m : ℕ) (rest : List ℕ) → pieces 10 t ≡ qs → read_lines n e qs ≡ AcceptedWorld w m ([] ∷ [])
    → read_lines n e (pieces 10 (t ++ rest)) ≡ AcceptedWorld w m (pieces 10 rest)
with_rest [] t n e w m rest is read = let no = sym (nothing n e) ∙ read in absurd (cc)
with_rest (l ∷ []) t n e w m rest is read = let no = sym (ended n e l) ∙ read in absurd (cc)
with_rest (l ∷ p ∷ qs) t n e w m rest is read =
    let c = cut t l p qs is in
    let first = pieces_first 10 (c.rest ++ rest) in
    ap (λ (s : List ℕ). read_lines n e (pieces 10 (s ++ rest))) c.text_is
    ∙ ap (λ (s : List ℕ). read_lines n e (pieces 10 s)) (append_assoc l (10 ∷ c.rest) rest)
    ∙ ap (read_lines n e) (c.again (c.rest ++ rest))
    ∙ ap (λ (ps : List (List ℕ)). read_lines n e (l ∷ ps)) first.2
    ∙ step n e l first.0 first.1
    ∙ sym (ap (λ (ps : List (List ℕ)). after (parse_line e l) n ps (λ next. read_lines (n + 1) next ps)) first.2)
    ∙ by_parsed c (λ next h. with_rest (p ∷ qs) c.rest (n + 1) next w m rest c.pieces_are h) (parse_line e l) (sym (step n e l p qs) ∙ read)
  where
    by_parsed : (c : Cut t l (p ∷ qs)) → ((next : Expecting) → read_lines (n + 1) next (p ∷ qs) ≡ AcceptedWorld w m ([] ∷ []) → read_lines (n + 1) next (pieces 10 (c.rest ++ rest)) ≡ AcceptedWorld w m (pieces 10 rest))
        → (r : Parsed) → after r n (p ∷ qs) (λ next. read_lines (n + 1) next (p ∷ qs)) ≡ AcceptedWorld w m ([] ∷ [])
        → after r n (pieces 10 (c.rest ++ rest)) (λ next. read_lines (n + 1) next (pieces 10 (c.rest ++ rest))) ≡ AcceptedWorld w m (pieces 10 rest)
    by_parsed c later (Refuses why) h = absurd (cc)
    by_parsed c later (GoesOn next) h = later next h
    by_parsed c later (Begins v) h =
        let last : p ∷ qs ≡ [] ∷ [] = cc in
        let none : c.rest ≡ [] = one_piece c.rest [] (c.pieces_are ∙ last) in
        let same : AcceptedWorld v (n + 1) (pieces 10 rest) ≡ AcceptedWorld w m (pieces 10 rest) = cc in
        ap (λ (s : List ℕ). AcceptedWorld v (n + 1) (pieces 10 (s ++ rest))) none ∙ same

-- ---- the input

-- an input that ends before its world does is not whole
pub no_world_whole : (over : Bool) (r : Reading) (ending : InputEnd) → begun_by over r ≡ NoWorld ending → ending ≡ Whole → ⊥
no_world_whole over (AcceptedWorld w n lines) ending is whole = absurd (cc)
no_world_whole over (Stopped n why) ending is whole = let no : NoWorld (Refused n part.World why) ≡ NoWorld Whole = is ∙ ap NoWorld whole in absurd (cc)
no_world_whole false (Ended n last) ending is whole = let no : NoWorld (Refused n part.World fault.Syntax) ≡ NoWorld Whole = is ∙ ap NoWorld whole in absurd (cc)
no_world_whole true (Ended n last) ending is whole = by_length (nat_lt MAX_LINE (length last)) (is ∙ ap NoWorld whole)
  where
    by_length : (v : Bool) → NoWorld (cond v (Refused n part.World fault.Syntax) TooMuch) ≡ NoWorld Whole → ⊥
    by_length true e = cc
    by_length false e = cc

-- a script of pieces has one
pub some_pieces : (t : List ℕ) (ps : List (List ℕ)) → ps ≡ pieces 10 t → (P : List (List ℕ) → Type 0) → ((q : List ℕ) (qs : List (List ℕ)) → P (q ∷ qs)) → P ps
some_pieces t ps is P f = let first = pieces_first 10 t in subst P (sym (is ∙ first.2)) (f first.0 first.1)

-- what is read again: the text of a world, and a script after it
module _ (w : WorldText) (back : ReadsBack w) (rest : List ℕ) (short : HasShortLines w) (few : length (text_of_world w ++ rest) ≤ MAX_INPUT) where
  read_again : input_of (text_of_world w ++ rest) ≡ record { accepted = Some w; script = script_of (lines_from takes_all false w.policy (next_number w) (pieces 10 rest)) }
  unfolding input_in begun_in
  read_again =
      let out = text_of_world w ++ rest in
      ap (λ b. input_from (begun_by b (read_text Two (take MAX_INPUT out)))) (le-ltb MAX_INPUT (length out) few)
      ∙ ap (λ (t : List ℕ). input_from (begun_by false (read_text Two t))) (take_all MAX_INPUT out few)
      ∙ ap (λ (r : Reading). input_from (begun_by false r)) (with_rest _ (text_of_world w) 1 (at.Format Two) w (next_number w) rest refl (back short))

pub has_world : (v : Bool) (r : Reading) (w : WorldText) (over : Bool) (n : ℕ) (lines : List (List ℕ)) → begun_by v r ≡ HasWorld w over n lines → (r ≡ AcceptedWorld w n lines) × (v ≡ over)
has_world v (AcceptedWorld u k ls) w over n lines is = (cc, cc)
has_world v (Stopped k why) w over n lines is = absurd (cc)
has_world v (Ended k last) w over n lines is = absurd (cc)

-- an input that has a world, and a script whose lines are all kept
module _ (text out : List ℕ) (w : WorldText) (over : Bool) (n : ℕ) (lines : List (List ℕ)) (read : read_text One (take MAX_INPUT text) ≡ AcceptedWorld w n lines) (limit : nat_lt MAX_INPUT (length text) ≡ over) (is : begun_in One text ≡ HasWorld w over n lines) where
  behind_script : Behind (take MAX_INPUT text) lines
  behind_script = behind _ (take MAX_INPUT text) 1 (at.Format One) w n lines refl read

  abbrev rest : List ℕ
  rest = behind_script.rest

  module _ (whole : (lines_from refuses_mixed over w.policy n lines).ending ≡ Whole) where
    all_kept : IsTaken refuses_mixed w.policy over n lines
    all_kept = some_pieces rest lines behind_script.pieces_are (λ ps. (lines_from refuses_mixed over w.policy n ps).ending ≡ Whole → IsTaken refuses_mixed w.policy over n ps) (λ q qs. all_taken refuses_mixed w.policy over n q qs) whole

    within_limit : take MAX_INPUT text ≡ text
    within_limit = take_all MAX_INPUT text (ltb-false MAX_INPUT (length text) (limit ∙ all_kept.within))

    text_kept : text_of_lines (lines_from refuses_mixed over w.policy n lines).lines ≡ rest
    text_kept = all_kept.text ∙ ap (join_with_byte 10) behind_script.pieces_are ∙ join_with_byte-slice_split 10 rest

    old_is : old_input_of text ≡ record { accepted = Some w; script = script_of (lines_from takes_all false w.policy n lines) }
    unfolding input_in
    old_is = ap input_from is ∙ ap (λ v. record { accepted = Some w; script = script_of (lines_from takes_all v w.policy n lines) }) all_kept.within

    ends_whole : (old_input_of text).script.ending ≡ Whole
    ends_whole = ap (λ (i : Input). i.script.ending) old_is ∙ ap (λ (s : ScriptLines). s.ending) (all_kept.again n)

    pub world_upgraded : ReadsBack w → out ≡ text_of_world w ++ text_of_lines (lines_from refuses_mixed over w.policy n lines).lines → UpgradedTo text out
    world_upgraded back wrote = record {
      world = w;
      number = n;
      head = behind_script.head;
      behind = rest;
      text_is = sym within_limit ∙ behind_script.text_is;
      reads = ap (read_text One) (sym within_limit) ∙ read ∙ ap (AcceptedWorld w n) behind_script.pieces_are;
      out_is = out_is;
      whole = ends_whole;
      same = λ short few. ap input_of out_is ∙ read_again w back rest short (subst (λ (t : List ℕ). length t ≤ MAX_INPUT) out_is few)
          ∙ ap (λ (ps : List (List ℕ)). record { accepted = Some w; script = script_of (lines_from takes_all false w.policy (next_number w) ps) }) (sym behind_script.pieces_are)
          ∙ ap (λ (s : ScriptLines). record { accepted = Some w; script = script_of s }) (all_kept.again (next_number w) ∙ sym (all_kept.again n))
          ∙ sym old_is;
    }
      where
        out_is : out ≡ text_of_world w ++ rest
        out_is = wrote ∙ ap (λ (t : List ℕ). text_of_world w ++ t) text_kept

-- an upgraded input that is whole
pub upgraded : (text out : List ℕ) → (upgrade_of text).script.ending ≡ Whole → ((a : Accepted) → (upgrade_of text).accepted ≡ Some a → ReadsBack a × (out ≡ text_of_world a ++ (upgrade_of text).script.text)) → UpgradedTo text out
unfolding upgrade_in begun_in
upgraded text out whole wrote = by_begun (begun_in One text) refl
  where
    by_begun : (b : Begun) → begun_in One text ≡ b → UpgradedTo text out
    by_begun (HasWorld w over n lines) is =
        let r = has_world _ _ w over n lines is in
        let did = wrote w (ap (λ (b : Begun). (upgrade_by b).accepted) is) in
        world_upgraded text out w over n lines r.0 r.1 is (sym (ap (λ (b : Begun). (upgrade_by b).script.ending) is) ∙ whole) did.0
        (did.1 ∙ ap (λ (b : Begun). text_of_world w ++ (upgrade_by b).script.text) is)
    by_begun (NoWorld ending) is = absurd (no_world_whole _ _ ending is (sym (ap (λ (b : Begun). (upgrade_by b).script.ending) is) ∙ whole))
