-- A script that is read line by line: what was read of it so far, and what each line adds.
use Rattle.std.proofs.Common.{◌≡◌, ℕ, ◌+◌, ◌<◌, ◌≤◌, ◌^◌, true, List, [], ◌∷◌, ◌++◌, length, refl, sym, ◌∙◌, ap, subst, arith, append_assoc, Option}
use Rattle.std.proofs.lemmas.List.{append-nil, length-append}
use Rattle.std.proofs.lemmas.Grind.{flat_map-append}
use Rattle.std.proofs.KnownBytes.{Consumes-nil, Consumes-trans}
use Rattle.io_ends.specs.LinesState.{LinesState}
use Rattle.lab_text.specs.Policy.{PolicyNames, top_of}
use Rattle.script_text.specs.Line.{MayBePlayed}
use Rattle.script_text.specs.declared.line.Line.{Line}
use Rattle.lab_engine.specs.declared.ending.InputEnd.{InputEnd}
use Rattle.lab_engine.specs.declared.reading.NextLine.{NextLine}
use Rattle.lab_engine.specs.declared.reading.NextLine.TheVariants as next
use Rattle.lab_engine.specs.Input.{Judge, ScriptLine, ScriptLines, items_in, items_of_lines, script_line, taken_lines}
use Rattle.lab_engine.specs.Reading.{BeginsWith, EndsScript, Follows, Takes, left_of, lines_at}
use Rattle.kern_model.specs.declared.world.ScriptItem.{ScriptItem}
use Rattle.std.specs.Prelude.{Ok}

-- ---- bytes that were taken

pub takes_nothing : (lines : LinesState) (left : Option (List ℕ)) → Takes lines lines left left []
takes_nothing lines left = record { took = Consumes-nil left; within = omega arith }

pub takes_more : (before between now : LinesState) (left left' left'' : Option (List ℕ)) (xs ys : List ℕ) → Takes before between left left' xs → Takes between now left' left'' ys → Takes before now left left'' (xs ++ ys)
takes_more before between now left left' left'' xs ys first second = record {
  took = Consumes-trans left left' left'' xs ys first.took second.took;
  within = omega (arith, first.within, second.within, length-append xs ys);
}

-- ---- the calls of lines

-- the calls of some lines, and of those after them
pub items_append_lines : (ls more : List ScriptLine) → items_of_lines (ls ++ more) ≡ items_of_lines ls ++ items_of_lines more
items_append_lines ls more = flat_map-append (λ (m : ScriptLine). items_in m.says) ls more

-- the calls of some lines, and of a line after them
pub items_more : (ls : List ScriptLine) (l : ScriptLine) → items_of_lines (ls ++ l ∷ []) ≡ items_of_lines ls ++ items_in l.says
items_more ls l = items_append_lines ls (l ∷ []) ∙ ap (λ (is : List ScriptItem). items_of_lines ls ++ is) (append-nil (items_in l.says))

-- ---- a line that was read

module _ (judge : Judge) (policy : PolicyNames) (lines lines' : LinesState) (left left' : Option (List ℕ)) (l : NextLine) (read : Follows (Ok l) judge policy lines lines' left left') (line : Line) (is : l ≡ next.Line line) where
  abbrev pub line_read : Follows (Ok (next.Line line)) judge policy lines lines' left left'
  line_read = subst (λ k. Follows (Ok k) judge policy lines lines' left left') is read

  pub line_calls : MayBePlayed (top_of policy) line
  line_calls = line_read.shows.calls

  pub line_held : (lines'.more ≡ true) × (0 < lines'.number)
  line_held = (line_read.shows.more, line_read.shows.number)

  pub line_fewer : lines'.room < lines.room
  line_fewer = omega (arith, line_read.shows.fewer)

-- ---- what was read so far

pub record ReadSoFar (judge : Judge) (policy : PolicyNames) (lines0 lines : LinesState) (left0 left : Option (List ℕ)) (count : ℕ) : Type 0 where
  pub taken : List ℕ
  pub takes : Takes lines0 lines left0 left taken
  pub given : List ScriptLine
  pub says : (more : List ℕ) → lines_at judge policy lines0 (taken ++ more) ≡ taken_lines (given ++ (lines_at judge policy lines more).lines) (lines_at judge policy lines more).ending
  pub counted : count ≡ length (items_of_lines given)
  pub more : lines.more ≡ true
  pub few : count + lines.room ≤ 2 ^ 24

-- nothing was read yet
abbrev pub read_begins : (judge : Judge) (policy : PolicyNames) (lines : LinesState) (left : Option (List ℕ)) → lines.more ≡ true → lines.room ≤ 2 ^ 24 → ReadSoFar judge policy lines lines left left 0
read_begins judge policy lines left more few = record {
  taken = [];
  takes = takes_nothing lines left;
  given = [];
  says = λ rest. refl;
  counted = refl;
  more = more;
  few = omega (arith, few);
}

module _ (judge : Judge) (policy : PolicyNames) (lines0 lines : LinesState) (left0 left : Option (List ℕ)) (count : ℕ) (r : ReadSoFar judge policy lines0 lines left0 left count) (got : List ℕ) where
  -- the script, by what comes after these bytes
  pub says_more : (more : List ℕ) → lines_at judge policy lines0 ((r.taken ++ got) ++ more) ≡ taken_lines (r.given ++ (lines_at judge policy lines (got ++ more)).lines) (lines_at judge policy lines (got ++ more)).ending
  says_more more = ap (lines_at judge policy lines0) (append_assoc r.taken got more) ∙ r.says (got ++ more)

  module _ (lines' : LinesState) (left' : Option (List ℕ)) (takes : Takes lines lines' left left' got) where
    pub read_takes : Takes lines0 lines' left0 left' (r.taken ++ got)
    read_takes = takes_more lines0 lines lines' left0 left left' r.taken got r.takes takes

    -- the next line is there
    module _ (line : Line) (begins : BeginsWith judge policy lines lines' got line) where
      abbrev pub given_now : List ScriptLine
      given_now = r.given ++ script_line lines'.line line ∷ []

      pub line_says : (more : List ℕ) → lines_at judge policy lines0 ((r.taken ++ got) ++ more) ≡ taken_lines (given_now ++ (lines_at judge policy lines' more).lines) (lines_at judge policy lines' more).ending
      line_says more =
          says_more more
          ∙ ap (λ (m : ScriptLines). taken_lines (r.given ++ m.lines) m.ending) (begins.says more)
          ∙ ap (λ (ls : List ScriptLine). taken_lines ls (lines_at judge policy lines' more).ending) (sym (append_assoc r.given (script_line lines'.line line ∷ []) (lines_at judge policy lines' more).lines))

      pub read_small : count + length (items_in line) ≤ 2 ^ 24
      read_small = omega (arith, r.few, begins.fewer)

      abbrev pub read_line : (count' : ℕ) → count' ≡ count + length (items_in line) → ReadSoFar judge policy lines0 lines' left0 left' count'
      read_line count' counted = record {
        taken = r.taken ++ got;
        takes = read_takes;
        given = given_now;
        says = line_says;
        counted = counted ∙ ap (λ k. k + length (items_in line)) r.counted ∙ sym (length-append (items_of_lines r.given) (items_in line)) ∙ sym (ap length (items_more r.given (script_line lines'.line line)));
        more = begins.more;
        few = omega (arith, counted, r.few, begins.fewer);
      }

    -- the script ends
    pub read_ends : (ending : InputEnd) → EndsScript judge policy lines left' got ending → lines_at judge policy lines0 ((r.taken ++ got) ++ left_of left') ≡ taken_lines r.given ending
    read_ends ending last =
        says_more (left_of left') ∙ ap (λ (m : ScriptLines). taken_lines (r.given ++ m.lines) m.ending) last.says ∙ ap (λ (ls : List ScriptLine). taken_lines ls ending) (append-nil r.given)
