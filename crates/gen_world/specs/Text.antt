-- The generated text.
use Rattle.std.specs.Prelude.{ℕ, ◌+◌, ◌*◌, ◌%◌, Bool, true, cond, zero, suc, List, [], ◌∷◌, ◌++◌, codes, map}
use Rattle.std.specs.List.{concat}
use Rattle.gen_world.specs.Calls.{call_of, call_line, with_line_feed}

-- the world of each generated text, line by line
abbrev pub head_lines : List (List ℕ)
head_lines =
    codes "world 2"
    ∷ codes "levels l0 l1 l2 l3"
    ∷ codes "categories c0 c1"
    ∷ codes "bound all"
    ∷ codes "dir / 0777 0 0 l0"
    ∷ codes "dir /d0 0777 0 0 l0"
    ∷ codes "dir /d1 0777 0 0 l1"
    ∷ codes "dir /d2 0777 0 0 l2"
    ∷ codes "dir /d3 0777 0 0 l3"
    ∷ codes "proc l0 100 100 - \"=\""
    ∷ codes "proc l1 101 101 - \"=\""
    ∷ codes "proc l2 102 102 - \"=\""
    ∷ codes "proc l3 103 103 - \"=\""
    ∷ codes "script"
    ∷ []

-- the generated number after a number
abbrev pub step : ℕ → ℕ
step number = (number * 1103515245 + 12345) % 2147483648

-- so many lines, for the numbers generated after a number
unfoldable pub lines_after : ℕ → ℕ → List (List ℕ)
lines_after zero number = []
lines_after (suc more) number = call_line (call_of (step number)) ∷ lines_after more (step number)

-- the lines of the generated text for n: the world, then n lines after the number n
abbrev pub gen_lines : ℕ → List (List ℕ)
gen_lines n = head_lines ++ lines_after n n

-- the generated text for n
unfoldable pub gen_text : ℕ → List ℕ
gen_text n = concat (map with_line_feed (gen_lines n))

-- ---- piece by piece

-- the pieces that are left: the world unless it was given, then so many lines after a number
abbrev pub pieces_left : Bool → ℕ → ℕ → List (List ℕ)
pieces_left world_is_left left number = cond world_is_left (concat (map with_line_feed head_lines) ∷ map with_line_feed (lines_after left number)) (map with_line_feed (lines_after left number))

-- the pieces of the generated text for n: the world, then each line
abbrev pub pieces : ℕ → List (List ℕ)
pieces n = pieces_left true n n
