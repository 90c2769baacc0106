-- The lines that a generator has left.
use Rattle.std.proofs.Common.{◌≡◌, ◌≢◌, ℕ, ◌-◌, zero, suc, [], ◌∷◌, map, refl, arith}
use Rattle.gen_world.specs.Calls.{call_of, call_line, with_line_feed}
use Rattle.gen_world.specs.Text.{lines_after, step}

pub no_line_left : (left number : ℕ) → left ≡ 0 → map with_line_feed (lines_after left number) ≡ []
unfolding lines_after
no_line_left zero number none = refl
no_line_left (suc more) number none = absurd (omega (arith, none))

pub line_left : (left number : ℕ) → left ≢ 0 → map with_line_feed (lines_after left number) ≡ with_line_feed (call_line (call_of (step number))) ∷ map with_line_feed (lines_after (left - 1) (step number))
unfolding lines_after
line_left zero number some = absurd (some refl)
line_left (suc more) number some = let e : suc more - 1 ≡ more = omega arith in rw e refl
