use Rattle.std.proofs.Common.{◌≡◌, [], ◌∷◌, List, ℕ, true, Some, arith}
use Rattle.std.proofs.lemmas.Grind.{common_steps}
use Rattle.fs_path.specs.Words.{words_of, quoted_text}
use Rattle.fs_path.proofs.RoundTrip.{of_appended, quoted_round_trip}
use Rattle.fs_path.proofs.ValueRanges.{bytes_from}
use Rattle.fs_path.proofs.words.put_quoted.Goals as goal

pub returns-clause-text : goal.returns-clause-text
unfolding quoted_text
returns-clause-text c = grind (arith, common_steps)

pub returns-clause-read_back : goal.returns-clause-read_back
returns-clause-read_back c =
    of_appended (λ (t : List ℕ). words_of t ≡ Some (record { quoted = true; bytes = c.args.bytes.now } ∷ [])) c.args.text.now.items c.push-2.new.self.items (quoted_text c.args.bytes.now) (returns-clause-text c)
    (quoted_round_trip c.args.bytes.now (bytes_from c.args.bytes.now (λ i. let fits = c.type_inv.bytes i in omega arith)))
