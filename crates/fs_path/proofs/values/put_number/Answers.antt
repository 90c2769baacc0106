use Rattle.std.proofs.Common.{◌≡◌, ◌≤◌, ◌++◌, List, ℕ, Some, arith}
use Rattle.std.proofs.lemmas.Grind.{common_steps}
use Rattle.std.proofs.lemmas.Result.{on_ok_weaker}
use Rattle.std.specs.Fmt.{decimal}
use Rattle.fs_path.specs.Values.{number_of}
use Rattle.fs_path.proofs.RoundTrip.{of_appended, number_round_trip}
use Rattle.fs_path.proofs.values.put_number.Goals as goal

pub returns-clause-text : goal.returns-clause-text
returns-clause-text c = grind (arith, common_steps)

pub returns-clause-read_back : goal.returns-clause-read_back
returns-clause-read_back c =
    let old = c.args.text.now.items in
    let new = c.extend_from_slice.new.self.items in
    on_ok_weaker c.extend_from_slice.result (λ (is : new ≡ old ++ decimal c.args.n) (small : c.args.n ≤ 4294967295). of_appended (λ (t : List ℕ). number_of t ≡ Some c.args.n) old new (decimal c.args.n) is (number_round_trip c.args.n small)) (returns-clause-text c)
