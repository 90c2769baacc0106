use Rattle.std.proofs.Common.{◌≡◌, ◌++◌, List, ℕ, Some, arith}
use Rattle.std.proofs.lemmas.Grind.{common_steps}
use Rattle.std.specs.Prelude.{IsTrue}
use Rattle.std.proofs.lemmas.Result.{on_ok_weaker}
use Rattle.fs_path.specs.Values.{is_mode, mode_of, mode_text}
use Rattle.fs_path.proofs.RoundTrip.{of_appended, mode_round_trip}
use Rattle.fs_path.proofs.values.put_mode.Goals as goal

pub returns-clause-text : goal.returns-clause-text
unfolding mode_text
returns-clause-text c = grind (arith, common_steps)

pub returns-clause-read_back : goal.returns-clause-read_back
returns-clause-read_back c =
    let old = c.args.text.now.items in
    let new = c.extend_from_slice.new.self.items in
    on_ok_weaker c.extend_from_slice.result (λ (is : new ≡ old ++ mode_text c.args.mode) (valid : IsTrue (is_mode c.args.mode)). of_appended (λ (t : List ℕ). mode_of t ≡ Some c.args.mode) old new (mode_text c.args.mode) is (mode_round_trip c.args.mode valid)) (returns-clause-text c)
