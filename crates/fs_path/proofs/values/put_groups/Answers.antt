use Rattle.std.proofs.Common.{◌≡◌, List, ℕ, Some, arith}
use Rattle.std.proofs.lemmas.Grind.{common_steps}
use Rattle.fs_path.specs.Values.{groups_of, groups_text}
use Rattle.fs_path.proofs.RoundTrip.{of_appended, groups_round_trip}
use Rattle.fs_path.proofs.ValueRanges.{numbers_from}
use Rattle.fs_path.proofs.values.put_groups.Goals as goal

pub returns-in_default-clause-text : goal.returns-in_default-clause-text
unfolding groups_text
returns-in_default-clause-text c = grind (arith, common_steps)

pub returns-in_default-clause-read_back : goal.returns-in_default-clause-read_back
returns-in_default-clause-read_back c few =
    of_appended (λ (t : List ℕ). groups_of t ≡ Some c.args.groups.now) c.args.text.now.items c.push.new.self.items (groups_text c.args.groups.now) (returns-in_default-clause-text c)
    (groups_round_trip c.args.groups.now (numbers_from c.args.groups.now (λ i. let fits = c.type_inv.groups i in omega arith)) few)

pub returns-clause-text : goal.returns-clause-text
unfolding groups_text
returns-clause-text c = grind (arith, common_steps)

pub returns-clause-read_back : goal.returns-clause-read_back
returns-clause-read_back c few =
    of_appended (λ (t : List ℕ). groups_of t ≡ Some c.args.groups.now) c.args.text.now.items c.loop-group.text.items (groups_text c.args.groups.now) (returns-clause-text c)
    (groups_round_trip c.args.groups.now (numbers_from c.args.groups.now (λ i. let fits = c.type_inv.groups i in omega arith)) few)
