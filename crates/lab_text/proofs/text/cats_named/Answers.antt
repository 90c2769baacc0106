use Rattle.std.proofs.Common.{◌≡◌, List, ℕ, Option, Bor, Some, ap, sym, ◌∙◌, arith}
use Rattle.std.specs.Option.{option_copied, option_map}
use Rattle.lab_text.specs.declared.text.LabelError.TheVariants as error
use Rattle.fs_path.specs.Split.{bytes_from}
use Rattle.lab_text.proofs.NameLemmas.{IsSplit, gathered_more, gathered_end, unknown_more, unknown_now}
use Rattle.lab_text.proofs.text.cats_named.Goals as goal
use Rattle.lab_text.proofs.text.cats_named.Goals.{After-first_piece}

split_here : (c : After-first_piece) → IsSplit (option_copied c.loop-rest.rest) c.first_piece.result.0.now (option_copied c.first_piece.result.1) c.in-Some.text.now
split_here c = record {
  some = ap (λ (r : Option (Bor (List ℕ))). option_copied r) c.in-Some.is;
  first = c.first_piece.ensures.pieces;
}

pub returns-in_default-cat_named-clause-unknown : goal.returns-in_default-cat_named-clause-unknown
returns-in_default-cat_named-clause-unknown c =
    let split = split_here (goal.at.returns-in_default-cat_named-clause-unknown c).After-first_piece in
    ap (option_map error.UnknownCategory) (c.loop-rest.invariant.unknown ∙ unknown_now split c.args.policy.now.cats c.loop-rest.at (sym c.cat_named.ensures ∙ c.in_default-cat_named.is))

pub loop-rest-preserved : goal.loop-rest-preserved
loop-rest-preserved c =
    let split = split_here (goal.at.loop-rest-preserved c).After-first_piece in
    let named = sym c.cat_named.ensures ∙ c.in-Some-cat_named.is in
    let left : bytes_from (option_copied c.loop-rest.rest) ≡ bytes_from (Some c.in-Some.text.now) = ap bytes_from split.some in
    let fewer = c.first_piece.ensures.lengths in
    let room = c.loop-rest.invariant.room in
    record {
      cats = c.loop-rest.invariant.cats ∙ gathered_more split c.args.policy.now.cats c.loop-rest.cats c.in-Some-cat_named.cat c.lub-cats.result named c.lub-cats.ensures;
      unknown = c.loop-rest.invariant.unknown ∙ unknown_more split c.args.policy.now.cats c.loop-rest.at c.in-Some-cat_named.cat named;
      room = omega arith;
    }

pub returns-clause-cats : goal.returns-clause-cats
returns-clause-cats c =
    gathered_end c.args.policy.now.cats c.loop-rest.cats (option_copied c.args.list) (option_copied c.loop-rest.rest) c.loop-rest.invariant.cats
    (ap (λ (r : Option (Bor (List ℕ))). option_copied r) c.in_default.is)
