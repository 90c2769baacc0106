-- How many steps a search takes that halves what is left at each of them.
use Rattle.std.proofs.Common.{◌≡◌, ℕ, ◌+◌, ◌-◌, ◌*◌, ◌^◌, ◌<◌, ◌≤◌, ap, ◌∙◌, subst, arith, mul-le-mul_left, mul_assoc, pow-add}
use Rattle.std.proofs.Math.Nat.{mul_left_comm}

regrouped : (p k : ℕ) → p * 2 * (2 * k) ≡ 4 * (p * k)
regrouped p k = mul_assoc p 2 (2 * k) ∙ ap (λ x. p * x) (let same : 2 * (2 * k) ≡ 4 * k = omega arith in same) ∙ mul_left_comm p 4 k

module _ (before now after left n : ℕ) (so_far : before ≤ now) (next : after ≡ now + 1) (h : 2 ^ (now - before) * left ≤ n) where
  abbrev power : ℕ
  power = 2 ^ (now - before)

  twice : 2 ^ (after - before) ≡ power * 2
  twice = subst (λ k. 2 ^ k ≡ power * 2) {x = now - before + 1} {y = after - before} (omega arith) (pow-add 2 (now - before) 1)

  -- at most half as many are left
  pub halved : (half : ℕ) → half + half ≤ left → 2 ^ (after - before) * half ≤ n
  halved half less =
      let regroup : power * 2 * half ≡ power * (2 * half) = mul_assoc power 2 half in
      let grows : power * (2 * half) ≤ power * left = mul-le-mul_left power (omega arith) in
      rw twice (omega arith)

  -- while something was left, the steps are few
  pub few : 0 < left → 2 ^ (after - before) ≤ 2 * n
  few some =
      let once : power * 1 ≤ power * left = mul-le-mul_left power some in
      let doubled = twice in
      omega (arith, doubled)

  -- and so are these with more steps, which are few among what was left
  pub few_with : (last : ℕ) → after ≤ last → 2 ^ (last - after) ≤ 2 * left → 2 ^ (last - before) ≤ 4 * n
  few_with last later rest =
      let both : 2 ^ (after - before + (last - after)) ≡ 2 ^ (after - before) * 2 ^ (last - after) = pow-add 2 (after - before) (last - after) in
      let grows : power * 2 * 2 ^ (last - after) ≤ power * 2 * (2 * left) = mul-le-mul_left (power * 2) rest in
      let regroup : power * 2 * (2 * left) ≡ 4 * (power * left) = regrouped power left in
      let all : 2 ^ (after - before + (last - after)) ≤ 4 * n = rw (both, twice) (omega (arith, grows, regroup)) in
      subst (λ k. 2 ^ k ≤ 4 * n) {x = after - before + (last - after)} {y = last - before} (omega arith) all
