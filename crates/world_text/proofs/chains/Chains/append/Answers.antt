use Rattle.std.proofs.Common.{ℕ, ◌≡◌, ◌+◌, ◌<◌, ◌%◌, ◌∙◌, List, ap, set, subst, sym, length}
use Rattle.std.proofs.lemmas.List.{get_or_default}
use Rattle.world_text.specs.declared.chains.Link.{Link}
use Rattle.world_text.specs.Chains.{IsChained, hashes_of, before_in}
use Rattle.world_text.proofs.ChainLemmas.{linked_more}
use Rattle.world_text.proofs.chains.Chains.append.Goals as goal

pub invariant_of-self-2 : goal.invariant_of-self-2
invariant_of-self-2 c =
    let heads = c.self.inside.heads.items in
    let b = c.bucket_of-bucket.result in
    let count = c.len-count.result in
    let buckets = c.len.ensures ∙ c.self.inside.heads.ok.0 in
    let within : b < length heads = subst (λ (n : ℕ). b < n) buckets c.bucket_of-bucket.ensures.within in
    let bucket : b ≡ c.args.hash % length heads = c.bucket_of-bucket.ensures.bucket ∙ ap (λ (n : ℕ). c.args.hash % n) buckets in
    subst (λ (links : List Link). IsChained (set heads b (count + 1)) (hashes_of links) (before_in links)) (sym c.in_ok-push.ensures.items)
    (linked_more heads c.self.inside.links.items _ b count c.self.invariant bucket within (c.index-before.ensures ∙ get_or_default heads b c.index-before.result.now 0 within) (c.len-count.ensures ∙ c.self.inside.links.ok.0))
