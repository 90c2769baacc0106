-- The records that are written are read again from their lines.
use Rattle.std.proofs.Common.{◌≡◌, ℕ, ◌+◌, ◌<◌, ◌≤◌, true, List, [], ◌∷◌, ◌++◌, length, map, take, get_or, sym, subst, arith}
use Rattle.std.proofs.lemmas.List.{take_all, take_more}
use Rattle.std.specs.Prelude.{Ok}
use Rattle.std.specs.List.{AllByRecursion}
use Rattle.aud_record.proofs.RoundTrip.{rec_is}
use Rattle.aud_record.specs.Fits.{has_valid_labels}
use Rattle.aud_record.specs.Parsed.{parse_rec}
use Rattle.aud_record.specs.Written.{rec_text}
use Rattle.kern_model.specs.declared.records.Rec.{Rec}
use Rattle.kern_model.specs.declared.world.ScriptItem.{ScriptItem}
use Rattle.kern_model.specs.Run.{item_record, run, state_after_run}
use Rattle.kern_model.specs.State.{State}
use Rattle.kern_model.specs.Step.{step}
use Rattle.lab_text.specs.Policy.{PolicyNames}
use Rattle.iso_laws.proofs.AllLemmas.{all-append}
use Rattle.world_text.proofs.RangeLemmas.{all_parts}
use Rattle.lab_engine.specs.Readable.{IsReadable, AreReadable, CallsReadable}
use Rattle.lab_engine.specs.Session.{numbered_from}

-- ---- the records of one call

-- a record that is read again from its line is readable
pub readable_written : (policy : PolicyNames) (n : ℕ) (x r : Rec) (text : List ℕ) → r ≡ x → text ≡ rec_text policy n r
    → (has_valid_labels policy r ≡ true → (rest : List ℕ) → parse_rec policy (text ++ rest) ≡ Ok (record { call = n; rec = r; used = length text })) → IsReadable policy (n, x)
readable_written policy n x r text same is read =
    subst (λ (y : Rec). IsReadable policy (n, y)) same (λ valid. let found = rec_is policy (text ++ []) (record { call = n; rec = r; used = length text }) (read valid []) in (found.small, found.fit))

-- one record more
pub readable_more : (policy : PolicyNames) (n : ℕ) (recs : List Rec) (i : ℕ) (x : Rec) → i < length recs → AreReadable policy n (take i recs) → IsReadable policy (n, get_or recs i x) → AreReadable policy n (take (i + 1) recs)
readable_more policy n recs i x lt before one =
    subst (AreReadable policy n) (sym (take_more recs i x lt)) (all-append (λ (r : Rec). IsReadable policy (n, r)) (take i recs) (get_or recs i x ∷ []) before (one, tt))

-- no record is left
pub readable_all : (policy : PolicyNames) (n : ℕ) (recs : List Rec) (i : ℕ) → length recs ≤ i → AreReadable policy n (take i recs) → AreReadable policy n recs
readable_all policy n recs i le all = subst (AreReadable policy n) (take_all i recs le) all

pub with_numbers : (policy : PolicyNames) (n : ℕ) (recs : List Rec) → AreReadable policy n recs → AllByRecursion (IsReadable policy) (map (λ (r : Rec). (n, r)) recs)
with_numbers policy n [] all = tt
with_numbers policy n (r ∷ rs) all = (all.0, with_numbers policy n rs all.1)

-- ---- the calls of a script

module _ (policy : PolicyNames) where
  -- a call, and those after it
  pub readable_call : (count : ℕ) (s next : State) (i : ScriptItem) (is items : List ScriptItem) → items ≡ i ∷ is → next ≡ (step s i.who i.call).state
      → AreReadable policy (count + 1) (step s i.who i.call).recs → CallsReadable policy (count + 1) next is → CallsReadable policy count s items
  readable_call count s next i is items same state own rest =
      subst (CallsReadable policy count s) (sym same)
      (all-append (IsReadable policy) (map (λ (r : Rec). (count + 1, r)) (item_record s i).recs) _ (with_numbers policy (count + 1) (item_record s i).recs own)
      (subst (λ (x : State). CallsReadable policy (count + 1) x is) state rest))

  -- no call
  pub readable_none : (count : ℕ) (s : State) (items : List ScriptItem) → items ≡ [] → CallsReadable policy count s items
  readable_none count s items none = subst (CallsReadable policy count s) (sym none) tt

  -- some calls, and those after them
  pub readable_items : (count : ℕ) (s : State) (is more : List ScriptItem) → CallsReadable policy count s is → CallsReadable policy (count + length is) (state_after_run s is) more → CallsReadable policy count s (is ++ more)
  readable_items count s [] more own rest = let none : count + 0 ≡ count = omega arith in subst (λ k. CallsReadable policy k s more) none rest
  readable_items count s (i ∷ is) more own rest =
      let next = (step s i.who i.call).state in
      let recs = map (λ (r : Rec). (count + 1, r)) (item_record s i).recs in
      let later : count + length (i ∷ is) ≡ (count + 1) + length is = omega arith in
      let parts = all_parts (IsReadable policy) recs (numbered_from ((count + 1) + 1) (run next is)) own in
      all-append (IsReadable policy) recs _ parts.0 (readable_items (count + 1) next is more parts.1 (subst (λ k. CallsReadable policy k (state_after_run next is) more) later rest))
