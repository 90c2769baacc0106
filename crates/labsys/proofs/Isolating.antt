-- How many whole replies an output has; those to Low tags are those of the part alone.
use Rattle.std.proofs.Common.{◌≡◌, ℕ, ◌+◌, ◌≤◌, ◌<◌, true, false, cond, List, [], ◌∷◌, ◌++◌, length, take, suc, zero, refl, sym, ◌∙◌, ap, subst, append_assoc, arith}
use Rattle.std.proofs.lemmas.List.{append-nil, length-append}
use Rattle.lab_lattice.specs.Label.{Label}
use Rattle.kern_model.specs.Run.{CallRecord}
use Rattle.kern_model.specs.Isolation.{answers, alone, any_crosses, up_to}
use Rattle.kern_model.specs.Prefixes.{IsPrefix, Agree}
use Rattle.iso_laws.proofs.Laws.{isolated_prefix, isolated_whole, two_worlds_agree, two_worlds_same}
use Rattle.lab_engine.specs.Input.{Accepted, Script}
use Rattle.lab_engine.specs.Session.{CallBytes, session_of, bytes_of, replies_of}
use Rattle.labsys.proofs.AcceptedLemmas.{IsPlayable}
use Rattle.labsys.proofs.Coverage.{Within, Past, split}
use Rattle.labsys.specs.Clauses.{Written, Isolated, IsolatedWhole, SameBelow, TwoInputs, TwoWhole, run_of}

-- ---- written replies

-- no reply is whole
none_written : (t : CallBytes) (ts : List CallBytes) (out : List ℕ) → length out < length t.reply → Written (t ∷ ts) out
none_written t ts out short = record {
  count = 0;
  few = omega arith;
  begins = record { rest = out; whole_is = refl };
  no_more = λ _. let len = ap length (append-nil t.reply) in omega arith;
}

-- one more than after the first reply
one_more : (t : CallBytes) (ts : List CallBytes) (out rest : List ℕ) → out ≡ t.reply ++ rest → Written ts rest → Written (t ∷ ts) out
one_more t ts out rest is w =
    let k : w.count + 1 ≡ suc w.count = omega arith in
    record {
      count = suc w.count;
      few = let le = w.few in omega arith;
      begins = record {
        rest = w.begins.rest;
        whole_is = is ∙ ap (λ (z : List ℕ). t.reply ++ z) w.begins.whole_is ∙ sym (append_assoc t.reply (replies_of (take w.count ts)) w.begins.rest);
      };
      no_more = λ le.
          let fewer : w.count + 1 ≤ length ts = omega arith in
          let less : length rest < length (replies_of (take (suc w.count) ts)) = subst (λ j. length rest < length (replies_of (take j ts))) k (w.no_more fewer) in
          let all : length out ≡ length (t.reply ++ rest) = ap length is in
          let both : suc w.count + 1 ≡ suc (suc w.count) = omega arith in
          subst (λ j. length out < length (replies_of (take j (t ∷ ts)))) (sym both)
          (omega (arith, all, length-append t.reply rest, length-append t.reply (replies_of (take (suc w.count) ts))));
    }

-- a prefix of replies and of what is after them has some number of whole replies
pub written : (ts : List CallBytes) (tail out more : List ℕ) → replies_of ts ++ tail ≡ out ++ more → Written ts out
written [] tail out more e = record { count = 0; few = omega arith; begins = record { rest = out; whole_is = refl }; no_more = λ le. absurd (omega arith) }
written (t ∷ ts) tail out more e =
    elim (split t.reply (replies_of ts ++ tail) out more (sym (append_assoc t.reply (replies_of ts) tail) ∙ e)) [
      | Within y reply_is some ↦ none_written t ts out (omega (arith, ap length reply_is, length-append out y))
      | Past rest out_is rest_is ↦ one_more t ts out rest out_is (written ts tail rest more rest_is)
    ]

-- ---- the first calls

-- where m calls come before the first crossing, the first m of all calls are the first m of these
pub take_up_to : (l : Label) (m : ℕ) (ps : List CallRecord) → m ≤ length (up_to l ps) → take m ps ≡ take m (up_to l ps)
take_up_to l zero ps le = refl
take_up_to l (suc m) [] le = refl
take_up_to l (suc m) (p ∷ ps) le =
    elim (any_crosses l p.recs) as (λ b. suc m ≤ length (cond b [] (p ∷ up_to l ps)) → p ∷ take m ps ≡ take (suc m) (cond b [] (p ∷ up_to l ps))) [
      | true ↦ λ le. absurd (omega arith)
      | false ↦ λ le. let less : m ≤ length (up_to l ps) = omega arith in ap (λ (r : List CallRecord). p ∷ r) (take_up_to l m ps less)
    ] le

module _ (l : Label) (a : Accepted) (script : Script) (is : IsPlayable a script) where
  pub is_isolated : (out : List ℕ) → Written (bytes_of (session_of a script)) out → Isolated l a script out
  is_isolated out w = record {
    written = w;
    reported = λ m few before. subst (λ ps. IsPrefix (answers l ps) (alone l a.world script.items)) (sym (take_up_to l m (run_of a script) before)) (isolated_prefix l a.world script.items m is.world is.script);
  }

  pub is_isolated_whole : (out : List ℕ) → IsPrefix (replies_of (bytes_of (session_of a script))) out → IsolatedWhole l a script out
  is_isolated_whole out w = record { written = w; reported = λ none. isolated_whole l a.world script.items is.world is.script none }

  module _ (b : Accepted) (script' : Script) (is' : IsPlayable b script') (same : SameBelow l a script b script') where
    pub two_agree : (out : List ℕ) → Written (bytes_of (session_of a script)) out → TwoInputs l a script b script' out
    two_agree out w = record {
      written = w;
      agree = λ m n few before before'.
          subst (λ ps. Agree (answers l ps) (answers l (take n (run_of b script')))) (sym (take_up_to l m (run_of a script) before))
          (subst (λ ps. Agree (answers l (take m (up_to l (run_of a script)))) (answers l ps)) (sym (take_up_to l n (run_of b script') before'))
          (two_worlds_agree l a.world b.world script.items script'.items m n is.world is'.world is.script is'.script same.world same.items));
    }

    pub two_whole : (out : List ℕ) → IsPrefix (replies_of (bytes_of (session_of a script))) out → TwoWhole l a script b script' out
    two_whole out w = record { written = w; equal = λ none none'. two_worlds_same l a.world b.world script.items script'.items is.world is'.world is.script is'.script same.world same.items none none' }
