-- A line has no more calls than bytes.
use Rattle.std.proofs.Common.{◌≡◌, ℕ, zero, suc, ◌+◌, ◌≤◌, Bool, true, false, ◌||◌, cond, List, [], ◌∷◌, length, Option, None, Some, refl, sym, subst, arith}
use Rattle.std.specs.Prelude.{Ok, Err, nat_lt}
use Rattle.std.specs.Option.{option_and_then, option_map}
use Rattle.std.proofs.lemmas.List.{length-map}
use Rattle.fs_path.specs.declared.words.LineWord.{LineWord}
use Rattle.fs_path.specs.Words.{first_word, is_blank, trim_spaces, words_by, words_of, words_within}
use Rattle.kern_model.specs.declared.calls.CallName.{CallName}
use Rattle.fs_path.specs.declared.words.TheConstants.{MAX_LINE}
use Rattle.kern_model.specs.Named.{call_named}
use Rattle.lab_text.specs.Policy.{PolicyNames, top_of}
use Rattle.sec_utils.specs.declared.util.Tool.{Tool}
use Rattle.sec_utils.specs.declared.util.Tool.TheVariants as tool
use Rattle.sec_utils.specs.declared.util.Util.{Util}
use Rattle.sec_utils.specs.Tools.{tool_named}
use Rattle.sec_utils.proofs.ItemLaws.{items_length}
use Rattle.script_text.specs.declared.line.Line.{Line}
use Rattle.script_text.specs.declared.line.Line.TheVariants as line
use Rattle.script_text.specs.declared.fault.LineError.TheVariants as error
use Rattle.script_text.proofs.LineLaws.{both_are, from_made}
use Rattle.script_text.specs.Argument as argument
use Rattle.script_text.specs.Reading.{both}
use Rattle.script_text.specs.Tools.{on_paths, parse_tool, plain, with_caps, with_mark}
use Rattle.script_text.specs.Line.{bytes_in, item_by, parse_item, parse_line, parse_words, MayBePlayed}
use Rattle.lab_engine.specs.Input.{items_in}

-- ---- words

module _ (n : ℕ) (more : List ℕ → Option (List LineWord)) (few : (text : List ℕ) (ws : List LineWord) → more text ≡ Some ws → length ws + 1 ≤ n) where
  few_by : (text : List ℕ) (ws : List LineWord) → words_by more text ≡ Some ws → length ws ≤ n
  few_by [] ws e = let none : ws ≡ [] = cc in subst (λ (v : List LineWord). length v ≤ n) (sym none) (omega arith)
  few_by (b ∷ bs) ws e = by_first (first_word (b ∷ bs)) e
    where
      by_more : (p : LineWord × List ℕ) (o : Option (List LineWord)) → more p.1 ≡ o → option_map (λ vs. p.0 ∷ vs) o ≡ Some ws → length ws ≤ n
      by_more p None is e = absurd (cc)
      by_more p (Some vs) is e = let same : ws ≡ p.0 ∷ vs = cc in subst (λ (v : List LineWord). length v ≤ n) (sym same) (omega (arith, few p.1 vs is))

      by_first : (o : Option (LineWord × List ℕ)) → option_and_then (λ (p : LineWord × List ℕ). option_map (λ vs. p.0 ∷ vs) (more p.1)) o ≡ Some ws → length ws ≤ n
      by_first None e = absurd (cc)
      by_first (Some p) e = by_more p (more p.1) refl e

few_within : (n : ℕ) (text : List ℕ) (ws : List LineWord) → words_within n text ≡ Some ws → length ws ≤ n
few_within zero text ws e = few_by zero (λ _. None) (λ t vs no. absurd (cc)) (trim_spaces text) ws e
few_within (suc n) text ws e = few_by (suc n) (words_within n) (λ t vs is. let le = few_within n t vs is in omega arith) (trim_spaces text) ws e

-- a line has at most as many words as bytes
few_words : (text : List ℕ) (ws : List LineWord) → words_of text ≡ Some ws → length ws ≤ length text
unfolding words_of
few_words text ws e = few_within (length text) text ws e

-- ---- lines

module _ (policy : PolicyNames) where
  -- a utility has at most as many texts as arguments
  abbrev Few : ℕ → Util → Type 0
  Few n util = length util.texts ≤ n

  few_on : (tag : List ℕ) (t : Tool) (ws : List (List ℕ)) (util : Util) → on_paths policy tag t ws ≡ Ok util → Few (length ws) util
  unfolding on_paths
  few_on tag t [] util e = absurd (cc)
  few_on tag t (w ∷ ws) util e = from_made (Few (length (w ∷ ws))) (plain t (w ∷ ws)) _ util e (λ args _. omega arith)

  few_texts : (tag : List ℕ) (t : Tool) (ws : List (List ℕ)) (util : Util) → parse_tool policy tag t ws ≡ Ok util → Few (length ws) util
  unfolding parse_tool
  few_texts tag tool.GetFcap ws util e = few_on tag tool.GetFcap ws util e
  few_texts tag tool.GetFmac ws util e = few_on tag tool.GetFmac ws util e
  few_texts tag tool.SetFcap [] util e = absurd (cc)
  few_texts tag tool.SetFcap (w ∷ ws) util e = from_made (Few (length (w ∷ ws))) with_caps (both (on_paths policy tag tool.SetFcap ws) (argument.caps w)) util e (λ args is.
      let le = few_on tag tool.SetFcap ws args.0 (both_are (on_paths policy tag tool.SetFcap ws) (argument.caps w) args is).0 in omega arith)
  few_texts tag tool.SetFmac [] util e = absurd (cc)
  few_texts tag tool.SetFmac (w ∷ ws) util e = from_made (Few (length (w ∷ ws))) with_mark (both (on_paths policy tag tool.SetFmac ws) (argument.label policy w)) util e (λ args is.
      let le = few_on tag tool.SetFmac ws args.0 (both_are (on_paths policy tag tool.SetFmac ws) (argument.label policy w) args is).0 in omega arith)

  few_tool : (n : ℕ) (util : Util) → Few n util → MayBePlayed (top_of policy) (line.Tool util) → length (items_in (line.Tool util)) ≤ n
  few_tool n util le may = omega (arith, items_length util may.2, may.2.texts)

  few_item : (ws : List LineWord) (l : Line) → parse_item policy ws ≡ Ok l → MayBePlayed (top_of policy) l → length (items_in l) ≤ length ws
  unfolding parse_item
  few_item [] l e = absurd (cc)
  few_item (tag ∷ []) l e = absurd (cc)
  few_item (tag ∷ name ∷ ws) l e = by_quotes (tag.quoted || name.quoted) e
    where
      few : Line → Type 0
      few l = MayBePlayed (top_of policy) l → length (items_in l) ≤ length (tag ∷ name ∷ ws)

      by_name : (o : Option CallName) (p : Option Tool) → item_by policy tag.bytes (bytes_in ws) o p ≡ Ok l → few l
      by_name (Some n) p e = from_made few (λ item. line.One item.0 item.1) _ l e (λ item _ _. omega arith)
      by_name None (Some t) e = from_made few line.Tool _ l e (λ util is may.
          few_tool (length (tag ∷ name ∷ ws)) util (omega (arith, few_texts tag.bytes t (bytes_in ws) util is, length-map ws (λ (w : LineWord). w.bytes))) may)
      by_name None None e = absurd (cc)

      by_quotes : (v : Bool) → cond v (Err error.Syntax) (item_by policy tag.bytes (bytes_in ws) (call_named name.bytes) (tool_named name.bytes)) ≡ Ok l → few l
      by_quotes true e = absurd (cc)
      by_quotes false e = by_name (call_named name.bytes) (tool_named name.bytes) e

  -- a parsed line has no more calls than bytes
  pub few_calls : (text : List ℕ) (l : Line) → parse_line policy text ≡ Ok l → MayBePlayed (top_of policy) l → length (items_in l) ≤ length text
  unfolding parse_line
  few_calls text l e = by_length (nat_lt MAX_LINE (length text)) e
    where
      few : Line → Type 0
      few l = MayBePlayed (top_of policy) l → length (items_in l) ≤ length text

      by_words : (o : Option (List LineWord)) → words_of text ≡ o → parse_words policy o ≡ Ok l → few l
      by_words None is e = absurd (cc)
      by_words (Some ws) is e = λ may. omega (arith, few_item ws l e may, few_words text ws is)

      by_blank : (v : Bool) → cond v (Ok line.Blank) (parse_words policy (words_of text)) ≡ Ok l → few l
      by_blank true e = let same : line.Blank ≡ l = cc in subst few same (λ _. omega arith)
      by_blank false e = by_words (words_of text) refl e

      by_length : (v : Bool) → cond v (Err error.TooLong) (cond (is_blank text) (Ok line.Blank) (parse_words policy (words_of text))) ≡ Ok l → few l
      by_length true e = absurd (cc)
      by_length false e = by_blank (is_blank text) e
