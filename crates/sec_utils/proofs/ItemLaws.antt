-- The calls of a utility, and its items.
use Rattle.std.proofs.Common.{◌≡◌, ℕ, ◌+◌, ◌<◌, true, List, [], ◌∷◌, length, drop, get_or, map, Option, None, Some, refl, ◌∙◌, ap, arith}
use Rattle.std.specs.Prelude.{is_some, filter_map, zip}
use Rattle.std.specs.List.{cons_option, list_all}
use Rattle.std.proofs.lemmas.Bool.{and_parts, and_from}
use Rattle.std.proofs.lemmas.List.{drop_more, get_or-map, length-map}
use Rattle.std.proofs.lemmas.Slice.Zip.{get_or-zip, length-zip}
use Rattle.cap_bits.specs.declared.state.CapState.{CapState}
use Rattle.fs_path.specs.Path.{PathValue}
use Rattle.kern_model.specs.Arguments.{has_names, is_call, is_item, is_number, is_script}
use Rattle.kern_model.specs.declared.calls.Call.{Call}
use Rattle.kern_model.specs.declared.world.ScriptItem.{ScriptItem}
use Rattle.lab_lattice.specs.Label.{Label}
use Rattle.sec_utils.specs.declared.util.Tool.{Tool}
use Rattle.sec_utils.specs.declared.util.Tool.TheVariants as tool
use Rattle.sec_utils.specs.declared.util.Util.{Util}
use Rattle.sec_utils.specs.Calls.{call_by, call_on, calls_of, is_marked, is_marked_by, IsWhole}
use Rattle.sec_utils.specs.Items.{item_of, items_of, may_be_made}

-- ---- calls

call_there : (tool : Tool) (caps : CapState) (mark : Option Label) (path : PathValue) → is_marked_by tool mark ≡ true → is_some (call_by tool caps mark path) ≡ true
call_there tool.GetFcap caps mark path marked = refl
call_there tool.SetFcap caps mark path marked = refl
call_there tool.GetFmac caps mark path marked = refl
call_there tool.SetFmac caps None path marked = absurd (cc)
call_there tool.SetFmac caps (Some label) path marked = refl

one_more : {X : Type 0} (o : Option X) (xs : List X) → is_some o ≡ true → length (cons_option o xs) ≡ length xs + 1
one_more None xs there = absurd (cc)
one_more (Some x) xs there = omega arith

-- as many values as elements, where each element has one
one_each : {X Y : Type 0} (h : X → Option Y) → ((x : X) → is_some (h x) ≡ true) → (xs : List X) → length (filter_map h xs) ≡ length xs
one_each h there [] = refl
one_each h there (x ∷ xs) = omega (arith, one_more (h x) (filter_map h xs) (there x), one_each h there xs)

-- a utility makes one call for each path
pub one_call_each : (util : Util) → is_marked util ≡ true → length (calls_of util) ≡ length util.paths
unfolding calls_of
one_call_each util marked = one_each (call_on util) (λ path. call_there util.tool util.caps util.mark path marked) util.paths

-- ---- items

module _ (util : Util) where
  -- the item of a call and the text of its path
  abbrev item : List ℕ × Call → ScriptItem
  item p = item_of util p.0 p.1

  pairs_length : IsWhole util → length (zip util.texts (calls_of util)) ≡ length util.paths
  pairs_length whole = length-zip util.texts (calls_of util) ∙ omega (arith, one_call_each util whole.marked, whole.texts)

  -- a utility is as many items as it has paths
  pub items_length : IsWhole util → length (items_of util) ≡ length util.paths
  unfolding items_of
  items_length whole = length-map (zip util.texts (calls_of util)) item ∙ pairs_length whole

  -- the item at an index has the text and the call at that index
  pub item_at : IsWhole util → (i : ℕ) (c : Call) (d : ScriptItem) → i < length util.paths → get_or (items_of util) i d ≡ item_of util (get_or util.texts i []) (get_or (calls_of util) i c)
  unfolding items_of
  item_at whole i c d within =
      get_or-map item (zip util.texts (calls_of util)) i ([], c) d (omega (arith, pairs_length whole))
      ∙ ap item (get_or-zip util.texts (calls_of util) i ([], c) (omega (arith, whole.texts)) (omega (arith, one_call_each util whole.marked)))

  -- the items from an index on are the one at that index and those from the next one on
  pub items_from : IsWhole util → (i : ℕ) (c : Call) → i < length util.paths → drop i (items_of util) ≡ item_of util (get_or util.texts i []) (get_or (calls_of util) i c) ∷ drop (i + 1) (items_of util)
  items_from whole i c within =
      let d = item_of util (get_or util.texts i []) (get_or (calls_of util) i c) in
      drop_more (items_of util) i d (omega (arith, items_length whole)) ∙ ap (λ x. x ∷ drop (i + 1) (items_of util)) (item_at whole i c d within)

  -- the items may be played where the caller is a number and each call may be made
  module _ (top : Label) (caller : is_number top util.who ≡ true) where
    item_played : (text : List ℕ) (call : Call) → may_be_made top call ≡ true → is_item top (item_of util text call) ≡ true
    item_played text call made = let parts = and_parts (is_call top call) (has_names call) made in and_from _ _ (and_from _ _ caller parts.0) parts.1

    pairs_played : (texts : List (List ℕ)) (calls : List Call) → list_all (may_be_made top) calls ≡ true → is_script top (map item (zip texts calls)) ≡ true
    pairs_played [] calls made = refl
    pairs_played (text ∷ texts) [] made = refl
    pairs_played (text ∷ texts) (call ∷ calls) made =
        let parts = and_parts (may_be_made top call) (list_all (may_be_made top) calls) made in
        and_from _ _ (item_played text call parts.0) (pairs_played texts calls parts.1)

    pub items_played : list_all (may_be_made top) (calls_of util) ≡ true → is_script top (items_of util) ≡ true
    unfolding items_of
    items_played made = pairs_played util.texts (calls_of util) made
