-- The categories that the names in a text denote, one after another.
use Rattle.std.proofs.Common.{◌≡◌, ℕ, ◌+◌, Bool, true, false, ◌==◌, ◌||◌, nat_eq, cond, List, [], ◌∷◌, length, Option, Some, None, refl, ap, sym, ◌∙◌, arith}
use Rattle.std.specs.Prelude.{option_and_then}
use Rattle.std.specs.FinSet as set
use Rattle.std.specs.List.{list_any}
use Rattle.std.specs.Option.{option_map}
use Rattle.std.proofs.lemmas.Bool.Decides.{nat_tests}
use Rattle.std.proofs.Math.Bool.{or-false}
use Rattle.std.proofs.lemmas.Option.{same_Some}
use Rattle.lab_lattice.specs.Cats.{CatSet, has_cat, no_cats, one_cat, cats_join}
use Rattle.lab_lattice.specs.Laws.{has-cats_join, same_cats}
use Rattle.lab_lattice.proofs.CatSets.{has-no_cats, has-one_cat}
use Rattle.fs_path.specs.Split.{pieces, pieces_of_rest}
use Rattle.fs_path.proofs.SplitLemmas.{position_found, position_missing}
use Rattle.lab_text.specs.Names.{Names, same_bytes, place_of}
use Rattle.lab_text.specs.Text.{places_of, first_unknown}

-- ---- categories

-- the categories of names, added one after another
abbrev pub gathered : Names → CatSet → Names → Option CatSet
gathered known cats [] = Some cats
gathered known cats (w ∷ ws) = option_and_then (λ i. gathered known (cats_join cats (one_cat i)) ws) (place_of known w)

regroup : (a b c d : Bool) → b ≡ d → ((a || b) || c) ≡ (a || (d || c))
regroup true b c d e = refl
regroup false b c d e = ap (λ v. v || c) e

turn : (q i : ℕ) → (q == i) ≡ nat_eq i q
turn q i = grind (arith, nat_tests)

-- adding a category and then others is adding all of these at once
one_more : (cats : CatSet) (i : ℕ) (is : List ℕ) → cats_join (cats_join cats (one_cat i)) (set.from_list is) ≡ cats_join cats (set.from_list (i ∷ is))
one_more cats i is = same_cats _ _ (λ q.
    has-cats_join (cats_join cats (one_cat i)) (set.from_list is) q
    ∙ (λ j. (has-cats_join cats (one_cat i) q ∙ ap (λ v. has_cat cats q || v) (has-one_cat i q)) j || set.contains-from_list_nat is q j)
    ∙ regroup (has_cat cats q) (q == i) (list_any (λ y. nat_eq y q) is) (nat_eq i q) (turn q i)
    ∙ sym (has-cats_join cats (set.from_list (i ∷ is)) q ∙ ap (λ v. has_cat cats q || v) (set.contains-from_list_nat (i ∷ is) q)))

none_more : (cats : CatSet) → cats ≡ cats_join cats (set.from_list [])
none_more cats = same_cats _ _ (λ q. sym (has-cats_join cats no_cats q ∙ ap (λ v. has_cat cats q || v) (has-no_cats q) ∙ or-false (has_cat cats q)))

gathered_onto : (known : Names) (cats : CatSet) (ws : Names) → gathered known cats ws ≡ option_map (λ is. cats_join cats (set.from_list is)) (places_of known ws)
gathered_onto known cats [] = ap Some (none_more cats)
gathered_onto known cats (w ∷ ws) = by_place (λ i. gathered_onto known (cats_join cats (one_cat i)) ws) (place_of known w)
  where
    through : (i : ℕ) (r : Option (List ℕ)) → option_map (λ is. cats_join (cats_join cats (one_cat i)) (set.from_list is)) r ≡ option_map (λ is. cats_join cats (set.from_list is)) (option_map (λ is. i ∷ is) r)
    through i None = refl
    through i (Some is) = ap Some (one_more cats i is)

    by_place : ((i : ℕ) → gathered known (cats_join cats (one_cat i)) ws ≡ option_map (λ is. cats_join (cats_join cats (one_cat i)) (set.from_list is)) (places_of known ws))
        → (o : Option ℕ) → option_and_then (λ i. gathered known (cats_join cats (one_cat i)) ws) o ≡ option_map (λ is. cats_join cats (set.from_list is)) (option_and_then (λ i. option_map (λ is. i ∷ is) (places_of known ws)) o)
    by_place rest None = refl
    by_place rest (Some i) = rest i ∙ through i (places_of known ws)

gathered_all : (known : Names) (ws : Names) → option_map set.from_list (places_of known ws) ≡ gathered known no_cats ws
gathered_all known ws = from_none (places_of known ws) ∙ sym (gathered_onto known no_cats ws)
  where
    alone : (is : List ℕ) → set.from_list is ≡ cats_join no_cats (set.from_list is)
    alone is = same_cats _ _ (λ q. sym (has-cats_join no_cats (set.from_list is) q ∙ ap (λ v. v || has_cat (set.from_list is) q) (has-no_cats q)))

    from_none : (r : Option (List ℕ)) → option_map set.from_list r ≡ option_map (λ is. cats_join no_cats (set.from_list is)) r
    from_none None = refl
    from_none (Some is) = ap Some (alone is)

gathered_step : (known : Names) (cats cat new : CatSet) (w : List ℕ) (ws : Names) → option_map one_cat (place_of known w) ≡ Some cat → new ≡ cats_join cats cat → gathered known cats (w ∷ ws) ≡ gathered known new ws
gathered_step known cats cat new w ws h is = by_place (place_of known w) h
  where
    by_place : (o : Option ℕ) → option_map one_cat o ≡ Some cat → option_and_then (λ i. gathered known (cats_join cats (one_cat i)) ws) o ≡ gathered known new ws
    by_place None h = absurd (cc)
    by_place (Some i) h = ap (λ (c : CatSet). gathered known c ws) (ap (cats_join cats) (same_Some (one_cat i) cat h) ∙ sym is)

unknown_step : (known : Names) (at : ℕ) (cat : CatSet) (w : List ℕ) (ws : Names) → option_map one_cat (place_of known w) ≡ Some cat → first_unknown known at (w ∷ ws) ≡ first_unknown known (at + (length w + 1)) ws
unknown_step known at cat w ws h =
    let next : at + length w + 1 ≡ at + (length w + 1) = omega arith in
    by_place (place_of known w) refl h ∙ ap (λ a. first_unknown known a ws) next
  where
    by_place : (o : Option ℕ) → place_of known w ≡ o → option_map one_cat o ≡ Some cat → first_unknown known at (w ∷ ws) ≡ first_unknown known (at + length w + 1) ws
    by_place None e h = absurd (cc)
    by_place (Some i) e h = ap (λ v. cond v (first_unknown known (at + length w + 1) ws) (Some at)) (position_found (same_bytes w) known i e).2

unknown_here : (known : Names) (at : ℕ) (w : List ℕ) (ws : Names) → option_map one_cat (place_of known w) ≡ None → first_unknown known at (w ∷ ws) ≡ Some at
unknown_here known at w ws h = by_place (place_of known w) refl h
  where
    by_place : (o : Option ℕ) → place_of known w ≡ o → option_map one_cat o ≡ None → first_unknown known at (w ∷ ws) ≡ Some at
    by_place None e h = ap (λ v. cond v (first_unknown known (at + length w + 1) ws) (Some at)) (position_missing (same_bytes w) known e).1
    by_place (Some i) e h = absurd (cc)

-- the rest of a comma list is split into its first name and a further rest
pub record IsSplit (rest : Option (List ℕ)) (word : List ℕ) (more : Option (List ℕ)) (text : List ℕ) : Type 0 where
  pub some : rest ≡ Some text
  pub first : pieces 44 text ≡ word ∷ pieces_of_rest 44 more

names_left : {rest more : Option (List ℕ)} {word text : List ℕ} → IsSplit rest word more text → pieces_of_rest 44 rest ≡ word ∷ pieces_of_rest 44 more
names_left h = ap (pieces_of_rest 44) h.some ∙ h.first

-- the first name adds its category, and the names after it are gathered next
pub gathered_more : {rest more : Option (List ℕ)} {word text : List ℕ} → IsSplit rest word more text → (known : Names) (cats cat new : CatSet) → option_map one_cat (place_of known word) ≡ Some cat → new ≡ cats_join cats cat
    → gathered known cats (pieces_of_rest 44 rest) ≡ gathered known new (pieces_of_rest 44 more)
gathered_more {more = more} {word = word} split known cats cat new h is = ap (gathered known cats) (names_left split) ∙ gathered_step known cats cat new word (pieces_of_rest 44 more) h is

-- a name that is known is not the first unknown one
pub unknown_more : {rest more : Option (List ℕ)} {word text : List ℕ} → IsSplit rest word more text → (known : Names) (at : ℕ) (cat : CatSet) → option_map one_cat (place_of known word) ≡ Some cat
    → first_unknown known at (pieces_of_rest 44 rest) ≡ first_unknown known (at + (length word + 1)) (pieces_of_rest 44 more)
unknown_more {more = more} {word = word} split known at cat h = ap (first_unknown known at) (names_left split) ∙ unknown_step known at cat word (pieces_of_rest 44 more) h

pub unknown_now : {rest more : Option (List ℕ)} {word text : List ℕ} → IsSplit rest word more text → (known : Names) (at : ℕ) → option_map one_cat (place_of known word) ≡ None
    → first_unknown known at (pieces_of_rest 44 rest) ≡ Some at
unknown_now {more = more} {word = word} split known at h = ap (first_unknown known at) (names_left split) ∙ unknown_here known at word (pieces_of_rest 44 more) h

-- where no names are left, the categories of all are gathered
pub gathered_end : (known : Names) (cats : CatSet) (all rest : Option (List ℕ)) → gathered known no_cats (pieces_of_rest 44 all) ≡ gathered known cats (pieces_of_rest 44 rest) → rest ≡ None
    → option_map set.from_list (places_of known (pieces_of_rest 44 all)) ≡ Some cats
gathered_end known cats all rest same none = gathered_all known (pieces_of_rest 44 all) ∙ same ∙ ap (λ o. gathered known cats (pieces_of_rest 44 o)) none
