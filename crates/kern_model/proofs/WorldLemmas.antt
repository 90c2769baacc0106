-- What the tests of a world decide.
use Rattle.std.specs.Prelude.{◌≡◌, ℕ, ◌-◌, ◌+◌, ◌≤◌, ◌&&◌, nat_le, Bool, true, false, List, [], ◌∷◌, Option, None, Some, cond, count_by, is_some, length, take, drop, refl}
use Rattle.std.specs.Bool.{Decides}
use Rattle.std.specs.Cmp.Lexicographic.{pointwise_decides}
use Rattle.std.specs.List.{All, list_all}
use Rattle.std.specs.Option.{option_map}
use Rattle.std.proofs.Common.{◌⊎◌, inl, inr, sym, ◌∙◌, ap, subst, arith, get_or}
use Rattle.std.proofs.lemmas.Bool.{cases_Bool, and_parts, and_from, leb-true, le-leb}
use Rattle.std.specs.Cmp.{unsigned_Decides}
use Rattle.std.proofs.lemmas.Bool.Decides.{Decides-at, Decides-and, Decides-like}
use Rattle.std.proofs.lemmas.List.Sums.{sum_by-cons}
use Rattle.std.proofs.lemmas.List.Elements.{All-from_recursion, recursion_from_All}
use Rattle.std.proofs.lemmas.List.{drop_more}
use Rattle.fs_path.specs.Name.{Name}
use Rattle.lab_lattice.specs.Label.{Label, bottom, dominates}
use Rattle.lab_lattice.proofs.Labels.{dominates_both}
use Rattle.kern_model.specs.declared.limits.TheConstants.{MAX_OBJECTS, MAX_PROCS}
use Rattle.kern_model.specs.declared.objects.Body.TheVariants as body
use Rattle.kern_model.specs.declared.world.World.{World}
use Rattle.kern_model.specs.declared.world.WorldObject.{WorldObject}
use Rattle.kern_model.specs.declared.world.WorldProc.{WorldProc}
use Rattle.kern_model.specs.Rules.{same_label}
use Rattle.kern_model.specs.World.{objects_at, procs_at, HasRoom, same_names, parent_names, object_with_path, IsPlaced, ArePlaced, IsWorldObject, IsWorldProc, IsWorld}
use Rattle.kern_model.proofs.MapLemmas.{some_same}

-- ---- names
pub names_same : (a b : List Name) → same_names a b ≡ true → a ≡ b
names_same a b = (pointwise_decides (pointwise_decides unsigned_Decides) a b).0

parents_of : (name : Name) (names : List Name) → parent_names (name ∷ names) ≡ take (length names) (name ∷ names)
parents_of name [] = refl
parents_of name (next ∷ names) = ap (λ ns. name ∷ ns) (parents_of next names)

-- the names of the parent are all but the last
pub parents_are_taken : (names : List Name) → 1 ≤ length names → parent_names names ≡ take (length names - 1) names
parents_are_taken [] some = absurd (omega arith)
parents_are_taken (name ∷ names) some =
    let fewer : length names ≡ length (name ∷ names) - 1 = omega arith in
    parents_of name names ∙ ap (λ n. take n (name ∷ names)) fewer

-- ---- places
pub none_there : {X Y : Type 0} (f : X → Y) (w : Option X) → false ≡ is_some w → option_map f w ≡ None
none_there f None e = refl
none_there f (Some x) e = absurd (cc)

-- a test of the parent decides whether an object may come after others
pub Decides-placed : (before : List WorldObject) (o parent : WorldObject) (b : Bool) → object_with_path before o.path.names ≡ None → object_with_path before (parent_names o.path.names) ≡ Some parent
    → Decides b ((parent.body ≡ body.Dir) × (dominates o.label parent.label ≡ true)) → Decides b (IsPlaced before o)
Decides-placed before o parent b new is test = (
  λ e. let h = test.0 e in record { new = new; parent = parent; parent_given = is; parent_dir = h.0; order = h.1 },
  λ h. let same = some_same h.parent parent (sym h.parent_given ∙ is) in
      test.1 (subst (λ (p : WorldObject). (p.body ≡ body.Dir) × (dominates o.label p.label ≡ true)) same (h.parent_dir, h.order)),
)

-- ---- counts
none_more : (b : Bool) (n : ℕ) → b ≡ false → n ≡ 0 → cond b 1 0 + n ≡ 0
none_more true n e h = absurd (cc)
none_more false n e h = omega (arith, h)

module _ {X : Type 0} (label : X → Label) (most : ℕ) where
  abbrev count_at : List X → Label → ℕ
  count_at xs l = count_by (λ x. same_label (label x) l) xs

  few_or_none : (f : Label → ℕ) (l : Label) (xs : List X) → list_all (λ x. nat_le (f (label x)) most) xs ≡ true → (f l ≤ most) ⊎ (count_at xs l ≡ 0)
  few_or_none f l [] h = inr refl
  few_or_none f l (x ∷ xs) h =
      let parts = and_parts (nat_le (f (label x)) most) (list_all (λ x. nat_le (f (label x)) most) xs) h in
      elim (cases_Bool (same_label (label x) l)) [
        | inl e ↦
            let both = and_parts _ _ e in
            inl (subst (λ (k : Label). f k ≤ most) (dominates_both (label x) l both.0 both.1) (leb-true _ _ parts.0))
        | inr e ↦
            elim (few_or_none f l xs parts.1) as (λ w. (f l ≤ most) ⊎ (count_at (x ∷ xs) l ≡ 0)) [ inl small ↦ inl small | inr none ↦ inr (sum_by-cons (λ y. cond (same_label (label y) l) 1 0) x xs ∙ none_more (same_label (label x) l) (count_at xs l) e none) ]
      ]

  pub few_at_all : (xs : List X) → list_all (λ x. nat_le (count_at xs (label x)) most) xs ≡ true → (l : Label) → count_at xs l ≤ most
  few_at_all xs h l = elim (few_or_none (count_at xs) l xs h) [ inl small ↦ small | inr none ↦ omega (arith, none) ]

  few_at_each : (f : Label → ℕ) → ((l : Label) → f l ≤ most) → (xs : List X) → list_all (λ x. nat_le (f (label x)) most) xs ≡ true
  few_at_each f h [] = refl
  few_at_each f h (x ∷ xs) = and_from _ _ (le-leb _ _ (h (label x))) (few_at_each f h xs)

  pub Decides-few : (xs : List X) → Decides (list_all (λ x. nat_le (count_at xs (label x)) most) xs) ((l : Label) → count_at xs l ≤ most)
  Decides-few xs = (few_at_all xs, λ h. few_at_each (count_at xs) h xs)

-- ---- the world
-- no label has more objects than MAX_OBJECTS
abbrev pub objects_numbered : List WorldObject → Bool
objects_numbered os = list_all (λ (o : WorldObject). nat_le (objects_at o.label os) MAX_OBJECTS) os

-- no label has more processes than MAX_PROCS
abbrev pub procs_numbered : List WorldProc → Bool
procs_numbered ps = list_all (λ (p : WorldProc). nat_le (procs_at p.label ps) MAX_PROCS) ps

-- the tests of the counts decide whether a world has room
pub Decides-room : (w : World) (a b : Bool) → a ≡ objects_numbered w.objects → b ≡ procs_numbered w.procs → Decides (a && b) (HasRoom w)
Decides-room w a b p q =
    Decides-like _ (λ h. record { objects = h.0; procs = h.1 }) (λ h. (h.objects, h.procs))
    (Decides-and a b (Decides-at a _ p (Decides-few (λ (o : WorldObject). o.label) MAX_OBJECTS w.objects)) (Decides-at b _ q (Decides-few (λ (x : WorldProc). x.label) MAX_PROCS w.procs)))

-- what has to hold of a world whose first object is `first`, part by part
pub record Parts (w : World) (first : WorldObject) : Type 0 where
  pub no_names : first.path.names ≡ []
  pub root_body : first.body ≡ body.Dir
  pub root_label : first.label ≡ bottom
  pub placed : ArePlaced (take 1 w.objects) (drop 1 w.objects)
  pub objects : All (IsWorldObject w.top) w.objects
  pub procs : All (IsWorldProc w.top) w.procs
  pub room : HasRoom w

parts_of : (w : World) (first other : WorldObject) (others : List WorldObject) → w.objects ≡ other ∷ others → first ≡ get_or w.objects 0 first → other ≡ first
parts_of w first other others e f = sym (f ∙ ap (λ (os : List WorldObject). get_or os 0 first) e)

pub parts_of_world : (w : World) (first : WorldObject) → first ≡ get_or w.objects 0 first → IsWorld w → Parts w first
parts_of_world w first at is =
    let same = parts_of w first is.first is.others is.objects_are at in
    record {
      no_names = subst (λ (o : WorldObject). o.path.names ≡ []) same is.no_names;
      root_body = subst (λ (o : WorldObject). o.body ≡ body.Dir) same is.root_body;
      root_label = subst (λ (o : WorldObject). o.label ≡ bottom) same is.root_label;
      placed = subst (λ (os : List WorldObject). ArePlaced (take 1 os) (drop 1 os)) (sym is.objects_are) is.others_placed;
      objects = All-from_recursion (IsWorldObject w.top) w.objects is.objects;
      procs = All-from_recursion (IsWorldProc w.top) w.procs is.procs;
      room = is.room;
    }

pub world_of_parts : (w : World) (first : WorldObject) → 1 ≤ length w.objects → first ≡ get_or w.objects 0 first → Parts w first → IsWorld w
world_of_parts w first some at parts =
    let head : w.objects ≡ get_or w.objects 0 first ∷ drop 1 w.objects = drop_more w.objects 0 first some in
    let whole : w.objects ≡ first ∷ drop 1 w.objects = head ∙ ap (λ o. o ∷ drop 1 w.objects) (sym at) in
    record {
      first = first;
      others = drop 1 w.objects;
      objects_are = whole;
      no_names = parts.no_names;
      root_body = parts.root_body;
      root_label = parts.root_label;
      others_placed = subst (λ (before : List WorldObject). ArePlaced before (drop 1 w.objects)) (ap (take 1) whole) parts.placed;
      objects = recursion_from_All (IsWorldObject w.top) w.objects parts.objects;
      procs = recursion_from_All (IsWorldProc w.top) w.procs parts.procs;
      room = parts.room;
    }
