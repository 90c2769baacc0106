-- Children in the lists of their parents, and where each stands, after a change of both.
use Rattle.std.specs.Prelude.{◌≡◌, ◌≢◌, ℕ, ◌+◌, ◌-◌, true, false, not, ◌&&◌, ◌||◌, List, [], ◌∷◌, ◌++◌, Option, Some, None, IsSome, MatchOption, cond, length, refl, slice_get}
use Rattle.std.specs.FinMap as map
use Rattle.std.specs.FinMap.{FinMap, get-empty, get-insert, get-remove}
use Rattle.std.proofs.Common.{sym, ap, ◌∙◌, arith, subst}
use Rattle.std.proofs.Math.Bool.{and-false}
use Rattle.std.proofs.lemmas.Bool.{true≢false}
use Rattle.kern_model.specs.declared.numbers.Pid.{Pid}
use Rattle.kern_model.specs.Keys.{is_pid, pid_cmp, same_pid}
use Rattle.kern_model.proofs.KeyLaws.{pid_cmp_total, pid_cmp_exact}
use Rattle.kern_model.proofs.MapLemmas.{get-insert_same, get_or-absent, get_or-found, get_or-same, never_some, same_key, some_same}
use Rattle.kern_model.proofs.Selections.{get-remove_same}
use Rattle.kern_model.proofs.SortedEntries.{same_itself}
use Rattle.proc_table.specs.declared.positions.Position.{Position}
use Rattle.proc_table.specs.Children.{AreInPlace, IsSwapRemoved, IsSwapRemovedAt, ChildIndex, child_count, is_child, list_at, parent_by}
use Rattle.proc_table.proofs.KeptLemmas.{alone}
use Rattle.proc_table.proofs.PlaceLemmas.{at_end, by_pids, by_places, none_last, not_at_end, past_end}

pub some_there : {X : Type 0} {o : Option X} → None ≡ o → IsSome o → ⊥
some_there {o = None} is some = absurd (cc)
some_there {o = Some x} is some = absurd (cc)

-- ---- a map after a change
module _ {X : Type 0} (m : FinMap pid_cmp X) (k : Pid) where
  unlike : (q : Pid) → q ≢ k → same_pid q k ≡ false
  unlike q apart = elim (same_pid q k) as (λ b. same_pid q k ≡ b → b ≡ false) [
    | true ↦ λ t. absurd (apart (same_key pid_cmp_exact q k t))
    | false ↦ λ _. refl
  ] refl

  put_elsewhere : (x : X) (q : Pid) → q ≢ k → map.get (map.insert m k x) q ≡ map.get m q
  put_elsewhere x q apart = get-insert pid_cmp_total m k x q ∙ ap (λ b. cond b (Some x) (map.get m q)) (unlike q apart)

  taken_elsewhere : (q : Pid) → q ≢ k → map.get (map.remove m k) q ≡ map.get m q
  taken_elsewhere q apart = get-remove pid_cmp_total m k q ∙ ap (λ b. cond b None (map.get m q)) (unlike q apart)

-- ---- lists
module _ (lists : FinMap pid_cmp (List Pid)) (k : Pid) where
  pub listed_there : (l : List Pid) → list_at (map.insert lists k l) k ≡ l
  listed_there l = get_or-found (map.insert lists k l) k [] l (get-insert_same pid_cmp_total lists k l)

  pub listed_elsewhere : (l : List Pid) (q : Pid) → q ≢ k → list_at (map.insert lists k l) q ≡ list_at lists q
  listed_elsewhere l q apart = get_or-same (map.insert lists k l) lists q [] (put_elsewhere lists k l q apart)

  pub dropped_there : list_at (map.remove lists k) k ≡ []
  dropped_there = get_or-absent (map.remove lists k) k [] (get-remove_same pid_cmp_total lists k)

  pub dropped_elsewhere : (q : Pid) → q ≢ k → list_at (map.remove lists k) q ≡ list_at lists q
  dropped_elsewhere q apart = get_or-same (map.remove lists k) lists q [] (taken_elsewhere lists k q apart)

pub no_length : (l : List Pid) → length l ≡ 0 → l ≡ []
no_length [] e = refl
no_length (x ∷ l) e = absurd (omega (arith, e))

-- the list of a parent that is found in the table of lists, and that of one that is not
module _ (table lists : FinMap pid_cmp (List Pid)) (view : table ≡ lists) (parent : Pid) where
  pub list_found : (list : List Pid) → Some list ≡ map.get table parent → list_at lists parent ≡ list
  list_found list is = get_or-found lists parent [] list (sym (is ∙ ap (λ (m : FinMap pid_cmp (List Pid)). map.get m parent) view))

  pub list_absent : None ≡ map.get table parent → list_at lists parent ≡ []
  list_absent is = get_or-absent lists parent [] (sym (is ∙ ap (λ (m : FinMap pid_cmp (List Pid)). map.get m parent) view))

  -- a child is removed from a list, which is dropped where nothing is left of it
  module _ (place : ℕ) (old l : List Pid) (is : Some old ≡ map.get table parent) (swap_remove : IsSwapRemoved old place l) where
    swap_remove_there : (new : FinMap pid_cmp (List Pid)) → list_at new parent ≡ l → ((q : Pid) → q ≢ parent → list_at new q ≡ list_at lists q) → IsSwapRemovedAt lists parent place new
    swap_remove_there new now others = record {
      its = subst (λ (xs : List Pid). IsSwapRemoved xs place (list_at new parent)) (sym (list_found old is)) (subst (λ (xs : List Pid). IsSwapRemoved old place xs) (sym now) swap_remove);
      others = others;
    }

    module _ (mid : FinMap pid_cmp (List Pid)) (set : mid ≡ map.insert table parent l) where
      set_lists : mid ≡ map.insert lists parent l
      set_lists = set ∙ ap (λ (m : FinMap pid_cmp (List Pid)). map.insert m parent l) view

      pub set_list : list_at mid parent ≡ l
      set_list = ap (λ (m : FinMap pid_cmp (List Pid)). list_at m parent) set_lists ∙ listed_there lists parent l

      set_others : (q : Pid) → q ≢ parent → list_at mid q ≡ list_at lists q
      set_others q other = ap (λ (m : FinMap pid_cmp (List Pid)). list_at m q) set_lists ∙ listed_elsewhere lists parent l q other

      pub swap_remove_set : IsSwapRemovedAt lists parent place mid
      swap_remove_set = swap_remove_there mid set_list set_others

      module _ (empty : length l ≡ 0) (new : FinMap pid_cmp (List Pid)) (removed : new ≡ map.remove mid parent) where
        pub dropped_list : list_at new parent ≡ l
        dropped_list = ap (λ (m : FinMap pid_cmp (List Pid)). list_at m parent) removed ∙ dropped_there mid parent ∙ sym (no_length l empty)

        pub swap_remove_dropped : IsSwapRemovedAt lists parent place new
        swap_remove_dropped = swap_remove_there new dropped_list (λ q other. ap (λ (m : FinMap pid_cmp (List Pid)). list_at m q) removed ∙ dropped_elsewhere mid parent q other ∙ set_others q other)

abbrev child_index : FinMap pid_cmp (List Pid) → FinMap pid_cmp Position → ChildIndex
child_index lists positions = record { lists = lists; positions = positions }

abbrev position_at : Pid → ℕ → Position
position_at q place = record { parent = q; place = place }

-- ---- no child
pub none_placed : AreInPlace (child_index map.empty map.empty)
none_placed = record {
  there = λ c position is. absurd (never_some (map.get map.empty c) position (get-empty pid_cmp c) is);
  placed = λ q place c is. absurd (never_some (slice_get (list_at map.empty q) place) c (ap (λ (l : List Pid). slice_get l place) (get_or-absent map.empty q [] (get-empty pid_cmp q))) is);
}

pub no_children : (q c : Pid) → is_child (child_index map.empty map.empty) q c ≡ false
unfolding is_child
no_children q c = ap (λ o. is_pid q (parent_by o)) (get-empty pid_cmp c)

-- ---- a child of a parent
module _ (lists : FinMap pid_cmp (List Pid)) (positions : FinMap pid_cmp Position) (are : AreInPlace (child_index lists positions)) where
  -- ---- a child comes
  module _ (parent child : Pid) (absent : map.get positions child ≡ None) where
    abbrev more_lists : FinMap pid_cmp (List Pid)
    more_lists = map.insert lists parent (list_at lists parent ++ child ∷ [])

    abbrev last_position : Position
    last_position = position_at parent (length (list_at lists parent))

    abbrev more_positions : FinMap pid_cmp Position
    more_positions = map.insert positions child last_position

    end_there : slice_get (list_at more_lists parent) (length (list_at lists parent)) ≡ Some child
    end_there = ap (λ (l : List Pid). slice_get l (length (list_at lists parent))) (listed_there lists parent (list_at lists parent ++ child ∷ [])) ∙ at_end (list_at lists parent) child

    before_end : (i : ℕ) → i ≢ length (list_at lists parent) → slice_get (list_at more_lists parent) i ≡ slice_get (list_at lists parent) i
    before_end i apart = ap (λ (l : List Pid). slice_get l i) (listed_there lists parent (list_at lists parent ++ child ∷ [])) ∙ not_at_end (list_at lists parent) child i apart

    stays : (q : Pid) (i : ℕ) (c : Pid) → slice_get (list_at lists q) i ≡ Some c → slice_get (list_at more_lists q) i ≡ Some c
    stays q i c is = by_pids q parent
        (λ same.
        let its : slice_get (list_at lists parent) i ≡ Some c = subst (λ (q : Pid). slice_get (list_at lists q) i ≡ Some c) same is in
        let apart : i ≢ length (list_at lists parent) = λ e. never_some (slice_get (list_at lists parent) i) c (ap (slice_get (list_at lists parent)) e ∙ past_end (list_at lists parent)) its in
        subst (λ (q : Pid). slice_get (list_at more_lists q) i ≡ Some c) (sym same) (before_end i apart ∙ its))
        (λ other. ap (λ (l : List Pid). slice_get l i) (listed_elsewhere lists parent (list_at lists parent ++ child ∷ []) q other) ∙ is)

    kept_position : (c : Pid) (position : Position) → map.get positions c ≡ Some position → map.get more_positions c ≡ Some position
    kept_position c position is = put_elsewhere positions child last_position c (λ e. never_some (map.get positions c) position (ap (map.get positions) e ∙ absent) is) ∙ is

    pub added : AreInPlace (child_index more_lists more_positions)
    added = record {
      there = λ c position is. by_pids c child
          (λ same.
          let its : last_position ≡ position = some_same _ _ (sym (get-insert_same pid_cmp_total positions child last_position) ∙ ap (map.get more_positions) (sym same) ∙ is) in
          subst (λ (p : Position). slice_get (list_at more_lists p.parent) p.place ≡ Some c) its (end_there ∙ ap Some (sym same)))
          (λ other. stays position.parent position.place c (are.there c position (sym (put_elsewhere positions child last_position c other) ∙ is)));
      placed = λ q i c is. by_pids q parent
          (λ same.
          let its : slice_get (list_at more_lists parent) i ≡ Some c = subst (λ (q : Pid). slice_get (list_at more_lists q) i ≡ Some c) same is in
          subst (λ (q : Pid). map.get more_positions c ≡ Some (position_at q i)) (sym same)
          (by_places i (length (list_at lists parent))
          (λ last.
          let mine : child ≡ c = some_same _ _ (sym end_there ∙ ap (slice_get (list_at more_lists parent)) (sym last) ∙ its) in
          ap (map.get more_positions) (sym mine) ∙ get-insert_same pid_cmp_total positions child last_position ∙ ap (λ j. Some (position_at parent j)) (sym last))
          (λ apart. kept_position c (position_at parent i) (are.placed parent i c (sym (before_end i apart) ∙ its)))))
          (λ other. kept_position c (position_at q i) (are.placed q i c (sym (ap (λ (l : List Pid). slice_get l i) (listed_elsewhere lists parent (list_at lists parent ++ child ∷ []) q other)) ∙ is)));
    }

    -- so it is where the place was counted before
    pub as_added : (place : ℕ) → place ≡ length (list_at lists parent) → (lists' : FinMap pid_cmp (List Pid)) (positions' : FinMap pid_cmp Position)
        → lists' ≡ more_lists → positions' ≡ map.insert positions child (position_at parent place) → child_index more_lists more_positions ≡ child_index lists' positions'
    as_added place is lists' positions' lists_are positions_are =
        ap (λ (l : FinMap pid_cmp (List Pid)). child_index l more_positions) (sym lists_are)
        ∙ ap (λ (p : FinMap pid_cmp Position). child_index lists' p) (ap (λ i. map.insert positions child (position_at parent i)) (sym is) ∙ sym positions_are)

    pub added_child : (q c : Pid) → is_child (child_index more_lists more_positions) q c ≡ (same_pid q parent && same_pid c child || is_child (child_index lists positions) q c)
    unfolding is_child
    added_child q c =
        ap (λ o. is_pid q (parent_by o)) (get-insert pid_cmp_total positions child last_position c)
        ∙ elim (same_pid c child) as (λ b. same_pid c child ≡ b → is_pid q (parent_by (cond b (Some last_position) (map.get positions c))) ≡ (same_pid q parent && b || is_pid q (parent_by (map.get positions c)))) [
          | true ↦ λ t. sym (ap (λ o. same_pid q parent && true || is_pid q (parent_by o)) (ap (map.get positions) (same_key pid_cmp_exact c child t) ∙ absent) ∙ alone (same_pid q parent))
          | false ↦ λ _. sym (ap (λ b. b || is_pid q (parent_by (map.get positions c))) (and-false (same_pid q parent)))
        ] refl

  -- ---- one of a parent's children
  pub is_first : (q c : Pid) (i : ℕ) → slice_get (list_at lists q) i ≡ Some c → is_child (child_index lists positions) q c ≡ true
  unfolding is_child
  is_first q c i is = ap (λ o. is_pid q (parent_by o)) (are.placed q i c is) ∙ same_itself pid_cmp_total q

  pub none_first : (q : Pid) → slice_get (list_at lists q) (length (list_at lists q) - 1) ≡ None → (c : Pid) → is_child (child_index lists positions) q c ≡ false
  unfolding is_child
  none_first q none c = elim (map.get positions c) as (λ o. map.get positions c ≡ o → is_pid q (parent_by o) ≡ false) [
    | None ↦ λ _. refl
    | Some position ↦ λ is. elim (same_pid q position.parent) as (λ b. same_pid q position.parent ≡ b → b ≡ false) [
      | true ↦ λ t. absurd (never_some (slice_get (list_at lists q) position.place) c (none_last (list_at lists q) none position.place)
          (ap (λ (q : Pid). slice_get (list_at lists q) position.place) (same_key pid_cmp_exact q position.parent t) ∙ are.there c position is))
      | false ↦ λ _. refl
    ] refl
  ] refl

  pub first_is : (q : Pid) (o : Option Pid) → o ≡ slice_get (list_at lists q) (length (list_at lists q) - 1)
      → MatchOption o ((c : Pid) → is_child (child_index lists positions) q c ≡ false) (λ c. is_child (child_index lists positions) q c ≡ true)
  first_is q None is = none_first q (sym is)
  first_is q (Some c) is = is_first q c (length (list_at lists q) - 1) (sym is)

-- ---- a child goes
module _ (lists : FinMap pid_cmp (List Pid)) (positions : FinMap pid_cmp Position) (child : Pid) where
  pub gone_child : (new : FinMap pid_cmp (List Pid)) (q c : Pid) → is_child (child_index new (map.remove positions child)) q c ≡ (not (same_pid c child) && is_child (child_index lists positions) q c)
  unfolding is_child
  gone_child new q c =
      ap (λ o. is_pid q (parent_by o)) (get-remove pid_cmp_total positions child c)
      ∙ elim (same_pid c child) as (λ b. is_pid q (parent_by (cond b None (map.get positions c))) ≡ (not b && is_pid q (parent_by (map.get positions c)))) [ true ↦ refl | false ↦ refl ]

  its_parent : (position : Position) → map.get positions child ≡ Some position → (q : Pid) → is_child (child_index lists positions) q child ≡ true → q ≡ position.parent
  unfolding is_child
  its_parent position is q t = same_key pid_cmp_exact q position.parent (sym (ap (λ o. is_pid q (parent_by o)) is) ∙ t)

  pub no_parent : map.get positions child ≡ None → (q : Pid) → is_child (child_index lists positions) q child ≡ false
  unfolding is_child
  no_parent is q = ap (λ o. is_pid q (parent_by o)) is

  pub absent_position : ((q : Pid) → is_child (child_index lists positions) q child ≡ false) → map.get positions child ≡ None
  unfolding is_child
  absent_position none = elim (map.get positions child) as (λ o. map.get positions child ≡ o → o ≡ None) [
    | None ↦ λ _. refl
    | Some position ↦ λ is. absurd (true≢false (sym (same_itself pid_cmp_total position.parent) ∙ sym (ap (λ o. is_pid position.parent (parent_by o)) is) ∙ none position.parent))
  ] refl

module _ (lists : FinMap pid_cmp (List Pid)) (positions : FinMap pid_cmp Position) (are : AreInPlace (child_index lists positions)) (child : Pid) (position : Position) (is : map.get positions child ≡ Some position)
    (new : FinMap pid_cmp (List Pid)) (swap_remove : IsSwapRemovedAt lists position.parent position.place new) where
  abbrev end : ℕ
  end = length (list_at new position.parent)

  stood : slice_get (list_at lists position.parent) position.place ≡ Some child
  stood = are.there child position is

  -- another position is not the child's
  another : (q : Pid) (i : ℕ) (c : Pid) → map.get positions c ≡ Some (position_at q i) → position ≢ position_at q i → c ≢ child
  another q i c its apart = λ e. apart (some_same _ _ (sym is ∙ ap (map.get positions) (sym e) ∙ its))

  not_end : (i : ℕ) (c : Pid) → slice_get (list_at new position.parent) i ≡ Some c → i ≢ end
  not_end i c its = λ e. never_some (slice_get (list_at new position.parent) i) c (ap (slice_get (list_at new position.parent)) e ∙ past_end (list_at new position.parent)) its

  -- who stood at a place of the parent's list, neither the child's nor the last, stands there
  stands : (q : Pid) (i : ℕ) (c : Pid) → slice_get (list_at lists q) i ≡ Some c → (q ≡ position.parent → (i ≢ position.place) × (i ≢ end)) → slice_get (list_at new q) i ≡ Some c
  stands q i c was apart = by_pids q position.parent
      (λ same. subst (λ (q : Pid). slice_get (list_at new q) i ≡ Some c) (sym same)
      (swap_remove.its.same i (apart same).0 (apart same).1 ∙ subst (λ (q : Pid). slice_get (list_at lists q) i ≡ Some c) same was))
      (λ other. ap (λ (l : List Pid). slice_get l i) (swap_remove.others q other) ∙ was)

  -- and the other way round
  stood_too : (q : Pid) (i : ℕ) (c : Pid) → slice_get (list_at new q) i ≡ Some c → (q ≡ position.parent → (i ≢ position.place) × (i ≢ end)) → map.get positions c ≡ Some (position_at q i)
  stood_too q i c now apart = are.placed q i c (by_pids q position.parent
      (λ same. subst (λ (q : Pid). slice_get (list_at lists q) i ≡ Some c) (sym same)
      (sym (swap_remove.its.same i (apart same).0 (apart same).1) ∙ subst (λ (q : Pid). slice_get (list_at new q) i ≡ Some c) same now))
      (λ other. sym (ap (λ (l : List Pid). slice_get l i) (swap_remove.others q other)) ∙ now))

  not_its : (q : Pid) (i : ℕ) (c : Pid) → slice_get (list_at lists q) i ≡ Some c → c ≢ child → q ≡ position.parent → i ≢ position.place
  not_its q i c was other same = λ e. other (some_same _ _ (sym was ∙ ap (λ (q : Pid). slice_get (list_at lists q) i) same ∙ ap (slice_get (list_at lists position.parent)) e ∙ stood))

  left_position : (c : Pid) (p : Position) → map.get (map.remove positions child) c ≡ Some p → (c ≢ child) × (map.get positions c ≡ Some p)
  left_position c p its =
      let other : c ≢ child = λ e. never_some (map.get (map.remove positions child) c) p (ap (map.get (map.remove positions child)) e ∙ get-remove_same pid_cmp_total positions child) its in
      (other, sym (taken_elsewhere positions child c other) ∙ its)

  -- it stood last
  module _ (none : slice_get (list_at new position.parent) position.place ≡ None) where
    nobody_last : (i : ℕ) (c : Pid) → slice_get (list_at lists position.parent) i ≡ Some c → i ≢ position.place → i ≢ end
    nobody_last i c was apart = λ e.
        let moved : slice_get (list_at new position.parent) position.place ≡ slice_get (list_at lists position.parent) end = swap_remove.its.moved (λ f. apart (e ∙ sym f)) in
        never_some (slice_get (list_at new position.parent) position.place) c none (moved ∙ ap (slice_get (list_at lists position.parent)) (sym e) ∙ was)

    pub last_gone : AreInPlace (child_index new (map.remove positions child))
    last_gone = record {
      there = λ c p its.
          let old = left_position c p its in
          let was = are.there c p old.1 in
          stands p.parent p.place c was (λ same.
          let apart = not_its p.parent p.place c was old.0 same in
          (apart, nobody_last p.place c (subst (λ (q : Pid). slice_get (list_at lists q) p.place ≡ Some c) same was) apart));
      placed = λ q i c now.
          let apart : q ≡ position.parent → (i ≢ position.place) × (i ≢ end) = λ same.
          let here = subst (λ (q : Pid). slice_get (list_at new q) i ≡ Some c) same now in
          ((λ e. never_some (slice_get (list_at new position.parent) position.place) c none (ap (slice_get (list_at new position.parent)) (sym e) ∙ here)), not_end i c here) in
          let its = stood_too q i c now apart in
          let other = another q i c its (λ e. (apart (sym (ap (λ (p : Position). p.parent) e))).0 (sym (ap (λ (p : Position). p.place) e))) in
          taken_elsewhere positions child c other ∙ its;
    }

  -- or another one moved to its place
  module _ (moved : Pid) (here : slice_get (list_at new position.parent) position.place ≡ Some moved) where
    from_end : position.place ≢ end
    from_end = not_end position.place moved here

    was_last : map.get positions moved ≡ Some (position_at position.parent end)
    was_last = are.placed position.parent end moved (sym (swap_remove.its.moved from_end) ∙ here)

    apart : moved ≢ child
    apart = another position.parent end moved was_last (λ e. from_end (ap (λ (p : Position). p.place) e))

    still_there : map.get (map.remove positions child) moved ≡ Some (position_at position.parent end)
    still_there = taken_elsewhere positions child moved apart ∙ was_last

    pub can_change : IsSome (map.get (map.remove positions child) moved)
    can_change = subst (λ o. IsSome o) (sym still_there) refl

    abbrev new_positions : FinMap pid_cmp Position
    new_positions = map.insert (map.remove positions child) moved position

    pub moved_there : AreInPlace (child_index new new_positions)
    moved_there = record {
      there = λ c p its. by_pids c moved
          (λ same.
          let mine : position ≡ p = some_same _ _ (sym (get-insert_same pid_cmp_total (map.remove positions child) moved position) ∙ ap (map.get new_positions) (sym same) ∙ its) in
          subst (λ (p : Position). slice_get (list_at new p.parent) p.place ≡ Some c) mine (here ∙ ap Some (sym same)))
          (λ other.
          let old = left_position c p (sym (put_elsewhere (map.remove positions child) moved position c other) ∙ its) in
          let was = are.there c p old.1 in
          stands p.parent p.place c was (λ same.
          (not_its p.parent p.place c was old.0 same, λ e. other (some_same _ _ (sym (are.there c p old.1) ∙ ap (λ (q : Pid). slice_get (list_at lists q) p.place) same ∙ ap (slice_get (list_at lists position.parent)) e ∙ are.there moved (position_at position.parent end) was_last)))));
      placed = λ q i c now.
          let rest : (q ≡ position.parent → i ≢ position.place) → map.get new_positions c ≡ Some (position_at q i) = λ elsewhere.
          let ends : q ≡ position.parent → i ≢ end = λ same. not_end i c (subst (λ (q : Pid). slice_get (list_at new q) i ≡ Some c) same now) in
          let its = stood_too q i c now (λ same. (elsewhere same, ends same)) in
          let other = another q i c its (λ e. elsewhere (sym (ap (λ (p : Position). p.parent) e)) (sym (ap (λ (p : Position). p.place) e))) in
          let unmoved : c ≢ moved = λ e.
          let one : position_at position.parent end ≡ position_at q i = some_same _ _ (sym was_last ∙ ap (map.get positions) (sym e) ∙ its) in
          ends (sym (ap (λ (p : Position). p.parent) one)) (sym (ap (λ (p : Position). p.place) one)) in
          put_elsewhere (map.remove positions child) moved position c unmoved ∙ taken_elsewhere positions child c other ∙ its in
          by_pids q position.parent
          (λ same. by_places i position.place
          (λ at.
          let mine : moved ≡ c = some_same _ _ (sym here ∙ ap (slice_get (list_at new position.parent)) (sym at) ∙ subst (λ (q : Pid). slice_get (list_at new q) i ≡ Some c) same now) in
          let is_at : position ≡ position_at q i = ap (λ (q : Pid). position_at q position.place) (sym same) ∙ ap (λ j. position_at q j) (sym at) in
          ap (map.get new_positions) (sym mine) ∙ get-insert_same pid_cmp_total (map.remove positions child) moved position ∙ ap Some is_at)
          (λ elsewhere. rest (λ _. elsewhere)))
          (λ other. rest (λ same. absurd (other same)));
    }

    moved_parent : (c : Pid) → parent_by (map.get new_positions c) ≡ parent_by (map.get (map.remove positions child) c)
    moved_parent c =
        ap parent_by (get-insert pid_cmp_total (map.remove positions child) moved position c)
        ∙ elim (same_pid c moved) as (λ b. same_pid c moved ≡ b → parent_by (cond b (Some position) (map.get (map.remove positions child) c)) ≡ parent_by (map.get (map.remove positions child) c)) [
          | true ↦ λ t. sym (ap parent_by (ap (map.get (map.remove positions child)) (same_key pid_cmp_exact c moved t) ∙ still_there))
          | false ↦ λ _. refl
        ] refl

    pub moved_child : (q c : Pid) → is_child (child_index new new_positions) q c ≡ is_child (child_index new (map.remove positions child)) q c
    unfolding is_child
    moved_child q c = ap (is_pid q) (moved_parent c)

  pub one_less : (q : Pid) → is_child (child_index lists positions) q child ≡ true → child_count (child_index new positions) q + 1 ≡ child_count (child_index lists positions) q
  one_less q t = subst (λ (q : Pid). child_count (child_index new positions) q + 1 ≡ child_count (child_index lists positions) q) (sym (its_parent lists positions child position is q t)) swap_remove.its.size
