-- A process that ends: in a state and in its part, and what the state is then.
use Rattle.std.specs.Prelude.{◌≡◌, ◌&&◌, ◌||◌, not, Bool, true, false, List, [], ◌∷◌, ◌++◌, Option, Some, None, refl, cond}
use Rattle.std.specs.List.{AllByRecursion, flat_map}
use Rattle.std.specs.Ordering.{eq_by_cmp}
use Rattle.std.specs.FinMap as table
use Rattle.std.specs.FinMap.{FinMap, find, get-insert, get-remove, get-entries}
use Rattle.std.proofs.Common.{sym, ◌∙◌, ap, subst, arith, inl, inr}
use Rattle.std.proofs.lemmas.Bool.{and_parts, or_cases, or_parts, true≢false, false_from_ne_true}
use Rattle.lab_lattice.specs.Label.{Label}
use Rattle.kern_model.specs.declared.calls.Ending.{Ending}
use Rattle.kern_model.specs.declared.numbers.Pid.{Pid}
use Rattle.kern_model.specs.Descriptors.{Descriptor, changes_of_close}
use Rattle.kern_model.specs.Isolation.{low, Kept}
use Rattle.kern_model.specs.Keys.{pid_cmp, same_pid, is_pid}
use Rattle.kern_model.specs.Maps.{where_key}
use Rattle.kern_model.specs.ProcessRows.{process_after_end, changes_after_end, ending_of}
use Rattle.kern_model.specs.State.{State, Process, Change, SetProcess, DropProcess, apply_change, apply_changes}
use Rattle.kern_model.specs.Valid.{IsValid, IsThere, IsValidEnd, IsValidProcess}
use Rattle.kern_model.proofs.KeyLaws.{pid_cmp_total, pid_cmp_exact}
use Rattle.kern_model.proofs.MapLemmas.{each-entries, each-insert, each-remove, get-insert_same, never_some, same_key, some_same}
use Rattle.iso_laws.proofs.AllLemmas.{all-append, all_each, all_when}
use Rattle.iso_laws.proofs.Changes.{kept_procs, KeptProcess, kept_of, kept_process}
use Rattle.iso_laws.proofs.ClosingLemmas.{each_closing}
use Rattle.iso_laws.proofs.Part.{part_by_number, low_pid, as_is, part_changes, part_changes-append, sees_first, hides_first, part_of_low, part_of_high, change_label}
use Rattle.kern_model.proofs.Selections.{list_after, flat_map-select, get-remove_other}
use Rattle.iso_laws.proofs.files.Closing.{Preserves, preserved_over, part_changes-flat_map, closing_low, closing_hidden, kept_closed}
use Rattle.iso_laws.proofs.files.Closed.{after_closing, valid_closed}
use Rattle.std.proofs.lemmas.Cmp.{eq_by_cmp_equiv}
use Rattle.iso_laws.proofs.ValidIn.{IsValidAlone}
use Rattle.kern_model.proofs.StateLemmas.{apply_changes-append}

pub is_pid_some : (a : Pid) (o : Option Pid) → is_pid a o ≡ true → o ≡ Some a
is_pid_some a None h = absurd (true≢false (sym h))
is_pid_some a (Some b) h = ap (λ (q : Pid). Some q) (sym (same_key pid_cmp_exact a b h))

-- the descriptors of a process
abbrev pub is_held_by : Pid → Descriptor → Bool
is_held_by who d = same_pid d.who who

-- whether a process changes where another one ends
abbrev is_left : Pid → Process → Pid × Process → Bool
is_left who p e = not (same_pid e.0 who) && (is_pid who e.1.parent || is_pid e.0 p.parent)

-- ---- in the part
module _ (l : Label) (s : State) (kept : Kept l s) (valid : IsValid s) (who : Pid) (p : Process) (how : Ending) where
  abbrev part_s : State
  part_s = part_by_number l s

  survivor_seen : (q : Pid) (x : Process) → low l q.label ≡ true → changes_after_end who p how (q, x) ≡ part_changes l s.top (changes_after_end who p how (q, x))
  survivor_seen q x is_low =
      elim (is_left who p (q, x)) as (λ b. cond b (SetProcess q (process_after_end who p how q x) ∷ []) [] ≡ part_changes l s.top (cond b (SetProcess q (process_after_end who p how q x) ∷ []) [])) [
        | true ↦ sym (part_of_low l s.top (SetProcess q (process_after_end who p how q x) ∷ []) (is_low, tt))
        | false ↦ refl
      ]

  survivor_hidden : (q : Pid) (x : Process) → low l q.label ≡ false → part_changes l s.top (changes_after_end who p how (q, x)) ≡ []
  survivor_hidden q x high = part_of_high l s.top (changes_after_end who p how (q, x)) (all_when (λ c. low l (change_label c) ≡ false) (is_left who p (q, x)) (SetProcess q (process_after_end who p how q x) ∷ []) (λ _. (high, tt)))

  survivors_low : flat_map (changes_after_end who p how) (table.entries part_s.procs) ≡ part_changes l s.top (flat_map (changes_after_end who p how) (table.entries s.procs))
  unfolding part_by_number
  survivors_low =
      let seen : Pid → Process → List Change = λ q x. part_changes l s.top (changes_after_end who p how (q, x)) in
      let in_part : Pid → Process → List Change = λ q x. changes_after_end who p how (q, x) in
      flat_map-select pid_cmp_total pid_cmp_exact (where_key (low_pid l) (as_is {X = Process})) seen in_part s.procs (λ q x e.
      elim (low l q.label) as (λ b. low l q.label ≡ b → list_after in_part q (cond b (Some x) None) ≡ seen q x) [
        | true ↦ λ is_low. survivor_seen q x is_low
        | false ↦ λ high. sym (survivor_hidden q x high)
      ] refl)
      ∙ sym (part_changes-flat_map l s.top (changes_after_end who p how) (table.entries s.procs))

  -- a process with a Low number ends in the part as in the state
  pub ending_low : low l who.label ≡ true → ending_of part_s who p how ≡ part_changes l s.top (ending_of s who p how)
  unfolding ending_of
  ending_low is_low =
      let goes : Descriptor → Bool = is_held_by who in
      let left : List Change = flat_map (changes_after_end who p how) (table.entries s.procs) in
      (λ i. DropProcess who ∷ (closing_low l s kept valid goes i ++ survivors_low i))
      ∙ ap (λ cs. DropProcess who ∷ cs) (sym (part_changes-append l s.top (changes_of_close s goes) left))
      ∙ sym (sees_first l s.top (DropProcess who) (changes_of_close s goes ++ left) is_low)

  -- the part does not see that another process ends
  pub ending_hidden : table.get s.procs who ≡ Some p → low l who.label ≡ false → part_changes l s.top (ending_of s who p how) ≡ []
  unfolding ending_of
  ending_hidden is high =
      let goes : Descriptor → Bool = is_held_by who in
      let left : List Change = flat_map (changes_after_end who p how) (table.entries s.procs) in
      let none : part_changes l s.top left ≡ [] =
      part_of_high l s.top left
      (all_each (λ (e : Pid × Process). is_left who p e ≡ true → low l e.0.label ≡ false) (λ c. low l (change_label c) ≡ false) (changes_after_end who p how)
      (λ e h. all_when (λ c. low l (change_label c) ≡ false) (is_left who p e) (SetProcess e.0 (process_after_end who p how e.0 e.1) ∷ []) (λ t. (h t, tt))) (table.entries s.procs)
      (each-entries pid_cmp_total pid_cmp_exact (λ (q : Pid) (x : Process). is_left who p (q, x) ≡ true → low l q.label ≡ false) s.procs (λ q x e t.
      elim (or_cases (is_pid who x.parent) (is_pid q p.parent) (and_parts _ _ t).1) as (λ w. low l q.label ≡ false) [
        | inl child ↦ sym (kept.parents q who x e (is_pid_some who x.parent child)) ∙ high
        | inr parent ↦ kept.parents who q p is (is_pid_some q p.parent parent) ∙ high
      ]))) in
      hides_first l s.top (DropProcess who) (changes_of_close s goes ++ left) high
      ∙ part_changes-append l s.top (changes_of_close s goes) left
      ∙ ap (λ cs. cs ++ part_changes l s.top left) (closing_hidden l s kept valid goes (λ d _ gone. ap (λ (q : Pid). low l q.label) (same_key pid_cmp_exact d.who who gone) ∙ high))
      ∙ none

  kept_gone : Kept l (apply_change s (DropProcess who))
  kept_gone = kept_procs l s kept (table.remove s.procs who) (each-remove pid_cmp_total pid_cmp_exact (KeptProcess l) s.procs (kept_of l s kept) who)

  -- what a process is once another one ended is on its side
  kept_left : table.get s.procs who ≡ Some p → (q : Pid) (x : Process) → table.get s.procs q ≡ Some x → KeptProcess l q (process_after_end who p how q x)
  kept_left is q x e =
      let old : KeptProcess l q x = kept_of l s kept q x e in
      record {
        label = old.label;
        parent = elim (is_pid who x.parent) as (λ b. (r : Pid) → cond b None x.parent ≡ Some r → low l r.label ≡ low l q.label) [ true ↦ λ r none. absurd (never_some None r refl none) | false ↦ old.parent ];
        ended = elim (is_pid q p.parent) as (λ b. is_pid q p.parent ≡ b → AllByRecursion (λ (e : Pid × Ending). low l e.0.label ≡ low l q.label) (cond b (x.ended ++ (who, how) ∷ []) x.ended)) [
          | true ↦ λ parent. all-append (λ (e : Pid × Ending). low l e.0.label ≡ low l q.label) x.ended ((who, how) ∷ []) old.ended (sym (kept.parents who q p is (is_pid_some q p.parent parent)), tt)
          | false ↦ λ _. old.ended
        ] refl;
        fds = old.fds;
        cwd = old.cwd;
      }

  -- a kept state stays kept
  pub kept_ended : table.get s.procs who ≡ Some p → Kept l (apply_changes s (ending_of s who p how))
  unfolding ending_of
  kept_ended is =
      let goes : Descriptor → Bool = is_held_by who in
      let left : List Change = flat_map (changes_after_end who p how) (table.entries s.procs) in
      let gone : State = apply_change s (DropProcess who) in
      subst (Kept l) (sym (apply_changes-append gone (changes_of_close s goes) left))
      (preserved_over (Kept l) left
      (all_each (λ (e : Pid × Process). KeptProcess l e.0 (process_after_end who p how e.0 e.1)) (Preserves (Kept l)) (changes_after_end who p how)
      (λ e h. all_when (Preserves (Kept l)) (is_left who p e) (SetProcess e.0 (process_after_end who p how e.0 e.1) ∷ []) (λ _. (λ u kept_u. kept_process l u kept_u e.0 _ h, tt))) (table.entries s.procs)
      (each-entries pid_cmp_total pid_cmp_exact (λ (q : Pid) (x : Process). KeptProcess l q (process_after_end who p how q x)) s.procs (kept_left is)))
      (apply_changes gone (changes_of_close s goes)) (kept_closed l s kept valid goes gone kept_gone refl))

-- ---- a valid state stays valid
-- processes may be set before descriptors close, or after
closes_beside : (m : FinMap pid_cmp Process) (cs : List Change) → AllByRecursion (λ (c : Change). (t : State) → apply_change (record t { procs = m }) c ≡ record (apply_change t c) { procs = m }) cs → (t : State) → apply_changes (record t { procs = m }) cs ≡ record (apply_changes t cs) { procs = m }
closes_beside m [] h t = refl
closes_beside m (c ∷ cs) h t = ap (λ (u : State). apply_changes u cs) (h.0 t) ∙ closes_beside m cs h.1 (apply_change t c)

-- changes of processes are the same in a state that has other descriptions and objects
sets_beside : (s t : State) (cs : List Change) → AllByRecursion (λ (c : Change). (m : FinMap pid_cmp Process) → apply_change (record t { procs = m }) c ≡ record t { procs = (apply_change (record s { procs = m }) c).procs }) cs
    → ((m : FinMap pid_cmp Process) → AllByRecursion (λ (c : Change). apply_change (record s { procs = m }) c ≡ record s { procs = (apply_change (record s { procs = m }) c).procs }) cs) → (m : FinMap pid_cmp Process) → apply_changes (record t { procs = m }) cs ≡ record t { procs = (apply_changes (record s { procs = m }) cs).procs }
sets_beside s t [] h own m = refl
sets_beside s t (c ∷ cs) h own m =
    let next : FinMap pid_cmp Process = (apply_change (record s { procs = m }) c).procs in
    ap (λ (u : State). apply_changes u cs) (h.0 m)
    ∙ sets_beside s t cs h.1 (λ n. (own n).1) next
    ∙ ap (λ (u : State). record t { procs = (apply_changes u cs).procs }) (sym (own m).0)

module _ (s : State) (valid : IsValid s) (who : Pid) (p : Process) (is : table.get s.procs who ≡ Some p) (how : Ending) where
  abbrev left : List Change
  left = flat_map (changes_after_end who p how) (table.entries s.procs)

  abbrev gone : State
  gone = apply_change s (DropProcess who)

  -- the processes once it ended
  abbrev living : FinMap pid_cmp Process
  living = (apply_changes gone left).procs

  -- what holds of setting each process that another one leaves holds of each change of them
  each_survivor : (P : Change → Type 0) → ((q : Pid) (x : Process) → table.get s.procs q ≡ Some x → eq_by_cmp pid_cmp q who ≡ false → P (SetProcess q (process_after_end who p how q x))) → AllByRecursion P left
  each_survivor P h =
      all_each (λ (e : Pid × Process). is_left who p e ≡ true → P (SetProcess e.0 (process_after_end who p how e.0 e.1))) P (changes_after_end who p how)
      (λ e h. all_when P (is_left who p e) (SetProcess e.0 (process_after_end who p how e.0 e.1) ∷ []) (λ t. (h t, tt))) (table.entries s.procs)
      (each-entries pid_cmp_total pid_cmp_exact (λ (q : Pid) (x : Process). is_left who p (q, x) ≡ true → P (SetProcess q (process_after_end who p how q x))) s.procs
      (λ q x e t. h q x e (false_from_ne_true _ (λ same. true≢false (sym (and_parts _ _ t).0 ∙ ap not same)))))

  ended_is : apply_changes s (ending_of s who p how) ≡ after_closing s valid (is_held_by who) living
  unfolding ending_of
  ended_is =
      let goes : Descriptor → Bool = is_held_by who in
      let beside : (m : FinMap pid_cmp Process) → apply_changes (record s { procs = m }) (changes_of_close s goes) ≡ record (apply_changes s (changes_of_close s goes)) { procs = m } =
      λ m. closes_beside m (changes_of_close s goes) (each_closing s (λ c. (t : State) → apply_change (record t { procs = m }) c ≡ record (apply_change t c) { procs = m }) (λ did t. refl) (λ did d _ t. refl) goes) s in
      apply_changes-append gone (changes_of_close s goes) left
      ∙ ap (λ (t : State). apply_changes t left) (beside (table.remove s.procs who))
      ∙ sets_beside s (apply_changes s (changes_of_close s goes)) left (each_survivor _ (λ q x _ _ m. refl)) (λ m. each_survivor _ (λ q x _ _. refl)) (table.remove s.procs who)
      ∙ sym (beside living)

  -- each process that lives was one of the others
  others_live : (q : Pid) (y : Process) → table.get living q ≡ Some y → IsThere s.procs q × (eq_by_cmp pid_cmp q who ≡ false)
  others_live =
      preserved_over (λ (u : State). (q : Pid) (y : Process) → table.get u.procs q ≡ Some y → IsThere s.procs q × (eq_by_cmp pid_cmp q who ≡ false)) left
      (each_survivor _ (λ q x e other u h. each-insert pid_cmp_total pid_cmp_exact (λ (r : Pid) (y : Process). IsThere s.procs r × (eq_by_cmp pid_cmp r who ≡ false)) u.procs h q (process_after_end who p how q x) (record { value = x; is = e }, other)))
      gone
      (λ q y e.
      elim (eq_by_cmp pid_cmp q who) as (λ b. eq_by_cmp pid_cmp q who ≡ b → cond b None (table.get s.procs q) ≡ Some y → IsThere s.procs q × (b ≡ false)) [
        | true ↦ λ _ none. absurd (never_some None y refl none)
        | false ↦ λ _ at. (record { value = y; is = at }, refl)
      ] refl (sym (get-remove pid_cmp_total s.procs who q) ∙ e))

  module _ (q : Pid) (x : Process) (q_is : table.get s.procs q ≡ Some x) (other : eq_by_cmp pid_cmp q who ≡ false) where
    abbrev IsLeftAt : State → Type 0
    IsLeftAt u = table.get u.procs q ≡ Some (process_after_end who p how q x)

    -- setting a process that is left
    set_left : (u : State) (r : Pid) (y : Process) → table.get s.procs r ≡ Some y → (eq_by_cmp pid_cmp q r ≡ false → IsLeftAt u) → IsLeftAt (apply_change u (SetProcess r (process_after_end who p how r y)))
    set_left u r y e before =
        elim (eq_by_cmp pid_cmp q r) as (λ b. eq_by_cmp pid_cmp q r ≡ b → IsLeftAt (apply_change u (SetProcess r (process_after_end who p how r y)))) [
          | true ↦ λ t.
              let same : q ≡ r = same_key pid_cmp_exact q r t in
              get-insert pid_cmp_total u.procs r (process_after_end who p how r y) q ∙ ap (λ b. cond b (Some (process_after_end who p how r y)) (table.get u.procs q)) t
              ∙ (λ i. Some (process_after_end who p how (sym same i) (some_same y x (sym e ∙ ap (table.get s.procs) (sym same) ∙ q_is) i)))
          | false ↦ λ t. get-insert pid_cmp_total u.procs r (process_after_end who p how r y) q ∙ ap (λ b. cond b (Some (process_after_end who p how r y)) (table.get u.procs q)) t ∙ before t
        ] refl

    -- setting the processes of a list that are left
    sets_preserve : (es : List (Pid × Process)) → AllByRecursion (λ (e : Pid × Process). table.get s.procs e.0 ≡ Some e.1) es → (u : State) → IsLeftAt u → IsLeftAt (apply_changes u (flat_map (changes_after_end who p how) es))
    sets_preserve es h =
        preserved_over IsLeftAt (flat_map (changes_after_end who p how) es)
        (all_each (λ (e : Pid × Process). table.get s.procs e.0 ≡ Some e.1) (Preserves IsLeftAt) (changes_after_end who p how)
        (λ e e_is. all_when (Preserves IsLeftAt) (is_left who p e) (SetProcess e.0 (process_after_end who p how e.0 e.1) ∷ []) (λ _. (λ u now. set_left u e.0 e.1 e_is (λ _. now), tt))) es h)

    listed_left : is_left who p (q, x) ≡ true → (es : List (Pid × Process)) → AllByRecursion (λ (e : Pid × Process). table.get s.procs e.0 ≡ Some e.1) es → find pid_cmp q es ≡ Some x → (u : State) → IsLeftAt (apply_changes u (flat_map (changes_after_end who p how) es))
    listed_left changes [] h found u = absurd (never_some None x refl found)
    listed_left changes (e ∷ es) h found u =
        let next : State = apply_changes u (changes_after_end who p how e) in
        subst IsLeftAt (sym (apply_changes-append u (changes_after_end who p how e) (flat_map (changes_after_end who p how) es)))
        (elim (eq_by_cmp pid_cmp q e.0) as (λ b. eq_by_cmp pid_cmp q e.0 ≡ b → cond b (Some e.1) (find pid_cmp q es) ≡ Some x → IsLeftAt (apply_changes next (flat_map (changes_after_end who p how) es))) [
          | true ↦ λ t at.
              let same : (q, x) ≡ e = λ i. (same_key pid_cmp_exact q e.0 t i, some_same x e.1 (sym at) i) in
              let set : changes_after_end who p how e ≡ SetProcess q (process_after_end who p how q x) ∷ [] = ap (changes_after_end who p how) (sym same) ∙ ap (λ b. cond b (SetProcess q (process_after_end who p how q x) ∷ []) []) changes in
              sets_preserve es h.1 next (subst (λ cs. IsLeftAt (apply_changes u cs)) (sym set) (get-insert_same pid_cmp_total u.procs q (process_after_end who p how q x)))
          | false ↦ λ _ at. listed_left changes es h.1 at next
        ] refl found)

    listed : AllByRecursion (λ (e : Pid × Process). table.get s.procs e.0 ≡ Some e.1) (table.entries s.procs)
    listed = each-entries pid_cmp_total pid_cmp_exact (λ (r : Pid) (y : Process). table.get s.procs r ≡ Some y) s.procs (λ r y e. e)

    -- a process that another one leaves as it was
    unchanged : is_left who p (q, x) ≡ false → process_after_end who p how q x ≡ x
    unchanged same =
        let neither : (is_pid who x.parent || is_pid q p.parent) ≡ false = ap (λ b. not b && (is_pid who x.parent || is_pid q p.parent)) (sym other) ∙ same in
        let parts = or_parts (is_pid who x.parent) (is_pid q p.parent) neither in
        λ i. record x { parent = cond (parts.0 i) None x.parent; ended = cond (parts.1 i) (x.ended ++ (who, how) ∷ []) x.ended }

    -- each other process lives, as the end leaves it
    other_lives : IsLeftAt (apply_changes gone left)
    other_lives =
        let there : table.get (table.remove s.procs who) q ≡ Some x = get-remove_other pid_cmp_total s.procs who q other ∙ q_is in
        elim (is_left who p (q, x)) as (λ b. is_left who p (q, x) ≡ b → IsLeftAt (apply_changes gone left)) [
          | true ↦ λ changes. listed_left changes (table.entries s.procs) listed (sym (get-entries s.procs q) ∙ q_is) gone
          | false ↦ λ same. sets_preserve (table.entries s.procs) listed gone (there ∙ ap (λ (y : Process). Some y) (sym (unchanged same)))
        ] refl

  -- each process that lives is one of the others, as the end leaves it
  record IsOther (q : Pid) (y : Process) : Type 0 where
    pub was : Process
    pub was_is : table.get s.procs q ≡ Some was
    pub other : eq_by_cmp pid_cmp q who ≡ false
    pub now : y ≡ process_after_end who p how q was

  other_of : (q : Pid) (y : Process) → table.get living q ≡ Some y → IsOther q y
  other_of q y e =
      let lives = others_live q y e in
      record { was = lives.0.value; was_is = lives.0.is; other = lives.1; now = some_same y _ (sym e ∙ other_lives q lives.0.value lives.0.is lives.1) }

  other_alone : (q : Pid) (x : Process) → table.get s.procs q ≡ Some x → IsValidAlone s q (process_after_end who p how q x)
  other_alone q x e =
      let old : IsValidProcess s q x = valid.procs q x e in
      let own : IsValidProcess s who p = valid.procs who p is in
      let end : IsValidEnd s (who, how) = record { below = valid.process_numbers.below who.label (omega (arith, own.drawn_already.0, own.drawn_already.1)); drawn_already = own.drawn_already } in
      record {
        below = old.below;
        drawn_already = old.drawn_already;
        within = old.within;
        umask = old.umask;
        few_groups = old.few_groups;
        cwd = old.cwd;
        ended = elim (is_pid q p.parent) as (λ b. AllByRecursion (IsValidEnd s) (cond b (x.ended ++ (who, how) ∷ []) x.ended)) [ true ↦ all-append (IsValidEnd s) x.ended ((who, how) ∷ []) old.ended (end, tt) | false ↦ old.ended ];
      }

  other_parent : (q : Pid) (x : Process) → table.get s.procs q ≡ Some x → (r : Pid) → (process_after_end who p how q x).parent ≡ Some r → IsThere living r
  other_parent q x e r =
      elim (is_pid who x.parent) as (λ b. is_pid who x.parent ≡ b → cond b None x.parent ≡ Some r → IsThere living r) [
        | true ↦ λ _ none. absurd (never_some None r refl none)
        | false ↦ λ apart at.
            let there = (valid.procs q x e).parent r at in
            let other : eq_by_cmp pid_cmp r who ≡ false = false_from_ne_true _ (λ t. true≢false (sym ((eq_by_cmp_equiv pid_cmp_total).refl who) ∙ ap (same_pid who) (sym (same_key pid_cmp_exact r who t)) ∙ ap (is_pid who) (sym at) ∙ apart)) in
            record { value = process_after_end who p how r there.value; is = other_lives r there.value there.is other }
      ] refl

  -- a state stays valid where a process ends
  pub valid_ended : IsValid (apply_changes s (ending_of s who p how))
  valid_ended =
      subst IsValid (sym ended_is)
      (valid_closed s valid (is_held_by who) living
      (λ q y e. let o = other_of q y e in subst (IsValidAlone s q) (sym o.now) (other_alone q o.was o.was_is))
      (λ q y e r at. let o = other_of q y e in other_parent q o.was o.was_is r (ap (λ (z : Process). z.parent) (sym o.now) ∙ at))
      (λ d of. let o = other_of d.who of.process of.process_is in (record { process = o.was; process_is = o.was_is; fd_is = ap (λ (z : Process). table.get z.fds d.fd) (sym o.now) ∙ of.fd_is }, o.other))
      (λ d of stays. record { process = process_after_end who p how d.who of.process; process_is = other_lives d.who of.process of.process_is stays; fd_is = of.fd_is }))
