-- The part of a state by numbers alone: it is the part where numbers and labels agree; what each change does to it.
use Rattle.std.specs.Prelude.{◌≡◌, ℕ, Bool, true, false, List, [], ◌∷◌, ◌++◌, Some, None, refl, cond, map}
use Rattle.std.specs.List.{AllByRecursion}
use Rattle.std.specs.FinMap as map
use Rattle.std.proofs.Common.{sym, ◌∙◌, ap, append_assoc}
use Rattle.std.specs.Cmp.{IsTotalOrder}
use Rattle.std.specs.FinMap.{FinMap, IsAntisymmetric}
use Rattle.std.specs.declared.cmp.Ordering.{Ordering}
use Rattle.lab_lattice.specs.Label.{Label}
use Rattle.lab_lattice.proofs.Labels.{label_cmp_total, label_cmp_exact}
use Rattle.kern_model.specs.declared.numbers.Pid.{Pid}
use Rattle.kern_model.specs.declared.numbers.Oid.{Oid}
use Rattle.kern_model.specs.declared.numbers.Did.{Did}
use Rattle.kern_model.specs.declared.objects.Object.{Object}
use Rattle.kern_model.specs.Keys.{Spot}
use Rattle.kern_model.proofs.KeyLaws.{oid_cmp_total, oid_cmp_exact, pid_cmp_total, pid_cmp_exact, did_cmp_total, did_cmp_exact, spot_cmp_total, spot_cmp_exact}
use Rattle.kern_model.specs.Maps.{select, where_key}
use Rattle.kern_model.specs.State.{State, Process, Description, Change, SetObject, SetEntry, DropEntry, SetProcess, DropProcess, SetDescription, DropDescription, DrawObject, DrawProcess, DrawDescription, apply_change, apply_changes, stub}
use Rattle.kern_model.specs.Isolation.{low, part, shows, label_in, Kept}
use Rattle.kern_model.proofs.MapLemmas.{select_agree, select-insert_kept, select-insert_dropped, select-remove_kept, select-remove_dropped}
use Rattle.kern_model.proofs.StateLemmas.{apply_changes-append}

-- where an entry for an object leads in the part
abbrev pub shown_oid : Label → Label → Oid → Oid
shown_oid l top id = cond (low l id.label) id (stub top)

abbrev pub as_is : {X : Type 0} → X → X
as_is x = x

abbrev pub low_oid : Label → Oid → Bool
low_oid l id = low l id.label

abbrev pub low_spot : Label → Spot → Bool
low_spot l spot = low l spot.0.label

abbrev pub low_pid : Label → Pid → Bool
low_pid l who = low l who.label

abbrev pub low_did : Label → Did → Bool
low_did l did = low l did.label

-- the part by the labels of numbers alone
unfoldable pub part_by_number : Label → State → State
part_by_number l s = record {
  objects = select (where_key (low_oid l) (as_is {X = Object})) s.objects;
  entries = select (where_key (low_spot l) (shown_oid l s.top)) s.entries;
  procs = select (where_key (low_pid l) (as_is {X = Process})) s.procs;
  descriptions = select (where_key (low_did l) (as_is {X = Description})) s.descriptions;
  object_numbers = select (where_key (low l) (as_is {X = ℕ})) s.object_numbers;
  process_numbers = select (where_key (low l) (as_is {X = ℕ})) s.process_numbers;
  description_numbers = select (where_key (low l) (as_is {X = ℕ})) s.description_numbers;
  bound = s.bound;
  top = s.top;
}

-- the label of the number that a change is made at
abbrev pub change_label : Change → Label
change_label (SetObject id o) = id.label
change_label (SetEntry spot id) = spot.0.label
change_label (DropEntry spot) = spot.0.label
change_label (SetProcess who p) = who.label
change_label (DropProcess who) = who.label
change_label (SetDescription did d) = did.label
change_label (DropDescription did) = did.label
change_label (DrawObject label n) = label
change_label (DrawProcess label n) = label
change_label (DrawDescription label n) = label

-- a change as the part sees it
abbrev pub shown_change : Label → Label → Change → Change
shown_change l top (SetEntry spot id) = SetEntry spot (shown_oid l top id)
shown_change l top c = c

-- the change in the part, where the part sees it
abbrev pub part_change : Label → Label → Change → List Change
part_change l top c = cond (low l (change_label c)) (shown_change l top c ∷ []) []

abbrev pub part_changes : Label → Label → List Change → List Change
part_changes l top [] = []
part_changes l top (c ∷ cs) = part_change l top c ++ part_changes l top cs

pub part_changes-append : (l top : Label) (cs ds : List Change) → part_changes l top (cs ++ ds) ≡ part_changes l top cs ++ part_changes l top ds
part_changes-append l top [] ds = refl
part_changes-append l top (c ∷ cs) ds = ap (λ xs. part_change l top c ++ xs) (part_changes-append l top cs ds) ∙ sym (append_assoc (part_change l top c) (part_changes l top cs) (part_changes l top ds))

-- the part sees a change at a Low number
pub sees_first : (l top : Label) (c : Change) (cs : List Change) → low l (change_label c) ≡ true → part_changes l top (c ∷ cs) ≡ shown_change l top c ∷ part_changes l top cs
sees_first l top c cs h = ap (λ b. cond b (shown_change l top c ∷ []) [] ++ part_changes l top cs) h

-- it does not see another one
pub hides_first : (l top : Label) (c : Change) (cs : List Change) → low l (change_label c) ≡ false → part_changes l top (c ∷ cs) ≡ part_changes l top cs
hides_first l top c cs h = ap (λ b. cond b (shown_change l top c ∷ []) [] ++ part_changes l top cs) h

-- of changes at Low numbers, the part sees each
pub part_of_low : (l top : Label) (cs : List Change) → AllByRecursion (λ c. low l (change_label c) ≡ true) cs → part_changes l top cs ≡ map (shown_change l top) cs
part_of_low l top [] h = refl
part_of_low l top (c ∷ cs) h = sees_first l top c cs h.0 ∙ ap (λ ds. shown_change l top c ∷ ds) (part_of_low l top cs h.1)

-- of changes at numbers that are not Low, the part sees none
pub part_of_high : (l top : Label) (cs : List Change) → AllByRecursion (λ c. low l (change_label c) ≡ false) cs → part_changes l top cs ≡ []
part_of_high l top [] h = refl
part_of_high l top (c ∷ cs) h = hides_first l top c cs h.0 ∙ part_of_high l top cs h.1

-- a change sets an entry of one table: in the part the change is made where the part sees it, and else nothing changes
module _ {K X : Type 0} {R : K → K → Ordering} (total : IsTotalOrder R) (exact : IsAntisymmetric R) (keep : K → Bool) (g : X → X)
    (set : FinMap R X → State) (after : List Change → State) (c : Change) (m : FinMap R X) (k : K)
    (unseen : set (select (where_key keep g) m) ≡ after []) where
  insert_in_part : (x : X) → set (map.insert (select (where_key keep g) m) k (g x)) ≡ after (c ∷ [])
      → set (select (where_key keep g) (map.insert m k x)) ≡ after (cond (keep k) (c ∷ []) [])
  insert_in_part x seen =
      elim (keep k) as (λ b. keep k ≡ b → set (select (where_key keep g) (map.insert m k x)) ≡ after (cond b (c ∷ []) [])) [
        | true ↦ λ e. ap set (select-insert_kept total exact keep g m k x e) ∙ seen
        | false ↦ λ e. ap set (select-insert_dropped total exact keep g m k x e) ∙ unseen
      ] refl

  -- the same where a change removes an entry
  remove_in_part : set (map.remove (select (where_key keep g) m) k) ≡ after (c ∷ [])
      → set (select (where_key keep g) (map.remove m k)) ≡ after (cond (keep k) (c ∷ []) [])
  remove_in_part seen =
      elim (keep k) as (λ b. keep k ≡ b → set (select (where_key keep g) (map.remove m k)) ≡ after (cond b (c ∷ []) [])) [
        | true ↦ λ _. ap set (select-remove_kept total exact keep g m k) ∙ seen
        | false ↦ λ e. ap set (select-remove_dropped total exact keep g m k e) ∙ unseen
      ] refl

-- what a change does to the part by numbers
pub part_by_number-apply_change : (l : Label) (s : State) (c : Change) → part_by_number l (apply_change s c) ≡ apply_changes (part_by_number l s) (part_change l s.top c)
unfolding part_by_number
part_by_number-apply_change l s (SetObject id o) =
    insert_in_part oid_cmp_total oid_cmp_exact (low_oid l) as_is (λ m. record (part_by_number l s) { objects = m }) (apply_changes (part_by_number l s)) (SetObject id o) s.objects id refl o refl
part_by_number-apply_change l s (SetEntry spot id) =
    insert_in_part spot_cmp_total spot_cmp_exact (low_spot l) (shown_oid l s.top) (λ m. record (part_by_number l s) { entries = m }) (apply_changes (part_by_number l s)) (SetEntry spot (shown_oid l s.top id)) s.entries spot refl id refl
part_by_number-apply_change l s (DropEntry spot) =
    remove_in_part spot_cmp_total spot_cmp_exact (low_spot l) (shown_oid l s.top) (λ m. record (part_by_number l s) { entries = m }) (apply_changes (part_by_number l s)) (DropEntry spot) s.entries spot refl refl
part_by_number-apply_change l s (SetProcess who p) =
    insert_in_part pid_cmp_total pid_cmp_exact (low_pid l) as_is (λ m. record (part_by_number l s) { procs = m }) (apply_changes (part_by_number l s)) (SetProcess who p) s.procs who refl p refl
part_by_number-apply_change l s (DropProcess who) =
    remove_in_part pid_cmp_total pid_cmp_exact (low_pid l) as_is (λ m. record (part_by_number l s) { procs = m }) (apply_changes (part_by_number l s)) (DropProcess who) s.procs who refl refl
part_by_number-apply_change l s (SetDescription did d) =
    insert_in_part did_cmp_total did_cmp_exact (low_did l) as_is (λ m. record (part_by_number l s) { descriptions = m }) (apply_changes (part_by_number l s)) (SetDescription did d) s.descriptions did refl d refl
part_by_number-apply_change l s (DropDescription did) =
    remove_in_part did_cmp_total did_cmp_exact (low_did l) as_is (λ m. record (part_by_number l s) { descriptions = m }) (apply_changes (part_by_number l s)) (DropDescription did) s.descriptions did refl refl
part_by_number-apply_change l s (DrawObject label n) =
    insert_in_part label_cmp_total label_cmp_exact (low l) as_is (λ m. record (part_by_number l s) { object_numbers = m }) (apply_changes (part_by_number l s)) (DrawObject label n) s.object_numbers label refl n refl
part_by_number-apply_change l s (DrawProcess label n) =
    insert_in_part label_cmp_total label_cmp_exact (low l) as_is (λ m. record (part_by_number l s) { process_numbers = m }) (apply_changes (part_by_number l s)) (DrawProcess label n) s.process_numbers label refl n refl
part_by_number-apply_change l s (DrawDescription label n) =
    insert_in_part label_cmp_total label_cmp_exact (low l) as_is (λ m. record (part_by_number l s) { description_numbers = m }) (apply_changes (part_by_number l s)) (DrawDescription label n) s.description_numbers label refl n refl

-- no change alters top
pub top-apply_change : (s : State) (c : Change) → (apply_change s c).top ≡ s.top
top-apply_change s (SetObject id o) = refl
top-apply_change s c = refl

-- no change alters the bound
pub bound-apply_change : (s : State) (c : Change) → (apply_change s c).bound ≡ s.bound
bound-apply_change s (SetObject id o) = refl
bound-apply_change s c = refl

-- what no change alters stays the same over a list of changes
pub fixed_by : {X : Type 0} (of : State → X) → ((s : State) (c : Change) → of (apply_change s c) ≡ of s) → (s : State) (cs : List Change) → of (apply_changes s cs) ≡ of s
fixed_by of fixed s [] = refl
fixed_by of fixed s (c ∷ cs) = fixed_by of fixed (apply_change s c) cs ∙ fixed s c

-- what a list of changes does to the part by numbers
pub part_by_number-apply_changes : (l : Label) (s : State) (cs : List Change) → part_by_number l (apply_changes s cs) ≡ apply_changes (part_by_number l s) (part_changes l s.top cs)
part_by_number-apply_changes l s [] = refl
part_by_number-apply_changes l s (c ∷ cs) =
    part_by_number-apply_changes l (apply_change s c) cs
    ∙ ap (λ top. apply_changes (part_by_number l (apply_change s c)) (part_changes l top cs)) (top-apply_change s c)
    ∙ ap (λ t. apply_changes t (part_changes l s.top cs)) (part_by_number-apply_change l s c)
    ∙ sym (apply_changes-append (part_by_number l s) (part_change l s.top c) (part_changes l s.top cs))

shows_low : (l : Label) (s : State) → Kept l s → (id : Oid) → shows l s id ≡ low l id.label
shows_low l s kept id =
    elim (map.get s.objects id) as (λ w. map.get s.objects id ≡ w → low l (label_in w id) ≡ low l id.label) [
      | None ↦ λ _. refl
      | Some o ↦ λ e. sym (kept.objects id o e)
    ] refl

-- in a kept state, the part is the part by numbers
pub part_is_by_number : (l : Label) (s : State) → Kept l s → part l s ≡ part_by_number l s
unfolding part part_by_number
part_is_by_number l s kept =
    let objects : (part l s).objects ≡ (part_by_number l s).objects =
    select_agree oid_cmp_total oid_cmp_exact _ _ s.objects (λ q o e. ap (λ b. cond b (Some o) None) (sym (kept.objects q o e))) in
    let entries : (part l s).entries ≡ (part_by_number l s).entries =
    select_agree spot_cmp_total spot_cmp_exact _ _ s.entries (λ q id e.
    ap (λ b. cond b (Some (cond (shows l s id) id (stub s.top))) None) (shows_low l s kept q.0)
    ∙ ap (λ b. cond (low_spot l q) (Some (cond b id (stub s.top))) None) (shows_low l s kept id)) in
    let procs : (part l s).procs ≡ (part_by_number l s).procs =
    select_agree pid_cmp_total pid_cmp_exact _ _ s.procs (λ q p e. ap (λ b. cond b (Some p) None) (sym (kept.procs q p e))) in
    λ i. record (part_by_number l s) { objects = objects i; entries = entries i; procs = procs i }
