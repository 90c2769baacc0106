-- Numbers over changes: what is drawn stays drawn, and what is set was there or has a number that was drawn since.
use Rattle.std.specs.Prelude.{◌≡◌, ⊤, ◌⊎◌, ℕ, ◌≤◌, ◌<◌, List, [], ◌∷◌, ◌++◌, Some, None, refl}
use Rattle.std.specs.List.{AllByRecursion}
use Rattle.std.specs.declared.cmp.Ordering.{Ordering}
use Rattle.std.specs.Cmp.{IsTotalOrder}
use Rattle.std.proofs.Common.{arith, inl, inr}
use Rattle.std.specs.FinMap as map
use Rattle.std.specs.FinMap.{FinMap, IsAntisymmetric}
use Rattle.lab_lattice.specs.Label.{Label, label_cmp}
use Rattle.lab_lattice.proofs.Labels.{label_cmp_total, label_cmp_exact}
use Rattle.kern_model.specs.declared.numbers.Did.{Did}
use Rattle.kern_model.specs.declared.numbers.Oid.{Oid}
use Rattle.kern_model.specs.declared.numbers.Pid.{Pid}
use Rattle.kern_model.specs.Drawing.{NeverFalls, StayDrawn, IsDrawnBetween, NumbersGoOn, NothingComesBack}
use Rattle.kern_model.specs.Keys.{Spot}
use Rattle.kern_model.proofs.KeyLaws.{oid_cmp_total, oid_cmp_exact, pid_cmp_total, pid_cmp_exact, did_cmp_total, did_cmp_exact, spot_cmp_total, spot_cmp_exact}
use Rattle.kern_model.specs.State.{State, Process, Description, Change, SetObject, SetEntry, DropEntry, SetProcess, DropProcess, SetDescription, DropDescription, DrawObject, DrawProcess, DrawDescription, apply_change, apply_changes, last_drawn, root}
use Rattle.kern_model.specs.Valid.{IsThere, IsValid}
use Rattle.kern_model.proofs.MapLemmas.{each-insert, each-remove, get-insert_same, get_or-found, never_some}
use Rattle.kern_model.proofs.TableLemmas.{each_set_at}
use Rattle.iso_laws.proofs.KeyLemmas.{still_there}

-- ---- what leads to objects
-- entries, current directories and descriptions lead to objects of a set
pub record LeadsTo (There : Oid → Type 0) (s : State) : Type 0 where
  pub root_there : There root
  pub entries : (spot : Spot) (id : Oid) → map.get s.entries spot ≡ Some id → There id
  pub procs : (who : Pid) (p : Process) → map.get s.procs who ≡ Some p → There p.cwd
  pub descriptions : (did : Did) (d : Description) → map.get s.descriptions did ≡ Some d → There d.object

-- the set of all objects
abbrev pub AllObjects : Oid → Type 0
AllObjects id = ⊤

pub leads_to_all : (s : State) → LeadsTo AllObjects s
leads_to_all s = record { root_there = tt; entries = λ spot id e. tt; procs = λ who p e. tt; descriptions = λ did d e. tt }

-- entries, current directories and descriptions lead to objects that are there
abbrev pub NoDangling : State → Type 0
NoDangling s = LeadsTo (IsThere s.objects) s

-- a valid state does
pub valid_no_dangling : (s : State) → IsValid s → NoDangling s
valid_no_dangling s valid = record {
  root_there = record { value = valid.root_is.object; is = valid.root_is.is };
  entries = λ spot id e. let entry = valid.entries spot id e in record { value = entry.object; is = entry.object_is };
  procs = λ who p e. let cwd = (valid.procs who p e).cwd in record { value = cwd.object; is = cwd.is };
  descriptions = λ did d e. let own = valid.descriptions did d e in record { value = own.object; is = own.object_is };
}

-- and to what those are that are there
pub leads_where : (There : Oid → Type 0) (s : State) → IsValid s → ((id : Oid) → IsThere s.objects id → There id) → LeadsTo There s
leads_where There s valid h =
    let no_dangling : NoDangling s = valid_no_dangling s valid in
    record {
      root_there = h _ no_dangling.root_there;
      entries = λ spot id e. h id (no_dangling.entries spot id e);
      procs = λ who p e. h p.cwd (no_dangling.procs who p e);
      descriptions = λ did d e. h d.object (no_dangling.descriptions did d e);
    }

-- drawing a number that is at least the last one lets no count fall
pub falls_nowhere : (old m : FinMap label_cmp ℕ) (l : Label) (n : ℕ) → NeverFalls old m → last_drawn m l ≤ n → NeverFalls old (map.insert m l n)
falls_nowhere old m l n stay up = each_set_at label_cmp_total label_cmp_exact (λ q x. last_drawn old q ≤ x) 0 m l n (omega (arith, stay l)) stay

-- ---- changes numbered in order, from a state on, with a set of objects that are there and a set of processes that are born
module _ (There : Oid → Type 0) (Born : Pid → Type 0) (s : State) where
  -- an object that was there, or is by now
  abbrev pub IsPresent : State → Oid → Type 0
  IsPresent t id = There id ⊎ IsThere t.objects id

  -- a process that was there, or is born with a number that was drawn since
  abbrev pub Lives : State → Pid → Type 0
  Lives t who = IsThere s.procs who ⊎ IsDrawnBetween s.process_numbers t.process_numbers who.label who.n × Born who

  -- a change in a later state is numbered in order: what it sets was there or has a number drawn since, and leads to an object that is present
  abbrev pub IsNumbered : State → Change → Type 0
  IsNumbered t (SetObject id o) = There id ⊎ IsDrawnBetween s.object_numbers t.object_numbers id.label id.n
  IsNumbered t (SetEntry spot id) = IsPresent t id
  IsNumbered t (SetProcess who p) = Lives t who × IsPresent t p.cwd
  IsNumbered t (SetDescription did d) = (IsThere s.descriptions did ⊎ IsDrawnBetween s.description_numbers t.description_numbers did.label did.n) × IsPresent t d.object
  IsNumbered t (DrawObject l n) = last_drawn t.object_numbers l ≤ n
  IsNumbered t (DrawProcess l n) = last_drawn t.process_numbers l ≤ n
  IsNumbered t (DrawDescription l n) = last_drawn t.description_numbers l ≤ n
  IsNumbered t _ = ⊤

  -- each of these changes is numbered in order in the state after those before it
  abbrev pub AreNumbered : State → List Change → Type 0
  AreNumbered t [] = ⊤
  AreNumbered t (c ∷ cs) = IsNumbered t c × AreNumbered (apply_change t c) cs

  pub entries_from-append : (cs ds : List Change) (t : State) → AreNumbered t cs → AreNumbered (apply_changes t cs) ds → AreNumbered t (cs ++ ds)
  entries_from-append [] ds t h g = g
  entries_from-append (c ∷ cs) ds t h g = (h.0, entries_from-append cs ds (apply_change t c) h.1 g)

  -- a change that is numbered in order in each later state
  abbrev pub IsNumberedAnywhere : Change → Type 0
  IsNumberedAnywhere c = (t : State) → IsNumbered t c

  pub numbered_anywhere : (cs : List Change) (t : State) → AllByRecursion IsNumberedAnywhere cs → AreNumbered t cs
  numbered_anywhere [] t h = tt
  numbered_anywhere (c ∷ cs) t h = (h.0 t, numbered_anywhere cs (apply_change t c) h.1)

  -- ---- what was drawn stays drawn
  stay_drawn_changed : (t : State) (c : Change) → IsNumbered t c → StayDrawn s t → StayDrawn s (apply_change t c)
  stay_drawn_changed t (DrawObject l n) h stay =
      record { objects = falls_nowhere s.object_numbers t.object_numbers l n stay.objects h; procs = stay.procs; descriptions = stay.descriptions }
  stay_drawn_changed t (DrawProcess l n) h stay =
      record { objects = stay.objects; procs = falls_nowhere s.process_numbers t.process_numbers l n stay.procs h; descriptions = stay.descriptions }
  stay_drawn_changed t (DrawDescription l n) h stay =
      record { objects = stay.objects; procs = stay.procs; descriptions = falls_nowhere s.description_numbers t.description_numbers l n stay.descriptions h }
  stay_drawn_changed t c h stay = record { objects = stay.objects; procs = stay.procs; descriptions = stay.descriptions }

  pub stay_drawn_all : (cs : List Change) (t : State) → AreNumbered t cs → StayDrawn s t → StayDrawn s (apply_changes t cs)
  stay_drawn_all [] t h stay = stay
  stay_drawn_all (c ∷ cs) t h stay = stay_drawn_all cs (apply_change t c) h.1 (stay_drawn_changed t c h.0 stay)

pub stay_drawn_itself : (s : State) → StayDrawn s s
stay_drawn_itself s = record { objects = λ l. omega arith; procs = λ l. omega arith; descriptions = λ l. omega arith }

-- a number above the last one of an earlier table was drawn since
pub drawn_since : (old m : FinMap label_cmp ℕ) (l : Label) (n last : ℕ) → last_drawn old l < n → n ≤ last → IsDrawnBetween old (map.insert m l last) l n
drawn_since old m l n last above few =
    let now : last_drawn (map.insert m l last) l ≡ last = get_or-found _ l 0 last (get-insert_same label_cmp_total m l last) in (above, omega (arith, now))

-- ---- what is there
drawn_still : (old m n : FinMap label_cmp ℕ) (l : Label) (k : ℕ) → last_drawn m l ≤ last_drawn n l → IsDrawnBetween old m l k → IsDrawnBetween old n l k
drawn_still old m n l k up h = (h.0, omega (arith, h.1))

-- by the label and the count of each key: one that is there and was not has a count that was drawn in between
module _ {K X : Type 0} {R : K → K → Ordering} (total : IsTotalOrder R) (exact : IsAntisymmetric R) (label_of : K → Label) (count_of : K → ℕ) where
  abbrev pub AreNew : FinMap R X → FinMap label_cmp ℕ → FinMap R X → FinMap label_cmp ℕ → Type 0
  AreNew old before new after = (k : K) → map.get old k ≡ None → IsThere new k → IsDrawnBetween before after (label_of k) (count_of k)

  abbrev IsNew : FinMap R X → FinMap label_cmp ℕ → FinMap label_cmp ℕ → K → Type 0
  IsNew old before after k = map.get old k ≡ None → IsDrawnBetween before after (label_of k) (count_of k)

  was_or_new : (old : FinMap R X) (before after : FinMap label_cmp ℕ) (k : K) → IsThere old k ⊎ IsDrawnBetween before after (label_of k) (count_of k)
      → IsNew old before after k
  was_or_new old before after k (inl there) none = absurd (never_some _ there.value none there.is)
  was_or_new old before after k (inr new) none = new

  pub new-insert : (old m : FinMap R X) (before after : FinMap label_cmp ℕ) (k : K) (x : X)
      → IsThere old k ⊎ IsDrawnBetween before after (label_of k) (count_of k) → AreNew old before m after → AreNew old before (map.insert m k x) after
  new-insert old m before after k x known new q none there =
      each-insert total exact (λ (j : K) (y : X). IsNew old before after j) m (λ j y e none. new j none (record { value = y; is = e })) k x
      (was_or_new old before after k known) q there.value there.is none

  pub new-remove : (old m : FinMap R X) (before after : FinMap label_cmp ℕ) (k : K) → AreNew old before m after → AreNew old before (map.remove m k) after
  new-remove old m before after k new q none there =
      each-remove total exact (λ (j : K) (y : X). IsNew old before after j) m
      (λ j y e none. new j none (record { value = y; is = e })) k q there.value there.is none

  pub new-drawn : (old m : FinMap R X) (before after later : FinMap label_cmp ℕ) → NeverFalls after later → AreNew old before m after
      → AreNew old before m later
  new-drawn old m before after later up new q none there = drawn_still before after later (label_of q) (count_of q) (up (label_of q)) (new q none there)

  by_middle : (mid : FinMap R X) (k : K) (Q : Type 0) → (map.get mid k ≡ None → Q) → (IsThere mid k → Q) → Q
  by_middle mid k Q f g =
      elim (map.get mid k) as (λ o. map.get mid k ≡ o → Q) [ None ↦ f | Some x ↦ λ e. g (record { value = x; is = e }) ] refl

  -- what is new over two spans, one after the other
  pub new_over : (old mid new : FinMap R X) (before between after : FinMap label_cmp ℕ) → NeverFalls before between → NeverFalls between after
      → AreNew old before mid between → AreNew mid between new after → AreNew old before new after
  new_over old mid new before between after up up' first second k none there =
      by_middle mid k (IsDrawnBetween before after (label_of k) (count_of k))
      (λ gone. let h = second k gone there in (omega (arith, up (label_of k), h.0), h.1))
      (λ was. drawn_still before between after (label_of k) (count_of k) (up' (label_of k)) (first k none was))

  -- a key that is not there, and whose count was drawn, is not there later
  pub none_back : (old new : FinMap R X) (before after : FinMap label_cmp ℕ) → AreNew old before new after → (k : K) → count_of k ≤ last_drawn before (label_of k)
      → map.get old k ≡ None → map.get new k ≡ None
  none_back old new before after fresh k few none =
      elim (map.get new k) as (λ o. map.get new k ≡ o → o ≡ None) [
        | None ↦ λ _. refl
        | Some x ↦ λ e. let h = fresh k none (record { value = x; is = e }) in absurd (omega (arith, h.0, few))
      ] refl

-- ---- who lives after changes numbered in order
module _ (There : Oid → Type 0) (Born : Pid → Type 0) (s : State) where
  -- each living process was there, or was born
  abbrev pub AreBorn : State → Type 0
  AreBorn t = (who : Pid) → IsThere t.procs who → IsThere s.procs who ⊎ Born who

  was_or_born : (t : State) (who : Pid) → Lives There Born s t who → IsThere s.procs who ⊎ Born who
  was_or_born t who (inl was) = inl was
  was_or_born t who (inr born) = inr born.1

  born_changed : (t : State) (c : Change) → IsNumbered There Born s t c → AreBorn t → AreBorn (apply_change t c)
  born_changed t (SetProcess who p) h born q there =
      each-insert pid_cmp_total pid_cmp_exact (λ (k : Pid) (x : Process). IsThere s.procs k ⊎ Born k) t.procs
      (λ k x e. born k (record { value = x; is = e })) who p (was_or_born t who h.0) q there.value there.is
  born_changed t (DropProcess who) h born q there =
      each-remove pid_cmp_total pid_cmp_exact (λ (k : Pid) (x : Process). IsThere s.procs k ⊎ Born k) t.procs
      (λ k x e. born k (record { value = x; is = e })) who q there.value there.is
  born_changed t c h born q there = born q there

  pub born_all : (cs : List Change) (t : State) → AreNumbered There Born s t cs → AreBorn t → AreBorn (apply_changes t cs)
  born_all [] t h born = born
  born_all (c ∷ cs) t h born = born_all cs (apply_change t c) h.1 (born_changed t c h.0 born)

-- ---- numbers go on over changes numbered in order
-- from a state to a later one: numbers go on, objects stay, and what leads to an object leads to one that is there
pub record IsLaterState (s t : State) : Type 0 where
  pub on : NumbersGoOn s t
  pub stay : (id : Oid) → IsThere s.objects id → IsThere t.objects id
  pub no_dangling : NoDangling t

module _ (Born : Pid → Type 0) (s : State) where
  abbrev InOrder : State → Change → Type 0
  InOrder t c = IsNumbered (IsThere s.objects) Born s t c

  -- drawing a number that is at least the last one lets no count of the table fall
  never_falls_drawn : (m : FinMap label_cmp ℕ) (l : Label) (n : ℕ) → last_drawn m l ≤ n → NeverFalls m (map.insert m l n)
  never_falls_drawn m l n h = falls_nowhere m m l n (λ q. omega arith) h

  was_or_drawn : (t : State) (who : Pid) → Lives (IsThere s.objects) Born s t who
      → IsThere s.procs who ⊎ IsDrawnBetween s.process_numbers t.process_numbers who.label who.n
  was_or_drawn t who (inl was) = inl was
  was_or_drawn t who (inr born) = inr born.0

  -- numbers go on over one more such change: those of objects, of processes and of descriptions
  abbrev ObjectsGoOn : State → Type 0
  ObjectsGoOn t = AreNew oid_cmp_total oid_cmp_exact (λ (q : Oid). q.label) (λ (q : Oid). q.n) s.objects s.object_numbers t.objects t.object_numbers

  objects_go_on : (t : State) (c : Change) → InOrder t c → ObjectsGoOn t → ObjectsGoOn (apply_change t c)
  objects_go_on t (SetObject id o) h on = new-insert oid_cmp_total oid_cmp_exact _ _ s.objects t.objects s.object_numbers t.object_numbers id o h on
  objects_go_on t (DrawObject l n) h on =
      new-drawn oid_cmp_total oid_cmp_exact _ _ s.objects t.objects s.object_numbers t.object_numbers _ (never_falls_drawn t.object_numbers l n h) on
  objects_go_on t c h on = on

  abbrev ProcessesGoOn : State → Type 0
  ProcessesGoOn t = AreNew pid_cmp_total pid_cmp_exact (λ (q : Pid). q.label) (λ (q : Pid). q.n) s.procs s.process_numbers t.procs t.process_numbers

  processes_go_on : (t : State) (c : Change) → InOrder t c → ProcessesGoOn t → ProcessesGoOn (apply_change t c)
  processes_go_on t (SetProcess who p) h on =
      new-insert pid_cmp_total pid_cmp_exact _ _ s.procs t.procs s.process_numbers t.process_numbers who p (was_or_drawn t who h.0) on
  processes_go_on t (DropProcess who) h on = new-remove pid_cmp_total pid_cmp_exact _ _ s.procs t.procs s.process_numbers t.process_numbers who on
  processes_go_on t (DrawProcess l n) h on =
      new-drawn pid_cmp_total pid_cmp_exact _ _ s.procs t.procs s.process_numbers t.process_numbers _ (never_falls_drawn t.process_numbers l n h) on
  processes_go_on t c h on = on

  abbrev DescriptionsGoOn : State → Type 0
  DescriptionsGoOn t =
      AreNew did_cmp_total did_cmp_exact (λ (q : Did). q.label) (λ (q : Did). q.n) s.descriptions s.description_numbers t.descriptions t.description_numbers

  descriptions_go_on : (t : State) (c : Change) → InOrder t c → DescriptionsGoOn t → DescriptionsGoOn (apply_change t c)
  descriptions_go_on t (SetDescription did d) h on =
      new-insert did_cmp_total did_cmp_exact _ _ s.descriptions t.descriptions s.description_numbers t.description_numbers did d h.0 on
  descriptions_go_on t (DropDescription did) h on =
      new-remove did_cmp_total did_cmp_exact _ _ s.descriptions t.descriptions s.description_numbers t.description_numbers did on
  descriptions_go_on t (DrawDescription l n) h on =
      new-drawn did_cmp_total did_cmp_exact _ _ s.descriptions t.descriptions s.description_numbers t.description_numbers _
      (never_falls_drawn t.description_numbers l n h) on
  descriptions_go_on t c h on = on

  go_on_changed : (t : State) (c : Change) → InOrder t c → NumbersGoOn s t → NumbersGoOn s (apply_change t c)
  go_on_changed t c h on = record {
    stay_drawn = stay_drawn_changed (IsThere s.objects) Born s t c h on.stay_drawn;
    objects = objects_go_on t c h on.objects;
    procs = processes_go_on t c h on.procs;
    descriptions = descriptions_go_on t c h on.descriptions;
  }

  -- an object that is present is there
  present_there : (t : State) → IsLaterState s t → (id : Oid) → IsPresent (IsThere s.objects) Born s t id → IsThere t.objects id
  present_there t later id (inl was) = later.stay id was
  present_there t later id (inr is) = is

  -- no change removes an object
  object_stays : (t : State) (c : Change) (id : Oid) → IsThere t.objects id → IsThere (apply_change t c).objects id
  object_stays t (SetObject at o) id there = still_there oid_cmp_total t.objects at o id there
  object_stays t c id there = there

  -- what leads to an object after one more such change leads to one that was there before it
  entries_lead : (t : State) (c : Change) → InOrder t c → IsLaterState s t → (spot : Spot) (id : Oid) → map.get (apply_change t c).entries spot ≡ Some id → IsThere t.objects id
  entries_lead t (SetEntry spot id) h later =
      each-insert spot_cmp_total spot_cmp_exact (λ (k : Spot) (v : Oid). IsThere t.objects v) t.entries later.no_dangling.entries spot id (present_there t later id h)
  entries_lead t (DropEntry spot) h later = each-remove spot_cmp_total spot_cmp_exact (λ (k : Spot) (v : Oid). IsThere t.objects v) t.entries later.no_dangling.entries spot
  entries_lead t c h later = later.no_dangling.entries

  processes_lead : (t : State) (c : Change) → InOrder t c → IsLaterState s t → (who : Pid) (p : Process) → map.get (apply_change t c).procs who ≡ Some p → IsThere t.objects p.cwd
  processes_lead t (SetProcess who p) h later =
      each-insert pid_cmp_total pid_cmp_exact (λ (k : Pid) (x : Process). IsThere t.objects x.cwd) t.procs later.no_dangling.procs who p (present_there t later p.cwd h.1)
  processes_lead t (DropProcess who) h later = each-remove pid_cmp_total pid_cmp_exact (λ (k : Pid) (x : Process). IsThere t.objects x.cwd) t.procs later.no_dangling.procs who
  processes_lead t c h later = later.no_dangling.procs

  descriptions_lead : (t : State) (c : Change) → InOrder t c → IsLaterState s t → (did : Did) (d : Description) → map.get (apply_change t c).descriptions did ≡ Some d → IsThere t.objects d.object
  descriptions_lead t (SetDescription did d) h later =
      each-insert did_cmp_total did_cmp_exact (λ (k : Did) (x : Description). IsThere t.objects x.object) t.descriptions later.no_dangling.descriptions did d
      (present_there t later d.object h.1)
  descriptions_lead t (DropDescription did) h later =
      each-remove did_cmp_total did_cmp_exact (λ (k : Did) (x : Description). IsThere t.objects x.object) t.descriptions later.no_dangling.descriptions did
  descriptions_lead t c h later = later.no_dangling.descriptions

  no_dangling_changed : (t : State) (c : Change) → InOrder t c → IsLaterState s t → NoDangling (apply_change t c)
  no_dangling_changed t c h later = record {
    root_there = object_stays t c root later.no_dangling.root_there;
    entries = λ spot id e. object_stays t c id (entries_lead t c h later spot id e);
    procs = λ who p e. object_stays t c p.cwd (processes_lead t c h later who p e);
    descriptions = λ did d e. object_stays t c d.object (descriptions_lead t c h later did d e);
  }

  -- a state after a list of such changes is a later one
  pub later_all : (cs : List Change) (t : State) → AreNumbered (IsThere s.objects) Born s t cs → IsLaterState s t → IsLaterState s (apply_changes t cs)
  later_all [] t h later = later
  later_all (c ∷ cs) t h later =
      later_all cs (apply_change t c) h.1
      (record { on = go_on_changed t c h.0 later.on; stay = λ id was. object_stays t c id (later.stay id was); no_dangling = no_dangling_changed t c h.0 later })

pub go_on_itself : (s : State) → NumbersGoOn s s
go_on_itself s = record {
  stay_drawn = stay_drawn_itself s;
  objects = λ id none there. absurd (never_some _ there.value none there.is);
  procs = λ who none there. absurd (never_some _ there.value none there.is);
  descriptions = λ did none there. absurd (never_some _ there.value none there.is);
}

pub later_itself : (s : State) → NoDangling s → IsLaterState s s
later_itself s no_dangling = record { on = go_on_itself s; stay = λ id there. there; no_dangling = no_dangling }

-- what never falls over each of two spans never falls over both
never_falls_over : (a b c : FinMap label_cmp ℕ) → NeverFalls a b → NeverFalls b c → NeverFalls a c
never_falls_over a b c first second l = omega (arith, first l, second l)

pub go_on_over : (s t u : State) → NumbersGoOn s t → NumbersGoOn t u → NumbersGoOn s u
go_on_over s t u first second = record {
  stay_drawn = record {
    objects = never_falls_over s.object_numbers t.object_numbers u.object_numbers first.stay_drawn.objects second.stay_drawn.objects;
    procs = never_falls_over s.process_numbers t.process_numbers u.process_numbers first.stay_drawn.procs second.stay_drawn.procs;
    descriptions =
        never_falls_over s.description_numbers t.description_numbers u.description_numbers first.stay_drawn.descriptions second.stay_drawn.descriptions;
  };
  objects =
      new_over oid_cmp_total oid_cmp_exact (λ (q : Oid). q.label)
      (λ (q : Oid). q.n) s.objects t.objects u.objects s.object_numbers t.object_numbers u.object_numbers
      first.stay_drawn.objects second.stay_drawn.objects first.objects second.objects;
  procs =
      new_over pid_cmp_total pid_cmp_exact (λ (q : Pid). q.label)
      (λ (q : Pid). q.n) s.procs t.procs u.procs s.process_numbers t.process_numbers u.process_numbers
      first.stay_drawn.procs second.stay_drawn.procs first.procs second.procs;
  descriptions =
      new_over did_cmp_total did_cmp_exact (λ (q : Did). q.label)
      (λ (q : Did). q.n) s.descriptions t.descriptions u.descriptions s.description_numbers t.description_numbers u.description_numbers
      first.stay_drawn.descriptions second.stay_drawn.descriptions first.descriptions second.descriptions;
}

-- where numbers go on, nothing comes back
pub nothing_back : (s t : State) → NumbersGoOn s t → NothingComesBack s t
nothing_back s t on = record {
  objects = none_back oid_cmp_total oid_cmp_exact (λ (q : Oid). q.label) (λ (q : Oid). q.n) s.objects t.objects s.object_numbers t.object_numbers on.objects;
  procs = none_back pid_cmp_total pid_cmp_exact (λ (q : Pid). q.label) (λ (q : Pid). q.n) s.procs t.procs s.process_numbers t.process_numbers on.procs;
  descriptions =
      none_back did_cmp_total did_cmp_exact (λ (q : Did). q.label)
      (λ (q : Did). q.n) s.descriptions t.descriptions s.description_numbers t.description_numbers on.descriptions;
}
