-- What the table is after a descriptor is opened or closed.
use Rattle.std.specs.Prelude.{◌≡◌, ℕ, ◌+◌, ◌<◌, None, Some, refl}
use Rattle.std.specs.FinMap as map
use Rattle.std.specs.FinMap.{FinMap}
use Rattle.std.proofs.Common.{ap, sym, ◌∙◌, subst}
use Rattle.lab_lattice.specs.Label.{Label, label_cmp}
use Rattle.kern_model.specs.declared.limits.TheConstants.{MAX_DESCRIPTORS}
use Rattle.kern_model.specs.declared.numbers.Did.{Did}
use Rattle.kern_model.specs.declared.numbers.Oid.{Oid}
use Rattle.kern_model.specs.declared.numbers.Pid.{Pid}
use Rattle.kern_model.specs.Descriptors.{lowest_free}
use Rattle.kern_model.specs.Maps.{select, where_key}
use Rattle.kern_model.specs.State.{last_drawn}
use Rattle.kern_model.specs.Valid.{IsThere}
use Rattle.kern_model.proofs.KeyLaws.{did_cmp_total, did_cmp_exact}
use Rattle.kern_model.proofs.MapLemmas.{get-insert_same, remove-insert}
use Rattle.fd_table.specs.declared.shared.How.{How}
use Rattle.fd_table.specs.declared.shared.Shared.{Shared}
use Rattle.fd_table.specs.Descriptions.{SharedTable, descriptions_of, made_for, with_one_less}
use Rattle.fd_table.specs.Fds.{AllFds, fds_of}
use Rattle.fd_table.specs.Files.{AreHeld, OpenFiles, did_at, is_held, left_with, next_in, opened_for, with_opened}
use Rattle.fd_table.proofs.Holding.{fds_are, fresh, held-free, held-new}
use Rattle.fd_table.proofs.Leaving.{descriptions-insert, left_held, less_same, there_with}

module _ (processes : AllFds) (shared : SharedTable) (numbers : FinMap label_cmp ℕ) (are : AreHeld processes shared numbers)
    (t : OpenFiles) (view : ◌≡◌ {A = OpenFiles} (record { processes = processes; descriptions = descriptions_of shared; numbers = numbers }) t) where
  -- what is there in the table that is seen
  process_there : (who : Pid) → IsThere t.processes who → map.get processes who ≡ Some (fds_of processes who)
  process_there who there = fds_are processes who (subst (λ (t : OpenFiles). IsThere t.processes who) (sym view) there)

  pub shared_there : (did : Did) → IsThere t.descriptions did → IsThere shared did
  shared_there did there = there_with shared did (subst (λ (t : OpenFiles). IsThere t.descriptions did) (sym view) there)

  -- ---- a description is made under the next number of a label
  module _ (label : Label) (did : Did) (is : did ≡ next_in t label) (object : Oid) (how : How) (mid : SharedTable) (made : mid ≡ map.insert shared did (made_for object how)) where
    next : did ≡ record { label = label; n = last_drawn numbers label + 1 }
    next = is ∙ ap (λ (t : OpenFiles). next_in t label) (sym view)

    pub made_there : map.get mid did ≡ Some (made_for object how)
    made_there = ap (λ (m : SharedTable). map.get m did) made ∙ get-insert_same did_cmp_total shared did (made_for object how)

    -- and goes again
    module _ (left : SharedTable) (gone : left ≡ map.remove mid did) (numbers' : FinMap label_cmp ℕ) (same : numbers' ≡ numbers) where
      undone : left ≡ shared
      undone = gone ∙ ap (λ (m : SharedTable). map.remove m did) made ∙ remove-insert did_cmp_total did_cmp_exact shared did (made_for object how) (fresh processes shared numbers are did label next)

      pub held_undone : AreHeld processes left numbers'
      held_undone = subst (λ (m : SharedTable). AreHeld processes m numbers') (sym undone) (subst (λ (m : FinMap label_cmp ℕ). AreHeld processes shared m) (sym same) are)

      pub table_undone : ◌≡◌ {A = OpenFiles} (record { processes = processes; descriptions = descriptions_of left; numbers = numbers' }) t
      table_undone = (λ i. record { processes = processes; descriptions = descriptions_of (undone i); numbers = same i }) ∙ view

    -- or a descriptor refers to it
    module _ (who : Pid) (fd : ℕ) (processes' : AllFds) (set : processes' ≡ map.insert processes who (map.insert (fds_of processes who) fd did)) (numbers' : FinMap label_cmp ℕ) (drawn_now : numbers' ≡ map.insert numbers label did.n) where
      pub held_opened : IsThere t.processes who → map.get (fds_of processes who) fd ≡ None → fd < MAX_DESCRIPTORS → AreHeld processes' mid numbers'
      held_opened there free below =
          subst (λ (m : AllFds). AreHeld m mid numbers') (sym set)
          (subst (λ (m : SharedTable). AreHeld (map.insert processes who (map.insert (fds_of processes who) fd did)) m numbers') (sym made)
          (subst (λ (m : FinMap label_cmp ℕ). AreHeld (map.insert processes who (map.insert (fds_of processes who) fd did)) (map.insert shared did (made_for object how)) m) (sym drawn_now)
          (held-new processes shared numbers are who (fds_of processes who) (process_there who there) fd did label next (made_for object how) refl free below)))

      pub table_opened : fd ≡ lowest_free (fds_of processes who) → ◌≡◌ {A = OpenFiles} (record { processes = processes'; descriptions = descriptions_of mid; numbers = numbers' }) (with_opened t who label (opened_for object how))
      table_opened lowest =
          let first : Did = record { label = label; n = last_drawn numbers label + 1 } in
          let descriptions : descriptions_of mid ≡ map.insert (descriptions_of shared) did (opened_for object how) = ap descriptions_of made ∙ descriptions-insert shared did (made_for object how) in
          (λ i. record { processes = set i; descriptions = descriptions i; numbers = drawn_now i })
          ∙ ap (λ (d : Did). record { processes = map.insert processes who (map.insert (fds_of processes who) fd d); descriptions = map.insert (descriptions_of shared) d (opened_for object how); numbers = map.insert numbers label d.n }) next
          ∙ ap (λ (k : ℕ). record { processes = map.insert processes who (map.insert (fds_of processes who) k first); descriptions = map.insert (descriptions_of shared) first (opened_for object how); numbers = map.insert numbers label first.n }) lowest
          ∙ ap (λ (t : OpenFiles). with_opened t who label (opened_for object how)) view

  -- ---- a descriptor is closed
  module _ (who : Pid) (fd : ℕ) (did : Did) (at : did_at t who fd ≡ Some did) (process : IsThere t.processes who) (there : IsThere t.descriptions did) where
    abbrev fewer : AllFds
    fewer = map.insert processes who (map.remove (fds_of processes who) fd)

    module _ (processes' : AllFds) (set : processes' ≡ fewer) (left : SharedTable) (less : (s : Shared) → map.get shared did ≡ Some s → left ≡ with_one_less shared did s) where
      held_less : (s : Shared) → map.get shared did ≡ Some s → AreHeld fewer (with_one_less shared did s) numbers
      held_less s is = held-free processes shared numbers are who (fds_of processes who) (process_there who process) fd did s is (ap (λ (t : OpenFiles). did_at t who fd) view ∙ at)

      pub held_closed : AreHeld processes' left numbers
      held_closed =
          let s = shared_there did there in
          subst (λ (m : AllFds). AreHeld m left numbers) (sym set) (subst (λ (m : SharedTable). AreHeld fewer m numbers) (sym (less s.value s.is)) (held_less s.value s.is))

      pub table_closed : ◌≡◌ {A = OpenFiles} (record { processes = processes'; descriptions = descriptions_of left; numbers = numbers }) (left_with t (map.insert t.processes who (map.remove (fds_of t.processes who) fd)))
      table_closed =
          let s = shared_there did there in
          let descriptions : descriptions_of left ≡ select (where_key (is_held fewer) (λ d. d)) (descriptions_of shared) =
          ap descriptions_of (less s.value s.is) ∙ left_held fewer (descriptions_of shared) (with_one_less shared did s.value) numbers (held_less s.value s.is) (less_same shared did s.value s.is) in
          let all : ◌≡◌ {A = OpenFiles} (record { processes = processes'; descriptions = descriptions_of left; numbers = numbers })
          (left_with (record { processes = processes; descriptions = descriptions_of shared; numbers = numbers }) fewer) = (λ i. record { processes = set i; descriptions = descriptions i; numbers = numbers }) in
          all ∙ ap (λ (t : OpenFiles). left_with t (map.insert t.processes who (map.remove (fds_of t.processes who) fd))) view
