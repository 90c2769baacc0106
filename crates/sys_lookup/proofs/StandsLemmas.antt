-- What a caller keeps, beside the tables of its state.
use Rattle.std.specs.Prelude.{◌≡◌, ℕ, ◌+◌, nat_le, Bool, true, false, Option, None, Some, cond, refl}
use Rattle.std.specs.Option.{option_and_then, option_map}
use Rattle.std.specs.FinMap as map
use Rattle.std.proofs.Common.{ap, ◌∙◌}
use Rattle.kern_model.specs.declared.limits.TheConstants.{MAX_DESCRIPTIONS, MAX_DESCRIPTORS}
use Rattle.kern_model.specs.Descriptors.{open_description}
use Rattle.kern_model.specs.FileRows.{has_descriptions, has_free_descriptors}
use Rattle.kern_model.specs.State.{State, Process, Description, last_drawn}
use Rattle.fd_table.specs.Files.{open_refusal, opened_at}
use Rattle.fd_table.specs.Fds.{fd_count, fds_of}
use Rattle.fd_table.specs.declared.table.FdError.{FdError}
use Rattle.fd_table.specs.declared.table.FdError.TheVariants as error
use Rattle.sys_lookup.specs.Callers.{CallerView, IsLiving}
use Rattle.sys_lookup.specs.Shared.{state_of}
use Rattle.sys_lookup.specs.declared.shared.Shared.TheInside.{Inside}
use Rattle.sys_lookup.proofs.FdLemmas.{stands_in}

-- why no descriptions are opened, by whether descriptors are free and numbers are left
abbrev pub refusal : Bool → Bool → Option FdError
refusal free left = cond free (cond left None (Some error.Full)) (Some error.TooMany)

module _ (h : Inside) (k : CallerView) (is : state_of h ≡ k.state) (living : IsLiving k) where
  -- the descriptors of the caller are its row in the table
  pub fds_are : fds_of h.fds.processes k.who ≡ k.process.fds
  fds_are =
      let q = stands_in h.procs.procs h.fds.processes k.who k.process (ap (λ (s : State). map.get s.procs k.who) is ∙ living) in
      ap (λ (p : Process). p.fds) q.same

  -- so a descriptor refers to what it refers to in the table
  pub opened_is : (fd : ℕ) → opened_at h.fds k.who fd ≡ open_description k.state k.process fd
  unfolding open_description
  opened_is fd = λ i. option_and_then (λ did. option_map (λ (d : Description). record { did = did; description = d }) (map.get (is i).descriptions did)) (map.get (fds_are i) fd)

  -- and descriptions are opened where the table lets them be opened
  pub refusal_is : (n : ℕ) → open_refusal h.fds k.who k.process.label n ≡ refusal (has_free_descriptors k.process n) (has_descriptions k.state k.process n)
  refusal_is n = λ i. refusal (nat_le (fd_count (fds_are i) + n) MAX_DESCRIPTORS) (nat_le (last_drawn (is i).description_numbers k.process.label + n) MAX_DESCRIPTIONS)

-- a descriptor is free, and a number is left
pub record HasBoth (free left : Bool) : Type 0 where
  pub is_free : free ≡ true
  pub is_left : left ≡ true

pub none_refused : (free left : Bool) → refusal free left ≡ None → HasBoth free left
none_refused true true e = record { is_free = refl; is_left = refl }
none_refused true false e = let no : Some error.Full ≡ None = e in cc
none_refused false left e = let no : Some error.TooMany ≡ None = e in cc

-- where too many are open, none is free
pub too_many : (free left : Bool) → refusal free left ≡ Some error.TooMany → free ≡ false
too_many true true e = let no : None ≡ Some error.TooMany = e in cc
too_many true false e = let no : Some error.Full ≡ Some error.TooMany = e in cc
too_many false left e = refl

-- a descriptor is free, and no number is left
pub record LacksNumbers (free left : Bool) : Type 0 where
  pub is_free : free ≡ true
  pub none_left : left ≡ false

pub all_drawn : (free left : Bool) → refusal free left ≡ Some error.Full → LacksNumbers free left
all_drawn true true e = let no : None ≡ Some error.Full = e in cc
all_drawn true false e = record { is_free = refl; none_left = refl }
all_drawn false left e = let no : Some error.TooMany ≡ Some error.Full = e in cc
