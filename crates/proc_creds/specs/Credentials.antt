-- Credentials as contracts see them.
use Rattle.std.specs.Prelude.{ℕ, Option, unwrap_or}
use Rattle.cap_bits.specs.declared.state.CapState.{CapState}
use Rattle.lab_lattice.specs.Label.{Label}
use Rattle.kern_model.specs.declared.numbers.Ids.{Ids}

-- ids, present label, capability sets and umask
pub record Credentials : Type 0 where
  pub ids : Ids
  pub label : Label
  pub caps : CapState
  pub umask : ℕ

-- the ids after exec: the user that is given, if any, as the effective and the saved one, and so the group
abbrev pub taken_on : Ids → Option ℕ → Option ℕ → Ids
taken_on ids user group = record ids { euid = unwrap_or user ids.euid; suid = unwrap_or user ids.suid; egid = unwrap_or group ids.egid; sgid = unwrap_or group ids.sgid }
