-- How many descriptions an object has.
use Rattle.std.specs.Prelude.{◌+◌, ◌≤◌, Bool, cond}
use Rattle.fd_table.specs.declared.shared.How.{How}
use Rattle.fd_table.specs.declared.uses.UseCount.{UseCount}

-- no description
abbrev pub no_use : UseCount
no_use = record { all = 0; readers = 0; writers = 0 }

-- one description more
abbrev pub with_more : How → UseCount → UseCount
with_more how n = record { all = n.all + 1; readers = n.readers + cond how.reads 1 0; writers = n.writers + cond how.writes 1 0 }

-- one description more where the test passes
abbrev pub more_if : Bool → How → UseCount → UseCount
more_if b how n = cond b (with_more how n) n

-- a description is among those that are counted
pub record Includes (n : UseCount) (how : How) : Type 0 where
  pub any : 1 ≤ n.all
  pub reader : cond how.reads 1 0 ≤ n.readers
  pub writer : cond how.writes 1 0 ≤ n.writers
