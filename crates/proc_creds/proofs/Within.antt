-- What is effective after exec.
use Rattle.std.specs.Prelude.{◌≡◌, Bool, true, false, not, cond}
use Rattle.std.proofs.Common.{refl}
use Rattle.cap_bits.proofs.CapSets.{has-no_caps}
use Rattle.cap_bits.proofs.RoundTrips.{flag-shown}
use Rattle.cap_bits.specs.declared.file_caps.FileCaps.{FileCaps}
use Rattle.cap_bits.specs.CapSet.{CapSet, is_empty, is_within, no_caps}
use Rattle.cap_bits.specs.FileCaps.{shown}
use Rattle.cap_bits.specs.Laws.{has-within}

-- all that is permitted is effective where a file's flag is on, and nothing where it is off
turned : (eff empty : Bool) (permitted : CapSet) → eff ≡ not empty → cond eff permitted no_caps ≡ cond empty no_caps permitted
turned true true permitted h = absurd (cc)
turned true false permitted h = refl
turned false true permitted h = refl
turned false false permitted h = absurd (cc)

pub effective_shown : (file : FileCaps) (permitted : CapSet) → cond file.eff permitted no_caps ≡ cond (is_empty (shown file).e) no_caps permitted
effective_shown file permitted = turned file.eff (is_empty (shown file).e) permitted (flag-shown file)

-- what is effective is permitted
pub effective_within : (eff : Bool) (permitted : CapSet) → is_within (cond eff permitted no_caps) permitted ≡ true
effective_within true permitted = has-within permitted permitted (λ cap h. h)
effective_within false permitted = has-within no_caps permitted (λ cap h. absurd (let none = has-no_caps cap in cc))
