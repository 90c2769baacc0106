-- The numbers of capabilities.
use Rattle.std.specs.Prelude.{◌<◌}
use Rattle.std.proofs.Common.{lit<}
use Rattle.cap_bits.specs.declared.cap.Cap.{Cap}
use Rattle.cap_bits.specs.declared.cap.Cap.TheVariants.{Chown, DacExecute, DacReadSearch, DacWrite, Fowner, Fsetid, Kill, LinkDir, Setfcap, Setgid, Setuid, MacDowngrade, MacRead, MacRelabelSubj, MacUpgrade, MacWrite, AuditControl, AuditWrite}
use Rattle.cap_bits.specs.Cap.{cap_number}

-- there are 18 capabilities, numbered from 0
pub few_caps : (cap : Cap) → cap_number cap < 18
few_caps Chown = lit< tt
few_caps DacExecute = lit< tt
few_caps DacReadSearch = lit< tt
few_caps DacWrite = lit< tt
few_caps Fowner = lit< tt
few_caps Fsetid = lit< tt
few_caps Kill = lit< tt
few_caps LinkDir = lit< tt
few_caps Setfcap = lit< tt
few_caps Setgid = lit< tt
few_caps Setuid = lit< tt
few_caps MacDowngrade = lit< tt
few_caps MacRead = lit< tt
few_caps MacRelabelSubj = lit< tt
few_caps MacUpgrade = lit< tt
few_caps MacWrite = lit< tt
few_caps AuditControl = lit< tt
few_caps AuditWrite = lit< tt
