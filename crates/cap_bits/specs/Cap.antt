-- The capabilities: their numbers, their order and their names.
use Rattle.std.specs.Prelude.{◌≡◌, ℕ, Bool, List, [], ◌∷◌, Option, slice_index_or, codes, refl}
use Rattle.std.specs.Coded.{Coded, code_by, coded_ℕ}
use Rattle.std.specs.List.{find}
use Rattle.std.specs.declared.cmp.Ordering.{Ordering}
use Rattle.std.specs.Ordering.{nat_cmp}
use Rattle.std.specs.Str.{bytes_eq, str_to_ascii_lowercase}
use Rattle.cap_bits.specs.declared.cap.Cap.{Cap}
use Rattle.cap_bits.specs.declared.cap.Cap.TheVariants.{Chown, DacExecute, DacReadSearch, DacWrite, Fowner, Fsetid, Kill, LinkDir, Setfcap, Setgid, Setuid, MacDowngrade, MacRead, MacRelabelSubj, MacUpgrade, MacWrite, AuditControl, AuditWrite}

-- the place of a capability among the 18, counted from 0
abbrev pub cap_number : Cap → ℕ
cap_number Chown = 0
cap_number DacExecute = 1
cap_number DacReadSearch = 2
cap_number DacWrite = 3
cap_number Fowner = 4
cap_number Fsetid = 5
cap_number Kill = 6
cap_number LinkDir = 7
cap_number Setfcap = 8
cap_number Setgid = 9
cap_number Setuid = 10
cap_number MacDowngrade = 11
cap_number MacRead = 12
cap_number MacRelabelSubj = 13
cap_number MacUpgrade = 14
cap_number MacWrite = 15
cap_number AuditControl = 16
cap_number AuditWrite = 17

-- the 18 capabilities, in their order
abbrev pub all_caps : List Cap
all_caps =
    Chown ∷ DacExecute ∷ DacReadSearch ∷ DacWrite ∷ Fowner ∷ Fsetid ∷ Kill ∷ LinkDir ∷ Setfcap ∷ Setgid ∷ Setuid ∷ MacDowngrade ∷ MacRead ∷ MacRelabelSubj ∷ MacUpgrade ∷ MacWrite ∷ AuditControl ∷ AuditWrite ∷ []

-- the capability with a number below 18
abbrev pub cap_at : ℕ → Cap
cap_at n = slice_index_or all_caps n Chown

pub cap_at-number : (cap : Cap) → cap_at (cap_number cap) ≡ cap
cap_at-number Chown = refl
cap_at-number DacExecute = refl
cap_at-number DacReadSearch = refl
cap_at-number DacWrite = refl
cap_at-number Fowner = refl
cap_at-number Fsetid = refl
cap_at-number Kill = refl
cap_at-number LinkDir = refl
cap_at-number Setfcap = refl
cap_at-number Setgid = refl
cap_at-number Setuid = refl
cap_at-number MacDowngrade = refl
cap_at-number MacRead = refl
cap_at-number MacRelabelSubj = refl
cap_at-number MacUpgrade = refl
cap_at-number MacWrite = refl
cap_at-number AuditControl = refl
cap_at-number AuditWrite = refl

-- a capability is stored as its number
abbrev pub cap_code : Coded Cap
cap_code = code_by ℕ coded_ℕ cap_number cap_at cap_at-number

-- capabilities are ordered by their numbers
unfoldable pub cap_cmp : Cap → Cap → Ordering
cap_cmp a b = nat_cmp (cap_number a) (cap_number b)

-- the name of a capability, in lower case
abbrev pub cap_name : Cap → List ℕ
cap_name Chown = codes "cap_chown"
cap_name DacExecute = codes "cap_dac_execute"
cap_name DacReadSearch = codes "cap_dac_read_search"
cap_name DacWrite = codes "cap_dac_write"
cap_name Fowner = codes "cap_fowner"
cap_name Fsetid = codes "cap_fsetid"
cap_name Kill = codes "cap_kill"
cap_name LinkDir = codes "cap_link_dir"
cap_name Setfcap = codes "cap_setfcap"
cap_name Setgid = codes "cap_setgid"
cap_name Setuid = codes "cap_setuid"
cap_name MacDowngrade = codes "cap_mac_downgrade"
cap_name MacRead = codes "cap_mac_read"
cap_name MacRelabelSubj = codes "cap_mac_relabel_subj"
cap_name MacUpgrade = codes "cap_mac_upgrade"
cap_name MacWrite = codes "cap_mac_write"
cap_name AuditControl = codes "cap_audit_control"
cap_name AuditWrite = codes "cap_audit_write"

-- whether a word is the name of a capability, in any case of its ASCII letters
unfoldable pub is_name_of : List ℕ → Cap → Bool
is_name_of word cap = bytes_eq (cap_name cap) (str_to_ascii_lowercase word)

-- the first capability that a word names; no word names two
unfoldable pub cap_named : List ℕ → Option Cap
cap_named word = find (is_name_of word) all_caps
