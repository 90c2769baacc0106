-- What was played, and its bytes.
use Rattle.std.specs.Prelude.{ℕ, ◌+◌, List, [], ◌∷◌, ◌++◌, length, map, None}
use Rattle.std.specs.List.{flat_map}
use Rattle.cap_bits.specs.CapSet.{CapSet}
use Rattle.kern_model.specs.declared.records.Rec.{Rec}
use Rattle.kern_model.specs.State.{State}
use Rattle.kern_model.specs.Boot.{boot, boot_recs}
use Rattle.kern_model.specs.Run.{CallRecord, run, state_after_run}
use Rattle.lab_text.specs.Policy.{PolicyNames}
use Rattle.aud_record.specs.Written.{rec_text, header_text}
use Rattle.lab_engine.specs.declared.ending.InputEnd.{InputEnd}
use Rattle.lab_engine.specs.Input.{Accepted, Script}
use Rattle.lab_engine.specs.Texts.{reply_text, ends_text, last_text}

-- what was played: the names of its labels, its bound of capabilities over exec, the records of its start, its calls in order, its last state, and how its input ends
pub record Session : Type 0 where
  pub policy : PolicyNames
  pub bound : CapSet
  pub boot_recs : List Rec
  pub calls : List CallRecord
  pub last_state : State
  pub ending : InputEnd

-- what is played of an accepted world and its script
abbrev pub session_of : Accepted → Script → Session
session_of a script = record {
  policy = a.policy;
  bound = a.world.bound;
  boot_recs = boot_recs a.world;
  calls = run (boot a.world) script.items;
  last_state = state_after_run (boot a.world) script.items;
  ending = script.ending;
}

-- the bytes of a call: the lines of its records, and its reply line
pub record CallBytes : Type 0 where
  pub recs : List ℕ
  pub reply : List ℕ

-- the bytes of the n-th call
abbrev pub call_bytes : PolicyNames → ℕ → CallRecord → CallBytes
call_bytes policy n p = record { recs = flat_map (rec_text policy n) p.recs; reply = reply_text policy p }

-- the bytes of calls from the n-th on
unfoldable pub bytes_from : PolicyNames → ℕ → List CallRecord → List CallBytes
bytes_from policy n [] = []
bytes_from policy n (p ∷ ps) = call_bytes policy n p ∷ bytes_from policy (n + 1) ps

-- the bytes of all calls
abbrev pub bytes_of : Session → List CallBytes
bytes_of s = bytes_from s.policy 1 s.calls

-- the reply lines of calls
abbrev pub replies_of : List CallBytes → List ℕ
replies_of cs = flat_map (λ (c : CallBytes). c.reply) cs

-- the lines of their records
abbrev pub records_of : List CallBytes → List ℕ
records_of cs = flat_map (λ (c : CallBytes). c.recs) cs

-- the head of a trail: its header, and the lines of the records of the start
abbrev pub trail_head : PolicyNames → CapSet → List Rec → List ℕ
trail_head policy bound recs = header_text policy bound ++ flat_map (rec_text policy 0) recs

-- the head of the trail of what was played
unfoldable pub head_text : Session → List ℕ
head_text s = trail_head s.policy s.bound s.boot_recs

-- the end of the output: the end lines, and the last line
unfoldable pub tail_text : Session → List ℕ
tail_text s = ends_text None s.policy s.last_state ++ last_text (length s.calls) s.ending

-- the records of calls from the n-th on, each with the number of its call
abbrev pub numbered_from : ℕ → List CallRecord → List (ℕ × Rec)
numbered_from n [] = []
numbered_from n (p ∷ ps) = map (λ (r : Rec). (n, r)) p.recs ++ numbered_from (n + 1) ps

-- all records, each with the number of its call; 0 is that of the start
abbrev pub numbered_recs : Session → List (ℕ × Rec)
numbered_recs s = map (λ (r : Rec). (0, r)) s.boot_recs ++ numbered_from 1 s.calls
