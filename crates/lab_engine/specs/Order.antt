-- The order in which bytes go out, each with the sink that it goes to.
use Rattle.std.specs.Prelude.{◌≡◌, ℕ, List, [], ◌∷◌, ◌++◌, map, Option, Some, None}
use Rattle.std.specs.List.{flat_map}
use Rattle.lab_engine.specs.Input.{Accepted, Script, Input}
use Rattle.lab_engine.specs.Session.{Session, CallBytes, session_of, bytes_of, head_text, tail_text}
use Rattle.lab_engine.specs.Texts.{last_text}

-- a byte that goes to a sink
pub data Sent : Type 0 where
  ToOut : (byte : ℕ) → Sent
  ToTrail : (byte : ℕ) → Sent

-- the bytes for the output
unfoldable pub out_of : List Sent → List ℕ
out_of [] = []
out_of (ToOut b ∷ s) = b ∷ out_of s
out_of (ToTrail b ∷ s) = out_of s

-- the bytes for the trail
unfoldable pub trail_of : List Sent → List ℕ
trail_of [] = []
trail_of (ToOut b ∷ s) = trail_of s
trail_of (ToTrail b ∷ s) = b ∷ trail_of s

unfoldable pub to_out : List ℕ → List Sent
to_out bs = map (λ b. ToOut b) bs

unfoldable pub to_trail : List ℕ → List Sent
to_trail bs = map (λ b. ToTrail b) bs

-- the order of a call: its records, and then its reply
unfoldable pub call_order : CallBytes → List Sent
call_order c = to_trail c.recs ++ to_out c.reply

-- the order of what was played: the head of the trail, its calls, and the end of the output
unfoldable pub session_order : Session → List Sent
session_order s = to_trail (head_text s) ++ (flat_map call_order (bytes_of s) ++ to_out (tail_text s))

-- the same up to the end of the output
unfoldable pub order_before_end : Session → List Sent
order_before_end s = to_trail (head_text s) ++ flat_map call_order (bytes_of s)

-- the order of a script that is played on an accepted world; without one it is the last line alone
unfoldable pub order_by : Option Accepted → Script → List Sent
order_by None script = to_out (last_text 0 script.ending)
order_by (Some a) script = session_order (session_of a script)

-- the order of an input
abbrev pub order_of : Input → List Sent
order_of i = order_by i.accepted i.script

-- the order of the head of the trail and of the calls that are played on an accepted world; without one there are none
unfoldable pub calls_by : Option Accepted → Script → List Sent
calls_by None script = []
calls_by (Some a) script = order_before_end (session_of a script)

-- the order of an input up to the end of the output
abbrev pub order_of_calls : Input → List Sent
order_of_calls i = calls_by i.accepted i.script

-- both sinks have the bytes of a prefix of an order, each its own
pub record IsInOrder (order : List Sent) (out trail : List ℕ) : Type 0 where
  pub sent : List Sent
  pub rest : List Sent
  pub order_is : order ≡ sent ++ rest
  pub out_is : out ≡ out_of sent
  pub trail_is : trail ≡ trail_of sent
