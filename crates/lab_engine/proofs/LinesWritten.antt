-- What is written of the lines of a script that are handled one after another: all of an order, or up to a fault a prefix of it.
use Rattle.std.proofs.Common.{◌≡◌, ◌⊎◌, ℕ, List, ◌∷◌, ◌++◌, length, inl, inr, sym, ◌∙◌, ap, subst}
use Rattle.io_ends.specs.Ends.{SinkView, SourceView}
use Rattle.lab_engine.specs.declared.ending.Fault.{Fault}
use Rattle.lab_engine.specs.declared.ending.Fault.TheVariants.{Read}
use Rattle.lab_engine.specs.Counts.{counted_by}
use Rattle.lab_engine.specs.Handling.{Handled, StopsBetween, StopsWithin}
use Rattle.lab_engine.specs.Input.{ScriptLine, ScriptLines, items_of_lines}
use Rattle.lab_engine.specs.Order.{Sent}
use Rattle.lab_engine.specs.Playing.{Ends, Sends, SendsAll, StopsBy, ends}
use Rattle.lab_engine.proofs.Sending.{not_a_read}

-- an order goes on after its first lines with what is written of those after them
pub record Continues (order : List ScriptLine → List Sent) (ls more : List ScriptLine) : Type 0 where
  pub rest : List Sent
  pub is : order (ls ++ more) ≡ order ls ++ rest

-- a fault stopped an order; where a read failed, what is written of the taken lines was written
pub record StopsOrder (order : List ScriptLine → List Sent) (m taken : ScriptLines) (fault : Fault) (before after : Ends) : Type 0 where
  pub stops : StopsBy fault (order m.lines) before after
  pub by_line : fault ≡ Read → Sends (order taken.lines) before after

module _ {H : Type 0} (handles : ℕ → ScriptLine → H → H → Type 0) (stops : ℕ → ScriptLine → Fault → H → H → Type 0) (out trail : H → SinkView) (first : H) (order : List ScriptLine → List Sent) where
  abbrev beside : ℕ → H → Ends
  beside source h = ends source (out h) (trail h)

  -- lines that were handled are written
  abbrev pub WritesLines : Type 0
  WritesLines = (ls : List ScriptLine) (now : H) → Handled handles first ls now → (source : ℕ) → SendsAll (order ls) (beside source first) (beside source now)

  -- a line that a fault stopped is written in part, after those before it
  abbrev pub WritesPart : Type 0
  WritesPart = (before : List ScriptLine) (line : ScriptLine) (rest : List ScriptLine) (between now : H) (fault : Fault) → Handled handles first before between → stops (length (items_of_lines before)) line fault between now
      → (source : ℕ) → StopsBy fault (order (before ++ line ∷ rest)) (beside source first) (beside source now)

  module _ (all : WritesLines) (source source' : SourceView) (now : H) where
    -- all lines were handled
    pub all_written : (m : ScriptLines) → Handled handles first m.lines now → source'.faults ≡ source.faults → SendsAll (order m.lines) (beside source.faults first) (beside source'.faults now)
    all_written m handled still = subst (λ n. SendsAll (order m.lines) (beside source.faults first) (beside n now)) (sym still) (all m.lines now handled source.faults)

    module _ (some : WritesPart) (goes_on : (ls more : List ScriptLine) → Continues order ls more) (m taken : ScriptLines) (fault : Fault) where
      abbrev Stopped : Type 0
      Stopped = StopsOrder order m taken fault (beside source.faults first) (beside source'.faults now)

      -- a read failed, or memory ran out
      between_lines : StopsBetween handles m taken fault source source' first now → Stopped
      between_lines h =
          let sent = all h.lines now h.handled source.faults in
          let more = goes_on h.lines h.rest in
          let sends : Sends (order h.lines) (beside source.faults first) (beside source'.faults now) = record { to_out = sent.sends.to_out; to_trail = sent.sends.to_trail } in
          record {
            stops = record {
              sends = record { sent = order h.lines; rest = more.rest; prefix = ap order h.prefix ∙ more.is; sends = sends };
              one_fault = h.one_fault (out now).faults (trail now).faults ∙ ap (counted_by fault) sent.no_fault;
            };
            by_line = λ read. subst (λ (ls : List ScriptLine). Sends (order ls) (beside source.faults first) (beside source'.faults now)) (sym (h.by_line read)) sends;
          }

      -- a fault stopped a line
      within_line : StopsWithin handles stops m fault source source' first now → Stopped
      within_line h =
          let stop = some h.before h.line h.rest h.between now fault h.handled h.stopped in
          record {
            stops = subst (λ n. StopsBy fault (order m.lines) (beside source.faults first) (beside n now)) (sym h.no_fault)
                (subst (λ (ls : List ScriptLine). StopsBy fault (order ls) (beside source.faults first) (beside source.faults now)) (sym h.prefix) (stop source.faults));
            by_line = λ read. absurd (not_a_read fault (order (h.before ++ h.line ∷ h.rest)) (out first) (out now) (trail first) (trail now) (stop 0) read);
          }

      -- a fault stopped the script
      pub part_written : StopsBetween handles m taken fault source source' first now ⊎ StopsWithin handles stops m fault source source' first now → Stopped
      part_written (inl h) = between_lines h
      part_written (inr h) = within_line h
