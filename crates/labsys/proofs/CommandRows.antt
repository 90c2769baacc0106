-- What is shown of each command by its case.
use Rattle.std.proofs.Common.{◌≡◌, inr, ℕ, false, List, refl, sym, ap}
use Rattle.std.proofs.lemmas.Result.{IfOk-weaker}
use Rattle.std.specs.Prelude.{Result, IsErrAnd, IfOk}
use Rattle.io_ends.specs.Ends.{SinkView}
use Rattle.lab_engine.specs.declared.ending.Fault.{Fault}
use Rattle.lab_engine.specs.declared.ending.InputEnd.{InputEnd}
use Rattle.lab_engine.specs.Order.{Sent, to_out}
use Rattle.lab_engine.specs.Playing.{Ends, ends}
use Rattle.lab_engine.specs.Texts.{last_text}
use Rattle.lab_engine.proofs.Sending.{prefix_nothing}
use Rattle.labsys.specs.declared.command.Command.{Command}
use Rattle.labsys.specs.declared.command.Command.TheVariants.{OnInput, Gen, Drill, Select, Lineage}
use Rattle.labsys.specs.declared.command.InputCommand.{InputCommand}
use Rattle.labsys.specs.declared.command.InputCommand.TheVariants.{Play, Sched, Check, View, Upgrade, Least, Never}
use Rattle.labsys.specs.Commands.{ReadAs, due, due_of, due_with, kind_of, read_none, read_of, writes_trail}
use Rattle.labsys.specs.Playing.{Besides, BesidesOf}
use Rattle.labsys.proofs.InputLemmas.{failed_ending, without_world}

-- ---- an input without a world

-- of that the last line is due
pub due_without_world : (c : InputCommand) (e : InputEnd) → due_of c (read_none (kind_of c) e) ≡ due_with (to_out (last_text 0 e)) e
due_without_world Play e = ap (λ (o : List Sent). due_with o e) (sym (without_world e))
due_without_world Sched e = refl
due_without_world Check e = refl
due_without_world (View word) e = refl
due_without_world Upgrade e = refl
due_without_world Least e = refl
due_without_world Never e = refl

-- without a world there is nothing besides
pub besides_none : (c : InputCommand) (ending : InputEnd) (r : Result InputEnd Fault) (before after : Ends) → IfOk r (λ e. e ≡ ending) → BesidesOf c (read_none (kind_of c) ending) r before after
besides_none Play ending r before after same = λ a accepted. absurd (cc)
besides_none Sched ending r before after same = λ a s no. absurd (cc)
besides_none Check ending r before after same = tt
besides_none (View word) ending r before after same = tt
besides_none Upgrade ending r before after same = IfOk-weaker r _ _ (λ e is a accepted. absurd (cc)) same
besides_none Least ending r before after same = IfOk-weaker r _ _ (λ e is whole a accepted. absurd (cc)) same
besides_none Never ending r before after same = tt

module _ (r : Result InputEnd Fault) (fault : Fault) (is : IsErrAnd r (λ q. q ≡ fault)) (n n' : ℕ) (o t : SinkView) where
  -- nor where nothing was written before a fault
  input_failed : (c : InputCommand) (i : ReadAs (kind_of c)) → BesidesOf c i r (ends n o t) (ends n' o t)
  input_failed Play i = λ a accepted. inr (prefix_nothing _ n n' o t)
  input_failed Sched i = λ a s scheduled. inr (prefix_nothing _ n n' o t)
  input_failed Check i = tt
  input_failed (View word) i = tt
  input_failed Upgrade i = failed_ending r fault is _
  input_failed Least i = failed_ending r fault is _
  input_failed Never i = tt

  pub besides_failed : (c : Command) (text : List ℕ) → Besides c text r (ends n o t) (ends n' o t)
  besides_failed (OnInput c) text = input_failed c (read_of (kind_of c) text)
  besides_failed (Gen k) text = tt
  besides_failed (Drill k) text = tt
  besides_failed (Select word) text = tt
  besides_failed Lineage text = tt

-- ---- the output alone

-- a command writes these bytes to the output and nothing to the trail, and what holds of it besides does not depend on its ends
pub record WritesOut (c : Command) : Type 0 where
  pub bytes : List ℕ → List ℕ
  pub is : (text : List ℕ) → (due c text).order ≡ to_out (bytes text)
  pub other : c ≡ OnInput Play → ⊥
  pub same : (text : List ℕ) (r : Result InputEnd Fault) (e e' f f' : Ends) → Besides c text r e e' → Besides c text r f f'

abbrev out_alone : (c : Command) (bytes : List ℕ → List ℕ) → ((text : List ℕ) → (due c text).order ≡ to_out (bytes text)) → (c ≡ OnInput Play → ⊥)
    → ((text : List ℕ) (r : Result InputEnd Fault) (e e' f f' : Ends) → Besides c text r e e' → Besides c text r f f') → WritesOut c
out_alone c bytes is other same = record { bytes = bytes; is = is; other = other; same = same }

pub writes_out_alone : (c : Command) → writes_trail c ≡ false → WritesOut c
writes_out_alone (OnInput Play) off = absurd (cc)
writes_out_alone (OnInput Sched) off = absurd (cc)
writes_out_alone (OnInput Check) off = out_alone (OnInput Check) _ (λ text. refl) (λ play. absurd (cc)) (λ text r a b c d same. same)
writes_out_alone (OnInput (View word)) off = out_alone (OnInput (View word)) _ (λ text. refl) (λ play. absurd (cc)) (λ text r a b c d same. same)
writes_out_alone (OnInput Upgrade) off = out_alone (OnInput Upgrade) _ (λ text. refl) (λ play. absurd (cc)) (λ text r a b c d same. same)
writes_out_alone (OnInput Least) off = out_alone (OnInput Least) _ (λ text. refl) (λ play. absurd (cc)) (λ text r a b c d same. same)
writes_out_alone (OnInput Never) off = out_alone (OnInput Never) _ (λ text. refl) (λ play. absurd (cc)) (λ text r a b c d same. same)
writes_out_alone (Gen n) off = out_alone (Gen n) _ (λ text. refl) (λ play. absurd (cc)) (λ text r a b c d same. same)
writes_out_alone (Drill n) off = out_alone (Drill n) _ (λ text. refl) (λ play. absurd (cc)) (λ text r a b c d same. same)
writes_out_alone (Select word) off = out_alone (Select word) _ (λ text. refl) (λ play. absurd (cc)) (λ text r a b c d same. same)
writes_out_alone Lineage off = out_alone Lineage _ (λ text. refl) (λ play. absurd (cc)) (λ text r a b c d same. same)
