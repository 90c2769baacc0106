-- What is written of an input that is viewed from a label.
use Rattle.std.proofs.Common.{◌≡◌, ℕ, ◌+◌, Bool, true, false, cond, List, [], ◌∷◌, ◌++◌, length, refl, sym, ◌∙◌, ap, subst, append_assoc, arith}
use Rattle.std.proofs.KnownBytes.{Appends-nil}
use Rattle.std.proofs.lemmas.List.{append-nil}
use Rattle.std.proofs.lemmas.Result.{IfOk-weaker}
use Rattle.std.specs.Prelude.{Option, None, Some, Result, Ok, Err, IsErrAnd, IfOk}
use Rattle.std.specs.List.{flat_map}
use Rattle.std.specs.Io.KnownBytes.{Appends}
use Rattle.io_ends.specs.LinesState.{LinesState, may_take}
use Rattle.io_ends.specs.Ends.{SinkView, sink_view}
use Rattle.kern_model.specs.Boot.{boot}
use Rattle.kern_model.specs.Run.{CallRecord, run, state_after_run}
use Rattle.kern_model.specs.State.{State}
use Rattle.lab_lattice.specs.Label.{Label}
use Rattle.lab_text.specs.Policy.{PolicyNames}
use Rattle.line_text.specs.declared.fault.LineFault.TheVariants as line_fault
use Rattle.lab_engine.specs.declared.ending.Fault.{Fault}
use Rattle.lab_engine.specs.declared.ending.Fault.TheVariants.{NoMemory}
use Rattle.lab_engine.specs.declared.ending.CommandWord.TheVariants as command_word
use Rattle.lab_engine.specs.declared.ending.InputEnd.{InputEnd}
use Rattle.lab_engine.specs.declared.ending.InputEnd.TheVariants.{RefusedWord, Whole}
use Rattle.lab_engine.specs.declared.playing.Played.{Played}
use Rattle.lab_engine.specs.declared.reporting.Report.{Report}
use Rattle.lab_engine.specs.declared.reporting.Report.TheVariants.{Below, Crossed}
use Rattle.lab_engine.specs.Counts.{Counts, counts}
use Rattle.lab_engine.specs.Input.{Accepted, Script}
use Rattle.lab_engine.specs.Order.{Sent, to_out, trail_of}
use Rattle.lab_engine.specs.Playing.{Ends, ends, PlaysAll, SendsAll, StopsBy, StopsIn, Writes}
use Rattle.lab_engine.specs.Reading.{Takes, left_of, script_at}
use Rattle.lab_engine.specs.Report.{crossed_line}
use Rattle.lab_engine.specs.Session.{session_of}
use Rattle.lab_engine.specs.Texts.{ends_text, last_text, reply_text}
use Rattle.lab_engine.specs.Viewing.{low_calls, visible_calls, some_crosses, unless_whole, view_text}
use Rattle.lab_engine.proofs.CountLemmas.{any_trail_counts}
use Rattle.lab_engine.proofs.RunReports.{below_after, below_reported, below_text, up_to_all}
use Rattle.lab_engine.proofs.Sending.{goes_on, in_order, stops_at_once, stops_longer, to_out-append, trail_of-append, trail_of-to_out}
use Rattle.lab_text.specs.Text.{parse_label}
use Rattle.labsys.specs.declared.command.InputCommand.TheVariants.{View}
use Rattle.labsys.specs.Clauses.{TakesAtMost}
use Rattle.labsys.specs.Commands.{ends_with}
use Rattle.labsys.specs.Playing.{DoesWorld, WritesLeft, due_of_label}
use Rattle.labsys.proofs.InputLemmas.{reads_nothing, reads_within}
use Rattle.labsys.proofs.WorldLemmas.{left_stops, left_written}

-- ---- a trail that is not used

left_nil : (xs ys : List ℕ) → xs ++ ys ≡ [] → xs ≡ []
left_nil [] ys e = refl
left_nil (x ∷ xs) ys e = absurd (cc)

-- the ends of a run without a trail
abbrev no_trail : ℕ → SinkView → Ends
no_trail n o = ends n o (sink_view None 0)

module _ (bs : List ℕ) (n n' : ℕ) (o o' t : SinkView) where
  -- what went to the output alone leaves each trail as it was
  pub any_trail : SendsAll (to_out bs) (no_trail n o) (no_trail n' o') → SendsAll (to_out bs) (ends n o t) (ends n' o' t)
  any_trail x = record {
    sends = record { to_out = x.sends.to_out; to_trail = subst (λ r. Appends t.held t.held r) (sym (trail_of-to_out bs)) (Appends-nil t.held) };
    no_fault = ap (λ (c : Counts). counts c.source c.out t.faults) x.no_fault;
  }

  pub any_trail_stops : (fault : Fault) → StopsBy fault (to_out bs) (no_trail n o) (no_trail n' o') → StopsBy fault (to_out bs) (ends n o t) (ends n' o' t)
  any_trail_stops fault x =
      let none : trail_of x.sends.sent ≡ [] = left_nil (trail_of x.sends.sent) (trail_of x.sends.rest) (sym (trail_of-append x.sends.sent x.sends.rest) ∙ sym (ap trail_of x.sends.prefix) ∙ trail_of-to_out bs) in
      record {
        sends = record {
          sent = x.sends.sent;
          rest = x.sends.rest;
          prefix = x.sends.prefix;
          sends = record { to_out = x.sends.sends.to_out; to_trail = subst (λ r. Appends t.held t.held r) (sym none) (Appends-nil t.held) };
        };
        one_fault = any_trail_counts fault n n' o.faults o'.faults x.one_fault t.faults;
      }

-- ---- the replies, and what follows them

module _ (policy : PolicyNames) (l : Label) (calls : List CallRecord) (s : State) (e : InputEnd) where
  abbrev replies : List ℕ
  replies = flat_map (reply_text policy) (visible_calls l calls)

  abbrev whole_view : Bool → List ℕ
  whole_view b = replies ++ cond b (crossed_line ++ unless_whole e) (ends_text (Some l) policy s ++ last_text (length (visible_calls l calls)) e)

  -- what follows, by whether a call crosses the label
  abbrev view_end : Bool → List ℕ
  view_end b = cond b (unless_whole e) (ends_text (Some l) policy s ++ last_text (0 + length (low_calls l calls)) e)

  by_crossing : (b : Bool) → some_crosses l calls ≡ b → (replies ++ cond b crossed_line []) ++ view_end b ≡ whole_view b
  by_crossing true is = append_assoc replies crossed_line (unless_whole e)
  by_crossing false is =
      let none : 0 + length (low_calls l calls) ≡ length (low_calls l calls) = omega arith in
      ap (λ k. (replies ++ []) ++ (ends_text (Some l) policy s ++ last_text k e)) none
      ∙ ap (λ (r : List ℕ). r ++ (ends_text (Some l) policy s ++ last_text (length (low_calls l calls)) e)) (append-nil replies)
      ∙ ap (λ (cs : List CallRecord). replies ++ (ends_text (Some l) policy s ++ last_text (length (low_calls l cs)) e)) (sym (up_to_all l calls is))

  by_parts : below_text policy l calls ++ view_end (some_crosses l calls) ≡ whole_view (some_crosses l calls)
  by_parts = by_crossing (some_crosses l calls) refl

  -- it was written by what was kept
  pub end_kept : (P : List ℕ → Type 0) (kept : Report) (b : Bool) → kept ≡ cond b Crossed (Below l (0 + length (low_calls l calls)))
      → ((j : Label) (k : ℕ) → kept ≡ Below j k → P (ends_text (Some j) policy s ++ last_text k e)) → (((j : Label) (k : ℕ) → kept ≡ Below j k → ⊥) → P (unless_whole e)) → P (view_end b)
  end_kept P kept true is below other = other (λ j k no. let same : Crossed ≡ Below j k = sym is ∙ no in absurd (cc))
  end_kept P kept false is below other = below l (0 + length (low_calls l calls)) is

-- ---- an accepted world

-- memory ran out before a call was played
pub view_memory : (l : Label) (a : Accepted) (r : Result InputEnd Fault) (lines : LinesState) (left : Option (List ℕ)) (e : Ends) → IsErrAnd r (λ q. q ≡ NoMemory) → WritesLeft (due_of_label (Some l) a lines) r lines left left e e
view_memory l a r lines left e is = left_stops (due_of_label (Some l) a lines) r lines left left (reads_nothing (may_take lines) left) e e NoMemory (stops_at_once _ e) is

module _ (l : Label) (a : Accepted) (s : State) (s_is : s ≡ boot a.world) (r : Result InputEnd Fault) (lines lines' : LinesState) (left left' : Option (List ℕ)) (taken : List ℕ) (takes : Takes lines lines' left left' taken) (n n' : ℕ) (o o' t : SinkView) where
  abbrev m : Script
  m = script_at a.policy lines (taken ++ left_of left')

  abbrev calls : List CallRecord
  calls = run s m.items

  abbrev reads : TakesAtMost (may_take lines) left left'
  reads = reads_within lines lines' left left' taken takes

  abbrev written : List ℕ
  written = below_text a.policy l calls

  -- what follows the replies in this state
  abbrev end_in : State → InputEnd → List ℕ
  end_in s' e = view_end a.policy l calls s' e (some_crosses l calls)

  text_is : (s' : State) (e : InputEnd) → s' ≡ state_after_run s m.items → e ≡ m.ending → written ++ end_in s' e ≡ view_text l (session_of a m)
  unfolding view_text
  text_is s' e state ending =
      ap (λ (x : State). written ++ end_in x e) state
      ∙ ap (λ k. written ++ end_in (state_after_run s m.items) k) ending
      ∙ by_parts a.policy l calls (state_after_run s m.items) m.ending
      ∙ ap (λ (x : State). whole_view a.policy l (run x m.items) (state_after_run x m.items) m.ending (some_crosses l (run x m.items))) s_is

  in_parts : (s' : State) (e : InputEnd) → s' ≡ state_after_run s m.items → e ≡ m.ending → to_out written ++ to_out (end_in s' e) ≡ to_out (view_text l (session_of a m))
  in_parts s' e state ending = sym (to_out-append written (end_in s' e)) ∙ ap to_out (text_is s' e state ending)

  -- a fault stopped the script
  pub view_stops : (fault : Fault) → StopsIn a.policy (Below l 0) s m (script_at a.policy lines taken) fault (no_trail n o) (no_trail n' o') → IsErrAnd r (λ q. q ≡ fault) → WritesLeft (due_of_label (Some l) a lines) r lines left left' (ends n o t) (ends n' o' t)
  view_stops fault stop is = left_stops (due_of_label (Some l) a lines) r lines left left' reads (ends n o t) (ends n' o' t) fault
      (subst (λ (q : List Sent). StopsBy fault q (ends n o t) (ends n' o' t)) (in_parts (state_after_run s m.items) m.ending refl refl)
      (stops_longer fault (to_out written) (to_out (end_in (state_after_run s m.items) m.ending)) (ends n o t) (ends n' o' t)
      (any_trail_stops written n n' o o' t fault (subst (λ (q : List Sent). StopsBy fault q (no_trail n o) (no_trail n' o')) (below_reported a.policy l 0 1 calls) stop.stops)))) is

  -- the script was played
  module _ (now : SinkView) (kept : Report) (s' : State) (p : Played) (all : PlaysAll a.policy (Below l 0) kept s s' m left' p (no_trail n o) (no_trail n' now)) where
    -- what follows the replies was written by what was kept
    end_written : (P : List ℕ → Type 0) → ((j : Label) (k : ℕ) → kept ≡ Below j k → P (ends_text (Some j) a.policy s' ++ last_text k p.ending)) → (((j : Label) (k : ℕ) → kept ≡ Below j k → ⊥) → P (unless_whole p.ending)) → P (end_in s' p.ending)
    end_written P below other = end_kept a.policy l calls s' p.ending P kept (some_crosses l calls) (all.report ∙ below_after l 0 calls) below other

    all_written : (x : Result InputEnd Fault) → Writes x (to_out (end_in s' p.ending)) (ends n' now t) (ends n' o' t) → Writes x (to_out (view_text l (session_of a m))) (ends n o t) (ends n' o' t)
    all_written x w =
        in_order x _ _ (ends n o t) (ends n' o' t) (in_parts s' p.ending all.state all.ending)
        (goes_on x (to_out written) (to_out (end_in s' p.ending)) (ends n o t) (ends n' now t) (ends n' o' t)
        (any_trail written n n' o now t (subst (λ (q : List Sent). SendsAll q (no_trail n o) (no_trail n' now)) (below_reported a.policy l 0 1 calls) all.sends)) w)

    -- a fault cut the end of the output off
    pub view_cut : (fault : Fault) → ((j : Label) (k : ℕ) → kept ≡ Below j k → StopsBy fault (to_out (ends_text (Some j) a.policy s' ++ last_text k p.ending)) (ends n' now t) (ends n' o' t))
        → (((j : Label) (k : ℕ) → kept ≡ Below j k → ⊥) → StopsBy fault (to_out (unless_whole p.ending)) (ends n' now t) (ends n' o' t)) → IsErrAnd r (λ q. q ≡ fault) → WritesLeft (due_of_label (Some l) a lines) r lines left left' (ends n o t) (ends n' o' t)
    view_cut fault below other is = left_stops (due_of_label (Some l) a lines) r lines left left' reads (ends n o t) (ends n' o' t) fault
        (all_written (Err fault) (end_written (λ (bs : List ℕ). StopsBy fault (to_out bs) (ends n' now t) (ends n' o' t)) below other)) is

    -- all is written
    pub view_written : r ≡ Ok p.ending → ((j : Label) (k : ℕ) → kept ≡ Below j k → SendsAll (to_out (ends_text (Some j) a.policy s' ++ last_text k p.ending)) (ends n' now t) (ends n' o' t))
        → (((j : Label) (k : ℕ) → kept ≡ Below j k → ⊥) → SendsAll (to_out (unless_whole p.ending)) (ends n' now t) (ends n' o' t)) → WritesLeft (due_of_label (Some l) a lines) r lines left left' (ends n o t) (ends n' o' t)
    view_written is below other = left_written (due_of_label (Some l) a lines) r lines left left' reads (ends n o t) (ends n' o' t) p.ending is
        (all_written (Ok p.ending) (end_written (λ (bs : List ℕ). SendsAll (to_out bs) (ends n' now t) (ends n' o' t)) below other)) (ap ends_with all.ending) all.to_the_end

-- ---- the label of a word

module _ (word : List ℕ) (a : Accepted) (lines : LinesState) (r : Result InputEnd Fault) (left : Option (List ℕ)) (before after : Ends) where
  view_did : (left' : Option (List ℕ)) (o : Option Label) → o ≡ parse_label a.policy word → WritesLeft (due_of_label o a lines) r lines left left' before after → DoesWorld (View word) r a lines left left' before after
  view_did left' o named wrote = record {
    wrote = subst (λ (x : Option Label). WritesLeft (due_of_label x a lines) r lines left left' before after) named wrote;
    by_line = λ play. absurd (cc);
    besides = tt;
  }

  -- a label that the word denotes
  pub view_named : (left' : Option (List ℕ)) (found : Option Label) (l : Label) → found ≡ Some l → found ≡ parse_label a.policy word → WritesLeft (due_of_label (Some l) a lines) r lines left left' before after → DoesWorld (View word) r a lines left left' before after
  view_named left' found l is same wrote = view_did left' (Some l) (sym is ∙ same) wrote

  -- the refusal of a word that is no label of the world
  abbrev no_label : InputEnd
  no_label = RefusedWord command_word.View line_fault.BadLabel

  pub view_refused : (found : Option Label) → found ≡ None → found ≡ parse_label a.policy word → Writes r (to_out (last_text 0 no_label)) before after → IfOk r (λ e. e ≡ no_label) → DoesWorld (View word) r a lines left left before after
  view_refused found is same w ended = view_did left None (sym is ∙ same) (record {
    reads = reads_nothing (may_take lines) left;
    writes = w;
    status = IfOk-weaker r _ _ (λ e same. ap ends_with same) ended;
    to_the_end = IfOk-weaker r _ _ (λ e same whole. let no : no_label ≡ Whole = sym same ∙ whole in absurd (cc)) ended;
  })
