-- The clauses of the top call, from what a run did.
use Rattle.std.specs.Prelude.{Result, IfOk, IfSome, Ok, Err, None, Some}
use Rattle.std.proofs.Common.{◌≡◌, ℕ, ◌+◌, ◌≤◌, Bool, true, false, List, [], ◌∷◌, ◌++◌, length, refl, sym, ◌∙◌, ap, subst, arith}
use Rattle.std.proofs.lemmas.List.{append-nil, append_cancel_left, append_cancel_right}
use Rattle.std.proofs.KnownBytes.{Appends-nil, Consumes-nil}
use Rattle.std.specs.declared.option.Option.{Option}
use Rattle.std.specs.Io.KnownBytes.{Appends, Consumes, IsAtEnd}
use Rattle.lab_lattice.specs.Label.{Label}
use Rattle.kern_model.specs.declared.limits.TheConstants.{MAX_INPUT}
use Rattle.kern_model.specs.Prefixes.{IsPrefix}
use Rattle.kern_model.specs.Lineage.{OnlyDrops, GrowsByExec}
use Rattle.iso_laws.proofs.Laws.{drops_by_records, growth_by_records}
use Rattle.labsys.specs.declared.command.Command.{Command}
use Rattle.labsys.specs.declared.command.Command.TheVariants.{OnInput, Gen, Drill, Select, Lineage}
use Rattle.labsys.specs.declared.command.InputCommand.TheVariants.{Play, View, Upgrade}
use Rattle.lab_engine.specs.declared.ending.InputEnd.{InputEnd}
use Rattle.lab_engine.specs.declared.ending.InputEnd.TheVariants.{Whole, Refused as IsRefused, RefusedWord, TooMuch}
use Rattle.lab_engine.specs.declared.ending.Fault.{Fault}
use Rattle.lab_engine.specs.declared.ending.Fault.TheVariants.{Read, Write, Trail, NoMemory as Memory}
use Rattle.labsys.specs.declared.status.Status.{Status}
use Rattle.labsys.specs.declared.status.Status.TheVariants.{Done, Usage, Refused, ReadFault, WriteFault, TrailFault, NoMemory, TooLong}
use Rattle.lab_engine.specs.Input.{Accepted, Script, input_of}
use Rattle.lab_engine.specs.Session.{Session, session_of, bytes_of, replies_of, records_of, head_text, tail_text}
use Rattle.lab_engine.specs.Order.{Sent, calls_by, out_of, trail_of, session_order, order_by, order_of, order_of_calls, to_out, IsInOrder}
use Rattle.labsys.specs.Commands.{due, reads_source, writes_trail, Due, ends_with}
use Rattle.lab_engine.specs.Counts.{counted_by}
use Rattle.labsys.specs.Counts.{counts_after}
use Rattle.io_ends.specs.Ends.{sink_view}
use Rattle.lab_engine.specs.Playing.{Ends, Sends, Writes, faults_of}
use Rattle.labsys.specs.Playing.{Besides, CommandDid}
use Rattle.lab_engine.specs.Reading.{left_of}
use Rattle.lab_engine.specs.Viewing.{unless_whole, view_text}
use Rattle.lab_text.specs.Text.{parse_label}
use Rattle.world_text.specs.Written.{text_of_world}
use Rattle.lab_engine.specs.UpgradeInput.{UpgradeInput, upgrade_of}
use Rattle.lab_engine.proofs.UpgradeLaws.{upgraded}
use Rattle.labsys.specs.Upgrading.{WorldReadsBack, order_of_upgrade, upgrade_text}
use Rattle.labsys.specs.Viewing.{text_of_view, viewed_text}
use Rattle.labsys.specs.Lineage.{AnsweredYes, PrintedByAny}
use Rattle.labsys.specs.Promises.{Plays, Upgrades, Views}
use Rattle.labsys.specs.Readable.{InputReadable}
use Rattle.labsys.specs.Clauses.{status_of, HasAllCalls, OnWhole, PlayedTaken, Reports, reports, if_used, reports_used, Moved, WhereReported, WhereAccepted, TakesAtMost, Covered, RepliesFirst, Printed, Dropped, Written, Isolated, IsolatedWhole, SameBelow, TwoInputs, TwoWhole}
use Rattle.lab_engine.proofs.Sending.{in_order, out_of-append, out_of-to_out, trail_of-append, trail_of-to_out, prefix_of}
use Rattle.lab_engine.proofs.ViewLemmas.{view_alone}
use Rattle.labsys.proofs.Coverage.{records_alone, replies_alone, session_out, session_trail, covered, replies_first, recorded}
use Rattle.labsys.proofs.AcceptedLemmas.{accepted_input}
use Rattle.labsys.proofs.AnsweredLemmas.{answered_yes, goes_on}
use Rattle.labsys.proofs.InputLemmas.{left_taken, text_left}
use Rattle.labsys.proofs.LineageLemmas.{printed_by_any}
use Rattle.labsys.proofs.ReadableLemmas.{readable_by_then}
use Rattle.labsys.proofs.Printing.{out_reported, trail_reported, all_numbered}
use Rattle.labsys.proofs.Isolating.{written, is_isolated, is_isolated_whole, two_agree, two_whole}
use Rattle.labsys.proofs.CommandRows.{WritesOut, writes_out_alone}

-- ---- the ends that report

held_after : (now : Option (List ℕ)) (before bs : List ℕ) → Appends (Some before) now bs → now ≡ Some (before ++ bs)
held_after None before bs h = absurd h
held_after (Some ys) before bs h = ap (λ (z : List ℕ). Some z) h

-- what was taken and what was sent, as the ends report it
pub moved : (l l' : Option (List ℕ)) (e e' : Ends) (taken : List ℕ) → Consumes l l' taken → (sent : List Sent) → Sends sent e e'
    → (P : List ℕ → List ℕ → List ℕ → Type 0) (text before above : List ℕ) → l ≡ Some text → e.out.held ≡ Some before → e.trail.held ≡ Some above → P text (out_of sent) (trail_of sent)
    → Moved text before above (reports l' e'.out.held e'.trail.held) P
moved l l' e e' taken took sent sends P text before above el eo et p =
    let left = left_taken l' text taken (subst (λ z. Consumes z l' taken) el took) in
    record {
      taken = taken;
      rest = left.rest;
      out = out_of sent;
      trail = trail_of sent;
      text_is = left.text_is;
      left_is = left.left_is;
      out_is = held_after e'.out.held before (out_of sent) (subst (λ z. Appends z e'.out.held (out_of sent)) eo sends.to_out);
      trail_is = held_after e'.trail.held above (trail_of sent) (subst (λ z. Appends z e'.trail.held (trail_of sent)) et sends.to_trail);
      holds = p;
    }

-- the same bytes, of which this holds
pub moved_with : {text before above : List ℕ} {now : Reports} {P Q : List ℕ → List ℕ → List ℕ → Type 0} (m : Moved text before above now P) → Q text m.out m.trail → Moved text before above now Q
moved_with m holds = record { taken = m.taken; rest = m.rest; out = m.out; trail = m.trail; text_is = m.text_is; left_is = m.left_is; out_is = m.out_is; trail_is = m.trail_is; holds = holds }

pub reported_gives : (old now : Reports) (P Q : List ℕ → List ℕ → List ℕ → Type 0) → ((text out trail : List ℕ) → P text out trail → Q text out trail) → WhereReported old now P → WhereReported old now Q
reported_gives old now P Q f w text before above el eo et =
    let m = w text before above el eo et in
    moved_with m (f text m.out m.trail m.holds)

-- what both clauses say of what was appended
pub reported_both : (old now : Reports) (P Q : List ℕ → List ℕ → List ℕ → Type 0) → WhereReported old now P → WhereReported old now Q → WhereReported old now (λ text out trail. P text out trail × Q text out trail)
reported_both old now P Q v w text before above el eo et =
    let m = v text before above el eo et in
    let n = w text before above el eo et in
    let out : n.out ≡ m.out = appended before n.out m.out now.out n.out_is m.out_is in
    let trail : n.trail ≡ m.trail = appended above n.trail m.trail now.trail n.trail_is m.trail_is in
    moved_with m (m.holds, subst (λ (x : List ℕ × List ℕ). Q text x.0 x.1) {x = (n.out, n.trail)} (λ i. (out i, trail i)) n.holds)
  where
    appended : (held xs ys : List ℕ) (now : Option (List ℕ)) → now ≡ Some (held ++ xs) → now ≡ Some (held ++ ys) → xs ≡ ys
    appended held xs ys now first second = let same : held ++ xs ≡ held ++ ys = cc in append_cancel_left held xs ys same

pub whole_gives : (s : Status) (P Q : Type 0) → (P → Q) → OnWhole s P → OnWhole s Q
whole_gives Done P Q f p = f p
whole_gives Refused P Q f p = f p
whole_gives TooLong P Q f p = f p
whole_gives Usage P Q f p = tt
whole_gives ReadFault P Q f p = tt
whole_gives WriteFault P Q f p = tt
whole_gives TrailFault P Q f p = tt
whole_gives NoMemory P Q f p = tt

on_whole : (r : Result InputEnd Fault) (P : Status → Type 0) → ((e : InputEnd) → r ≡ Ok e → P (ends_with e)) → OnWhole (status_of r) (P (status_of r))
on_whole (Ok Whole) P f = f Whole refl
on_whole (Ok (IsRefused n part why)) P f = f (IsRefused n part why) refl
on_whole (Ok (RefusedWord word why)) P f = f (RefusedWord word why) refl
on_whole (Ok TooMuch) P f = f TooMuch refl
on_whole (Err Read) P f = tt
on_whole (Err Write) P f = tt
on_whole (Err Trail) P f = tt
on_whole (Err Memory) P f = tt

-- ends of which the trail reports that it holds nothing
abbrev without_trail : Ends → Ends
without_trail e = record e { trail = sink_view (Some []) e.trail.faults }

-- the ends by what those report that a command uses
abbrev ends_used : Command → Ends → Ends
ends_used c e = record e { trail = sink_view (if_used (writes_trail c) e.trail.held) e.trail.faults }

-- what holds of the command that the words name
pub of_command : (o : Option Command) (c : Command) (P : Command → Type 0) → o ≡ Some c → P c → IfSome o P
of_command o c P is p = subst (λ (x : Option Command). IfSome x P) (sym is) p

-- ---- counts

counts_by : (r : Result InputEnd Fault) (order : List Sent) (e e' : Ends) → Writes r order e e' → faults_of e' ≡ counts_after (status_of r) (faults_of e)
unfolding counted_by
counts_by (Ok Whole) order e e' w = w.no_fault
counts_by (Ok (IsRefused n part why)) order e e' w = w.no_fault
counts_by (Ok (RefusedWord word why)) order e e' w = w.no_fault
counts_by (Ok TooMuch) order e e' w = w.no_fault
counts_by (Err Read) order e e' w = w.one_fault
counts_by (Err Write) order e e' w = w.one_fault
counts_by (Err Trail) order e e' w = w.one_fault
counts_by (Err Memory) order e e' w = w.one_fault

-- ---- an accepted world

-- the order of an accepted input
by_session : (text : List ℕ) (a : Accepted) (sent rest : List Sent) → (input_of text).accepted ≡ Some a → order_of (input_of text) ≡ sent ++ rest → session_order (session_of a (input_of text).script) ≡ sent ++ rest
unfolding order_by
by_session text a sent rest is e = ap (λ (w : Option Accepted). order_by w (input_of text).script) (sym is) ∙ e

module _ (s : Session) (sent rest : List Sent) (e : session_order s ≡ sent ++ rest) where
  -- the output and the trail of a session
  out_is : replies_of (bytes_of s) ++ tail_text s ≡ out_of sent ++ out_of rest
  out_is = sym (session_out s) ∙ ap out_of e ∙ out_of-append sent rest

  trail_is : head_text s ++ records_of (bytes_of s) ≡ trail_of sent ++ trail_of rest
  trail_is = sym (session_trail s) ∙ ap trail_of e ∙ trail_of-append sent rest

  pub session_written : Written (bytes_of s) (out_of sent)
  session_written = written (bytes_of s) (tail_text s) (out_of sent) (out_of rest) out_is

pub session_printed : (a : Accepted) (m : Script) (sent rest : List Sent) → session_order (session_of a m) ≡ sent ++ rest → Printed (session_of a m) (out_of sent) (trail_of sent)
session_printed a m sent rest e = record {
  by_records = record { rest = out_of rest; whole_is = sym (out_reported a m) ∙ out_is (session_of a m) sent rest e };
  recorded = λ more. recorded (session_of a m) sent rest e more ∙ trail_reported (session_of a m);
}

pub session_dropped : (a : Accepted) (m : Script) (sent rest : List Sent) → session_order (session_of a m) ≡ sent ++ rest → Dropped (session_of a m) (trail_of sent)
session_dropped a m sent rest e = record {
  begins = record { rest = trail_of rest; whole_is = sym (trail_reported (session_of a m)) ∙ trail_is (session_of a m) sent rest e };
  drops = subst (OnlyDrops a.world.bound) (sym (all_numbered a m)) (drops_by_records a.world m.items);
  grows = subst (GrowsByExec a.world.bound) (sym (all_numbered a m)) (growth_by_records a.world m.items);
}

-- a whole output is all replies and the end
out_of_whole : (text : List ℕ) (a : Accepted) (out : List ℕ) → (input_of text).accepted ≡ Some a → out ≡ out_of (order_of (input_of text))
    → out ≡ replies_of (bytes_of (session_of a (input_of text).script)) ++ tail_text (session_of a (input_of text).script)
unfolding order_by
out_of_whole text a out is so = so ∙ ap (λ (w : Option Accepted). out_of (order_by w (input_of text).script)) is ∙ session_out (session_of a (input_of text).script)

-- it begins with all replies
all_written : (text : List ℕ) (a : Accepted) (out : List ℕ) → (input_of text).accepted ≡ Some a → out ≡ out_of (order_of (input_of text)) → IsPrefix (replies_of (bytes_of (session_of a (input_of text).script))) out
all_written text a out is so = record { rest = tail_text (session_of a (input_of text).script); whole_is = out_of_whole text a out is so }

-- what the order of all calls has for each sink
all_calls : (a : Option Accepted) (m : Script) → HasAllCalls a m (out_of (calls_by a m)) (trail_of (calls_by a m))
unfolding calls_by out_of trail_of
all_calls None m = (refl, refl)
all_calls (Some a) m = (replies_alone (session_of a m), records_alone (session_of a m))

only_read : (r : Result InputEnd Fault) → status_of r ≡ ReadFault → r ≡ Err Read
only_read (Ok Whole) is = absurd (cc)
only_read (Ok (IsRefused n part why)) is = absurd (cc)
only_read (Ok (RefusedWord word why)) is = absurd (cc)
only_read (Ok TooMuch) is = absurd (cc)
only_read (Err Read) is = refl
only_read (Err Write) is = absurd (cc)
only_read (Err Trail) is = absurd (cc)
only_read (Err Memory) is = absurd (cc)

only_trail : (r : Result InputEnd Fault) → status_of r ≡ TrailFault → r ≡ Err Trail
only_trail (Ok Whole) is = absurd (cc)
only_trail (Ok (IsRefused n part why)) is = absurd (cc)
only_trail (Ok (RefusedWord word why)) is = absurd (cc)
only_trail (Ok TooMuch) is = absurd (cc)
only_trail (Err Read) is = absurd (cc)
only_trail (Err Write) is = absurd (cc)
only_trail (Err Trail) is = refl
only_trail (Err Memory) is = absurd (cc)

pub only_done : (r : Result InputEnd Fault) → status_of r ≡ Done → r ≡ Ok Whole
only_done (Ok Whole) is = refl
only_done (Ok (IsRefused n part why)) is = absurd (cc)
only_done (Ok (RefusedWord word why)) is = absurd (cc)
only_done (Ok TooMuch) is = absurd (cc)
only_done (Err Read) is = absurd (cc)
only_done (Err Write) is = absurd (cc)
only_done (Err Trail) is = absurd (cc)
only_done (Err Memory) is = absurd (cc)

-- ---- a command

module _ (c : Command) (r : Result InputEnd Fault) (l l' : Option (List ℕ)) (entry exit : Ends) (x : CommandDid c r l l' entry exit) where
  abbrev old : Reports
  old = reports l entry.out.held entry.trail.held

  abbrev now : Reports
  now = reports l' exit.out.held exit.trail.held

  abbrev all : Due
  all = due c (x.taken ++ left_of l')

  -- what is due of the bytes that the source had
  all_due : (text : List ℕ) → l ≡ Some text → due c text ≡ all
  all_due text el = ap (λ (z : List ℕ). due c z) (text_left l l' x.taken text el x.took)

  -- what holds of each prefix of the order holds of what was sent, where the ends report
  pub where_sent : (P : List ℕ → List ℕ → List ℕ → Type 0) → ((text : List ℕ) (sent rest : List Sent) → (due c text).order ≡ sent ++ rest → P text (out_of sent) (trail_of sent)) → WhereReported old now P
  where_sent P f text before above el eo et =
      let p = prefix_of r all.order entry exit x.writes in
      moved l l' entry exit x.taken x.took p.sent p.sends P text before above el eo et
      (f text p.sent p.rest (ap (λ (d : Due). d.order) (all_due text el) ∙ p.prefix))

  sent_in_order : WhereReported old now (λ text out trail. IsInOrder (due c text).order out trail)
  sent_in_order = where_sent _ (λ text sent rest e. record { sent = sent; rest = rest; order_is = e; out_is = refl; trail_is = refl })

  pub run_counts : (s : Status) → s ≡ status_of r → faults_of exit ≡ counts_after s (faults_of entry)
  run_counts s is = subst (λ (z : Status). faults_of exit ≡ counts_after z (faults_of entry)) (sym is) (counts_by r all.order entry exit x.writes)

  pub run_few : TakesAtMost (MAX_INPUT + 1) l l'
  run_few = record { taken = x.taken; took = x.took; few = x.few }

  pub run_all : (s : Status) → s ≡ status_of r → OnWhole s (WhereReported old now (λ text out trail. (out ≡ out_of (due c text).order) × (trail ≡ trail_of (due c text).order)))
  run_all s is =
      let P : Type 0 = WhereReported old now (λ text out trail. (out ≡ out_of (due c text).order) × (trail ≡ trail_of (due c text).order)) in
      subst (λ z. OnWhole z P) (sym is) (on_whole r (λ _. P) (λ e ok text before above el eo et.
      let w = subst (λ (q : Result InputEnd Fault). Writes q all.order entry exit) ok x.writes in
      let same = ap (λ (d : Due). d.order) (sym (all_due text el)) in
      moved l l' entry exit x.taken x.took all.order w.sends _ text before above el eo et (ap out_of same, ap trail_of same)))

  pub ends_by : (s : Status) → s ≡ status_of r → OnWhole s ((text : List ℕ) → l ≡ Some text → s ≡ (due c text).status)
  ends_by s is =
      let P : Status → Type 0 = λ z. (text : List ℕ) → l ≡ Some text → z ≡ (due c text).status in
      subst (λ z. OnWhole z (P z)) (sym is) (on_whole r P (λ e ok text el.
      subst (λ (q : Result InputEnd Fault). IfOk q (λ k. ends_with k ≡ all.status)) ok x.status ∙ ap (λ (d : Due). d.status) (sym (all_due text el))))

  pub run_to_the_end : (s : Status) → s ≡ status_of r → (o : Option Command) → o ≡ Some c → IfSome o (λ command. reads_source command ≡ true → s ≡ Done → IsAtEnd l')
  run_to_the_end s is o named = of_command o c (λ command. reads_source command ≡ true → s ≡ Done → IsAtEnd l') named (λ reads done.
      subst (λ (q : Result InputEnd Fault). IfOk q (λ e. e ≡ Whole → IsAtEnd l')) (only_done r (sym is ∙ done)) (x.to_the_end reads) refl)

-- ---- the ends that a command uses

module _ (c : Command) (r : Result InputEnd Fault) (s : Status) (is : s ≡ status_of r) (o : Option Command) (named : o ≡ Some c) where
  pub run_read_fault : (r ≡ Err Read → reads_source c ≡ true) → IfSome o (λ command. s ≡ ReadFault → reads_source command ≡ true)
  run_read_fault reads = of_command o c (λ command. s ≡ ReadFault → reads_source command ≡ true) named (λ fault. reads (only_read r (sym is ∙ fault)))

  pub run_trail_fault : (r ≡ Err Trail → writes_trail c ≡ true) → IfSome o (λ command. s ≡ TrailFault → writes_trail command ≡ true)
  run_trail_fault writes = of_command o c (λ command. s ≡ TrailFault → writes_trail command ≡ true) named (λ fault. writes (only_trail r (sym is ∙ fault)))

part_of_nothing : (a b : List ℕ) → [] ≡ a ++ b → a ≡ []
part_of_nothing [] b is = refl
part_of_nothing (x ∷ a) b is = absurd (cc)

-- where nothing went to the trail, the output got the same whatever the trail reports
sends_out : (sent rest : List Sent) (bytes : List ℕ) (e e' : Ends) → to_out bytes ≡ sent ++ rest → Sends sent e e' → Sends sent (without_trail e) (without_trail e')
sends_out sent rest bytes e e' is s = record {
  to_out = s.to_out;
  to_trail = subst (λ (z : List ℕ). Appends (Some []) (Some []) z) (sym (part_of_nothing (trail_of sent) (trail_of rest) (sym (trail_of-to_out bytes) ∙ ap trail_of is ∙ trail_of-append sent rest))) (Appends-nil (Some []));
}

writes_out : (r : Result InputEnd Fault) (bytes : List ℕ) (e e' : Ends) → Writes r (to_out bytes) e e' → Writes r (to_out bytes) (without_trail e) (without_trail e')
writes_out (Ok x) bytes e e' w = record { sends = sends_out (to_out bytes) [] bytes e e' (sym (append-nil (to_out bytes))) w.sends; no_fault = w.no_fault }
writes_out (Err x) bytes e e' w = record {
  sends = record { sent = w.sends.sent; rest = w.sends.rest; prefix = w.sends.prefix; sends = sends_out w.sends.sent w.sends.rest bytes e e' w.sends.prefix w.sends.sends };
  one_fault = w.one_fault;
}

-- a command that writes to the output alone did the same where the trail counts as one that holds nothing
did_beside : (c : Command) → WritesOut c → (r : Result InputEnd Fault) (l l' : Option (List ℕ)) (e e' : Ends) → CommandDid c r l l' e e' → CommandDid c r l l' (without_trail e) (without_trail e')
did_beside c out r l l' e e' x =
    let text = x.taken ++ left_of l' in
    record {
      taken = x.taken;
      took = x.took;
      few = x.few;
      writes = in_order r _ _ _ _ (sym (out.is text)) (writes_out r (out.bytes text) e e' (in_order r _ _ e e' (out.is text) x.writes));
      status = x.status;
      to_the_end = x.to_the_end;
      by_line = λ play. absurd (out.other play);
      besides = out.same text r e e' (without_trail e) (without_trail e') x.besides;
    }

-- a command did the same by what the ends report that it uses
pub did_used : (c : Command) (r : Result InputEnd Fault) (l l' : Option (List ℕ)) (e e' : Ends) → CommandDid c r l l' e e'
    → CommandDid c r (if_used (reads_source c) l) (if_used (reads_source c) l') (ends_used c e) (ends_used c e')
did_used (OnInput c) r l l' e e' x = by_trail (writes_trail (OnInput c)) refl
  where
    by_trail : (uses : Bool) → writes_trail (OnInput c) ≡ uses
        → CommandDid (OnInput c) r l l' (record e { trail = sink_view (if_used uses e.trail.held) e.trail.faults }) (record e' { trail = sink_view (if_used uses e'.trail.held) e'.trail.faults })
    by_trail true is = x
    by_trail false is = did_beside (OnInput c) (writes_out_alone (OnInput c) is) r l l' e e' x
did_used (Select word) r l l' e e' x = did_beside (Select word) (writes_out_alone (Select word) refl) r l l' e e' x
did_used Lineage r l l' e e' x = did_beside Lineage (writes_out_alone Lineage refl) r l l' e e' x
did_used (Gen n) r l l' e e' x = record { taken = []; took = Consumes-nil (Some []); few = omega arith; writes = writes_out r _ e e' x.writes; status = x.status; to_the_end = λ reads. absurd (cc); by_line = λ play. absurd (cc); besides = tt }
did_used (Drill n) r l l' e e' x = record { taken = []; took = Consumes-nil (Some []); few = omega arith; writes = writes_out r _ e e' x.writes; status = x.status; to_the_end = λ reads. absurd (cc); by_line = λ play. absurd (cc); besides = tt }

module _ (c : Command) (r : Result InputEnd Fault) (l l' : Option (List ℕ)) (entry exit : Ends) (x : CommandDid c r l l' entry exit) where
  abbrev old_used : Command → Reports
  old_used command = reports_used command (reports l entry.out.held entry.trail.held)

  abbrev now_used : Command → Reports
  now_used command = reports_used command (reports l' exit.out.held exit.trail.held)

  pub run_order : (o : Option Command) → o ≡ Some c → IfSome o (λ command. WhereReported (old_used command) (now_used command) (λ text out trail. IsInOrder (due command text).order out trail))
  run_order o is = of_command o c (λ command. WhereReported (old_used command) (now_used command) (λ text out trail. IsInOrder (due command text).order out trail)) is
      (sent_in_order c r _ _ _ _ (did_used c r l l' entry exit x))

  pub run_whole : (s : Status) → s ≡ status_of r → (o : Option Command) → o ≡ Some c
      → IfSome o (λ command. OnWhole s (WhereReported (old_used command) (now_used command) (λ text out trail. (out ≡ out_of (due command text).order) × (trail ≡ trail_of (due command text).order))))
  run_whole s is o named =
      of_command o c (λ command. OnWhole s (WhereReported (old_used command) (now_used command) (λ text out trail. (out ≡ out_of (due command text).order) × (trail ≡ trail_of (due command text).order)))) named
      (run_all c r _ _ _ _ (did_used c r l l' entry exit x) s is)

  pub run_ending : (s : Status) → s ≡ status_of r → (o : Option Command) → o ≡ Some c → IfSome o (λ command. OnWhole s ((text : List ℕ) → if_used (reads_source command) l ≡ Some text → s ≡ (due command text).status))
  run_ending s is o named =
      of_command o c (λ command. OnWhole s ((text : List ℕ) → if_used (reads_source command) l ≡ Some text → s ≡ (due command text).status)) named
      (ends_by c r _ _ _ _ (did_used c r l l' entry exit x) s is)

  -- where the run is done, all that is due of the command was written
  pub done_wrote : (s : Status) → s ≡ status_of r → s ≡ Done
      → WhereReported (old_used c) (now_used c) (λ text out trail. (out ≡ out_of (due c text).order) × ((Done ≡ (due c text).status) × Besides c text r (ends_used c entry) (ends_used c exit)))
  done_wrote s is done text before above el eo et =
      let used = did_used c r l l' entry exit x in
      let all = subst (λ z. OnWhole z (WhereReported (old_used c) (now_used c) (λ text out trail. (out ≡ out_of (due c text).order) × (trail ≡ trail_of (due c text).order)))) done (run_all c r _ _ _ _ used s is) in
      let end = subst (λ z. OnWhole z ((text : List ℕ) → if_used (reads_source c) l ≡ Some text → z ≡ (due c text).status)) done (ends_by c r _ _ _ _ used s is) in
      let m = all text before above el eo et in
      let besides = subst (λ (z : List ℕ). Besides c z r (ends_used c entry) (ends_used c exit)) (sym (text_left _ _ used.taken text el used.took)) used.besides in
      moved_with m (m.holds.0, (end text el, besides))

-- ---- what `play` did

module _ (r : Result InputEnd Fault) (l l' : Option (List ℕ)) (entry exit : Ends) (x : CommandDid (OnInput Play) r l l' entry exit) where
  abbrev before_play : Reports
  before_play = reports l entry.out.held entry.trail.held

  abbrev after_play : Reports
  after_play = reports l' exit.out.held exit.trail.held

  -- the same for what was played on an accepted world
  where_played : (P : List ℕ → Accepted → Script → List ℕ → List ℕ → Type 0)
      → ((text : List ℕ) (a : Accepted) (sent rest : List Sent) → (input_of text).accepted ≡ Some a → session_order (session_of a (input_of text).script) ≡ sent ++ rest → P text a (input_of text).script (out_of sent) (trail_of sent))
      → WhereReported before_play after_play (λ text out trail. WhereAccepted text (λ a m. P text a m out trail))
  where_played P f = where_sent (OnInput Play) r l l' entry exit x _ (λ text sent rest e a is. f text a sent rest is (by_session text a sent rest is e))

  -- what was played is readable
  readable : (text : List ℕ) → l ≡ Some text → InputReadable (input_of text) entry exit
  readable text el = subst (λ (z : List ℕ). InputReadable (input_of z) entry exit) (sym (text_left l l' x.taken text el x.took)) x.besides

  -- the trail as anyone reads it
  run_printed_by_any : WhereReported before_play after_play (λ text out trail. WhereAccepted text (λ a m. PrintedByAny (session_of a m) out trail))
  run_printed_by_any text before above el eo et =
      let p = prefix_of r (order_of (input_of (x.taken ++ left_of l'))) entry exit x.writes in
      moved l l' entry exit x.taken x.took p.sent p.sends (λ text out trail. WhereAccepted text (λ a m. PrintedByAny (session_of a m) out trail)) text before above el eo et
      (λ a is.
      let m : Script = (input_of text).script in
      let order : session_order (session_of a m) ≡ p.sent ++ p.rest = by_session text a p.sent p.rest is (ap (λ (z : List ℕ). order_of (input_of z)) (text_left l l' x.taken text el x.took) ∙ p.prefix) in
      printed_by_any a m (accepted_input text a is) (out_of p.sent) (trail_of p.sent) (readable_by_then (session_of a m) entry exit p.sent before (readable text el a is) eo p.sends)
      (session_printed a m p.sent p.rest order) (session_dropped a m p.sent p.rest order))

  run_covered : WhereReported before_play after_play (λ text out trail. WhereAccepted text (λ a m. Covered (session_of a m) out trail))
  run_covered = where_played (λ text a m out trail. Covered (session_of a m) out trail) (λ text a sent rest is e. covered (session_of a (input_of text).script) sent rest e)

  run_replies_first : WhereReported before_play after_play (λ text out trail. WhereAccepted text (λ a m. RepliesFirst (session_of a m) out trail))
  run_replies_first = where_played (λ text a m out trail. RepliesFirst (session_of a m) out trail) (λ text a sent rest is e. replies_first (session_of a (input_of text).script) sent rest e)

  run_printed : WhereReported before_play after_play (λ text out trail. WhereAccepted text (λ a m. Printed (session_of a m) out trail))
  run_printed = where_played (λ text a m out trail. Printed (session_of a m) out trail) (λ text a sent rest is e. session_printed a (input_of text).script sent rest e)

  run_dropped : WhereReported before_play after_play (λ text out trail. WhereAccepted text (λ a m. Dropped (session_of a m) trail))
  run_dropped = where_played (λ text a m out trail. Dropped (session_of a m) trail) (λ text a sent rest is e. session_dropped a (input_of text).script sent rest e)

  run_isolated : (k : Label) → WhereReported before_play after_play (λ text out trail. WhereAccepted text (λ a m. Isolated k a m out))
  run_isolated k = where_played (λ text a m out trail. Isolated k a m out) (λ text a sent rest is e.
      is_isolated k a (input_of text).script (accepted_input text a is) (out_of sent) (session_written (session_of a (input_of text).script) sent rest e))

  run_two_inputs : (k : Label) (other : List ℕ) → WhereReported before_play after_play
      (λ text out trail. WhereAccepted text (λ a m. WhereAccepted other (λ b m'. SameBelow k a m b m' → TwoInputs k a m b m' out)))
  run_two_inputs k other = where_played (λ text a m out trail. WhereAccepted other (λ b m'. SameBelow k a m b m' → TwoInputs k a m b m' out)) (λ text a sent rest is e b is' same.
      two_agree k a (input_of text).script (accepted_input text a is) b (input_of other).script (accepted_input other b is') same (out_of sent) (session_written (session_of a (input_of text).script) sent rest e))

  -- where a read failed, what was taken was played
  run_line_by_line : (s : Status) → s ≡ status_of r → s ≡ ReadFault → WhereReported before_play after_play (λ text out trail. PlayedTaken text l' out trail)
  run_line_by_line s is read text before above el eo et =
      let sends = x.by_line refl (only_read r (sym is ∙ read)) in
      moved l l' entry exit x.taken x.took (order_of_calls (input_of x.taken)) sends (λ text out trail. PlayedTaken text l' out trail) text before above el eo et
      (λ taken rest text_is left_is.
      let same : taken ≡ x.taken = append_cancel_right taken x.taken rest (sym text_is ∙ text_left l l' x.taken text el x.took ∙ ap (λ (o : Option (List ℕ)). x.taken ++ left_of o) left_is) in
      subst (λ (t : List ℕ). HasAllCalls (input_of t).accepted (input_of t).script (out_of (order_of_calls (input_of x.taken))) (trail_of (order_of_calls (input_of x.taken)))) (sym same)
      (all_calls (input_of x.taken).accepted (input_of x.taken).script))

  run_isolated_whole : (s : Status) → s ≡ status_of r → (k : Label) → OnWhole s (WhereReported before_play after_play (λ text out trail. WhereAccepted text (λ a m. IsolatedWhole k a m out)))
  run_isolated_whole s is k = whole_gives s _ _ (reported_gives before_play after_play _ _ (λ text out trail w a acc.
      is_isolated_whole k a (input_of text).script (accepted_input text a acc) out (all_written text a out acc w.0))) (run_all (OnInput Play) r l l' entry exit x s is)

  run_two_whole : (s : Status) → s ≡ status_of r → (k : Label) (other : List ℕ) → OnWhole s (WhereReported before_play after_play
      (λ text out trail. WhereAccepted text (λ a m. WhereAccepted other (λ b m'. SameBelow k a m b m' → TwoWhole k a m b m' out))))
  run_two_whole s is k other = whole_gives s _ _ (reported_gives before_play after_play _ _ (λ text out trail w a acc b acc' same.
      two_whole k a (input_of text).script (accepted_input text a acc) b (input_of other).script (accepted_input other b acc') same out (all_written text a out acc w.0))) (run_all (OnInput Play) r l l' entry exit x s is)

  -- both sinks got all that is due of `play`
  abbrev WholeSent : Type 0
  WholeSent = WhereReported before_play after_play (λ text out trail. (out ≡ out_of (due (OnInput Play) text).order) × (trail ≡ trail_of (due (OnInput Play) text).order))

  -- what `lineage` has to write of the trail
  run_answered_yes : (s : Status) → s ≡ status_of r
      → OnWhole s (WhereReported before_play after_play (λ text out trail. WhereAccepted text (λ a m. length trail ≤ MAX_INPUT → AnsweredYes (session_of a m) trail)))
  run_answered_yes s is =
      whole_gives s WholeSent _ (λ all. reported_gives before_play after_play _ _ answered (reported_both before_play after_play _ _ all run_printed_by_any)) (run_all (OnInput Play) r l l' entry exit x s is)
    where
      answered : (text out trail : List ℕ) → ((out ≡ out_of (due (OnInput Play) text).order) × (trail ≡ trail_of (due (OnInput Play) text).order)) × WhereAccepted text (λ a m. PrintedByAny (session_of a m) out trail)
          → WhereAccepted text (λ a m. length trail ≤ MAX_INPUT → AnsweredYes (session_of a m) trail)
      answered text out trail both a acc =
          let m : Script = (input_of text).script in
          answered_yes a m (accepted_input text a acc) trail ((both.1 a acc).own (goes_on (session_of a m) out (out_of_whole text a out acc both.0.0)))

  -- all that `play` promises
  pub run_play : (s : Status) → s ≡ status_of r → Plays s before_play after_play
  run_play s is = record {
    covered = run_covered;
    replies_first = run_replies_first;
    line_by_line = run_line_by_line s is;
    isolated = run_isolated;
    isolated_whole = run_isolated_whole s is;
    two_inputs = run_two_inputs;
    two_whole = run_two_whole s is;
    printed = run_printed;
    printed_by_any = run_printed_by_any;
    dropped = run_dropped;
    answered_yes = run_answered_yes s is;
  }

-- ---- what `view` did

-- what a view wrote of an accepted world
pub viewed : (word text : List ℕ) (k : Label) (a : Accepted) → (input_of text).accepted ≡ Some a → parse_label a.policy word ≡ Some k → out_of (due (OnInput (View word)) text).order ≡ view_text k (session_of a (input_of text).script)
viewed word text k a is named =
    let m : Script = (input_of text).script in
    ap (λ (w : Option Accepted). out_of (to_out (text_of_view word w m))) is
    ∙ ap (λ (x : Option Label). out_of (to_out (viewed_text x a m))) named
    ∙ out_of-to_out (view_text k (session_of a m))

-- all that `view` promises: where nothing crosses, it is a view of the part below the label alone
pub run_view : (word : List ℕ) (r : Result InputEnd Fault) (l l' : Option (List ℕ)) (entry exit : Ends) → CommandDid (OnInput (View word)) r l l' entry exit → (s : Status) → s ≡ status_of r
    → Views word s (reports l entry.out.held entry.trail.held) (reports l' exit.out.held exit.trail.held)
run_view word r l l' entry exit x s is = record {
  view_alone = λ k done. reported_gives _ _ _ _ (λ text out trail w a accepted named none.
      let fits = accepted_input text a accepted in
      w.0 ∙ viewed word text k a accepted named ∙ view_alone k a (input_of text).script fits.world fits.script none) (done_wrote (OnInput (View word)) r l l' entry exit x s is done);
}

-- ---- what `upgrade` did

pub ends_whole : (e : InputEnd) → Done ≡ ends_with e → e ≡ Whole
ends_whole Whole is = refl
ends_whole (IsRefused n part why) is = absurd (cc)
ends_whole (RefusedWord word why) is = absurd (cc)
ends_whole TooMuch is = absurd (cc)

-- what holds where a run succeeded holds of one that is done
where_done : (r : Result InputEnd Fault) (P : Type 0) → Done ≡ status_of r → IfOk r (λ e. P) → P
where_done (Ok e) P is p = p
where_done (Err Read) P is p = absurd (cc)
where_done (Err Write) P is p = absurd (cc)
where_done (Err Trail) P is p = absurd (cc)
where_done (Err Memory) P is p = absurd (cc)

-- what an upgrade wrote of an accepted world whose script is whole
text_upgraded : (i : UpgradeInput) (a : Accepted) → i.accepted ≡ Some a → i.script.ending ≡ Whole → out_of (order_of_upgrade i) ≡ text_of_world a ++ i.script.text
text_upgraded i a is whole =
    out_of-to_out (upgrade_text i.accepted i.script)
    ∙ ap (λ (w : Option Accepted). upgrade_text w i.script) is
    ∙ ap (λ e. text_of_world a ++ (i.script.text ++ unless_whole e)) whole
    ∙ ap (λ (t : List ℕ). text_of_world a ++ t) (append-nil i.script.text)

-- all that `upgrade` promises
pub run_upgrade : (r : Result InputEnd Fault) (l l' : Option (List ℕ)) (entry exit : Ends) → CommandDid (OnInput Upgrade) r l l' entry exit → (s : Status) → s ≡ status_of r
    → Upgrades s (reports l entry.out.held entry.trail.held) (reports l' exit.out.held exit.trail.held)
run_upgrade r l l' entry exit x s is = record {
  upgraded = λ done. reported_gives _ _ _ _ (λ text out trail w.
      let i = upgrade_of text in
      let whole : i.script.ending ≡ Whole = ends_whole i.script.ending w.1.0 in
      let read = where_done r (WorldReadsBack i) (sym done ∙ is) w.1.1 in
      upgraded text out whole (λ a accepted. (read a accepted, w.0 ∙ text_upgraded i a accepted whole))) (done_wrote (OnInput Upgrade) r l l' entry exit x s is done);
}
