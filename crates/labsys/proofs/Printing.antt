-- The end lines as the records give them, and the trail as the lines of all records.
use Rattle.std.proofs.Common.{◌≡◌, ℕ, ◌+◌, List, [], ◌∷◌, ◌++◌, length, map, refl, sym, ◌∙◌, ap, append_assoc}
use Rattle.std.proofs.lemmas.Grind.{flat_map-append}
use Rattle.std.proofs.lemmas.List.{map-append}
use Rattle.std.specs.Prelude.{Some, None}
use Rattle.std.specs.declared.option.Option.{Option}
use Rattle.std.specs.List.{flat_map}
use Rattle.std.specs.Option.{option_map}
use Rattle.aud_record.specs.Written.{rec_text, header_text}
use Rattle.std.specs.FinMap as finite
use Rattle.kern_model.specs.declared.records.Rec.{Rec}
use Rattle.kern_model.specs.Run.{CallRecord}
use Rattle.lab_text.specs.Policy.{PolicyNames}
use Rattle.kern_model.specs.declared.numbers.Pid.{Pid}
use Rattle.kern_model.specs.Lineage.{caps_of, all_recs}
use Rattle.kern_model.specs.State.{Process}
use Rattle.iso_laws.proofs.Laws.{caps_by_records}
use Rattle.lab_engine.specs.Input.{Accepted, Script}
use Rattle.lab_engine.specs.Texts.{end_text, last_text}
use Rattle.lab_engine.specs.Session.{Session, session_of, bytes_from, bytes_of, replies_of, records_of, head_text, tail_text}
use Rattle.labsys.specs.Clauses.{recs_in, trail_with, out_with}
use Rattle.lab_engine.specs.Session.{numbered_from, numbered_recs}

-- ---- numbered records

unnumbered : (n : ℕ) (rs : List Rec) → recs_in (map (λ (r : Rec). (n, r)) rs) ≡ rs
unnumbered n [] = refl
unnumbered n (r ∷ rs) = ap (λ (xs : List Rec). r ∷ xs) (unnumbered n rs)

unnumbered_from : (n : ℕ) (ps : List CallRecord) → recs_in (numbered_from n ps) ≡ flat_map (λ (p : CallRecord). p.recs) ps
unnumbered_from n [] = refl
unnumbered_from n (p ∷ ps) =
    map-append (λ (r : ℕ × Rec). r.1) (map (λ (r : Rec). (n, r)) p.recs) (numbered_from (n + 1) ps)
    ∙ ap (λ (xs : List Rec). xs ++ recs_in (numbered_from (n + 1) ps)) (unnumbered n p.recs)
    ∙ ap (λ (xs : List Rec). p.recs ++ xs) (unnumbered_from (n + 1) ps)

-- the lines of numbered records
abbrev lines : PolicyNames → List (ℕ × Rec) → List ℕ
lines policy recs = flat_map (λ (r : ℕ × Rec). rec_text policy r.0 r.1) recs

lines_of_call : (policy : PolicyNames) (n : ℕ) (rs : List Rec) → lines policy (map (λ (r : Rec). (n, r)) rs) ≡ flat_map (rec_text policy n) rs
lines_of_call policy n [] = refl
lines_of_call policy n (r ∷ rs) = ap (λ (xs : List ℕ). rec_text policy n r ++ xs) (lines_of_call policy n rs)

lines_from : (policy : PolicyNames) (n : ℕ) (ps : List CallRecord) → lines policy (numbered_from n ps) ≡ records_of (bytes_from policy n ps)
unfolding bytes_from
lines_from policy n [] = refl
lines_from policy n (p ∷ ps) =
    flat_map-append (λ (r : ℕ × Rec). rec_text policy r.0 r.1) (map (λ (r : Rec). (n, r)) p.recs) (numbered_from (n + 1) ps)
    ∙ ap (λ (xs : List ℕ). xs ++ lines policy (numbered_from (n + 1) ps)) (lines_of_call policy n p.recs)
    ∙ ap (λ (xs : List ℕ). flat_map (rec_text policy n) p.recs ++ xs) (lines_from policy (n + 1) ps)

-- the trail has the lines of all records
pub trail_reported : (s : Session) → head_text s ++ records_of (bytes_of s) ≡ trail_with s (numbered_recs s)
unfolding head_text
trail_reported s =
    let at_start : List (ℕ × Rec) = map (λ (r : Rec). (0, r)) s.boot_recs in
    let at_calls : List (ℕ × Rec) = numbered_from 1 s.calls in
    sym (
    ap (λ (xs : List ℕ). header_text s.policy s.bound ++ xs) (
    flat_map-append (λ (r : ℕ × Rec). rec_text s.policy r.0 r.1) at_start at_calls
    ∙ ap (λ (xs : List ℕ). xs ++ lines s.policy at_calls) (lines_of_call s.policy 0 s.boot_recs)
    ∙ ap (λ (xs : List ℕ). flat_map (rec_text s.policy 0) s.boot_recs ++ xs) (lines_from s.policy 1 s.calls))
    ∙ sym (append_assoc (header_text s.policy s.bound) (flat_map (rec_text s.policy 0) s.boot_recs) (records_of (bytes_of s))))

module _ (a : Accepted) (script : Script) where
  abbrev s : Session
  s = session_of a script

  -- the records are those of the run
  pub all_numbered : recs_in (numbered_recs s) ≡ all_recs a.world script.items
  all_numbered =
      map-append (λ (r : ℕ × Rec). r.1) (map (λ (r : Rec). (0, r)) s.boot_recs) (numbered_from 1 s.calls)
      ∙ ap (λ (xs : List Rec). xs ++ recs_in (numbered_from 1 s.calls)) (unnumbered 0 s.boot_recs)
      ∙ ap (λ (xs : List Rec). s.boot_recs ++ xs) (unnumbered_from 1 s.calls)

  -- the end line of a process, by what is found under its number
  abbrev line : Pid → Option Process → List ℕ
  line who found = end_text a.policy who (option_map (λ (p : Process). p.label) found) (option_map (λ (p : Process). p.caps) found)

  abbrev reported_line : Pid → Option Process → List ℕ
  reported_line who found = end_text a.policy who (option_map (λ (p : Process). p.label) found) (Some (caps_of a.world.bound (all_recs a.world script.items) who))

  same_line : (who : Pid) → line who (finite.get s.last_state.procs who) ≡ reported_line who (finite.get s.last_state.procs who)
  same_line who =
      elim (finite.get s.last_state.procs who) as (λ found. finite.get s.last_state.procs who ≡ found → line who found ≡ reported_line who found) [
        | None ↦ λ _. refl
        | Some p ↦ λ is. ap (λ c. end_text a.policy who (Some p.label) (Some c)) (caps_by_records a.world script.items who p is)
      ] refl

  -- the output is the one in which the records give the capability sets
  pub out_reported : replies_of (bytes_of s) ++ tail_text s ≡ out_with s (recs_in (numbered_recs s))
  unfolding tail_text
  out_reported =
      (λ i. replies_of (bytes_of s) ++ (flat_map (λ who. same_line who i) (finite.keys s.last_state.procs) ++ last_text (length s.calls) script.ending))
      ∙ ap (out_with s) (sym all_numbered)
