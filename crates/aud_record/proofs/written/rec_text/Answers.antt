use Rattle.std.proofs.Common.{◌≡◌, ℕ, List, ◌++◌, true, Result, Ok, Err, Vec, Global, ap, sym, ◌∙◌, length}
use Rattle.std.specs.declared.alloc.AllocError.{AllocError}
use Rattle.std.specs.Prelude.{IfOk, OnOk}
use Rattle.lab_text.specs.Policy.{PolicyNames, MakePolicy}
use Rattle.kern_model.specs.declared.records.Rec.{Rec}
use Rattle.aud_record.proofs.RoundTrip.{rec_round_trip}
use Rattle.aud_record.specs.Fits.{has_valid_labels, IsInRange}
use Rattle.aud_record.specs.Parsed.{parse_rec}
use Rattle.aud_record.specs.Written.{rec_text}
use Rattle.aud_record.proofs.FitLemmas.{fits_from}
use Rattle.aud_record.proofs.written.rec_text.Goals as goal

read_back : (p : PolicyNames) (call : ℕ) (r : Rec) (text rest : List ℕ) → MakePolicy p → IsInRange call r → has_valid_labels p r ≡ true → text ≡ rec_text p call r
    → parse_rec p (text ++ rest) ≡ Ok (record { call = call; rec = r; used = length text })
read_back p call r text rest h range valid is =
    ap (λ t. parse_rec p (t ++ rest)) is ∙ rec_round_trip p call r rest h range.call_is (fits_from p call r valid range) ∙ ap (λ (t : List ℕ). Ok (record { call = call; rec = r; used = length t })) (sym is)

by_result : (p : PolicyNames) (call : ℕ) (r : Rec) (result : Result (Vec ℕ Global) AllocError) → MakePolicy p → IfOk result (λ text. text.items ≡ rec_text p call r) → OnOk result (IsInRange call r)
    → IfOk result (λ text. has_valid_labels p r ≡ true → (rest : List ℕ) → parse_rec p (text.items ++ rest) ≡ Ok (record { call = call; rec = r; used = length text.items }))
by_result p call r (Ok text) h is range = λ valid rest. read_back p call r text.items rest h range valid is
by_result p call r (Err e) h is range = tt

pub returns-clause-round_trip : goal.returns-clause-round_trip
returns-clause-round_trip c = by_result c.args.policy.now c.args.call c.args.rec.now c.line_of.result c.levels-names.ensures.policy c.line_of.ensures.text c.line_of.ensures.in_range
