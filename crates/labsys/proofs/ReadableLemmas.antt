-- As long as a run goes on, the records that it wrote are read again from their lines.
use Rattle.std.proofs.Common.{◌≡◌, inl, inr, ℕ, ◌<◌, List, ◌++◌, length, sym, ◌∙◌, ap, subst, arith}
use Rattle.std.proofs.lemmas.List.{append_cancel_left, length-append}
use Rattle.std.specs.Prelude.{Some, None}
use Rattle.std.specs.declared.option.Option.{Option}
use Rattle.std.specs.Io.KnownBytes.{Appends}
use Rattle.std.specs.List.{AllByRecursion}
use Rattle.lab_engine.specs.Order.{Sent, order_before_end, out_of}
use Rattle.lab_engine.specs.Playing.{Ends, Sends}
use Rattle.lab_engine.specs.Readable.{IsReadable}
use Rattle.lab_engine.specs.Session.{Session, bytes_of, numbered_recs, replies_of}
use Rattle.lab_engine.proofs.Sending.{out_of-append}
use Rattle.labsys.specs.Readable.{ReadableOrStopped}
use Rattle.labsys.proofs.Coverage.{replies_alone}

-- ---- what is readable where the output goes on after the replies

-- what one sink got is what both lists have for it
one_text : (held now : Option (List ℕ)) (before xs ys : List ℕ) → held ≡ Some before → Appends held now xs → Appends held now ys → xs ≡ ys
one_text held now before xs ys is first second = appended now (subst (λ h. Appends h now xs) is first) (subst (λ h. Appends h now ys) is second)
  where
    appended : (now : Option (List ℕ)) → Appends (Some before) now xs → Appends (Some before) now ys → xs ≡ ys
    appended None first second = absurd first
    appended (Some text) first second = append_cancel_left before xs ys (sym first ∙ second)

pub readable_by_then : (s : Session) (entry exit : Ends) (sent : List Sent) (before : List ℕ) → ReadableOrStopped s.policy (numbered_recs s) (order_before_end s) entry exit → entry.out.held ≡ Some before → Sends sent entry exit
    → length (replies_of (bytes_of s)) < length (out_of sent) → AllByRecursion (IsReadable s.policy) (numbered_recs s)
readable_by_then s entry exit sent before (inl all) eo sends more = all
readable_by_then s entry exit sent before (inr stop) eo sends more =
    let same : out_of sent ≡ out_of stop.sent = one_text entry.out.held exit.out.held before (out_of sent) (out_of stop.sent) eo sends.to_out stop.sends.to_out in
    let all : replies_of (bytes_of s) ≡ out_of stop.sent ++ out_of stop.rest = sym (replies_alone s) ∙ ap out_of stop.prefix ∙ out_of-append stop.sent stop.rest in
    absurd (omega (arith, more, ap length same, ap length all, length-append (out_of stop.sent) (out_of stop.rest)))
