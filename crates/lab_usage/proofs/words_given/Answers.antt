use Rattle.std.proofs.Common.{◌≡◌, ◌∙◌, sym, true}
use Rattle.lab_usage.proofs.ParseLemmas.{accepted, found_rows, not_given, refused}
use Rattle.lab_usage.proofs.words_given.Goals as goal

pub returns-then-not-are_arguments : goal.returns-then-not-are_arguments
returns-then-not-are_arguments c = not_given c.args.words.now (sym c.are_arguments.ensures ∙ c.if-not-are_arguments.true)

pub returns-in-Ok : goal.returns-in-Ok
returns-in-Ok c =
    c.given_of.ensures ∙ sym (found_rows c.in-Ok.matches)
    ∙ accepted _ _ c.in-Ok.matches (sym c.are_arguments.ensures ∙ c.if-not-are_arguments.false) c.in_ok-command_line.ensures c.in-Ok.ensures.kinds c.in-Ok.ensures.matches

pub returns : goal.returns
returns c =
    refused c.args.words.now _ c.in-Err.error (sym c.are_arguments.ensures ∙ c.if-not-are_arguments.false) c.in_ok-command_line.ensures c.in-Err.ensures.kinds
    (λ memory. let same : c.eq.result ≡ true = rw (c.kind.ensures ∙ memory) at c.eq.ensures in cc)
