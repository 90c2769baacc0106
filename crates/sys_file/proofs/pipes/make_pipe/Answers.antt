use Rattle.std.proofs.Common.{◌∙◌, ap, is_some, None, false, nat_le}
use Rattle.std.specs.FinMap as map
use Rattle.kern_model.specs.declared.calls.Answer.TheVariants as answer
use Rattle.kern_model.specs.declared.limits.TheConstants.{MAX_DESCRIPTIONS, MAX_DESCRIPTORS}
use Rattle.kern_model.specs.Descriptors.{lowest_free, open_count, with_descriptor}
use Rattle.kern_model.specs.FileRows.{has_descriptions, has_free_descriptors, description_creation}
use Rattle.kern_model.specs.State.{State, Process, apply_changes, last_drawn, next_description, process_at}
use Rattle.kern_model.proofs.KeyLaws.{pid_cmp_total}
use Rattle.kern_model.proofs.MapLemmas.{get-insert_same}
use Rattle.sys_file.proofs.PipeLemmas.{both_are, drawn_after, one_left, one_less, reader_is, reader_made, with_reader}
use Rattle.sys_file.specs.PipeEnds.{end_flags}
use Rattle.sys_file.proofs.pipes.make_pipe.Goals as goal

pub describe-requires-clause-living : goal.describe-requires-clause-living
describe-requires-clause-living c = ap (λ (x : State). is_some (map.get x.procs c.args.who.now)) c.in_ok-id.ensures.made ∙ c.requires.living

pub describe-requires-clause-free : goal.describe-requires-clause-free
describe-requires-clause-free c =
    let who = c.args.who.now in
    ap (λ (x : State). has_free_descriptors (process_at x who) 1) c.in_ok-id.ensures.made
    ∙ one_less (open_count (process_at c.args.shared.now who)) MAX_DESCRIPTORS c.requires.free

pub describe-requires-clause-left : goal.describe-requires-clause-left
describe-requires-clause-left c =
    let s = c.args.shared.now in
    let who = c.args.who.now in
    ap (λ (x : State). has_descriptions x (process_at x who) 1) c.in_ok-id.ensures.made
    ∙ one_less (last_drawn s.description_numbers (process_at s who).label) MAX_DESCRIPTIONS c.requires.left

pub describe-requires-2-clause-living : goal.describe-requires-2-clause-living
describe-requires-2-clause-living c =
    let s = c.args.shared.now in
    let p = process_at s c.args.who.now in
    let one = reader_made s c.args.who.now c.in_ok-id.id c.in_ok-id.ensures.made c.in_ok-reader.ensures.described c.end_flags.ensures in
    ap (λ (x : State). is_some (map.get x.procs c.args.who.now)) one ∙ ap is_some (get-insert_same pid_cmp_total s.procs c.args.who.now (with_descriptor p (next_description s p.label)))

pub describe-requires-2-clause-free : goal.describe-requires-2-clause-free
describe-requires-2-clause-free c =
    let s = c.args.shared.now in
    let p = process_at s c.args.who.now in
    let one = reader_made s c.args.who.now c.in_ok-id.id c.in_ok-id.ensures.made c.in_ok-reader.ensures.described c.end_flags.ensures in
    ap (λ (x : State). has_free_descriptors (process_at x c.args.who.now) 1) one
    ∙ ap (λ (x : Process). has_free_descriptors x 1) (reader_is s c.args.who.now p c.in_ok-id.id)
    ∙ one_left p (next_description s p.label) c.requires.free

pub describe-requires-2-clause-left : goal.describe-requires-2-clause-left
describe-requires-2-clause-left c =
    let s = c.args.shared.now in
    let p = process_at s c.args.who.now in
    let one = reader_made s c.args.who.now c.in_ok-id.id c.in_ok-id.ensures.made c.in_ok-reader.ensures.described c.end_flags.ensures in
    ap (λ (x : State). has_descriptions x (process_at x c.args.who.now) 1) one
    ∙ ap (λ (x : Process). has_descriptions (with_reader s c.args.who.now p c.in_ok-id.id) x 1) (reader_is s c.args.who.now p c.in_ok-id.id)
    ∙ ap (λ n. nat_le n MAX_DESCRIPTIONS) (drawn_after s p.label) ∙ c.requires.left

pub returns-clause-answer : goal.returns-clause-answer
returns-clause-answer c =
    let s = c.args.shared.now in
    let p = process_at s c.args.who.now in
    let one = reader_made s c.args.who.now c.in_ok-id.id c.in_ok-id.ensures.made c.in_ok-reader.ensures.described c.end_flags.ensures in
    let first = c.in_ok-reader.ensures.fd ∙ ap (λ (x : State). lowest_free (process_at x c.args.who.now).fds) c.in_ok-id.ensures.made in
    let second = c.in_ok-writer.ensures.fd ∙ ap (λ (x : State). lowest_free (process_at x c.args.who.now).fds) one ∙ ap (λ (x : Process). lowest_free x.fds) (reader_is s c.args.who.now p c.in_ok-id.id) in
    c.answers.ensures ∙ (λ i. record { answer = answer.Two (first i) (second i); own = None })

pub returns-clause-piped : goal.returns-clause-piped
returns-clause-piped c =
    let s = c.args.shared.now in
    let p = process_at s c.args.who.now in
    let one = reader_made s c.args.who.now c.in_ok-id.id c.in_ok-id.ensures.made c.in_ok-reader.ensures.described c.end_flags.ensures in
    c.in_ok-writer.ensures.described
    ∙ (λ i. apply_changes (one i) (description_creation (one i) c.args.who.now (process_at (one i) c.args.who.now) c.in_ok-id.id (c.end_flags-2.ensures i)))
    ∙ ap (λ (x : Process). let u = with_reader s c.args.who.now p c.in_ok-id.id in apply_changes u (description_creation u c.args.who.now x c.in_ok-id.id (end_flags false))) (reader_is s c.args.who.now p c.in_ok-id.id)
    ∙ both_are s c.args.who.now p c.in_ok-id.id c.in_ok-id.ensures.id
