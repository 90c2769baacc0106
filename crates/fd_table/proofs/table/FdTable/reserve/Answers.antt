use Rattle.std.specs.Prelude.{is_some}
use Rattle.std.specs.FinMap as map
use Rattle.std.proofs.Common.{ap, sym, ◌∙◌, cond, Some}
use Rattle.std.specs.FinMap.{get-insert}
use Rattle.kern_model.proofs.KeyLaws.{pid_cmp_total}
use Rattle.kern_model.proofs.MapLemmas.{get-insert_same}
use Rattle.fd_table.specs.Files.{OpenFiles}
use Rattle.std.proofs.lemmas.Result.{on_err_weaker, on_ok_weaker}
use Rattle.fd_table.proofs.Counting.{either_way}
use Rattle.fd_table.proofs.Holding.{none_if, fds_as_before, there_if}
use Rattle.fd_table.proofs.table.FdTable.reserve.Goals as goal

pub returns-then-has-clause-process : goal.returns-then-has-clause-process
returns-then-has-clause-process c = there_if c.args.self.now.processes c.args.who.now (sym (c.has.ensures ∙ ap (λ (t : OpenFiles). is_some (map.get t.processes c.args.who.now)) c.self.view_is) ∙ c.if-has.true)

pub returns-clause-process : goal.returns-clause-process
returns-clause-process c =
    let t = c.args.self.now in
    let who = c.args.who.now in
    on_ok_weaker c.add_process.result (λ e. record { value = map.empty; is = ap (λ (u : OpenFiles). map.get u.processes who) e ∙ get-insert_same pid_cmp_total t.processes who map.empty }) c.add_process.ensures.ok

pub returns-clause-same : goal.returns-clause-same
returns-clause-same c q =
    let t = c.args.self.now in
    let who = c.args.who.now in
    let absent = none_if (map.get t.processes who) (sym (c.has.ensures ∙ ap (λ (u : OpenFiles). is_some (map.get u.processes who)) c.self.view_is) ∙ c.if-has.false) in
    fds_as_before t.processes who absent c.add_process.result c.add_process.new.self.processes (on_ok_weaker c.add_process.result (ap (λ (u : OpenFiles). u.processes)) c.add_process.ensures.ok) (on_err_weaker c.add_process.result (ap (λ (u : OpenFiles). u.processes)) c.add_process.ensures.err) q

pub returns-clause-others : goal.returns-clause-others
returns-clause-others c = λ q other.
    let processes = c.args.self.now.processes in
    either_way c.add_process.result
    (λ added _. ap (λ (t : OpenFiles). map.get t.processes q) added ∙ get-insert pid_cmp_total processes c.args.who.now map.empty q ∙ ap (λ b. cond b (Some map.empty) (map.get processes q)) other)
    (λ same. ap (λ (t : OpenFiles). map.get t.processes q) same)
    c.add_process.ensures.ok c.add_process.ensures.ok c.add_process.ensures.err
