use Rattle.std.specs.Prelude.{ℕ}
use Rattle.std.specs.FinMap as map
use Rattle.std.specs.FinMap.{FinMap}
use Rattle.std.proofs.Common.{ap, sym, ◌∙◌, subst}
use Rattle.kern_model.specs.Keys.{pid_cmp}
use Rattle.kern_model.specs.State.{Process}
use Rattle.kern_model.specs.Valid.{IsThere}
use Rattle.lab_lattice.specs.Label.{label_cmp}
use Rattle.proc_table.specs.Procs.{AreDrawn, ProcTable, ended_by}
use Rattle.proc_table.proofs.FinishLemmas.{ended_drawn}
use Rattle.proc_table.proofs.procs.Procs.finish.Goals as goal

pub finish-requires-clause-there : goal.finish-requires-clause-there
finish-requires-clause-there c = subst (λ (t : ProcTable). IsThere t.procs c.args.who.now) (sym c.self.view_is) c.requires

pub invariant_of-self : goal.invariant_of-self
invariant_of-self c =
    let table = c.self.inside.table in
    let there = ap (λ (t : ProcTable). map.get t.procs c.args.who.now) c.self.view_is ∙ c.requires.is in (
      subst (λ (procs : FinMap pid_cmp Process). AreDrawn procs c.finish.new.self.numbers) (sym (c.finish.ensures.living c.requires.value there))
          (subst (λ (numbers : FinMap label_cmp ℕ). AreDrawn (ended_by table.living c.args.who.now c.requires.value c.args.ending) numbers) (sym c.finish.ensures.numbers)
          (ended_drawn table.living table.numbers c.self.invariant.0 c.args.who.now c.requires.value c.args.ending)),
      c.finish.ensures.kept,
    )

pub returns : goal.returns
returns c = λ p is.
    let who = c.args.who.now in
    let there = ap (λ (t : ProcTable). map.get t.procs who) c.self.view_is ∙ is in
    ap (λ (procs : FinMap pid_cmp Process). record { procs = procs; numbers = c.finish.new.self.numbers }) (c.finish.ensures.living p there)
    ∙ ap (λ (numbers : FinMap label_cmp ℕ). record { procs = ended_by c.self.inside.table.living who p c.args.ending; numbers = numbers }) c.finish.ensures.numbers
    ∙ ap (λ (t : ProcTable). record t { procs = ended_by t.procs who p c.args.ending }) c.self.view_is
