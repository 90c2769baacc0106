use Rattle.std.proofs.Common.{◌≡◌, ◌∙◌, ◌++◌, List, [], ◌∷◌, ap, reverse, subst, sym}
use Rattle.std.proofs.lemmas.List.{reverse-append}
use Rattle.kern_model.specs.declared.world.WorldProc.{WorldProc}
use Rattle.kern_model.specs.Boot.{boot_processes, boot_recs_from}
use Rattle.kern_core.specs.Starts.{CanStart}
use Rattle.kern_core.proofs.BootLemmas.{process_room, process_within, processes_step, processes_can, started_step}
use Rattle.kern_core.proofs.boot.take_processes.Goals as goal

pub boot_process-requires-clause-number : goal.boot_process-requires-clause-number
boot_process-requires-clause-number c =
    let rest = c.pop.new.self.items in
    let first : reverse c.loop-process.left.items ≡ c.in-Some.process ∷ reverse rest = ap (reverse {A = WorldProc}) c.in-Some.ensures.items ∙ reverse-append rest (c.in-Some.process ∷ []) in
    process_room c.loop-process.shared c.in-Some.process (reverse rest) (reverse c.loop-process.left.items) first c.loop-process.invariant.can

pub boot_process-requires-clause-within : goal.boot_process-requires-clause-within
boot_process-requires-clause-within c =
    let rest = c.pop.new.self.items in
    let first : reverse c.loop-process.left.items ≡ c.in-Some.process ∷ reverse rest = ap (reverse {A = WorldProc}) c.in-Some.ensures.items ∙ reverse-append rest (c.in-Some.process ∷ []) in
    process_within c.loop-process.shared c.in-Some.process (reverse rest) (reverse c.loop-process.left.items) first c.loop-process.invariant.can

pub loop-process-preserved : goal.loop-process-preserved
loop-process-preserved c =
    let s = c.loop-process.shared in
    let t = c.boot_process.new.shared in
    let process = c.in-Some.process in
    let rest = reverse c.pop.new.self.items in
    let all = reverse c.loop-process.left.items in
    let first : all ≡ process ∷ rest = ap (reverse {A = WorldProc}) c.in-Some.ensures.items ∙ reverse-append c.pop.new.self.items (process ∷ []) in
    let left : rest ≡ reverse c.give_back.new.left.items = ap (reverse {A = WorldProc}) (sym c.give_back.ensures) in
    let made = c.in_ok-boot_process.ensures.state in
    record {
      same = ap (boot_processes t) (sym left) ∙ processes_step s t process rest all first made ∙ c.loop-process.invariant.same;
      recs = (λ i. c.in_ok-push.ensures.ok i ++ boot_recs_from t (sym left i))
          ∙ started_step s t process rest all first made c.in_ok-boot_process.field-0 c.in_ok-boot_process.ensures.started c.loop-process.recs
          ∙ c.loop-process.invariant.recs;
      can = subst (λ (ws : List WorldProc). CanStart t.process_numbers ws) left (processes_can s t process rest all first made c.loop-process.invariant.can);
    }
