use Rattle.std.specs.Prelude.{◌≡◌, ◌<◌, ℕ}
use Rattle.std.specs.FinMap as map
use Rattle.std.specs.FinMap.{FinMap}
use Rattle.std.proofs.Common.{ap, sym, ◌∙◌, subst, arith}
use Rattle.lab_lattice.specs.Label.{label_cmp}
use Rattle.fd_table.specs.declared.process_fds.TheConstants.{MAX_PROCESSES}
use Rattle.fd_table.specs.declared.table.FdTable.TheInside.{Inside}
use Rattle.fd_table.specs.Files.{AreHeld, OpenFiles}
use Rattle.fd_table.specs.Fds.{AllFds, fds_of}
use Rattle.fd_table.proofs.Copying.{copied_next, copied_skip, held_after, next_few, next_there, none_copied}
use Rattle.fd_table.proofs.table.FdTable.copy_process.Goals as goal
use Rattle.fd_table.proofs.table.FdTable.copy_process.Goals.{in-Some, in_default}

pub loop-fd-init : goal.loop-fd-init
loop-fd-init c =
    let t0 = c.args.self.now in
    let shared = c.self.inside.descriptions in
    let to = c.args.to.now in
    let own = c.copy-slots.result in
    let processes : c.self.inside.processes ≡ t0.processes = ap (λ (t : OpenFiles). t.processes) c.self.view_is in
    record {
      processes = c.in_ok-add.ensures.ok ∙ ap (map.insert c.self.inside.processes to) c.copy.ensures ∙ ap (λ (m : AllFds). map.insert m to own) processes;
      numbers = ap (λ (t : OpenFiles). t.numbers) c.self.view_is;
      copied = none_copied t0 c.args.from.now to own (c.copy-slots.ensures ∙ ap (λ (m : AllFds). fds_of m c.args.from.now) processes) shared
          (subst (λ (t : OpenFiles). AreHeld t.processes shared t.numbers) c.self.view_is c.self.invariant) (ap (λ (t : OpenFiles). t.descriptions) c.self.view_is)
          c.requires (subst (λ (m : AllFds). map.len m < MAX_PROCESSES) processes c.in_ok-add.ensures.few);
    }

pub hold-requires-clause-there : goal.hold-requires-clause-there
hold-requires-clause-there c = next_there c.args.self.now c.args.to.now c.copy-slots.result c.loop-fd.fd c.loop-fd.self-inside.descriptions c.loop-fd.invariant.copied c.in-Some.did (sym c.in-Some.ensures.did)

pub hold-requires-clause-few : goal.hold-requires-clause-few
hold-requires-clause-few c s is = next_few c.args.self.now c.args.to.now c.copy-slots.result c.loop-fd.fd c.loop-fd.self-inside.descriptions c.loop-fd.invariant.copied c.in-Some.did s is

pub loop-fd-preserved : goal.loop-fd-preserved
loop-fd-preserved c =
    let t0 = c.args.self.now in
    let to = c.args.to.now in
    let own = c.copy-slots.result in
    let n = c.loop-fd.fd in
    let shared = c.loop-fd.self-inside.descriptions in
    let are = c.loop-fd.invariant.copied in
    elim c.match-get.branch [
      | in-Some w ↦
          let did = w.in-Some.did in
          let there = next_there t0 to own n shared are did (sym w.in-Some.ensures.did) in
          record {
            processes = ap (λ (x : Inside). x.processes) w.self-inside-is ∙ c.loop-fd.invariant.processes;
            numbers = ap (λ (x : Inside). x.numbers) w.self-inside-is ∙ c.loop-fd.invariant.numbers;
            copied = copied_next t0 to own n shared are did (sym w.in-Some.ensures.did) there.value there.is c.match-get.self-inside.descriptions
                (ap (λ (x : Inside). x.descriptions) w.self-inside-is ∙ w.hold.ensures there.value there.is);
          }
      | in_default w ↦ record {
        processes = ap (λ (x : Inside). x.processes) w.self-inside-is ∙ c.loop-fd.invariant.processes;
        numbers = ap (λ (x : Inside). x.numbers) w.self-inside-is ∙ c.loop-fd.invariant.numbers;
        copied = copied_skip t0 to own n shared are (sym c.get.ensures.did ∙ w.in_default.is) c.match-get.self-inside.descriptions (ap (λ (x : Inside). x.descriptions) w.self-inside-is);
      }
    ]

pub invariant_of-self-in-loop-fd : goal.invariant_of-self-in-loop-fd
invariant_of-self-in-loop-fd c =
    let t0 = c.args.self.now in
    let to = c.args.to.now in
    let own = c.copy-slots.result in
    let now = c.loop-fd.self-inside in
    let held = held_after t0 to own c.loop-fd.fd now.descriptions c.loop-fd.invariant.copied (omega arith) in
    subst (λ (m : AllFds). AreHeld m now.descriptions now.numbers) (sym c.loop-fd.invariant.processes)
    (subst (λ (ns : FinMap label_cmp ℕ). AreHeld (map.insert t0.processes to own) now.descriptions ns) (sym c.loop-fd.invariant.numbers) held)
