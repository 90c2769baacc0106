use Rattle.std.specs.Prelude.{◌≡◌, ℕ}
use Rattle.std.specs.FinMap as map
use Rattle.std.specs.FinMap.{FinMap}
use Rattle.std.specs.Option.{option_map}
use Rattle.std.proofs.Common.{ap, sym, ◌∙◌, subst, arith, rules}
use Rattle.lab_lattice.specs.Label.{label_cmp}
use Rattle.fd_table.specs.declared.table.FdTable.TheInside.{Inside}
use Rattle.fd_table.specs.Descriptions.{SharedTable, description_of, descriptions_of}
use Rattle.fd_table.specs.Files.{AreHeld, OpenFiles, objects_after_close, left_with}
use Rattle.fd_table.specs.Fds.{AllFds}
use Rattle.kern_model.proofs.KeyLaws.{pid_cmp_total, pid_cmp_exact}
use Rattle.kern_model.proofs.MapLemmas.{remove-absent}
use Rattle.fd_table.proofs.Dropping.{drained_same, held_after, held_by, left_after, let_go_next, let_go_skip, next_there, none_let_go}
use Rattle.fd_table.proofs.Leaving.{get-descriptions, left_held}
use Rattle.fd_table.proofs.table.FdTable.drop_process.Goals as goal
use Rattle.fd_table.proofs.table.FdTable.drop_process.Goals.{in-Some-get, in_default-get}

pub invariant_of-self : goal.invariant_of-self
invariant_of-self g c =
    let processes = c.self.inside.processes in
    let gone : c.remove.new.self ≡ processes = c.remove.ensures.left ∙ remove-absent pid_cmp_total pid_cmp_exact processes c.args.who.now (sym c.in_default.ensures.removed) in
    subst (λ (m : AllFds). AreHeld m c.self.inside.descriptions c.self.inside.numbers) (sym gone) c.self.invariant

pub returns-in_default-clause-left : goal.returns-in_default-clause-left
returns-in_default-clause-left g c =
    let processes = c.self.inside.processes in
    let shared = c.self.inside.descriptions in
    let who = c.args.who.now in
    let gone : map.remove processes who ≡ processes = remove-absent pid_cmp_total pid_cmp_exact processes who (sym c.in_default.ensures.removed) in
    let left : descriptions_of shared ≡ held_by (map.remove processes who) (descriptions_of shared) =
    left_held processes (descriptions_of shared) shared c.self.inside.numbers c.self.invariant (λ q s e. get-descriptions shared q ∙ ap (option_map description_of) e)
    ∙ ap (λ (m : AllFds). held_by m (descriptions_of shared)) (sym gone) in
    let all : ◌≡◌ {A = OpenFiles} (record { processes = c.remove.new.self; descriptions = descriptions_of shared; numbers = c.self.inside.numbers })
    (record { processes = map.remove processes who; descriptions = held_by (map.remove processes who) (descriptions_of shared); numbers = c.self.inside.numbers }) =
    (λ i. record { processes = c.remove.ensures.left i; descriptions = left i; numbers = c.self.inside.numbers }) in
    all ∙ ap (λ (t : OpenFiles). left_with t (map.remove t.processes who)) c.self.view_is

pub returns-in_default-clause-drained : goal.returns-in_default-clause-drained
returns-in_default-clause-drained g c =
    let objects = g.B.Buffers.objects c.args.buffers.now in
    sym (ap (λ (t : OpenFiles). objects_after_close t.descriptions (descriptions_of c.self.inside.descriptions) objects) (sym c.self.view_is) ∙ drained_same (descriptions_of c.self.inside.descriptions) objects)

pub loop-fd-init : goal.loop-fd-init
loop-fd-init g c =
    let shared = c.self.inside.descriptions in
    let who = c.args.who.now in
    record {
      processes = c.remove.ensures.left ∙ ap (λ (t : OpenFiles). map.remove t.processes who) c.self.view_is;
      numbers = ap (λ (t : OpenFiles). t.numbers) c.self.view_is;
      gone = none_let_go c.args.self.now who c.in-Some.slots shared (g.B.Buffers.objects c.args.buffers.now)
          (ap (λ (t : OpenFiles). map.get t.processes who) (sym c.self.view_is) ∙ sym c.in-Some.ensures.removed)
          (subst (λ (t : OpenFiles). AreHeld t.processes shared t.numbers) c.self.view_is c.self.invariant)
          (ap (λ (t : OpenFiles). t.descriptions) c.self.view_is);
      rest = search rules;
    }

pub let_go-requires : goal.let_go-requires
let_go-requires g c =
    next_there c.args.self.now c.args.who.now c.in-Some.slots c.loop-fd.fd c.loop-fd.self-inside.descriptions (g.B.Buffers.objects c.args.buffers.now) (g.B.Buffers.objects c.loop-fd.buffers)
    c.loop-fd.invariant.gone c.in-Some-get.did (sym c.in-Some-get.ensures.did)

pub loop-fd-preserved : goal.loop-fd-preserved
loop-fd-preserved g c =
    let t0 = c.args.self.now in
    let who = c.args.who.now in
    let own = c.in-Some.slots in
    let n = c.loop-fd.fd in
    let objects0 = g.B.Buffers.objects c.args.buffers.now in
    let objects = g.B.Buffers.objects c.loop-fd.buffers in
    let shared = c.loop-fd.self-inside.descriptions in
    let are = c.loop-fd.invariant.gone in
    elim c.match-get.branch [
      | in-Some-get w ↦
          let did = w.in-Some-get.did in
          let there = next_there t0 who own n shared objects0 objects are did (sym w.in-Some-get.ensures.did) in
          let now : c.match-get.self-inside.descriptions ≡ w.let_go.new.descriptions = ap (λ (x : Inside). x.descriptions) w.self-inside-is in
          record {
            processes = ap (λ (x : Inside). x.processes) w.self-inside-is ∙ c.loop-fd.invariant.processes;
            numbers = ap (λ (x : Inside). x.numbers) w.self-inside-is ∙ c.loop-fd.invariant.numbers;
            gone = let_go_next t0 who own n shared objects0 objects are did (sym w.in-Some-get.ensures.did) there.value there.is
                c.match-get.self-inside.descriptions (now ∙ w.let_go.ensures.left there.value there.is) (g.B.Buffers.objects c.match-get.buffers)
                (ap g.B.Buffers.objects w.buffers-is ∙ w.let_go.ensures.drained ∙ ap (λ (m : SharedTable). objects_after_close (descriptions_of shared) (descriptions_of m) objects) (sym now));
            rest = search rules;
          }
      | in_default-get w ↦ record {
        processes = ap (λ (x : Inside). x.processes) w.self-inside-is ∙ c.loop-fd.invariant.processes;
        numbers = ap (λ (x : Inside). x.numbers) w.self-inside-is ∙ c.loop-fd.invariant.numbers;
        gone = let_go_skip t0 who own n shared objects0 objects are (sym c.get.ensures.did ∙ w.in_default-get.is) c.match-get.self-inside.descriptions
            (ap (λ (x : Inside). x.descriptions) w.self-inside-is) (g.B.Buffers.objects c.match-get.buffers) (ap g.B.Buffers.objects w.buffers-is);
        rest = search rules;
      }
    ]

pub invariant_of-self-in-loop-fd : goal.invariant_of-self-in-loop-fd
invariant_of-self-in-loop-fd g c =
    let t0 = c.args.self.now in
    let now = c.loop-fd.self-inside in
    let end : c.loop-fd.fd ≡ 32 = omega arith in
    let held = held_after t0 c.args.who.now c.in-Some.slots c.loop-fd.fd end now.descriptions (g.B.Buffers.objects c.args.buffers.now) (g.B.Buffers.objects c.loop-fd.buffers) c.loop-fd.invariant.gone in
    subst (λ (m : AllFds). AreHeld m now.descriptions now.numbers) (sym c.loop-fd.invariant.processes)
    (subst (λ (ns : FinMap label_cmp ℕ). AreHeld (map.remove t0.processes c.args.who.now) now.descriptions ns) (sym c.loop-fd.invariant.numbers) held)

pub returns-clause-left : goal.returns-clause-left
returns-clause-left g c =
    let end : c.loop-fd.fd ≡ 32 = omega arith in
    let left =
    left_after c.args.self.now c.args.who.now c.in-Some.slots c.loop-fd.fd end c.loop-fd.self-inside.descriptions (g.B.Buffers.objects c.args.buffers.now) (g.B.Buffers.objects c.loop-fd.buffers)
    c.loop-fd.invariant.gone in
    λ i. record { processes = c.loop-fd.invariant.processes i; descriptions = left i; numbers = c.loop-fd.invariant.numbers i }
