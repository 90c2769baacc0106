use Rattle.std.proofs.Common.{◌∙◌, ap}
use Rattle.std.specs.FinMap as map
use Rattle.sys_lookup.specs.Shared.{with_fds}
use Rattle.fd_table.specs.Files.{OpenFiles}
use Rattle.sys_lookup.proofs.OwnerLemmas.{owners_none}
use Rattle.sys_lookup.proofs.FdLemmas.{with_fds-none}
use Rattle.kern_core.specs.Starts.{state_loaded}
use Rattle.kern_core.proofs.loading.Loading.load.Goals as goal

pub returns : goal.returns
returns c =
    let s = state_loaded c.args.self in
    (λ i. record {
      objects = (c.in_ok-load.ensures.nodes i).table.objects;
      entries = c.in_ok-load.ensures.entries i;
      procs = with_fds (c.new-2.ensures i).procs (c.new.ensures i).processes;
      descriptions = (c.new.ensures i).descriptions;
      object_numbers = (c.in_ok-load.ensures.nodes i).table.numbers;
      process_numbers = (c.new-2.ensures i).numbers;
      description_numbers = (c.new.ensures i).numbers;
      bound = s.bound;
      top = s.top;
    })
    ∙ (λ i. record s { procs = with_fds-none map.empty i })

pub invariant_of-result : goal.invariant_of-result
invariant_of-result c = owners_none c.new-2.result.procs c.new.result.processes (ap (λ (t : OpenFiles). t.processes) c.new.ensures)
