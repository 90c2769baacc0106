use Rattle.std.specs.Prelude.{◌<◌}
use Rattle.std.proofs.Common.{ap, sym, ◌∙◌, subst}
use Rattle.std.specs.FinMap as map
use Rattle.std.specs.FinMap.{get-empty}
use Rattle.std.specs.Ordering.{nat_cmp}
use Rattle.kern_model.specs.Descriptors.{lowest_free}
use Rattle.kern_model.specs.declared.limits.TheConstants.{MAX_DESCRIPTORS}
use Rattle.fd_table.specs.Fds.{Fds, fd_count}
use Rattle.fd_table.proofs.Looking.{none_lowest, fds_there, fds_absent}
use Rattle.fd_table.proofs.process_fds.ProcessFds.lowest.Goals as goal

pub lowest-requires : goal.lowest-requires
lowest-requires c = subst (λ (fds : Fds). fd_count fds < MAX_DESCRIPTORS) (fds_there c.args.self.now c.args.who.now c.in-Some.slots.now c.in-Some.ensures) c.requires

pub returns-in-Some-clause-lowest : goal.returns-in-Some-clause-lowest
returns-in-Some-clause-lowest c = c.lowest.ensures.lowest ∙ ap lowest_free (sym (fds_there c.args.self.now c.args.who.now c.in-Some.slots.now c.in-Some.ensures))

pub returns-in-Some-clause-free : goal.returns-in-Some-clause-free
returns-in-Some-clause-free c = ap (λ (fds : Fds). map.get fds c.lowest.result) (fds_there c.args.self.now c.args.who.now c.in-Some.slots.now c.in-Some.ensures) ∙ c.lowest.ensures.free

pub returns-in-None-clause-lowest : goal.returns-in-None-clause-lowest
returns-in-None-clause-lowest c = sym (ap lowest_free (fds_absent c.args.self.now c.args.who.now c.in-None.ensures) ∙ none_lowest)

pub returns-in-None-clause-free : goal.returns-in-None-clause-free
returns-in-None-clause-free c = ap (λ (fds : Fds). map.get fds 0) (fds_absent c.args.self.now c.args.who.now c.in-None.ensures) ∙ get-empty nat_cmp 0
