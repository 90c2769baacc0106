use Rattle.std.proofs.Common.{subst, sym}
use Rattle.kern_model.specs.State.{State}
use Rattle.fs_dirs.specs.Tree.{MayBeAdded}
use Rattle.sys_lookup.proofs.shared.Shared.add_entry.Goals as goal

pub add_absent-requires-clause-may : goal.add_absent-requires-clause-may
add_absent-requires-clause-may c =
    let may = subst (λ (s : State). MayBeAdded s c.args.id.now) (sym c.self.view_is) c.requires.may in
    record { object = may.object; is = may.is; few = may.few; no_root = may.no_root; no_pipe = may.no_pipe; one = may.one }
