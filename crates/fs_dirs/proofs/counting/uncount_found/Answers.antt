use Rattle.std.specs.Prelude.{Option}
use Rattle.std.proofs.Common.{subst}
use Rattle.kern_model.specs.declared.numbers.Oid.{Oid}
use Rattle.fs_dirs.specs.HolderLabels.{AreCounted, label_in, with_found}
use Rattle.fs_dirs.proofs.counting.uncount_found.Goals as goal

pub returns-in-Some : goal.returns-in-Some
returns-in-Some c names are =
    c.uncount_name.ensures names (subst (λ (found : Option Oid). AreCounted c.args.labels.now (with_found names found (label_in c.args.nodes.now.table.objects c.args.dir.now))) c.in-Some.is are)

pub returns-in_default : goal.returns-in_default
returns-in_default c names are =
    subst (λ (found : Option Oid). AreCounted c.args.labels.now (with_found names found (label_in c.args.nodes.now.table.objects c.args.dir.now))) c.in_default.is are
