use Rattle.std.proofs.Common.{ap, sym, ◌∙◌, subst, arith}
use Rattle.std.specs.FinMap as map
use Rattle.std.specs.FinMap.{get-empty}
use Rattle.fs_dirs.specs.Directory.{TakesFewSteps, name_cmp}
use Rattle.fs_dirs.specs.Entries.{Contents}
use Rattle.fs_dirs.proofs.DirLemmas.{directory_is}
use Rattle.fs_dirs.proofs.dirs.Dirs.look_counted.Goals as goal

pub returns-in-Some-clause-found : goal.returns-in-Some-clause-found
returns-in-Some-clause-found g c =
    let same = directory_is c.directory.result c.in-Some.is c.directory.ensures in
    c.look_counted.ensures.found ∙ ap (λ (m : Contents). map.get m c.args.name.now) same

pub returns-in-Some-clause-counted : goal.returns-in-Some-clause-counted
returns-in-Some-clause-counted g c =
    let same = directory_is c.directory.result c.in-Some.is c.directory.ensures in
    subst (λ (m : Contents). TakesFewSteps (map.len m) c.args.steps.now c.look_counted.new.steps) same c.look_counted.ensures.counted

pub returns-in-None-clause-found : goal.returns-in-None-clause-found
returns-in-None-clause-found g c =
    let same = directory_is c.directory.result c.in-None.is c.directory.ensures in
    sym (ap (λ (m : Contents). map.get m c.args.name.now) (sym same) ∙ get-empty name_cmp c.args.name.now)

pub returns-in-None-clause-counted : goal.returns-in-None-clause-counted
returns-in-None-clause-counted g c = record { steps = 0; counted = omega arith; few = omega arith }
