use Rattle.std.proofs.Common.{ap, arith, sym, ◌∙◌, List}
use Rattle.std.specs.Prelude.{map}
use Rattle.std.specs.FinMap as map
use Rattle.std.proofs.lemmas.List.{take_all}
use Rattle.fs_path.specs.Name.{Name}
use Rattle.fs_dirs.specs.declared.slot.Slot.{Slot}
use Rattle.fs_dirs.proofs.Names.{all_names}
use Rattle.fs_dirs.proofs.directory.Directory.names.Goals as goal

pub returns : goal.returns
returns c =
    let names_of : List Slot → List Name = map (λ (e : Slot). e.entry.value.name) in
    c.loop-place.invariant ∙ ap names_of (take_all c.loop-place.place c.self.inside.entries (omega arith))
    ∙ sym (all_names c.self.inside.entries c.self.invariant) ∙ ap map.keys c.self.view_is
