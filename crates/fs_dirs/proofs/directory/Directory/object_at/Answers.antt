use Rattle.std.proofs.Common.{◌≡◌, ap, sym, ◌∙◌, Some, None, length, refl, slice_get}
use Rattle.std.specs.FinMap as map
use Rattle.std.proofs.lemmas.Option.{slice_get_past, slice_get_read}
use Rattle.fs_dirs.specs.declared.slot.Entry.{Entry}
use Rattle.fs_dirs.proofs.Names.{object_there}
use Rattle.fs_dirs.proofs.directory.Directory.object_at.Goals as goal

pub returns-in-Some : goal.returns-in-Some
returns-in-Some c =
    let items = c.self.inside.entries in
    let at : Some c.in-Some.slot.now ≡ slice_get items c.args.place = sym (slice_get_read items (length items) c.args.place c.in-Some.slot.now refl c.in-Some.ensures.3.0 c.in-Some.ensures.1) in
    ap (λ (e : Entry). Some e.id) c.deref.ensures ∙ object_there items c.self.invariant c.args.place (Some c.in-Some.slot.now) at
    ∙ ap (λ m. slice_get (map.values m) c.args.place) c.self.view_is

pub returns-in-None : goal.returns-in-None
returns-in-None c =
    let items = c.self.inside.entries in
    let at : None ≡ slice_get items c.args.place = sym (slice_get_past items c.args.place c.in-None.ensures.3) in
    object_there items c.self.invariant c.args.place None at ∙ ap (λ m. slice_get (map.values m) c.args.place) c.self.view_is
