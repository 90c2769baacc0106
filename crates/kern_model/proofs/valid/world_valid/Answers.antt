use Rattle.std.proofs.Common.{◌≡◌, ◌∙◌, ◌≤◌, sym, ap, subst, refl, take, drop, length, get_or, List}
use Rattle.kern_model.specs.declared.world.WorldObject.{WorldObject}
use Rattle.kern_model.specs.World.{ArePlaced, IsWorld}
use Rattle.kern_model.proofs.WorldLemmas.{Parts, parts_of_world, world_of_parts}
use Rattle.kern_model.proofs.valid.world_valid.Goals as goal
use Rattle.kern_model.proofs.valid.world_valid.Goals.{After-may_be_root}

-- the item that is tested is the first object of the world
first_at : (c : After-may_be_root) → c.first-item.result ≡ get_or c.args.world.now.objects 0 c.first-item.result
first_at c = c.first-item.is ∙ ap (λ (os : List WorldObject). get_or os 0 c.first-item.result) c.items-objects.ensures

parts : (c : After-may_be_root) → IsWorld c.args.world.now → Parts c.args.world.now c.first-item.result
parts c = parts_of_world c.args.world.now c.first-item.result (first_at c)

abbrev placed : List WorldObject → Type 0
placed os = ArePlaced (take 1 os) (drop 1 os)

pub returns-then-not-may_be_root : goal.returns-then-not-may_be_root
returns-then-not-may_be_root c = (
  λ e. absurd (cc),
  λ is. let p = parts (goal.at-returns-then-not-may_be_root c).After-may_be_root is in c.if-not-may_be_root.ensures.1 (p.no_names, p.root_body, p.root_label),
)

pub returns-else-are_placed : goal.returns-else-are_placed
returns-else-are_placed c = (
  λ e. absurd (cc (c.if-are_placed.false)),
  λ is. c.are_placed.ensures.1 (subst placed (sym c.items-objects.ensures) (parts (goal.at-returns-else-are_placed c).After-may_be_root is).placed),
)

pub returns-then-are_placed : goal.returns-then-are_placed
returns-then-are_placed c =
    let before = (goal.at-returns-then-are_placed c).After-may_be_root in
    let some : 1 ≤ length c.args.world.now.objects = subst (λ (os : List WorldObject). 1 ≤ length os) c.items-objects.ensures c.in-len1-up.len_at_least in
    let root = c.if-not-may_be_root.ensures.0 refl in (
      λ e.
          let p = c.has_parts.ensures.0 e in
          world_of_parts c.args.world.now c.first-item.result some (first_at before) (record {
            no_names = root.0;
            root_body = root.1;
            root_label = root.2;
            placed = subst placed c.items-objects.ensures (c.if-are_placed.ensures.0 refl);
            objects = p.0;
            procs = p.1;
            room = p.2;
          }),
      λ is. let p = parts before is in c.has_parts.ensures.1 (p.objects, p.procs, p.room),
    )
