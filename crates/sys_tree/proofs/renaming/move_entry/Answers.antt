use Rattle.std.specs.FinMap as map
use Rattle.std.proofs.Common.{◌≡◌, ◌∙◌, Err, Result, ap, refl, subst, sym}
use Rattle.std.proofs.lemmas.Bool.{false_from_ne_true}
use Rattle.fs_path.specs.Name.{Name}
use Rattle.kern_model.specs.declared.numbers.Oid.{Oid}
use Rattle.kern_model.specs.Entries.{is_removed}
use Rattle.kern_model.specs.Row.{Row}
use Rattle.kern_model.specs.State.{State, look}
use Rattle.kern_model.specs.TreeRows.{move_row}
use Rattle.chk_rules.specs.CheckLog.{CheckLog}
use Rattle.chk_rules.specs.declared.stop.Stop.{Stop}
use Rattle.fs_dirs.specs.Tree.{state_of_tree, would_loop}
use Rattle.sys_lookup.specs.declared.effect.Effect.{Effect}
use Rattle.sys_lookup.specs.PlaysRow.{PlaysRow}
use Rattle.sys_lookup.proofs.PlayLemmas.{commits_as, no_memory_row, refuse_plays, refuse_stops_row}
use Rattle.sys_lookup.proofs.RefuseLemmas.{lets_on, refuses}
use Rattle.sys_tree.proofs.EntryLemmas.{entries_changed, loops_same}
use Rattle.sys_tree.proofs.renaming.move_entry.Goals.{in-Ok, in-Err-Loop, in-Err-Removed, in-Err-NoMemory}
use Rattle.sys_tree.proofs.renaming.move_entry.Goals as goal

-- equal names have the same row
named : {s t : State} {log : CheckLog} {r : Result Effect Stop} {dir id into : Oid} {a b x y : Name} → a ≡ b → x ≡ y → PlaysRow s log (move_row s dir a id into x) r t log → PlaysRow s log (move_row s dir b id into y) r t log
named {s = s} {t = t} {log = log} {r = r} {dir = dir} {id = id} {into = into} {b = b} {x = x} old new plays =
    subst (λ (n : Name). PlaysRow s log (move_row s dir b id into n) r t log) new (subst (λ (n : Name). PlaysRow s log (move_row s dir n id into x) r t log) old plays)

-- an equal result plays the same row
equal_result : {s t : State} {log : CheckLog} {row : Row} {r r' : Result Effect Stop} → r' ≡ r → PlaysRow s log row r t log → PlaysRow s log row r' t log
equal_result {s = s} {t = t} {log = log} {row = row} same plays = subst (λ x. PlaysRow s log row x t log) (sym same) plays

pub returns : goal.returns
returns c = λ id log at.
    let h = c.shared.inside in
    let is = c.shared.view_is in
    let into = c.args.into.now in
    let name = c.name.result.now in
    let new = c.name-2.result.now in
    let leads = ap (λ (s : State). look s c.args.dir.now name) is ∙ ap (λ (n : Name). look c.args.shared.now c.args.dir.now n) c.name.ensures ∙ at in
    let loops = loops_same h is id into in
    let gone = ap (λ (s : State). is_removed s into) (sym is) in
    named c.name.ensures c.name-2.ensures (elim c.match-move_entry.branch [
      | in-Ok w ↦
          let apart = false_from_ne_true (would_loop (state_of_tree h.tree) id into) (λ e. let no = (w.in-Ok.ensures.loops id leads).1 e in cc) in
          let stands = false_from_ne_true (is_removed (state_of_tree h.tree) into) (λ e. let no = (w.in-Ok.ensures.removed id leads).1 (apart, e) in cc) in
          equal_result w.result-is
          (refuse_plays (lets_on (loops ∙ apart))
          (refuse_plays (lets_on (gone ∙ stands))
          (commits_as w.done.ensures (entries_changed h is (λ m. map.insert (map.remove m (c.args.dir.now, name)) (into, new) id) (w.in-Ok.ensures.moved id leads)))))
      | in-Err-Loop w ↦
          equal_result w.result-is
          (refuse_stops_row _ refl (entries_changed h is (λ m. m) w.in-Err-Loop.ensures.err) (refuses (loops ∙ (w.in-Err-Loop.ensures.loops id leads).0 (ap Err w.in-Err-Loop.field-0-is))))
      | in-Err-Removed w ↦
          let both = (w.in-Err-Removed.ensures.removed id leads).0 (ap Err w.in-Err-Removed.field-0-is) in
          equal_result w.result-is
          (refuse_plays (lets_on (loops ∙ both.0))
          (refuse_stops_row _ refl (entries_changed h is (λ m. m) w.in-Err-Removed.ensures.err) (refuses (gone ∙ both.1))))
      | in-Err-NoMemory w ↦ equal_result w.result-is (no_memory_row _ refl)
    ])
