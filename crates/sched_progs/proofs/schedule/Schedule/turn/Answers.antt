use Rattle.std.specs.Prelude.{◌≡◌, ◌++◌, OnOk, option_to_list}
use Rattle.std.specs.Option.{option_or}
use Rattle.std.proofs.Common.{ap, sym, subst, ◌∙◌}
use Rattle.std.proofs.lemmas.List.{append-nil}
use Rattle.sched_progs.specs.Standings.{first_standing, loop_state}
use Rattle.sched_progs.specs.Turns.{TurnResult, is_above, is_of}
use Rattle.sched_progs.specs.Watching.{SawCalls}
use Rattle.sched_progs.proofs.ScheduleLemmas.{next_there, turn_is, turn_of_next}
use Rattle.sched_progs.proofs.SeenLemmas.{all_seen, none_seen}
use Rattle.sched_progs.proofs.schedule.Schedule.turn.Goals as goal

pub returns-in_default-clause-saw : goal.returns-in_default-clause-saw
returns-in_default-clause-saw g c =
    let standings = c.args.self.now.standings in
    let none = c.in_default.ensures ∙ ap (λ n. option_or (first_standing (is_above c.args.label.now n) standings) (first_standing (is_of c.args.label.now) standings)) c.last_turn-last.ensures in
    let items = ap (λ (t : TurnResult). option_to_list t.item) (turn_is c.args.programs.now (g.C.Calls.state c.args.kernel.now) standings c.args.self.now.last_turns c.args.label.now _ none) in
    all_seen tt _ (g.W.Watch.seen c.args.watch.now) _ _ (sym (append-nil _) ∙ ap (λ items. g.W.Watch.seen c.args.watch.now ++ items) (sym items), c.requires.going)

pub returns-in_default-clause-state : goal.returns-in_default-clause-state
returns-in_default-clause-state g c =
    let standings = c.args.self.now.standings in
    let none = c.in_default.ensures ∙ ap (λ n. option_or (first_standing (is_above c.args.label.now n) standings) (first_standing (is_of c.args.label.now) standings)) c.last_turn-last.ensures in
    ap (λ (t : TurnResult). t.state) (sym (turn_is c.args.programs.now (g.C.Calls.state c.args.kernel.now) standings c.args.self.now.last_turns c.args.label.now _ none))

pub returns-in_err-insert-clause-saw : goal.returns-in_err-insert-clause-saw
returns-in_err-insert-clause-saw g c = none_seen c.from_residual.result _ _ _ _ c.requires.going c.from_residual.ensures.1

pub turn_of-requires-clause-there : goal.turn_of-requires-clause-there
turn_of-requires-clause-there g c =
    next_there c.args.programs.now (g.C.Calls.state c.args.kernel.now) c.args.self.now.standings c.args.self.now.last_turns c.args.label.now c.last_turn-last.result (c.in-Some.who, c.in-Some.standing) (sym c.in-Some.ensures)

pub returns-clause-saw : goal.returns-clause-saw
returns-clause-saw g c =
    let standings = c.args.self.now.standings in
    let some = c.in-Some.ensures ∙ ap (λ n. option_or (first_standing (is_above c.args.label.now n) standings) (first_standing (is_of c.args.label.now) standings)) c.last_turn-last.ensures in
    let turn = turn_of_next c.args.programs.now (g.C.Calls.state c.args.kernel.now) standings c.args.self.now.last_turns c.args.label.now (c.in-Some.who, c.in-Some.standing) c.insert.new.self some c.in_ok-insert.ensures.ok in
    subst (λ (t : TurnResult). SawCalls c.turn_of.result (option_to_list t.item) (g.W.Watch.seen c.args.watch.now) (g.W.Watch.seen c.turn_of.new.watch) (g.W.Watch.refused c.turn_of.new.watch)) (sym turn) c.turn_of.ensures.saw

pub returns-clause-state : goal.returns-clause-state
returns-clause-state g c =
    let standings = c.args.self.now.standings in
    let some = c.in-Some.ensures ∙ ap (λ n. option_or (first_standing (is_above c.args.label.now n) standings) (first_standing (is_of c.args.label.now) standings)) c.last_turn-last.ensures in
    let turn = turn_of_next c.args.programs.now (g.C.Calls.state c.args.kernel.now) standings c.args.self.now.last_turns c.args.label.now (c.in-Some.who, c.in-Some.standing) c.insert.new.self some c.in_ok-insert.ensures.ok in
    subst (λ (t : TurnResult). OnOk c.turn_of.result (loop_state (g.C.Calls.state c.turn_of.new.kernel) c.args.programs.now c.turn_of.new.self.standings c.turn_of.new.self.last_turns ≡ t.state)) (sym turn) c.turn_of.ensures.state
