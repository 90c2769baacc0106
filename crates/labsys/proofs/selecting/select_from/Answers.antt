use Rattle.std.proofs.Common.{◌∙◌, ap, subst}
use Rattle.aud_red.specs.Select.{parse_select}
use Rattle.lab_engine.specs.Order.{to_out}
use Rattle.lab_engine.specs.Playing.{SendsAll, ends}
use Rattle.labsys.specs.Selecting.{text_of_selection}
use Rattle.labsys.proofs.selecting.select_from.Goals as goal

pub returns-in_ok-write_selected-in-Ok-clause-writes : goal.returns-in_ok-write_selected-in-Ok-clause-writes
returns-in_ok-write_selected-in-Ok-clause-writes g c = λ source t.
    subst (λ x. SendsAll (to_out (text_of_selection c.args.trail.now x)) (ends source (g.K.Sink.view c.args.out.now) t) (ends source (g.K.Sink.view c.write_selected.new.out) t))
    (c.in-Ok.ensures ∙ ap (parse_select c.args.trail.now.policy) c.bytes.ensures) (c.in_ok-write_selected-in-Ok.ensures source t)
