use Rattle.std.proofs.Common.{◌≡◌, sym, subst}
use Rattle.lab_engine.specs.declared.ending.InputEnd.{InputEnd}
use Rattle.lab_engine.specs.declared.ending.InputEnd.TheVariants.{Whole}
use Rattle.lab_engine.specs.Order.{to_out}
use Rattle.lab_engine.specs.Playing.{Ends, SendsAll}
use Rattle.lab_engine.specs.Viewing.{unless_whole}
use Rattle.lab_engine.proofs.Sending.{all_nothing}
use Rattle.labsys.proofs.viewing.report_unless_whole.Goals as goal

-- a whole input has no such line
nothing_more : (e : InputEnd) → e ≡ Whole → (x : Ends) → SendsAll (to_out (unless_whole e)) x x
unfolding to_out
nothing_more e is x = subst (λ (k : InputEnd). SendsAll (to_out (unless_whole k)) x x) (sym is) (all_nothing x)

pub returns-in-Whole : goal.returns-in-Whole
returns-in-Whole g c = λ source trail. nothing_more _ c.in-Whole.is _
