use Rattle.lab_engine.proofs.CopyLemmas.{upgrades_all, upgrades_part}
use Rattle.lab_engine.proofs.upgrading.upgrade_script.Goals as goal

pub returns-in_err-copied : goal.returns-in_err-copied
returns-in_err-copied g c = λ trail. upgrades_part (λ h. g.K.Sink.view h.1) _ trail _ _ _ _ _ _ _ _ c.from_residual.ensures.1 c.in_err-copied.ensures.handles

pub returns : goal.returns
returns g c = λ trail. upgrades_all (λ h. g.K.Sink.view h.1) _ trail _ _ _ _ _ _ _ c.in_ok-copied.ensures.handles
