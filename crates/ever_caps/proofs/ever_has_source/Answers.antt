use Rattle.ever_caps.proofs.Sources.{ever_has_source}
use Rattle.ever_caps.proofs.ever_has_source.Goals as goal

pub returns : goal.returns
returns c = ever_has_source
