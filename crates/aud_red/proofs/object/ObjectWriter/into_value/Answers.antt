use Rattle.std.proofs.Common.{ap, ◌∙◌}
use Rattle.serde_json.specs.Data.{object}
use Rattle.serde_json.specs.View.{members_view}
use Rattle.serde_json.proofs.Views.{view-Object}
use Rattle.aud_red.proofs.object.ObjectWriter.into_value.Goals as goal

pub returns-clause-value : goal.returns-clause-value
returns-clause-value c = view-Object c.self.inside.members ∙ ap (λ members. object (members_view members)) c.self.view_is
