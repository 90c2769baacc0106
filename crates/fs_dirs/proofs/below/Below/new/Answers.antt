use Rattle.std.proofs.Common.{◌∙◌, inl, inr}
use Rattle.fs_dirs.specs.Entries.{entries_alone}
use Rattle.fs_dirs.proofs.BelowLemmas.{all_due, unless_err}
use Rattle.fs_dirs.proofs.below.Below.new.Goals as goal

pub returns : goal.returns
returns c id lies other =
    let s = entries_alone c.args.entries.now in
    elim (unless_err c.enter.result c.enter.ensures.due) [
      | inl err ↦ inl (c.is_ok.ensures.value ∙ err)
      | inr made ↦ inr (all_due s c.new.result.items c.enter.new.self.due.items c.args.top.now c.len.result id c.len.ensures other made (inr lies))
    ]
