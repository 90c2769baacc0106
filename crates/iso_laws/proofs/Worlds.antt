-- Runs of whole worlds: each beside its part, and two with the same part.
use Rattle.std.specs.Prelude.{◌≡◌, true, List, take}
use Rattle.std.proofs.Common.{sym, ◌∙◌, ap, subst}
use Rattle.lab_lattice.specs.Label.{Label}
use Rattle.kern_model.specs.declared.world.World.{World}
use Rattle.kern_model.specs.declared.world.ScriptItem.{ScriptItem}
use Rattle.kern_model.specs.Arguments.{is_script}
use Rattle.kern_model.specs.Boot.{boot}
use Rattle.kern_model.specs.Run.{run}
use Rattle.kern_model.specs.Isolation.{part, part_script, answers, all_answers, alone, up_to}
use Rattle.kern_model.specs.Prefixes.{IsPrefix}
use Rattle.iso_laws.specs.Laws.{IsolatedPrefix, IsolatedWhole, IsolatedEnd, IsolatedInside, TwoWorldsAgree, TwoWorldsSame}
use Rattle.iso_laws.proofs.PrefixLemmas.{prefixes_agree}
use Rattle.iso_laws.proofs.Runs.{ends_alone, prefix_alone, whole_alone}
use Rattle.iso_laws.proofs.Booting.{kept_boot, top_boot}
use Rattle.iso_laws.proofs.ValidBoot.{valid_boot}

-- a script that may be played on a world may be played on its first state
on_first : (w : World) (items : List ScriptItem) → is_script w.top items ≡ true → is_script (boot w).top items ≡ true
on_first w items args = ap (λ top. is_script top items) (top_boot w) ∙ args

pub isolated_prefix : IsolatedPrefix
isolated_prefix l w items m is args = prefix_alone l items m (boot w) (on_first w items args) (valid_boot w is) (kept_boot l w)

pub isolated_whole : IsolatedWhole
isolated_whole l w items is args none = whole_alone l items (boot w) (on_first w items args) (valid_boot w is) (kept_boot l w) none

pub isolated_end : IsolatedEnd
isolated_end l w items is args none = let ends = ends_alone l items (boot w) (on_first w items args) (valid_boot w is) (kept_boot l w) none in (ends.kept, ends.same)

pub isolated_inside : IsolatedInside
isolated_inside l w items is args none = (ends_alone l items (boot w) (on_first w items args) (valid_boot w is) (kept_boot l w) none).inside

-- worlds and scripts with equal parts have the same answers alone
same_alone : (l : Label) (w v : World) (is js : List ScriptItem) → part l (boot w) ≡ part l (boot v) → part_script l is ≡ part_script l js → alone l w is ≡ alone l v js
same_alone l w v is js same same_script = λ i. all_answers (run (same i) (same_script i))

pub two_worlds_agree : TwoWorldsAgree
two_worlds_agree l w v is js m n is_w is_v args args' same same_script = prefixes_agree _ _ (alone l v js)
    (subst (IsPrefix (answers l (take m (up_to l (run (boot w) is))))) (same_alone l w v is js same same_script) (isolated_prefix l w is m is_w args))
    (isolated_prefix l v js n is_v args')

pub two_worlds_same : TwoWorldsSame
two_worlds_same l w v is js is_w is_v args args' same same_script none none' =
    isolated_whole l w is is_w args none ∙ same_alone l w v is js same same_script ∙ sym (isolated_whole l v js is_v args' none')
