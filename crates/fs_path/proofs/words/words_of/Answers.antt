use Rattle.std.proofs.Common.{◌≡◌, ◌↔◌, ◌∙◌, List, Option, Some, None, arith, ap, length, rules, subst}
use Rattle.fs_path.proofs.FormLemmas.{words_exact}
use Rattle.fs_path.proofs.WordLemmas.{words_init, words_step}
use Rattle.fs_path.proofs.WordSteps.{word_shorter, past_shorter}
use Rattle.fs_path.specs.declared.words.LineWord.{LineWord}
use Rattle.fs_path.specs.LineForm.{HasWords}
use Rattle.fs_path.specs.Words.{words_of}
use Rattle.fs_path.proofs.words.words_of.Goals as goal

pub loop-left-init : goal.loop-left-init
loop-left-init c = words_init c.args.line.now c.trim_spaces-left.result.now _ c.in_ok-words.ensures c.trim_spaces-left.ensures

pub loop-left-smaller : goal.loop-left-smaller
loop-left-smaller c =
    let short = word_shorter c.loop-left.left.now c.in-Some.rest.now c.in-Some.word (rw c.in-Some.is at c.in_ok-word.ensures) in
    let past = past_shorter c.in-Some.rest.now in
    let len = ap length c.trim_spaces-left-in-loop-left.ensures in
    omega arith

pub loop-left-preserved : goal.loop-left-preserved
loop-left-preserved c =
    c.loop-left.invariant
    ∙ words_step c.loop-left.left.now c.in-Some.rest.now c.trim_spaces-left-in-loop-left.result.now c.in-Some.word c.loop-left.words c.push.new.self (rw c.in-Some.is at c.in_ok-word.ensures) c.in_ok-push.ensures.ok c.trim_spaces-left-in-loop-left.ensures

pub returns-in_default-clause-exact : goal.returns-in_default-clause-exact
returns-in_default-clause-exact c words =
    let parsed : words_of c.args.line.now ≡ None = search rules in
    subst (λ (o : Option (List LineWord)). (o ≡ Some words) ↔ HasWords c.args.line.now words) parsed (words_exact c.args.line.now words)

pub returns-clause-exact : goal.returns-clause-exact
returns-clause-exact c words =
    let parsed : words_of c.args.line.now ≡ Some c.loop-left.words = search rules in
    subst (λ (o : Option (List LineWord)). (o ≡ Some words) ↔ HasWords c.args.line.now words) parsed (words_exact c.args.line.now words)
