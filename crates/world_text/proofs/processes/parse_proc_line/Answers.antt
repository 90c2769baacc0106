use Rattle.std.proofs.Common.{◌∙◌, ap}
use Rattle.std.proofs.lemmas.Result.{IfOk-weaker}
use Rattle.world_text.specs.Processes.{proc_caps_of}
use Rattle.world_text.proofs.WordLemmas.{proc_others, proc_read}
use Rattle.world_text.proofs.processes.parse_proc_line.Goals as goal

pub returns : goal.returns
returns c =
    IfOk-weaker c.parse_proc.result _ _
    (λ fault h. h ∙ proc_read c.args.so_far.now c.args.words.now c.index-words-4.result c.proc_caps_of-caps.result c.if-words-ne5.false (c.proc_caps_of-caps.ensures ∙ ap proc_caps_of c.items.ensures)) c.parse_proc.ensures

pub returns-then-words-ne5 : goal.returns-then-words-ne5
returns-then-words-ne5 c = proc_others c.args.so_far.now c.args.words.now c.if-words-ne5.true
