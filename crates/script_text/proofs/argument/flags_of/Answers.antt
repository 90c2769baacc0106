use Rattle.script_text.proofs.ArgumentLemmas.{flags_taken}
use Rattle.script_text.proofs.argument.flags_of.Goals as goal

pub returns : goal.returns
returns c =
    flags_taken c.args.word.now c.then_some.result c.is_empty.result _ c.then_some.ensures c.is_empty.ensures
    (record { first = c.strip-r.ensures.begins; after = c.strip-r.ensures.rest })
    (record { first = c.strip-w.ensures.begins; after = c.strip-w.ensures.rest })
    (record { first = c.strip-c.ensures.begins; after = c.strip-c.ensures.rest })
    (record { first = c.strip-x.ensures.begins; after = c.strip-x.ensures.rest })
    (record { first = c.strip-t.ensures.begins; after = c.strip-t.ensures.rest })
    (record { first = c.strip-a.ensures.begins; after = c.strip-a.ensures.rest })
