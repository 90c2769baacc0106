use Rattle.std.proofs.Common.{◌≡◌, map, drop}
use Rattle.fs_path.specs.Words.{quoted_text}
use Rattle.line_text.specs.Reply.{with_words}
use Rattle.line_text.proofs.reply.put_names.Given as goal

-- the text, continued by the names that are left, is what has to be written
abbrev pub invariant-loop-name : goal.invariant-loop-name
invariant-loop-name l = with_words l.line (map quoted_text (drop l.name-index l.names)) ≡ with_words l.fn.line (map quoted_text l.names)
