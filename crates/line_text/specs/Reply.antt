-- The lines of replies.
use Rattle.std.specs.Prelude.{ℕ, List, [], ◌∷◌, ◌++◌, map, None, Some, codes}
use Rattle.std.specs.Fmt.{decimal}
use Rattle.fs_path.specs.Values.{mode_text, groups_text}
use Rattle.fs_path.specs.Words.{quoted_text, line_text}
use Rattle.kern_model.specs.declared.calls.Answer.{Answer}
use Rattle.kern_model.specs.declared.calls.Answer.TheVariants as answer
use Rattle.kern_model.specs.declared.calls.Reply.{Reply}
use Rattle.kern_model.specs.declared.calls.Reply.TheVariants as reply
use Rattle.kern_model.specs.declared.numbers.Ids.{Ids}
use Rattle.kern_model.specs.declared.numbers.Pid.{Pid}
use Rattle.kern_model.specs.declared.objects.StatAnswer.{StatAnswer}
use Rattle.kern_model.specs.Names.{check_word, ending_text, errno_word, kind_word, place_text}
use Rattle.lab_text.specs.Policy.{PolicyNames}
use Rattle.lab_text.specs.Text.{label_text}
use Rattle.line_text.specs.Words.{pid_text, oid_text, caps_word}

-- the answer to `stat`: kind, mode, owner, group, size, names, number and label
abbrev pub stat_words : PolicyNames → StatAnswer → List (List ℕ)
stat_words policy s =
    kind_word s.kind ∷ mode_text s.mode ∷ decimal s.owner ∷ decimal s.group ∷ decimal s.size ∷ decimal s.names
    ∷ oid_text policy s.id ∷ label_text policy s.label ∷ []

-- real, effective and saved user, then group, and the supplementary groups
abbrev pub ids_words : Ids → List (List ℕ)
ids_words ids =
    decimal ids.ruid ∷ decimal ids.euid ∷ decimal ids.suid ∷ decimal ids.rgid ∷ decimal ids.egid ∷ decimal ids.sgid
    ∷ groups_text ids.groups ∷ []

-- the words of an answer
unfoldable pub answer_words : PolicyNames → Answer → List (List ℕ)
answer_words policy answer.Nothing = []
answer_words policy (answer.Number n) = decimal n ∷ []
answer_words policy (answer.Two m n) = decimal m ∷ decimal n ∷ []
answer_words policy (answer.Bytes bytes) = quoted_text bytes ∷ []
answer_words policy (answer.Names names) = map quoted_text names
answer_words policy (answer.Stat s) = stat_words policy s
answer_words policy (answer.Bits mode) = mode_text mode ∷ []
answer_words policy (answer.Caps caps) = caps_word caps ∷ []
answer_words policy (answer.Mark label) = label_text policy label ∷ []
answer_words policy (answer.Process who) = pid_text policy who ∷ []
answer_words policy (answer.Parent None) = codes "none" ∷ []
answer_words policy (answer.Parent (Some who)) = pid_text policy who ∷ []
answer_words policy (answer.Ids ids) = ids_words ids
answer_words policy (answer.Ended who ending) = pid_text policy who ∷ ending_text ending ∷ []

-- the words of a reply: `ok` and the answer, or the errno, with check and place where a check denied the call
unfoldable pub outcome_words : PolicyNames → Reply → List (List ℕ)
outcome_words policy (reply.Done answer) = codes "ok" ∷ answer_words policy answer
outcome_words policy (reply.Denied errno check place) = errno_word errno ∷ check_word check ∷ place_text place ∷ []
outcome_words policy (reply.Refused errno) = errno_word errno ∷ []

-- the reply line: the tag, the head, which is the word of the call or a tool and its path, and the words of the reply
unfoldable pub reply_line : PolicyNames → Pid → List ℕ → Reply → List ℕ
reply_line policy who head reply = line_text (pid_text policy who ∷ head ∷ outcome_words policy reply) ++ 10 ∷ []

-- ---- word by word

-- a text with further words, each after a space
abbrev pub with_words : List ℕ → List (List ℕ) → List ℕ
with_words text [] = text
with_words text (word ∷ words) = with_words (text ++ 32 ∷ word) words
