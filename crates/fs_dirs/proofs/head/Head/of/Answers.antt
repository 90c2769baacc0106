use Rattle.std.proofs.Common.{◌≡◌, ◌+◌, ◌-◌, ◌*◌, ◌^◌, ap, arith, drop, length, ◌∙◌, sym, subst, true}
use Rattle.std.proofs.lemmas.List.{length-drop, take_all}
use Rattle.fs_dirs.specs.Head.{are_bytes, head}
use Rattle.fs_dirs.proofs.HeadLemmas.{head_split, no_second}
use Rattle.fs_dirs.proofs.head.Head.of.Goals as goal
use Rattle.fs_dirs.proofs.head.Head.of.Goals.{then-bytes-le-NUMBER_BYTES, else-bytes-le-NUMBER_BYTES}

pub returns-clause-head : goal.returns-clause-head
returns-clause-head c =
    let bytes = c.bytes-bytes.result.now in
    let name = c.args.name.now in
    let second : c.if-bytes-le-NUMBER_BYTES.second ≡ head 8 (drop 8 bytes) = elim c.if-bytes-le-NUMBER_BYTES.branch [
      | then-bytes-le-NUMBER_BYTES w ↦ w.second-is ∙ sym (no_second bytes w.if-bytes-le-NUMBER_BYTES.true)
      | else-bytes-le-NUMBER_BYTES w ↦
          let after : length (drop 8 bytes) ≡ length bytes - 8 = length-drop 8 bytes in
          w.second-is ∙ w.number_of_eight-second.ensures.number ∙ ap (head 8) (take_all (length bytes - 8) (drop 8 bytes) (omega (arith, after)))
    ] in
    let of_first : c.number_of_eight.result ≡ head 8 name = c.number_of_eight.ensures.number ∙ ap (head 8) c.bytes-bytes.ensures.bytes in
    let of_second : c.if-bytes-le-NUMBER_BYTES.second ≡ head 8 (drop 8 name) = second ∙ ap (λ b. head 8 (drop 8 b)) c.bytes-bytes.ensures.bytes in
    ap (λ n. n * 2 ^ 64 + c.if-bytes-le-NUMBER_BYTES.second) of_first ∙ ap (λ n. head 8 name * 2 ^ 64 + n) of_second ∙ sym (head_split 8 8 name)

pub returns-clause-bytes : goal.returns-clause-bytes
returns-clause-bytes c = subst (λ bytes. are_bytes bytes ≡ true) c.bytes-bytes.ensures.bytes c.number_of_eight.ensures.bytes
