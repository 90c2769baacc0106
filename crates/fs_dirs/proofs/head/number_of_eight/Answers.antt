use Rattle.std.proofs.Common.{◌+◌, ◌-◌, ◌*◌, ◌^◌, ap, drop, sym, ◌∙◌, arith}
use Rattle.fs_dirs.specs.Head.{head}
use Rattle.fs_dirs.proofs.HeadLemmas.{each_is, fits_on, read_all, read_on}
use Rattle.fs_dirs.proofs.head.number_of_eight.Goals as goal

pub loop-place-init : goal.loop-place-init
loop-place-init c = record { so_far = omega arith; bytes = each_is c.args.bytes.now (λ k _. let fits = c.type_inv.bytes k in omega (arith, fits)) }

pub overflow_mul-number : goal.overflow_mul-number
overflow_mul-number c =
    let inv = c.loop-place.invariant in
    let fits = fits_on c.loop-place.number c.loop-place.place c.args.bytes.now inv.bytes c.loop-place-test.true inv.so_far in
    omega (arith, fits)

pub overflow_add-number : goal.overflow_add-number
overflow_add-number c =
    let inv = c.loop-place.invariant in
    let fits = fits_on c.loop-place.number c.loop-place.place c.args.bytes.now inv.bytes c.loop-place-test.true inv.so_far in
    omega (arith, fits)

pub loop-place-preserved : goal.loop-place-preserved
loop-place-preserved c =
    let inv = c.loop-place.invariant in
    let k = c.loop-place.place in
    let bytes = c.args.bytes.now in
    record {
      so_far =
          ap (λ b. (c.loop-place.number * 256 + b) * 256 ^ (8 - (k + 1)) + head (8 - (k + 1)) (drop (k + 1) bytes)) (c.from.ensures ∙ c.byte_at.ensures)
          ∙ sym (read_on c.loop-place.number k bytes c.loop-place-test.true) ∙ inv.so_far;
      bytes = inv.bytes;
    }

pub returns-clause-number : goal.returns-clause-number
returns-clause-number c = read_all c.loop-place.number c.loop-place.place c.args.bytes.now (omega arith) c.loop-place.invariant.so_far
