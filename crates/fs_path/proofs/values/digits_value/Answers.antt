use Rattle.std.proofs.Common.{◌+◌, ◌*◌, ◌-◌, drop, sym, ◌∙◌}
use Rattle.fs_path.proofs.ValueLemmas.{within_step, within_all, within_over}
use Rattle.fs_path.proofs.values.digits_value.Goals as goal

pub returns-then-value-high : goal.returns-then-value-high
returns-then-value-high c =
    let h = c.if-value-high.true in
    sym (c.loop-byte.invariant.0
    ∙ within_step c.args.base c.args.high c.loop-byte.value c.loop-byte.byte-index c.from-digit.result c.args.word.now c.loop-byte-test.true c.from-digit.ensures c.if-digit-lt48.false c.if-digit-base.false
    ∙ within_over c.args.base c.args.high (c.args.base * c.loop-byte.value + (c.from-digit.result - 48)) (drop (c.loop-byte.byte-index + 1) c.args.word.now) c.requires.some_base h)

pub loop-byte-preserved : goal.loop-byte-preserved
loop-byte-preserved c = (
  c.loop-byte.invariant.0
      ∙ within_step c.args.base c.args.high c.loop-byte.value c.loop-byte.byte-index c.from-digit.result c.args.word.now c.loop-byte-test.true c.from-digit.ensures c.if-digit-lt48.false c.if-digit-base.false,
  c.if-value-high.false,
)

pub returns : goal.returns
returns c = sym (c.loop-byte.invariant.0 ∙ within_all c.args.base c.args.high c.loop-byte.value c.loop-byte.byte-index c.args.word.now c.loop-byte-test.false c.loop-byte.invariant.1)
