-- `limit` meets its contract: both rows of digits are counted as one.
use Rattle.std.proofs.Common.{◌-◌, ◌++◌, length, take, drop, sym, arith}
use Rattle.decimals.specs.Steps.{Counted}
use Rattle.decimals.proofs.Reading.{limited-far, limited-long, limited-is, room-before, both_read}
use Rattle.decimals.proofs.read.limit.Goals as goal

pub returns-then-decimals-scale : goal.returns-then-decimals-scale
returns-then-decimals-scale c =
    sym (limited-far c.args.negative _ (length c.args.text.now - c.args.from) c.args.digits c.args.decimals (omega arith))

pub count_digits-requires : goal.count_digits-requires
count_digits-requires c =
    room-before c.args.text.now c.args.whole c.args.from c.requires.0 (omega arith)

pub returns-then-digits-count : goal.returns-then-digits-count
returns-then-digits-count c =
    let both : Counted (take c.args.whole c.args.text.now ++ drop c.args.from c.args.text.now) c.count_digits-count.result =
    both_read c.args.text.now c.args.whole c.args.from c.requires.0 c.count_digits.result c.count_digits-count.result
    c.count_digits.ensures c.count_digits-count.ensures in
    sym (limited-long c.args.negative (take c.args.whole c.args.text.now ++ drop c.args.from c.args.text.now) (length c.args.text.now - c.args.from)
    c.args.digits c.args.decimals (omega (arith, both.count)))

pub returns : goal.returns
returns c =
    let both : Counted (take c.args.whole c.args.text.now ++ drop c.args.from c.args.text.now) c.count_digits-count.result =
    both_read c.args.text.now c.args.whole c.args.from c.requires.0 c.count_digits.result c.count_digits-count.result
    c.count_digits.ensures c.count_digits-count.ensures in
    rw (both.value_of (omega arith))
    (sym (limited-is c.args.negative (take c.args.whole c.args.text.now ++ drop c.args.from c.args.text.now) (length c.args.text.now - c.args.from)
    c.args.digits c.args.decimals (omega (arith, both.count)) (omega arith)))
