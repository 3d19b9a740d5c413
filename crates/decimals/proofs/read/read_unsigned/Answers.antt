-- `read_unsigned` meets its contract: few digits and nothing else are what one pass reads, and any other text is read as `read_any` reads it.
use Rattle.std.proofs.Common.{◌≡◌, ℕ, ◌+◌, ◌-◌, true, ◌&&◌, ltb, leb, List, sym, ap, ◌∙◌, arith, ltb-true, leb-true}
use Rattle.scan.proofs.Every.{both}
use Rattle.scan.proofs.Splits.{whole_part}
use Rattle.decimals.specs.Decimal.{unsigned_decimal}
use Rattle.decimals.proofs.Reading.{ran_room, ran_is}
use Rattle.decimals.proofs.read.read_unsigned.Goals as goal

pub few_digits-last-requires : goal.few_digits-last-requires
few_digits-last-requires c = (
  c.fraction_start-from.ensures.within,
  c.if-text-le18.true,
  ran_room c.args.text.now c.few_digits-first.result c.fraction_start-from.result c.few_digits-first.ensures c.fraction_start-from.ensures,
)

pub returns : goal.returns
returns c =
    c.read_any.ensures ∙ ap (λ (s : List ℕ). unsigned_decimal c.args.negative s c.args.digits c.args.decimals) (whole_part c.args.text.now)

pub returns-then-is_within : goal.returns-then-is_within
returns-then-is_within c =
    let q = sym c.is_within.ensures ∙ c.if-is_within.true in
    let s = c.few_digits-last.result.end - c.fraction_start-from.result in
    let n = c.few_digits-first.result.end + s in
    let r : leb n c.args.digits && leb s c.args.decimals ≡ true = (both {a = ltb 0 n} q).1 in
    let some = ltb-true 0 n (both {a = ltb 0 n} {b = leb n c.args.digits && leb s c.args.decimals} q).0 in
    let few = leb-true n c.args.digits (both {a = leb n c.args.digits} {b = leb s c.args.decimals} r).0 in
    let near = leb-true s c.args.decimals (both {a = leb n c.args.digits} {b = leb s c.args.decimals} r).1 in
    ran_is c.args.text.now c.few_digits-first.result c.fraction_start-from.result c.few_digits-first.ensures c.fraction_start-from.ensures c.few_digits-last.result c.few_digits-last.ensures c.args.negative
    c.args.digits c.args.decimals (omega arith) some few near
