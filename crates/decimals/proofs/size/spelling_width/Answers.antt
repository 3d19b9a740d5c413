-- `spelling_width` meets its contract: the lengths of the spelling's pieces.
use Rattle.std.proofs.Common.{ℕ, ◌∙◌, ◌≡◌, ◌/◌, ◌≤◌, Bool, true, false, length, arith}
use Rattle.std.specs.Int.{from_bool}
use native.Mathlib.Nat.{one-le-pow}
use Rattle.numerals.specs.Written.{decimal_width}
use Rattle.numerals.proofs.Writing.{width_few}
use Rattle.decimals.proofs.Sizes.{lead, long_whole, long_parts}
use Rattle.decimals.proofs.size.spelling_width.Goals as goal

sign : (minus : Bool) {r : ℕ} → r ≡ from_bool minus → (r ≡ length (lead minus)) × (r ≤ 1)
sign true e = (omega arith, omega arith)
sign false e = (omega arith, omega arith)

wide : (n : ℕ) {p q r : ℕ} → p ≡ q → r ≡ decimal_width (n / p) → (r ≡ decimal_width (n / q)) × (r ≤ 20)
wide n e h = (h ∙ rw e, rw h (width_few _))

pub nonzero_div-s : goal.nonzero_div-s
nonzero_div-s c =
    rw c.pow.ensures (one-le-pow c.args.s.scale 10 (omega arith))

pub overflow_add-result : goal.overflow_add-result
overflow_add-result c =
    let w = wide _ c.pow.ensures c.decimal_width-whole.ensures in
    omega (arith, sign _ c.from-sign.ensures)

pub returns-then-s-eq0 : goal.returns-then-s-eq0
returns-then-s-eq0 c =
    let w = wide _ c.pow.ensures c.decimal_width-whole.ensures in
    let s = c.args.s in
    omega (arith, (sign _ c.from-sign.ensures).0, w.0, long_whole s.negative s.digits s.scale c.if-s-eq0.true)

pub overflow_add-result-2 : goal.overflow_add-result-2
overflow_add-result-2 c =
    let w = wide _ c.pow.ensures c.decimal_width-whole.ensures in
    omega (arith, sign _ c.from-sign.ensures)

pub overflow_add-result-3 : goal.overflow_add-result-3
overflow_add-result-3 c =
    let w = wide _ c.pow.ensures c.decimal_width-whole.ensures in
    omega (arith, sign _ c.from-sign.ensures)

pub overflow_add-result-4 : goal.overflow_add-result-4
overflow_add-result-4 c =
    let w = wide _ c.pow.ensures c.decimal_width-whole.ensures in
    omega (arith, sign _ c.from-sign.ensures)

pub returns : goal.returns
returns c =
    let w = wide _ c.pow.ensures c.decimal_width-whole.ensures in
    let s = c.args.s in
    omega (arith, (sign _ c.from-sign.ensures).0, w.0, long_parts s.negative s.digits s.scale c.if-s-eq0.false)
