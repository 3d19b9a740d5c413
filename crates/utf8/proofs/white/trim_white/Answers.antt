-- `trim_white` answers the part that is left when white space is trimmed, which is empty where the two ends meet.
use mathlib.Core.Path.{◌≡◌}
use Prim.Native.Nat.{ℕ}
use native.Mathlib.Omega.{arith}
use lib.Dec.{ltb}
use borrow.Author.Tests.{ltb-true, ltb-false}
use Rattle.scan.proofs.Every.{by-test}
use Rattle.utf8.proofs.Trimming.{trimmed-some, trimmed-empty}
use Rattle.utf8.proofs.white.trim_white.Goals as goal

pub returns : goal.returns
returns c =
    let start : ℕ = c.white_end-start.result in
    let end : ℕ = c.white_start-end.result in
    by-test (ltb end start)
    (λ t.
    let met : c.max.result ≡ start = omega (arith, ltb-true end start t) in
    rw met (trimmed-empty c.args.src.now _ _ c.white_end-start.ensures c.white_start-end.ensures.0 (omega (arith, ltb-true end start t))))
    (λ t.
    let apart : c.max.result ≡ end = omega (arith, ltb-false end start t) in
    rw apart (trimmed-some c.args.src.now _ _ c.white_end-start.ensures c.white_start-end.ensures.0 (omega (arith, ltb-false end start t))))
