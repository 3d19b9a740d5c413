use Prim.Native.Nat.{ℕ, ◌-◌, ◌+◌, ◌<◌}
use mathlib.Core.Path.{◌≡◌, refl, sym, ap, ◌∙◌}
use mathlib.Core.List.{List}
use native.Mathlib.Omega.{arith}
use lib.ListN.{length, get_or, take}
use lib.Seq.{length-take-le}
use borrow.Author.Rules.{rules}
use Rattle.utf8.specs.Steps.{white_at, ends_with, white_before}
use Rattle.utf8.proofs.Utf8Laws.{last-byte}
use Rattle.utf8.proofs.WhiteLaws.{white_at-space, ends_with_here, ends_with_on, ends_with_short, ends_with_out}
use Rattle.scan.proofs.Splits.{whole_part}
use Rattle.utf8.proofs.Trimming.{before-visible, before-is}
use Rattle.utf8.proofs.white.white_before.Goals as goal

pub returns-then-last-lt128 : goal.returns-then-last-lt128
returns-then-last-lt128 c =
    let some = length-take-le c.args.end c.args.src.now c.requires in
    let last = last-byte c.args.src.now c.args.end (omega arith) c.requires in
    let byte : ℕ = get_or (take c.args.end c.args.src.now) (length (take c.args.end c.args.src.now) - 1) 0 in
    let low : 0x20 < byte = search rules in
    let high : byte < 0x80 = search rules in
    record {
      is = sym (before-visible c.args.src.now c.args.end (omega arith) c.requires (omega arith) (omega arith));
      back = search rules;
    }

pub returns-then-last-eq32 : goal.returns-then-last-eq32
returns-then-last-eq32 c =
    let s = c.args.src.now in
    let some = length-take-le c.args.end s c.requires in
    let last = last-byte s c.args.end (omega arith) c.requires in
    let space = white_at-space s (c.args.end - 1) (omega arith) (omega arith) in
    record { is = sym (before-is s c.args.end 1 (omega arith) (omega arith) c.requires space); back = omega arith }

pub loop-k-init : goal.loop-k-init
unfolding ends_with white_before
loop-k-init c =
    refl

pub returns-then-end-k : goal.returns-then-end-k
returns-then-end-k c =
    record { is = sym (c.loop-k.invariant ∙ ends_with_short c.args.src.now _ _ _ c.if-end-k.true); back = search rules }

pub any_white_at-requires : goal.any_white_at-requires
any_white_at-requires c =
    rw (whole_part c.args.src.now) (omega arith)

pub returns-then-any_white_at-k : goal.returns-then-any_white_at-k
returns-then-any_white_at-k c =
    let s = c.args.src.now in
    let at : ℕ = c.args.end - c.loop-k.k in
    let here = sym (c.any_white_at.ensures.is ∙ ap (λ (l : List ℕ). white_at l at) (whole_part s)) ∙ c.if-any_white_at-k.true in
    record { is = sym (c.loop-k.invariant ∙ ends_with_here s _ _ _ (omega arith) (omega arith) here); back = search rules }

pub loop-k-preserved : goal.loop-k-preserved
loop-k-preserved c =
    let s = c.args.src.now in
    let at : ℕ = c.args.end - c.loop-k.k in
    let m : 5 - c.loop-k.k - 1 ≡ 5 - (c.loop-k.k + 1) = omega arith in
    let is = c.any_white_at.ensures.is ∙ ap (λ (l : List ℕ). white_at l at) (whole_part s) in
    let on = ends_with_on s c.args.end c.loop-k.k (5 - c.loop-k.k) (omega arith) (λ z. c.if-any_white_at-k.false (is ∙ z)) in
    c.loop-k.invariant ∙ (on ∙ rw m)

pub returns : goal.returns
returns c =
    record { is = sym (c.loop-k.invariant ∙ ends_with_out c.args.src.now _ _ _ (omega arith)); back = search rules }
