-- Tables that are cleared. Assumes nothing.
--     zero_lengths, tells_long   they keep their lengths
--     cleared-end                a table of which nothing stands after what was cleared
use Prim.Native.Nat.{ℕ, ◌+◌, ◌-◌}
use mathlib.Core.Path.{◌≡◌, ap, ◌∙◌, subst}
use mathlib.Core.Bool.{Bool}
use mathlib.Core.List.{List, ◌++◌}
use native.Mathlib.Omega.{arith}
use lib.ListN.{length, take, drop, replicate, length-replicate, replicate-append-replicate}
use lib.Seq.{length-take-le}
use Rattle.track.specs.Tables.{Tables, Lengths, lengths}
use Rattle.promised.proofs.Promises.{RestLong, RestZero}
use Rattle.blank.specs.Steps.{Tells, BlankFrom}

pub zero_lengths : {n : Lengths} {T : Tables} → RestZero n T → length T.strings ≡ n.strings → lengths T ≡ n
zero_lengths z e =
    rw (z.head, z.params, z.styles, z.regions, z.cues, z.times, z.segments, z.sizes, z.extras, e, z.texts)
    (simp length-replicate)

pub tells_long : {n : Lengths} {T : Tables} (r : Bool) → RestZero n T → length T.strings ≡ n.strings → Tells (RestLong (lengths T)) r
    → Tells (RestLong n) r
tells_long r z e h = subst (λ (k : Lengths). Tells (RestLong k) r) (zero_lengths z e) h

-- cleared so far, all is
pub cleared-end : (t : List ℕ) (k : ℕ) {w : List ℕ} → BlankFrom k t → w ≡ replicate (length (take k t)) 0
    → w ++ drop k t ≡ replicate (length t) 0
cleared-end t k {w} b e =
    let all : length (take k t) + (length t - k) ≡ length t = omega (arith, length-take-le k t b.0, b.0) in
    ap (λ (l : List ℕ). l ++ drop k t) e ∙ ap (λ (l : List ℕ). replicate (length (take k t)) 0 ++ l) b.1
    ∙ replicate-append-replicate (length (take k t)) (length t - k) 0 ∙ ap (λ (i : ℕ). replicate i 0) all
