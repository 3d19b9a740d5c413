-- Laws of clock times as they are written: how long they are, and one field laid after another. Assumes nothing.
use Prim.Native.Nat.{ℕ, ◌+◌, ◌/◌, ◌%◌, ◌≤◌}
use mathlib.Core.Path.{◌≡◌, refl, sym}
use mathlib.Core.List.{List}
use native.Mathlib.Omega.{arith}
use native.Mathlib.Nat.{max-le}
use lib.IntN.{ℤ}
use lib.ListN.{length, set, length-append}
use Rattle.scan.specs.Posts.{Appended}
use Rattle.scan.proofs.Stores.{appended_on}
use Rattle.numerals.specs.Written.{padded}
use Rattle.numerals.proofs.Writing.{padded-length, width_few}
use Rattle.times.specs.Written.{millis, field, hours_width, clock_of_millis, clock_text}

pub hours_few : (h : ℕ) → hours_width h ≤ 20
unfolding hours_width
hours_few h = max-le (omega arith) (width_few h)

pub field-length : (w n mark : ℕ) → length (field w n mark) ≡ w + 1
unfolding field
field-length w n mark = simp length-append (omega (arith, padded-length 10 w n))

pub clock-length : (t : ℕ) → length (clock_of_millis t) ≡ hours_width (t / 3600000) + 10
unfolding clock_of_millis
clock-length t =
    let h = padded-length 10 (hours_width (t / 3600000)) (t / 3600000) in
    let m = padded-length 10 2 (t / 60000 % 60) in
    let s = padded-length 10 2 (t / 1000 % 60) in
    let f = padded-length 10 3 (t % 1000) in
    simp length-append (omega arith)

pub text-length : (z : ℤ) (t : ℕ) → t ≡ millis z → length (clock_text z) ≡ hours_width (t / 3600000) + 10
unfolding clock_text
text-length z t e = rw (sym e) (clock-length t)

-- ---- one piece after another
pub field-laid : (w k mark : ℕ) (t t' : List ℕ) (at n : ℕ) → Appended (padded 10 w k) at t t' n → n + 1 ≤ length t → length t' ≡ length t
    → Appended (field w k mark) at t (set t' n mark) (n + 1)
unfolding field
field-laid w k mark t t' at n p h l =
    appended_on p (record { next = refl; within = omega arith; laid = refl })

-- hours, minutes, seconds and the rest, each where the one before ends
pub clock-laid : (z : ℤ) (ms : ℕ) → ms ≡ millis z → (t t₁ t₂ t₃ t₄ : List ℕ) (at w n₁ n₂ n₃ n₄ : ℕ)
    → w ≡ hours_width (ms / 3600000)
    → Appended (field w (ms / 3600000) 58) at t t₁ n₁ → length t₁ ≡ length t
    → Appended (field 2 (ms / 60000 % 60) 58) n₁ t₁ t₂ n₂ → length t₂ ≡ length t
    → Appended (field 2 (ms / 1000 % 60) 46) n₂ t₂ t₃ n₃ → length t₃ ≡ length t
    → Appended (padded 10 3 (ms % 1000)) n₃ t₃ t₄ n₄
    → Appended (clock_text z) at t t₄ n₄
unfolding clock_text clock_of_millis
clock-laid z ms e t t₁ t₂ t₃ t₄ at w n₁ n₂ n₃ n₄ ew a l b m c n d =
    rw (sym e, sym ew)
    (appended_on (appended_on (appended_on a b) c) d)
