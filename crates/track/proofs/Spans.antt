-- Laws of strings as places and lengths in a table of bytes. Assumes nothing.
--     span-within            a string does
--     every-run, every-is    every byte is in a class where the run of the class has the length
use Prim.Native.Nat.{ℕ, suc, ◌+◌, ◌-◌, ◌≤◌}
use mathlib.Core.Path.{◌≡◌, refl, sym}
use mathlib.Core.Bool.{Bool, true, false, true≢false}
use mathlib.Core.List.{List, [], ◌∷◌}
use native.Mathlib.Omega.{arith}
use native.Mathlib.Nat.{zero-add}
use lib.ListN.{length, take, drop, length-drop}
use lib.Seq.{length-take-le}
use lib.Dec.{leb, eqb, eqb-zero-suc, eqb-suc-suc}
use borrow.Author.Tests.{leb-true}
use Rattle.scan.specs.Part.{part, string_at}
use Rattle.scan.specs.Bytes.{run_length_of}
use Rattle.scan.specs.Every.{every}
use Rattle.scan.specs.Posts.{Ends}
use Rattle.scan.proofs.Runs.{run_length}
use Rattle.track.specs.Meaning.{is_span}

module _ (z : List ℕ) (p n : ℕ) where
  pub span-within : is_span z p n ≡ true → p + n ≤ length z
  unfolding is_span
  span-within e = by (leb (p + n) (length z)) refl
    where
      by : (t : Bool) → leb (p + n) (length z) ≡ t → p + n ≤ length z
      by true w = leb-true (p + n) (length z) w
      by false w = absurd (true≢false (sym (rw w at e)))

module _ (t : ℕ → Bool) where
  pub every-run : (w : List ℕ) → every t w ≡ eqb (run_length_of t w) (length w)
  unfolding run_length_of
  every-run [] = refl
  every-run (b ∷ w) = by (t b) refl (every-run w)
    where
      by : (x : Bool) → t b ≡ x → every t w ≡ eqb (run_length_of t w) (length w) → every t (b ∷ w) ≡ eqb (run_length_of t (b ∷ w)) (suc (length w))
      by true e r = rw (e, eqb-suc-suc) r
      by false e r = rw (e, eqb-zero-suc)

  -- r is where a scan of the string of n bytes at p ends
  pub every-is : (z : List ℕ) (p n r : ℕ) → is_span z p n ≡ true → Ends t (part p (p + n) z) 0 r → eqb r n ≡ every t (string_at z p n)
  unfolding string_at
  every-is z p n r e w =
      let h : p + n ≤ length z = span-within z p n e in
      let l : length (take (p + n - p) (drop p z)) ≡ p + n - p = length-take-le (p + n - p) (drop p z) (rw (length-drop p z) (omega arith)) in
      let k : p + n - p ≡ n = omega arith in
      rw (every-run, w.is, run_length t (take (p + n - p) (drop p z)) 0 (omega arith), zero-add, l, k)
