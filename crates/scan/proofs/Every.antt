-- Tests, and tests that every entry of a list passes. Assumes nothing.
--     by-test                                what holds whichever way a test goes
--     both                                   both parts of a test hold
--     every-at, every-as, every_append       the test over a list, at each entry, of one test from another, of two lists
use Prim.Native.Nat.{ℕ, zero, suc, ◌<◌}
use mathlib.Core.Path.{◌≡◌, refl}
use mathlib.Core.Bool.{Bool, true, false, ◌&&◌, and-eq-true_iff}
use mathlib.Core.List.{List, [], ◌∷◌, ◌++◌}
use native.Mathlib.Omega.{arith}
use lib.ListN.{length, get_or}
use Rattle.scan.specs.Every.{every}

pub by-test {ℓ} : {A : Type ℓ} (t : Bool) → (t ≡ true → A) → (t ≡ false → A) → A
by-test true f g = f refl
by-test false f g = g refl

pub both : {a b : Bool} → (a && b) ≡ true → (a ≡ true) × (b ≡ true)
both {a} {b} e = (and-eq-true_iff a b).0 e

module _ {A : Type 0} (t : A → Bool) where
  pub every-at : (ns : List A) (d : A) → every t ns ≡ true → (i : ℕ) → i < length ns → t (get_or ns i d) ≡ true
  every-at [] d e i h = absurd (omega arith)
  every-at (n ∷ ns) d e zero h = (both {b = every t ns} e).0
  every-at (n ∷ ns) d e (suc i) h = every-at ns d (both {a = t n} e).1 i (omega arith)

  pub every_append : (a b : List A) → every t a ≡ true → every t b ≡ true → every t (a ++ b) ≡ true
  every_append [] b e f = f
  every_append (x ∷ a) b e f =
      let h : t x ≡ true = (both {b = every t a} e).0 in
      rw h (every_append a b (both {a = t x} e).1 f)

pub every-as : {A : Type 0} (t u : A → Bool) → ((x : A) → t x ≡ true → u x ≡ true) → (l : List A) → every t l ≡ true → every u l ≡ true
every-as t u g [] e = refl
every-as t u g (x ∷ l) e =
    let h : u x ≡ true = g x (both {b = every t l} e).0 in
    rw h (every-as t u g l (both {a = t x} e).1)
