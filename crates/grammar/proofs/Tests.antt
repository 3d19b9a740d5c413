-- Laws of tests: what a Bool that is known says of the tests it is made of. Assumes nothing.
use mathlib.Core.Path.{◌≡◌, refl, sym, ◌∙◌}
use Prim.Native.Nat.{ℕ}
use mathlib.Core.Logic.{◌⊎◌, inl, inr}
use mathlib.Core.Bool.{Bool, true, false, not, ◌||◌, true≢false}
use lib.Dec.{T, eqb, eqb→eq, eqb_refl}
use Rattle.scan.proofs.Every.{by-test}

pub T→is : (b : Bool) → T b → b ≡ true
T→is true t = refl
T→is false t = absurd t

pub is→T : (b : Bool) → b ≡ true → T b
is→T true e = tt
is→T false e = absurd (true≢false (sym e))

pub not_both : (b : Bool) → b ≡ true → b ≡ false → ⊥
not_both b p q = true≢false (sym p ∙ q)

pub eqb_same : (n : ℕ) → eqb n n ≡ true
eqb_same n = T→is (eqb n n) (eqb_refl n)

pub eqb_eq : (m n : ℕ) → eqb m n ≡ true → m ≡ n
eqb_eq m n e = eqb→eq m n (is→T (eqb m n) e)

pub test_sym : (a b : ℕ) → eqb a b ≡ false → eqb b a ≡ false
test_sym a b e = by-test (eqb b a) (λ t. absurd (not_both (eqb a b) (rw (eqb_eq b a t) (eqb_same a)) e)) (λ t. t)

pub not_true : (a : Bool) → not a ≡ true → a ≡ false
not_true true e = absurd (true≢false (sym e))
not_true false e = refl

pub not_false : (a : Bool) → not a ≡ false → a ≡ true
not_false true e = refl
not_false false e = absurd (true≢false e)

pub or_true : (a b : Bool) → (a || b) ≡ true → (a ≡ true) ⊎ (b ≡ true)
or_true true b e = inl refl
or_true false b e = inr e

pub not_or3 : (a b c : Bool) → not (a || b || c) ≡ true → (a ≡ false) × (b ≡ false) × (c ≡ false)
not_or3 true b c e = absurd (true≢false (sym e))
not_or3 false true c e = absurd (true≢false (sym e))
not_or3 false false true e = absurd (true≢false (sym e))
not_or3 false false false e = (refl, refl, refl)

pub not_or4 : (a b c d : Bool) → not (a || b || c || d) ≡ true → (a ≡ false) × (b ≡ false) × (c ≡ false) × (d ≡ false)
not_or4 true b c d e = absurd (true≢false (sym e))
not_or4 false true c d e = absurd (true≢false (sym e))
not_or4 false false true d e = absurd (true≢false (sym e))
not_or4 false false false true e = absurd (true≢false (sym e))
not_or4 false false false false e = (refl, refl, refl, refl)

pub or_true3 : (a b c : Bool) → not (a || b || c) ≡ false → a ≡ false → (b ≡ true) ⊎ (c ≡ true)
or_true3 true b c e h = absurd (true≢false h)
or_true3 false b c e h = or_true b c (not_false (b || c) e)

pub equals-byte : (x b c d : Bool) → not (x || b || c || d) ≡ false → x ≡ false → (b || c) ≡ false → d ≡ true
equals-byte true b c d e p q = absurd (true≢false p)
equals-byte false true c d e p q = absurd (true≢false q)
equals-byte false false true d e p q = absurd (true≢false q)
equals-byte false false false d e p q = not_false d e

pub or_else : (a b : Bool) → (a || b) ≡ true → a ≡ false → b ≡ true
or_else true b p q = absurd (true≢false q)
or_else false b p q = p
