-- The prolog, a law for each way. Assumes nothing.
use Prim.Native.Nat.{ℕ, ◌+◌, ◌≤◌, ◌<◌}
use mathlib.Core.Path.{◌≡◌, sym, subst, ◌∙◌}
use mathlib.Core.Bool.{Bool, true, false, not}
use mathlib.Core.List.{List, [], ◌∷◌}
use native.Mathlib.Omega.{arith}
use lib.Dec.{eqb, ltb, T as Holds}
use lib.ListN.{length, get_or}
use borrow.Author.Tests.{lt-ltb, ltb-true, ltb-false, eq-eqb, eqb-true}
use Rattle.scan.specs.Bytes.{blank}
use Rattle.scan.specs.Marks.{starts_at}
use Rattle.tree.specs.Read.{pi_mark, pi_end, comment_mark, comment_end, decl_mark, gt, prolog_turn, prolog_from, prolog_end}
use Rattle.scan.specs.Posts.{Ends, Passed}
use Rattle.scan.proofs.Every.{by-test}
use Rattle.scan.proofs.Loop.{loop-out, loop-halt, loop-more}
use Rattle.scan.proofs.Searches.{mark_end, mark_off, mark_on, mark_here, mark_not}

-- the byte b at p of the text s, or 0
abbrev pub Here : List ℕ → ℕ → ℕ → Type 0
Here s p b = b ≡ get_or s p 0

pub begin : (s : List ℕ) (r : ℕ) → Ends blank s 0 r → prolog_end s ≡ prolog_from s r
unfolding prolog_end
begin s r h = rw (← h.is)

module _ (s : List ℕ) (i : ℕ) (h : i < length s) where
  beyond : (m : List ℕ) (q r : ℕ) → 0 < length m → Passed m s i q → Ends blank s q r → i < r
  beyond m q r z a b = omega (arith, a.beyond h z, b.after)

  pub pi : (q r : ℕ) → starts_at s i pi_mark ≡ true → Passed pi_end s i q → Ends blank s q r → prolog_from s i ≡ prolog_from s r
  unfolding prolog_turn
  pi q r e a b = loop-more (length s) (prolog_turn s) (λ j x. j) i tt r tt h (rw (e, ← a.is, ← b.is)) (beyond pi_end q r (omega arith) a b)

  pub comment : (q r : ℕ) → starts_at s i pi_mark ≡ false → starts_at s i comment_mark ≡ true → Passed comment_end s i q → Ends blank s q r
      → prolog_from s i ≡ prolog_from s r
  unfolding prolog_turn
  comment q r d e a b =
      loop-more (length s) (prolog_turn s) (λ j x. j) i tt r tt h (rw (d, e, ← a.is, ← b.is)) (beyond comment_end q r (omega arith) a b)

  pub decl : (q r : ℕ) → starts_at s i pi_mark ≡ false → starts_at s i comment_mark ≡ false → starts_at s i decl_mark ≡ true → Passed gt s i q
      → Ends blank s q r → prolog_from s i ≡ prolog_from s r
  unfolding prolog_turn
  decl q r c d e a b =
      loop-more (length s) (prolog_turn s) (λ j x. j) i tt r tt h (rw (c, d, e, ← a.is, ← b.is)) (beyond gt q r (omega arith) a b)

  pub stop : starts_at s i pi_mark ≡ false → starts_at s i comment_mark ≡ false → starts_at s i decl_mark ≡ false → prolog_from s i ≡ i
  unfolding prolog_turn
  stop c d e = loop-halt (length s) (prolog_turn s) (λ j x. j) i tt i h (rw (c, d, e))

pub out : (s : List ℕ) (i : ℕ) → length s ≤ i → prolog_from s i ≡ i
out s i h = loop-out (length s) (prolog_turn s) (λ j x. j) i tt h

-- where the root begins at once, by `<t`, there is no prolog
pub root : (s : List ℕ) (i : ℕ) (r : Bool) → Holds r → r ≡ starts_at s i (60 ∷ 116 ∷ []) → prolog_from s i ≡ i
root s i r h e =
    stop s i first.0 (mark_not s pi_mark i 1 (omega arith) (λ f. subst (λ (b : ℕ). Holds (not (eqb b 63))) (sym second ∙ f) tt))
    (mark_not s comment_mark i 1 (omega arith) bang) (mark_not s decl_mark i 1 (omega arith) bang)
  where
    tag : List ℕ
    tag = 60 ∷ 116 ∷ []

    stands : starts_at s i tag ≡ true
    stands = by-test r (λ t. sym e ∙ t) (λ t. absurd (subst Holds t h))

    first : (i < length s) × (get_or s i 0 ≡ 60)
    first = mark_here s tag i 0 (omega arith) stands

    second : get_or s (i + 1) 0 ≡ 116
    second = (mark_here s tag (i + 1) 1 (omega arith) (sym (mark_on s tag i 0 (omega arith) first.0 first.1) ∙ stands)).1

    bang : get_or s (i + 1) 0 ≡ 33 → ⊥
    bang f = subst (λ (b : ℕ). Holds (not (eqb b 33))) (sym second ∙ f) tt

-- a mark of one byte
pub byte_on : (s : List ℕ) (p c : ℕ) → p < length s → eqb (get_or s p 0) c ≡ starts_at s p (c ∷ [])
unfolding starts_at
byte_on s p c h = by-test (eqb (get_or s p 0) c) (λ t. rw (lt-ltb p (length s) h, t)) (λ t. rw (lt-ltb p (length s) h, t))

pub byte_out : (s : List ℕ) (p c : ℕ) → length s ≤ p → false ≡ starts_at s p (c ∷ [])
byte_out s p c h = sym (mark_end s (c ∷ []) p 0 (omega arith) h)

-- a mark of two bytes, where the byte x stands: another first byte, and the same, where the second decides
module _ (s : List ℕ) (p b c x : ℕ) (e : Here s p x) where
  pub pair_off : Holds (not (eqb x b)) → false ≡ starts_at s p (b ∷ c ∷ [])
  pair_off h =
      by-test (ltb p (length s))
      (λ t. sym (mark_off s (b ∷ c ∷ []) p 0 (omega arith) (ltb-true p (length s) t)
      (λ f. subst (λ (y : Bool). Holds (not y)) (eq-eqb x b (e ∙ f)) h)))
      (λ t. sym (mark_end s (b ∷ c ∷ []) p 0 (omega arith) (ltb-false p (length s) t)))

  pub pair_on : Holds (not (not (eqb x b))) → starts_at s (p + 1) (c ∷ []) ≡ starts_at s p (b ∷ c ∷ [])
  pair_on h =
      by-test (ltb p (length s))
      (λ t. sym (mark_on s (b ∷ c ∷ []) p 0 (omega arith) (ltb-true p (length s) t) same))
      (λ t. let l = ltb-false p (length s) t in
      sym (byte_out s (p + 1) c (omega arith)) ∙ sym (mark_end s (b ∷ c ∷ []) p 0 (omega arith) l))
    where
      same : get_or s p 0 ≡ b
      same = by-test (eqb x b) (λ t. sym e ∙ eqb-true x b t) (λ t. absurd (subst (λ (y : Bool). Holds (not (not y))) t h))
