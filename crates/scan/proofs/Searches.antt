-- Laws of marks. Assumes nothing.
use Prim.Native.Nat.{ℕ, zero, suc, ◌+◌, ◌-◌, ◌≤◌, ◌<◌}
use mathlib.Core.Path.{◌≡◌, refl, sym, subst⁻¹, ◌∙◌}
use mathlib.Core.Bool.{Bool, true, false, false≢true}
use mathlib.Core.List.{List, [], ◌∷◌}
use native.Mathlib.Omega.{arith}
use native.Mathlib.Numerals.{add-one}
use lib.ListN.{length, get_or, take, drop, length-drop, drop_of_length-le}
use lib.Seq.{drop-cons, get_or-drop}
use lib.Dec.{eqb, ltb}
use lib.Pointwise.{pointwise}
use borrow.Author.Tests.{lt-ltb, le-ltb, ltb-true, ltb-false, eq-eqb, ne_eqb, eqb-true, eqb-false, not-true}
use Rattle.std.specs.Prelude.{nat_eq}
use Rattle.scan.specs.Bytes.{other, run_end_of}
use Rattle.scan.specs.Marks.{starts_at, seek, past}
use Rattle.scan.specs.Posts.{Ends, Marked, Found, Passed}
use Rattle.scan.proofs.Every.{by-test}
use Rattle.scan.proofs.Runs.{upward, run-all}

-- ---- a mark at i, from its j-th byte on
module _ (s m : List ℕ) (i j : ℕ) where
  pub mark_out : length m ≤ j → starts_at s i (drop j m) ≡ true
  unfolding starts_at
  mark_out h = rw (drop_of_length-le m h)

  pub mark_end : j < length m → length s ≤ i → starts_at s i (drop j m) ≡ false
  unfolding starts_at
  mark_end h g = rw (drop-cons m j 0 h, le-ltb i (length s) g)

  pub mark_off : j < length m → i < length s → (get_or s i 0 ≡ get_or m j 0 → ⊥) → starts_at s i (drop j m) ≡ false
  unfolding starts_at
  mark_off h g e = rw (drop-cons m j 0 h, lt-ltb i (length s) g, ne_eqb (get_or s i 0) (get_or m j 0) e)

  pub mark_on : j < length m → i < length s → get_or s i 0 ≡ get_or m j 0 → starts_at s i (drop j m) ≡ starts_at s (i + 1) (drop (j + 1) m)
  unfolding starts_at
  mark_on h g e = rw (add-one j, drop-cons m j 0 h, lt-ltb i (length s) g, eq-eqb (get_or s i 0) (get_or m j 0) e)

-- a mark at p is one that the text after p begins with
drop_starts : (s m : List ℕ) (p k : ℕ) → p ≤ length s → starts_at (drop p s) k m ≡ starts_at s (p + k) m
unfolding starts_at
drop_starts s [] p k h = refl
drop_starts s (b ∷ m) p k h =
    let l : ltb k (length (drop p s)) ≡ ltb (p + k) (length s) = below k p (length s) (length (drop p s)) (length-drop p s) h in
    let z : p + k + 1 ≡ p + (k + 1) = omega arith in
    rw (l, get_or-drop p s k 0, drop_starts s m p (k + 1) h, z)
  where
    below : (k p n d : ℕ) → d ≡ n - p → p ≤ n → ltb k d ≡ ltb (p + k) n
    below k p n d e h = by (ltb k d) refl
      where
        by : (b : Bool) → ltb k d ≡ b → ltb k d ≡ ltb (p + k) n
        by true w = w ∙ sym (lt-ltb (p + k) n (omega (arith, ltb-true k d w)))
        by false w = w ∙ sym (le-ltb (p + k) n (omega (arith, ltb-false k d w)))

-- ---- the search for a mark
module _ (m s : List ℕ) (i : ℕ) where
  here : i < length s → starts_at (get_or s i 0 ∷ drop (suc i) s) 0 m ≡ starts_at s i m
  here h =
      let z : i + 0 ≡ i = omega arith in
      let e : starts_at (drop i s) 0 m ≡ starts_at s (i + 0) m = drop_starts s m i 0 (omega arith) in
      rw (drop-cons s i 0 h, z) at e

  pub seek-here : i < length s → starts_at s i m ≡ true → seek m s i ≡ i
  unfolding seek
  seek-here h e = rw (drop-cons s i 0 h, here h, e) (omega arith)

  pub seek-on : i < length s → starts_at s i m ≡ false → seek m s i ≡ seek m s (i + 1)
  unfolding seek
  seek-on h e = rw (drop-cons s i 0 h, here h, e, add-one i) (omega arith)

  pub seek-out : length s ≤ i → seek m s i ≡ i
  unfolding seek
  seek-out h = rw (drop_of_length-le s h) (omega arith)

  pub past-got : (r : ℕ) → r ≡ seek m s i → r < length s → past m s i ≡ r + length m
  unfolding past
  past-got r e h = rw (← e, lt-ltb r (length s) h)

  pub past-none : (r : ℕ) → r ≡ seek m s i → length s ≤ r → past m s i ≡ length s
  unfolding past
  past-none r e h = rw (← e, le-ltb r (length s) h)

-- what each place without the mark keeps holds where the search ends
module _ (m s : List ℕ) (Inv Q : ℕ → Type 0)
    (goes : (i : ℕ) → i < length s → starts_at s i m ≡ false → Inv i → Inv (i + 1))
    (stops : (i : ℕ) → i < length s → starts_at s i m ≡ true → Inv i → Q i)
    (ends : (i : ℕ) → length s ≤ i → Inv i → Q i)
  where
    pub seek-ind : (p : ℕ) → Inv p → Q (seek m s p)
    seek-ind = upward (length s) (λ i. Inv i → Q (seek m s i)) (λ i h j. subst⁻¹ Q (seek-out m s i h) (ends i h j)) on
      where
        on : (i : ℕ) → i < length s → (Inv (i + 1) → Q (seek m s (i + 1))) → Inv i → Q (seek m s i)
        on i h k j = by (starts_at s i m) refl
          where
            by : (b : Bool) → starts_at s i m ≡ b → Q (seek m s i)
            by true e = subst⁻¹ Q (seek-here m s i h e) (stops i h e j)
            by false e = subst⁻¹ Q (seek-on m s i h e) (k (goes i h e j))

-- ---- a mark that stands at a place stands there byte by byte
module _ (s m : List ℕ) (i j : ℕ) (h : j < length m) where
  pub mark_here : starts_at s i (drop j m) ≡ true → (i < length s) × (get_or s i 0 ≡ get_or m j 0)
  mark_here e = by (ltb i (length s)) refl (eqb (get_or s i 0) (get_or m j 0)) refl
    where
      by : (x : Bool) → ltb i (length s) ≡ x → (y : Bool) → eqb (get_or s i 0) (get_or m j 0) ≡ y → (i < length s) × (get_or s i 0 ≡ get_or m j 0)
      by true u true w = (ltb-true i (length s) u, eqb-true _ _ w)
      by true u false w = absurd (false≢true (sym (mark_off s m i j h (ltb-true i (length s) u) (eqb-false _ _ w)) ∙ e))
      by false u y w = absurd (false≢true (sym (mark_end s m i j h (ltb-false i (length s) u)) ∙ e))

mark_at : (s m : List ℕ) (p n q k : ℕ) → q ≡ p + n → k ≡ n → n ≤ length m → starts_at s p m ≡ true → starts_at s q (drop k m) ≡ true
mark_at s m p zero q k u w h e =
    let z : q ≡ p = omega arith in
    rw (z, w) e
mark_at s m p (suc n) q k u w h e =
    let f : starts_at s (p + n) (drop n m) ≡ true = mark_at s m p n (p + n) n refl refl (omega arith) e in
    let g = mark_here s m (p + n) n (omega arith) f in
    let z : q ≡ p + n + 1 = omega arith in
    let y : k ≡ n + 1 = omega arith in
    rw (z, y) (sym (mark_on s m (p + n) n (omega arith) g.0 g.1) ∙ f)

module _ (s m : List ℕ) (j n : ℕ) (h : n < length m) where
  stands : starts_at s j m ≡ true → (j + n < length s) × (get_or s (j + n) 0 ≡ get_or m n 0)
  stands e = mark_here s m (j + n) n h (mark_at s m j n (j + n) n refl refl (omega arith) e)

  -- where one of its bytes differs, or lies beyond the text, it does not stand
  pub mark_not : (get_or s (j + n) 0 ≡ get_or m n 0 → ⊥) → starts_at s j m ≡ false
  mark_not d = by (starts_at s j m) refl
    where
      by : (x : Bool) → starts_at s j m ≡ x → starts_at s j m ≡ false
      by true e = absurd (d (stands e).1)
      by false e = e

  pub mark_beyond : length s ≤ j + n → starts_at s j m ≡ false
  mark_beyond l = by (starts_at s j m) refl
    where
      by : (x : Bool) → starts_at s j m ≡ x → starts_at s j m ≡ false
      by true e = let f = (stands e).0 in absurd (omega arith)
      by false e = e

-- a mark at p, as the bytes there compare with it
begins : (s m : List ℕ) (p : ℕ) → pointwise nat_eq (take (length m) (drop p s)) m ≡ starts_at s p m
unfolding starts_at
begins s [] p = refl
begins s (b ∷ m) p =
    by-test (ltb p (length s))
    (λ t.
    let l = ltb-true p (length s) t in
    rw (lt-ltb p (length s) l, drop-cons s p 0 l, begins s m (suc p), add-one p) (by-test (eqb (get_or s p 0) b) (λ e. rw e) (λ e. rw e)))
    (λ t. let l = ltb-false p (length s) t in rw (le-ltb p (length s) l, drop_of_length-le s l))

pub marked : (s m : List ℕ) (p : ℕ) (r : Bool) → p ≤ length s → length m ≤ length s - p → r ≡ pointwise nat_eq (take (p + length m - p) (drop p s)) m
    → Marked m s p r
marked s m p r h l e =
    let long : p + length m - p ≡ length m = omega arith in
    record { is = rw long at e ∙ begins s m p; whole = λ t. omega arith }

pub unmarked : (s m : List ℕ) (p : ℕ) → p ≤ length s → length s - p < length m → Marked m s p false
unmarked s m p h l = record { is = sym (mark_beyond s m p (length s - p) l (omega arith)); whole = λ t. absurd (false≢true t) }

-- places where it does not stand are passed over at once
seek-pass : (m s : List ℕ) (k i e : ℕ) → e ≡ i + k → e ≤ length s → ((j : ℕ) → i ≤ j → j < e → starts_at s j m ≡ false) → seek m s i ≡ seek m s e
seek-pass m s zero i e w h b = let z : e ≡ i = omega arith in rw z
seek-pass m s (suc k) i e w h b =
    seek-on m s i (omega arith) (b i (omega arith) (omega arith)) ∙ seek-pass m s k (i + 1) e (omega arith) h (λ j l q. b j (omega arith) q)

module _ (m s : List ℕ) (n i : ℕ) (h : n < length m) where
  -- the search goes on where the mark's n-th byte stands next
  pub seek-far : (q r : ℕ) → (get_or s (i + n) 0 ≡ get_or m n 0 → ⊥) → q ≡ i + n + 1 → Ends (other (get_or m n 0)) s q r → seek m s i ≡ seek m s (r - n)
  seek-far q r d w f =
      seek-pass m s (r - n - i) i (r - n) (omega (arith, f.after)) (omega (arith, f.within))
      (λ j l g. mark_not s m j n h (differs j l g (eqb j i) refl))
    where
      differs : (j : ℕ) → i ≤ j → j < r - n → (x : Bool) → eqb j i ≡ x → get_or s (j + n) 0 ≡ get_or m n 0 → ⊥
      differs j l g true z = let y : j ≡ i = eqb-true j i z in rw y d
      differs j l g false z =
          let y : j ≡ i → ⊥ = eqb-false j i z in
          let u : j + n < run_end_of (other (get_or m n 0)) s q = omega (arith, f.is) in
          eqb-false _ _ (not-true _ (run-all (other (get_or m n 0)) s q (j + n) (omega arith) u))

  pub seek-short : i ≤ length s → length s ≤ i + n → seek m s i ≡ length s
  seek-short l g =
      seek-pass m s (length s - i) i (length s) (omega arith) (omega arith) (λ j a b. mark_beyond s m j n h (omega arith))
      ∙ seek-out m s (length s) (omega arith)

-- ---- what the searches ensure where they end
pub found-empty : (m s : List ℕ) (p : ℕ) → length m ≡ 0 → p ≤ length s → Found m s p p
found-empty m s p z l = record { is = sym (by (ltb p (length s)) refl); after = omega arith; within = l; whole = λ k. omega arith }
  where
    by : (x : Bool) → ltb p (length s) ≡ x → seek m s p ≡ p
    by true u = seek-here m s p (ltb-true p (length s) u) (mark_out s m p 0 (omega arith))
    by false u = seek-out m s p (ltb-false p (length s) u)

pub found_none : (m s : List ℕ) (p i n : ℕ) → p ≤ i → seek m s p ≡ seek m s i → n < length m → i ≤ length s → length s ≤ i + n
    → Found m s p (length s)
found_none m s p i n l w h a b =
    record { is = sym (w ∙ seek-short m s n i h a b); after = omega arith; within = omega arith; whole = λ k. absurd (omega arith) }

module _ (m s : List ℕ) (p i : ℕ) (l : p ≤ i) (w : seek m s p ≡ seek m s i) where
  pub found_here : i < length s → starts_at s i m ≡ true → i + length m ≤ length s → Found m s p i
  found_here h e g = record { is = sym (w ∙ seek-here m s i h e); after = l; within = omega arith; whole = λ k. g }

  pub found-out : i ≤ length s → length s ≤ i → Found m s p i
  found-out g h = record { is = sym (w ∙ seek-out m s i h); after = l; within = g; whole = λ k. absurd (omega arith) }

pub passed_got : (m s : List ℕ) (p r : ℕ) → Found m s p r → r < length s → Passed m s p (r + length m)
passed_got m s p r f h = record { is = sym (past-got m s p r f.is h); after = omega arith; within = f.whole h; beyond = λ a b. omega arith }

pub passed_none : (m s : List ℕ) (p r : ℕ) → Found m s p r → length s ≤ r → Passed m s p (length s)
passed_none m s p r f h = record { is = sym (past-none m s p r f.is h); after = omega arith; within = omega arith; beyond = λ a b. a }
