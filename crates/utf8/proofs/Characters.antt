-- A well-formed sequence and its character, and the characters of a text. Assumes nothing.
--     encode-char               the bytes of the character of a sequence are the sequence
--     well_lead                 the first byte of a sequence does not go on with a character
--     first-chars, chars_count  a text has its first n characters, and a count of the bytes that start characters finds where they end
use Prim.Native.Nat.{ℕ, zero, suc, ◌+◌, ◌*◌, ◌/◌, ◌%◌, ◌≤◌, ◌<◌}
use mathlib.Core.Path.{◌≡◌, refl, sym, ap, ◌∙◌}
use mathlib.Core.Bool.{Bool, true, false, cond, ◌&&◌, and-eq-true_iff}
use mathlib.Core.List.{List, [], ◌∷◌, ◌++◌}
use native.Mathlib.Omega.{arith}
use native.Mathlib.Nat.{mod-lt}
use lib.ListN.{length, length-append}
use lib.Dec.{leb}
use borrow.Author.Tests.{leb-true, le-leb}
use Rattle.utf8.specs.Utf8.{Range, ◌to◌, within, table, fits_at, first_fit, sequence_at, WellFormed, Utf8, empty, sequence, encode, char_at}
use Rattle.utf8.specs.Utf8.{FirstChars, taken, ended, next}
use Rattle.scan.proofs.Every.{by-test}
use Rattle.utf8.proofs.Utf8Laws.{range_low, range_high, fits-first, encode-1, encode-2, encode-3, encode-4, sequence-none}
use Rattle.utf8.proofs.Utf8Laws.{utf8_one, utf8_rest}
use Rattle.utf8.proofs.Boundaries.{Inside, well_inside}

-- ---- the row that a sequence fits
-- what holds of every row of the table where the bytes fit it and are as many, holds of a sequence
each : (P : Type 0) (w : List ℕ) → 0 < length w → (rows : List (List Range)) → Type 0
each P w h [] = Unit {0}
each P w h (row ∷ rows) = (length w ≡ length row → fits_at w 0 row ≡ true → P) × each P w h rows

module _ (P : Type 0) (w : List ℕ) (h : 0 < length w) where
  by_rows : (rows : List (List Range)) → each P w h rows → first_fit w 0 rows ≡ length w → P
  unfolding first_fit each
  by_rows [] k e = absurd (omega arith)
  by_rows (row ∷ rows) k e =
      by-test (fits_at w 0 row) (λ t. k.0 (sym e ∙ rw t) t) (λ t. by_rows rows k.1 (rw t at e))

-- ---- numbers made of six bits each
two_bits : (x y : ℕ) → y < 64 → ((x * 64 + y) / 64 ≡ x) × ((x * 64 + y) % 64 ≡ y)
two_bits x y h = (omega arith, omega arith)

lead_2 : (b : ℕ) → 0xC0 ≤ b → b < 0xE0 → 0xC0 + b % 32 ≡ b
lead_2 b h g = omega arith

lead_3 : (b : ℕ) → 0xE0 ≤ b → b < 0xF0 → 0xE0 + b % 16 ≡ b
lead_3 b h g = omega arith

lead_4 : (b : ℕ) → 0xF0 ≤ b → b < 0xF8 → 0xF0 + b % 8 ≡ b
lead_4 b h g = omega arith

tail : (b : ℕ) → 0x80 ≤ b → b ≤ 0xBF → 0x80 + b % 64 ≡ b
tail b h g = omega arith

three_bits : (x y z : ℕ) → y < 64 → z < 64
    → ((x * 4096 + y * 64 + z) / 4096 ≡ x) × ((x * 4096 + y * 64 + z) / 64 % 64 ≡ y) × ((x * 4096 + y * 64 + z) % 64 ≡ z)
three_bits x y z h g =
    let e : (x * 4096 + y * 64 + z) / 64 ≡ x * 64 + y = omega arith in
    (omega arith, rw e (two_bits x y h).1, omega arith)

four-bits : (x y z u : ℕ) → y < 64 → z < 64 → u < 64
    → let c = x * 262144 + y * 4096 + z * 64 + u in (c / 262144 ≡ x) × (c / 4096 % 64 ≡ y) × (c / 64 % 64 ≡ z) × (c % 64 ≡ u)
four-bits x y z u h g k =
    let c : ℕ = x * 262144 + y * 4096 + z * 64 + u in
    let e : c / 4096 ≡ x * 64 + y = omega arith in
    let f : c / 64 ≡ (x * 64 + y) * 64 + z = omega arith in
    (omega arith, rw e (two_bits x y h).1, rw f (two_bits (x * 64 + y) z g).1, omega arith)

-- ---- the bytes of the character of some bytes
small : (b n : ℕ) → 0 < n → b % n < n
small b n h = mod-lt b h

same_1 : (p : ℕ) → p ≤ 0x7F → encode p ≡ p ∷ []
same_1 p h = encode-1 p (omega arith)

module _ (p q : ℕ) (a : 0xC2 ≤ p) (b : p ≤ 0xDF) (c : 0x80 ≤ q) (d : q ≤ 0xBF) where
  same_2 : encode (p % 32 * 64 + q % 64) ≡ p ∷ q ∷ []
  same_2 =
      let n = two_bits (p % 32) (q % 64) (small q 64 (omega arith)) in
      encode-2 (p % 32 * 64 + q % 64) (omega arith) (omega arith) ∙ rw (n.0, n.1, lead_2 p (omega arith) (omega arith), tail q c d)

module _ (p q r : ℕ) (a : 0xE0 ≤ p) (b : p ≤ 0xEF) (c : 0x80 ≤ q) (d : q ≤ 0xBF) (e : 0x80 ≤ r) (f : r ≤ 0xBF) where
  char_3 : ℕ
  char_3 = p % 16 * 4096 + q % 64 * 64 + r % 64

  below_3 : char_3 < 0x10000
  unfolding char_3
  below_3 = omega (arith, small p 16 (omega arith), small q 64 (omega arith), small r 64 (omega arith))

  same_3 : 0x800 ≤ char_3 → encode (p % 16 * 4096 + q % 64 * 64 + r % 64) ≡ p ∷ q ∷ r ∷ []
  unfolding char_3
  same_3 h =
      let n = three_bits (p % 16) (q % 64) (r % 64) (small q 64 (omega arith)) (small r 64 (omega arith)) in
      encode-3 char_3 h below_3 ∙ rw (n.0, n.1, n.2, lead_3 p a (omega arith), tail q c d, tail r e f)

module _ (p q r t : ℕ) (a : 0xF0 ≤ p) (b : p ≤ 0xF4) (c : 0x80 ≤ q) (d : q ≤ 0xBF) (e : 0x80 ≤ r) (f : r ≤ 0xBF) (g : 0x80 ≤ t) (k : t ≤ 0xBF) where
  char_4 : ℕ
  char_4 = p % 8 * 262144 + q % 64 * 4096 + r % 64 * 64 + t % 64

  same_4 : 0x10000 ≤ char_4 → encode (p % 8 * 262144 + q % 64 * 4096 + r % 64 * 64 + t % 64) ≡ p ∷ q ∷ r ∷ t ∷ []
  unfolding char_4
  same_4 h =
      let n = four-bits (p % 8) (q % 64) (r % 64) (t % 64) (small q 64 (omega arith)) (small r 64 (omega arith)) (small t 64 (omega arith)) in
      encode-4 char_4 h ∙ rw (n.0, n.1, n.2, n.3, lead_4 p a (omega arith), tail q c d, tail r e f, tail t g k)

-- ---- as many bytes as a row has ranges
module _ (P : List ℕ → Type 0) where
  bytes_1 : (i : Range) → ((p : ℕ) → within p i ≡ true → P (p ∷ [])) → (w : List ℕ) → length w ≡ 1 → fits_at w 0 (i ∷ []) ≡ true → P w
  bytes_1 i k [] e f = absurd (omega arith)
  bytes_1 i k (p ∷ []) e f = k p (fits-first (p ∷ []) 0 i [] f).1
  bytes_1 i k (p ∷ q ∷ w) e f = absurd (omega arith)

  bytes_2 : (i j : Range) → ((p q : ℕ) → within p i ≡ true → within q j ≡ true → P (p ∷ q ∷ [])) → (w : List ℕ) → length w ≡ 2
      → fits_at w 0 (i ∷ j ∷ []) ≡ true → P w
  bytes_2 i j k [] e f = absurd (omega arith)
  bytes_2 i j k (p ∷ []) e f = absurd (omega arith)
  bytes_2 i j k (p ∷ q ∷ []) e f =
      let a = fits-first (p ∷ q ∷ []) 0 i (j ∷ []) f in
      k p q a.1 (fits-first (p ∷ q ∷ []) 1 j [] a.2).1
  bytes_2 i j k (p ∷ q ∷ r ∷ w) e f = absurd (omega arith)

  bytes_3 : (i j l : Range) → ((p q r : ℕ) → within p i ≡ true → within q j ≡ true → within r l ≡ true → P (p ∷ q ∷ r ∷ [])) → (w : List ℕ)
      → length w ≡ 3 → fits_at w 0 (i ∷ j ∷ l ∷ []) ≡ true → P w
  bytes_3 i j l k [] e f = absurd (omega arith)
  bytes_3 i j l k (p ∷ []) e f = absurd (omega arith)
  bytes_3 i j l k (p ∷ q ∷ []) e f = absurd (omega arith)
  bytes_3 i j l k (p ∷ q ∷ r ∷ []) e f =
      let a = fits-first (p ∷ q ∷ r ∷ []) 0 i (j ∷ l ∷ []) f in
      let b = fits-first (p ∷ q ∷ r ∷ []) 1 j (l ∷ []) a.2 in
      k p q r a.1 b.1 (fits-first (p ∷ q ∷ r ∷ []) 2 l [] b.2).1
  bytes_3 i j l k (p ∷ q ∷ r ∷ t ∷ w) e f = absurd (omega arith)

  bytes_4 : (i j l m : Range)
      → ((p q r t : ℕ) → within p i ≡ true → within q j ≡ true → within r l ≡ true → within t m ≡ true → P (p ∷ q ∷ r ∷ t ∷ []))
      → (w : List ℕ) → length w ≡ 4 → fits_at w 0 (i ∷ j ∷ l ∷ m ∷ []) ≡ true → P w
  bytes_4 i j l m k [] e f = absurd (omega arith)
  bytes_4 i j l m k (p ∷ []) e f = absurd (omega arith)
  bytes_4 i j l m k (p ∷ q ∷ []) e f = absurd (omega arith)
  bytes_4 i j l m k (p ∷ q ∷ r ∷ []) e f = absurd (omega arith)
  bytes_4 i j l m k (p ∷ q ∷ r ∷ t ∷ []) e f =
      let a = fits-first (p ∷ q ∷ r ∷ t ∷ []) 0 i (j ∷ l ∷ m ∷ []) f in
      let b = fits-first (p ∷ q ∷ r ∷ t ∷ []) 1 j (l ∷ m ∷ []) a.2 in
      let c = fits-first (p ∷ q ∷ r ∷ t ∷ []) 2 l (m ∷ []) b.2 in
      k p q r t a.1 b.1 c.1 (fits-first (p ∷ q ∷ r ∷ t ∷ []) 3 m [] c.2).1
  bytes_4 i j l m k (p ∷ q ∷ r ∷ t ∷ u ∷ w) e f = absurd (omega arith)

-- ---- the bytes of the character of a sequence are the sequence
Back : List ℕ → Type 0
Back w = encode (char_at w 0 (length w)) ≡ w

back_1 : (w : List ℕ) → length w ≡ 1 → fits_at w 0 (0x00 to 0x7F ∷ []) ≡ true → Back w
unfolding Back char_at
back_1 = bytes_1 Back (0x00 to 0x7F) (λ p a. same_1 p (range_high p 0x00 0x7F a))

back_2 : (w : List ℕ) → length w ≡ 2 → fits_at w 0 (0xC2 to 0xDF ∷ 0x80 to 0xBF ∷ []) ≡ true → Back w
unfolding Back char_at
back_2 =
    bytes_2 Back (0xC2 to 0xDF) (0x80 to 0xBF)
    (λ p q a b. same_2 p q (range_low p 0xC2 0xDF a) (range_high p 0xC2 0xDF a) (range_low q 0x80 0xBF b) (range_high q 0x80 0xBF b))

-- the row of three bytes, or of four, whose first byte is from a to b and whose second from c to d
module _ (a b c d : ℕ) where
  back_3 : 0xE0 ≤ a → b ≤ 0xEF → 0x80 ≤ c → d ≤ 0xBF → ((p q : ℕ) → a ≤ p → p ≤ b → c ≤ q → q ≤ d → 0x800 ≤ p % 16 * 4096 + q % 64 * 64)
      → (w : List ℕ) → length w ≡ 3 → fits_at w 0 (a to b ∷ c to d ∷ 0x80 to 0xBF ∷ []) ≡ true → Back w
  unfolding Back char_at char_3
  back_3 e f g h large =
      bytes_3 Back (a to b) (c to d) (0x80 to 0xBF)
      (λ p q r i j k.
      let p₁ = range_low p a b i in
      let p₂ = range_high p a b i in
      let q₁ = range_low q c d j in
      let q₂ = range_high q c d j in
      let l = large p q p₁ p₂ q₁ q₂ in
      same_3 p q r (omega arith) (omega arith) (omega arith) (omega arith) (range_low r 0x80 0xBF k) (range_high r 0x80 0xBF k) (omega arith))

  back_4 : 0xF0 ≤ a → b ≤ 0xF4 → 0x80 ≤ c → d ≤ 0xBF → ((p q : ℕ) → a ≤ p → p ≤ b → c ≤ q → q ≤ d → 0x10000 ≤ p % 8 * 262144 + q % 64 * 4096)
      → (w : List ℕ) → length w ≡ 4 → fits_at w 0 (a to b ∷ c to d ∷ 0x80 to 0xBF ∷ 0x80 to 0xBF ∷ []) ≡ true → Back w
  unfolding Back char_at char_4
  back_4 e f g h large =
      bytes_4 Back (a to b) (c to d) (0x80 to 0xBF) (0x80 to 0xBF)
      (λ p q r t i j k m.
      let p₁ = range_low p a b i in
      let p₂ = range_high p a b i in
      let q₁ = range_low q c d j in
      let q₂ = range_high q c d j in
      let l = large p q p₁ p₂ q₁ q₂ in
      same_4 p q r t (omega arith) (omega arith) (omega arith) (omega arith) (range_low r 0x80 0xBF k) (range_high r 0x80 0xBF k)
      (range_low t 0x80 0xBF m) (range_high t 0x80 0xBF m) (omega arith))

pub encode-char : (w : List ℕ) → WellFormed w → encode (char_at w 0 (length w)) ≡ w
unfolding Back each sequence_at
encode-char w v =
    by_rows (Back w) w v.some_byte table (
      back_1 w,
      (
        back_2 w,
        (
          back_3 0xE0 0xE0 0xA0 0xBF (omega arith) (omega arith) (omega arith) (omega arith) (λ p q a b c d. omega arith) w,
          (
            back_3 0xE1 0xEC 0x80 0xBF (omega arith) (omega arith) (omega arith) (omega arith) (λ p q a b c d. omega arith) w,
            (
              back_3 0xED 0xED 0x80 0x9F (omega arith) (omega arith) (omega arith) (omega arith) (λ p q a b c d. omega arith) w,
              (
                back_3 0xEE 0xEF 0x80 0xBF (omega arith) (omega arith) (omega arith) (omega arith) (λ p q a b c d. omega arith) w,
                (
                  back_4 0xF0 0xF0 0x90 0xBF (omega arith) (omega arith) (omega arith) (omega arith) (λ p q a b c d. omega arith) w,
                  (
                    back_4 0xF1 0xF3 0x80 0xBF (omega arith) (omega arith) (omega arith) (omega arith) (λ p q a b c d. omega arith) w,
                    (
                      back_4 0xF4 0xF4 0x80 0x8F (omega arith) (omega arith) (omega arith) (omega arith) (λ p q a b c d. omega arith) w,
                      tt,
                    ),
                  ),
                ),
              ),
            ),
          ),
        ),
      ),
    )
    v.whole

-- ---- the first characters of a text
abbrev goes_on : ℕ → Bool
goes_on b = leb 0x80 b && leb b 0xBF

pub well_lead : (b : ℕ) (w : List ℕ) → WellFormed (b ∷ w) → goes_on b ≡ false
well_lead b w v =
    by-test (goes_on b)
    (λ t.
    let e = (and-eq-true_iff (leb 0x80 b) (leb b 0xBF)).0 t in
    let z = (sequence-none (b ∷ w) 0 0x80 0xBF refl (omega arith) (leb-true 0x80 b e.0) (leb-true b 0xBF e.1)).is in
    absurd (omega (arith, v.whole)))
    (λ t. t)

pub first-chars : (n : ℕ) {s : List ℕ} → Utf8 s → (a : List ℕ) × FirstChars n s a
first-chars zero {s} v = ([], taken s)
first-chars (suc n) empty = ([], ended (suc n))
first-chars (suc n) (sequence {w} {s} f v) = let r = first-chars n v in (w ++ r.0, next f r.1)

-- A count that passes over the bytes that go on with a character, and over n others: Rust's `char_indices`, and `chars_length` of the times
module _ (f : ℕ → List ℕ → ℕ) (f-end : (n : ℕ) → f n [] ≡ 0)
    (f-zero : (b : ℕ) (s : List ℕ) → f 0 (b ∷ s) ≡ cond (leb 0x80 b && leb b 0xBF) (suc (f 0 s)) 0)
    (f-more : (n b : ℕ) (s : List ℕ) → f (suc n) (b ∷ s) ≡ cond (leb 0x80 b && leb b 0xBF) (suc (f (suc n) s)) (suc (f n s))) where
  count_on : (n b : ℕ) (s : List ℕ) → goes_on b ≡ true → f n (b ∷ s) ≡ suc (f n s)
  count_on zero b s e = f-zero b s ∙ rw e
  count_on (suc n) b s e = f-more n b s ∙ rw e

  count_inside : (n : ℕ) (t s : List ℕ) → ((i : ℕ) → i < length t → Inside t i) → f n (t ++ s) ≡ length t + f n s
  count_inside n [] s k = omega arith
  count_inside n (b ∷ t) s k =
      let h = k 0 (omega arith) in
      let e : goes_on b ≡ true = (and-eq-true_iff (leb 0x80 b) (leb b 0xBF)).1 (le-leb 0x80 b h.0, le-leb b 0xBF h.1) in
      count_on n b (t ++ s) e ∙ omega (arith, count_inside n t s (λ i l. k (suc i) (omega arith)))

  count_sequence : (n : ℕ) (w s : List ℕ) → WellFormed w → f (suc n) (w ++ s) ≡ length w + f n s
  count_sequence n [] s v = absurd (omega (arith, v.some_byte))
  count_sequence n (b ∷ w) s v =
      f-more n b (w ++ s)
      ∙ rw (well_lead b w v) (omega (arith, count_inside n w s (λ i l. well_inside (b ∷ w) v (suc i) (omega arith) (omega arith))))

  count_none : {s : List ℕ} → Utf8 s → f 0 s ≡ 0
  count_none empty = f-end 0
  count_none (sequence {w} {s} v u) = start w s v
    where
      start : (w s : List ℕ) → WellFormed w → f 0 (w ++ s) ≡ 0
      start [] s v = absurd (omega (arith, v.some_byte))
      start (b ∷ w) s v = f-zero b (w ++ s) ∙ rw (well_lead b w v)

  -- it counts the bytes of the first n characters
  pub chars_count : {n : ℕ} {s a : List ℕ} → Utf8 s → FirstChars n s a → f n s ≡ length a
  chars_count v (taken s) = count_none v
  chars_count v (ended n) = f-end n
  chars_count v (next {n} {w} {s} {a} g r) =
      count_sequence n w s g ∙ rw (length-append w a) (ap (λ k. length w + k) (chars_count (utf8_rest (utf8_one g) v) r))
