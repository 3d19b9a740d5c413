-- UTF-8 with its references read is UTF-8. Assumes nothing.
--     ascii-alone     a byte below 128 is a sequence by itself
--     utf8_from       so UTF-8 from such a byte on is UTF-8
--     decoded-utf8
use Rattle.std.specs.Prelude.{Option, Some, None}
use Prim.Native.Nat.{ℕ, zero, suc, ◌+◌, ◌-◌, ◌≤◌, ◌<◌}
use mathlib.Core.Path.{◌≡◌, refl, sym, ap, subst, ◌∙◌}
use mathlib.Core.Bool.{true, false}
use mathlib.Core.List.{List, [], ◌∷◌, ◌++◌}
use native.Mathlib.Omega.{arith}
use native.Mathlib.Numerals.{add-one}
use lib.ListN.{length, get_or, drop, length-append, length-drop, get_or-append}
use lib.Seq.{drop-cons, drop-append-add, get_or-append-add}
use lib.Dec.{eqb, ltb}
use borrow.Author.Tests.{eqb-true, eqb-false, ltb-true, ltb-false}
use Rattle.utf8.specs.Utf8.{WellFormed, Utf8, empty, sequence}
use Rattle.scan.proofs.Every.{by-test}
use Rattle.utf8.proofs.Utf8Laws.{well_high, sequence-ascii, ascii-formed, utf8_append, utf8_past_ascii, encode_utf8}
use Rattle.entities.specs.Reference.{name_length, reference}
use Rattle.entities.specs.Decode.{decoded}
use Rattle.entities.proofs.References.{Referred, reference-inv}
use Rattle.entities.proofs.Decoding.{decoded-nil, decoded-to, decoded-literal, decoded-append}

pub record Alone (w : List ℕ) (i : ℕ) : Type 0 where
  pub first : i ≡ 0
  pub only : length w ≡ 1

pub ascii-alone : (w : List ℕ) (i : ℕ) → WellFormed w → i < length w → get_or w i 0 < 128 → Alone w i
ascii-alone w i f h l =
    by-test (ltb (get_or w 0 0) 128)
    (λ t.
    let s = sequence-ascii w 0 f.some_byte (omega (arith, ltb-true (get_or w 0 0) 128 t)) in
    let o : length w ≡ 1 = sym (s.is ∙ f.whole) in
    record { first = omega arith; only = o })
    (λ t. absurd (omega (arith, well_high w f (ltb-false (get_or w 0 0) 128 t) i h)))

pub utf8_from : {u : List ℕ} → Utf8 u → (i : ℕ) → i < length u → get_or u i 0 < 128 → Utf8 (drop i u)
utf8_from empty i h l = absurd (omega arith)
utf8_from (sequence {w} {s} f v) zero h l = sequence f v
utf8_from (sequence {w} {s} f v) (suc i) h l =
    by-test (ltb (suc i) (length w))
    (λ t.
    let k : suc i < length w = ltb-true (suc i) (length w) t in
    let a = ascii-alone w (suc i) f k (rw (get_or-append w s 0 (suc i) k) at l) in
    absurd (omega (arith, a.first)))
    (λ t.
    let k : length w ≤ suc i = ltb-false (suc i) (length w) t in
    let z : suc i ≡ length w + (suc i - length w) = omega arith in
    let e : get_or (w ++ s) (suc i) 0 ≡ get_or s (suc i - length w) 0 = ap (λ (j : ℕ). get_or (w ++ s) j 0) z ∙ get_or-append-add w s (suc i - length w) 0 in
    let d : drop (suc i) (w ++ s) ≡ drop (suc i - length w) s = ap (λ (j : ℕ). drop j (w ++ s)) z ∙ drop-append-add w s (suc i - length w) in
    subst Utf8 (sym d) (utf8_from v (suc i - length w) (omega (arith, length-append w s)) (omega (arith, e))))

-- past one ASCII byte
past-byte : (b : ℕ) (s : List ℕ) → b < 128 → Utf8 (b ∷ s) → Utf8 s
past-byte b s h v = utf8_past_ascii (b ∷ []) s (λ i l. let z : i ≡ 0 = omega arith in rw z h) v

-- what follows a reference
after-reference : (s : List ℕ) (c : ℕ) → Referred s c → Utf8 s → Utf8 (drop (name_length s + 1) s)
after-reference s c r v =
    let h : name_length s < length s = omega (arith, r.within) in
    let d : drop (name_length s) s ≡ 59 ∷ drop (name_length s + 1) s = drop-cons s (name_length s) 0 h ∙ rw (r.ends, add-one (name_length s)) in
    past-byte 59 (drop (name_length s + 1) s) (omega arith) (subst Utf8 d (utf8_from v (name_length s) h (omega (arith, r.ends))))

one_byte : (w : List ℕ) (b : ℕ) → length w ≡ 1 → get_or w 0 0 ≡ b → w ≡ b ∷ []
one_byte [] b l e = absurd (omega arith)
one_byte (x ∷ []) b l e = ap (λ (y : ℕ). y ∷ []) e
one_byte (x ∷ (y ∷ w)) b l e = absurd (omega arith)

-- one sequence, where all shorter texts are known
module _ (n : ℕ) (rec : (t : List ℕ) → length t ≤ n → Utf8 t → Utf8 (decoded t)) (w s : List ℕ) (f : WellFormed w) (l : length s ≤ n)
    (v : Utf8 s) where
  plain : eqb (get_or w 0 0) 38 ≡ false → Utf8 (decoded (w ++ s))
  plain t = rw (decoded-append w s none) (sequence f (rec s l v))
    where
      none : (k : ℕ) → k < length w → get_or w k 0 ≡ 38 → ⊥
      none k g e = let a = ascii-alone w k f g (omega (arith, e)) in eqb-false (get_or w 0 0) 38 t (rw a.first at e)

  referring : (x : Option ℕ) → reference s ≡ x → Utf8 (decoded (38 ∷ s))
  referring (Some c) e =
      let r : Referred s c = reference-inv s e in
      rw (decoded-to s e) (utf8_append (encode_utf8 c r.char)
      (rec (drop (name_length s + 1) s) (omega (arith, length-drop (name_length s + 1) s)) (after-reference s c r v)))
  referring None e = rw (decoded-literal s e) (sequence {w = 38 ∷ []} (ascii-formed 38 (omega arith)) (rec s l v))

  marked : eqb (get_or w 0 0) 38 ≡ true → Utf8 (decoded (w ++ s))
  marked t =
      let b : get_or w 0 0 ≡ 38 = eqb-true (get_or w 0 0) 38 t in
      let a = ascii-alone w 0 f f.some_byte (omega (arith, b)) in
      rw (one_byte w 38 a.only b) (referring (reference s) refl)

one_more : (n : ℕ) → ((t : List ℕ) → length t ≤ n → Utf8 t → Utf8 (decoded t)) → {s : List ℕ} → length s ≤ suc n → Utf8 s → Utf8 (decoded s)
one_more n rec h empty = rw decoded-nil empty
one_more n rec h (sequence {w} {s} f v) =
    let l : length s ≤ n = omega (arith, f.some_byte, length-append w s) in
    by-test (eqb (get_or w 0 0) 38) (marked n rec w s f l v) (plain n rec w s f l v)

valid : (n : ℕ) (s : List ℕ) → length s ≤ n → Utf8 s → Utf8 (decoded s)
valid zero [] h v = rw decoded-nil empty
valid zero (b ∷ s) h v = absurd (omega arith)
valid (suc n) s h v = one_more n (λ t l u. valid n t l u) h v

pub decoded-utf8 : (s : List ℕ) → Utf8 s → Utf8 (decoded s)
decoded-utf8 s v = valid (length s) s (omega arith) v
