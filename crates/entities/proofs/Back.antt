-- What escaped text is read back as, and what it holds. Assumes nothing.
--     back                             decoding undoes escaping
--     absent, absent-run               a byte that is escaped, but `&`, stands nowhere in escaped text
--     text-run                         escaped text is one run of bytes other than `<`
--     escaped-longer, escaped-none     it is no shorter than the text, and empty only for the empty text
--     utf8_escaped                     it is UTF-8 where the text is
use Prim.Native.Nat.{ℕ, ◌≤◌, ◌<◌}
use mathlib.Core.Path.{◌≡◌, refl, sym, ap, ◌∙◌}
use mathlib.Core.Bool.{Bool, true, false, false≢true}
use mathlib.Core.List.{List, [], ◌∷◌, ◌++◌}
use native.Mathlib.Omega.{arith}
use lib.ListN.{length, get_or, length-append}
use lib.Dec.{ltb}
use borrow.Author.Tests.{ne_eqb, eqb-false, lt-ltb, ltb-true, ltb-false, not-true}
use Rattle.scan.specs.Bytes.{other, text_byte, run_end_of, run_length_of}
use Rattle.scan.specs.Names.{same_bytes_of}
use Rattle.scan.specs.Text.{ascii}
use Rattle.utf8.specs.Utf8.{WellFormed, Utf8, empty, sequence, encode}
use Rattle.scan.proofs.Every.{by-test, every-at, every_append}
use Rattle.utf8.proofs.Utf8Laws.{utf8_append, utf8_one, utf8_ascii, sequence-ascii, well_high}
use Rattle.scan.specs.Every.{every}
use Rattle.scan.proofs.Runs.{run-high, run-stops}
use Rattle.entities.specs.Reference.{named, lookup}
use Rattle.entities.specs.Decode.{decoded_from, decoded}
use Rattle.entities.specs.Steps.{taken_byte}
use Rattle.entities.specs.Escape.{plain, escape_byte, escaped}
use Rattle.entities.proofs.Decoding.{decoded-byte, decoded-taken}
use Rattle.entities.proofs.Escapes.{Way, amp, lt, gt, quot, self, way, plain_other, escaped-append, escaped-plain}

-- ---- decoding undoes escaping
back_byte : (q : Bool) (b : ℕ) (s : List ℕ) → Way q b → decoded (escape_byte q b ++ s) ≡ b ∷ decoded s
unfolding escape_byte run_length_of taken_byte lookup named same_bytes_of encode
back_byte q b s (amp e) = rw e (decoded-taken (ascii "amp;" ++ s) refl)
back_byte q b s (lt e) = rw e (decoded-taken (ascii "lt;" ++ s) refl)
back_byte q b s (gt e) = rw e (decoded-taken (ascii "gt;" ++ s) refl)
back_byte q b s (quot e f) = rw (e, f) (decoded-taken (ascii "quot;" ++ s) refl)
back_byte q b s (self a p e) = rw e (decoded-byte b s a)

pub back : (q : Bool) (s : List ℕ) → decoded (escaped q s) ≡ s
unfolding escaped decoded decoded_from
back q [] = refl
back q (b ∷ s) = rw (back_byte q b (escaped q s) (way q b), back q s)

-- ---- what escaped text holds
module _ (p : ℕ → Bool) where
  -- it passes where the bytes of the four references do, and each that stands for itself
  every_byte : (q : Bool) (b : ℕ) → every p (escaped true (38 ∷ [])) ≡ true → every p (escaped true (60 ∷ [])) ≡ true
      → every p (escaped true (62 ∷ [])) ≡ true → every p (escaped true (34 ∷ [])) ≡ true → (plain q b ≡ true → p b ≡ true) → Way q b
      → every p (escape_byte q b) ≡ true
  unfolding escaped escape_byte
  every_byte q b c d e f g (amp w) = rw w c
  every_byte q b c d e f g (lt w) = rw w d
  every_byte q b c d e f g (gt w) = rw w e
  every_byte q b c d e f g (quot w v) = rw (w, v) f
  every_byte q b c d e f g (self a l w) = rw (w, g l)

  every-escaped : (q : Bool) (s : List ℕ) → ((b : ℕ) → every p (escape_byte q b) ≡ true) → every p (escaped q s) ≡ true
  unfolding escaped
  every-escaped q [] h = refl
  every-escaped q (b ∷ s) h = every_append p (escape_byte q b) (escaped q s) (h b) (every-escaped q s h)

module _ (q : Bool) (n : ℕ) (f : plain q n ≡ false) (a : n ≡ 38 → ⊥) where
  other-self : (b : ℕ) → plain q b ≡ true → other n b ≡ true
  other-self b e = rw (ne_eqb b n (λ w. false≢true (sym f ∙ rw (← w) e)))

  other_byte : (b : ℕ) → Way q n → every (other n) (escape_byte q b) ≡ true
  unfolding escaped escape_byte
  other_byte b (amp w) = absurd (a w)
  other_byte b (lt w) = every_byte (other n) q b (rw w) (rw w) (rw w) (rw w) (other-self b) (way q b)
  other_byte b (gt w) = every_byte (other n) q b (rw w) (rw w) (rw w) (rw w) (other-self b) (way q b)
  other_byte b (quot w v) = every_byte (other n) q b (rw w) (rw w) (rw w) (rw w) (other-self b) (way q b)
  other_byte b (self d e w) = absurd (false≢true (sym f ∙ e))

  holds : (s : List ℕ) (k : ℕ) → k < length (escaped q s) → other n (get_or (escaped q s) k 0) ≡ true
  holds s = every-at (other n) (escaped q s) 0 (every-escaped (other n) q s (λ b. other_byte b (way q n)))

  pub absent : (s : List ℕ) (k : ℕ) → k < length (escaped q s) → get_or (escaped q s) k 0 ≡ n → ⊥
  absent s k h e = eqb-false (get_or (escaped q s) k 0) n (not-true _ (holds s k h)) e

  pub absent-run : (s : List ℕ) → run_end_of (other n) (escaped q s) 0 ≡ length (escaped q s)
  absent-run s = by (ltb (run_end_of (other n) (escaped q s) 0) (length (escaped q s))) refl
    where
      by : (t : Bool) → ltb (run_end_of (other n) (escaped q s) 0) (length (escaped q s)) ≡ t → run_end_of (other n) (escaped q s) 0 ≡ length (escaped q s)
      by true e =
          let h : run_end_of (other n) (escaped q s) 0 < length (escaped q s) = ltb-true _ _ e in
          absurd (false≢true (sym (run-stops (other n) (escaped q s) 0 h) ∙ holds s _ h))
      by false e =
          let h : length (escaped q s) ≤ run_end_of (other n) (escaped q s) 0 = ltb-false _ _ e in
          omega (arith, run-high (other n) (escaped q s) 0 (omega arith))

-- `<`, `>`, and in a value `"`
pub no_less : (q : Bool) (s : List ℕ) (k : ℕ) → k < length (escaped q s) → get_or (escaped q s) k 0 ≡ 60 → ⊥
unfolding plain
no_less q = absent q 60 refl (eqb-false 60 38 refl)

pub no_greater : (q : Bool) (s : List ℕ) (k : ℕ) → k < length (escaped q s) → get_or (escaped q s) k 0 ≡ 62 → ⊥
unfolding plain
no_greater q = absent q 62 refl (eqb-false 62 38 refl)

pub no_quote : (s : List ℕ) (k : ℕ) → k < length (escaped true s) → get_or (escaped true s) k 0 ≡ 34 → ⊥
unfolding plain
no_quote = absent true 34 refl (eqb-false 34 38 refl)

pub text-run : (q : Bool) (s : List ℕ) → run_end_of text_byte (escaped q s) 0 ≡ length (escaped q s)
unfolding plain text_byte
text-run q = absent-run q 60 refl (eqb-false 60 38 refl)

pub value-run : (s : List ℕ) → run_end_of (other 34) (escaped true s) 0 ≡ length (escaped true s)
unfolding plain
value-run = absent-run true 34 refl (eqb-false 34 38 refl)

-- ---- how long it is
some_byte : (q : Bool) (b : ℕ) → Way q b → 1 ≤ length (escape_byte q b)
unfolding escape_byte
some_byte q b (amp e) = rw e (omega arith)
some_byte q b (lt e) = rw e (omega arith)
some_byte q b (gt e) = rw e (omega arith)
some_byte q b (quot e f) = rw (e, f) (omega arith)
some_byte q b (self a p e) = rw e (omega arith)

pub escaped-longer : (q : Bool) (s : List ℕ) → length s ≤ length (escaped q s)
unfolding escaped
escaped-longer q [] = omega arith
escaped-longer q (b ∷ s) = simp length-append (omega (arith, some_byte q b (way q b), escaped-longer q s))

pub escaped-none : (q : Bool) (s : List ℕ) → escaped q s ≡ [] → s ≡ []
escaped-none q [] e = refl
escaped-none q (b ∷ s) e = absurd (omega (arith, escaped-longer q (b ∷ s), ap length e))

-- ---- escaped UTF-8 is UTF-8
module _ (q : Bool) where
  high_plain : (b : ℕ) → 128 ≤ b → plain q b ≡ true
  high_plain b h = plain_other q b (λ e. omega arith) (λ e. omega arith) (λ e. omega arith) (λ e. omega arith)

  ascii-escaped : (b : ℕ) → b < 128 → every (λ a. ltb a 128) (escaped q (b ∷ [])) ≡ true
  unfolding escaped escape_byte
  ascii-escaped b h =
      every_append (λ a. ltb a 128) (escape_byte q b) [] (every_byte (λ a. ltb a 128) q b refl refl refl refl (λ e. lt-ltb b 128 h) (way q b)) refl

  -- a sequence that starts below 128 is one byte
  low_formed : (w : List ℕ) → WellFormed w → get_or w 0 0 < 128 → Utf8 (escaped q w)
  low_formed [] f h = absurd (omega (arith, f.some_byte))
  low_formed (b ∷ []) f h =
      utf8_ascii (escaped q (b ∷ [])) (λ i l. ltb-true _ 128 (every-at (λ a. ltb a 128) (escaped q (b ∷ [])) 0 (ascii-escaped b h) i l))
  low_formed (b ∷ c ∷ w) f h = absurd (omega (arith, f.whole, (sequence-ascii (b ∷ c ∷ w) 0 (omega arith) (omega arith)).is))

  formed : (w : List ℕ) → WellFormed w → Utf8 (escaped q w)
  formed w f =
      by-test (ltb (get_or w 0 0) 128)
      (λ e. low_formed w f (ltb-true _ _ e))
      (λ e. rw (escaped-plain q w (λ k l. high_plain _ (well_high w f (ltb-false _ _ e) k l))) (utf8_one f))

  pub utf8_escaped : {s : List ℕ} → Utf8 s → Utf8 (escaped q s)
  unfolding escaped
  utf8_escaped empty = empty
  utf8_escaped (sequence {w} {s} f u) = rw (escaped-append q w s) (utf8_append (formed w f) (utf8_escaped u))
