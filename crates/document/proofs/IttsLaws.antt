-- Where `itts:` stands in the extras as they are written: inside a name or inside a value. Assumes nothing.
--     contains-seek      the search finds it
--     names-itts         which names have it
--     one_itts           an extra: its name or its value
--     name_itts, value-itts
--     rows-itts          extras: one of them
--     extras_one         what is asked of one
use Prim.Native.Nat.{ℕ, zero, suc, ◌+◌, ◌≤◌, ◌<◌}
use mathlib.Core.Path.{◌≡◌, refl, sym, ap, ◌∙◌}
use mathlib.Core.Bool.{Bool, true, false, not, ◌&&◌, ◌||◌}
use mathlib.Core.List.{List, [], ◌∷◌, ◌++◌, append_assoc}
use native.Mathlib.Omega.{arith}
use native.Mathlib.Nat.{zero-add}
use lib.ListN.{length, get_or, drop, drop_of_length-le}
use lib.Dec.{eqb, ltb, leb}
use borrow.Author.Tests.{lt-ltb, le-ltb, le-leb, lt-leb}
use Rattle.scan.specs.Marks.{starts_at, seek}
use Rattle.scan.specs.Posts.{Found}
use Rattle.scan.proofs.Searches.{seek-here, seek-on, seek-out}
use Rattle.entities.specs.Escape.{escape_byte, escaped}
use Rattle.entities.proofs.Escapes.{Way, amp, lt, gt, quot, self, way}
use Rattle.grammar.specs.Tree.{attr}
use Rattle.grammar.specs.Scan.{prefix}
use Rattle.scan.proofs.Every.{by-test, both}
use Rattle.derivation.proofs.SearchLaws.{from_end, prefix-at}
use Rattle.derivation.proofs.RunLaws.{byte_at}
use Rattle.names.specs.declared.tables.Listed.{Listed}
use Rattle.names.specs.declared.tables.Listed.TheVariants.{StyleExtra, InlineExtra, RegionAttr, InlineModelled, Imsc1Extension}
use Rattle.names.specs.Lists.{names, name_of}
use Rattle.track.specs.Track.{Bytes}
use Rattle.track.specs.Tables.{extra_at}
use Rattle.track.specs.Meaning.{bytes_at}
use Rattle.scan.specs.Text.{ascii}
use Rattle.written.specs.Attributes.{contains, attr_text}
use Rattle.writer.specs.Rows.{over, extra_text, ExtrasReady}
use Rattle.document.specs.Roots.{some_row, itts_from, itts_one, itts_rows}

abbrev mark : Bytes
mark = ascii "itts:"

or_assoc : (a b c : Bool) → (a || b) || c ≡ a || (b || c)
or_assoc true b c = refl
or_assoc false b c = refl

-- ---- the search
module _ (s : Bytes) where
  pub contains-seek : (i : ℕ) → contains mark (drop i s) ≡ ltb (seek mark s i) (length s)
  unfolding contains
  contains-seek = from_end (length s) (λ i. contains mark (drop i s) ≡ ltb (seek mark s i) (length s)) out on
    where
      out : (i : ℕ) → length s ≤ i → contains mark (drop i s) ≡ ltb (seek mark s i) (length s)
      out i h = rw (drop_of_length-le s h, seek-out mark s i h, le-ltb i (length s) h) refl

      on : (i : ℕ) → i < length s → ((j : ℕ) → i < j → contains mark (drop j s) ≡ ltb (seek mark s j) (length s))
          → contains mark (drop i s) ≡ ltb (seek mark s i) (length s)
      on i h later =
          let e : prefix mark (get_or s i 0 ∷ drop (i + 1) s) ≡ starts_at s i mark = rw (byte_at s i h) at (prefix-at mark s i) in
          let n : contains mark (drop (i + 1) s) ≡ ltb (seek mark s (i + 1)) (length s) = later (i + 1) (omega arith) in
          by-test (starts_at s i mark)
          (λ t. rw (byte_at s i h, e, t, seek-here mark s i h t, lt-ltb i (length s) h) refl)
          (λ t. rw (byte_at s i h, e, t, seek-on mark s i h t) n)

-- ---- a byte that is not in the mark parts what stands before it from what follows
abbrev Outside : ℕ → Bytes → Type 0
Outside b [] = Unit {0}
Outside b (a ∷ m) = (eqb a b ≡ false) × Outside b m

prefix-part : (m s : Bytes) (b : ℕ) (c : Bytes) → Outside b m → prefix m (s ++ (b ∷ c)) ≡ prefix m s
prefix-part [] s b c h = refl
prefix-part (a ∷ m) [] b c h = rw h.0 refl
prefix-part (a ∷ m) (d ∷ s) b c h = ap (λ (t : Bool). eqb a d && t) (prefix-part m s b c h.1)

contains-part : (s : Bytes) (b : ℕ) (c : Bytes) → Outside b mark → contains mark (s ++ (b ∷ c)) ≡ contains mark s || contains mark c
unfolding contains
contains-part [] b c h = rw h.0 refl
contains-part (d ∷ s) b c h =
    rw (prefix-part mark (d ∷ s) b c h, contains-part s b c h) (sym (or_assoc (prefix mark (d ∷ s)) (contains mark s) (contains mark c)))

-- ---- escapes
-- a byte of the mark stands for itself
abbrev Own : Bytes → Type 0
Own [] = Unit {0}
Own (a ∷ m) = (eqb a 38 ≡ false) × (eqb a 60 ≡ false) × (eqb a 62 ≡ false) × (eqb a 34 ≡ false) × Own m

prefix-way : (a b : ℕ) (m s : Bytes) → Own (a ∷ m) → prefix m (escaped true s) ≡ prefix m s → Way true b
    → prefix (a ∷ m) (escape_byte true b ++ escaped true s) ≡ eqb a b && prefix m s
unfolding escape_byte
prefix-way a b m s h r (amp e) = rw (e, h.0) refl
prefix-way a b m s h r (lt e) = rw (e, h.0, h.1) refl
prefix-way a b m s h r (gt e) = rw (e, h.0, h.2) refl
prefix-way a b m s h r (quot e q) = rw (e, h.0, h.3) refl
prefix-way a b m s h r (self n p e) = rw (e, r) refl

prefix-escaped : (m s : Bytes) → Own m → prefix m (escaped true s) ≡ prefix m s
unfolding escaped
prefix-escaped [] s h = refl
prefix-escaped (a ∷ m) [] h = refl
prefix-escaped (a ∷ m) (b ∷ s) h = prefix-way a b m s h (prefix-escaped m s h.4) (way true b)

own : Own mark
own =
    (refl, refl, refl, refl, (refl, refl, refl, refl, (refl, refl, refl, refl, (refl, refl, refl, refl, (refl, refl, refl, refl, tt)))))

contains-way : (b : ℕ) (s : Bytes) → prefix mark (escaped true (b ∷ s)) ≡ prefix mark (b ∷ s) → contains mark (escaped true s) ≡ contains mark s
    → Way true b → contains mark (escaped true (b ∷ s)) ≡ contains mark (b ∷ s)
unfolding escaped escape_byte contains
contains-way b s f r (amp e) = rw e r
contains-way b s f r (lt e) = rw e r
contains-way b s f r (gt e) = rw e r
contains-way b s f r (quot e q) = rw e r
contains-way b s f r (self n p e) = rw (e, rw e at f, r) refl

contains-escaped : (s : Bytes) → contains mark (escaped true s) ≡ contains mark s
unfolding escaped
contains-escaped [] = refl
contains-escaped (b ∷ s) = contains-way b s (prefix-escaped mark (b ∷ s) own) (contains-escaped s) (way true b)

-- ---- names: a test that is computed over the lists
same_test_lem : Bool → Bool → Bool
same_test_lem true b = b
same_test_lem false b = not b

same_test : (a b : Bool) → same_test_lem a b ≡ true → a ≡ b
unfolding same_test_lem
same_test true true e = refl
same_test true false e = sym e
same_test false true e = e
same_test false false e = refl

-- the names from the k-th on have the mark from the f-th on
agrees : ℕ → List Bytes → ℕ → Bool
unfolding same_test_lem contains
agrees f [] k = true
agrees f (n ∷ l) k = same_test_lem (contains mark n) (leb f k) && agrees f l (k + 1)

tested : (list : Listed) → agrees (itts_from list) (names list) 0 ≡ true
unfolding agrees
tested StyleExtra = refl
tested InlineExtra = refl
tested RegionAttr = refl
tested InlineModelled = refl
tested Imsc1Extension = refl

agrees_at : (f : ℕ) (l : List Bytes) (k i : ℕ) → agrees f l k ≡ true → i < length l → contains mark (get_or l i []) ≡ leb f (k + i)
unfolding agrees
agrees_at f [] k i e h = absurd (omega arith)
agrees_at f (n ∷ l) k zero e h =
    let z : k + 0 ≡ k = omega arith in
    rw z (same_test (contains mark n) (leb f k) (both {a = same_test_lem (contains mark n) (leb f k)} {b = agrees f l (k + 1)} e).0)
agrees_at f (n ∷ l) k (suc i) e h =
    let z : k + suc i ≡ k + 1 + i = omega arith in
    rw z (agrees_at f l (k + 1) i (both {a = same_test_lem (contains mark n) (leb f k)} {b = agrees f l (k + 1)} e).1 (omega arith))

names-itts : (list : Listed) (k : ℕ) → k < length (names list) → contains mark (name_of list k) ≡ leb (itts_from list) k
names-itts list k h = agrees_at (itts_from list) (names list) 0 k (tested list) h ∙ rw (zero-add k) refl

-- ---- an extra
or_false : (a : Bool) → a || false ≡ a
or_false true = refl
or_false false = refl

quote-outside : Outside 34 mark
quote-outside = (refl, (refl, (refl, (refl, (refl, tt)))))

equals-outside : Outside 61 mark
equals-outside = (refl, (refl, (refl, (refl, (refl, tt)))))

attr-itts : (n v : Bytes) → contains mark (attr_text (attr n v)) ≡ contains mark n || contains mark v
unfolding contains
attr-itts n v =
    contains-part n 61 (34 ∷ (escaped true v ++ (34 ∷ []))) equals-outside
    ∙ ap (λ (t : Bool). contains mark n || t) (contains-part (escaped true v) 34 [] quote-outside ∙ (or_false _ ∙ contains-escaped v))

-- and what is written after it
attr-then : (n v r : Bytes) → contains mark (attr_text (attr n v) ++ r) ≡ contains mark (attr_text (attr n v)) || contains mark r
unfolding contains
attr-then n v r =
    let p : Bytes = 32 ∷ (n ++ (61 ∷ 34 ∷ escaped true v)) in
    let a : (w : Bytes) → attr_text (attr n v) ++ w ≡ p ++ (34 ∷ w) = λ w. simp append_assoc in
    let b : attr_text (attr n v) ≡ p ++ (34 ∷ []) = ap (λ (l : Bytes). 32 ∷ l) (sym (append_assoc n (61 ∷ 34 ∷ escaped true v) (34 ∷ []))) in
    ap (contains mark) (a r) ∙ (contains-part p 34 r quote-outside
    ∙ ap (λ (t : Bool). t || contains mark r) (sym (ap (contains mark) b ∙ (contains-part p 34 [] quote-outside ∙ or_false (contains mark p)))))

module _ (list : Listed) (e z : List ℕ) where
  -- n rows from row i on
  pub rows-itts : (n i : ℕ) → itts_rows list e z i n ≡ some_row (itts_one list e z) n i
  unfolding itts_rows itts_one some_row over extra_text contains
  rows-itts zero i = refl
  rows-itts (suc n) i =
      attr-then (name_of list (extra_at e i).number) (bytes_at z (extra_at e i).value) (over (extra_text list e z) n (i + 1))
      ∙ ap (λ (t : Bool). itts_one list e z i || t) (rows-itts n (i + 1))

  module _ (i : ℕ) (h : (extra_at e i).number < length (names list)) where
    one_itts : itts_one list e z i ≡ leb (itts_from list) (extra_at e i).number || contains mark (bytes_at z (extra_at e i).value)
    unfolding itts_one extra_text
    one_itts =
        attr-itts (name_of list (extra_at e i).number) (bytes_at z (extra_at e i).value)
        ∙ ap (λ (t : Bool). t || contains mark (bytes_at z (extra_at e i).value)) (names-itts list (extra_at e i).number h)

    pub name_itts : itts_from list ≤ (extra_at e i).number → itts_one list e z i ≡ true
    name_itts g = one_itts ∙ rw (le-leb (itts_from list) (extra_at e i).number g) refl

    pub value-itts :
        (extra_at e i).number < itts_from list → (r k : ℕ) → Found mark (bytes_at z (extra_at e i).value) 0 r → k ≡ length
        (bytes_at z (extra_at e i).value)
        → itts_one list e z i ≡ ltb r k
    value-itts g r k f q =
        one_itts ∙ rw (lt-leb (itts_from list) (extra_at e i).number g, q, f.is) (contains-seek (bytes_at z (extra_at e i).value) 0)

-- one of some extras
pub extras_one : (list : Listed) (e z : List ℕ) (first n i : ℕ) → ExtrasReady list e z first n → first ≤ i → i < first + n → ExtrasReady list e z i 1
extras_one list e z first n i r a b = record {
  cells = omega (arith, r.cells);
  named = λ j c d. r.named j (omega arith) (omega arith);
  within = λ j c d. r.within j (omega arith) (omega arith);
}
