-- One attribute, a law for each way. Assumes nothing.
use Prim.Native.Nat.{ℕ, ◌+◌, ◌-◌, ◌≤◌, ◌<◌}
use mathlib.Core.Path.{◌≡◌, refl, sym, ◌∙◌}
use mathlib.Core.Bool.{Bool, true, false, ◌||◌, true≢false}
use mathlib.Core.List.{List}
use mathlib.Core.Logic.{◌⊎◌, inl, inr}
use native.Mathlib.Omega.{arith}
use lib.ListN.{length, get_or}
use lib.Dec.{eqb, ltb}
use borrow.Author.Tests.{lt-ltb, le-ltb, ne_eqb, ltb-true, ltb-false, eqb-true}
use Rattle.scan.specs.Bytes.{blank, name_byte, attr_name_byte, other}
use Rattle.scan.specs.Marks.{starts_at}
use Rattle.scan.specs.Posts.{Ends}
use Rattle.tree.specs.Read.{equals, quote_byte, attr, flaw, quoted, bare, value_at, attr_at}
use Rattle.scan.proofs.Runs.{run-here}

pub quote-yes : (b : ℕ) → (b ≡ 34) ⊎ (b ≡ 39) → quote_byte b ≡ true
unfolding quote_byte
quote-yes b (inl e) = rw e
quote-yes b (inr e) = rw e

pub quote-not : (b : ℕ) → (b ≡ 34 → ⊥) → (b ≡ 39 → ⊥) → quote_byte b ≡ false
unfolding quote_byte
quote-not b e f = rw (ne_eqb b 34 e, ne_eqb b 39 f)

-- ---- a value
module _ (s : List ℕ) (p e q v : ℕ) (h : Ends blank s (q + 1) v) where
  pub value_none : length s ≤ v → value_at s p e q ≡ flaw 9 q
  unfolding value_at
  value_none l = rw (← h.is, le-ltb v (length s) l)

  pub value-bare : (z r : ℕ) → v < length s → quote_byte (get_or s v 0) ≡ false → Ends name_byte s v z → Ends blank s z r
      → value_at s p e q ≡ attr (record { name = p; name_len = e - p; value = v; value_len = z - v }) r
  unfolding value_at bare
  value-bare z r l c w x = rw (← h.is, lt-ltb v (length s) l, c, ← w.is, ← x.is)

  module _ (z : ℕ) (l : v < length s) (c : quote_byte (get_or s v 0) ≡ true) (w : Ends (other (get_or s v 0)) s (v + 1) z) where
    pub value-quoted : (r : ℕ) → z < length s → Ends blank s (z + 1) r
        → value_at s p e q ≡ attr (record { name = p; name_len = e - p; value = v + 1; value_len = z - (v + 1) }) r
    unfolding value_at quoted
    value-quoted r g x = rw (← h.is, lt-ltb v (length s) l, c, ← w.is, lt-ltb z (length s) g, ← x.is)

    pub value-unclosed : length s ≤ z → value_at s p e q ≡ attr (record { name = p; name_len = e - p; value = v + 1; value_len = z - (v + 1) }) z
    unfolding value_at quoted
    value-unclosed g = rw (← h.is, lt-ltb v (length s) l, c, ← w.is, le-ltb z (length s) g)

-- ---- a name
module _ (s : List ℕ) (p e q : ℕ) (h : Ends attr_name_byte s p e) (g : Ends blank s e q) where
  pub attr-value : starts_at s q equals ≡ true → attr_at s p ≡ value_at s p e q
  unfolding attr_at
  attr-value c = rw (← h.is, ← g.is, c)

  pub attr-bare : starts_at s q equals ≡ false → attr_at s p ≡ attr (record { name = p; name_len = e - p; value = e; value_len = 0 }) q
  unfolding attr_at
  attr-bare c = rw (← h.is, ← g.is, c)

or_false : (t : Bool) → t || false ≡ t
or_false true = refl
or_false false = refl

named : (b : ℕ) → eqb b 61 ≡ false → name_byte b ≡ attr_name_byte b
unfolding name_byte attr_name_byte
named b e = rw (e, or_false)

equals-here : (s : List ℕ) (p : ℕ) → p < length s → get_or s p 0 ≡ 61 → starts_at s p equals ≡ true
unfolding starts_at
equals-here s p h e = rw (lt-ltb p (length s) h, e)

blank-equals : (b : ℕ) → b ≡ 61 → blank b ≡ false
unfolding blank
blank-equals b e = rw e

-- an attribute has at least a byte
module _ (s : List ℕ) (p e q : ℕ) (l : p < length s) (n : name_byte (get_or s p 0) ≡ true) (h : Ends attr_name_byte s p e) (g : Ends blank s e q)
    (c : starts_at s q equals ≡ false) where
  named_none : e ≡ p → ⊥
  named_none z = go (eqb (get_or s p 0) 61) refl
    where
      go : (t : Bool) → eqb (get_or s p 0) 61 ≡ t → ⊥
      go false w = true≢false (sym n ∙ (named (get_or s p 0) w ∙ rw z at (h.stops (omega arith))))
      go true w =
          let b : get_or s p 0 ≡ 61 = eqb-true (get_or s p 0) 61 w in
          let k : q ≡ p = g.is ∙ rw z (run-here blank s p l (blank-equals (get_or s p 0) b)) in
          true≢false (sym (equals-here s p l b) ∙ rw k at c)

  pub attr-beyond : p + 1 ≤ q
  attr-beyond = go (ltb p e) refl
    where
      go : (t : Bool) → ltb p e ≡ t → p + 1 ≤ q
      go true w = omega (arith, ltb-true p e w)
      go false w =
          let z : e ≡ p = omega (arith, ltb-false p e w) in
          absurd (named_none z)
