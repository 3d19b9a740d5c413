-- The slots: a name has one entry at most that it can be. Each law rests on a test that is computed over each list. Assumes nothing.
--     slot_below                a slot is one of 129
--     slot_entry                a listed name's slot has its number
--     slot_within               and no slot has a number past the list
--     slot_none, slot_hit, slot_miss   what the entry in a name's slot says of its number
--     slot_says                 the laws of slots that a look into one needs
--     initial_none              a name that begins as none listed does has no number
use Rattle.std.specs.Prelude.{Option, Some, None}
use Prim.Native.Nat.{ℕ, zero, suc, ◌+◌, ◌-◌, ◌*◌, ◌%◌, ◌≤◌, ◌<◌}
use mathlib.Core.Path.{◌≡◌, refl, sym, ap, ◌∙◌}
use mathlib.Core.Bool.{Bool, true, false, cond, ◌&&◌, true≢false}
use mathlib.Core.List.{List, [], ◌∷◌, map}
use native.Mathlib.Omega.{arith}
use lib.Dec.{eqb, ltb}
use lib.ListN.{length, get_or, length-map, get_or-map}
use borrow.Author.Tests.{eqb-true, ltb-true, ltb-false}
use Rattle.scan.specs.Names.{lower, same_folded}
use Rattle.scan.proofs.Naming.{folded_map, lower-capital, lower-below, lower-above}
use Rattle.names.specs.declared.tables.Listed.{Listed}
use Rattle.names.specs.declared.tables.Listed.TheVariants.{StyleExtra, InlineExtra, RegionAttr, InlineModelled, Imsc1Extension}
use Rattle.names.specs.Lists.{names, name_of}
use Rattle.names.specs.Numbers.{name_number}
use Rattle.names.specs.Steps.{slot_of, slots, can_begin}
use Rattle.names.proofs.Entries.{both, every, every-at}
use Rattle.names.proofs.NameLaws.{number-name, folded_number}

-- ---- the case of letters does not count
lower-mod : (b : ℕ) → lower b % 32 ≡ b % 32
lower-mod b = by (ltb b 65) refl (ltb 90 b) refl
  where
    by : (x : Bool) → ltb b 65 ≡ x → (y : Bool) → ltb 90 b ≡ y → lower b % 32 ≡ b % 32
    by true e y f = rw (lower-below b (ltb-true b 65 e))
    by false e true f = rw (lower-above b (ltb-true 90 b f))
    by false e false f = rw (lower-capital b (ltb-false b 65 e) (ltb-false 90 b f)) (omega arith)

fold_mod : (s : List ℕ) (k : ℕ) → get_or (map lower s) k 0 % 32 ≡ get_or s k 0 % 32
unfolding lower
fold_mod s k = ap (λ (n : ℕ). n % 32) (get_or-map lower s k 0) ∙ lower-mod (get_or s k 0)

slot_lower : (s : List ℕ) → slot_of (map lower s) ≡ slot_of s
unfolding slot_of
slot_lower s = rw (length-map s lower, fold_mod s 4, fold_mod s (length s - 4))

slot_folded : (s n : List ℕ) → same_folded s n ≡ true → slot_of s ≡ slot_of n
slot_folded s n e = sym (slot_lower s) ∙ (ap slot_of (folded_map s n e) ∙ slot_lower n)

begin_lower : (s : List ℕ) → can_begin (map lower s) ≡ can_begin s
unfolding can_begin
begin_lower s = rw (fold_mod s 0)

begin_folded : (s n : List ℕ) → same_folded s n ≡ true → can_begin s ≡ can_begin n
begin_folded s n e = sym (begin_lower s) ∙ (ap can_begin (folded_map s n e) ∙ begin_lower n)

pub slot_below : (s : List ℕ) → slot_of s < 129
unfolding slot_of
slot_below s = by (ltb (length s) 5)
  where
    by : (b : Bool) → cond b 0 ((length s + 50 * (get_or s 4 0 % 32) + 14 * (get_or s (length s - 4) 0 % 32)) % 129) < 129
    by true = omega arith
    by false = omega arith

-- ---- the tests
abbrev entries_from : Listed → ℕ → List (List ℕ) → Bool
entries_from list k [] = true
entries_from list k (n ∷ ns) = eqb (get_or (slots list) (slot_of n) 0) (k + 35) && entries_from list (k + 1) ns

entries_tested : (list : Listed) → entries_from list 0 (names list) ≡ true
unfolding slot_of
entries_tested StyleExtra = refl
entries_tested InlineExtra = refl
entries_tested RegionAttr = refl
entries_tested InlineModelled = refl
entries_tested Imsc1Extension = refl

within-tested : (list : Listed) → every (λ (c : ℕ). ltb c (length (names list) + 35)) (slots list) ≡ true
within-tested StyleExtra = refl
within-tested InlineExtra = refl
within-tested RegionAttr = refl
within-tested InlineModelled = refl
within-tested Imsc1Extension = refl

begins_tested : (list : Listed) → every can_begin (names list) ≡ true
unfolding can_begin
begins_tested StyleExtra = refl
begins_tested InlineExtra = refl
begins_tested RegionAttr = refl
begins_tested InlineModelled = refl
begins_tested Imsc1Extension = refl

slots-long : (list : Listed) → length (slots list) ≡ 129
slots-long StyleExtra = refl
slots-long InlineExtra = refl
slots-long RegionAttr = refl
slots-long InlineModelled = refl
slots-long Imsc1Extension = refl

entries_at : (list : Listed) (k : ℕ) (ns : List (List ℕ)) → entries_from list k ns ≡ true → (i : ℕ) → i < length ns
    → get_or (slots list) (slot_of (get_or ns i [])) 0 ≡ k + i + 35
entries_at list k [] e i h = absurd (omega arith)
entries_at list k (n ∷ ns) e zero h = eqb-true _ _ (both {b = entries_from list (k + 1) ns} e).0 ∙ omega arith
entries_at list k (n ∷ ns) e (suc i) h =
    entries_at list (k + 1) ns (both {a = eqb (get_or (slots list) (slot_of n) 0) (k + 35)} e).1 i (omega arith) ∙ omega arith

pub slot_within : (list : Listed) (p : ℕ) → p < 129 → get_or (slots list) p 0 < length (names list) + 35
slot_within list p h =
    ltb-true _ _ (every-at (λ (c : ℕ). ltb c (length (names list) + 35)) (slots list) 0 (within-tested list) p (rw (slots-long list) h))

-- ---- what the entry in a name's slot says
module _ (list : Listed) (s : List ℕ) where
  pub slot_entry : (i : ℕ) → name_number list s ≡ Some i → get_or (slots list) (slot_of s) 0 ≡ i + 35
  slot_entry i e =
      let w = number-name list s i e in
      rw (slot_folded s (name_of list i) w.1) (entries_at list 0 (names list) (entries_tested list) i w.0 ∙ omega arith)

  nothing : ((i : ℕ) → name_number list s ≡ Some i → ⊥) → name_number list s ≡ None
  nothing f = by (name_number list s) refl
    where
      by : (n : Option ℕ) → name_number list s ≡ n → name_number list s ≡ None
      by (Some i) e = absurd (f i e)
      by None e = e

  pub initial_none : can_begin s ≡ false → name_number list s ≡ None
  initial_none f = nothing (λ i e.
      let w = number-name list s i e in
      let g : can_begin (name_of list i) ≡ true = every-at can_begin (names list) [] (begins_tested list) i w.0 in
      true≢false (sym g ∙ (sym (begin_folded s (name_of list i) w.1) ∙ f)))

  module _ (x : ℕ) (w : x ≡ get_or (slots list) (slot_of s) 0) where
    pub slot_none : x < 35 → name_number list s ≡ None
    slot_none h = nothing (λ i e. omega (arith, slot_entry i e, w))

    pub slot_hit : 35 ≤ x → same_folded s (name_of list (x - 35)) ≡ true → name_number list s ≡ Some (x - 35)
    slot_hit h e = folded_number list (x - 35) (omega (arith, w, slot_within list (slot_of s) (slot_below s))) s e

    pub slot_miss : 35 ≤ x → same_folded s (name_of list (x - 35)) ≡ false → name_number list s ≡ None
    slot_miss h e = nothing (λ i f.
        let z : x - 35 ≡ i = omega (arith, slot_entry i f, w) in
        let g : same_folded s (name_of list (x - 35)) ≡ true = rw z (number-name list s i f).1 in
        true≢false (sym g ∙ e))

-- what a look into a slot needs
pub ruleset slot_says = (slot_below, slot_within, slot_none, slot_hit, slot_miss)
