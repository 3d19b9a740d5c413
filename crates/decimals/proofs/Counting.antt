-- Digits counted one by one. Assumes nothing.
--     one_zero, one_past, one_more   one digit more
--     going_start, going_asks, going_step, going_done   the digits of a part
--     running_start, running_step, running_stop, running_out   the digits of a short text
use Rattle.std.proofs.Common.{◌≡◌, ℕ, suc, ◌+◌, ◌-◌, ◌*◌, ◌^◌, ◌<◌, ◌≤◌, Bool, true, false, cond, ◌&&◌, eqb, leb, List, [], ◌∷◌, ◌++◌, length, get_or, drop, sym, refl, ap, ◌∙◌, append_assoc, append-nil, pow-suc, add-one, arith, lit≤, length-append, length-drop, get_or-drop, take-suc, eq-eqb, ne_eqb, leb-true}
use native.Mathlib.Nat.{one-le-pow, pow-le-pow_right}
use Rattle.scan.specs.Bytes.{digit_byte, run_end_of}
use Rattle.scan.specs.Part.{part}
use Rattle.scan.proofs.Runs.{run_on, ends-here, ends-out}
use Rattle.numerals.specs.Numerals.{value_from}
use Rattle.numerals.proofs.Numerals.{value-append, digit-byte}
use Rattle.decimals.specs.declared.read.Count.{Count}
use Rattle.decimals.specs.Decimal.{significant}
use Rattle.decimals.specs.Steps.{Counted, OneMore, Room, Further, Ran}

-- ---- digits after leading zeros
sig_zero : (ds : List ℕ) (b : ℕ) → significant ds ≡ 0 → b ≡ 48 → significant (ds ++ (b ∷ [])) ≡ 0
unfolding significant
sig_zero [] b n e = rw (eq-eqb b 48 e)
sig_zero (x ∷ ds) b n e = by (eqb x 48) (λ z. sig_zero ds b z e) n
  where
    by : (t : Bool) → (significant ds ≡ 0 → significant (ds ++ (b ∷ [])) ≡ 0) → cond t (significant ds) (length (x ∷ ds)) ≡ 0
        → cond t (significant (ds ++ (b ∷ []))) (length (x ∷ (ds ++ (b ∷ [])))) ≡ 0
    by true r n = r n
    by false r n = absurd (omega arith)

sig_more : (ds : List ℕ) (b : ℕ) → (significant ds ≡ 0 → b ≡ 48 → ⊥) → significant (ds ++ (b ∷ [])) ≡ significant ds + 1
unfolding significant
sig_more [] b n = rw (ne_eqb b 48 (n refl))
sig_more (x ∷ ds) b n = by (eqb x 48) (sig_more ds b) n
  where
    by : (t : Bool) → ((significant ds ≡ 0 → b ≡ 48 → ⊥) → significant (ds ++ (b ∷ [])) ≡ significant ds + 1)
        → (cond t (significant ds) (length (x ∷ ds)) ≡ 0 → b ≡ 48 → ⊥)
        → cond t (significant (ds ++ (b ∷ []))) (length (x ∷ (ds ++ (b ∷ [])))) ≡ cond t (significant ds) (length (x ∷ ds)) + 1
    by true r n = r n
    by false r n = omega (arith, length-append ds (b ∷ []))

value-more : (v : ℕ) (ds : List ℕ) (b : ℕ) → 48 ≤ b → b ≤ 57 → value_from 10 v (ds ++ (b ∷ [])) ≡ value_from 10 v ds * 10 + (b - 48)
unfolding value_from
value-more v ds b l h = value-append 10 v ds (b ∷ []) ∙ rw (digit-byte b l h)

-- a digit is from 48 to 57
pub digit_bounds : (b : ℕ) → digit_byte b ≡ true → (48 ≤ b) × (b ≤ 57)
unfolding digit_byte
digit_bounds b e = by (leb 48 b) (leb b 57) refl refl e
  where
    by : (l h : Bool) → leb 48 b ≡ l → leb b 57 ≡ h → (l && h) ≡ true → (48 ≤ b) × (b ≤ 57)
    by true true l h e = (leb-true 48 b l, leb-true b 57 h)
    by true false l h e = let z : ◌≡◌ {A = ℕ} 0 1 = cc in absurd (omega arith)
    by false h l _ e = let z : ◌≡◌ {A = ℕ} 0 1 = cc in absurd (omega arith)

-- ---- one digit more
module _ (c : Count) (b : ℕ) where
  pub one_zero : c.significant ≡ 0 → b ≡ 48 → c.value < 10 ^ c.significant → OneMore c b c
  one_zero n e h = record {
    counted = λ ds k. record {
      count = n ∙ sym (sig_zero ds b (omega (arith, k.count)) e);
      value_of = λ l.
          let v : c.value ≡ value_from 10 0 ds = k.value_of l in
          let z : c.value < 10 ^ 0 = rw n at h in
          sym (value-more 0 ds b (omega arith) (omega arith) ∙ omega arith);
    };
    small = h;
    grown = omega arith;
  }

  module _ (n : c.significant ≡ 0 → b ≡ 48 → ⊥) where
    more : (ds : List ℕ) → Counted ds c → c.significant + 1 ≡ significant (ds ++ (b ∷ []))
    more ds k = ap (λ (x : ℕ). x + 1) k.count ∙ sym (sig_more ds b (λ z. n (k.count ∙ z)))

    pub one_past : 18 < c.significant + 1 → OneMore c b (record { value = 0; significant = c.significant + 1 })
    one_past h = record {
      counted = λ ds k. record { count = more ds k; value_of = λ l. absurd (omega arith) };
      small = one-le-pow (c.significant + 1) 10 (omega arith);
      grown = omega arith;
    }

    pub one_more : 48 ≤ b → b ≤ 57 → c.value < 10 ^ c.significant
        → OneMore c b (record { value = c.value * 10 + (b - 48); significant = c.significant + 1 })
    one_more l h s = record {
      counted = λ ds k. record {
        count = more ds k;
        value_of = λ w. rw (k.value_of (omega arith)) (sym (value-more 0 ds b l h));
      };
      small = rw (add-one c.significant, pow-suc 10 c.significant) (omega arith);
      grown = omega arith;
    }

-- a value of at most 18 digits fits, with one digit more
pub room : (v n : ℕ) → v < 10 ^ n → n + 1 ≤ 18 → v < 10 ^ 17
room v n h l = let g : n ≤ 17 = omega arith in let p : 10 ^ n ≤ 10 ^ 17 = pow-le-pow_right (lit≤ tt) g in omega arith

-- ---- the digits of a part
part-more : (s : List ℕ) (a i : ℕ) → a ≤ i → i < length s → part a (i + 1) s ≡ part a i s ++ (get_or s i 0 ∷ [])
part-more s a i h l =
    let e : i + 1 - a ≡ suc (i - a) = omega arith in
    let g : i - a < length (drop a s) = simp length-drop (omega arith) in
    let w : a + (i - a) ≡ i = omega arith in
    rw e (take-suc (drop a s) (i - a) 0 g ∙ rw (get_or-drop a s (i - a) 0, w))

-- the loop at i: what is read is the part before it
pub record Going (before : Count) (s : List ℕ) (a e : ℕ) (c : Count) (i : ℕ) : Type 0 where
  pub after : a ≤ i
  pub within : i ≤ e
  pub read : Further before s a i c

module _ (before : Count) (s : List ℕ) (a e : ℕ) (r : Room before s a e) where
  pub going_start : Going before s a e before a
  going_start =
      let z : a - a ≡ 0 = omega arith in
      record {
        after = omega arith;
        within = r.order;
        read = record {
          counted = λ ds k. rw (z, append-nil ds) k;
          small = r.small;
          grown = omega arith;
        };
      }

  module _ (c : Count) (i : ℕ) (g : Going before s a e c i) where
    pub going_asks : i < e → (48 ≤ get_or s i 0) × (get_or s i 0 ≤ 57) × (c.value < 10 ^ c.significant) × (c.significant < 2 ^ 63)
    going_asks h =
        let b = digit_bounds (get_or s i 0) (r.digital i g.after h) in
        (b.0, b.1, g.read.small, omega (arith, g.read.grown, r.few))

    pub going_step : (d : Count) → i < e → OneMore c (get_or s i 0) d → Going before s a e d (i + 1)
    going_step d h o = record {
      after = omega (arith, g.after);
      within = omega arith;
      read = record {
        counted = λ ds k.
            rw (part-more s a i g.after (omega (arith, r.within)), ← (append_assoc ds (part a i s) (get_or s i 0 ∷ [])))
            (o.counted (ds ++ part a i s) (g.read.counted ds k));
        small = o.small;
        grown = omega (arith, g.read.grown, o.grown, g.after);
      };
    }

    pub going_done : e ≤ i → Further before s a e c
    going_done h = let z : i ≡ e = omega (arith, g.within) in rw z at g.read

-- ---- the digits of a short text
-- the loop at i: what is read is the part before it, and the run goes on there
pub record Running (before : ℕ) (s : List ℕ) (a v i : ℕ) : Type 0 where
  pub after : a ≤ i
  pub within : i ≤ length s
  pub same : run_end_of digit_byte s a ≡ run_end_of digit_byte s i
  pub value_of : v ≡ value_from 10 before (part a i s)
  pub small : v < 10 ^ i

module _ (before : ℕ) (s : List ℕ) (a : ℕ) where
  pub running_start : a ≤ length s → before < 10 ^ a → Running before s a before a
  unfolding value_from
  running_start l h =
      let z : a - a ≡ 0 = omega arith in
      record { after = omega arith; within = l; same = refl; value_of = rw z refl; small = h }

  module _ (v i : ℕ) (g : Running before s a v i) where
    pub running_step : i < length s → digit_byte (get_or s i 0) ≡ true → Running before s a (v * 10 + (get_or s i 0 - 48)) (i + 1)
    running_step l d =
        let b = digit_bounds (get_or s i 0) d in
        record {
          after = omega (arith, g.after);
          within = omega arith;
          same = g.same ∙ run_on digit_byte s i l d;
          value_of = rw (part-more s a i g.after l, g.value_of) (sym (value-more before (part a i s) (get_or s i 0) b.0 b.1));
          small = rw (add-one i, pow-suc 10 i) (omega (arith, g.small, b.1));
        }

    pub running_stop : i < length s → digit_byte (get_or s i 0) ≡ false → Ran before s a (record { end = i; value = v })
    running_stop l d = record { ends = ends-here digit_byte s a i g.after g.same l d; value_of = g.value_of; small = g.small }

    pub running_out : length s ≤ i → Ran before s a (record { end = i; value = v })
    running_out l = record { ends = ends-out digit_byte s a i g.after g.same g.within l; value_of = g.value_of; small = g.small }

-- what the loops over digits need
pub ruleset going = (going_start, going_asks, going_step, going_done)

pub ruleset running = (running_start, running_stop, running_out, digit_bounds)

pub ruleset run_ends = (run_on, ends-here, ends-out)
