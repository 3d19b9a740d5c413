-- What inner functions of the program ask and ensure: this file need not be believed.
use Rattle.std.specs.Prelude.{◌≡◌, ℕ, ◌+◌, ◌-◌, ◌^◌, ◌<◌, ◌≤◌, true, false, T, List, [], ◌∷◌, ◌++◌, length, pos, ◌≢◌, slice_index, Float}
use Rattle.std.specs.Float.{fin}
use Rattle.std.specs.Float.Ieee.{le, lt}
use Rattle.scan.specs.Bytes.{digit_byte}
use Rattle.scan.specs.Part.{part}
use Rattle.scan.specs.Posts.{Ends}
use Rattle.numerals.specs.Numerals.{value_from}
use Rattle.decimals.specs.declared.read.Count.{Count}
use Rattle.decimals.specs.declared.read.Run.{Run}
use Rattle.decimals.specs.Decimal.{significant}

-- c has read the digits ds: how many stand after leading zeros, and, while those are at most 18, their value
pub record Counted (ds : List ℕ) (c : Count) : Type 0 where
  pub count : c.significant ≡ significant ds
  pub value_of : c.significant ≤ 18 → c.value ≡ value_from 10 0 ds

-- one digit more
pub record OneMore (before : Count) (b : ℕ) (r : Count) : Type 0 where
  pub counted : (ds : List ℕ) → Counted ds before → Counted (ds ++ (b ∷ [])) r
  pub small : r.value < 10 ^ r.significant
  pub grown : r.significant ≤ before.significant + 1

-- the bytes from a to e are digits, and there is room to count them
pub record Room (before : Count) (s : List ℕ) (a e : ℕ) : Type 0 where
  pub order : a ≤ e
  pub within : e ≤ length s
  pub digital : (k : ℕ) → a ≤ k → k < e → digit_byte (slice_index s k) ≡ true
  pub small : before.value < 10 ^ before.significant
  pub few : before.significant + (e - a) < 2 ^ 63

-- they are read
pub record Further (before : Count) (s : List ℕ) (a e : ℕ) (r : Count) : Type 0 where
  pub counted : (ds : List ℕ) → Counted ds before → Counted (ds ++ part a e s) r
  pub small : r.value < 10 ^ r.significant
  pub grown : r.significant ≤ before.significant + (e - a)

-- the bytes before `whole`, and those from `from` on, are digits
pub record Digital (s : List ℕ) (whole from : ℕ) : Type 0 where
  pub order : whole ≤ from
  pub within : from ≤ length s
  pub before : (k : ℕ) → k < whole → digit_byte (slice_index s k) ≡ true
  pub behind : (k : ℕ) → from ≤ k → k < length s → digit_byte (slice_index s k) ≡ true

-- a point stands at p, and r is the place after it; or none does, and r is p
pub record PointAt (s : List ℕ) (p r : ℕ) : Type 0 where
  pub within : r ≤ length s
  pub after : p ≤ r
  pub point : p < r → (r ≡ p + 1) × (slice_index s p ≡ 46) × (p < length s)
  pub none : r ≡ p → p < length s → slice_index s p ≢ 46

-- the digits from a on are read, after those of a value
pub record Ran (before : ℕ) (s : List ℕ) (a : ℕ) (r : Run) : Type 0 where
  pub ends : Ends digit_byte s a r.end
  pub value_of : r.value ≡ value_from 10 before (part a r.end s)
  pub small : r.value < 10 ^ r.end

-- at least 1 and below 2 ^ 63
pub record Middling (x : Float) : Type 0 where
  pub large : T (le (fin false 1 (pos 0)) x)
  pub small : T (lt x (fin false 1 (pos 63)))
