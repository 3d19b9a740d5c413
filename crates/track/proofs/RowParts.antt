-- What the test of a row says of its cells; z are the used strings, y the used texts. Assumes nothing.
--     param_parts, style_parts, region_parts, cue_parts     a row of each table
--     first-extra                                           the first of some extras, and the others
--     extras_within, extras_are, extra_parts                the extras of an element: they are within the table; row j of them
use Prim.Native.Nat.{ℕ, zero, suc, ◌+◌, ◌*◌, ◌≤◌, ◌<◌}
use mathlib.Core.Path.{◌≡◌}
use mathlib.Core.Bool.{true, ◌&&◌}
use mathlib.Core.List.{List}
use native.Mathlib.Omega.{arith}
use native.Mathlib.Nat.{add-zero}
use lib.ListN.{get_or}
use lib.Dec.{eqb, leb, ltb}
use lib.Ieee.{Float}
use borrow.Author.Tests.{eqb-true, leb-true, ltb-true}
use Rattle.scan.specs.Bytes.{attr_name_byte}
use Rattle.scan.specs.Every.{every}
use Rattle.scan.specs.Part.{string_at}
use Rattle.scan.proofs.Every.{both}
use Rattle.track.specs.Tables.{cell, size_cell}
use Rattle.track.specs.Meaning.{is_span, is_optional, is_flag, is_color, is_size_at, is_extra, are_extras, has_extras, is_param, style_strings}
use Rattle.track.specs.Meaning.{style_values, style_flags, is_style, is_region, are_segments, cue_values, is_cue}
use Rattle.track.proofs.StringLaws.{three, four}

pub record ParamParts (t z : List ℕ) (i : ℕ) : Type 0 where
  pub name : is_span z (cell 4 t i 0) (cell 4 t i 1) ≡ true
  pub value : is_span z (cell 4 t i 2) (cell 4 t i 3) ≡ true
  pub plain : every attr_name_byte (string_at z (cell 4 t i 0) (cell 4 t i 1)) ≡ true

pub param_parts : (t z : List ℕ) (i : ℕ) → is_param t z i ≡ true → ParamParts t z i
unfolding is_param
param_parts t z i h =
    let c : ℕ → ℕ = cell 4 t i in
    let a = three (is_span z (c 0) (c 1)) (is_span z (c 2) (c 3)) (every attr_name_byte (string_at z (c 0) (c 1))) h in
    record { name = a.0; value = a.1; plain = a.2 }

pub record StyleParts (t : List ℕ) (f : List Float) (e z : List ℕ) (i : ℕ) : Type 0 where
  pub name : is_span z (cell 27 t i 0) (cell 27 t i 1) ≡ true
  pub chain : is_span z (cell 27 t i 2) (cell 27 t i 3) ≡ true
  pub color : is_color t (i * 27 + 4) ≡ true
  pub back : is_color t (i * 27 + 9) ≡ true
  pub family : is_optional z (cell 27 t i 14) (cell 27 t i 15) (cell 27 t i 16) ≡ true
  pub size : is_size_at (cell 27 t i 17) (cell 27 t i 18) (cell 27 t i 19) (size_cell f i) ≡ true
  pub bold : cell 27 t i 20 ≤ 1
  pub italic : cell 27 t i 21 ≤ 1
  pub underline : cell 27 t i 22 ≤ 1
  pub strike : cell 27 t i 23 ≤ 1
  pub align : cell 27 t i 24 ≤ 4
  pub extras : has_extras e z 46 (cell 27 t i 25) (cell 27 t i 26) ≡ true

pub style_parts : (t : List ℕ) (f : List Float) (e z : List ℕ) (i : ℕ) → is_style t f e z i ≡ true → StyleParts t f e z i
unfolding is_style style_strings style_values style_flags is_flag cell
style_parts t f e z i h =
    let c : ℕ → ℕ = λ j. get_or t (i * 27 + j) 0 in
    let a = four (style_strings t z (i * 27)) (style_values t (size_cell f i) (i * 27)) (style_flags t (i * 27))
    (has_extras e z 46 (c 25) (c 26)) h in
    let b = three (is_span z (get_or t (i * 27) 0) (c 1)) (is_span z (c 2) (c 3)) (is_optional z (c 14) (c 15) (c 16)) a.0 in
    let v = three (is_color t (i * 27 + 4)) (is_color t (i * 27 + 9)) (is_size_at (c 17) (c 18) (c 19) (size_cell f i)) a.1 in
    let w = four (leb (c 20) 1 && leb (c 21) 1) (leb (c 22) 1) (leb (c 23) 1) (leb (c 24) 4) a.2 in
    let x = both {a = leb (c 20) 1} {b = leb (c 21) 1} w.0 in
    record {
      name = rw (add-zero (i * 27)) b.0;
      chain = b.1;
      color = v.0;
      back = v.1;
      family = b.2;
      size = v.2;
      bold = leb-true (c 20) 1 x.0;
      italic = leb-true (c 21) 1 x.1;
      underline = leb-true (c 22) 1 w.1;
      strike = leb-true (c 23) 1 w.2;
      align = leb-true (c 24) 4 w.3;
      extras = a.3;
    }

pub record RegionParts (t e z : List ℕ) (i : ℕ) : Type 0 where
  pub id : is_span z (cell 4 t i 0) (cell 4 t i 1) ≡ true
  pub extras : has_extras e z 53 (cell 4 t i 2) (cell 4 t i 3) ≡ true

pub region_parts : (t e z : List ℕ) (i : ℕ) → is_region t e z i ≡ true → RegionParts t e z i
unfolding is_region
region_parts t e z i h =
    let c : ℕ → ℕ = cell 4 t i in
    let a = both {a = is_span z (c 0) (c 1)} {b = has_extras e z 53 (c 2) (c 3)} h in
    record { id = a.0; extras = a.1 }

pub record CueParts (t e g z y : List ℕ) (most from i : ℕ) : Type 0 where
  pub style : is_optional z (cell 11 t i 0) (cell 11 t i 1) (cell 11 t i 2) ≡ true
  pub region : is_optional z (cell 11 t i 3) (cell 11 t i 4) (cell 11 t i 5) ≡ true
  pub preserve : cell 11 t i 6 ≤ 1
  pub extras : has_extras e z 47 (cell 11 t i 9) (cell 11 t i 10) ≡ true
  pub begins : cell 11 t i 7 ≡ from
  pub within : from + cell 11 t i 8 ≤ most
  pub segments : are_segments g z y 512 (cell 11 t i 8) from ≡ true

pub cue_parts : (t e g z y : List ℕ) (most from i : ℕ) → is_cue t e g z y most from i ≡ true
    → CueParts t e g z y most from i
unfolding is_cue cue_values is_flag
cue_parts t e g z y most from i h =
    let c : ℕ → ℕ = cell 11 t i in
    let a = four (cue_values t e z i) (eqb (c 7) from) (leb (from + c 8) most) (are_segments g z y 512 (c 8) from) h in
    let b = four (is_optional z (c 0) (c 1) (c 2)) (is_optional z (c 3) (c 4) (c 5)) (leb (c 6) 1) (has_extras e z 47 (c 9) (c 10)) a.0 in
    record {
      style = b.0;
      region = b.1;
      preserve = leb-true (c 6) 1 b.2;
      extras = b.3;
      begins = eqb-true (c 7) from a.1;
      within = leb-true (from + c 8) most a.2;
      segments = a.3;
    }

-- ---- extras
pub record ExtraParts (t z : List ℕ) (most least i : ℕ) : Type 0 where
  pub after : least ≤ cell 3 t i 0
  pub listed : cell 3 t i 0 < most
  pub value : is_span z (cell 3 t i 1) (cell 3 t i 2) ≡ true

module _ (t z : List ℕ) (most : ℕ) where
  is-extra_parts : (least i : ℕ) → is_extra t z most least i ≡ true → ExtraParts t z most least i
  unfolding is_extra
  is-extra_parts least i h =
      let a = three (leb least (cell 3 t i 0)) (ltb (cell 3 t i 0) most) (is_span z (cell 3 t i 1) (cell 3 t i 2)) h in
      record { after = leb-true least (cell 3 t i 0) a.0; listed = ltb-true (cell 3 t i 0) most a.1; value = a.2 }

  pub first-extra : (least n i : ℕ) → are_extras t z most least (suc n) i ≡ true
      → ExtraParts t z most least i × (are_extras t z most (cell 3 t i 0 + 1) n (i + 1) ≡ true)
  unfolding are_extras
  first-extra least n i h =
      let a = both {a = is_extra t z most least i} {b = are_extras t z most (cell 3 t i 0 + 1) n (i + 1)} h in
      (is-extra_parts least i a.0, a.1)

  some_extra : (least n i j : ℕ) → are_extras t z most least n i ≡ true → j < n → ExtraParts t z most 0 (i + j)
  some_extra least zero i j h l = absurd (omega arith)
  some_extra least (suc n) i zero h l =
      let a = (first-extra least n i h).0 in
      rw (add-zero i) (record { after = omega arith; listed = a.listed; value = a.value })
  some_extra least (suc n) i (suc j) h l =
      let q : i + suc j ≡ i + 1 + j = omega arith in
      rw q (some_extra (cell 3 t i 0 + 1) n (i + 1) j (first-extra least n i h).1 (omega arith))

  module _ (first n : ℕ) (h : has_extras t z most first n ≡ true) where
    pub extras_within : first + n ≤ 8192
    unfolding has_extras
    extras_within = leb-true (first + n) 8192 (both {a = leb (first + n) 8192} {b = are_extras t z most 0 n first} h).0

    pub extras_are : are_extras t z most 0 n first ≡ true
    unfolding has_extras
    extras_are = (both {a = leb (first + n) 8192} {b = are_extras t z most 0 n first} h).1

    pub extra_parts : (j : ℕ) → j < n → ExtraParts t z most 0 (first + j)
    extra_parts j l = some_extra 0 n first j extras_are l
