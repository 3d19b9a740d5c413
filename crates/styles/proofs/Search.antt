-- Laws of the rows of ids, and of the search among them by hash. Assumes nothing.
--     rows_last, rows_same, row_last, names-append, ids_last     rows one after the other
--     hash_on, hash_out, mod_small                   the hash, byte by byte
--     next-none, next-some, half_le                  the row after a row
--     met-le, met-deep, stays_none                   the rows that a search meets
--     Searching, search_start, search_step, search_hit, search_none   the search for a name
--     Falling, falling_start, falling_step, falling_ends              the search for the place of a new one
--     second_half, first-half, second_fits, first_fits                a row put into a link
use Prim.Native.Nat.{ℕ, zero, suc, ◌+◌, ◌-◌, ◌*◌, ◌%◌, ◌≤◌, ◌<◌}
use mathlib.Core.Path.{◌≡◌, refl, sym, ap, ◌∙◌}
use mathlib.Core.Bool.{Bool, true, false}
use mathlib.Core.List.{List, [], ◌∷◌, ◌++◌}
use native.Mathlib.Omega.{arith}
use native.Mathlib.Nat.{add-zero, zero-add, mod-lt}
use native.Mathlib.Numerals.{add-one}
use lib.ListN.{length, get_or, drop, drop_of_length-le}
use lib.Seq.{drop-cons}
use lib.Dec.{eqb, leb, ltb}
use borrow.Author.Tests.{eqb-true, eqb-false, ne_eqb, leb-true, leb-false, ltb-true, ltb-false}
use Rattle.scan.specs.Names.{same_bytes_of}
use Rattle.scan.proofs.Naming.{same_eq}
use Rattle.scan.proofs.Every.{by-test}
use Rattle.names.specs.Numbers.{is_in}
use Rattle.decimals.proofs.Tests.{no}
use Rattle.track.specs.Track.{Bytes}
use Rattle.track.specs.Tables.{rows_from}
use Rattle.styles.specs.Ids.{Row, names_of, row_at, rows_in, id_at, ids_in, RowWithin, hash_from, hash_of, turn, half, from_one, after, met, Tree, Held, Ends}

-- ---- rows
module _ {A : Type 0} where
  pub rows_last : (f : ℕ → A) (n i : ℕ) → rows_from f (suc n) i ≡ rows_from f n i ++ (f (i + n) ∷ [])
  unfolding rows_from
  rows_last f zero i = rw (add-zero i)
  rows_last f (suc n) i =
      let e : i + 1 + n ≡ i + suc n = omega arith in
      ap (λ (l : List A). f i ∷ l) (rows_last f n (i + 1) ∙ rw e)

  pub rows_same : (f g : ℕ → A) (n i : ℕ) → ((k : ℕ) → k < i + n → f k ≡ g k) → rows_from f n i ≡ rows_from g n i
  unfolding rows_from
  rows_same f g zero i h = refl
  rows_same f g (suc n) i h = rw (h i (omega arith), rows_same f g n (i + 1) (λ k l. h k (omega arith)))

pub row_last : (t : List ℕ) (n : ℕ) → rows_in t (suc n) ≡ rows_in t n ++ (row_at t n ∷ [])
unfolding rows_in
row_last t n = rw (zero-add n) at (rows_last (row_at t) n 0)

pub names-append : (x z : List ℕ) (l m : List Row) → names_of x z (l ++ m) ≡ names_of x z l ++ names_of x z m
unfolding names_of
names-append x z [] m = refl
names-append x z (a ∷ l) m = rw (names-append x z l m)

pub ids_last : (x z t : List ℕ) (n : ℕ) → ids_in x z t (suc n) ≡ ids_in x z t n ++ (id_at x z t n ∷ [])
unfolding names_of id_at
ids_last x z t n = rw (row_last t n) (names-append x z (rows_in t n) (row_at t n ∷ []))

-- where a row's id stands
module _ (x z t : List ℕ) (i : ℕ) (w : RowWithin x z t i) where
  pub row-text : get_or t (i * 4) 0 ≡ 0 → get_or t (i * 4 + 1) 0 + get_or t (i * 4 + 2) 0 ≤ length x
  row-text e = rw e at w.bytes

  pub row-strings : (get_or t (i * 4) 0 ≡ 0 → ⊥) → get_or t (i * 4 + 1) 0 + get_or t (i * 4 + 2) 0 ≤ length z
  row-strings e = rw (ne_eqb (get_or t (i * 4) 0) 0 e) at w.bytes

module _ (a b : Bytes) where
  last_in : (l : List Bytes) → same_bytes_of a b ≡ true → is_in a (l ++ (b ∷ [])) ≡ true
  unfolding is_in
  last_in [] e = rw e
  last_in (c ∷ l) e = by-test (same_bytes_of a c) (λ f. rw f) (λ f. rw f (last_in l e))

  last_out : (l : List Bytes) → same_bytes_of a b ≡ false → is_in a (l ++ (b ∷ [])) ≡ is_in a l
  unfolding is_in
  last_out [] e = rw e
  last_out (c ∷ l) e = rw (last_out l e)

  more-in : (l : List Bytes) → is_in a l ≡ true → is_in a (l ++ (b ∷ [])) ≡ true
  more-in l h = by-test (same_bytes_of a b) (λ e. last_in l e) (λ e. last_out l e ∙ h)

-- a name that is in a row, and one that is in none
module _ (x z t : List ℕ) (name : Bytes) where
  none_in : is_in name (ids_in x z t 0) ≡ false
  unfolding is_in names_of rows_in rows_from
  none_in = refl

  row_in : (n i : ℕ) → i < n → same_bytes_of name (id_at x z t i) ≡ true → is_in name (ids_in x z t n) ≡ true
  row_in zero i l e = absurd (omega arith)
  row_in (suc n) i l e =
      rw (ids_last x z t n)
      (by-test (eqb i n) (λ q. last_in name (id_at x z t n) (ids_in x z t n) (rw (eqb-true i n q) at e))
      (λ q. more-in name (id_at x z t n) (ids_in x z t n) (row_in n i (omega (arith, eqb-false i n q)) e)))

  no_row : (n : ℕ) → ((i : ℕ) → i < n → same_bytes_of name (id_at x z t i) ≡ false) → is_in name (ids_in x z t n) ≡ false
  no_row zero h = none_in
  no_row (suc n) h =
      rw (ids_last x z t n)
      (last_out name (id_at x z t n) (ids_in x z t n) (h n (omega arith)) ∙ no_row n (λ i l. h i (omega arith)))

-- ---- the hash
pub hash_on : (s : List ℕ) (h i : ℕ) → i < length s → hash_from h (drop i s) ≡ hash_from ((h * 31 + get_or s i 0) % 4096) (drop (i + 1) s)
unfolding hash_from
hash_on s h i l = rw (add-one i, drop-cons s i 0 l)

pub hash_out : (s : List ℕ) (h i : ℕ) → length s ≤ i → hash_from h (drop i s) ≡ h
unfolding hash_from
hash_out s h i l = rw (drop_of_length-le s l)

pub mod_small : (n : ℕ) → n % 4096 < 4096
mod_small n = mod-lt n (omega arith)

-- ---- the tree
from_le : (n k : ℕ) → k < n → from_one k ≤ n
unfolding from_one
from_le n zero l = omega arith
from_le n (suc k) l = omega arith

from-later : (i k : ℕ) → (0 < k → i < k) → 0 < from_one k → suc i < from_one k
unfolding from_one
from-later i zero h l = absurd (omega arith)
from-later i (suc k) h l = omega (arith, h (omega arith))

from-none : (k : ℕ) → from_one k ≡ 0 → k ≡ 0
unfolding from_one
from-none zero h = refl
from-none (suc k) h = absurd (omega arith)

pub from_some : (k : ℕ) → 0 < k → from_one k ≡ suc k
unfolding from_one
from_some zero l = absurd (omega arith)
from_some (suc k) l = refl

-- the two ways through `next_row`
pub next-none : (k r : ℕ) → r ≡ k → r ≡ 0 → 0 ≡ from_one k
unfolding from_one
next-none zero r e z = refl
next-none (suc k) r e z = absurd (omega arith)

pub next-some : (k r : ℕ) → r ≡ k → (r ≡ 0 → ⊥) → r + 1 ≡ from_one k
unfolding from_one
next-some zero r e z = absurd (z e)
next-some (suc k) r e z = rw e (add-one (suc k))

pub half_le : (b : Bool) (k : ℕ) → half b k ≤ k
unfolding half
half_le true k = omega arith
half_le false k = omega arith

module _ (t heads s : List ℕ) where
  pub met-first : met t heads s 0 ≡ get_or heads (hash_of s) 0
  unfolding met
  met-first = refl

  pub met_next : (d i : ℕ) → met t heads s d ≡ suc i → met t heads s (suc d) ≡ from_one (half (turn s d) (get_or t (i * 4 + 3) 0))
  unfolding met after
  met_next d i e = rw e

  pub met-none : (d : ℕ) → met t heads s d ≡ 0 → met t heads s (suc d) ≡ 0
  unfolding met after
  met-none d e = rw e

  stays_none : (d e : ℕ) → d ≤ e → met t heads s d ≡ 0 → met t heads s e ≡ 0
  stays_none d zero l h = let q : d ≡ 0 = omega arith in rw q at h
  stays_none d (suc e) l h =
      by-test (leb d e) (λ q. met-none e (stays_none d e (leb-true d e q) h))
      (λ q. let r : d ≡ suc e = omega (arith, leb-false d e q) in rw r at h)

  -- what is met is nothing, or a row
  pub met-cases : {A : Type 0} (d : ℕ) → (met t heads s d ≡ 0 → A) → ((i : ℕ) → met t heads s d ≡ suc i → A) → A
  met-cases {A} d = go (met t heads s d) refl
    where
      go : (m : ℕ) → met t heads s d ≡ m → (met t heads s d ≡ 0 → A) → ((i : ℕ) → met t heads s d ≡ suc i → A) → A
      go zero e f g = f e
      go (suc i) e f g = g i e

  module _ (n : ℕ) (tree : Tree t heads n) where
    pub met-le : (d : ℕ) → met t heads s d ≤ n
    met-le zero = rw met-first (tree.first (hash_of s))
    met-le (suc d) =
        met-cases d (λ e. rw (met-none d e) (omega arith))
        (λ i e. rw (met_next d i e) (from_le n (half (turn s d) (get_or t (i * 4 + 3) 0)) (tree.next i (turn s d) (omega (arith, e, met-le d)))))

    pub met-deep : (d : ℕ) → 0 < met t heads s d → d < met t heads s d
    met-deep zero l = l
    met-deep (suc d) l =
        met-cases d (λ e. absurd (omega (arith, l, met-none d e)))
        (λ i e.
        let q : met t heads s (suc d) ≡ from_one (half (turn s d) (get_or t (i * 4 + 3) 0)) = met_next d i e in
        omega (
          arith,
          q,
          e,
          met-deep d (omega (arith, e)),
          from-later i (half (turn s d) (get_or t (i * 4 + 3) 0)) (tree.later i (turn s d) (omega (arith, e, met-le d))) (omega (arith, l, q)),
        ))

-- the row after the one that is met, by the program's numbers
module _ (t heads s : List ℕ) (depth next : ℕ) (here : next ≡ met t heads s depth) (some : 0 < next) (second : Bool) (way : second ≡ turn s depth)
    (next' : ℕ) (on : next' ≡ from_one (half second (get_or t ((next - 1) * 4 + 3) 0)))
  where
    pub met-on : next' ≡ met t heads s (depth + 1)
    met-on =
        let q : met t heads s depth ≡ suc (next - 1) = omega (arith, here) in
        rw (add-one depth) (on ∙ rw way (sym (met_next t heads s depth (next - 1) q)))

-- ---- the search for a name
module _ (x z t heads : List ℕ) (name : Bytes) where
  -- the rows that were met have other ids
  pub record Searching (depth next : ℕ) : Type 0 where
    pub here : next ≡ met t heads name depth
    pub others : (d i : ℕ) → d < depth → met t heads name d ≡ suc i → same_bytes_of name (id_at x z t i) ≡ false

  pub search_start : (h next : ℕ) → h ≡ hash_of name → next ≡ get_or heads h 0 → Searching 0 next
  search_start h next e q = record { here = q ∙ rw e (sym (met-first t heads name)); others = λ d i l k. absurd (omega arith) }

  module _ (n : ℕ) (held : Held x z t heads n) (depth next : ℕ) (s : Searching depth next) where
    next_le : next ≤ n
    next_le = rw s.here (met-le t heads name n held.tree depth)

    module _ (some : 0 < next) where
      pub search_deep : depth < n
      search_deep =
          let l : 0 < met t heads name depth = omega (arith, s.here) in
          omega (arith, met-deep t heads name n held.tree depth l, s.here, next_le)

      pub search_row : (next - 1) * 4 + 4 ≤ length t
      search_row = omega (arith, held.tree.rows, next_le)

      pub search_within : RowWithin x z t (next - 1)
      search_within = held.within (next - 1) (omega (arith, next_le))

      pub search_hit : same_bytes_of name (id_at x z t (next - 1)) ≡ true → is_in name (ids_in x z t n) ≡ true
      search_hit e = row_in x z t name n (next - 1) (omega (arith, next_le)) e

      pub search_step : same_bytes_of name (id_at x z t (next - 1)) ≡ false → (second : Bool) → second ≡ turn name depth → (next' : ℕ)
          → next' ≡ from_one (half second (get_or t ((next - 1) * 4 + 3) 0)) → Searching (depth + 1) next'
      search_step f second way next' on = record {
        here = met-on t heads name depth next s.here some second way next' on;
        others = λ d i l k.
            by-test (eqb d depth)
            (λ q.
            let m : met t heads name depth ≡ suc i = rw (eqb-true d depth q) at k in
            let j : next - 1 ≡ i = omega (arith, m, s.here) in
            rw j at f)
            (λ q. s.others d i (omega (arith, eqb-false d depth q)) k);
      }

    pub search_none : next ≤ 0 → is_in name (ids_in x z t n) ≡ false
    search_none l =
        no_row x z t name n (λ i k. by-test (same_bytes_of name (id_at x z t i)) (λ e. absurd (clash i k e)) (λ e. e))
      where
        clash : (i : ℕ) → i < n → same_bytes_of name (id_at x z t i) ≡ true → ⊥
        clash i k e =
            let f = held.found i k in
            let m : met t heads name f.0 ≡ suc i = rw (same_eq name (id_at x z t i) e) f.1 in
            by-test (ltb f.0 depth) (λ q. no (sym e ∙ s.others f.0 i (ltb-true f.0 depth q) m))
            (λ q.
            let none : met t heads name f.0 ≡ 0 =
            stays_none t heads name depth f.0 (omega (arith, ltb-false f.0 depth q)) (omega (arith, s.here)) in
            omega (arith, m, none))

-- ---- the search for the place of a new one
module _ (t heads name : List ℕ) where
  -- the row that was met last, and the way that was taken from it
  pub record Falling (n depth next row : ℕ) (second : Bool) : Type 0 where
    pub here : next ≡ met t heads name depth
    pub some : row ≤ n
    pub first : row ≡ 0 → depth ≡ 0
    pub last : (i : ℕ) → row ≡ suc i → (d : ℕ) × (met t heads name d ≡ suc i) × (turn name d ≡ second) × (depth ≡ suc d)

  pub falling_start : (n h next : ℕ) → h ≡ hash_of name → next ≡ get_or heads h 0 → Falling n 0 next 0 false
  falling_start n h next e q = record {
    here = q ∙ rw e (sym (met-first t heads name));
    some = omega arith;
    first = λ r. refl;
    last = λ i r. absurd (omega arith);
  }

  module _ (n depth next row : ℕ) (side : Bool) (tree : Tree t heads n) (s : Falling n depth next row side) where
    next-in : next ≤ n
    next-in = rw s.here (met-le t heads name n tree depth)

    pub falling_deep : 0 < next → depth < n
    falling_deep some =
        let l : 0 < met t heads name depth = omega (arith, s.here) in
        omega (arith, met-deep t heads name n tree depth l, s.here, next-in)

    pub falling_row : 0 < next → (next - 1) * 4 + 4 ≤ length t
    falling_row some = omega (arith, tree.rows, next-in)

    pub falling_step : 0 < next → (second : Bool) → second ≡ turn name depth → (next' : ℕ)
        → next' ≡ from_one (half second (get_or t ((next - 1) * 4 + 3) 0)) → Falling n (depth + 1) next' next second
    falling_step some second way next' on = record {
      here = met-on t heads name depth next s.here some second way next' on;
      some = next-in;
      first = λ r. absurd (omega (arith, r, some));
      last = λ i r. (depth, sym s.here ∙ r, sym way, add-one depth);
    }

    pub falling_ends : next ≤ 0 → Ends t heads n name row side
    falling_ends l = record {
      some = s.some;
      empty = λ r. sym (met-first t heads name) ∙ (let q : met t heads name depth ≡ 0 = omega (arith, s.here) in rw (s.first r) at q);
      free = λ i r.
          let k = s.last i r in
          let e : met t heads name (suc k.0) ≡ 0 =
          (let q : met t heads name depth ≡ 0 = omega (arith, s.here) in rw k.3 at q) in
          rw (← k.2) (from-none _ (sym (met_next t heads name k.0 i k.1) ∙ e));
      leads = λ i r. let k = s.last i r in (k.0, k.1, k.2);
    }

-- ---- a row put into a link
pub second_half : (link n : ℕ) → half true link ≡ 0 → (half true (link + n * 65536) ≡ n) × (half false (link + n * 65536) ≡ half false link)
unfolding half
second_half link n h = (omega arith, omega arith)

pub first-half : (link n : ℕ) → n < 65536 → half false link ≡ 0 → (half false (link + n) ≡ n) × (half true (link + n) ≡ half true link)
unfolding half
first-half link n l h = (omega arith, omega arith)

-- it stays below 2 ^ 32
pub second_fits : (link n : ℕ) → n < 65536 → half true link ≡ 0 → link + n * 65536 < 4294967296
unfolding half
second_fits link n l h = omega arith

pub first_fits : (link n : ℕ) → link < 4294967296 → n < 65536 → half false link ≡ 0 → link + n < 4294967296
unfolding half
first_fits link n k l h = omega arith
