-- One id more in the rows. Assumes nothing.
--     sets_cell                                       a cell that was set
--     Changed, changed_first, changed_next            what is written
--     leads_first, leads_next, added                  the rows with the new one, which a search for it meets
--     add_first, add_next, free_link                  the two ways through `add_id`
use Prim.Native.Nat.{ℕ, zero, suc, ◌+◌, ◌-◌, ◌*◌, ◌≤◌, ◌<◌}
use mathlib.Core.Path.{◌≡◌, refl, sym, ap, ◌∙◌}
use mathlib.Core.Bool.{Bool, true, false, not}
use mathlib.Core.Logic.{◌⊎◌, inl, inr}
use mathlib.Core.List.{List, [], ◌∷◌}
use native.Mathlib.Omega.{arith}
use native.Mathlib.Nat.{add-zero}
use native.Mathlib.Numerals.{add-one}
use lib.ListN.{length, get_or, set, length-set}
use lib.Seq.{sets, length-sets, get_or-set_same, get_or-set_other}
use lib.Dec.{eqb, ltb}
use borrow.Author.Tests.{eqb-true, eqb-false, ltb-true, ltb-false}
use Rattle.scan.specs.Part.{string_at}
use Rattle.scan.proofs.Stores.{sets_other}
use Rattle.scan.proofs.Every.{by-test}
use Rattle.track.specs.Track.{Bytes}
use Rattle.styles.specs.Ids.{source_of, bytes_of, row_at, rows_in, id_at, RowWithin, hash_of, turn, half, from_one, met, Tree, Held, Ends, Added}
use Rattle.styles.specs.Ids.{AddPost}
use Rattle.styles.proofs.Search.{rows_same, row_last, from_some, met-first, met_next, met-none, met-cases, met-le}

pub sets_cell : (w t : List ℕ) (i k : ℕ) → k < length w → i + length w ≤ length t → get_or (sets t i w) (i + k) 0 ≡ get_or w k 0
sets_cell [] t i k h l = absurd (omega arith)
sets_cell (x ∷ w) t i zero h l =
    rw (add-zero i) (sets_other w (set t i x) (suc i) i (inl (omega arith)) ∙ get_or-set_same t i x 0 (omega arith))
sets_cell (x ∷ w) t i (suc k) h l =
    let e : i + suc k ≡ suc i + k = omega arith in
    rw e (sets_cell w (set t i x) (suc i) k (omega arith) (simp length-set (omega arith)))

-- no cell but a link stands where a link does
apart : (i k j : ℕ) → j < 3 → k * 4 + j ≡ i * 4 + 3 → ⊥
apart i k j l e = by-test (ltb i k) (λ h. omega (arith, ltb-true i k h)) (λ h. omega (arith, ltb-false i k h))

from_zero : (k i : ℕ) → k ≡ 0 → from_one k ≡ suc i → ⊥
unfolding from_one
from_zero k i z g = let y : ◌≡◌ {A = ℕ} 0 (suc i) = rw z at g in omega arith

half-zero : (b : Bool) (k : ℕ) → k ≡ 0 → half b k ≡ 0
unfolding half
half-zero true k e = rw e
half-zero false k e = rw e

-- rows
row_same : (t t' : List ℕ) (i : ℕ) → get_or t' (i * 4) 0 ≡ get_or t (i * 4) 0 → get_or t' (i * 4 + 1) 0 ≡ get_or t (i * 4 + 1) 0
    → get_or t' (i * 4 + 2) 0 ≡ get_or t (i * 4 + 2) 0 → row_at t' i ≡ row_at t i
unfolding row_at
row_same t t' i a b c = rw (a, b, c)

row_here : (t : List ℕ) (i source place len : ℕ) → get_or t (i * 4) 0 ≡ source → get_or t (i * 4 + 1) 0 ≡ place → get_or t (i * 4 + 2) 0 ≡ len
    → row_at t i ≡ record { source = source; place = place; len = len }
unfolding row_at
row_here t i source place len a b c = rw (a, b, c)

rows_are : (t t' : List ℕ) (n : ℕ) → ((i : ℕ) → i < n → row_at t' i ≡ row_at t i) → rows_in t' n ≡ rows_in t n
unfolding rows_in
rows_are t t' n h = rows_same (row_at t') (row_at t) n 0 (λ k l. h k (omega arith))

-- ---- the rows and heads with one more
-- row n stands as said, with an empty link; one half of a link, or a head, that was empty leads to it, and all others are as they were
pub record Changed (t heads : List ℕ) (n source place len : ℕ) (t' heads' : List ℕ) : Type 0 where
  pub room : n * 4 + 4 ≤ length t'
  pub buckets : length heads' ≡ length heads
  pub source-of : get_or t' (n * 4) 0 ≡ source
  pub place_of : get_or t' (n * 4 + 1) 0 ≡ place
  pub len_of : get_or t' (n * 4 + 2) 0 ≡ len
  pub leaf : get_or t' (n * 4 + 3) 0 ≡ 0
  pub cells : (i j : ℕ) → i < n → j < 3 → get_or t' (i * 4 + j) 0 ≡ get_or t (i * 4 + j) 0
  pub links : (i : ℕ) (b : Bool) → i < n → (half b (get_or t' (i * 4 + 3) 0) ≡ half b (get_or t (i * 4 + 3) 0))
      ⊎ ((half b (get_or t (i * 4 + 3) 0) ≡ 0) × (half b (get_or t' (i * 4 + 3) 0) ≡ n))
  pub firsts : (h : ℕ) → (get_or heads' h 0 ≡ get_or heads h 0) ⊎ ((get_or heads h 0 ≡ 0) × (get_or heads' h 0 ≡ n + 1))
  pub behind : (k : ℕ) → (n + 1) * 4 ≤ k → get_or t' k 0 ≡ get_or t k 0

module _ (t heads : List ℕ) (n source place len : ℕ) (room : n * 4 + 4 ≤ length t) (t₁ : List ℕ)
    (laid : t₁ ≡ sets t (n * 4) (source ∷ place ∷ len ∷ 0 ∷ []))
  where
    abbrev row : List ℕ
    row = source ∷ place ∷ len ∷ 0 ∷ []

    long : length t₁ ≡ length t
    long = rw laid (length-sets t (n * 4) row)

    before : (k : ℕ) → k < n * 4 → get_or t₁ k 0 ≡ get_or t k 0
    before k l = rw laid (sets_other row t (n * 4) k (inl l))

    cell-of : (k : ℕ) → k < 4 → get_or t₁ (n * 4 + k) 0 ≡ get_or row k 0
    cell-of k l = rw laid (sets_cell row t (n * 4) k l room)

    pub old_link : (i : ℕ) → i < n → get_or t₁ (i * 4 + 3) 0 ≡ get_or t (i * 4 + 3) 0
    old_link i l = before (i * 4 + 3) (omega arith)

    -- an empty bucket
    pub changed_first : (h : ℕ) (heads' : List ℕ) → h < length heads → get_or heads h 0 ≡ 0 → heads' ≡ set heads h (n + 1)
        → Changed t heads n source place len t₁ heads'
    changed_first h heads' l e q = record {
      room = rw long room;
      buckets = rw q (length-set heads h (n + 1));
      source-of = rw (add-zero (n * 4)) at (cell-of 0 (omega arith));
      place_of = cell-of 1 (omega arith);
      len_of = cell-of 2 (omega arith);
      leaf = cell-of 3 (omega arith);
      cells = λ i j a b. before (i * 4 + j) (omega arith);
      links = λ i b a. inl (rw (old_link i a));
      firsts = λ g.
          by-test (eqb g h)
          (λ k.
          let r : g ≡ h = eqb-true g h k in
          inr (rw r e, rw (r, q) (get_or-set_same heads h (n + 1) 0 l)))
          (λ k. inl (rw q (get_or-set_other heads h g (n + 1) 0 (eqb-false g h k))));
      behind = λ k a. rw laid (sets_other row t (n * 4) k (inr (omega arith)));
    }

    pub link_there : (i : ℕ) → i < n → (v : ℕ) (t' : List ℕ) → t' ≡ set t₁ (i * 4 + 3) v → get_or t' (i * 4 + 3) 0 ≡ v
    link_there i l v t' q = rw q (get_or-set_same t₁ (i * 4 + 3) v 0 (omega (arith, long)))

    -- an empty half of the link of row i
    module _ (i : ℕ) (side : i < n) (second : Bool) (free : half second (get_or t (i * 4 + 3) 0) ≡ 0) (v : ℕ) (put : half second v ≡ n)
        (kept : half (not second) v ≡ half (not second) (get_or t (i * 4 + 3) 0)) (t' : List ℕ) (q : t' ≡ set t₁ (i * 4 + 3) v)
      where
        other : (k : ℕ) → (k ≡ i * 4 + 3 → ⊥) → get_or t' k 0 ≡ get_or t₁ k 0
        other k d = rw q (get_or-set_other t₁ (i * 4 + 3) k v 0 d)

        there : get_or t' (i * 4 + 3) 0 ≡ v
        there = link_there i side v t' q

        linked : (b c : Bool) → half b v ≡ n → half b (get_or t (i * 4 + 3) 0) ≡ 0 → half (not b) v ≡ half (not b) (get_or t (i * 4 + 3) 0)
            → (half c (get_or t' (i * 4 + 3) 0) ≡ half c (get_or t (i * 4 + 3) 0))
            ⊎ ((half c (get_or t (i * 4 + 3) 0) ≡ 0) × (half c (get_or t' (i * 4 + 3) 0) ≡ n))
        linked true true p f k = inr (f, rw there p)
        linked true false p f k = inl (rw there k)
        linked false true p f k = inl (rw there k)
        linked false false p f k = inr (f, rw there p)

        pub changed_next : Changed t heads n source place len t' heads
        changed_next = record {
          room = rw (q, length-set, long) room;
          buckets = refl;
          source-of = other (n * 4) (λ e. omega arith) ∙ (rw (add-zero (n * 4)) at (cell-of 0 (omega arith)));
          place_of = other (n * 4 + 1) (λ e. omega arith) ∙ cell-of 1 (omega arith);
          len_of = other (n * 4 + 2) (λ e. omega arith) ∙ cell-of 2 (omega arith);
          leaf = other (n * 4 + 3) (λ e. omega arith) ∙ cell-of 3 (omega arith);
          cells = λ k j a b. other (k * 4 + j) (apart i k j b) ∙ before (k * 4 + j) (omega arith);
          links = λ k b a.
              by-test (eqb k i) (λ e. rw (eqb-true k i e) (linked second b put free kept))
              (λ e. inl (ap (half b) (other (k * 4 + 3) (λ r. eqb-false k i e (omega arith)) ∙ old_link k a)));
          firsts = λ g. inl refl;
          behind = λ k a. other k (λ e. omega arith) ∙ rw laid (sets_other row t (n * 4) k (inr (omega arith)));
        }

-- ---- what is met then
module _ (t heads : List ℕ) (n source place len : ℕ) (t' heads' : List ℕ) (tree : Tree t heads n) (new : Changed t heads n source place len t' heads')
  where
    -- what was met is met
    stays : (s : List ℕ) (d i : ℕ) → met t heads s d ≡ suc i → met t' heads' s d ≡ suc i
    stays s zero i e = met-first t' heads' s ∙ first (new.firsts (hash_of s))
      where
        e' : get_or heads (hash_of s) 0 ≡ suc i
        e' = sym (met-first t heads s) ∙ e

        first : (get_or heads' (hash_of s) 0 ≡ get_or heads (hash_of s) 0) ⊎ ((get_or heads (hash_of s) 0 ≡ 0) × (get_or heads' (hash_of s) 0 ≡ n + 1))
            → get_or heads' (hash_of s) 0 ≡ suc i
        first (inl k) = k ∙ e'
        first (inr k) = absurd (omega (arith, k.0, e'))
    stays s (suc d) i e =
        met-cases t heads s d (λ z. absurd (omega (arith, e, met-none t heads s d z)))
        (λ j m.
        let f : from_one (half (turn s d) (get_or t (j * 4 + 3) 0)) ≡ suc i = sym (met_next t heads s d j m) ∙ e in
        let l : j < n = omega (arith, m, met-le t heads s n tree d) in
        met_next t' heads' s d j (stays s d j m) ∙ (from-same j (turn s d) i f (new.links j (turn s d) l)))
      where
        from-same : (j : ℕ) (b : Bool) (i : ℕ) → from_one (half b (get_or t (j * 4 + 3) 0)) ≡ suc i
            → (half b (get_or t' (j * 4 + 3) 0) ≡ half b (get_or t (j * 4 + 3) 0))
            ⊎ ((half b (get_or t (j * 4 + 3) 0) ≡ 0) × (half b (get_or t' (j * 4 + 3) 0) ≡ n)) → from_one (half b (get_or t' (j * 4 + 3) 0)) ≡ suc i
        from-same j b i f (inl k) = rw k f
        from-same j b i f (inr k) = absurd (from_zero (half b (get_or t (j * 4 + 3) 0)) i k.0 f)

    tree-more : Tree t' heads' (n + 1)
    tree-more = record {
      rows = omega (arith, new.room);
      buckets = new.buckets ∙ tree.buckets;
      first = λ h. firsts h (new.firsts h);
      next = λ i b l. by-test (eqb i n) (λ e. rw (eqb-true i n e) (omega (arith, leaf_half b))) (λ e. nexts i b (omega (arith, eqb-false i n e)) (new.links i b (omega (arith, eqb-false i n e))));
      later = λ i b l. by-test (eqb i n) (λ e. rw (eqb-true i n e) (λ k. absurd (omega (arith, leaf_half b, k)))) (λ e. laters i b (omega (
        arith,
        eqb-false i n e,
      )) (new.links i b (omega (arith, eqb-false i n e))));
    }
      where
        leaf_half : (b : Bool) → half b (get_or t' (n * 4 + 3) 0) ≡ 0
        leaf_half b = half-zero b (get_or t' (n * 4 + 3) 0) new.leaf

        firsts : (h : ℕ) → (get_or heads' h 0 ≡ get_or heads h 0) ⊎ ((get_or heads h 0 ≡ 0) × (get_or heads' h 0 ≡ n + 1)) → get_or heads' h 0 ≤ n + 1
        firsts h (inl k) = omega (arith, k, tree.first h)
        firsts h (inr k) = omega (arith, k.1)

        nexts : (i : ℕ) (b : Bool) → i < n → (half b (get_or t' (i * 4 + 3) 0) ≡ half b (get_or t (i * 4 + 3) 0))
            ⊎ ((half b (get_or t (i * 4 + 3) 0) ≡ 0) × (half b (get_or t' (i * 4 + 3) 0) ≡ n)) → half b (get_or t' (i * 4 + 3) 0) < n + 1
        nexts i b l (inl k) = omega (arith, k, tree.next i b l)
        nexts i b l (inr k) = omega (arith, k.1)

        laters : (i : ℕ) (b : Bool) → i < n → (half b (get_or t' (i * 4 + 3) 0) ≡ half b (get_or t (i * 4 + 3) 0))
            ⊎ ((half b (get_or t (i * 4 + 3) 0) ≡ 0) × (half b (get_or t' (i * 4 + 3) 0) ≡ n)) → 0 < half b (get_or t' (i * 4 + 3) 0)
            → i < half b (get_or t' (i * 4 + 3) 0)
        laters i b l (inl k) p = rw k (tree.later i b l (rw k at p))
        laters i b l (inr k) p = rw k.1 l

    -- the new row is met
    module _ (name : Bytes) where
      pub leads_first : get_or heads' (hash_of name) 0 ≡ n + 1 → (d : ℕ) × (met t' heads' name d ≡ suc n)
      leads_first e = (0, met-first t' heads' name ∙ e ∙ add-one n)

      pub leads_next : (i : ℕ) → i < n → (second : Bool) → half second (get_or t' (i * 4 + 3) 0) ≡ n
          → (d : ℕ) × (met t heads name d ≡ suc i) × (turn name d ≡ second) → (d : ℕ) × (met t' heads' name d ≡ suc n)
      leads_next i l second h (d, m, w) = (
        suc d,
        met_next t' heads' name d i (stays name d i m) ∙ rw (w, h) (from_some n (omega arith)),
      )

      pub added : (d : ℕ) × (met t' heads' name d ≡ suc n) → n < 65536 → (x z : List ℕ) → Held x z t heads n → source ≤ 1
          → place + len ≤ length (source_of x z source) → name ≡ string_at (source_of x z source) place len
          → Added x z t heads n (record { source = source; place = place; len = len }) t' heads'
      unfolding id_at
      added leads few x z held known fits is = record {
        held = record { tree = tree-more; few = omega arith; within = within_more; found = found-more };
        rows = rw (add-one n) (row_last t' n ∙ rw (new_row, rows_are t t' n old_row));
        behind = new.behind;
      }
        where
          first_cell : (i : ℕ) → i < n → get_or t' (i * 4) 0 ≡ get_or t (i * 4) 0
          first_cell i l = rw (add-zero (i * 4)) at (new.cells i 0 l (omega arith))

          old_row : (i : ℕ) → i < n → row_at t' i ≡ row_at t i
          old_row i l = row_same t t' i (first_cell i l) (new.cells i 1 l (omega arith)) (new.cells i 2 l (omega arith))

          new_row : row_at t' n ≡ record { source = source; place = place; len = len }
          new_row = row_here t' n source place len new.source-of new.place_of new.len_of

          old_id : (i : ℕ) → i < n → id_at x z t' i ≡ id_at x z t i
          old_id i l = ap (bytes_of x z) (old_row i l)

          new_id : id_at x z t' n ≡ name
          new_id = ap (bytes_of x z) new_row ∙ sym is

          within_more : (i : ℕ) → i < n + 1 → RowWithin x z t' i
          within_more i l =
              by-test (eqb i n)
              (λ e. rw (eqb-true i n e) (record {
                known = rw new.source-of known;
                bytes = rw (new.source-of, new.place_of, new.len_of) fits;
              }))
              (λ e.
              let m : i < n = omega (arith, eqb-false i n e) in
              record {
                known = rw (first_cell i m) (held.within i m).known;
                bytes = rw (first_cell i m, new.cells i 1 m (omega arith), new.cells i 2 m (omega arith)) (held.within i m).bytes;
              })

          found-more : (i : ℕ) → i < n + 1 → (d : ℕ) × (met t' heads' (id_at x z t' i) d ≡ suc i)
          found-more i l =
              by-test (eqb i n) (λ e. rw (eqb-true i n e, new_id) leads)
              (λ e.
              let m : i < n = omega (arith, eqb-false i n e) in
              let f = held.found i m in
              rw (old_id i m) (f.0, stays (id_at x z t i) f.0 i f.1))

-- ---- the two ways through `add_id`
module _ (t heads : List ℕ) (n source place len : ℕ) (name : Bytes) (room : n * 4 + 4 ≤ length t) (few : n < 65536) (tree : Tree t heads n)
    (t₁ : List ℕ) (laid : t₁ ≡ sets t (n * 4) (source ∷ place ∷ len ∷ 0 ∷ [])) (r : ℕ) (second : Bool) (ends : Ends t heads n name r second)
  where
    pub add_first : r ≡ 0 → (h : ℕ) → h ≡ hash_of name → h < 4096 → (heads' : List ℕ) → heads' ≡ set heads h (n + 1)
        → AddPost t heads n source place len name t₁ heads'
    add_first z h e l heads' q =
        let b : h < length heads = omega (arith, tree.buckets) in
        let none : get_or heads h 0 ≡ 0 = rw e (ends.empty z) in
        let here : get_or heads' (hash_of name) 0 ≡ n + 1 = rw (q, ← e) (get_or-set_same heads h (n + 1) 0 b) in
        let new = changed_first t heads n source place len room t₁ laid h heads' b none q in
        added t heads n source place len t₁ heads' tree new name (leads_first t heads n source place len t₁ heads' tree new name here) few

    module _ (some : r ≡ 0 → ⊥) where
      one_less : r ≡ suc (r - 1)
      one_less = by-test (eqb r 0) (λ e. absurd (some (eqb-true r 0 e))) (λ e. omega (arith, eqb-false r 0 e))

      is-old : r - 1 < n
      is-old = omega (arith, one_less, ends.some)

      pub free_link : half second (get_or t₁ ((r - 1) * 4 + 3) 0) ≡ 0
      free_link = rw (old_link t heads n source place len room t₁ laid (r - 1) is-old) (ends.free (r - 1) one_less)

      pub add_next : (v : ℕ) → half second v ≡ n → half (not second) v ≡ half (not second) (get_or t₁ ((r - 1) * 4 + 3) 0) → (t' : List ℕ)
          → t' ≡ set t₁ ((r - 1) * 4 + 3) v → AddPost t heads n source place len name t' heads
      add_next v put kept t' q =
          let old = old_link t heads n source place len room t₁ laid (r - 1) is-old in
          let new = changed_next t heads n source place len room t₁ laid (r - 1) is-old second (ends.free (r - 1) one_less) v put
          (kept ∙ ap (half (not second)) old) t' q in
          let there : half second (get_or t' ((r - 1) * 4 + 3) 0) ≡ n =
          ap (half second) (link_there t heads n source place len room t₁ laid (r - 1) is-old v t' q) ∙ put in
          added t heads n source place len t' heads tree new name
          (leads_next t heads n source place len t' heads tree new name (r - 1) is-old second there (ends.leads (r - 1) one_less)) few
