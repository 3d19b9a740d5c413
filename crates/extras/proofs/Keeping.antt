-- Extras, one name after the other. Assumes nothing.
--     entry_none, entry_kept, found_if, kept_if, entry-extra, is-align, no_align     the extra of one name
--     Kept, kept_start, kept_on, kept_all     one turn of `keep_all`; no entries, no extras
--     few_extras, kept_room, room_for, long_after    no more of them than attributes, so that each row is in the table
--     lists_from                              where they stand
use Rattle.std.specs.Prelude.{Option, Some, None}
use Rattle.std.specs.Bool.{then_some}
use Prim.Native.Nat.{ℕ, zero, suc, ◌+◌, ◌-◌, ◌*◌, ◌≤◌, ◌<◌, ◌^◌}
use mathlib.Core.Path.{◌≡◌, refl, sym, ap, ◌∙◌}
use mathlib.Core.Bool.{Bool, true, false, cond, true≢false}
use mathlib.Core.List.{List, [], ◌∷◌, ◌++◌, append_assoc, append-nil}
use native.Mathlib.Omega.{arith}
use native.Mathlib.Numerals.{add-one}
use lib.Dec.{eqb}
use lib.ListN.{length, get_or, drop, replicate, drop_of_length-le, length-append, length-take, length-drop}
use lib.Seq.{sets, drop-cons, length-sets}
use borrow.Author.Tests.{leb-true, eqb-true, ne_eqb}
use Rattle.scan.specs.Names.{same_bytes_of, same_folded}
use Rattle.scan.specs.Part.{string_at}
use Rattle.scan.proofs.Stores.{sets_append}
use Rattle.scan.proofs.Naming.{same_eq, same_refl, same_folded-refl}
use Rattle.utf8.specs.White.{trimmed}
use Rattle.scan.proofs.Every.{by-test}
use Rattle.derivation.proofs.RunLaws.{string_is}
use Rattle.names.specs.declared.tables.Listed.{Listed}
use Rattle.names.specs.Lists.{names, name_of}
use Rattle.names.proofs.Entries.{distinct, not_so}
use Rattle.names.proofs.NameLaws.{names-distinct}
use Rattle.tree.specs.Trees as placed
use Rattle.track.specs.declared.values.Rows.{Rows}
use Rattle.xml.specs.Reading.{Placed}
use Rattle.xml.specs.Find.{Owned, attribute_row}
use Rattle.meaning.specs.Words.{ascii}
use Rattle.meaning.specs.Nodes.{Attr, valued}
use Rattle.meaning.specs.Kinds.{with_places, attrs_in}
use Rattle.track.specs.Track.{Extra}
use Rattle.meaning.specs.Styling.{extra_of_style, extra_if, extras_from}
use Rattle.xml.specs.declared.find.Attribute.{Attribute}
use Rattle.xml.proofs.AttrRows.{row-cells}
use Rattle.styling.specs.Posts.{value_in_of, FoundFits}
use Rattle.extras.specs.Kept.{wanted_by, extras_of, kept_in, kept_cells, kept_count, RoomFor, placed_cells, Collected, rows_from, Lists}
use Rattle.extras.specs.Kept.{FirstRows, entry_extra}
use Rattle.extras.proofs.Few.{extras_fit}
use Rattle.extras.proofs.Noting.{few_names}

-- ---- one name
abbrev pub extra_of : Listed → (i : ℕ) → List (Attr Placed) → List (Extra Placed)
extra_of list i l = extra_if with_places (wanted_by list) i (name_of list i) (valued with_places (name_of list i) l)

module _ (u z : List ℕ) (list : Listed) (i c : ℕ) where
  pub entry_none : c ≡ 0 → entry_extra u z list i c ≡ []
  entry_none e = rw e

  pub entry_kept : (c ≡ 0 → ⊥) → (h : Attribute) → h ≡ attribute_row u (c - 1) → (b : Bool)
      → wanted_by list (name_of list i) (string_at z h.place h.len) ≡ b
      → entry_extra u z list i c ≡ cond b (record { number = i; value = value_in_of z h } ∷ []) []
  entry_kept e h y b w = let r = row-cells u (c - 1) y in rw (ne_eqb c 0 e, ← r.1, ← r.2, w)

module _ (z : List ℕ) (i : ℕ) (h : Attribute) where
  pub found_if : h.place + h.len ≤ length z → (b : Bool) → FoundFits z (then_some b h)
  found_if f true = f
  found_if f false = tt

  pub kept_if : (b : Bool) → cond b (record { number = i; value = value_in_of z h } ∷ []) [] ≡ kept_in z i (then_some b h)
  kept_if true = refl
  kept_if false = refl

pub entry-extra : (u z rows : List ℕ) (list : Listed) (l : List (Attr Placed)) (i : ℕ) {xs : List (Extra Placed)} → FirstRows u z list rows l
    → i < length (names list) → entry_extra u z list i (get_or rows i 0) ≡ xs → extra_of list i l ≡ xs
entry-extra u z rows list l i w h e = ap (extra_if with_places (wanted_by list) i (name_of list i)) (w i h) ∙ e

-- a style's alignment is the name of number 33
pub is-align : (i : ℕ) (v : List ℕ) → i ≡ 33 → extra_of_style (name_of Listed.StyleExtra i) v ≡ same_folded (trimmed v) (ascii "justify")
unfolding extra_of_style
is-align i v e = rw (e, same_refl (ascii "tts:textAlign"))

pub no_align : (i : ℕ) (v : List ℕ) → i < length (names Listed.StyleExtra) → (i ≡ 33 → ⊥) → extra_of_style (name_of Listed.StyleExtra i) v ≡ true
unfolding extra_of_style
no_align i v h e =
    let n : List ℕ = name_of Listed.StyleExtra i in
    let apart : same_folded n (ascii "tts:textAlign") ≡ false = names-distinct Listed.StyleExtra i h 33 (leb-true 34 46 refl) e in
    let other : same_bytes_of n (ascii "tts:textAlign") ≡ false =
    not_so (same_bytes_of n (ascii "tts:textAlign")) (λ g.
    true≢false (sym (rw (same_eq n (ascii "tts:textAlign") g) (same_folded-refl (ascii "tts:textAlign"))) ∙ apart)) in
    rw other

-- ---- rows
cells-append : (a b : List (Extra Placed)) → placed_cells (a ++ b) ≡ placed_cells a ++ placed_cells b
unfolding placed_cells
cells-append [] b = refl
cells-append (x ∷ a) b = rw (cells-append a b)

cells-long : (a : List (Extra Placed)) → length (placed_cells a) ≡ length a * 3
unfolding placed_cells
cells-long [] = refl
cells-long (x ∷ a) = omega (arith, cells-long a)

cells-kept : (z : List ℕ) (i : ℕ) (f : Option Attribute) → FoundFits z f → placed_cells (kept_in z i f) ≡ kept_cells i f
unfolding placed_cells
cells-kept z i (Some h) w =
    let e : length (string_at z h.place h.len) ≡ h.len =
    ap length (string_is z h.place h.len) ∙ omega (arith, length-take h.len (drop h.place z), length-drop h.place z) in
    rw e
cells-kept z i None w = refl

count_kept : (z : List ℕ) (i : ℕ) (f : Option Attribute) → length (kept_in z i f) ≡ kept_count f
count_kept z i (Some h) = refl
count_kept z i None = refl

-- ---- name after name
-- where there are no entries from the i-th name on, there are no extras
no_more : (u z rows : List ℕ) (list : Listed) (l : List (Attr Placed)) → FirstRows u z list rows l → (m i : ℕ) → i + m ≡ length (names list)
    → ((j : ℕ) → i ≤ j → get_or rows j 0 ≡ 0) → extras_from with_places (wanted_by list) i (drop i (names list)) l ≡ []
unfolding extras_from
no_more u z rows list l w zero i e o =
    let h : length (names list) ≤ i = omega arith in
    rw (drop_of_length-le (names list) h)
no_more u z rows list l w (suc m) i e o =
    let h : i < length (names list) = omega arith in
    rw (drop-cons (names list) i [] h, entry-extra u z rows list l i w h (entry_none u z list i (get_or rows i 0) (o i (omega arith))))
    (no_more u z rows list l w m (suc i) (omega arith) (λ j g. o j (omega arith)))

-- the extras of the names before the i-th stand in n rows from row k on
pub record Kept (list : Listed) (l : List (Attr Placed)) (i n k : ℕ) (t t' : List ℕ) : Type 0 where
  pub done : List (Extra Placed)
  pub is : extras_of list l ≡ done ++ extras_from with_places (wanted_by list) i (drop i (names list)) l
  pub count : length done ≡ n
  pub laid : t' ≡ sets t (k * 3) (placed_cells done)

pub kept_start : (list : Listed) (l : List (Attr Placed)) (k : ℕ) (t : List ℕ) → Kept list l 0 0 k t t
unfolding placed_cells
kept_start list l k t = record { done = []; is = refl; count = refl; laid = refl }

module _ {list : Listed} {l : List (Attr Placed)} {i n k : ℕ} {t t' : List ℕ} (x : Kept list l i n k t t') where
  next : i < length (names list)
      → extras_of list l ≡ (x.done ++ extra_of list i l) ++ extras_from with_places (wanted_by list) (i + 1) (drop (i + 1) (names list)) l
  unfolding extras_from
  next h =
      let rest = extras_from with_places (wanted_by list) (suc i) (drop (suc i) (names list)) l in
      rw (add-one i) (x.is ∙ rw (drop-cons (names list) i [] h) (sym (append_assoc x.done (extra_of list i l) rest)))

  pub kept_on : i < length (names list) → (z : List ℕ) (f : Option Attribute) → FoundFits z f → extra_of list i l ≡ kept_in z i f → (r : ℕ) → r ≡ kept_count f
      → (t'' : List ℕ) → t'' ≡ sets t' ((k + n) * 3) (kept_cells i f) → Kept list l (i + 1) (n + r) k t t''
  kept_on h z f w e r c t'' s =
      let at : (k + n) * 3 ≡ k * 3 + length (placed_cells x.done) = omega (arith, cells-long x.done, x.count) in
      record {
        done = x.done ++ kept_in z i f;
        is = rw e at (next h);
        count = omega (arith, length-append x.done (kept_in z i f), count_kept z i f, x.count, c);
        laid =
            s
            ∙ rw (at, x.laid, ← (cells-kept z i f w), cells-append x.done (kept_in z i f))
            (sets_append (placed_cells x.done) (placed_cells (kept_in z i f)) t (k * 3));
      }

  pub kept_all : (u z rows : List ℕ) → FirstRows u z list rows l → i ≤ length (names list) → ((j : ℕ) → i ≤ j → get_or rows j 0 ≡ 0)
      → Collected (extras_of list l) k t t' n
  kept_all u z rows w h o =
      let e : extras_of list l ≡ x.done = x.is ∙ rw (no_more u z rows list l w (length (names list) - i) i (omega arith) o) (append-nil x.done) in
      record { count = ap length e ∙ x.count; laid = rw e x.laid }

-- ---- no more of them than attributes
distinct_names : (list : Listed) → distinct (names list) ≡ true
unfolding same_folded
distinct_names Listed.StyleExtra = refl
distinct_names Listed.InlineExtra = refl
distinct_names Listed.RegionAttr = refl
distinct_names Listed.InlineModelled = refl
distinct_names Listed.Imsc1Extension = refl

as_many : (z : List ℕ) (l : List placed.Attr) → length (attrs_in z l) ≡ length l
unfolding attrs_in
as_many z [] = refl
as_many z (x ∷ l) = ap suc (as_many z l)

pub few_extras : {u z : List ℕ} {first many : ℕ} (list : Listed) {l : List placed.Attr} → Owned u z first many l
    → length (extras_of list (attrs_in z l)) ≤ many
few_extras {z = z} list {l} y =
    omega (arith, extras_fit with_places (wanted_by list) 0 (names list) (distinct_names list) (attrs_in z l), as_many z l, y.count)

pub kept_room : {list : Listed} {l : List (Attr Placed)} {i n k : ℕ} {t t' : List ℕ} (x : Kept list l i n k t t') → i < length (names list)
    → (z : List ℕ) (f : Option Attribute) → extra_of list i l ≡ kept_in z i f → n + kept_count f ≤ length (extras_of list l)
kept_room {list = list} {l} {i} x h z f e =
    let rest = extras_from with_places (wanted_by list) (i + 1) (drop (i + 1) (names list)) l in
    let w = ap length (rw e at (next x h)) in
    let a = length-append (x.done ++ kept_in z i f) rest in
    omega (arith, w, x.count, count_kept z i f, a, length-append x.done (kept_in z i f))

pub room_for : (list : Listed) (z t : List ℕ) (at many n i : ℕ) (f : Option Attribute) → FoundFits z f → length z < 2 ^ 32 → i < length (names list)
    → (at + many) * 3 ≤ length t → n + kept_count f ≤ many → RoomFor t (at + n) i f
room_for list z t at many n i (Some h) w s b r c = (omega arith, omega (arith, few_names list), omega arith, omega arith)
room_for list z t at many n i None w s b r c = tt

pub long_after : (t t' : List ℕ) (at m : ℕ) (w : List ℕ) → t' ≡ sets t at w → length t ≡ m → length t' ≡ m
long_after t t' at m w e h = ap length e ∙ (length-sets t at w ∙ h)

-- ---- where they stand
pub lists_from : {xs : List (Extra Placed)} {k n : ℕ} {t t' : List ℕ} (r : Rows) → Collected xs k t t' n → r ≡ rows_from k n → Lists xs k t t' r
lists_from {k = k} {n = n} r c e = record {
  rows = e ∙ rw c.count;
  count = ap (λ (x : Rows). x.count) e ∙ (same k n ∙ sym c.count);
  laid = c.laid;
}
  where
    same : (k n : ℕ) → (rows_from k n).count ≡ n
    same k n = by-test (eqb n 0) (λ e. rw e (sym (eqb-true n 0 e))) (λ e. rw e)

pub all_zero : (n i : ℕ) → get_or (replicate {A = ℕ} n 0) i 0 ≡ 0
all_zero zero i = refl
all_zero (suc n) zero = refl
all_zero (suc n) (suc i) = all_zero n i
