-- The rest of a start tag: a law for each way, what holds at the loop's head, and how it goes on. Assumes nothing.
use Rattle.std.specs.Prelude.{Result, Ok, Err}
use Prim.Native.Nat.{ℕ, ◌+◌, ◌*◌, ◌≤◌, ◌<◌}
use mathlib.Core.Path.{◌≡◌, refl, sym, ap, ◌∙◌}
use mathlib.Core.Bool.{Bool, true, false, true≢false}
use mathlib.Core.List.{List, [], ◌∷◌, ◌++◌}
use native.Mathlib.Omega.{arith}
use lib.ListN.{length, get_or, length-append}
use lib.Seq.{sets, length-sets}
use lib.Dec.{ltb}
use borrow.Author.Tests.{lt-ltb, le-ltb, ltb-true, eq-eqb, ne_eqb}
use Rattle.scan.specs.Bytes.{blank}
use Rattle.scan.specs.Marks.{starts_at}
use Rattle.tree.specs.Trees.{Attr, attr_row, attr_rows}
use Rattle.tree.specs.Read.{gt, skip, attr, flaw, attr_at, TagOut, opened, shut, torn, TagState, slash, attr_next, tag_turn, tag_from, start_at}
use Rattle.scan.specs.Posts.{Ends}
use Rattle.tree.specs.declared.answers.Refusal.{Refusal}
use Rattle.tree.specs.Posts.{PairGot, TagGot, TagPost, shut_at}
use Rattle.tree.specs.declared.answers.Spot.{Spot}
use Rattle.tree.specs.declared.answers.Tag.{Tag}
use Rattle.scan.proofs.Runs.{run-low}
use Rattle.scan.proofs.Loop.{loop-out, loop-halt, loop-more}
use Rattle.scan.proofs.Stores.{sets_on}

-- ---- rows of attributes
pub attr_rows-append : (a b : List Attr) → attr_rows (a ++ b) ≡ attr_rows a ++ attr_rows b
unfolding attr_rows attr_row
attr_rows-append [] b = refl
attr_rows-append (x ∷ a) b = rw (attr_rows-append a b)

pub length_attr_rows : (a : List Attr) → length (attr_rows a) ≡ length a * 4
unfolding attr_rows attr_row
length_attr_rows [] = refl
length_attr_rows (x ∷ a) = omega (arith, length_attr_rows a)

attr_rows-one : (x : Attr) → attr_rows (x ∷ []) ≡ attr_row x
unfolding attr_rows attr_row
attr_rows-one x = refl

-- ---- what `parse_shut` answers
module _ (s : List ℕ) (p n q : ℕ) (w : Ends blank s (p + 1) q) where
  pub shut-yes : starts_at s q gt ≡ true → shut_at s p n ≡ Ok (Tag.Shut (record { pos = q + 1; attrs = n }))
  unfolding shut_at
  shut-yes e = rw (← w.is, e)

  pub shut-no : starts_at s q gt ≡ false → shut_at s p n ≡ Err (record { number = 8; place = p })
  unfolding shut_at
  shut-no e = rw (← w.is, e)

-- a mark that has a byte stands before the text's end
pub starts_some : (s : List ℕ) (q b : ℕ) (m : List ℕ) → starts_at s q (b ∷ m) ≡ true → q < length s
unfolding starts_at
starts_some s q b m e = go (ltb q (length s)) refl
  where
    go : (t : Bool) → ltb q (length s) ≡ t → q < length s
    go true w = ltb-true q (length s) w
    go false w = absurd (true≢false (sym (rw w at e)))

-- ---- the laws
module _ (s : List ℕ) (p : ℕ) (x : TagState) where
  pub tag-out : length s ≤ p → tag_from s p x ≡ torn 10 p
  unfolding tag_from
  tag-out h = loop-out (length s) (tag_turn s) _ p x h

  pub tag_open : p < length s → get_or s p 0 ≡ 62 → tag_from s p x ≡ opened x.list (p + 1) x.count
  unfolding tag_from tag_turn
  tag_open h e = loop-halt (length s) (tag_turn s) _ p x _ h (rw (eq-eqb (get_or s p 0) 62 e))

  tag-slash : p < length s → get_or s p 0 ≡ 47 → tag_from s p x ≡ slash s p x
  unfolding tag_from tag_turn
  tag-slash h e = loop-halt (length s) (tag_turn s) _ p x _ h (rw e)

  tag-shut : p < length s → get_or s p 0 ≡ 47 → starts_at s (skip s (p + 1)) gt ≡ true → tag_from s p x ≡ shut x.list (skip s (p + 1) + 1) x.count
  unfolding slash
  tag-shut h e g = tag-slash h e ∙ rw g

  tag-torn : p < length s → get_or s p 0 ≡ 47 → starts_at s (skip s (p + 1)) gt ≡ false → tag_from s p x ≡ torn 8 p
  unfolding slash
  tag-torn h e g = tag-slash h e ∙ rw g

  module _ (h : p < length s) (e : get_or s p 0 ≡ 62 → ⊥) (f : get_or s p 0 ≡ 47 → ⊥) where
    pub tag-full : 8192 ≤ x.count → tag_from s p x ≡ torn 7 p
    unfolding tag_from tag_turn
    tag-full l = loop-halt (length s) (tag_turn s) _ p x _ h (rw (ne_eqb (get_or s p 0) 62 e, ne_eqb (get_or s p 0) 47 f, le-ltb x.count 8192 l))

    pub tag-flaw : (n q : ℕ) → x.count < 8192 → attr_at s p ≡ flaw n q → tag_from s p x ≡ torn n q
    unfolding tag_from tag_turn attr_next
    tag-flaw n q l w =
        loop-halt (length s) (tag_turn s) _ p x _ h (rw (ne_eqb (get_or s p 0) 62 e, ne_eqb (get_or s p 0) 47 f, lt-ltb x.count 8192 l, w))

    pub tag-attr : (y : Attr) (q : ℕ) → x.count < 8192 → attr_at s p ≡ attr y q → p < q → tag_from s p x
        ≡ tag_from s q (record { list = x.list ++ (y ∷ []); count = x.count + 1 })
    unfolding tag_from tag_turn attr_next
    tag-attr y q l w m =
        loop-more (length s) (tag_turn s) _ p x q _ h (rw (ne_eqb (get_or s p 0) 62 e, ne_eqb (get_or s p 0) 47 f, lt-ltb x.count 8192 l, w)) m

-- ---- the loop
pub record TagGoing (s u : List ℕ) (pos count : ℕ) (u' : List ℕ) (at n : ℕ) : Type 0 where
  pub within : at ≤ length s
  pub after : pos ≤ at
  pub solid : at < length s → blank (get_or s at 0) ≡ false
  pub most : n ≤ 8192
  pub kept : length u' ≡ length u
  pub list : List Attr
  pub counted : n ≡ count + length list
  pub laid : u' ≡ sets u (count * 4) (attr_rows list)
  pub is : tag_from s pos (record { list = []; count = count }) ≡ tag_from s at (record { list = list; count = n })

pub tag-start : (s u : List ℕ) (pos count : ℕ) → pos ≤ length s → (pos < length s → blank (get_or s pos 0) ≡ false) → count ≤ 8192
    → TagGoing s u pos count u pos count
unfolding attr_rows
tag-start s u pos count h g l = record {
  within = h;
  after = omega arith;
  solid = g;
  most = l;
  kept = refl;
  list = [];
  counted = omega arith;
  laid = refl;
  is = refl;
}

module _ {s u : List ℕ} {pos count : ℕ} {u' : List ℕ} {at n : ℕ} where
  pub tag-step : {u'' : List ℕ} {q : ℕ} → TagGoing s u pos count u' at n → at < length s → (get_or s at 0 ≡ 62 → ⊥) → (get_or s at 0 ≡ 47 → ⊥) → n < 8192
      → PairGot (attr_at s at) s u' u'' at n q → TagGoing s u pos count u'' q (n + 1)
  tag-step {u'' = u''} {q = q} g h e f l w =
      let r : length (attr_rows g.list) ≡ length g.list * 4 = length_attr_rows g.list in
      record {
        within = w.within;
        after = omega arith;
        solid = w.solid;
        most = omega arith;
        kept = ap length w.laid ∙ (length-sets u' (n * 4) (attr_row w.one) ∙ g.kept);
        list = g.list ++ (w.one ∷ []);
        counted = rw (length-append g.list (w.one ∷ [])) (omega arith);
        laid = sets_on (attr_rows g.list) (attr_row w.one) u u' u'' (count * 4) (n * 4) g.laid w.laid (omega arith)
            ∙ rw (attr_rows-append g.list (w.one ∷ []), attr_rows-one w.one);
        is = g.is ∙ tag-attr s at _ h e f w.one q l w.is (omega arith);
      }

  pub tag-done : {mk : List Attr → ℕ → ℕ → TagOut} (g : TagGoing s u pos count u' at n) (q : ℕ)
      → tag_from s at (record { list = g.list; count = n }) ≡ mk g.list q n
      → at < q → q ≤ length s → TagGot mk (tag_from s pos (record { list = []; count = count })) s u u' pos count (record { pos = q; attrs = n })
  tag-done g q e l m = record {
    list = g.list;
    is = g.is ∙ e;
    after = omega arith;
    within = m;
    counted = g.counted;
    most = g.most;
    laid = g.laid;
  }

  -- a turn at a `/`
  pub tag-slashed : TagGoing s u pos count u' at n → at < length s → get_or s at 0 ≡ 47
      → TagPost (tag_from s pos (record { list = []; count = count })) s u u' pos count (shut_at s at n)
  unfolding shut_at
  tag-slashed g h e = go (starts_at s (skip s (at + 1)) gt) refl
    where
      go : (t : Bool) → starts_at s (skip s (at + 1)) gt ≡ t → TagPost (tag_from s pos (record { list = []; count = count })) s u u' pos count
          (shut_at s at n)
      go true w =
          rw w (tag-done g (skip s (at + 1) + 1) (tag-shut s at _ h e w) (omega (arith, run-low blank s (at + 1)))
          (omega (arith, starts_some s (skip s (at + 1)) 62 [] w)))
      go false w = rw w (g.is ∙ tag-torn s at _ h e w)

-- ---- the whole start tag
module _ (s : List ℕ) (p e a : ℕ) where
  pub start-empty : e ≡ p + 1 → start_at s p e a ≡ torn 6 p
  unfolding start_at
  start-empty z = rw (eq-eqb e (p + 1) z)

  pub start-tag : (q : ℕ) → (e ≡ p + 1 → ⊥) → Ends blank s e q → start_at s p e a ≡ tag_from s q (record { list = []; count = a })
  unfolding start_at
  start-tag q z w = rw (ne_eqb e (p + 1) z, ← w.is)

-- what is ensured from a later place is ensured from an earlier one
lower-got : (mk : List Attr → ℕ → ℕ → TagOut) (o : TagOut) (s u u' : List ℕ) (p q a : ℕ) (c : Spot) → p ≤ q → TagGot mk o s u u' q a c
    → TagGot mk o s u u' p a c
lower-got mk o s u u' p q a c h l = record {
  list = l.list;
  is = l.is;
  after = omega arith;
  within = l.within;
  counted = l.counted;
  most = l.most;
  laid = l.laid;
}

pub lower-tag : (o : TagOut) (s u u' : List ℕ) (p q a : ℕ) (r : Result Tag Refusal) → p ≤ q → TagPost o s u u' q a r → TagPost o s u u' p a r
lower-tag o s u u' p q a (Ok (Tag.Open c)) h l = lower-got opened o s u u' p q a c h l
lower-tag o s u u' p q a (Ok (Tag.Shut c)) h l = lower-got shut o s u u' p q a c h l
lower-tag o s u u' p q a (Err f) h e = e
