-- Nodes and elements: a law for each way, and what is laid. Assumes nothing.
use Rattle.std.specs.Prelude.{Result, Ok, Err}
use Prim.Native.Nat.{ℕ, zero, suc, ◌+◌, ◌-◌, ◌*◌, ◌≤◌, ◌<◌}
use mathlib.Core.Path.{◌≡◌, refl, sym, ◌∙◌}
use mathlib.Core.Bool.{Bool, true, false, true≢false}
use mathlib.Core.List.{List, append-nil}
use native.Mathlib.Omega.{arith}
use native.Mathlib.Nat.{add-zero}
use lib.ListN.{length, get_or, length-append}
use lib.Seq.{sets}
use lib.Dec.{ltb}
use borrow.Author.Tests.{lt-ltb, le-ltb, eq-eqb, ne_eqb, ltb-true, ltb-false}
use Rattle.scan.specs.Bytes.{text_byte, name_byte}
use Rattle.scan.specs.Marks.{starts_at}
use Rattle.tree.specs.Trees.{Attr, Forest, nil, text, section, elem, size, attrs_of, row, rows, attr_rows}
use Rattle.tree.specs.Read.{Out, nothing, bad, cdata_mark, cdata_end, close_mark, comment_mark, comment_end, TagOut, opened, shut, torn, start_at}
use Rattle.tree.specs.Read.{Reader, comment_turn, past_comments, text_at, section_at, node_here, node_at_of, enclose, tagged, element_by, element_of}
use Rattle.tree.specs.Read.{content_of}
use Rattle.scan.specs.Posts.{Ends, Found, Passed}
use Rattle.tree.specs.declared.answers.Refusal.{Refusal}
use Rattle.tree.specs.Posts.{Skipped, Laid, StepPost}
use Rattle.tree.specs.declared.answers.Cursor.{Cursor}
use Rattle.tree.specs.declared.answers.Step.{Step}
use Rattle.tree.specs.declared.answers.Spot.{Spot}
use Rattle.scan.proofs.Loop.{loop-out, loop-halt, loop-more}
use Rattle.scan.proofs.Searches.{passed_none}
use Rattle.scan.proofs.Stores.{sets_before}
use Rattle.tree.proofs.Forests.{attrs-on}

-- ---- comments
module _ (s : List ℕ) (i : ℕ) where
  pub comment-on : (q : ℕ) → i < length s → starts_at s i comment_mark ≡ true → Passed comment_end s i q → past_comments s i ≡ past_comments s q
  unfolding past_comments
  comment-on q h e w = loop-more (length s) (comment_turn s) (λ j x. j) i tt q tt h (rw (e, ← w.is)) (w.beyond h (omega arith))

  pub comment-here : i < length s → starts_at s i comment_mark ≡ false → past_comments s i ≡ i
  unfolding past_comments
  comment-here h e = loop-halt (length s) (comment_turn s) (λ j x. j) i tt i h (rw e)

  pub comment-out : length s ≤ i → past_comments s i ≡ i
  unfolding past_comments
  comment-out h = loop-out (length s) (comment_turn s) (λ j x. j) i tt h

-- ---- which node stands at q, after the comments at p
module _ (s : List ℕ) (el : Reader) (p k a q : ℕ) (w : Skipped s p q) where
  node-here : node_at_of s el p k a ≡ node_here s el q k a
  unfolding node_at_of
  node-here = rw (← w.is)

  pub node_end : length s ≤ q → node_at_of s el p k a ≡ nothing q
  unfolding node_here
  node_end h = node-here ∙ rw (le-ltb q (length s) h)

  module _ (h : q < length s) where
    pub node-text : (get_or s q 0 ≡ 60 → ⊥) → node_at_of s el p k a ≡ text_at s q k a
    unfolding node_here
    node-text e = node-here ∙ rw (lt-ltb q (length s) h, ne_eqb (get_or s q 0) 60 e)

    module _ (e : get_or s q 0 ≡ 60) where
      pub node-section : starts_at s q cdata_mark ≡ true → node_at_of s el p k a ≡ section_at s q k a
      unfolding node_here
      node-section d = node-here ∙ rw (lt-ltb q (length s) h, eq-eqb (get_or s q 0) 60 e, d)

      pub node-close : starts_at s q cdata_mark ≡ false → starts_at s q close_mark ≡ true → node_at_of s el p k a ≡ nothing q
      unfolding node_here
      node-close d f = node-here ∙ rw (lt-ltb q (length s) h, eq-eqb (get_or s q 0) 60 e, d, f)

      pub node-element : starts_at s q cdata_mark ≡ false → starts_at s q close_mark ≡ false → node_at_of s el p k a ≡ el q k a
      unfolding node_here
      node-element d f = node-here ∙ rw (lt-ltb q (length s) h, eq-eqb (get_or s q 0) 60 e, d, f)

-- ---- a text and a section
text-yes : (b : ℕ) → (b ≡ 60 → ⊥) → text_byte b ≡ true
unfolding text_byte
text-yes b e = rw (ne_eqb b 60 e)

-- a run of bytes other than `<` that begins with one has one at least
pub text-beyond : (s : List ℕ) (p e : ℕ) → p < length s → (get_or s p 0 ≡ 60 → ⊥) → Ends text_byte s p e → p + 1 ≤ e
text-beyond s p e h n w = go (ltb p e) refl
  where
    go : (t : Bool) → ltb p e ≡ t → p + 1 ≤ e
    go true x = omega (arith, ltb-true p e x)
    go false x =
        let z : e ≡ p = omega (arith, ltb-false p e x) in
        absurd (true≢false (sym (text-yes (get_or s p 0) n) ∙ rw z at (w.stops (omega arith))))

pub text-full : (s : List ℕ) (p k a : ℕ) → 8192 ≤ k → text_at s p k a ≡ bad 5 p
unfolding text_at
text-full s p k a h = rw (le-ltb k 8192 h)

pub section-full : (s : List ℕ) (p k a : ℕ) → 8192 ≤ k → section_at s p k a ≡ bad 5 p
unfolding section_at
section-full s p k a h = rw (le-ltb k 8192 h)

module _ (s t t' u : List ℕ) (p k a e : ℕ) (h : k < 8192) (b : a ≤ 8192) where
  pub built_text : Ends text_byte s p e → p + 1 ≤ e → t' ≡ sets t (k * 6) (row 1 (k + 1) p (e - p) 0 0)
      → Laid (text_at s p k a) s t t' u u (p + 1) k a (record { pos = e; nodes = k + 1; attrs = a })
  unfolding text_at size rows row attrs_of attr_rows
  built_text w z l = record {
    forest = text p (e - p) nil;
    is = rw (← w.is, lt-ltb k 8192 h);
    after = z;
    within = w.within;
    counted = omega arith;
    tallied = omega arith;
    most = omega arith;
    least = b;
    laid = l;
    listed = refl;
  }

  pub built_section : (q : ℕ) → Found cdata_end s (p + 9) e → Passed cdata_end s (p + 9) q → t'
      ≡ sets t (k * 6) (row 3 (k + 1) (p + 9) (e - (p + 9)) 0 0)
      → Laid (section_at s p k a) s t t' u u (p + 1) k a (record { pos = q; nodes = k + 1; attrs = a })
  unfolding section_at size rows row attrs_of attr_rows
  built_section q w x l = record {
    forest = section (p + 9) (e - (p + 9)) nil;
    is = rw (← w.is, ← x.is, lt-ltb k 8192 h);
    after = omega (arith, x.after);
    within = x.within;
    counted = omega arith;
    tallied = omega arith;
    most = omega arith;
    least = b;
    laid = l;
    listed = refl;
  }

-- a section that is not closed runs to the text's end
pub section-unclosed : (m s : List ℕ) (p r : ℕ) → Found m s p r → length s ≤ r → Passed m s p r
section-unclosed m s p r f h =
    let z : r ≡ length s = omega (arith, f.within) in
    rw z (passed_none m s p r f h)

-- ---- an element
pub el_deep : (d : ℕ) (s : List ℕ) (p k a : ℕ) → d ≡ 0 → element_of d s p k a ≡ bad 4 p
unfolding element_of
el_deep d s p k a e = rw e

el_by : (d : ℕ) (s : List ℕ) (p k a : ℕ) → (d ≡ 0 → ⊥) → element_of d s p k a ≡ element_by s (content_of (d - 1) s) p k a
unfolding element_of
el_by zero s p k a h = absurd (h refl)
el_by (suc d) s p k a h =
    let e : suc d - 1 ≡ d = omega arith in
    rw e

module _ (d : ℕ) (s : List ℕ) (p k a : ℕ) (n : d ≡ 0 → ⊥) where
  pub el_full : 8192 ≤ k → element_of d s p k a ≡ bad 5 p
  unfolding element_by
  el_full h = el_by d s p k a n ∙ rw (le-ltb k 8192 h)

  pub el_tag : (e : ℕ) (o : TagOut) → k < 8192 → Ends name_byte s (p + 1) e → start_at s p e a ≡ o
      → element_of d s p k a ≡ tagged (content_of (d - 1) s) p (e - (p + 1)) k o
  unfolding element_by
  el_tag e o h w y = el_by d s p k a n ∙ rw (lt-ltb k 8192 h, ← w.is, y)

pub tagged-torn : (inner : Reader) (p n k m q : ℕ) → tagged inner p n k (torn m q) ≡ bad m q
unfolding tagged
tagged-torn inner p n k m q = refl

pub tagged-open : (inner : Reader) (p n k : ℕ) (l : List Attr) (q b : ℕ) → tagged inner p n k (opened l q b) ≡ enclose p n l (inner q (k + 1) b)
unfolding tagged
tagged-open inner p n k l q b = refl

pub enclose-bad : (p n : ℕ) (l : List Attr) (m q : ℕ) (o : Out) → o ≡ bad m q → enclose p n l o ≡ bad m q
unfolding enclose
enclose-bad p n l m q o e = rw e

-- an element without content, and one with content
pub built_shut : (o : Out) (inner : Reader) (s t t' u u' : List ℕ) (p n k a : ℕ) (l : List Attr) (c : Spot)
    → o ≡ tagged inner p n k (shut l c.pos c.attrs) → p + 1 ≤ c.pos → c.pos ≤ length s → c.attrs ≡ a + length l → c.attrs ≤ 8192 → k < 8192
    → t' ≡ sets t (k * 6) (row 2 (k + 1) p n a (c.attrs - a)) → u' ≡ sets u (a * 4) (attr_rows l)
    → Laid o s t t' u u' (p + 1) k a (record { pos = c.pos; nodes = k + 1; attrs = c.attrs })
unfolding tagged size rows row attrs_of
built_shut o inner s t t' u u' p n k a l c e f g h i j x y =
    let z : c.attrs - a ≡ length l = omega arith in
    record {
      forest = elem p n l nil nil;
      is = e;
      after = f;
      within = g;
      counted = omega arith;
      tallied = rw append-nil h;
      most = omega arith;
      least = i;
      laid = x ∙ rw (z, add-zero (k + 1));
      listed = y ∙ rw append-nil;
    }

pub built_elem : (o inner : Out) (s t t' t'' u u' u'' : List ℕ) (p n k a q b : ℕ) (l : List Attr) (c : Cursor)
    → o ≡ enclose p n l inner → Laid inner s t t' u' u'' q (k + 1) b c → p + 1 ≤ q → b ≡ a + length l
    → t'' ≡ sets t' (k * 6) (row 2 c.nodes p n a (b - a)) → u' ≡ sets u (a * 4) (attr_rows l)
    → Laid o s t t'' u u'' (p + 1) k a c
unfolding enclose size rows row attrs_of
built_elem o inner s t t' t'' u u' u'' p n k a q b l c e g f h x y =
    let z : b - a ≡ length l = omega arith in
    let i : Forest = g.forest in
    let m : (k + 1) * 6 ≡ k * 6 + 6 = omega arith in
    record {
      forest = elem p n l i nil;
      is = e ∙ rw g.is;
      after = omega arith;
      within = g.within;
      counted = omega arith;
      tallied = rw (append-nil, length-append l (attrs_of i)) (omega arith);
      most = g.most;
      least = g.least;
      laid =
          x ∙ rw (g.laid, m, g.counted, z, h, append-nil) (sets_before (row 2 (k + 1 + size i) p n a (length l)) (rows (k + 1) (a + length l) i) t
          (k * 6));
      listed = attrs-on l (attrs_of i) u u' u'' a b h y g.listed ∙ rw append-nil;
    }

-- what is ensured from a later place is ensured from an earlier one
pub lower : (o : Out) (s t t' u u' : List ℕ) (p q k a : ℕ) (r : Result Step Refusal) → p ≤ q → StepPost o s t t' u u' q k a r → StepPost o s t t' u u' p k a r
lower o s t t' u u' p q k a (Ok (Step.Node c)) h l = record {
  forest = l.forest;
  is = l.is;
  after = omega arith;
  within = l.within;
  counted = l.counted;
  tallied = l.tallied;
  most = l.most;
  least = l.least;
  laid = l.laid;
  listed = l.listed;
}
lower o s t t' u u' p q k a (Ok (Step.Nothing z)) h i = record { is = i.is; after = omega arith; within = i.within; same = i.same; alike = i.alike }
lower o s t t' u u' p q k a (Err f) h e = e
