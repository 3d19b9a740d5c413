-- The whole text: which case of `meaning` holds, and the answer and tables of each. Assumes nothing.
use Rattle.std.specs.Prelude.{Result, Err}
use Prim.Native.Nat.{ℕ, zero, suc, ◌+◌, ◌-◌, ◌*◌, ◌≤◌, ◌<◌}
use mathlib.Core.Path.{◌≡◌, refl, ap, ◌∙◌}
use mathlib.Core.List.{List, ◌++◌}
use native.Mathlib.Omega.{arith}
use native.Mathlib.Nat.{sub-zero, zero-sub, suc-sub-suc, zero-add}
use lib.ListN.{length, drop, replicate, length-replicate}
use lib.Seq.{sets, sets-eq}
use borrow.Author.Tests.{lt-ltb, le-ltb}
use Rattle.utf8.specs.Utf8.{utf8_end}
use Rattle.tree.specs.Trees.{Forest, size, attrs_of, rows, attr_rows}
use Rattle.tree.specs.Read.{Out, bad, top_of, prolog_end, meaning, answer_of, nodes_of, attr_cells}
use Rattle.tree.specs.Posts.{Laid, Fits, TreeRead}
use Rattle.tree.specs.Answers.{tree_with, number_of, place_of}
use Rattle.tree.specs.declared.answers.Cursor.{Cursor}
use Rattle.tree.proofs.Forests.{length_rows}
use Rattle.tree.proofs.Tags.{length_attr_rows}
use Rattle.tree.specs.declared.answers.Refusal.{Refusal}
use Rattle.tree.specs.declared.answers.TreeSize.{TreeSize}

module _ (s : List ℕ) (n m : ℕ) where
  pub no_nodes : n < 49152 → meaning s n m ≡ bad 1 0
  unfolding meaning
  no_nodes h = rw (lt-ltb n 49152 h)

  pub no_attrs : 49152 ≤ n → m < 32768 → meaning s n m ≡ bad 1 0
  unfolding meaning
  no_attrs h g = rw (le-ltb n 49152 h, lt-ltb m 32768 g)

  pub too_long : 49152 ≤ n → 32768 ≤ m → 65536 < length s → meaning s n m ≡ bad 2 0
  unfolding meaning
  too_long h g l = rw (le-ltb n 49152 h, le-ltb m 32768 g, lt-ltb 65536 (length s) l)

  pub not_utf8 : (r : ℕ) → 49152 ≤ n → 32768 ≤ m → length s ≤ 65536 → r ≡ utf8_end s → r < length s → meaning s n m ≡ bad 3 r
  unfolding meaning
  not_utf8 r h g l e b = rw (le-ltb n 49152 h, le-ltb m 32768 g, le-ltb 65536 (length s) l, ← e, lt-ltb r (length s) b)

  pub in_range : (p : ℕ) → Fits s n m → p ≡ prolog_end s → meaning s n m ≡ top_of s p
  unfolding meaning
  in_range p f e =
      rw (le-ltb n 49152 f.long, le-ltb m 32768 f.wide, le-ltb 65536 (length s) f.short, le-ltb (utf8_end s) (length s) f.valid, e)

drop_replicate : (m n a : ℕ) → drop m (replicate n a) ≡ replicate (n - m) a
drop_replicate zero n a = rw (sub-zero n)
drop_replicate (suc m) zero a = rw (zero-sub (suc m))
drop_replicate (suc m) (suc n) a = rw (suc-sub-suc n m) (drop_replicate m n a)

-- a run of stores at the front of a blank table
laid-blank : (t t' r : List ℕ) (cells n : ℕ) → t ≡ replicate cells 0 → t' ≡ sets t 0 r → length r ≡ n → n ≤ cells → t' ≡ r ++ replicate (cells - n) 0
laid-blank t t' r cells n z e l h =
    let blank : List ℕ = replicate cells 0 in
    let room : 0 + length r ≤ length blank = rw (length-replicate {A = ℕ} cells 0) (omega arith) in
    e ∙ rw z (sets-eq r blank 0 room ∙ rw (zero-add (length r), l, drop_replicate n cells 0))

-- the three promises at once: of a refusal, and of a tree
pub refused : (o : Out) (x q n m : ℕ) (t u : List ℕ) → o ≡ bad x q → t ≡ replicate n 0 → u ≡ replicate m 0
    → (Err (record { number = x; place = q }) ≡ answer_of o) × ((t ≡ nodes_of n o) × (u ≡ attr_cells m o))
unfolding answer_of nodes_of attr_cells
refused o x q n m t u e y z = rw e (refl, (y, z))

pub tree : (o : Out) (s t t' u u' : List ℕ) (low n m : ℕ) (c : Cursor) → Laid o s t t' u u' low 0 0 c → t ≡ replicate n 0 → u ≡ replicate m 0
    → 49152 ≤ n → 32768 ≤ m
    → (tree_with c.nodes c.attrs ≡ answer_of o) × ((t' ≡ nodes_of n o) × (u' ≡ attr_cells m o))
unfolding answer_of nodes_of attr_cells
tree o s t t' u u' low n m c l y z h g =
    let f : Forest = l.forest in
    let e : c.nodes ≡ size f = omega arith in
    let d : c.attrs ≡ length (attrs_of f) = omega arith in
    rw l.is (
      rw (e, d),
      (
        laid-blank t t' (rows 0 0 f) n (size f * 6) y l.laid (length_rows f 0 0) (omega arith),
        laid-blank u u' (attr_rows (attrs_of f)) m (length (attrs_of f) * 4) z l.listed (length_attr_rows (attrs_of f)) (omega arith),
      ),
    )

-- as the promise has them
pub read_of : {s t u : List ℕ} {r : Result TreeSize Refusal} {t' u' : List ℕ}
    → (r ≡ answer_of (meaning s (length t) (length u)))
    × ((t' ≡ nodes_of (length t) (meaning s (length t) (length u))) × (u' ≡ attr_cells (length u) (meaning s (length t) (length u))))
    → TreeRead s t u r t' u'
unfolding answer_of number_of place_of
read_of x = record {
  answer = x.0;
  says = λ n p e. let w = x.0 ∙ ap answer_of e in (ap number_of w, ap place_of w);
  of_nodes = x.1.0;
  of_attrs = x.1.1;
}
