-- Laws of forests and their rows. Assumes nothing.
use Prim.Native.Nat.{ℕ, ◌+◌, ◌*◌}
use mathlib.Core.Path.{◌≡◌, refl, ◌∙◌}
use mathlib.Core.List.{List, ◌++◌, append_assoc}
use native.Mathlib.Omega.{arith}
use native.Mathlib.Nat.{add-zero}
use lib.ListN.{length, length-append}
use lib.Seq.{sets}
use Rattle.tree.specs.Trees.{Attr, Forest, nil, text, section, elem, size, attrs_of, join, row, rows, attr_rows}
use Rattle.scan.proofs.Stores.{sets_on}
use Rattle.tree.proofs.Tags.{attr_rows-append, length_attr_rows}

pub size-join : (f g : Forest) → size (join f g) ≡ size f + size g
unfolding join size
size-join nil g = omega arith
size-join (text p n f) g = omega (arith, size-join f g)
size-join (section p n f) g = omega (arith, size-join f g)
size-join (elem p n l c f) g = omega (arith, size-join f g)

pub attrs-join : (f g : Forest) → attrs_of (join f g) ≡ attrs_of f ++ attrs_of g
unfolding join attrs_of
attrs-join nil g = refl
attrs-join (text p n f) g = attrs-join f g
attrs-join (section p n f) g = attrs-join f g
attrs-join (elem p n l c f) g = rw (attrs-join f g) (simp append_assoc)

pub rows_join : (f g : Forest) (k a : ℕ) → rows k a (join f g) ≡ rows k a f ++ rows (k + size f) (a + length (attrs_of f)) g
unfolding join size rows attrs_of
rows_join nil g k a = rw (add-zero k, add-zero a)
rows_join (text p n f) g k a =
    let e : k + 1 + size f ≡ k + (1 + size f) = omega arith in
    rw (rows_join f g (k + 1) a, e) (simp append_assoc)
rows_join (section p n f) g k a =
    let e : k + 1 + size f ≡ k + (1 + size f) = omega arith in
    rw (rows_join f g (k + 1) a, e) (simp append_assoc)
rows_join (elem p n l c f) g k a =
    let e : k + 1 + size c + size f ≡ k + (1 + size c + size f) = omega arith in
    let w : length (l ++ (attrs_of c ++ attrs_of f)) ≡ length l + (length (attrs_of c) + length (attrs_of f)) = simp length-append in
    let d : a + length l + length (attrs_of c) + length (attrs_of f) ≡ a + length (l ++ (attrs_of c ++ attrs_of f)) = omega arith in
    rw (rows_join f g (k + 1 + size c) (a + length l + length (attrs_of c)), e, d) (simp append_assoc)

pub length_rows : (f : Forest) (k a : ℕ) → length (rows k a f) ≡ size f * 6
unfolding size rows row
length_rows nil k a = refl
length_rows (text p n f) k a = omega (arith, length_rows f (k + 1) a)
length_rows (section p n f) k a = omega (arith, length_rows f (k + 1) a)
length_rows (elem p n l c f) k a =
    let b : ℕ = a + length l in
    let d : ℕ = a + length l + length (attrs_of c) in
    omega (arith, length_rows c (k + 1) b, length_rows f (k + 1 + size c) d, length-append (rows (k + 1) b c) (rows (k + 1 + size c) d f))

-- rows after rows, in both tables
pub rows_on : (f g : Forest) (t t' t'' : List ℕ) (k₀ a₀ k a : ℕ) → k ≡ k₀ + size f → a ≡ a₀ + length (attrs_of f)
    → t' ≡ sets t (k₀ * 6) (rows k₀ a₀ f) → t'' ≡ sets t' (k * 6) (rows k a g)
    → t'' ≡ sets t (k₀ * 6) (rows k₀ a₀ (join f g))
rows_on f g t t' t'' k₀ a₀ k a e d x y =
    sets_on (rows k₀ a₀ f) (rows k a g) t t' t'' (k₀ * 6) (k * 6) x y (omega (arith, length_rows f k₀ a₀)) ∙ rw (rows_join f g k₀ a₀, e, d)

pub attrs-on : (f g : List Attr) (u u' u'' : List ℕ) (a₀ a : ℕ) → a ≡ a₀ + length f
    → u' ≡ sets u (a₀ * 4) (attr_rows f) → u'' ≡ sets u' (a * 4) (attr_rows g)
    → u'' ≡ sets u (a₀ * 4) (attr_rows (f ++ g))
attrs-on f g u u' u'' a₀ a e x y =
    sets_on (attr_rows f) (attr_rows g) u u' u'' (a₀ * 4) (a * 4) x y (omega (arith, length_attr_rows f)) ∙ rw (attr_rows-append f g)
