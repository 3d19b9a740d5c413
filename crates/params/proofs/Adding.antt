-- Parameters, one attribute after the other. Assumes nothing.
--     Listing, listing_start, listing_on, listing_all, listing_full     one turn of `collect_params`
--     value-fits, span-is, adds_none, adds_row                one attribute
use Rattle.std.specs.Prelude.{Option, Some, None}
use Prim.Native.Nat.{ℕ, ◌+◌, ◌-◌, ◌*◌, ◌≤◌, ◌<◌}
use mathlib.Core.Path.{◌≡◌, refl, sym, ap, ◌∙◌}
use mathlib.Core.Bool.{true, false}
use mathlib.Core.List.{List, [], ◌∷◌, ◌++◌, append_assoc, append-nil}
use native.Mathlib.Omega.{arith}
use lib.ListN.{length, get_or, take, drop, length-append, length-take, length-drop}
use lib.Seq.{sets, take-append_seam}
use Rattle.scan.specs.Names.{after_first_colon, PartFrom}
use Rattle.scan.specs.Part.{string_at}
use Rattle.scan.proofs.Stores.{sets_append}
use Rattle.scan.proofs.Every.{by-test}
use Rattle.derivation.proofs.RunLaws.{string_is}
use Rattle.tree.specs.Trees.{Attr}
use Rattle.track.specs.declared.strings.Span.{Span}
use Rattle.track.specs.declared.values.Param as declared
use Rattle.track.specs.Track.{Param}
use Rattle.records.specs.Posts.{AddPost}
use Rattle.track.specs.Layout.{each, param_cells}
use Rattle.xml.specs.Find.{Owned}
use Rattle.xml.specs.Reading.{Placed}
use Rattle.meaning.specs.Words.{only}
use Rattle.meaning.specs.Kinds.{with_places, attrs_in}
use Rattle.meaning.specs.Meaning.{is_param, param_of, params_of}
use Rattle.styling.specs.Posts.{NameFits, name_at}
use Rattle.xml.proofs.AttrRows.{Head, Rest, rest-start, rest-first, rest-on}
use Rattle.params.specs.Named.{is_param_name}
use Rattle.params.specs.Rows.{ValueFits, param_at, params_at, SpanIs, placed_params, Adds}

abbrev params : (z : List ℕ) → List Attr → List (Param Placed)
params z l = params_of with_places (attrs_in z l)

-- the first attribute, in row k, and the others
first-params : (u z : List ℕ) (k n : ℕ) (l : List Attr) (y : Head u z k n l) → params z l ≡ params_at u z k ++ params z y.others
unfolding params_of only is_param param_of each attrs_in
first-params u z k n l y =
    let a : Attr = y.head in
    rw (y.is, y.cells.name_is, y.cells.name_len_is, y.cells.value-is, y.cells.value-len_is)
    (by-test (is_param_name (string_at z a.name a.name_len)) (λ e. rw e) (λ e. rw e))

-- ---- rows
cells-append : (a b : List (Param Placed)) → placed_params (a ++ b) ≡ placed_params a ++ placed_params b
unfolding placed_params
cells-append [] b = refl
cells-append (x ∷ a) b = rw (cells-append a b)

cells-long : (a : List (Param Placed)) → length (placed_params a) ≡ length a * 4
unfolding placed_params
cells-long [] = refl
cells-long (x ∷ a) = omega (arith, cells-long a)

-- ---- attribute after attribute
abbrev still : List Attr → ℕ
still l = 0

-- the parameters before row k stand in n rows
pub record Listing (u z : List ℕ) (k e : ℕ) (l : List Attr) (n : ℕ) (t t' : List ℕ) : Type 0 where
  pub rest : Rest still u z k e l
  pub done : List (Param Placed)
  pub is-done : params z l ≡ done ++ params z rest.attrs
  pub count : n ≡ length done
  pub laid : t' ≡ sets t 0 (placed_params done)

pub listing_start : {u z : List ℕ} {first many : ℕ} {l : List Attr} (t : List ℕ) → Owned u z first many l
    → Listing u z first (first + many) l 0 t t
unfolding rest-start placed_params
listing_start t y = record { rest = rest-start y; done = []; is-done = refl; count = refl; laid = refl }

module _ {u z : List ℕ} {k e : ℕ} {l : List Attr} {n : ℕ} {t t' : List ℕ} (x : Listing u z k e l n t t') where
  next : (h : k < e) → params z l ≡ (x.done ++ params_at u z k) ++ params z (rest-first x.rest h).others
  next h =
      let y = rest-first x.rest h in
      x.is-done
      ∙ (ap (λ r. x.done ++ r) (first-params u z k (e - k) x.rest.attrs y)
      ∙ sym (append_assoc x.done (params_at u z k) (params z y.others)))

  pub listing_on : k < e → (m : ℕ) → m ≡ n + length (params_at u z k) → (t'' : List ℕ)
      → t'' ≡ sets t' (n * 4) (placed_params (params_at u z k)) → Listing u z (k + 1) e l m t t''
  unfolding rest-on
  listing_on h m c t'' s =
      let at : n * 4 ≡ 0 + length (placed_params x.done) = omega (arith, cells-long x.done, x.count) in
      record {
        rest = rest-on x.rest h refl;
        done = x.done ++ params_at u z k;
        is-done = next h;
        count = omega (arith, c, x.count, length-append x.done (params_at u z k));
        laid =
            s
            ∙ rw (at, x.laid, cells-append x.done (params_at u z k))
            (sets_append (placed_params x.done) (placed_params (params_at u z k)) t 0);
      }

  pub listing_all : e ≤ k → (n ≡ length (params z l)) × (t' ≡ sets t 0 (placed_params (params z l)))
  unfolding params_of only each attrs_in
  listing_all h = by x.rest.attrs (omega (arith, x.rest.owned.count)) x.is-done
    where
      by : (r : List Attr) → length r ≡ 0 → params z l ≡ x.done ++ params z r
          → (n ≡ length (params z l)) × (t' ≡ sets t 0 (placed_params (params z l)))
      by [] w q = let e : params z l ≡ x.done = q ∙ append-nil x.done in rw e (x.count, x.laid)
      by (a ∷ r) w q = absurd (omega arith)

  -- 64 rows are full, and there is one more
  pub listing_full : (h : k < e) → 64 ≤ n → n ≤ 64 → (t'' : List ℕ) → t'' ≡ t' → params_at u z k ≡ param_at u z k ∷ []
      → (64 < length (params z l)) × (t'' ≡ sets t 0 (placed_params (take 64 (params z l))))
  listing_full h a b t'' s f =
      let more : List (Param Placed) = params z (rest-first x.rest h).others in
      let q : params z l ≡ x.done ++ (params_at u z k ++ more) = next h ∙ append_assoc x.done (params_at u z k) more in
      let all : List (Param Placed) = params_at u z k ++ more in
      let one : length (params_at u z k) ≡ 1 = rw f refl in
      let len = ap length q in
      let w : take 64 (x.done ++ all) ≡ x.done = take_append_left 64 x.done all (omega (arith, x.count)) in (
        omega (arith, len, length-append x.done all, length-append (params_at u z k) more, one, x.count),
        s ∙ rw (q, w) x.laid,
      )
    where
      take_append_left : (m : ℕ) (d r : List (Param Placed)) → length d ≡ m → take m (d ++ r) ≡ d
      take_append_left m d r g = rw (← g) (take-append_seam d r)

-- ---- one attribute
pub value-fits : {u z : List ℕ} {k e : ℕ} {l : List Attr} {n : ℕ} {t t' : List ℕ} → Listing u z k e l n t t' → k < e → ValueFits u z k
value-fits x h = let y = rest-first x.rest h in rw (y.cells.value-is, y.cells.value-len_is) y.value-fits

name_long : (u z : List ℕ) (k : ℕ) → NameFits u z k → length (name_at u z k) ≡ get_or u (k * 4 + 1) 0
name_long u z k f =
    let p = get_or u (k * 4) 0 in
    let n = get_or u (k * 4 + 1) 0 in
    ap length (string_is z p n) ∙ omega (arith, length-take n (drop p z), length-drop p z, f.1)

value-long : (u z : List ℕ) (k : ℕ) → ValueFits u z k
    → length (string_at z (get_or u (k * 4 + 2) 0) (get_or u (k * 4 + 3) 0)) ≡ get_or u (k * 4 + 3) 0
value-long u z k f =
    let p = get_or u (k * 4 + 2) 0 in
    let n = get_or u (k * 4 + 3) 0 in
    ap length (string_is z p n) ∙ omega (arith, length-take n (drop p z), length-drop p z, f)

pub span-is : (u z : List ℕ) (k r : ℕ) → NameFits u z k → PartFrom (name_at u z k) r (after_first_colon (name_at u z k)) → (x : Span)
    → x.place ≡ get_or u (k * 4) 0 + r → x.len ≡ length (name_at u z k) - r → SpanIs u z k x
span-is u z k r f c x p n =
    let s = name_at u z k in
    let w : length (after_first_colon s) ≡ length s - r = ap length (sym c.is) ∙ length-drop r s in
    let long = name_long u z k f in
    record {
      place_is = p ∙ ap (λ m. get_or u (k * 4) 0 + m) (omega (arith, w, c.within));
      len_is = omega (arith, n, w);
      within = omega (arith, p, n, f.1, c.within, long);
    }

cells_of : (u z : List ℕ) (k : ℕ) (x : declared.Param) → SpanIs u z k x.name → x.value.place ≡ get_or u (k * 4 + 2) 0
    → x.value.len ≡ get_or u (k * 4 + 3) 0 → ValueFits u z k → param_cells x ≡ placed_params (param_at u z k ∷ [])
unfolding param_cells placed_params
cells_of u z k x s p q f = rw (s.place_is, s.len_is, p, q, value-long u z k f)

pub adds_none : (u z : List ℕ) (k : ℕ) (t : List ℕ) (n : ℕ) → is_param_name (name_at u z k) ≡ false → Adds u z k t t n (Some n)
unfolding placed_params
adds_none u z k t n e = rw e (omega arith, λ h. h, refl)

pub adds_row : (u z : List ℕ) (k : ℕ) (t t' : List ℕ) (n : ℕ) (x : declared.Param) → is_param_name (name_at u z k) ≡ true
    → SpanIs u z k x.name → x.value.place ≡ get_or u (k * 4 + 2) 0 → x.value.len ≡ get_or u (k * 4 + 3) 0 → ValueFits u z k → (r : Option ℕ)
    → AddPost 64 4 (param_cells x) t t' n r → Adds u z k t t' n r
adds_row u z k t t' n x e s p q f (Some m) w =
    let one : params_at u z k ≡ param_at u z k ∷ [] = rw e in
    let row : param_cells x ≡ placed_params (param_at u z k ∷ []) = cells_of u z k x s p q f in
    (w.1 ∙ rw one, λ h. omega (arith, w.0, w.1), w.2 ∙ rw (one, row))
adds_row u z k t t' n x e s p q f None w = (w.0, w.1, rw e)
