-- Attributes sought by a test of their names. Assumes nothing.
--     sought, sought_here, sought_next, sought_nowhere     one turn of `seek`
--     by_value, none-value           what follows from what it answers
--     param_rate, no_rate                     the same of a parameter
--     finds_value, meets-fits, meets-value     the same of either answer
--     begins, part-from                       names taken apart
--     timing-is, timing_framed, timing-refused     the two rates
use Rattle.std.specs.Prelude as rust
use Rattle.std.specs.Prelude.{Some, None}
use Prim.Native.Nat.{ℕ, ◌+◌, ◌-◌, ◌≤◌, ◌<◌}
use mathlib.Core.Path.{◌≡◌, refl, sym, ◌∙◌, ap}
use mathlib.Core.Bool.{Bool, true, false, ◌&&◌}
use mathlib.Core.List.{List, [], ◌∷◌}
use mathlib.Core.Option.{Option, none, some}
use native.Mathlib.Omega.{arith}
use lib.Ieee.{Float}
use lib.ListN.{length, take, drop, length-drop}
use lib.Seq.{take_all}
use Rattle.scan.specs.Names.{same_bytes_of, after_first_colon, PartFrom}
use Rattle.scan.specs.Posts.{Marked}
use Rattle.scan.specs.Part.{string_at}
use Rattle.utf8.specs.White.{trimmed}
use Rattle.scan.proofs.Every.{by-test}
use Rattle.times.specs.Expressions.{time_decimal}
use Rattle.tree.specs.Trees.{Attr}
use Rattle.tree.specs.declared.answers.Refusal.{Refusal}
use Rattle.times.specs.declared.offset.TimingCtx.{TimingCtx}
use Rattle.grammar.specs.Scan.{prefix}
use Rattle.derivation.proofs.SearchLaws.{prefix-at}
use Rattle.records.specs.Find.{first_that}
use Rattle.xml.specs.Find.{attribute_row}
use Rattle.xml.specs.Reading.{Placed}
use Rattle.xml.proofs.AttrRows.{Head, Rest, rest-first, rest-on, rest-none, row-cells}
use Rattle.meaning.specs.Words.{ascii, only}
use Rattle.meaning.specs.Answers.{Answer, is, ◌>>=◌}
use Rattle.meaning.specs.Nodes as nodes
use Rattle.meaning.specs.Nodes.{value_of, valued, read_from}
use Rattle.meaning.specs.Kinds.{with_places, attrs_in}
use Rattle.meaning.specs.Meaning.{rate_answer, float_or, is_param, rate_of, timing}
use Rattle.xml.specs.declared.find.Attribute.{Attribute}
use Rattle.styling.specs.Posts.{name_at, value_in_of, option, turned, Finds, FoundFits}
use Rattle.styling.proofs.Attributes.{found-valued, none-valued}
use Rattle.params.specs.declared.seek.Sought.{Sought}
use Rattle.params.specs.Named.{is_param_name, sought_by, first_by_of, IsBy, NoneBy, Meets, found_in, timing_of}

-- ---- row by row
abbrev pub sought : (p : List ℕ → Bool) (z : List ℕ) → List Attr → Option (nodes.Attr Placed)
sought p z l = first_by_of p (attrs_in z l)

module _ (p : List ℕ → Bool) {u z : List ℕ} {k e : ℕ} {l : List Attr} (x : Rest (sought p z) u z k e l) where
  pub sought_here : k < e → (h : Attribute) → h ≡ attribute_row u k → p (name_at u z k) ≡ true → IsBy z p (attrs_in z l) h
  unfolding first_that attrs_in
  sought_here b h f w =
      let i = row-cells u k f in
      let y : Head u z k (e - k) x.attrs = rest-first x b in
      let a : Attr = y.head in
      let v : p (string_at z a.name a.name_len) ≡ true = rw (y.cells.name_is, y.cells.name_len_is) at w in
      let c : h.at ≡ a.name = i.0 ∙ y.cells.name_is in
      let q : h.place ≡ a.value = i.1 ∙ y.cells.value-is in
      let r : h.len ≡ a.value_len = i.2 ∙ y.cells.value-len_is in
      record {
        full = record { place = a.name; bytes = string_at z a.name a.name_len };
        is-first = x.is ∙ (ap (sought p z) y.is ∙ rw (v, c, q, r));
        within = rw (q, r) y.value-fits;
      }

  pub sought_next : k < e → p (name_at u z k) ≡ false → Rest (sought p z) u z (k + 1) e l
  unfolding first_that attrs_in
  sought_next b w =
      let y : Head u z k (e - k) x.attrs = rest-first x b in
      let a : Attr = y.head in
      let v : p (string_at z a.name a.name_len) ≡ false = rw (y.cells.name_is, y.cells.name_len_is) at w in
      rest-on x b (rw v)

  pub sought_nowhere : e ≤ k → NoneBy p (attrs_in z l)
  unfolding first_that attrs_in
  sought_nowhere h = record { is_none = rest-none x h }

-- ---- a value
pub by_value : {z : List ℕ} {p : List ℕ → Bool} {l : List (nodes.Attr Placed)} {h : Attribute} → IsBy z p l h
    → some (value_in_of z h) ≡ value_of (first_by_of p l)
by_value x = rw x.is-first

pub none-value : {p : List ℕ → Bool} {l : List (nodes.Attr Placed)} → NoneBy p l → none ≡ value_of (first_by_of p l)
none-value x = rw x.is_none

-- ---- a parameter
only-first : (p q : nodes.Attr Placed → Bool) (l : List (nodes.Attr Placed))
    → first_that p (only q l) ≡ first_that (λ (x : nodes.Attr Placed). q x && p x) l
unfolding first_that only
only-first p q [] = refl
only-first p q (x ∷ l) =
    let r = only-first p q l in
    by-test (q x) (λ e. rw (e, r)) (λ e. rw (e, r))

module _ (name : List ℕ) (l : List (nodes.Attr Placed)) where
  reads : rate_of with_places name l ≡ read_from with_places (λ a v. rate_answer a (time_decimal (trimmed v))) (first_by_of (sought_by Sought.Param name) l)
  unfolding rate_of is_param
  reads =
      ap (read_from with_places (λ a v. rate_answer a (time_decimal (trimmed v))))
      (only-first (λ x. same_bytes_of (after_first_colon x.name.bytes) name) (λ x. is_param_name x.name.bytes) l)

  pub param_rate : (z : List ℕ) {h : Attribute} → IsBy z (sought_by Sought.Param name) l h
      → rate_of with_places name l ≡ rate_answer h.at (time_decimal (trimmed (string_at z h.place h.len)))
  param_rate z x = reads ∙ rw x.is-first

  pub no_rate : NoneBy (sought_by Sought.Param name) l → rate_of with_places name l ≡ is none
  no_rate x = reads ∙ rw x.is_none

-- ---- what a search answers
pub finds_value : (z name : List ℕ) (l : List (nodes.Attr Placed)) (r : rust.Option Attribute) → Finds z name l r → found_in z r ≡ valued with_places name l
finds_value z name l (Some h) x = sym (found-valued x)
finds_value z name l None x = sym (none-valued x)

pub meets-fits : (z : List ℕ) (p : List ℕ → Bool) (l : List (nodes.Attr Placed)) (r : rust.Option Attribute) → Meets z p l r → FoundFits z r
meets-fits z p l (Some h) x = x.within
meets-fits z p l None x = tt

pub meets-value : (z : List ℕ) (p : List ℕ → Bool) (l : List (nodes.Attr Placed)) (r : rust.Option Attribute) → Meets z p l r → found_in z r ≡ value_of (first_by_of p l)
meets-value z p l (Some h) x = by_value x
meets-value z p l None x = none-value x

-- ---- names
pub begins : (m s : List ℕ) (r : Bool) → Marked m s 0 r → prefix m s ≡ r
begins m s r x = prefix-at m s 0 ∙ sym x.is

pub part-from : (s w : List ℕ) (r : ℕ) → PartFrom s r w → take (length s - r) (drop r s) ≡ w
part-from s w r x = take_all (length s - r) (drop r s) (omega (arith, length-drop r s)) ∙ x.is

-- ---- the two rates
-- a rate that is absent is 0
pub timing-is : (zero : Float) → zero ≡ float_or none → (frame tick : rust.Option Float)
    → record { frame_rate = rust.unwrap_or frame zero; has_frame_rate = rust.is_some frame; tick_rate = rust.unwrap_or tick zero; has_tick_rate = rust.is_some tick }
    ≡ timing (option frame) (option tick)
timing-is x e (Some a) (Some b) = refl
timing-is x e (Some a) None = rw e
timing-is x e None (Some b) = rw e
timing-is x e None None = rw e

module _ (l : List (nodes.Attr Placed)) where
  abbrev after_frame : Option Float → Answer TimingCtx
  after_frame frame = rate_of with_places (ascii "tickRate") l >>= λ tick. is (timing frame tick)

  pub timing_framed : (frame : Option Float) (a : Answer (Option Float)) → is frame ≡ rate_of with_places (ascii "frameRate") l
      → a ≡ rate_of with_places (ascii "tickRate") l → (a >>= λ tick. is (timing frame tick)) ≡ timing_of l
  timing_framed frame a h t =
      ap (λ (b : Answer (Option Float)). b >>= λ tick. is (timing frame tick)) t
      ∙ ap (λ (b : Answer (Option Float)). b >>= after_frame) h

  pub timing-refused : (r : Refusal) → turned r ≡ rate_of with_places (ascii "frameRate") l → turned r ≡ timing_of l
  timing-refused r h = ap (λ (b : Answer (Option Float)). b >>= after_frame) h
