-- The first element of a name, by its row and by what its nodes mean, and how many attributes stand in it. Assumes nothing.
--     named-same               names are compared alike in the tables and in nodes
--     First, first_found       the row that is found is the first element of the name; its strings are in order, where those of all are
--     first-nothing            no row is found: there is none
--     regroup                  the strings of an element and of its later siblings, as two lists
--     attrs-few, attrs-apart   no more attributes stand in it than in all; nor in two of different names
use Rattle.std.specs.Prelude.{Some, None}
use Prim.Native.Nat.{ℕ, ◌+◌, ◌≤◌}
use mathlib.Core.Path.{◌≡◌, refl, sym, ◌∙◌}
use mathlib.Core.Bool.{true, false}
use mathlib.Core.List.{List, [], ◌++◌, append_assoc}
use mathlib.Core.Option.{none, some}
use native.Mathlib.Omega.{arith}
use lib.ListN.{length, length-append}
use Rattle.scan.specs.Part.{string_at}
use Rattle.scan.proofs.Every.{by-test}
use Rattle.tree.specs.Trees.{Attr, Forest, nil, text, section, elem, size, attrs_of, Span, attr_spans, spans, InOrder}
use Rattle.tree.proofs.Places.{in_lower, in_first, in_rest}
use Rattle.xml.specs.Find.{named, Holds, find_row}
use Rattle.xml.specs.Reading.{Placed}
use Rattle.xml.proofs.FindLaws.{holds_text, holds_section, holds_elem, holds_alone}
use Rattle.meaning.specs.Nodes.{first_element}
use Rattle.meaning.specs.Nodes as nodes
use Rattle.meaning.specs.Kinds.{with_places, attrs_in, nodes_in}
use Rattle.extras.specs.Counts.{attrs_named}

-- ---- the row that is found

-- row k is the first element of that name in the forest f that stands from row i on
pub record First (t u z name : List ℕ) (i : ℕ) (f : Forest) (k : ℕ) : Type 0 where
  pub place : ℕ
  pub len : ℕ
  pub first : ℕ
  pub attrs : List Attr
  pub content : Forest
  pub holds : Holds t u z k first (elem place len attrs content nil)
  pub after : i ≤ k
  pub before : k + 1 + size content ≤ i + size f
  pub is : first_element with_places name (nodes_in z f) ≡ some (record { at = place; attrs = attrs_in z attrs; content = nodes_in z content })
  pub many : attrs_named z name f ≡ length attrs + length (attrs_of content)
  pub placed : (lo hi : ℕ) → InOrder lo (spans f) hi → InOrder lo (spans (elem place len attrs content nil)) hi

never : {A : Type 0} {k : ℕ} → Some k ≡ None → A
never e = absurd (let z : ◌≡◌ {A = ℕ} 0 1 = cc in omega arith)

pub named-same : (name : List ℕ) (x : Placed) → nodes.named with_places name x ≡ named name x.bytes
unfolding nodes.named named
named-same name x = refl

-- what is found among the later siblings
first-later : {t u z name : List ℕ} {i j : ℕ} {f g : Forest} {k : ℕ} → i ≤ j → j + size g ≤ i + size f
    → first_element with_places name (nodes_in z f) ≡ first_element with_places name (nodes_in z g) → attrs_named z name f ≡ attrs_named z name g
    → ((lo hi : ℕ) → InOrder lo (spans f) hi → InOrder lo (spans g) hi) → First t u z name j g k → First t u z name i f k
first-later h w e c o x = record {
  place = x.place;
  len = x.len;
  first = x.first;
  attrs = x.attrs;
  content = x.content;
  holds = x.holds;
  after = omega (arith, x.after);
  before = omega (arith, x.before);
  is = e ∙ x.is;
  many = c ∙ x.many;
  placed = λ lo hi q. x.placed lo hi (o lo hi q);
}

-- strings in order: those of the later siblings alone, and those of an element without its later siblings
after_one : (p n lo hi : ℕ) (l : List Span) → lo ≤ p → InOrder (p + n) l hi → InOrder lo l hi
after_one p n lo hi l h o = in_lower l lo (p + n) hi (omega arith) o

after-elem : (p n : ℕ) (l : List Attr) (c f : Forest) (lo hi : ℕ) → InOrder lo (spans (elem p n l c f)) hi → InOrder lo (spans f) hi
unfolding spans
after-elem p n l c f lo hi o =
    let r = in_rest (attr_spans l) (spans c ++ spans f) (p + 1 + n) hi o.1 in
    after_one (p + 1) n lo hi (spans f) o.0 (in_rest (spans c) (spans f) (p + 1 + n) hi r)

pub regroup : (a b c : List Span) → a ++ (b ++ c) ≡ (a ++ (b ++ [])) ++ c
regroup a b c = simp append_assoc

alone : (p n : ℕ) (l : List Attr) (c f : Forest) (lo hi : ℕ) → InOrder lo (spans (elem p n l c f)) hi → InOrder lo (spans (elem p n l c nil)) hi
unfolding spans
alone p n l c f lo hi o = (
  o.0,
  in_first (attr_spans l ++ (spans c ++ [])) (spans f) (p + 1 + n) hi (rw (← (regroup (attr_spans l) (spans c) (spans f))) o.1),
)

pub first_found : {t u z name : List ℕ} {i a k : ℕ} (f : Forest) → Holds t u z i a f → find_row z name i f ≡ Some k → First t u z name i f k
unfolding find_row first_element nodes_in attrs_named size spans
first_found nil h e = never (sym e)
first_found {t = t} {u = u} {z = z} {name = name} {i = i} {a = a} {k = k} (text p n f) h e =
    first-later (omega arith) (omega arith) refl refl (λ lo hi o. after_one p n lo hi (spans f) o.0 o.1) (first_found {i = i + 1} f (holds_text h).later e)
first_found {t = t} {u = u} {z = z} {name = name} {i = i} {a = a} {k = k} (section p n f) h e =
    first-later (omega arith) (omega arith) refl refl (λ lo hi o. after_one p n lo hi (spans f) o.0 o.1)
    (first_found {i = i + 1} f (holds_section h).later e)
first_found {t} {u} {z} {name} {i} {a} {k} (elem p n l c f) h e =
    let r : find_row z name (i + 1 + size c) f ≡ Some k → First t u z name (i + 1 + size c) f k = first_found {i = i + 1 + size c} f (holds_elem h).later in
    by-test (named name (string_at z (p + 1) n)) here
    (λ w. first-later (omega arith) (omega arith) (rw (named-same name its, w)) (rw w) (after-elem p n l c f) (r (rw w at e)))
  where
    its : Placed
    its = record { place = p + 1; bytes = string_at z (p + 1) n }

    here : named name (string_at z (p + 1) n) ≡ true → First t u z name i (elem p n l c f) k
    here w =
        let j : Some i ≡ Some k = rw w at e in
        let v : i ≡ k = cc in
        rw (← v) (record {
          place = p;
          len = n;
          first = a;
          attrs = l;
          content = c;
          holds = holds_alone h;
          after = omega arith;
          before = omega arith;
          is = rw (named-same name its, w);
          many = rw w;
          placed = alone p n l c f;
        })

pub first-nothing : (z name : List ℕ) (i : ℕ) (f : Forest) → find_row z name i f ≡ None → first_element with_places name (nodes_in z f) ≡ none
unfolding find_row first_element nodes_in
first-nothing z name i nil e = refl
first-nothing z name i (text p n f) e = first-nothing z name (i + 1) f e
first-nothing z name i (section p n f) e = first-nothing z name (i + 1) f e
first-nothing z name i (elem p n l c f) e =
    let j : ℕ = i + 1 + size c in
    let r : find_row z name j f ≡ None → first_element with_places name (nodes_in z f) ≡ none = first-nothing z name j f in
    let s = named-same name (record { place = p + 1; bytes = string_at z (p + 1) n }) in
    by-test (named name (string_at z (p + 1) n)) (λ w. never (rw w at e)) (λ w. rw (s, w) (r (rw w at e)))

-- ---- no more attributes than in all

pub attrs-few : (z name : List ℕ) (f : Forest) → attrs_named z name f ≤ length (attrs_of f)
unfolding attrs_named attrs_of
attrs-few z name nil = omega arith
attrs-few z name (text p n f) = attrs-few z name f
attrs-few z name (section p n f) = attrs-few z name f
attrs-few z name (elem p n l c f) =
    let r = attrs-few z name f in
    by-test (named name (string_at z (p + 1) n)) (λ w. rw w (simp length-append (omega arith))) (λ w. rw w (simp length-append (omega arith)))

module _ (z a b : List ℕ) (apart : (n : List ℕ) → named a n ≡ true → named b n ≡ false) where
  pub attrs-apart : (f : Forest) → attrs_named z a f + attrs_named z b f ≤ length (attrs_of f)
  unfolding attrs_named attrs_of
  attrs-apart nil = omega arith
  attrs-apart (text p n f) = attrs-apart f
  attrs-apart (section p n f) = attrs-apart f
  attrs-apart (elem p n l c f) =
      let r = attrs-apart f in
      let few-a = attrs-few z a f in
      let few-b = attrs-few z b f in
      by-test (named a (string_at z (p + 1) n))
      (λ w. rw (w, apart (string_at z (p + 1) n) w) (simp length-append (omega arith)))
      (λ w. by-test (named b (string_at z (p + 1) n))
      (λ v. rw (w, v) (simp length-append (omega arith)))
      (λ v. rw (w, v) (simp length-append (omega arith))))
