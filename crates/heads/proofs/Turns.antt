-- The loop over the elements of one name among siblings, whatever is made of each. Assumes nothing.
--     one_of, among, within-limit, Turn          what one element gives, and what siblings mean
--     Along, along_start, along_row, along_next the siblings up to row k are read
--     along_attrs, along_room                   what is asked of the element in row k
--     along_passed, along_skipped, along_taken  one turn
--     along_refused, along_done                 the answer
use Rattle.std.specs.Prelude as rust
use Rattle.std.specs.Prelude.{Some, None, Result, Ok, Err}
use Prim.Native.Nat.{ℕ, ◌+◌, ◌-◌, ◌*◌, ◌≤◌, ◌<◌}
use mathlib.Core.Path.{◌≡◌, refl, sym, ap, ◌∙◌, subst}
use mathlib.Core.Bool.{true, false, cond, true≢false}
use mathlib.Core.List.{List, [], ◌∷◌, ◌++◌, append_assoc, append-nil}
use mathlib.Core.Option.{Option, none, some}
use native.Mathlib.Omega.{arith}
use native.Mathlib.Nat.{add-zero}
use lib.ListN.{length, get_or, length-append}
use Rattle.scan.specs.Part.{string_at}
use Rattle.tree.specs.declared.answers.Refusal.{Refusal}
use Rattle.tree.specs.Trees.{Forest, size, attrs_of}
use Rattle.tree.specs.Trees as placed
use Rattle.xml.specs.declared.find.Element.{Element}
use Rattle.xml.specs.Find.{named, Holds, is_element, HasRow, element_row, TextAt}
use Rattle.xml.specs.Reading.{Placed}
use Rattle.xml.proofs.FindLaws.{holds_text, holds_section, holds_elem, siblings_of, has_row, is-element_text, is-element_section, is-element_elem}
use Rattle.xml.proofs.FindSteps.{onward}
use Rattle.meaning.specs.Answers.{Answer, is, refused, ◌>>=◌, within}
use Rattle.meaning.specs.Nodes.{Attr, Nodes, id_of}
use Rattle.meaning.specs.Nodes as nodes
use Rattle.meaning.specs.Kinds.{with_places, attrs_in, nodes_in}
use Rattle.meaning.specs.Meaning.{listed}
use Rattle.meaning.proofs.Laws.{listed-text, listed-other, listed-one}
use Rattle.meaning.proofs.Within.{any, within-holds}
use Rattle.laid.specs.Laid.{total}
use Rattle.styling.specs.Posts.{HasRows, OfRows, turned}
use Rattle.heads.specs.Steps.{Children, Listing}
use Rattle.heads.proofs.Cells.{bind_assoc}

-- ---- lists
total-join : {A : Type 0} (g : A → ℕ) (a b : List A) → total g (a ++ b) ≡ total g a + total g b
unfolding total
total-join g [] b = omega arith
total-join g (x ∷ a) b = rw (total-join g a b) (omega arith)

joined-more : {A : Type 0} (a : Answer (List A)) (d x : List A)
    → ((a >>= λ more. is (x ++ more)) >>= λ more. is (d ++ more)) ≡ (a >>= λ more. is ((d ++ x) ++ more))
joined-more (is l) d x = ap is (sym (append_assoc d x l))
joined-more (refused n p) d x = refl

bind_none : {A : Type 0} (a : Answer (List A)) → a ≡ (a >>= λ more. is ([] ++ more))
bind_none (is l) = refl
bind_none (refused n p) = refl

module _ {A : Type 0} (name : List ℕ) (make : Placed → List (Attr Placed) → Answer A) (extras : A → ℕ) where
  -- what is made of an element, with its limit
  abbrev pub one_of : Placed → List (Attr Placed) → (place n : ℕ) → Answer A
  one_of id l place n = make id l >>= λ x. within 256 (n + 1) place x

  abbrev pub among : (z : List ℕ) (n : ℕ) → Forest → Answer (List A)
  among z n f = listed with_places name make n (nodes_in z f)

  pub within-limit : (id : Placed) (l : List (Attr Placed)) (place n : ℕ) (x : A) → one_of id l place n ≡ is x → n < 256
  within-limit id l place n x e =
      let w = any (λ (v : A). n + 1 ≤ 256) (make id l) (λ v. within 256 (n + 1) place v)
      (λ v. within-holds (λ (v : A). n + 1 ≤ 256) 256 (n + 1) place v (λ h. h)) in
      omega (arith, w.holds x e)

  -- An element of `many` attributes l, after n others whose extras end at row `at`. Those stood as `Stood` says, and stand with it as `Stood'` says.
  abbrev pub Turn : (rows n at : ℕ) (Stood Stood' : List A → Type 0) (many place : ℕ) → List (Attr Placed) → Result (rust.Option ℕ) Refusal → Type 0
  Turn rows n at Stood Stood' many place l (Ok (Some m)) =
      (id : Placed) × (id_of with_places l ≡ some id)
      × ((x : A) × (one_of id l place n ≡ is x) × (m ≡ extras x) × (m ≤ many)
      × ((d : List A) → length d ≡ n → at ≡ rows + total extras d → Stood d → Stood' (d ++ (x ∷ []))))
  Turn rows n at Stood Stood' many place l (Ok None) = (id_of with_places l ≡ none) × ((d : List A) → Stood d → Stood' d)
  Turn rows n at Stood Stood' many place l (Err q) = (id : Placed) × (id_of with_places l ≡ some id) × (one_of id l place n ≡ turned q)

  -- the siblings f are read up to row k: n of them are listed, with their extras in rows `rows` up to `at`, and stand as `Stood` says
  pub record Along (t u z : List ℕ) (end rows : ℕ) (f : Forest) (k n at : ℕ) (Stood : List A → Type 0) : Type 0 where
    pub own : ℕ
    pub rest : Forest
    pub holds : Holds t u z k own rest
    pub ends : k + size rest ≡ end
    pub done : List A
    pub means : among z 0 f ≡ (among z n rest >>= λ more. is (done ++ more))
    pub count : n ≡ length done
    pub few : n ≤ 256
    pub kept : at ≡ rows + total extras done
    pub room : at + length (attrs_of rest) ≤ rows + length (attrs_of f)
    pub stood : Stood done

  pub along_start : {t u z : List ℕ} {from end rows : ℕ} {Stood : List A → Type 0} (x : Children t u z from end) → Stood []
      → Along t u z end rows x.forest from 0 rows Stood
  unfolding total
  along_start {z = z} x s = record {
    own = x.own;
    rest = x.forest;
    holds = x.holds;
    ends = x.rows;
    done = [];
    means = bind_none (among z 0 x.forest);
    count = refl;
    few = omega arith;
    kept = omega arith;
    room = omega arith;
    stood = s;
  }

  -- ---- what `listed` says of siblings after n others
  module _ (z : List ℕ) (n : ℕ) where
    -- nothing of the first of f, the others are g
    none-listed : (f g : Forest) → among z n f ≡ among z n g → among z n f ≡ (among z (n + 0) g >>= λ more. is ([] ++ more))
    none-listed f g e = e ∙ bind_none (among z n g) ∙ ap (λ (i : ℕ). among z i g >>= λ more. is ([] ++ more)) (sym (add-zero n))

    -- an element
    module _ (p m : ℕ) (l : List placed.Attr) (c g : Forest) where
      abbrev its_id_lem : Option Placed
      its_id_lem =
          cond (nodes.named with_places name (record { place = p + 1; bytes = string_at z (p + 1) m })) (id_of with_places (attrs_in z l)) none

      unnamed : named name (string_at z (p + 1) m) ≡ false → its_id_lem ≡ none
      unfolding nodes.named named
      unnamed e = rw e

      id_is : named name (string_at z (p + 1) m) ≡ true → (o : Option Placed) → id_of with_places (attrs_in z l) ≡ o → its_id_lem ≡ o
      unfolding nodes.named named
      id_is e o h = rw (e, h)

      -- of another name, or without an id
      other-is : its_id_lem ≡ none → among z n (placed.elem p m l c g) ≡ among z n g
      unfolding nodes_in
      other-is e = listed-other with_places name make n p _ (attrs_in z l) (nodes_in z c) (nodes_in z g) e

      module _ (id : Placed) (e : its_id_lem ≡ some id) where
        abbrev rest_of : A → Answer (List A)
        rest_of one = among z (n + 1) g >>= λ more. is (one ∷ more)

        one_is : among z n (placed.elem p m l c g) ≡ (one_of id (attrs_in z l) p n >>= rest_of)
        unfolding nodes_in
        one_is =
            listed-one with_places name make n p _ (attrs_in z l) (nodes_in z c) (nodes_in z g) id e
            ∙ sym (bind_assoc (make id (attrs_in z l)) (λ made. within 256 (n + 1) p made) rest_of)

        taken_is : (x : A) → one_of id (attrs_in z l) p n ≡ is x → among z n (placed.elem p m l c g) ≡ rest_of x
        taken_is x h = one_is ∙ ap (λ (v : Answer A). v >>= rest_of) h

        refused-is : (q : Refusal) → one_of id (attrs_in z l) p n ≡ turned q → among z n (placed.elem p m l c g) ≡ turned q
        refused-is q h = one_is ∙ ap (λ (v : Answer A). v >>= rest_of) h

  -- ---- the siblings g, the first of which stands in row k: it gives x, and has so many attributes
  record Next (t u z : List ℕ) (end k n : ℕ) (g : Forest) (x : List A) (many : ℕ) : Type 0 where
    pub own : ℕ
    pub rest : Forest
    pub holds : Holds t u z (get_or t (k * 6 + 1) 0) own rest
    pub ends : get_or t (k * 6 + 1) 0 + size rest ≡ end
    pub means : among z n g ≡ (among z (n + length x) rest >>= λ more. is (x ++ more))
    pub fewer : many + length (attrs_of rest) ≤ length (attrs_of g)

  module _ (t u z : List ℕ) (end k own n : ℕ) where
    -- a text or a section
    leaf : (kind p m : ℕ) (f g : Forest) → TextAt t u z kind k own p m g → k + 1 + size g ≡ end → among z n f ≡ among z n g
        → length (attrs_of g) ≤ length (attrs_of f) → Next t u z end k n f [] 0
    leaf kind p m f g a e means fewer = record {
      own = own;
      rest = g;
      holds = rw a.row.end_is a.later;
      ends = rw a.row.end_is e;
      means = none-listed z n f g means;
      fewer = omega arith;
    }

    -- an element
    gives : (p m : ℕ) (l : List placed.Attr) (c g : Forest) → Holds t u z k own (placed.elem p m l c g) → k + size (placed.elem p m l c g) ≡ end
        → (x : List A) → among z n (placed.elem p m l c g) ≡ (among z (n + length x) g >>= λ more. is (x ++ more))
        → Next t u z end k n (placed.elem p m l c g) x (length l)
    unfolding size attrs_of
    gives p m l c g h e x means =
        let a = holds_elem h in
        record {
          own = own + length l + length (attrs_of c);
          rest = g;
          holds = rw a.row.end_is a.later;
          ends = rw a.row.end_is (omega (arith, e));
          means = means;
          fewer = simp length-append (omega arith);
        }

    passed : (g : Forest) → Holds t u z k own g → k + size g ≡ end → k < end → is_element t z name k ≡ false → Next t u z end k n g [] 0
    unfolding size attrs_of nodes_in
    passed placed.nil h e j w = absurd (omega arith)
    passed (placed.text p m g) h e j w =
        leaf 1 p m (placed.text p m g) g (holds_text h) (omega (arith, e)) (listed-text with_places name make n p _ (nodes_in z g)) (omega arith)
    passed (placed.section p m g) h e j w =
        leaf 3 p m (placed.section p m g) g (holds_section h) (omega (arith, e)) (listed-text with_places name make n (p - 9) _ (nodes_in z g))
        (omega arith)
    passed (placed.elem p m l c g) h e j w =
        let other = unnamed z n p m l c g (sym (is-element_elem z name h.stands) ∙ w) in
        let x = gives p m l c g h e [] (none-listed z n (placed.elem p m l c g) g (other-is z n p m l c g other)) in
        record { own = x.own; rest = x.rest; holds = x.holds; ends = x.ends; means = x.means; fewer = omega (arith, x.fewer) }

    -- the element of that name in row k
    record Here (g : Forest) : Type 0 where
      pub place : ℕ
      pub len : ℕ
      pub attrs : List placed.Attr
      pub content : Forest
      pub later : Forest
      pub is : g ≡ placed.elem place len attrs content later
      pub holds : Holds t u z k own (placed.elem place len attrs content later)
      pub ends : k + size (placed.elem place len attrs content later) ≡ end
      pub matches : named name (string_at z (place + 1) len) ≡ true

    here : (g : Forest) → Holds t u z k own g → k + size g ≡ end → k < end → is_element t z name k ≡ true → Here g
    unfolding size
    here placed.nil h e j w = absurd (omega arith)
    here (placed.text p m g) h e j w = absurd (true≢false (sym w ∙ is-element_text z name h.stands))
    here (placed.section p m g) h e j w = absurd (true≢false (sym w ∙ is-element_section z name h.stands))
    here (placed.elem p m l c g) h e j w = record {
      place = p;
      len = m;
      attrs = l;
      content = c;
      later = g;
      is = refl;
      holds = h;
      ends = e;
      matches = sym (is-element_elem z name h.stands) ∙ w;
    }

-- ---- the loop
module _ {A : Type 0} {name : List ℕ} {make : Placed → List (Attr Placed) → Answer A} {extras : A → ℕ} {t u z : List ℕ} {end rows : ℕ} {f : Forest}
    {k n at : ℕ} {Stood : List A → Type 0} (x : Along name make extras t u z end rows f k n at Stood) where
  abbrev listed_in : (n : ℕ) → Forest → Answer (List A)
  listed_in n g = among name make extras z n g

  abbrev AlongAt : (k n at : ℕ) → (List A → Type 0) → Type 0
  AlongAt k n at Stood' = Along name make extras t u z end rows f k n at Stood'

  abbrev NextGives : List A → (many : ℕ) → Type 0
  NextGives y many = Next name make extras t u z end k n x.rest y many

  -- ---- what is asked of row k, and the next row
  pub along_row : k < end → HasRow t z k
  along_row j = has_row (siblings_of x.holds) (omega (arith, x.ends))

  pub along_next : k < end → (k < get_or t (k * 6 + 1) 0) × (get_or t (k * 6 + 1) 0 ≤ end)
  along_next j =
      let y = onward (siblings_of x.holds) (omega (arith, x.ends)) in
      (y.after, omega (arith, y.within, x.ends))

  on : (n' at' m many : ℕ) (y : List A) → NextGives y many → n' ≡ n + length y → at' ≡ at + m → m ≡ total extras y → m ≤ many → n' ≤ 256
      → (Stood' : List A → Type 0) → Stood' (x.done ++ y) → AlongAt (get_or t (k * 6 + 1) 0) n' at' Stood'
  on n' at' m many y w a b c d few Stood' s =
      let first : listed_in n x.rest ≡ (listed_in n' w.rest >>= λ more. is (y ++ more)) =
      w.means ∙ ap (λ (i : ℕ). listed_in i w.rest >>= λ more. is (y ++ more)) (sym a) in
      record {
        own = w.own;
        rest = w.rest;
        holds = w.holds;
        ends = w.ends;
        done = x.done ++ y;
        means =
            x.means
            ∙ ap (λ (v : Answer (List A)). v >>= λ more. is (x.done ++ more)) first
            ∙ joined-more (listed_in n' w.rest) x.done y;
        count = omega (arith, x.count, length-append x.done y);
        few = few;
        kept = omega (arith, x.kept, total-join extras x.done y);
        room = omega (arith, x.room, w.fewer);
        stood = s;
      }

  -- nothing is listed
  on_none : (many : ℕ) → NextGives [] many → (Stood' : List A → Type 0) → Stood' x.done → AlongAt (get_or t (k * 6 + 1) 0) n at Stood'
  unfolding total
  on_none many w Stood' s = on n at 0 many [] w (omega arith) (omega arith) refl (omega arith) x.few Stood' (rw append-nil s)

  pub along_passed : k < end → is_element t z name k ≡ false → AlongAt (get_or t (k * 6 + 1) 0) n at Stood
  along_passed j w = on_none 0 (passed name make extras t u z end k x.own n x.rest x.holds x.ends j w) Stood x.stood

  module _ (j : k < end) (w : is_element t z name k ≡ true) where
    abbrev the : Here name make extras t u z end k x.own n x.rest
    the = here name make extras t u z end k x.own n x.rest x.holds x.ends j w

    its_row : element_row t k ≡ record {
      place = the.place;
      name_len = the.len;
      end = k + 1 + size the.content;
      first = x.own;
      many = length the.attrs;
    }
    its_row = (holds_elem the.holds).cells

    gives-on : (y : List A)
        → listed_in n (placed.elem the.place the.len the.attrs the.content the.later)
        ≡ (listed_in (n + length y) the.later >>= λ more. is (y ++ more))
        → NextGives y (length the.attrs)
    gives-on y q =
        subst (λ (v : Forest). Next name make extras t u z end k n v y (length the.attrs)) (sym the.is)
        (gives name make extras t u z end k x.own n the.place the.len the.attrs the.content the.later the.holds the.ends y q)

    module _ (e : Element) (row : e ≡ element_row t k) where
      -- ---- what is asked of its attributes
      pub along_attrs : HasRows u z e.first e.many
      along_attrs = rw (row ∙ its_row) (the.attrs, (holds_elem the.holds).owned)

      pub along_room : at + e.many ≤ rows + length (attrs_of f)
      unfolding attrs_of
      along_room =
          let l = the.attrs in
          let more = attrs_of the.content ++ attrs_of the.later in
          let a : length (attrs_of x.rest) ≡ length l + length more = ap (λ (v : Forest). length (attrs_of v)) the.is ∙ length-append l more in
          rw (row ∙ its_row) (omega (arith, x.room))

      -- ---- what it gives
      module _ (Stood' : List A → Type 0) where
        abbrev TurnBy : Element → Result (rust.Option ℕ) Refusal → Type 0
        TurnBy v r = OfRows u z v.first v.many (λ l. Turn name make extras rows n at Stood Stood' v.many v.place l r)

        its_turn : (r : Result (rust.Option ℕ) Refusal) → TurnBy e r
            → Turn name make extras rows n at Stood Stood' (length the.attrs) the.place (attrs_in z the.attrs) r
        its_turn r y = subst (λ (v : Element). TurnBy v r) (row ∙ its_row) y the.attrs (holds_elem the.holds).owned

        its_id : (o : Option Placed) → id_of with_places (attrs_in z the.attrs) ≡ o
            → its_id_lem name make extras z n the.place the.len the.attrs the.content the.later ≡ o
        its_id o q = id_is name make extras z n the.place the.len the.attrs the.content the.later the.matches o q

        pub along_skipped : TurnBy e (Ok None) → AlongAt (get_or t (k * 6 + 1) 0) n at Stood'
        along_skipped y =
            let a = its_turn (Ok None) y in
            let q = other-is name make extras z n the.place the.len the.attrs the.content the.later (its_id none a.0) in
            on_none (length the.attrs) (gives-on [] (none-listed name make extras z n _ the.later q)) Stood' (a.1 x.done x.stood)

        pub along_taken : (m : ℕ) → TurnBy e (Ok (Some m)) → AlongAt (get_or t (k * 6 + 1) 0) (n + 1) (at + m) Stood'
        unfolding total
        along_taken m y =
            let a = its_turn (Ok (Some m)) y in
            let b = a.2 in
            let q = taken_is name make extras z n the.place the.len the.attrs the.content the.later a.0
            (its_id (some a.0) a.1) b.0 b.1 in
            let few = within-limit name make extras a.0 (attrs_in z the.attrs) the.place n b.0 b.1 in
            let many = b.2 ∙ sym (add-zero (extras b.0)) in
            on (n + 1) (at + m) m (length the.attrs) (b.0 ∷ []) (gives-on (b.0 ∷ []) q) refl refl many b.3 (omega (arith, few)) Stood'
            (b.4 x.done (sym x.count) x.kept x.stood)

        pub along_refused : (q : Refusal) → TurnBy e (Err q) → listed_in 0 f ≡ turned q
        along_refused q y =
            let a = its_turn (Err q) y in
            let b = refused-is name make extras z n the.place the.len the.attrs the.content the.later a.0
            (its_id (some a.0) a.1) q a.2 in
            x.means ∙ ap (λ (v : Answer (List A)). v >>= λ more. is (x.done ++ more)) (ap (listed_in n) the.is ∙ b)

  -- ---- none left
  pub along_done : end ≤ k → Listing extras (listed_in 0 f) rows (length (attrs_of f)) Stood (record { rows = n; extras = at })
  unfolding size nodes_in listed
  along_done j = record {
    all = x.done;
    means = all_is x.rest (omega (arith, x.ends)) x.means;
    count = x.count;
    few = omega (arith, x.few, x.count);
    kept = x.kept;
    within = omega (arith, x.room);
    standing = x.stood;
  }
    where
      all_is : (g : Forest) → size g ≡ 0 → listed_in 0 f ≡ (listed_in n g >>= λ more. is (x.done ++ more)) → listed_in 0 f ≡ is x.done
      all_is placed.nil e h = h ∙ ap is (append-nil x.done)
      all_is (placed.text p m g) e h = absurd (omega arith)
      all_is (placed.section p m g) e h = absurd (omega arith)
      all_is (placed.elem p m l c g) e h = absurd (omega arith)
