-- What stands at a place of the text, and what the reader by places finds there: runs, marks, attributes and start tags. Assumes nothing.
--     At, at_on, at_one              the rest of the text from a place on; further on; two places with the same rest are one
--     run-to, beyond-to              where a run and a piece that ends at its first mark end
--     value-at, attr-at, attrs-at    the attributes of a derivation are read where they stand
--     start-at                       a start tag
use Prim.Native.Nat.{ℕ, ◌+◌, ◌-◌, ◌≤◌, ◌<◌}
use mathlib.Core.Path.{◌≡◌, refl, sym, ap, ap₂, ◌∙◌, subst}
use mathlib.Core.Logic.{◌⊎◌, inl, inr}
use mathlib.Core.Bool.{Bool, true, false, true≢false}
use mathlib.Core.List.{List, [], ◌∷◌, ◌++◌, append_assoc, append-nil}
use native.Mathlib.Omega.{arith}
use lib.ListN.{length, get_or, drop, length-append, length-drop}
use lib.Seq.{drop-drop, drop_at}
use lib.Dec.{eqb, ltb}
use borrow.Author.Tests.{lt-ltb, ne_eqb}
use Rattle.scan.specs.Loop.{halt, more}
use Rattle.scan.specs.Bytes.{blank, name_byte, attr_name_byte, other, run_end_of}
use Rattle.scan.specs.Marks as marks
use Rattle.scan.specs.Marks.{starts_at}
use Rattle.scan.proofs.Loop.{loop-halt, loop-more}
use Rattle.scan.proofs.Runs.{run-high}
use Rattle.grammar.specs.Words.{Bytes, ◌then◌, Only, Stops, Run, Begins, UpTo}
use Rattle.grammar.specs.Tree.{Attr, quote}
use Rattle.grammar.specs.Tree.{`>`, `/`, `=`}
use Rattle.grammar.specs.Grammar.{Blanks, Value, quoted, unquoted, Attribute, alone, named, nameless, Attributes, no_attribute, attribute}
use Rattle.grammar.specs.Grammar.{Opening, opening}
use Rattle.grammar.specs.Scan.{past, run, prefix, beyond}
use Rattle.grammar.proofs.Reader.{tag_end}
use Rattle.scan.proofs.Every.{by-test}
use Rattle.grammar.proofs.Scans.{run_past, run_only, past_is, prefix-begins, beyond-is}
use Rattle.grammar.proofs.Complete.{stop_at, blank-equals, equals-no_name, value-stops, Front, attribute-front, front_length, attributes-stops}
use Rattle.derivation.proofs.RunLaws.{past-drop, byte_at}
use Rattle.derivation.proofs.SearchLaws.{prefix-at, beyond-at, passed}
use Rattle.tree.specs.Trees as placed
use Rattle.tree.specs.Read as places
use Rattle.tree.specs.Read.{AttrOut, torn, TagState, equals, skip, quote_byte, value_at, attr_at, attr_next, tag_turn, tag_from, start_at}
use Rattle.xml.specs.Where.{value_place, attr_placed, attrs_placed, opening_placed}

-- ---- the rest of the text from a place on
pub record At (s : List ℕ) (p : ℕ) (z : Bytes) : Type 0 where
  pub is : drop p s ≡ z
  pub within : p ≤ length s

module _ (s : List ℕ) where
  pub at_length : {p : ℕ} {z : Bytes} → At s p z → p + length z ≡ length s
  at_length {p} {z} h = omega (arith, sym (length-drop p s) ∙ ap length h.is, h.within)

  pub at_one : {p q : ℕ} {z : Bytes} → At s p z → At s q z → p ≡ q
  at_one h g = omega (arith, at_length h, at_length g)

  pub at_on : {p : ℕ} (u z : Bytes) → At s p (u ++ z) → At s (p + length u) z
  at_on {p} u z h = record {
    is = sym (drop-drop (length u) p s) ∙ ap (drop (length u)) h.is ∙ drop_at u z (length u) refl;
    within = omega (arith, at_length h, length-append u z);
  }

  pub at_same : {p q : ℕ} {z y : Bytes} → p ≡ q → z ≡ y → At s p z → At s q y
  at_same e d h = record { is = ap (λ i. drop i s) (sym e) ∙ h.is ∙ d; within = omega (arith, h.within) }

  pub at_some : {p : ℕ} (a : ℕ) (z : Bytes) → At s p (a ∷ z) → p < length s
  at_some {p} a z h = omega (arith, at_length h)

  pub at_byte : {p : ℕ} (a : ℕ) (z : Bytes) → At s p (a ∷ z) → get_or s p 0 ≡ a
  at_byte {p} a z h = let e : get_or s p 0 ∷ drop (p + 1) s ≡ a ∷ z = sym (byte_at s p (at_some a z h)) ∙ h.is in cc

  pub at_starts : {p : ℕ} (m z : Bytes) → At s p z → starts_at s p m ≡ prefix m z
  at_starts {p} m z h = sym (prefix-at m s p) ∙ ap (prefix m) h.is

  -- ---- runs and pieces
  pub run-to : (c : ℕ → Bool) {p : ℕ} (w after : Bytes) → At s p (w ++ after) → Only c w → Stops c after → run_end_of c s p ≡ p + length w
  run-to c {p} w after h o t =
      at_one (record { is = sym (past-drop c s p) ∙ ap (past c) h.is ∙ past_is c w after o t; within = run-high c s p h.within })
      (at_on w after h)

  pub beyond-to : (b : ℕ) (m : Bytes) {p : ℕ} (w after : Bytes) → At s p (w ++ after) → UpTo (b ∷ m) after w → marks.past (b ∷ m) s p ≡ p + length w
  beyond-to b m {p} w after h t =
      at_one (record {
        is = sym (beyond-at (b ∷ m) s p) ∙ ap (beyond (b ∷ m)) h.is ∙ beyond-is b m after w t;
        within =
            (passed (b ∷ m) s p h.within).within;
      }) (at_on w after h)

  -- ---- a value at v, after the `=` at q
  abbrev valued : ℕ → ℕ → ℕ → ℕ → ℕ → AttrOut
  valued p e v n r = places.attr (record { name = p; name_len = e - p; value = v; value_len = n }) (skip s r)

  quoted-at : {v : ℕ} (c : ℕ) (w after : Bytes) (p e q : ℕ) → At s v (c ∷ (w ++ (c ∷ after))) → skip s (q + 1) ≡ v → quote c ≡ true → Only (other c) w
      → value_at s p e q ≡ valued p e (v + 1) (length w) (v + 1 + length w + 1)
  unfolding value_at places.quoted quote_byte quote
  quoted-at {v} c w after p e q h g t o =
      let a : At s (v + 1) (w ++ (c ∷ after)) = at_on (c ∷ []) (w ++ (c ∷ after)) h in
      let z : run_end_of (other c) s (v + 1) ≡ v + 1 + length w = run-to (other c) w (c ∷ after) a o (stop_at c) in
      let l : v + 1 + length w < length s = at_some c after (at_on w (c ∷ after) a) in
      let k : v < length s = at_some c (w ++ (c ∷ after)) h in
      let n : v + 1 + length w - (v + 1) ≡ length w = omega arith in
      rw (g, lt-ltb v (length s) k, at_byte c (w ++ (c ∷ after)) h, t, z, lt-ltb (v + 1 + length w) (length s) l, n)

  bare-at : {v : ℕ} (w after : Bytes) (p e q : ℕ) → At s v (w ++ after) → skip s (q + 1) ≡ v → v < length s → quote_byte (get_or s v 0) ≡ false
      → Run name_byte after w
      → value_at s p e q ≡ valued p e v (length w) (v + length w)
  unfolding value_at places.bare
  bare-at {v} w after p e q h g k t o =
      let z : run_end_of name_byte s v ≡ v + length w = run-to name_byte w after h o.only o.longest in
      let n : v + length w - v ≡ length w = omega arith in
      rw (g, lt-ltb v (length s) k, t, z, n)

  -- the first byte of a value without quote marks
  unquoted-first : {v : ℕ} (w after : Bytes) → At s v (w ++ after) → Stops quote w → (w ≡ [] → Begins `>` after ⊎ Begins `/` after)
      → (v < length s) × (quote_byte (get_or s v 0) ≡ false)
  unfolding quote_byte quote
  unquoted-first {v} [] after h t e = go (e refl)
    where
      go : Begins `>` after ⊎ Begins `/` after → (v < length s) × (quote_byte (get_or s v 0) ≡ false)
      go (inl b) = let x = at_same refl b.1 h in (at_some 62 b.0 x, rw (at_byte 62 b.0 x) refl)
      go (inr b) = let x = at_same refl b.1 h in (at_some 47 b.0 x, rw (at_byte 47 b.0 x) refl)
  unquoted-first (c ∷ w) after h t e = (at_some c (w ++ after) h, rw (at_byte c (w ++ after) h) t)

  pub value-at : {v : ℕ} {after w y : Bytes} (x : Value after w y) (p e q : ℕ) → At s v (w ++ after) → skip s (q + 1) ≡ v
      → value_at s p e q ≡ valued p e (value_place x v) (length y) (v + length w)
  unfolding value_place
  value-at {v} {after} (quoted {q = c} {v = w} t o) p e q h g =
      let z : (c ∷ (w ++ (c ∷ []))) ++ after ≡ c ∷ (w ++ (c ∷ after)) = ap (c ∷◌) (append_assoc w (c ∷ []) after) in
      let l : v + 1 + length w + 1 ≡ v + length (c ∷ (w ++ (c ∷ []))) = omega (arith, length-append w (c ∷ [])) in
      quoted-at c w after p e q (at_same refl z h) g t o ∙ ap (valued p e (v + 1) (length w)) l
  value-at {v} {after} (unquoted {v = w} t r e') p e q h g =
      let f = unquoted-first w after h t e' in
      bare-at w after p e q h g f.0 f.1 r

  -- ---- an attribute at p
  -- after the name and its blanks, an `=`
  pub with_equals : {p q : ℕ} (e : ℕ) (c w after y : Bytes) (x : Value after w y) → run_end_of attr_name_byte s p ≡ e → skip s e ≡ q
      → At s q (61 ∷ (c ++ (w ++ after))) → Only blank c
      → attr_at s p ≡ valued p e (value_place x (q + 1 + length c)) (length y) (q + 1 + length c + length w)
  unfolding attr_at
  with_equals {p} {q} e c w after y x g k h o =
      let a : At s (q + 1) (c ++ (w ++ after)) = at_on (61 ∷ []) (c ++ (w ++ after)) h in
      let b : skip s (q + 1) ≡ q + 1 + length c = run-to blank c (w ++ after) a o (value-stops x) in
      let t : starts_at s q equals ≡ true = at_starts equals (61 ∷ (c ++ (w ++ after))) h in
      rw (g, k, t) (value-at x p e q (at_on c (w ++ after) a) b)

  no_equals : {q : ℕ} (after : Bytes) → At s q (past blank after) → ((b r : Bytes) → Blanks b → ¬ (after ≡ b then `=` then r)) → starts_at s q equals
      ≡ false
  no_equals {q} after h none = by (prefix equals (past blank after)) refl
    where
      by : (t : Bool) → prefix equals (past blank after) ≡ t → starts_at s q equals ≡ false
      by true e =
          let b = prefix-begins equals (past blank after) e in
          absurd (none (run blank after) b.0 (record { all = run_only blank after }) (run_past blank after ∙ ap (run blank after ++◌) b.1))
      by false e = at_starts equals (past blank after) h ∙ e

  pub attr-at : {p : ℕ} {after u : Bytes} {a : Attr} (x : Attribute after u a) → At s p (u ++ after) → attr_at s p
      ≡ places.attr (attr_placed length x p) (skip s (p + length u))
  unfolding attr_placed attr_at
  attr-at {p} {after} (alone {n} f none) h =
      let e : run_end_of attr_name_byte s p ≡ p + length n = run-to attr_name_byte n after h f.run.only f.run.longest in
      let a : At s (p + length n) after = at_on n after h in
      let q : At s (skip s (p + length n)) (past blank after) =
      record { is = sym (past-drop blank s (p + length n)) ∙ ap (past blank) a.is; within = run-high blank s (p + length n) a.within } in
      let l : p + length n - p ≡ length n = omega arith in
      rw (e, no_equals after q none, l)
  attr-at {p} {after} (named {n} {b} {c} {w} {v} f bb cc x) h =
      let z : Bytes = b then `=` then c then w then after in
      let assoc : (n then b then `=` then c then w) ++ after ≡ n ++ z = simp append_assoc in
      let a : At s p (n ++ z) = at_same refl assoc h in
      let e : run_end_of attr_name_byte s p ≡ p + length n = run-to attr_name_byte n z a f.run.only f.run.longest in
      let d : At s (p + length n) z = at_on n z a in
      let k : skip s (p + length n) ≡ p + length n + length b = run-to blank b (`=` then c then w then after) d bb.all blank-equals in
      let l : p + length n - p ≡ length n = omega arith in
      let m : p + length n + length b + 1 + length c + length w ≡ p + length (n then b then `=` then c then w) = simp length-append (omega arith) in
      with_equals (p + length n) c w after v x e k (at_on b (`=` then c then w then after) d) cc.all
      ∙ ap₂ (λ i j. places.attr (record {
        name = p;
        name_len = i;
        value = value_place x (p + length n + length b + 1 + length c);
        value_len =
            length v;
      }) (skip s j)) l m
  attr-at {p} {after} (nameless {c} {w} {v} cc x) h =
      let z : Bytes = `=` then c then w then after in
      let assoc : (`=` then c then w) ++ after ≡ z = simp append_assoc in
      let a : At s p z = at_same refl assoc h in
      let y : p + 0 ≡ p = omega arith in
      let e : run_end_of attr_name_byte s p ≡ p = run-to attr_name_byte [] z a tt equals-no_name ∙ y in
      let k : skip s p ≡ p = run-to blank [] z a tt blank-equals ∙ y in
      let l : p - p ≡ 0 = omega arith in
      let m : p + 1 + length c + length w ≡ p + length (`=` then c then w) = simp length-append (omega arith) in
      with_equals p c w after v x e k a cc.all
      ∙ ap₂ (λ i j. places.attr (record { name = p; name_len = i; value = value_place x (p + 1 + length c); value_len = length v }) (skip s j)) l m

  -- ---- the attributes of a start tag, up to its `>` or `/`: read, or one too many
  abbrev AttrsAt : ℕ → TagState → ℕ → List placed.Attr → Type 0
  AttrsAt p x q l =
      ((n : ℕ) × (r : ℕ) × (tag_from s p x ≡ torn n r)) ⊎ ((j : ℕ) × (tag_from s p x ≡ tag_from s q (record { list = x.list ++ l; count = j })))

  tag-turn : {p : ℕ} (x : TagState) (a : ℕ) (z : Bytes) → At s p (a ∷ z) → tag_end a ≡ false → (y : placed.Attr) (q : ℕ) → attr_at s p
      ≡ places.attr y q → ltb x.count 8192 ≡ true
      → tag_turn s p x ≡ more q (record { list = x.list ++ (y ∷ []); count = x.count + 1 })
  unfolding tag_turn attr_next
  tag-turn {p} x a z h t y q e c =
      let w = ends a t in
      rw (at_byte a z h, w.0, w.1, c, e)
    where
      ends : (a : ℕ) → tag_end a ≡ false → (eqb a 62 ≡ false) × (eqb a 47 ≡ false)
      ends a t = by-test (eqb a 62) (λ e. absurd (true≢false (rw e at t))) (λ e. (e, rw e at t))

  tag-full : {p : ℕ} (x : TagState) (a : ℕ) (z : Bytes) → At s p (a ∷ z) → tag_end a ≡ false → ltb x.count 8192 ≡ false → tag_turn s p x
      ≡ halt (torn 7 p)
  unfolding tag_turn
  tag-full {p} x a z h t c =
      by-test (eqb a 62) (λ e. absurd (true≢false (rw e at t))) (λ e. rw (at_byte a z h, e, rw e at t, c))

  -- one attribute more before
  then_more : (p : ℕ) (x : TagState) (q : ℕ) (y : TagState) (l : List placed.Attr) (a : placed.Attr) (r : ℕ) → y.list ≡ x.list ++ (a ∷ [])
      → tag_from s p x ≡ tag_from s q y
      → AttrsAt q y r l → AttrsAt p x r (a ∷ l)
  then_more p x q y l a r e w (inl t) = inl (t.0, t.1, w ∙ t.2)
  then_more p x q y l a r e w (inr t) =
      inr (t.0, w ∙ t.1 ∙ ap (λ g. tag_from s r (record { list = g; count = t.0 })) (ap (◌++ l) e ∙ append_assoc x.list (a ∷ []) l))

  pub attrs-at : {after : Bytes} {p : ℕ} {w : Bytes} {l : List Attr} (d : Attributes after w l) → Stops blank after → At s p (w ++ after) → (x : TagState)
      → AttrsAt p x (p + length w) (attrs_placed length d p)
  unfolding attrs_placed tag_from
  attrs-at {after} {p} no_attribute t h x =
      let z : p ≡ p + 0 = omega arith in
      inr (x.count, ap₂ (λ q l. tag_from s q (record { list = l; count = x.count })) z (sym (append-nil x.list)))
  attrs-at {after} {p} (attribute {u = u} {b = b} {w = w} a bb d) t h x =
      let z : Bytes = w ++ after in
      let assoc : (u then b then w) ++ after ≡ u ++ (b ++ z) = simp append_assoc in
      let f : Front u = attribute-front a in
      let k : At s p (u ++ (b ++ z)) = at_same refl assoc h in
      let e = attr-at a (at_same refl (ap (u ++◌) refl) k) in
      let i : At s (p + length u) (b ++ z) = at_on u (b ++ z) k in
      let v : skip s (p + length u) ≡ p + length u + length b = run-to blank b z i bb.all (attributes-stops t d) in
      let c : At s p (f.byte ∷ (f.rest ++ (b ++ z))) = at_same refl (ap (◌++ (b ++ z)) f.is) k in
      let q : At s (p + length u + length b) z = at_on b z i in
      let m : p + length u + length b + length w ≡ p + length (u then b then w) = simp length-append (omega arith) in
      let y : TagState = record { list = x.list ++ (attr_placed length a p ∷ []); count = x.count + 1 } in
      by-test (ltb x.count 8192)
      (λ g. then_more p x (p + length u + length b) y (attrs_placed length d (p + length u + length b)) (attr_placed length a p)
      (p + length (u then b then w)) refl
      (loop-more (length s) (tag_turn s) _ p x (p + length u + length b) y (at_some f.byte (f.rest ++ (b ++ z)) c)
      (tag-turn x f.byte (f.rest ++ (b ++ z)) c f.inside (attr_placed length a p) (p + length u + length b) (e
      ∙ ap (places.attr (attr_placed length a p)) v) g)
      (omega (arith, front_length u f)))
      (subst (λ r. AttrsAt (p + length u + length b) y r (attrs_placed length d (p + length u + length b))) m (attrs-at {p = p + length u + length b} d t q y)))
      (λ g. inl (
        7,
        p,
        loop-halt (length s) (tag_turn s) _ p x (torn 7 p) (at_some f.byte (f.rest ++ (b ++ z)) c)
            (tag-full x f.byte (f.rest ++ (b ++ z)) c f.inside g),
      ))

  -- ---- a start tag, up to its `>` or `/`
  pub name_to : {p : ℕ} {after o n : Bytes} {l : List Attr} → Opening after o n l → At s p (o ++ after) → run_end_of name_byte s (p + 1) ≡ p + 1 + length n
  name_to {p} {after} (opening {n = n} {b = b} {w = w} f bb d) h =
      let assoc : (60 ∷ (n ++ (b ++ w))) ++ after ≡ 60 ∷ (n ++ (b ++ (w ++ after))) = ap (60 ∷◌) (simp append_assoc) in
      run-to name_byte n (b ++ (w ++ after)) (at_on (60 ∷ []) (n ++ (b ++ (w ++ after))) (at_same refl assoc h)) f.run.only f.run.longest

  abbrev pub StartAt : ℕ → ℕ → ℕ → ℕ → List placed.Attr → Type 0
  StartAt p e a q l =
      ((n : ℕ) × (r : ℕ) × (start_at s p e a ≡ torn n r)) ⊎ ((j : ℕ) × (start_at s p e a ≡ tag_from s q (record { list = l; count = j })))

  pub start-at : {p : ℕ} {after o n : Bytes} {l : List Attr} (d : Opening after o n l) → Stops blank after → At s p (o ++ after) → (a : ℕ)
      → StartAt p (p + 1 + length n) a (p + length o) (opening_placed length d p)
  unfolding opening_placed start_at
  start-at {p} {after} (opening {n = n} {b = b} {w = w} f bb d) t h a =
      let assoc : (60 ∷ (n ++ (b ++ w))) ++ after ≡ 60 ∷ (n ++ (b ++ (w ++ after))) = ap (60 ∷◌) (simp append_assoc) in
      let i : At s (p + 1) (n ++ (b ++ (w ++ after))) = at_on (60 ∷ []) (n ++ (b ++ (w ++ after))) (at_same refl assoc h) in
      let k : At s (p + 1 + length n) (b ++ (w ++ after)) = at_on n (b ++ (w ++ after)) i in
      let v : skip s (p + 1 + length n) ≡ p + 1 + length n + length b = run-to blank b (w ++ after) k bb.all (attributes-stops t d) in
      let z : eqb (p + 1 + length n) (p + 1) ≡ false = ne_eqb (p + 1 + length n) (p + 1) (λ e. some n f.some_byte (omega arith)) in
      let m : p + 1 + length n + length b + length w ≡ p + length (60 ∷ (n ++ (b ++ w))) =
      omega (arith, length-append n (b ++ w), length-append b w) in
      rw (z, v, ← m) (attrs-at d t (at_on b (w ++ after) k) (record { list = []; count = a }))
    where
      some : (n : Bytes) → ¬ (n ≡ []) → length n ≡ 0 → ⊥
      some [] g e = g refl
      some (c ∷ n) g e = omega arith
