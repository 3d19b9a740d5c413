-- Laws of references. Assumes nothing.
--     number-hex                                 a character's number in hexadecimal digits
--     named_other, is_amp, is_nbsp, named-each   a table of named entities, entry by entry
--     lookup-known                               a known name has two bytes or more, and names a character
--     reference-is, reference-open, reference-long   what follows an `&`
--     reference-inv                              what is known of a reference
--     refers_out, refers_long, refers_open, refers_none, refers_to   the same at a place of a text, as the program asks
use Rattle.std.specs.Prelude.{Option, Some, None}
use Prim.Native.Nat.{ℕ, ◌+◌, ◌-◌, ◌≤◌, ◌<◌}
use mathlib.Core.Path.{◌≡◌, refl, sym, ap, ◌∙◌}
use mathlib.Core.Bool.{Bool, true, false, ◌||◌, and-false}
use mathlib.Core.List.{List, [], ◌∷◌}
use native.Mathlib.Omega.{arith}
use lib.ListN.{length, get_or, take, drop, length-drop, get_or-eq_default}
use lib.Seq.{get_or-drop, length-take-le}
use lib.Dec.{eqb, leb, ltb}
use borrow.Author.Tests.{le-leb, lt-leb, eq-eqb, ne_eqb, eqb-true, eqb-false, leb-true, ltb-true, ltb-false}
use Rattle.scan.specs.Names.{same_bytes_of}
use Rattle.scan.specs.Part.{part}
use Rattle.scan.proofs.Naming.{same_eq}
use Rattle.scan.proofs.Runs.{length_within, length_out, length_stop, length_on}
use Rattle.scan.specs.Text.{ascii}
use Rattle.utf8.specs.Utf8.{scalar}
use Rattle.utf8.proofs.Utf8Laws.{scalar-small}
use Rattle.numerals.specs.declared.Whole.{Whole}
use Rattle.numerals.specs.Numerals.{numeral_of}
use Rattle.entities.specs.Reference.{Named, ◌means◌, entity_table, named, character, character_reference, lookup, name_length, reference}
use Rattle.entities.specs.Steps.{taken_byte, NameEnd, RefersTo}
use Rattle.entities.proofs.Enough.{taken, name_within, reference-run, length_run}

-- ---- a character's number
pub number-hex : (s : List ℕ) → 0 < length s → ((get_or s 0 0 ≡ 120 → ⊥) → get_or s 0 0 ≡ 88)
    → character_reference s ≡ character (numeral_of (drop 1 s) 16 0xFFFF_FFFF false)
unfolding character_reference
number-hex [] h e = absurd (omega arith)
number-hex (b ∷ s) h e = rw (by (eqb b 120) refl)
  where
    by : (t : Bool) → eqb b 120 ≡ t → (t || eqb b 88) ≡ true
    by true z = refl
    by false z = eq-eqb b 88 (e (eqb-false b 120 z))

-- ---- named entities
-- a name that is none of the table's, by its bytes
module _ (s : List ℕ) where
  pub named_other : (length s ≡ 3 → get_or s 0 0 ≡ 97 → get_or s 1 0 ≡ 109 → get_or s 2 0 ≡ 112 → ⊥)
      → (length s ≡ 2 → get_or s 0 0 ≡ 108 → get_or s 1 0 ≡ 116 → ⊥)
      → (length s ≡ 2 → get_or s 0 0 ≡ 103 → get_or s 1 0 ≡ 116 → ⊥)
      → (length s ≡ 4 → get_or s 0 0 ≡ 113 → get_or s 1 0 ≡ 117 → get_or s 2 0 ≡ 111 → get_or s 3 0 ≡ 116 → ⊥)
      → (length s ≡ 4 → get_or s 0 0 ≡ 97 → get_or s 1 0 ≡ 112 → get_or s 2 0 ≡ 111 → get_or s 3 0 ≡ 115 → ⊥)
      → (length s ≡ 4 → get_or s 0 0 ≡ 110 → get_or s 1 0 ≡ 98 → get_or s 2 0 ≡ 115 → get_or s 3 0 ≡ 112 → ⊥) → named s entity_table ≡ None
  unfolding named
  named_other a b c d e f = rw (
    differs (ascii "amp") (λ g. rw g at a refl refl refl refl),
    differs (ascii "lt") (λ g. rw g at b refl refl refl),
    differs (ascii "gt") (λ g. rw g at c refl refl refl),
    differs (ascii "quot") (λ g. rw g at d refl refl refl refl refl),
    differs (ascii "apos") (λ g. rw g at e refl refl refl refl refl),
    differs (ascii "nbsp") (λ g. rw g at f refl refl refl refl refl),
  )
    where
      differs : (n : List ℕ) → (s ≡ n → ⊥) → same_bytes_of s n ≡ false
      differs n h = by (same_bytes_of s n) refl
        where
          by : (t : Bool) → same_bytes_of s n ≡ t → t ≡ false
          by true e = absurd (h (same_eq s n e))
          by false e = refl

pub is_amp : (s : List ℕ) → length s ≡ 3 → get_or s 0 0 ≡ 97 → get_or s 1 0 ≡ 109 → get_or s 2 0 ≡ 112 → Some 0x26 ≡ named s entity_table
unfolding named same_bytes_of
is_amp (a ∷ b ∷ c ∷ []) h x y z = rw (x, y, z)
is_amp [] h x y z = absurd (omega arith)
is_amp (a ∷ []) h x y z = absurd (omega arith)
is_amp (a ∷ b ∷ []) h x y z = absurd (omega arith)
is_amp (a ∷ b ∷ c ∷ d ∷ s) h x y z = absurd (omega arith)

pub is_nbsp : (s : List ℕ) → length s ≡ 4 → get_or s 0 0 ≡ 110 → get_or s 1 0 ≡ 98 → get_or s 2 0 ≡ 115 → get_or s 3 0 ≡ 112
    → Some 0xA0 ≡ named s entity_table
unfolding named same_bytes_of
is_nbsp (a ∷ b ∷ c ∷ d ∷ []) h x y z w = rw (x, y, z, w)
is_nbsp [] h x y z w = absurd (omega arith)
is_nbsp (a ∷ []) h x y z w = absurd (omega arith)
is_nbsp (a ∷ b ∷ []) h x y z w = absurd (omega arith)
is_nbsp (a ∷ b ∷ c ∷ []) h x y z w = absurd (omega arith)
is_nbsp (a ∷ b ∷ c ∷ d ∷ e ∷ s) h x y z w = absurd (omega arith)

-- what holds of each entry of a table
abbrev pub Each : (List ℕ → ℕ → Type 0) → List Named → Type 0
Each P [] = Unit {0}
Each P (n means c ∷ ns) = P n c × Each P ns

pub named-each : (P : List ℕ → ℕ → Type 0) (s : List ℕ) (ns : List Named) {c : ℕ} → Each P ns → named s ns ≡ Some c → P s c
unfolding named
named-each P s [] w e = let z : ◌≡◌ {A = ℕ} 0 1 = cc in absurd (omega arith)
named-each P s (n means d ∷ ns) {c} w e = by (same_bytes_of s n) refl (named-each P s ns w.1)
  where
    by : (t : Bool) → same_bytes_of s n ≡ t → (named s ns ≡ Some c → P s c) → P s c
    by true h k =
        let g : Some d ≡ Some c = rw h at e in
        let i : d ≡ c = cc in
        rw (same_eq s n h, ← i) w.0
    by false h k = k (rw h at e)

-- ---- a name
-- a known name s, of the character c
pub record Known (s : List ℕ) (c : ℕ) : Type 0 where
  pub long : 2 ≤ length s
  pub char : scalar c ≡ true

character-char : (n : Option Whole) {c : ℕ} → character n ≡ Some c → scalar c ≡ true
character-char (Some w) {c} e = by (scalar w.magnitude) refl
  where
    by : (t : Bool) → scalar w.magnitude ≡ t → scalar c ≡ true
    by true h =
        let g : Some w.magnitude ≡ Some c = rw h at e in
        let i : w.magnitude ≡ c = cc in
        rw (← i) h
    by false h = let z : ◌≡◌ {A = ℕ} 0 1 = cc (rw h at e) in absurd (omega arith)
character-char None e = let z : ◌≡◌ {A = ℕ} 0 1 = cc in absurd (omega arith)

number-known : (b : ℕ) (s : List ℕ) {c : ℕ} → character_reference s ≡ Some c → Known (b ∷ s) c
unfolding character_reference
number-known b [] e = let z : ◌≡◌ {A = ℕ} 0 1 = cc in absurd (omega arith)
number-known b (a ∷ s) {c} e = by (eqb a 120 || eqb a 88) refl
  where
    by : (t : Bool) → (eqb a 120 || eqb a 88) ≡ t → Known (b ∷ (a ∷ s)) c
    by true h = record { long = omega arith; char = character-char (numeral_of s 16 0xFFFF_FFFF false) (rw h at e) }
    by false h = record { long = omega arith; char = character-char (numeral_of (a ∷ s) 10 0xFFFF_FFFF false) (rw h at e) }

entity : (n : List ℕ) (c : ℕ) → leb 2 (length n) ≡ true → scalar c ≡ true → Known n c
entity n c l h = record { long = leb-true 2 (length n) l; char = h }

table-known : Each Known entity_table
unfolding scalar
table-known =
    (entity _ _ refl refl, (entity _ _ refl refl, (entity _ _ refl refl, (entity _ _ refl refl, (entity _ _ refl refl, (entity _ _ refl refl, tt))))))

pub lookup-known : (s : List ℕ) {c : ℕ} → lookup s ≡ Some c → Known s c
unfolding lookup
lookup-known [] e = let z : ◌≡◌ {A = ℕ} 0 1 = cc in absurd (omega arith)
lookup-known (b ∷ s) {c} e = by (eqb b 35) refl
  where
    by : (t : Bool) → eqb b 35 ≡ t → Known (b ∷ s) c
    by true h = number-known b s (rw h at e)
    by false h = named-each Known (b ∷ s) entity_table table-known (rw h at e)

-- ---- what follows an `&`
module _ (s : List ℕ) where
  pub reference-is : get_or s (taken s) 0 ≡ 59 → taken s ≤ 16 → reference s ≡ lookup (take (taken s) s)
  reference-is e h = reference-run s ∙ rw (eq-eqb (get_or s (taken s) 0) 59 e, le-leb (taken s) 16 h)

  -- its name does not end in a `;`
  pub reference-open : (get_or s (taken s) 0 ≡ 59 → ⊥) → reference s ≡ None
  reference-open e = reference-run s ∙ rw (ne_eqb (get_or s (taken s) 0) 59 e)

  pub reference-long : 16 < taken s → reference s ≡ None
  reference-long h = reference-run s ∙ rw (lt-leb (taken s) 16 h, and-false)

-- what is known of a reference s to the character c
pub record Referred (s : List ℕ) (c : ℕ) : Type 0 where
  pub ends : get_or s (name_length s) 0 ≡ 59
  pub short : name_length s ≤ 16
  pub known : lookup (take (name_length s) s) ≡ Some c
  pub long : 2 ≤ name_length s
  pub within : name_length s + 1 ≤ length s
  pub char : scalar c ≡ true

-- a byte that is not 0 stands within the text
stands : (s : List ℕ) (i : ℕ) → get_or s i 0 ≡ 59 → i < length s
stands s i e = by (ltb i (length s)) refl
  where
    by : (t : Bool) → ltb i (length s) ≡ t → i < length s
    by true h = ltb-true i (length s) h
    by false h = absurd (omega (arith, get_or-eq_default s 0 (ltb-false i (length s) h)))

pub reference-inv : (s : List ℕ) {c : ℕ} → reference s ≡ Some c → Referred s c
unfolding reference
reference-inv s {c} e = by (eqb (get_or s (name_length s) 0) 59) (leb (name_length s) 16) refl refl
  where
    by : (x y : Bool) → eqb (get_or s (name_length s) 0) 59 ≡ x → leb (name_length s) 16 ≡ y → Referred s c
    by true true x y =
        let k : lookup (take (name_length s) s) ≡ Some c = rw (x, y) at e in
        let w : Known (take (name_length s) s) c = lookup-known (take (name_length s) s) k in
        let i : name_length s < length s = stands s (name_length s) (eqb-true (get_or s (name_length s) 0) 59 x) in
        record {
          ends = eqb-true (get_or s (name_length s) 0) 59 x;
          short = leb-true (name_length s) 16 y;
          known = k;
          long = omega (arith, w.long, length-take-le (name_length s) s (name_within s));
          within = omega arith;
          char = w.char;
        }
    by true false x y = let z : ◌≡◌ {A = ℕ} 0 1 = cc (rw (x, y) at e) in absurd (omega arith)
    by false y x _ = let z : ◌≡◌ {A = ℕ} 0 1 = cc (rw x at e) in absurd (omega arith)

-- ---- what the program ensures
-- The bytes taken at p end at e, or the 17th stands before e.
module _ (s : List ℕ) (p e : ℕ) (w : NameEnd s p e) where
  -- nothing stands after it
  pub refers_out : length s ≤ e → reference (drop p s) ≡ None
  refers_out h =
      let l : length (drop p s) ≡ length s - p = length-drop p s in
      let g : length (drop p s) ≤ taken (drop p s) = omega (arith, length_within taken_byte (drop p s)) in
      reference-open (drop p s) (λ x. omega (arith, get_or-eq_default (drop p s) 0 g))

  pub refers_long : 16 < e - p → reference (drop p s) ≡ None
  refers_long h = reference-long (drop p s) (omega arith)

  module _ (h : e - p ≤ 16) where
    here : e ≡ p + taken (drop p s)
    here = omega arith

    pub refers_open : (get_or s e 0 ≡ 59 → ⊥) → reference (drop p s) ≡ None
    refers_open n =
        reference-open (drop p s) (λ x. n (ap (λ (i : ℕ). get_or s i 0) here ∙ (sym (get_or-drop p s (taken (drop p s)) 0) ∙ x)))

    refers_name : get_or s e 0 ≡ 59 → reference (drop p s) ≡ lookup (part p e s)
    refers_name x =
        let l : e - p ≡ taken (drop p s) = omega (arith, here) in
        rw l (reference-is (drop p s) (get_or-drop p s (taken (drop p s)) 0 ∙ (ap (λ (i : ℕ). get_or s i 0) (sym here) ∙ x)) (omega (arith, l)))

    pub refers_none : get_or s e 0 ≡ 59 → lookup (part p e s) ≡ None → reference (drop p s) ≡ None
    refers_none x k = refers_name x ∙ k

    pub refers_to : get_or s e 0 ≡ 59 → (c : ℕ) → lookup (part p e s) ≡ Some c → RefersTo s p c (e + 1)
    refers_to x c k =
        let i : reference (drop p s) ≡ Some c = refers_name x ∙ k in
        let r : Referred (drop p s) c = reference-inv (drop p s) i in
        let m : name_length (drop p s) ≡ taken (drop p s) = length_run (drop p s) r.ends in
        record {
          is = i;
          next = omega (arith, here, m);
          within = omega (arith, here, m, r.within, length-drop p s);
          long = omega (arith, here, m, r.long);
          char = scalar-small c r.char;
        }

-- what the program's steps need
pub ruleset name_places = (length_out, length_stop, length_on)

pub ruleset ways = (refers_out, refers_long, refers_open, refers_none, refers_to)

pub ruleset small = (scalar-small)
