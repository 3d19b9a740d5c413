-- Laws of the five lists. Each rests on one test that is computed over each list. Assumes nothing.
--     counts, counted                   how many names a list has
--     plain-name, plain-not, plain-attr, plain-ascii, name_run   of what bytes a name is
--     names-distinct, name-number, folded_number, number-name    number to name and back
--     contains-name, contained_name, contains-at, contains-nowhere   the same for `contains`
--     inline_is_style, modelled_apart, modelled_not_extra, modelled_or_extra   two lists against each other
use Rattle.std.specs.Prelude.{Some, None}
use Prim.Native.Nat.{ℕ, ◌<◌}
use mathlib.Core.Path.{◌≡◌, refl, sym, ap, ◌∙◌}
use mathlib.Core.Bool.{Bool, true, false, ◌&&◌, true≢false}
use mathlib.Core.List.{List, [], ◌∷◌, ◌++◌}
use native.Mathlib.Omega.{arith}
use native.Mathlib.Nat.{add-zero, zero-add}
use lib.Dec.{leb}
use lib.ListN.{length, take, drop}
use borrow.Author.Tests.{leb-true, ne_eqb}
use Rattle.scan.specs.Bytes.{blank, attr_name_byte, other, run_length_of}
use Rattle.scan.specs.Names.{lower, same_bytes_of, same_folded}
use Rattle.scan.specs.Text.{ascii}
use Rattle.scan.proofs.Naming.{same_eq, same_refl, same_folded-refl, same_folded-sym}
use Rattle.names.specs.declared.tables.Listed.{Listed}
use Rattle.names.specs.declared.tables.Listed.TheVariants.{StyleExtra, InlineExtra, RegionAttr, InlineModelled, Imsc1Extension}
use Rattle.names.specs.Lists.{names, name_of, style_extra, inline_extra, inline_modelled}
use Rattle.names.specs.Numbers.{name_number, contains_name}
use Rattle.names.specs.Plain.{plain_byte, PlainName}
use Rattle.names.proofs.Entries.{both, folded_trans, every, every-at, every-as, run-over, differs, distinct, distinct_at, apart, apart_at}
use Rattle.names.proofs.Entries.{number-back, number-there, number-nowhere, at_eq, nothing-at, not_so, in_there, in_back}

-- ---- the tests
abbrev pub plain_test : List ℕ → Bool
plain_test n = leb 1 (length n) && (leb (length n) 25 && every plain_byte n)

pub plain-tested : (list : Listed) → every plain_test (names list) ≡ true
unfolding plain_byte
plain-tested StyleExtra = refl
plain-tested InlineExtra = refl
plain-tested RegionAttr = refl
plain-tested InlineModelled = refl
plain-tested Imsc1Extension = refl

distinct_tested : (list : Listed) → distinct (names list) ≡ true
unfolding same_folded lower
distinct_tested StyleExtra = refl
distinct_tested InlineExtra = refl
distinct_tested RegionAttr = refl
distinct_tested InlineModelled = refl
distinct_tested Imsc1Extension = refl

apart_tested : apart inline_modelled inline_extra ≡ true
unfolding same_folded lower
apart_tested = refl

-- ---- counts
abbrev pub counts : Listed → ℕ
counts StyleExtra = 46
counts InlineExtra = 47
counts RegionAttr = 53
counts InlineModelled = 6
counts Imsc1Extension = 3

pub counted : (list : Listed) → length (names list) ≡ counts list
counted StyleExtra = refl
counted InlineExtra = refl
counted RegionAttr = refl
counted InlineModelled = refl
counted Imsc1Extension = refl

-- ---- bytes
-- a byte that fails the test is not one that passes it: `plain-not b 34 h refl` says that b is no `"`
module _ (b : ℕ) where
  pub plain-not : (c : ℕ) → plain_byte b ≡ true → plain_byte c ≡ false → b ≡ c → ⊥
  plain-not c h f e = true≢false (sym h ∙ ap plain_byte e ∙ f)

  pub plain-ascii : plain_byte b ≡ true → b < 128
  unfolding plain_byte
  plain-ascii h = omega (arith, leb-true b 126 (both (both {a = leb 33 b} h).1).0)

  pub plain-no_blank : plain_byte b ≡ true → other 32 b ≡ true
  unfolding plain_byte
  plain-no_blank h = rw (ne_eqb b 32 (plain-not 32 h refl))

  pub plain-attr : plain_byte b ≡ true → attr_name_byte b ≡ true
  unfolding attr_name_byte blank plain_byte
  plain-attr h =
      rw (
        ne_eqb b 32 (plain-not 32 h refl),
        ne_eqb b 9 (plain-not 9 h refl),
        ne_eqb b 10 (plain-not 10 h refl),
        ne_eqb b 13
            (plain-not 13 h refl),
        ne_eqb b 62 (plain-not 62 h refl),
        ne_eqb b 47 (plain-not 47 h refl),
        ne_eqb b 61 (plain-not 61 h refl),
      )

pub all_plain : (n : List ℕ) → plain_test n ≡ true → every plain_byte n ≡ true
all_plain n e = (both {a = leb (length n) 25} (both {a = leb 1 (length n)} e).1).1

pub plain-bytes : (list : Listed) (i : ℕ) → i < length (names list) → every plain_byte (name_of list i) ≡ true
plain-bytes list i h = all_plain (name_of list i) (every-at plain_test (names list) [] (plain-tested list) i h)

module _ (list : Listed) (i : ℕ) (h : i < length (names list)) where
  pub plain-name : PlainName (name_of list i)
  plain-name =
      let n = name_of list i in
      let e = both {a = leb 1 (length n)} (every-at plain_test (names list) [] (plain-tested list) i h) in
      let f = both {a = leb (length n) 25} e.1 in
      record {
        some = leb-true 1 (length n) e.0;
        most = leb-true (length n) 25 f.0;
        plain = λ k l. every-at plain_byte n 0 f.1 k l;
      }

  -- an attribute's name that is written, with `=` behind it, is read as that name
  pub name_run : (rest : List ℕ) → run_length_of attr_name_byte (name_of list i ++ 61 ∷ rest) ≡ length (name_of list i)
  unfolding run_length_of attr_name_byte
  name_run rest =
      run-over attr_name_byte (name_of list i) (61 ∷ rest) (every-as plain_byte attr_name_byte plain-attr (name_of list i) (plain-bytes list i h))
      ∙ add-zero (length (name_of list i))

  -- ---- numbers
  pub names-distinct : (j : ℕ) → j < length (names list) → (i ≡ j → ⊥) → same_folded (name_of list i) (name_of list j) ≡ false
  names-distinct j l ne = distinct_at (names list) (distinct_tested list) i j h l ne

  pub folded_number : (s : List ℕ) → same_folded s (name_of list i) ≡ true → name_number list s ≡ Some i
  folded_number s e = number-there 0 s (names list) (distinct_tested list) i h e ∙ ap Some (zero-add i)

  pub name-number : name_number list (name_of list i) ≡ Some i
  name-number = folded_number (name_of list i) (same_folded-refl (name_of list i))

  pub contains-name : contains_name list (name_of list i) ≡ true
  contains-name = in_there (names list) i h

module _ (list : Listed) (s : List ℕ) where
  pub number-name : (i : ℕ) → name_number list s ≡ Some i → (i < length (names list)) × (same_folded s (name_of list i) ≡ true)
  number-name i e =
      let w = number-back 0 s (names list) i e in
      let z : i ≡ w.offset = w.counts ∙ zero-add w.offset in
      rw z (w.within, w.same)

  pub contained_name : contains_name list s ≡ true → (i : ℕ) × (i < length (names list)) × (s ≡ name_of list i)
  contained_name e = in_back s (names list) e

  -- a name that is in the list but for the case of letters can be only that entry
  pub contains-at : (i : ℕ) → name_number list s ≡ Some i → contains_name list s ≡ same_bytes_of s (name_of list i)
  contains-at i e = by (same_bytes_of s (name_of list i)) refl
    where
      in_list : i < length (names list)
      in_list = (number-name i e).0

      by : (t : Bool) → same_bytes_of s (name_of list i) ≡ t → contains_name list s ≡ t
      by true f = rw (same_eq s (name_of list i) f) (contains-name list i in_list)
      by false f = not_so (contains_name list s) elsewhere
        where
          elsewhere : contains_name list s ≡ true → ⊥
          elsewhere g =
              let w = contained_name g in
              let z : w.0 ≡ i = at_eq (sym (ap (name_number list) w.2 ∙ name-number list w.0 w.1) ∙ e) in
              let q : s ≡ name_of list i = w.2 ∙ ap (name_of list) z in
              true≢false (sym (ap (same_bytes_of s) (sym q) ∙ same_refl s) ∙ f)

  pub contains-nowhere : name_number list s ≡ None → contains_name list s ≡ false
  contains-nowhere e =
      not_so (contains_name list s) (λ g.
      let w = contained_name g in
      nothing-at (sym e ∙ ap (name_number list) w.2 ∙ name-number list w.0 w.1))

-- ---- two lists against each other
abbrev pub background_color : List ℕ
background_color = ascii "tts:backgroundColor"

pub inline_is_style : inline_extra ≡ take 1 style_extra ++ background_color ∷ drop 1 style_extra
inline_is_style = refl

module _ (i : ℕ) (h : i < length inline_modelled) where
  pub modelled_apart : (j : ℕ) → j < length inline_extra → same_folded (name_of InlineModelled i) (name_of InlineExtra j) ≡ false
  modelled_apart j l = apart_at inline_modelled inline_extra apart_tested i j h l

  pub modelled_not_extra : name_number InlineExtra (name_of InlineModelled i) ≡ None
  modelled_not_extra =
      number-nowhere 0 (name_of InlineModelled i) inline_extra
      (every-at (λ (m : List ℕ). every (differs m) inline_extra) inline_modelled [] apart_tested i h)

-- no text is a name of both, letters in any case
pub modelled_or_extra : (s : List ℕ) (i j : ℕ) → name_number InlineModelled s ≡ Some i → name_number InlineExtra s ≡ Some j → ⊥
modelled_or_extra s i j e f =
    let m = number-name InlineModelled s i e in
    let x = number-name InlineExtra s j f in
    let same = folded_trans (name_of InlineModelled i) s (name_of InlineExtra j) (same_folded-sym s (name_of InlineModelled i) m.1) x.1 in
    true≢false (sym same ∙ modelled_apart i m.0 j x.0)
