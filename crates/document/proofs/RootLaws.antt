-- The start tag of tt, and the head, as they are written. Assumes nothing.
--     param-is, lang-there, lang-absent, root_is
--     head_none, headed_by
use Prim.Native.Nat.{ℕ, zero, suc, ◌+◌}
use Prim.Native.String.{String}
use mathlib.Core.Path.{◌≡◌, refl, ap, ap₂, ◌∙◌}
use mathlib.Core.Bool.{Bool, true, false, cond, not, ◌||◌}
use mathlib.Core.List.{[], ◌∷◌, ◌++◌, append_assoc}
use mathlib.Core.Logic.{◌⊎◌, inl, inr}
use lib.ListN.{get_or}
use lib.Dec.{eqb}
use Rattle.entities.specs.Escape.{escaped}
use Rattle.grammar.specs.Tree.{Attr, attr}
use Rattle.names.specs.declared.tables.Listed.{Listed}
use Rattle.names.specs.declared.tables.Listed.TheVariants.{StyleExtra, InlineExtra, RegionAttr}
use Rattle.track.specs.Track.{Bytes}
use Rattle.track.specs.Track as track
use Rattle.track.specs.Tables.{Tables, cell, style_at, region_at, cue_at, param_at, rows_from, param_count, style_count, region_count, cue_count}
use Rattle.track.specs.Meaning.{bytes_at, style_in, region_in, cue_in, track_at}
use Rattle.track.proofs.ShownLaws.{extras_in_lem, param_in, params_in, styles-in, regions-in, cues-in}
use Rattle.scan.specs.Text.{ascii}
use Rattle.written.specs.Attributes.{attr_text, attrs_text, given, listed, is_imsc, param_attr, some_of, contains, holds_itts, uses_itts, lang_of, root_attrs}
use Rattle.written.specs.Written.{tag, styling_lines, layout_lines}
use Rattle.writer.specs.Puts.{quoted}
use Rattle.writer.specs.Rows.{over}
use Rattle.writer.proofs.AttrLaws.{attrs-joined, attrs-last, attrs-one, attrs-given, attrs-extras}
use Rattle.document.specs.Roots.{
  some_row,
  imsc_row,
  flagged,
  prefix_text,
  param_text,
  itts_rows,
  itts_row,
  itts_text,
  lang_text,
  namespaces,
  root_text,
  head_text,
}
use Rattle.document.proofs.SomeRows.{some_rows, some_same}

-- ---- parameters
prefix_then : (b : Bool) (n r : Bytes) → ascii " " ++ ((cond b (ascii "ittp:") (ascii "ttp:") ++ n) ++ r) ≡ prefix_text b ++ (n ++ r)
prefix_then true n r = refl
prefix_then false n r = refl

params_are : (T : Tables) (n i : ℕ) → attrs_text (listed param_attr (rows_from (param_in T) n i)) ≡ over (param_text T.params T.strings) n i
unfolding attrs_text listed rows_from over param_text param_attr is_imsc imsc_row param_in
params_are T zero i = refl
params_are T (suc n) i =
    let x = param_at T.params i in
    ap₂ ◌++◌
    (prefix_then (imsc_row T.params T.strings i) (bytes_at T.strings x.name)
    (quoted (ascii "=\"") (escaped true (bytes_at T.strings x.value))))
    (params_are T n (i + 1))

-- ---- the namespace itts
rows-hold : (T : Tables) (list : Listed) (n i : ℕ)
    → holds_itts list (extras_in_lem T.extras T.strings n i) ≡ itts_rows list T.extras T.strings i n
unfolding holds_itts itts_rows
rows-hold T list n i = ap (contains (ascii "itts:")) (attrs-extras T list n i)

module _ (T : Tables) where
  style_rows : some_of (λ (x : track.Style Bytes). holds_itts StyleExtra x.extras) (rows_from (style_in T) (style_count T.head) 0)
      ≡ some_row (itts_row StyleExtra T.styles T.extras T.strings 27 25) (style_count T.head) 0
  unfolding style_in style_at itts_row
  style_rows =
      some_rows (λ (x : track.Style Bytes). holds_itts StyleExtra x.extras) (style_in T) (style_count T.head) 0
      ∙ some_same _ _ (λ (i : ℕ). rows-hold T StyleExtra (cell 27 T.styles i 26) (cell 27 T.styles i 25)) (style_count T.head) 0

  region_rows : some_of (λ (x : track.Region Bytes). holds_itts RegionAttr x.extras) (rows_from (region_in T) (region_count T.head) 0)
      ≡ some_row (itts_row RegionAttr T.regions T.extras T.strings 4 2) (region_count T.head) 0
  unfolding region_in region_at itts_row
  region_rows =
      some_rows (λ (x : track.Region Bytes). holds_itts RegionAttr x.extras) (region_in T) (region_count T.head) 0
      ∙ some_same _ _ (λ (i : ℕ). rows-hold T RegionAttr (cell 4 T.regions i 3) (cell 4 T.regions i 2)) (region_count T.head) 0

  cue_rows : some_of (λ (x : track.Cue Bytes). holds_itts InlineExtra x.extras) (rows_from (cue_in T) (cue_count T.head) 0)
      ≡ some_row (itts_row InlineExtra T.cues T.extras T.strings 11 9) (cue_count T.head) 0
  unfolding cue_in cue_at itts_row
  cue_rows =
      some_rows (λ (x : track.Cue Bytes). holds_itts InlineExtra x.extras) (cue_in T) (cue_count T.head) 0
      ∙ some_same _ _ (λ (i : ℕ). rows-hold T InlineExtra (cell 11 T.cues i 10) (cell 11 T.cues i 9)) (cue_count T.head) 0

  itts_is : uses_itts (track_at T) ≡ itts_text T
  unfolding uses_itts itts_text
  itts_is = rw (styles-in T, regions-in T, cues-in T) (ap₂ ◌||◌ (ap₂ ◌||◌ style_rows region_rows) cue_rows)

  -- ---- the start tag
  lang_is : attrs_text (attr (ascii "xml:lang") (lang_of (track_at T).lang) ∷ []) ≡ lang_text T.head T.strings
  unfolding track_at lang_text escaped
  lang_is = attrs-one (attr (ascii "xml:lang") (lang_of (track_at T).lang)) ∙ go (eqb (get_or T.head 5 0) 1) refl
    where
      go : (b : Bool) → eqb (get_or T.head 5 0) 1 ≡ b → attr_text (attr (ascii "xml:lang") (lang_of (track_at T).lang)) ≡ lang_text T.head
          T.strings
      go true e = rw e refl
      go false e = rw e refl

  ttp : some_of (λ (x : track.Param Bytes). not (is_imsc x)) (track_at T).params
      ≡ some_row (λ (i : ℕ). flagged false (imsc_row T.params T.strings i)) (param_count T.head) 0
  unfolding is_imsc imsc_row param_in
  ttp = rw (params_in T) (some_rows (λ (x : track.Param Bytes). not (is_imsc x)) (param_in T) (param_count T.head) 0)

  ittp : some_of is_imsc (track_at T).params ≡ some_row (λ (i : ℕ). flagged true (imsc_row T.params T.strings i)) (param_count T.head) 0
  unfolding is_imsc imsc_row param_in
  ittp = rw (params_in T) (some_rows is_imsc (param_in T) (param_count T.head) 0)

  params_of : attrs_text (listed param_attr (track_at T).params) ≡ over (param_text T.params T.strings) (param_count T.head) 0
  params_of = rw (params_in T) (params_are T (param_count T.head) 0)

  given_is : (b c : Bool) (a : Attr) → b ≡ c → attrs_text (given b a) ≡ cond c (attr_text a) []
  given_is b c a e = rw e (attrs-given c a)

  regroup : (a b c d p l e : Bytes) → (a ++ (b ++ (c ++ (d ++ (p ++ l))))) ++ e ≡ a ++ ((b ++ (c ++ d)) ++ (p ++ (l ++ e)))
  regroup a b c d p l e = simp append_assoc

  abbrev declared : String → String → Bytes
  declared prefix end = ascii " xmlns:" ++ (ascii prefix ++ (ascii "=\"http://www.w3.org/ns/ttml" ++ (ascii end ++ ascii "\"")))

  abbrev start : Bytes
  start = ascii "<tt xmlns=\"http://www.w3.org/ns/ttml\" xmlns:tts=\"http://www.w3.org/ns/ttml#styling\""

  pub root_is : tag "tt" (root_attrs (track_at T)) ++ ascii ">\n" ≡ root_text T
  unfolding root_attrs root_text namespaces escaped
  root_is =
      ap (λ (w : Bytes). (ascii "<tt" ++ w) ++ ascii ">\n")
      (attrs-joined _ _ _ _ (attrs-one (attr (ascii "xmlns") (ascii "http://www.w3.org/ns/ttml")))
      (attrs-joined _ _ _ _ (attrs-one (attr (ascii "xmlns:tts") (ascii "http://www.w3.org/ns/ttml#styling")))
      (attrs-joined _ _ _ _ (given_is _ _ (attr (ascii "xmlns:ttp") (ascii "http://www.w3.org/ns/ttml#parameter")) ttp)
      (attrs-joined _ _ _ _ (given_is _ _ (attr (ascii "xmlns:ittp") (ascii "http://www.w3.org/ns/ttml/profile/imsc1#parameter")) ittp)
      (attrs-joined _ _ _ _ (given_is _ _ (attr (ascii "xmlns:itts") (ascii "http://www.w3.org/ns/ttml/profile/imsc1#styling")) itts_is)
      (attrs-joined _ _ _ _ params_of
      (attrs-last _ _ lang_is)))))))
      ∙ regroup start
      (cond (some_row (λ (i : ℕ). flagged false (imsc_row T.params T.strings i)) (param_count T.head) 0) (declared "ttp" "#parameter") [])
      (cond (some_row (λ (i : ℕ). flagged true (imsc_row T.params T.strings i)) (param_count T.head) 0)
      (declared "ittp" "/profile/imsc1#parameter") [])
      (cond (itts_text T) (declared "itts" "/profile/imsc1#styling") [])
      (over (param_text T.params T.strings) (param_count T.head) 0) (lang_text T.head T.strings) (ascii ">\n")

-- ---- the head
module _ (f : ℕ → track.Style Bytes) (g : ℕ → track.Region Bytes) (n m : ℕ) where
  pub head_none : n ≡ 0 → m ≡ 0 → head_text (rows_from f n 0) (rows_from g m 0) ≡ []
  unfolding head_text rows_from
  head_none e h = rw (e, h) refl

abbrev Headed : (f : ℕ → track.Style Bytes) (g : ℕ → track.Region Bytes) (n m : ℕ) → Type 0
Headed f g n m =
    head_text (rows_from f n 0) (rows_from g m 0)
    ≡ ascii "  <head>\n" ++ (styling_lines (rows_from f n 0) ++ (layout_lines (rows_from g m 0) ++ ascii "  </head>\n"))

head_styles : (f : ℕ → track.Style Bytes) (g : ℕ → track.Region Bytes) (n m : ℕ) → (n ≡ 0 → ⊥) → Headed f g n m
unfolding head_text rows_from
head_styles f g zero m h = absurd (h refl)
head_styles f g (suc n) m h = refl

head_regions : (f : ℕ → track.Style Bytes) (g : ℕ → track.Region Bytes) (n m : ℕ) → n ≡ 0 → (m ≡ 0 → ⊥) → Headed f g n m
unfolding head_text rows_from
head_regions f g n zero e h = absurd (h refl)
head_regions f g n (suc m) e h = rw e refl

-- by the way on which the program came to it
pub headed_by : {A B : Type 0} (f : ℕ → track.Style Bytes) (g : ℕ → track.Region Bytes) (n m : ℕ)
    → (A → (n ≡ 0) × (m ≡ 0 → ⊥)) → (B → n ≡ 0 → ⊥) → A ⊎ B → Headed f g n m
headed_by f g n m a b (inl x) = head_regions f g n m (a x).0 (a x).1
headed_by f g n m a b (inr x) = head_styles f g n m (b x)
