-- A region's part of an answer: its chain, and what it says itself. Assumes nothing.
--     blank-post, region_none, region_refused, region_done     the ways through `region_part`
--     cue_none, cue_some                                       and through `cue_part`
use Rattle.std.specs.Prelude.{Some, None, Result, Ok, Err}
use Prim.Native.Nat.{ℕ, ◌+◌, ◌*◌, ◌<◌}
use mathlib.Core.Path.{◌≡◌, refl, sym, ap, ◌∙◌}
use mathlib.Core.Bool.{Bool, true, false}
use mathlib.Core.List.{List, []}
use mathlib.Core.Option.{some}
use native.Mathlib.Omega.{arith}
use lib.ListN.{get_or}
use Rattle.scan.specs.Part.{string_at}
use Rattle.scan.proofs.Every.{by-test}
use Rattle.track.specs.declared.strings.Span.{Span}
use Rattle.track.specs.declared.values.Look as values
use Rattle.track.specs.Track.{Bytes, Style}
use Rattle.track.specs.Tables.{span, cell, region_at}
use Rattle.track.specs.Meaning.{bytes_at, given, look_in_of, region_in}
use Rattle.track.specs.Layout.{is_some}
use Rattle.records.specs.Find.{find_region, first_row}
use Rattle.records.proofs.FoundRows.{row_first, region-found}
use Rattle.styles.specs.Values.{unstyled}
use Rattle.styles.specs.Resolve.{resolve}
use Rattle.styles.specs.Own.{is, next, value_of, own_values}
use Rattle.styles.specs.Queries.{nothing, resolve_optional, with_own, region_found}
use Rattle.styles.specs.Cells.{no_color, no_size_of, blank_look, Tidy}
use Rattle.styles.proofs.Answering.{resolve-nothing}
use Rattle.styles.proofs.Tidying.{tidy_blank}
use Rattle.queries.specs.declared.region.Part.{Part}
use Rattle.queries.specs.Places.{or_zero, cells_of, extras_of, extras_at, blank_part, part_at}
use Rattle.queries.specs.Steps.{value_at, bytes_in, value_in_of, HasExtras, OwnPost, region_tables, regions_of, PartPost, RegionPost, CueRegionPost}
use Rattle.queries.proofs.Numbered.{value-within, value-absent}
use Rattle.queries.proofs.Owning.{chain_is, chain-at}

no_bytes : (z : List ℕ) → string_at z 0 0 ≡ []
unfolding string_at
no_bytes z = refl

-- without a region, or without anything in it
pub blank-unstyled : (z : List ℕ) → unstyled (look_in_of z blank_look) ≡ true
unfolding unstyled look_in_of blank_look
blank-unstyled z = refl

pub blank-answer : (z : List ℕ) (styles : List (Style Bytes)) → with_own (resolve styles (string_at z 0 0)) (look_in_of z blank_look) ≡ nothing
unfolding nothing
blank-answer z styles = rw (no_bytes z, resolve-nothing styles, blank-unstyled z)

module _ (z : List ℕ) (x : Part) (b : x ≡ blank_part) where
  pub blank-post : PartPost z (λ styles. is nothing) (is blank_part) (Ok x)
  unfolding blank_part
  blank-post = record {
    is = λ styles. rw b (ap is (blank-answer z styles));
    within = (rw b (record { within = omega arith; few = omega arith }), rw b tidy_blank);
    placed = rw b;
  }

optional-chain : (e z : List ℕ) (n i : ℕ) (styles : List (Style Bytes))
    → resolve styles (bytes_in e z 50 n i) ≡ resolve_optional styles (value_in_of e z 50 n i)
unfolding nothing
optional-chain e z n i styles =
    by-test (value_at e 50 n i).has (λ h. rw h) (λ h. rw (h, value-absent e 50 n i h, no_bytes z, resolve-nothing styles))

-- ---- in cells
some_given : {A : Type 0} (b : Bool) (x : A) → is_some (given b x) ≡ b
some_given true x = refl
some_given false x = refl

cell-given : {A : Type 0} (b : Bool) (x y : A) → (b ≡ false → x ≡ y) → or_zero y (given b x) ≡ x
cell-given true x y h = refl
cell-given false x y h = sym (h refl)

-- a look is known by what it says and where its family stands
pub look-cells : (z : List ℕ) (l : values.Look) → Tidy l → cells_of (look_in_of z l) (given l.has_family l.family) ≡ l
unfolding look_in_of
look-cells z l t =
    rw (
      some_given l.has_color l.color,
      some_given l.has_back l.back,
      some_given l.has_family l.family,
      some_given l.has_size l.size,
      cell-given l.has_color l.color no_color t.color,
      cell-given l.has_back l.back no_color t.back,
      cell-given l.has_family l.family (span 0 0) t.family,
      cell-given l.has_size l.size no_size_of t.size,
    )

module _ (r e z : List ℕ) (n : ℕ) (id : Bytes) where
  part_none : first_row r z id 4 n 0 ≡ None → part_at r e z n id ≡ is blank_part
  unfolding part_at
  part_none h = rw h

  pub region_none : first_row r z id 4 n 0 ≡ None → (x : Part) → x ≡ blank_part → RegionPost r e z n id (Ok x)
  region_none h x b =
      let p = blank-post z x b in
      record {
        is = λ styles. p.is styles ∙ rw (region-found (region_tables r e z) id n, h);
        within = p.within;
        placed = part_none h ∙ p.placed;
      }

  module _ (i : ℕ) (h : first_row r z id 4 n 0 ≡ Some i) where
    pub row_within : i < n
    row_within = omega (arith, (row_first r z id 4 n i h).within)

    found : find_region id (regions_of r e z n) ≡ some (region_in (region_tables r e z) i)
    found = rw (region-found (region_tables r e z) id n, h)

    abbrev first : ℕ
    first = get_or r (i * 4 + 2) 0

    abbrev many : ℕ
    many = get_or r (i * 4 + 3) 0

    extras_are : (region_in (region_tables r e z) i).extras ≡ extras_of e z first many
    unfolding region_in region_at cell
    extras_are = refl

    answer : (styles : List (Style Bytes)) → region_found styles (find_region id (regions_of r e z n))
        ≡ next (own_values (extras_of e z first many)) λ own. is (with_own (resolve_optional styles (value_of "style" (extras_of e z first many))) own)
    answer styles = rw (found, extras_are)

    part-some : part_at r e z n id ≡ next (own_values (extras_of e z first many)) λ own.
        is (record {
          look = cells_of own (value_of "tts:fontFamily" (extras_at e first many));
          chain = or_zero (span 0 0) (value_of "style" (extras_at e first many));
        })
    unfolding part_at region_at cell
    part-some = rw h

    pub region_refused : (k : ℕ) → OwnPost e z first many (Err k) → RegionPost r e z n id (Err k)
    region_refused k o = record {
      is = λ styles. sym (answer styles ∙ rw (← o.is));
      within = o.tidy;
      placed = part-some ∙ rw (← o.is);
    }

    pub region_done : (x : Part) → HasExtras e z first many → OwnPost e z first many (Ok x.look) → x.chain ≡ (value_at e 50 many first).span
        → RegionPost r e z n id (Ok x)
    region_done x has o c = record {
      is = λ styles. sym (answer styles ∙ rw (← o.is, chain_is e z first many, ← (optional-chain e z many first styles), c));
      within = (rw c (value-within e z 50 many first has.values), o.tidy);
      placed = part-some ∙ rw (
        ← o.is,
        o.family,
        look-cells z x.look o.tidy,
        chain-at e z first many,
        cell-given (value_at e 50 many first).has (value_at e 50 many first).span (span 0 0) (value-absent e 50 many first),
        ← c,
      );
    }

module _ (r e z : List ℕ) (n : ℕ) (has : Bool) (id : Span) where
  pub cue_none : has ≡ false → (x : Part) → x ≡ blank_part → CueRegionPost r e z n has id (Ok x)
  cue_none h x b = let p = blank-post z x b in record { is = λ styles. p.is styles ∙ rw h; within = p.within; placed = rw h p.placed }

  pub cue_some : has ≡ true → (x : Result Part ℕ) → RegionPost r e z n (bytes_at z id) x → CueRegionPost r e z n has id x
  cue_some h x p = record { is = λ styles. p.is styles ∙ rw h; within = p.within; placed = rw h p.placed }
