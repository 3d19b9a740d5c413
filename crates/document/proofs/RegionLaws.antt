-- Regions as they are written. Assumes nothing.
--     region_is, region_writes       one, and of what the program has read
--     layout-none, layout-some     their part of the head
use Rattle.std.specs.Prelude.{Option, ⊤}
use Prim.Native.Nat.{ℕ, zero, suc}
use mathlib.Core.Path.{◌≡◌, refl, ap, ◌∙◌}
use mathlib.Core.Bool.{true}
use mathlib.Core.List.{[], ◌++◌, append_assoc}
use Rattle.entities.specs.Escape.{escaped}
use Rattle.names.specs.declared.tables.Listed.TheVariants.{RegionAttr}
use Rattle.track.specs.declared.values.Region.{Region}
use Rattle.track.specs.Track.{Bytes}
use Rattle.track.specs.Track as track
use Rattle.track.specs.Tables.{Tables, region_at, rows_from}
use Rattle.track.specs.Meaning.{bytes_at, region_in}
use Rattle.scan.specs.Text.{ascii}
use Rattle.written.specs.Attributes.{attrs_text, region_attrs}
use Rattle.written.specs.Written.{region_text, lines, layout_lines}
use Rattle.writer.specs.declared.buffer.Out.{Out}
use Rattle.writer.specs.Puts.{quoted, Writes}
use Rattle.writer.specs.Rows.{over, extra_text}
use Rattle.writer.proofs.AttrLaws.{attrs-extras}

module _ (T : Tables) (i : ℕ) where
  abbrev opening : Region → Bytes
  opening x = quoted (ascii "<region xml:id=\"") (escaped true (bytes_at T.strings x.id))

  abbrev kept : Region → Bytes
  kept x = over (extra_text RegionAttr T.extras T.strings) x.extras.count x.extras.first

  pub region_is : region_text (region_in T i) ≡ opening (region_at T.regions i) ++ (kept (region_at T.regions i) ++ ascii "/>")
  unfolding region_text region_attrs attrs_text region_in
  region_is =
      let x : Region = region_at T.regions i in
      ap (λ (l : Bytes). (opening x ++ l) ++ ascii "/>") (attrs-extras T RegionAttr x.extras.count x.extras.first)
      ∙ append_assoc (opening x) (kept x) (ascii "/>")

  pub region_writes :
      (x : Region) → x ≡ region_at T.regions i → (o o' : Out) (r : Option ⊤) → Writes (opening x ++ (kept x ++ ascii "/>")) o o' r
      → Writes (region_text (region_in T i)) o o' r
  region_writes x e o o' r p = rw region_is (rw e at p)

-- ---- all of them
pub layout-none : (f : ℕ → track.Region Bytes) (n : ℕ) → n ≡ 0 → layout_lines (rows_from f n 0) ≡ []
unfolding layout_lines rows_from
layout-none f n e = rw e refl

pub layout-some :
    (f : ℕ → track.Region Bytes) (n : ℕ) → (n ≡ 0 → ⊥)
    → layout_lines (rows_from f n 0) ≡ ascii "    <layout>\n" ++ (lines region_text (rows_from f n 0) ++ ascii "    </layout>\n")
unfolding layout_lines rows_from
layout-some f zero h = absurd (h refl)
layout-some f (suc n) h = refl
