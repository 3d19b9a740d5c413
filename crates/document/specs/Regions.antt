-- Steps of the program that writes regions: nothing here need be believed.
use Rattle.std.specs.Prelude.{ℕ, ◌+◌, ◌*◌, ◌≤◌, ◌<◌, length}
use Rattle.names.specs.declared.tables.Listed.TheVariants.{RegionAttr}
use Rattle.track.specs.Tables.{Tables, region_at}
use Rattle.writer.specs.Rows.{ExtrasReady}

-- row i can be written
pub record RegionReady (T : Tables) (i : ℕ) : Type 0 where
  pub row : i * 4 + 4 ≤ length T.regions
  pub id : (region_at T.regions i).id.place + (region_at T.regions i).id.len ≤ length T.strings
  pub extras : ExtrasReady RegionAttr T.extras T.strings (region_at T.regions i).extras.first (region_at T.regions i).extras.count

-- the first n rows can be
abbrev pub RegionsReady : Tables → ℕ → Type 0
RegionsReady T n = (i : ℕ) → i < n → RegionReady T i
