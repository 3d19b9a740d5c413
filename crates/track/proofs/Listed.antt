-- The lists of names from which extras take their numbers have as many names as the tests of a track say. Assumes nothing.
--     style_names, region-names, inline_names
use mathlib.Core.Path.{◌≡◌}
use lib.ListN.{length}
use Rattle.names.specs.declared.tables.Listed.{Listed}
use Rattle.names.specs.Lists.{names}
use Rattle.names.proofs.NameLaws.{counted}

pub style_names : length (names Listed.StyleExtra) ≡ 46
style_names = counted Listed.StyleExtra

pub region-names : length (names Listed.RegionAttr) ≡ 53
region-names = counted Listed.RegionAttr

pub inline_names : length (names Listed.InlineExtra) ≡ 47
inline_names = counted Listed.InlineExtra
