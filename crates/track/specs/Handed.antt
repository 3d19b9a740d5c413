-- The tables that a call is handed, as the lists that stand in them. Definitions alone.
use Rattle.track.specs.Tables.{Tables, tables}
use Rattle.track.specs.declared.handed.Tables as handed

abbrev pub lists : handed.Tables → Tables
lists t =
    tables t.head.now t.params.now t.styles.now t.regions.now t.cues.now t.times.now t.segments.now t.sizes.now t.extras.now
    t.strings.now t.texts.now
