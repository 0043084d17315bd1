-- The moment that laws about channels are about, from what is known of a table and its records. It is all parts of the core that
-- rgo_core_channels names.
use Rattle.std.specs.Prelude.{ℕ, map}
use Rattle.rgo_core_channels.specs.Positions.{cell_place, place_at}
use Rattle.rgo_core_channels.specs.Moments.{Moment}
use Rattle.rgo_core_memory.specs.Image.{word_of_value}
use Rattle.rgo_core.specs.Core.{Situation, Setup, layout}
use Rattle.rgo_core.specs.Records.{Record, side_of}

abbrev pub moment : {T : Setup} {g : ℕ} {c : Record} → Situation T g c → Moment
moment {T} x = record {
  code = T.code;
  page_words = T.sizes.page_words;
  checked = x.core.sound.checked;
  ascends = x.core.sound.written;
  encode = word_of_value (layout T) x.core.image.places;
  place = place_at (layout T) x.core.image.places;
  cell = cell_place (layout T) x.core.image.places;
  words = x.words;
  recs = map side_of x.recs;
  state = x.s;
  good = x.core.sound.good;
  running = x.core.sound.running;
  at = x.core.image.at;
  channels = x.core.image.channels;
}
