-- What the layers above need of the image, each from the file that proves it.
use Rattle.rgo_core_memory.specs.Facts.{OneAddress, SpreadFollows, WordsFollow, WordsDiffer, AllFound}
use Rattle.rgo_core_memory.specs.Ground.{ground_of}
use Rattle.rgo_core_memory.proofs.objects.Addresses.{one_address, spread_follows, word_behind, word_inside, words_apart, free_apart}
use Rattle.rgo_core_memory.proofs.objects.Spreads.{in_table}
use Rattle.rgo_core_memory.proofs.regions.Causes.{pages_spent, slots_spent}

pub addresses : OneAddress
addresses z words recs s places k = one_address z words recs (ground_of s) places k

pub follow : WordsFollow
follow z words recs s places k o i object r t whole l = (
  word_behind z words recs (ground_of s) places k o i object r t l whole,
  word_inside z words recs
      (ground_of s) places k o i object r t (in_table z.page_words object i l),
)

pub spread_follow : SpreadFollows
spread_follow z words recs s places k o object r t sp =
    spread_follows z words recs (ground_of s) places k o object r t sp

pub found_all : AllFound
found_all z words recs s places k g c own = (
  pages_spent z words recs (ground_of s) places k g c own,
  slots_spent z words recs
      (ground_of s) places k g c own,
)

pub differ : WordsDiffer
differ z words recs x places k = (words_apart z words recs x places k, free_apart z words recs x places k)
