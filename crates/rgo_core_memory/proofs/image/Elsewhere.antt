-- What concerns no word of memory: one row of `Words` changes that no part of the image reads.
use Rattle.rgo_core_memory.specs.Elsewhere.{ClockKeeps, GroundKeeps, NumberKeeps}
use Rattle.rgo_core_memory.proofs.accesses.Accesses.{image_of}
use Rattle.rgo_core_memory.proofs.Writes.{writes_clock, writes_made}

pub clock_keeps : ClockKeeps
clock_keeps z words recs s places n k = record {
  w = record k.w { clock = n };
  shows = writes_clock z words k.w k.shows n;
  lies = k.lies;
  own = k.own;
  filled = k.filled;
  counts = k.counts;
  pages = k.pages;
  paged = k.paged;
  taken = k.taken;
}

pub number_keeps : NumberKeeps
number_keeps z words recs s places n k = record {
  w = record k.w { made = n };
  shows = writes_made z words k.w k.shows n;
  lies = k.lies;
  own = k.own;
  filled = k.filled;
  counts = k.counts;
  pages = k.pages;
  paged = k.paged;
  taken = k.taken;
}

pub ground_keeps : GroundKeeps
ground_keeps z words recs s t places e k = image_of e k
