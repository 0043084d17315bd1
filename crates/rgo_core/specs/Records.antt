-- The record of a goroutine: what it has drawn, ended, started and counted, and what it has of frames, memory and channels. It is what
-- the run knows of a goroutine, which is more than the code keeps. Only accesses of the goroutine itself change it.
use Rattle.std.specs.Prelude.{ℕ, suc, ◌+◌, ◌%◌, nat_le, Bool, true, false, List, [], ◌∷◌, ◌++◌, Option, Some, None, if◌then◌else◌}
use Rattle.rgo_sound.specs.RegionMachine.Counts.{Counts}
use Rattle.rgo_sound.specs.RegionMachine.States.{Mark}
use Rattle.rgo_sound.specs.Tally.{counts_plus, no_share}
use Rattle.rgo_core_channels.specs.Records.{ChannelRec as SideRec, at_rest}
use Rattle.rgo_core_frames.specs.Records.{FramesRec as FrameRec}
use Rattle.rgo_core_memory.specs.Opening.{first_record}
use Rattle.rgo_core_memory.specs.Records.{Rec as MemoryRec}

-- Bytes that were printed, with their ticket; void if the run had ended before. They go out later, when the driver sorts the tickets.
pub record Drawn : Type 0 where
  pub ticket : ℕ
  pub bytes : List ℕ
  pub is_void : Bool

pub record ClockRec : Type 0 where
  -- the oldest first
  pub prints : List Drawn
  -- the mark that this goroutine was the first to set
  pub first : Option Mark
  -- the numbers of the goroutines that it has started
  pub children : List ℕ
  -- whether a number was refused to it
  pub refused : Bool
  -- Its share of what the run has made and done. No word has the sums, so counting costs no access. The driver adds up the shares.
  pub share : Counts
  -- How many pages of a region that it has removed it has still to free. By it the loop over a chain ends.
  pub owed : ℕ
  -- how many accesses it has made
  pub accesses : ℕ

pub record Record : Type 0 where
  pub clock : ClockRec
  -- its frames in words, and what it has of the regions
  pub frame : FrameRec
  -- its own pages, and the object, the page or the chain at which it works
  pub memory : MemoryRec
  -- what it knows of a channel
  pub side : SideRec

abbrev pub clock_of : Record → ClockRec
clock_of c = c.clock

abbrev pub frame_of : Record → FrameRec
frame_of c = c.frame

abbrev pub memory_of : Record → MemoryRec
memory_of c = c.memory

abbrev pub side_of : Record → SideRec
side_of c = c.side

abbrev pub accesses : Record → ℕ
accesses c = c.clock.accesses

-- how many instructions it has made
abbrev pub steps_of : Record → ℕ
steps_of c = c.clock.share.steps

-- ---- counts

-- Pages that are still to be freed count as returned, as they do in the region machine: that returns all at the end of the last stake.
abbrev pub counted : ClockRec → Counts
counted c = record c.share { returned = c.share.returned + c.owed }

abbrev pub all_counted : List ClockRec → Counts
all_counted [] = no_share
all_counted (c ∷ recs) = counts_plus (counted c) (all_counted recs)

-- ---- the clock: the number of tickets drawn, and in bit 63 whether the run has ended

abbrev pub end_bit : Option Mark → ℕ
end_bit None = 0
end_bit (Some mark) = 9223372036854775808

-- whether the clock shows the end; once it does, it always will
abbrev pub has_ended : ℕ → Bool
has_ended n = nat_le 9223372036854775808 n

-- what was drawn when the clock was n
abbrev pub drawn_at : ℕ → List ℕ → Drawn
drawn_at n bytes = record { ticket = n % 9223372036854775808; bytes = bytes; is_void = has_ended n }

-- ---- what steps do to a record

-- a goroutine that has done nothing, and `main`, which counts itself
abbrev pub blank : ClockRec
blank = record { prints = []; first = None; children = []; refused = false; share = no_share; owed = 0; accesses = 0 }

abbrev pub fresh : ClockRec
fresh = record blank { share = record no_share { goroutines = 1 } }

-- an access
abbrev pub accessed : ClockRec → ClockRec
accessed c = record c { accesses = suc c.accesses }

-- the same of the whole record
abbrev pub looked : Record → Record
looked c = record c { clock = accessed c.clock }

-- an instruction
abbrev pub instructed : ClockRec → ClockRec
instructed c = record c { share = record c.share { steps = suc c.share.steps } }

-- an instruction by an access
abbrev pub ticked : ClockRec → ClockRec
ticked c = accessed (instructed c)

-- a print, for which the clock was n
abbrev pub with_print : ClockRec → ℕ → List ℕ → ClockRec
with_print c n bytes = record (ticked c) { prints = c.prints ++ drawn_at n bytes ∷ [] }

-- An end for which the clock was n. If the run had ended before, this record has not ended it, and keeps what it had.
abbrev pub with_end : ClockRec → ℕ → Mark → ClockRec
with_end c n mark = record (accessed c) { first = if has_ended n then c.first else Some mark }

-- goroutine n was started
abbrev pub with_child : ClockRec → ℕ → ClockRec
with_child c n = record c {
  children = n ∷ c.children;
  share = record c.share { steps = suc c.share.steps; goroutines = suc c.share.goroutines };
  accesses = suc c.accesses;
}

-- a number was refused
abbrev pub with_refusal : ClockRec → ClockRec
with_refusal c = record (accessed c) { refused = true }

-- a goroutine that begins with these frames
abbrev pub begins_with : FrameRec → Record
begins_with frame = record { clock = blank; frame = frame; memory = first_record; side = at_rest }
