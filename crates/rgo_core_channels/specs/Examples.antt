-- Controls, records and channels that meet the definitions, and some that do not.
use Rattle.std.specs.Prelude.{◌≡◌, ◌+◌, ℕ, true, false, List, [], ◌∷◌, pos, nat_lt, slice_index, if◌then◌else◌}
use Rattle.rgo_sound.specs.Memory.declared.values.Value.{Value}
use Rattle.rgo_sound.specs.Memory.declared.values.Value.TheVariants as value
use Rattle.rgo_sound.specs.Code.Code.{Code}
use Rattle.rgo_sound.specs.RegionMachine.Machine.{region_start}
use Rattle.rgo_core_memory.specs.declared.layout.TableSizes.{TableSizes}
use Rattle.rgo_core_memory.specs.Image.{StateImage, Where}
use Rattle.rgo_core_memory.specs.Opening.{nowhere}
use Rattle.rgo_core_memory.specs.Records.{Rec as MemoryRec}
use Rattle.rgo_core_memory.specs.Spread.{lead_spot, spread_spot}
use Rattle.rgo_core_channels.specs.After.{closed_now, popped, pushed}
use Rattle.rgo_core_channels.specs.Channels.{Accepted, Calm, Chan, Channels, On, Places, LockedBy, Offered, OfferOf, Unlocked, cell_of, channel, count, holder_offer, lock_bit, phase_number, word_of_channel}
use Rattle.rgo_core_channels.specs.Controls.{bit, closed_of, control, count_of, extent, tail_words, head_of, spreads}
use Rattle.rgo_core_channels.specs.Locking.{IsCell, IsSpare}
use Rattle.rgo_core_channels.specs.Moments.{Moment}
use Rattle.rgo_core_channels.specs.Positions.{PositionsAgree, Layout, cell_place, place_at}
use Rattle.rgo_core_channels.specs.Records.{Free, HoldsAt, InCell, KnowsOf, Locked, Read, Wrote, at_rest, offering_record, with_hold, with_lock, with_look, with_own_look, with_reach, with_size}
use Rattle.rgo_core_channels.specs.Records.{ChannelRec, Shut, Stranded}
use Rattle.rgo_core_channels.specs.Standing.{IsOfChannel}
use Rattle.rgo_sound.specs.Typed.declared.actions.Action.TheVariants as action
use Rattle.rgo_sound.specs.RegionMachine.States.{Holder, NoOffer, RegionState, Standing, Taken}

-- a buffer for three values, of which it has two
abbrev pub ring : Chan
ring = record { capacity = 3; queue = value.Bool true ∷ value.Nil ∷ []; closed = false }

-- its words: the older value is in the second cell
abbrev pub ring_words : (Value → ℕ) → List ℕ
ring_words encode = 4294967304 ∷ 3 ∷ 0 ∷ encode (value.Bool true) ∷ encode value.Nil ∷ []

abbrev pub ring_at : Places
ring_at = record { head = λ o. 1; lock = λ o. Unlocked; phase = λ o. Calm }

-- they show it, in each state in which it is the only object, whose one goroutine has no offer
abbrev pub RingIsShown : Type 0
RingIsShown = (code : Code) (encode : Value → ℕ) (s : RegionState) (h : Holder)
    → s.plain.memory.heap ≡ channel ring ∷ [] → s.holders ≡ h ∷ [] → h.offer ≡ NoOffer
    → Channels code 256 encode (λ o. 0) (λ o i. 2 + i) (ring_words encode) (at_rest ∷ []) s ring_at

-- A buffer for five values, which does not fit a page of four words, and of which two are there. Page 0 is its lead page. It
-- has the numbers, plus 1, of the data pages: 2, with the first four cells, and 1, with the last.
abbrev pub spread_buffer : Chan
spread_buffer = record { capacity = 5; queue = value.Bool true ∷ value.Nil ∷ []; closed = false }

abbrev pub long_words : (Value → ℕ) → List ℕ
long_words encode =
    12884901896 ∷ 5 ∷ 3 ∷ 2 ∷ encode value.Nil ∷ 0 ∷ 0 ∷ 0 ∷ 0 ∷ 0 ∷ 0 ∷ encode (value.Bool true) ∷ []

abbrev pub long_cell : ℕ → ℕ → ℕ
long_cell o i = if nat_lt i 4 then 8 + i else i

abbrev pub long_at : Places
long_at = record { head = λ o. 3; lock = λ o. Unlocked; phase = λ o. Calm }

-- these words show it, in such a state
abbrev pub LongIsShown : Type 0
LongIsShown = (code : Code) (encode : Value → ℕ) (s : RegionState) (h : Holder)
    → s.plain.memory.heap ≡ channel spread_buffer ∷ [] → s.holders ≡ h ∷ [] → h.offer ≡ NoOffer
    → Channels code 4 encode (λ o. 0) long_cell (long_words encode) (at_rest ∷ []) s long_at

-- a table of three such pages, which has the channel in its pages 0, 2 and 1
abbrev pub three_pages : TableSizes
three_pages = record { pages = 3; page_words = 4; slots = 1; variables = 0 }

abbrev pub long_places : Where
long_places = record nowhere {
  spot = λ o i. spread_spot 4 (channel spread_buffer) (0 ∷ 2 ∷ 1 ∷ []) i;
  start = λ o. lead_spot (0 ∷ 2 ∷ 1 ∷ []) 0;
}

pub record ChannelExamples : Type 0 where
  -- ---- controls
  pub new : control 0 0 0 ≡ 0
  pub closed : control 1 0 0 ≡ 2
  pub two : control 0 2 1 ≡ 4294967304
  pub is_open : closed_of 4294967304 ≡ 0
  pub is_closed : closed_of 7 ≡ 1
  pub has_two : count_of 4294967304 ≡ 2
  pub has_none : count_of 3 ≡ 0
  pub head : head_of 4294967304 ≡ 1
  pub no_buffer : extent 0 ≡ 1
  pub three : extent 3 ≡ 3
  -- ---- a channel for 300 values on pages of 256 words: its first 254 cells would fit
  pub fits : spreads 256 254 ≡ false
  pub too_long : spreads 256 255 ≡ true
  pub cells_follow : tail_words 256 254 ≡ 254
  pub numbers_follow : tail_words 256 300 ≡ 2
  pub no_cells : tail_words 256 0 ≡ 1
  pub first_word : word_of_channel (λ o. 10) long_cell 0 0 ≡ 10
  pub second_word : word_of_channel (λ o. 10) long_cell 0 1 ≡ 11
  pub fourth_cell : word_of_channel (λ o. 10) long_cell 0 5 ≡ 11 + 0
  pub fifth_cell : word_of_channel (λ o. 10) long_cell 0 6 ≡ 4
  pub locked : lock_bit (LockedBy 4) ≡ 1
  pub unlocked : lock_bit Unlocked ≡ 0
  -- a channel without a buffer: its control with an offer, and when that was taken
  pub stands : control (bit false) (phase_number (Offered 4)) 0 ≡ 4
  pub taken : control (bit false) (phase_number (Accepted 4)) 0 ≡ 8
  pub none : control (bit false) (phase_number Calm) 0 ≡ 0
  -- ---- a ring
  pub values : count ring Calm ≡ 2
  pub oldest : cell_of ring 2 0 ≡ 2
  pub newest : cell_of ring 2 1 ≡ 0
  pub grows : (pushed (value.Int (pos 5)) ring).queue ≡ value.Bool true ∷ value.Nil ∷ value.Int (pos 5) ∷ []
  pub shrinks : (popped ring (value.Nil ∷ [])).queue ≡ value.Nil ∷ []
  pub closes : (closed_now ring).closed ≡ true
  pub spare : IsSpare (control 0 2 2) 3 1
  pub not_spare : IsSpare (control 0 2 2) 3 0 → ⊥
  pub outside : IsSpare (control 0 2 2) 3 3 → ⊥
  pub offer_there : IsSpare (control 0 1 0) 0 0 → ⊥
  -- ---- offers
  pub offer_of : OfferOf (Offered 4) 4
  pub not_of : OfferOf (Accepted 4) 5 → ⊥
  pub nobodys : OfferOf Calm 4 → ⊥
  pub standing : holder_offer 7 (Offered 4) ≡ Standing 7
  pub accepted : holder_offer 7 (Accepted 4) ≡ Taken 7
  pub no_offer : holder_offer 7 Calm ≡ NoOffer
  -- ---- records
  pub holds : HoldsAt (Locked 100 4) 100 4
  pub holds_not : HoldsAt (Locked 100 4) 101 4 → ⊥
  pub free : HoldsAt Free 100 4 → ⊥
  pub reads : InCell (Read 100 4 2 9) 100 2 9
  pub reads_not : InCell (Wrote 100 4 2 9) 100 2 8 → ⊥
  pub knows : KnowsOf (with_size at_rest 100 3) 100
  pub knows_not : KnowsOf (with_size at_rest 100 3) 101 → ⊥
  pub knows_offer : KnowsOf (offering_record 100) 100
  pub knows_cell : KnowsOf (with_reach at_rest 100 4 12) 100
  pub knows_other_cell : KnowsOf (with_reach at_rest 100 4 12) 101 → ⊥
  pub knows_nothing : KnowsOf at_rest 100 → ⊥
  pub looks : (with_look at_rest 100 2).saw ≡ Shut 100
  pub looks_open : with_look at_rest 100 4 ≡ at_rest
  pub looks_own : (with_own_look (offering_record 100) 100 6).saw ≡ Stranded 100
  pub looks_taken : with_own_look (offering_record 100) 100 10 ≡ offering_record 100
  -- the cell of a channel in a page needs no page number; that of a spread one does
  pub cell_here : IsCell 256 at_rest 100 3 1 103
  pub cell_else : IsCell 256 at_rest 100 3 1 104 → ⊥
  pub cell_not_found : IsCell 256 at_rest 100 300 1 103 → ⊥
  pub cell_found : IsCell 256 (with_reach at_rest 100 299 555) 100 300 299 555
  pub cell_not_it : IsCell 256 (with_reach at_rest 100 299 555) 100 300 298 555 → ⊥
  pub locks : (with_lock at_rest 100 4 4).hold ≡ Locked 100 4
  pub locks_not : with_lock at_rest 100 4 5 ≡ at_rest
  -- ---- images
  pub shown : RingIsShown
  pub long_shown : LongIsShown
  -- a record cannot have locked a channel that does not exist, nor can words show another capacity or another lock; and the cells of
  -- a channel in a page are nowhere else
  pub no_channel : (code : Code) (page_words : ℕ) (encode : Value → ℕ) (place : ℕ → ℕ) (cell : ℕ → ℕ → ℕ)
      (words : List ℕ) (at : Places)
      → Channels code page_words encode place cell words (with_hold at_rest (Locked 100 4) ∷ []) (region_start code) at → ⊥
  pub other_capacity : (code : Code) (page_words : ℕ) (encode : Value → ℕ) (place : ℕ → ℕ) (cell : ℕ → ℕ → ℕ)
      (words : List ℕ) (recs : List ChannelRec) (s : RegionState) (at : Places) → On s 0 ring → slice_index words (place 0 + 1) ≡ 4
      → Channels code page_words encode place cell words recs s at → ⊥
  pub other_lock : (code : Code) (page_words : ℕ) (encode : Value → ℕ) (place : ℕ → ℕ) (cell : ℕ → ℕ → ℕ)
      (words : List ℕ) (recs : List ChannelRec) (s : RegionState) (at : Places) → On s 0 ring → slice_index words (place 0) ≡ 9
      → at.lock 0 ≡ Unlocked
      → Channels code page_words encode place cell words recs s at → ⊥
  pub other_row : (code : Code) (encode : Value → ℕ) (place : ℕ → ℕ) (cell : ℕ → ℕ → ℕ)
      (words : List ℕ) (recs : List ChannelRec) (s : RegionState) (at : Places) → On s 0 ring → cell 0 1 ≡ place 0 + 4
      → Channels code 256 encode place cell words recs s at → ⊥
  -- a record cannot have found a cell after the last
  pub other_cell : (code : Code) (page_words : ℕ) (encode : Value → ℕ) (place : ℕ → ℕ) (cell : ℕ → ℕ → ℕ)
      (words : List ℕ) (s : RegionState) (at : Places) → ((o : ℕ) (k : Chan) → On s o k → k ≡ spread_buffer)
      → Channels code page_words encode place cell words (with_reach at_rest 100 5 12 ∷ []) s at → ⊥
  -- ---- positions
  pub begins : place_at three_pages long_places 0 ≡ 106
  pub first_cell : cell_place three_pages long_places 0 0 ≡ 106 + 8
  pub fifth_place : cell_place three_pages long_places 0 4 ≡ 106 + 4
  pub not_in_row : cell_place three_pages long_places 0 0 ≡ 106 + 2 → ⊥
  -- without a channel any positions will do; a channel has no cell in a table without words
  pub no_words : (code : Code) (z : TableSizes) (words : List ℕ) (places : Where) → Layout z words (region_start code) places
  pub no_table : (z : TableSizes) (s : RegionState) (places : Where) → On s 0 ring → Layout z [] s places → ⊥
  pub agrees : (T : Moment) (z : TableSizes) (recs : List MemoryRec) (places : Where) → StateImage z T.words recs T.state places
      → ((o : ℕ) (k : Chan) → On T.state o k → ⊥) → PositionsAgree T z recs places
  pub one_off : (T : Moment) (z : TableSizes) (recs : List MemoryRec) (places : Where) → On T.state 0 ring
      → T.place 0 ≡ place_at z places 0 + 1 → PositionsAgree T z recs places → ⊥
  -- ---- operations
  pub of_channel : IsOfChannel action.Recv
  pub of_none : IsOfChannel action.Len → ⊥
