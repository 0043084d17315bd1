-- What each access to a channel requires: records that may make it, and some that may not.
use Rattle.std.specs.Prelude.{◌+◌, ℕ, [], ◌∷◌, None, Some}
use Rattle.rgo_sound.specs.Code.Code.{CodeOp, Do}
use Rattle.rgo_core.specs.Channels.Records.{Free, Hold, Locked, Read, Sized, Wrote, at_rest, offering_record, with_reach}
use Rattle.rgo_core.specs.Memory.Words.{base, cell_at}
use Rattle.rgo_sound.specs.Machine.declared.limits.Limits.{Limits}
use Rattle.rgo_sound.specs.Machine.declared.limits.Sizes.{Sizes}
use Rattle.rgo_sound.specs.Typed.declared.actions.Action.TheVariants.{Close, Recv, Send}
use Rattle.rgo_core.specs.ties.AtChannels.{knows}
use Rattle.rgo_core.specs.examples.Channels.{with_words}
use Rattle.rgo_core.specs.Core.{Setup, layout}
use Rattle.rgo_core.specs.Records.{Record}
use Rattle.rgo_core_steps.specs.Channels.{CanAcknowledge, CanClose, CanLoadCell, RecordCanMeet, CanOffer, CanReachCell, CanReceive, CanReceiveZero, CanSend, CanStoreCell, ShowsPage}
use Rattle.rgo_core_steps.specs.MemoryExamples.{doing_setup}
use Rattle.rgo_core_steps.specs.SpreadExamples.{eight}

-- a send of variable 1 on variable 0, a receive from that, a close of it
abbrev pub the_send : CodeOp
the_send = Do None Send (0 ∷ 1 ∷ []) []

abbrev pub the_receive : CodeOp
the_receive = Do (Some 1) Recv (0 ∷ []) []

abbrev pub the_close : CodeOp
the_close = Do None Close (0 ∷ []) []

-- the control of the channel with address 5
abbrev pub control_in : Setup → ℕ
control_in T = base (layout T) + 5

-- before that instruction, on this channel and the value 3, with what the goroutine has of the channel, whose capacity it knows
abbrev pub at_work : (at : ℕ) → Hold → (capacity : ℕ) → Record
at_work at hold capacity = record (with_words (6 ∷ 3 ∷ [])) { side = record at_rest { hold = hold; size = Sized at capacity } }

-- the same with its own offer at the channel, which it has locked
abbrev pub offering_at : (at found : ℕ) → Record
offering_at at n = record (with_words (6 ∷ 3 ∷ [])) { side = record (offering_record at) { hold = Locked at n } }

-- after it has found this cell of the channel there
abbrev pub reached : Record → (at cell word : ℕ) → Record
reached c at i w = knows c (with_reach c.side at i w)

-- a channel with nine cells is locked, and cell 8 was found at this word
abbrev pub reaching : (word : ℕ) → Record
reaching w = reached (at_work 700 (Locked 700 4) 9) 700 8 w

-- A control of 4 shows one value, 8 two; with 2 added the channel is closed. Without a buffer 4 is an offer, and 8 one that was taken.
pub record ChannelAccessExamples : Type 0 where
  pub loads : (limits : Limits) → CanLoadCell (doing_setup the_receive eight limits) (at_work 700 (Locked 700 8) 2) 700 1 703
  pub no_third : (T : Setup) (word : ℕ) → CanLoadCell T (at_work 700 (Locked 700 8) 2) 700 2 word → ⊥
  pub unlocked : (T : Setup) (word : ℕ) → CanLoadCell T (at_work 700 Free 2) 700 0 word → ⊥
  -- another cell's word
  pub misplaced : (T : Setup) → CanLoadCell T (at_work 700 (Locked 700 8) 2) 700 1 702 → ⊥
  pub stores : (limits : Limits) → CanStoreCell (doing_setup the_send eight limits) (at_work 700 (Locked 700 4) 2) 700 1 703
  -- the cell has the value
  pub used : (T : Setup) (word : ℕ) → CanStoreCell T (at_work 700 (Locked 700 4) 2) 700 0 word → ⊥
  -- a channel with nine cells does not fit a page of eight words; one with two does, and has no third
  pub reaches : (limits : Limits) → CanReachCell (doing_setup the_receive eight limits) (at_work 700 Free 9) 700 8
  pub no_page : (limits : Limits) (cell : ℕ) → CanReachCell (doing_setup the_receive eight limits) (at_work 700 Free 2) 700 cell → ⊥
  pub no_tenth : (T : Setup) → CanReachCell T (at_work 700 Free 9) 700 9 → ⊥
  -- the number of page 1, plus 1
  pub shows : (limits : Limits) → let T = doing_setup the_receive eight limits in
      ShowsPage T (at_work 700 Free 9) 700 8 2 (reached (at_work 700 Free 9) 700 8 (cell_at (layout T) 1 0))
  pub no_number : (T : Setup) (c : Record) (at cell : ℕ) (d : Record) → ShowsPage T c at cell 0 d → ⊥
  -- a page that does not exist
  pub no_such_page : (limits : Limits) (c : Record) (at cell : ℕ) (d : Record) → ShowsPage (doing_setup the_receive eight limits) c at cell 5 d → ⊥
  -- the cell is at this word, and nowhere else
  pub loads_apart : (limits : Limits) (word : ℕ) → CanLoadCell (doing_setup the_receive eight limits) (reaching word) 700 8 word
  pub unreached : (limits : Limits) (word : ℕ) → CanLoadCell (doing_setup the_receive eight limits) (at_work 700 (Locked 700 4) 9) 700 8 word → ⊥
  pub sends : (sizes : Sizes) (limits : Limits) → let T = doing_setup the_send sizes limits in
      CanSend T (at_work (control_in T) (Wrote (control_in T) 4 1 3) 2) (control_in T) 4
  -- the value was stored in another cell
  pub elsewhere : (T : Setup) (at : ℕ) → CanSend T (at_work at (Wrote at 4 0 3) 2) at 4 → ⊥
  pub full : (T : Setup) (at : ℕ) → CanSend T (at_work at (Wrote at 8 0 3) 2) at 8 → ⊥
  pub receives : (sizes : Sizes) (limits : Limits) → let T = doing_setup the_receive sizes limits in
      CanReceive T (at_work (control_in T) (Read (control_in T) 4 0 9) 2) (control_in T) 4 2
  pub empty : (T : Setup) (c : Record) (at size : ℕ) → CanReceive T c at 0 size → ⊥
  pub receives_zero : (sizes : Sizes) (limits : Limits) → let T = doing_setup the_receive sizes limits in
      CanReceiveZero T (at_work (control_in T) (Locked (control_in T) 2) 2) (control_in T) 2
  pub still_open : (T : Setup) (c : Record) (at : ℕ) → CanReceiveZero T c at 0 → ⊥
  -- a value is left
  pub left : (T : Setup) (at : ℕ) → CanReceiveZero T (at_work at (Locked at 6) 2) at 6 → ⊥
  pub closes : (sizes : Sizes) (limits : Limits) → let T = doing_setup the_close sizes limits in
      CanClose T (at_work (control_in T) (Locked (control_in T) 4) 2) (control_in T) 4
  pub closed : (T : Setup) (c : Record) (at : ℕ) → CanClose T c at 2 → ⊥
  pub offers : (sizes : Sizes) (limits : Limits) → let T = doing_setup the_send sizes limits in
      CanOffer T (at_work (control_in T) (Wrote (control_in T) 0 0 3) 0) (control_in T) 0
  -- another offer is there
  pub occupied : (T : Setup) (c : Record) (at : ℕ) → CanOffer T c at 4 → ⊥
  pub buffered : (T : Setup) (at : ℕ) → CanOffer T (at_work at (Wrote at 0 0 3) 2) at 0 → ⊥
  pub meets : (sizes : Sizes) (limits : Limits) → let T = doing_setup the_receive sizes limits in
      RecordCanMeet T (at_work (control_in T) (Read (control_in T) 4 0 9) 0) (control_in T) 4
  pub gone : (T : Setup) (c : Record) (at : ℕ) → RecordCanMeet T c at 8 → ⊥
  pub acknowledges : (sizes : Sizes) (limits : Limits) (at : ℕ) → CanAcknowledge (doing_setup the_send sizes limits) (offering_at at 8) at 8
  pub not_taken : (T : Setup) (c : Record) (at : ℕ) → CanAcknowledge T c at 4 → ⊥
  -- the offer is at another channel
  pub another : (T : Setup) → CanAcknowledge T (offering_at 700 8) 701 8 → ⊥
