-- Controls that let an operation take effect, records before an operation, and results; and some that are not.
use Rattle.std.specs.Prelude.{◌+◌, ℕ, [], ◌∷◌}
use Rattle.rgo_core.specs.examples.Channels.{sending, with_words}
use Rattle.rgo_core.specs.Core.{Setup, layout}
use Rattle.rgo_core.specs.Records.{Record}
use Rattle.rgo_core.specs.Channels.Records.{ChannelRec as SideRec, at_rest, offering_record, with_look, with_own_look}
use Rattle.rgo_core.specs.Memory.Words.{base}
use Rattle.rgo_core.specs.Rule.Views.{Me, view}
use Rattle.rgo_core_steps.specs.Calls.{waited}
use Rattle.rgo_sound.specs.Machine.declared.limits.Limits.{Limits}
use Rattle.rgo_sound.specs.Machine.declared.limits.Sizes.{Sizes}
use Rattle.rgo_chan.specs.Answers.{Acknowledges, Closes, Receives, Sends, loads_control, looked, looks}
use Rattle.rgo_chan.specs.Before.{IsBeforeReceive, IsBeforeSend, LiesIn, SendsAt}
use Rattle.rgo_chan.specs.Ready.{HasNoOffer, HasOffer, BufferHasRoom, HasValue, IsClosed, IsDrained, IsEmpty, IsBufferFull, IsOpen, IsUnlocked}
use Rattle.rgo_chan.specs.declared.answers.Tried.TheVariants.{Busy, Done, NotReady, Trap}

-- before a send of 3 on the channel with address 5, and on nil
abbrev pub before_a_send : Record
before_a_send = with_words (6 ∷ 3 ∷ [])

abbrev pub on_nil : Record
on_nil = with_words (0 ∷ 3 ∷ [])

-- a seat with this record of `main`, which has seen nothing
abbrev pub first_seat : Record → Me Record
first_seat c = (view ((0, c) ∷ []) [], [])

-- the seat after a load of the capacity 2 and of this control at word 700
abbrev pub looked_seat : Record → (control : ℕ) → Me Record
looked_seat c n = (view ((0, waited 2 c (looked 700 c.side 2 n)) ∷ []) (looks 700 2 n 0), [])

-- the same after a load of this control alone, after which it knows this of channels
abbrev pub loaded_seat : Record → SideRec → (control : ℕ) → Me Record
loaded_seat c side n = (view ((0, waited 1 c side) ∷ []) (loads_control 700 n 0 ∷ []), [])

-- with an offer at the channel
abbrev pub with_offer : Record
with_offer = record before_a_send { side = offering_record 700 }

pub record ReadyExamples : Type 0 where
  pub unlocked : IsUnlocked 4
  pub locked : IsUnlocked 5 → ⊥
  pub is_open : IsOpen 4
  pub not_open : IsOpen 6 → ⊥
  pub closed : IsClosed 6
  pub room : BufferHasRoom 2 4
  pub no_room : BufferHasRoom 2 8 → ⊥
  pub full : IsBufferFull 2 8
  pub not_full : IsBufferFull 2 4 → ⊥
  pub offered_before : IsBufferFull 0 4
  pub no_offer : HasNoOffer 0 0
  pub an_offer : HasNoOffer 0 4 → ⊥
  -- a closed channel may have values
  pub value : HasValue 2 6
  pub no_value : HasValue 2 2 → ⊥
  pub offer : HasOffer 0 4
  pub taken : HasOffer 0 8 → ⊥
  pub drained : IsDrained 2 2
  pub not_drained : IsDrained 2 6 → ⊥
  pub empty : IsEmpty 2 0
  pub nothing_to_take : IsEmpty 0 8
  pub not_empty : IsEmpty 0 4 → ⊥
  pub not_waiting : IsEmpty 2 2 → ⊥

pub record AnswerExamples : Type 0 where
  pub sends : (sizes : Sizes) (limits : Limits) → IsBeforeSend (sending sizes limits) before_a_send 6 3
  pub sends_another : (sizes : Sizes) (limits : Limits) → IsBeforeSend (sending sizes limits) before_a_send 6 4 → ⊥
  pub sends_on_nil : (sizes : Sizes) (limits : Limits) → IsBeforeSend (sending sizes limits) on_nil 0 3
  pub receives : (sizes : Sizes) (limits : Limits) → IsBeforeReceive (sending sizes limits) before_a_send 6 → ⊥
  pub sends_there : (sizes : Sizes) (limits : Limits) → SendsAt (sending sizes limits) before_a_send (base (layout (sending sizes limits)) + 5) 3
  pub nil_lies : (T : Setup) (base : ℕ) → LiesIn T base 0
  -- the control was found to be 8: two values
  pub not_ready : (T : Setup) → Sends T 700 before_a_send 3 NotReady (first_seat before_a_send) 5 (looked_seat before_a_send 8) 7
  -- the accesses were not counted
  pub uncounted : (T : Setup) → Sends T 700 before_a_send 3 NotReady (first_seat before_a_send) 5 (looked_seat before_a_send 8) 5 → ⊥
  -- there is one value only
  pub ready : (T : Setup) → Sends T 700 before_a_send 3 NotReady (first_seat before_a_send) 5 (looked_seat before_a_send 4) 7 → ⊥
  -- nothing was stored
  pub not_done : (T : Setup) → Sends T 700 before_a_send 3 (Done 0) (first_seat before_a_send) 5 (looked_seat before_a_send 4) 7 → ⊥
  -- the control was found to be 9: it is locked
  pub busy : (T : Setup) → Sends T 700 before_a_send 3 (Busy 9) (first_seat before_a_send) 5 (looked_seat before_a_send 9) 7
  pub found_another : (T : Setup) → Sends T 700 before_a_send 3 (Busy 11) (first_seat before_a_send) 5 (looked_seat before_a_send 9) 7 → ⊥
  -- a receive ends no run
  pub no_trap : (T : Setup) (e : ℕ) → Receives T 700 before_a_send (Trap e) (first_seat before_a_send) 5 (looked_seat before_a_send 2) 7 → ⊥
  -- ---- closes
  pub close_busy : (T : Setup) → Closes T 700 before_a_send (Busy 5) (first_seat before_a_send) 5 (loaded_seat before_a_send at_rest 5) 6
  pub closed_before : (T : Setup) → Closes T 700 before_a_send (Trap 6) (first_seat before_a_send) 5 (loaded_seat before_a_send (with_look at_rest 700 2) 2) 6
  -- it is open
  pub not_closed_before : (T : Setup) → Closes T 700 before_a_send (Trap 6) (first_seat before_a_send) 5 (loaded_seat before_a_send at_rest 4) 6 → ⊥
  -- nothing was stored
  pub not_closed : (T : Setup) → Closes T 700 before_a_send (Done 0) (first_seat before_a_send) 5 (loaded_seat before_a_send at_rest 4) 6 → ⊥
  -- a close never waits for another goroutine's operation
  pub no_wait : (T : Setup) (m w : Me Record) (s t : ℕ) → Closes T 700 before_a_send NotReady m s w t → ⊥
  -- ---- acknowledgements
  pub not_taken : (T : Setup) → Acknowledges T 700 with_offer NotReady (first_seat with_offer) 5 (loaded_seat with_offer (offering_record 700) 4) 6
  -- the offer was taken
  pub taken : (T : Setup) → Acknowledges T 700 with_offer NotReady (first_seat with_offer) 5 (loaded_seat with_offer (offering_record 700) 8) 6 → ⊥
  -- the channel was closed with the offer
  pub stranded : (T : Setup) → Acknowledges T 700 with_offer (Trap 5) (first_seat with_offer) 5
      (loaded_seat with_offer (with_own_look (offering_record 700) 700 6) 6) 6
  -- it is open
  pub not_stranded : (T : Setup) → Acknowledges T 700 with_offer (Trap 5) (first_seat with_offer) 5 (loaded_seat with_offer (offering_record 700) 4) 6 → ⊥
  pub not_acknowledged : (T : Setup) → Acknowledges T 700 with_offer (Done 0) (first_seat with_offer) 5
      (loaded_seat with_offer (offering_record 700) 8) 6 → ⊥
