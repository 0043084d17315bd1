-- Where cells are, and sends and receives that reach them: of a channel that fits a page, and of a spread one.
use Rattle.std.specs.Prelude.{◌≡◌, ◌+◌, ℕ, List, [], ◌∷◌, ◌++◌}
use Rattle.rgo_sound.specs.Code.Code.{Code}
use Rattle.rgo_sound.specs.Machine.declared.limits.Limits.{Limits}
use Rattle.rgo_sound.specs.Machine.declared.limits.Sizes.{Sizes}
use Rattle.rgo_core.specs.examples.Channels.{sending}
use Rattle.rgo_core.specs.Core.{Setup, layout}
use Rattle.rgo_core.specs.Memory.Words.{cell_at}
use Rattle.rgo_core.specs.Records.{Record}
use Rattle.rgo_core.specs.Rule.Histories.{access}
use Rattle.rgo_core.specs.Rule.Views.{Me, view}
use Rattle.rgo_core.specs.Rule.declared.accesses.Access.{Access}
use Rattle.rgo_core.specs.Rule.declared.accesses.Kind.TheVariants.{LoadIndex}
use Rattle.rgo_core_steps.specs.After.{committing}
use Rattle.rgo_core_steps.specs.Calls.{accessing}
use Rattle.rgo_core_steps.specs.ChannelExamples.{the_receive}
use Rattle.rgo_core_steps.specs.MemoryExamples.{doing_setup}
use Rattle.rgo_chan.specs.Answers.{Receives, Sends, cell_word, commits, loads_cell, locks, looks, numbers, reaches, stores_cell}
use Rattle.rgo_chan.specs.Examples.{before_a_send, first_seat}
use Rattle.rgo_chan.specs.declared.answers.Tried.TheVariants.{Done}

-- pages of four words: a channel of two cells fits one, and the cells of a channel of six lie in two
abbrev pub fours : Sizes
fours = record { page_words = 4; pages = 20; regions = 1 }

abbrev pub send_in_fours : Limits → Setup
send_in_fours limits = sending fours limits

abbrev pub receive_in_fours : Limits → Setup
receive_in_fours limits = doing_setup the_receive fours limits

-- the number of page 9 is found in the first word after the capacity
abbrev pub page_nine : Access
page_nine = access 0 LoadIndex 702 10 10

-- Goroutine 0 sends 3 on a channel of this capacity, in which it found one value. It stores to this word, after these accesses.
abbrev pub sends_to : (size : ℕ) → List Access → (word : ℕ) → List Access
sends_to size reach word = looks 700 size 4 0 ++ locks 700 4 0 ∷ reach ++ stores_cell word 0 3 0 ∷ commits 700 5 8 0 ∷ []

-- It receives 9, the one value.
abbrev pub receives_from : (size : ℕ) → List Access → (word control : ℕ) → List Access
receives_from size reach word control =
    looks 700 size 4 0 ++ locks 700 4 0 ∷ reach ++ loads_cell word 9 0 ∷ commits 700 5 control 0 ∷ []

-- the seat after these accesses, of which k were before the commit
abbrev pub done_seat : Code → (k word : ℕ) → List Access → Me Record
done_seat code k word es = (view ((0, committing code (accessing k before_a_send) word) ∷ []) es, [])

pub record CellExamples (limits : Limits) : Type 0 where
  pub one_number : numbers (send_in_fours limits) 6 ≡ 1
  pub no_number : numbers (send_in_fours limits) 2 ≡ 0
  pub first_page : reaches (send_in_fours limits) 700 6 3 10 0 ≡ page_nine ∷ []
  pub second_page : reaches (send_in_fours limits) 700 6 4 10 0 ≡ access 0 LoadIndex 703 10 10 ∷ []
  pub at_once : reaches (send_in_fours limits) 700 2 1 10 0 ≡ []
  pub in_page : cell_word (send_in_fours limits) 700 6 5 10 ≡ cell_at (layout (send_in_fours limits)) 9 1
  pub after_capacity : cell_word (send_in_fours limits) 700 2 1 10 ≡ 703
  pub not_after_capacity : cell_word (send_in_fours limits) 700 6 5 10 ≡ 707 → ⊥
  pub not_in_next_page : cell_word (send_in_fours limits) 700 6 5 10 ≡ cell_at (layout (send_in_fours limits)) 10 1 → ⊥
  -- ---- cell 1 is the free one
  pub sent : (let T = send_in_fours limits in
      Sends T 700 before_a_send 3 (Done 0) (first_seat before_a_send) 5 (done_seat T.code 4 0 (sends_to 2 [] 703)) 10)
  pub sent_spread : (let T = send_in_fours limits in
      Sends T 700 before_a_send 3 (Done 0) (first_seat before_a_send) 5
      (done_seat T.code 5 0 (sends_to 6 (page_nine ∷ []) (cell_at (layout T) 9 1))) 11)
  -- without the number of its page
  pub not_reached : (let T = send_in_fours limits in
      Sends T 700 before_a_send 3 (Done 0) (first_seat before_a_send) 5 (done_seat T.code 4 0 (sends_to 6 [] 703)) 10 → ⊥)
  -- in the page after that
  pub one_page_off : (let T = send_in_fours limits in
      Sends T 700 before_a_send 3 (Done 0) (first_seat before_a_send) 5
      (done_seat T.code 5 0 (sends_to 6 (page_nine ∷ []) (cell_at (layout T) 10 1))) 11 → ⊥)
  -- ---- cell 0 has the value
  pub received : (let T = receive_in_fours limits in
      Receives T 700 before_a_send (Done 9) (first_seat before_a_send) 5 (done_seat T.code 4 9 (receives_from 2 [] 702 4294967296)) 10)
  pub received_spread : (let T = receive_in_fours limits in
      Receives T 700 before_a_send (Done 9) (first_seat before_a_send) 5
      (done_seat T.code 5 9 (receives_from 6 (page_nine ∷ []) (cell_at (layout T) 9 0) 4294967296)) 11)
