-- The first words of a table, and that they are the image of the region machine's first state.
use Rattle.std.specs.Prelude.{ℕ, ◌≤◌, List, [], ◌∷◌, length, replicate, None, slice_set}
use Rattle.rgo_sound.specs.Code.Code.{Code}
use Rattle.rgo_sound.specs.RegionMachine.Machine.{region_start}
use Rattle.rgo_core_memory.specs.declared.layout.TableSizes.{TableSizes}
use Rattle.rgo_core_memory.specs.Words.{all_words, count_at, made_at}
use Rattle.rgo_core_memory.specs.Records.{Rec, Rest, Idle, Calm}
use Rattle.rgo_core_memory.specs.Image.{Where, StateImage}
use Rattle.rgo_core_memory.specs.Pages.{Free}
use Rattle.rgo_core_memory.specs.Parts.{Vacant}

-- No ticket is drawn, `main` is counted, no page is claimed, no slot is in use. Global's count is 2, a stake that never ends, so that
-- its chain is never returned.
abbrev pub first_words : TableSizes → List ℕ
first_words z = slice_set (slice_set (replicate (all_words z) 0) made_at 1) (count_at z z.slots) 2

abbrev pub first_record : Rec
first_record = record {
  fills = [];
  reserved = record { slot = 0; pages = [] };
  make = Rest;
  claim = Idle;
  give = Calm;
  tried_pages = [];
  tried_slots = [];
  measured = None;
  located = None;
}

-- no region, no object, and each page is free
abbrev pub nowhere : Where
nowhere = record {
  slot = λ k. 0;
  uses = λ s. Vacant;
  spot = λ o i. record { page = 0; offset = 0 };
  start = λ o. record { page = 0; offset = 0 };
  at = λ p. Free;
  chain = λ r. [];
  link = λ p. 0;
  top = λ r. 0;
  page = λ n. 0;
}

abbrev pub Opens : Type 0
Opens = (code : Code) (z : TableSizes) → length code.variables ≤ z.variables
    → StateImage z (first_words z) (first_record ∷ []) (region_start code) nowhere
