-- Records of goroutines that are at a channel, and of such as are not.
use Rattle.std.specs.Prelude.{ℕ, [], ◌∷◌, None, ◌+◌, List}
use Rattle.rgo_sound.specs.Code.Code.{Do}
use Rattle.rgo_core_channels.specs.Records.{offering_record}
use Rattle.rgo_core_frames.specs.goroutines.Opening.{no_record}
use Rattle.rgo_core_memory.specs.Words.{base}
use Rattle.rgo_sound.specs.Machine.declared.limits.Limits.{Limits}
use Rattle.rgo_sound.specs.Machine.declared.limits.Sizes.{Sizes}
use Rattle.rgo_sound.specs.RegionMachine.Examples.{small_code, int_slot, main_of, plain_instr}
use Rattle.rgo_sound.specs.Typed.declared.actions.Action.TheVariants.{Send}
use Rattle.rgo_core.specs.ties.AtChannels.{IsAtChannel, Operates}
use Rattle.rgo_core.specs.moves.Commits.{IsAtSend}
use Rattle.rgo_core.specs.Core.{Setup, layout}
use Rattle.rgo_core.specs.Records.{Record, begins_with}

-- `main` of this code sends variable 1 on variable 0
abbrev pub sending : Sizes → Limits → Setup
sending sizes limits = record {
  code = small_code [] (main_of (int_slot ∷ int_slot ∷ []) (plain_instr (Do None Send (0 ∷ 1 ∷ []) []) ∷ []) ∷ []);
  sizes = sizes;
  limits = limits;
}

-- before that, with these words in its variables
abbrev pub with_words : List ℕ → Record
with_words words = begins_with (record no_record {
  frames = record { function = 0; next = 0; variables = words } ∷ [];
})

-- without a frame, with an offer at the channel whose control is word 700
abbrev pub offered_record : Record
offered_record = record (begins_with no_record) { side = offering_record 700 }

pub record AtChannelExamples : Type 0 where
  pub operates : (sizes : Sizes) (limits : Limits) → Operates (sending sizes limits) (with_words (6 ∷ 3 ∷ [])) None Send (1 ∷ [])
      (base (layout (sending sizes limits)) + 5)
  pub at_channel : (sizes : Sizes) (limits : Limits) → IsAtChannel (sending sizes limits) (with_words (6 ∷ 3 ∷ []))
      (base (layout (sending sizes limits)) + 5)
  pub at_nil : (sizes : Sizes) (limits : Limits) (control : ℕ) → Operates (sending sizes limits) (with_words (0 ∷ 3 ∷ [])) None Send
      (1 ∷ []) control → ⊥
  pub sends : (sizes : Sizes) (limits : Limits) → IsAtSend (sending sizes limits) (with_words (6 ∷ 3 ∷ []))
  pub offers : (T : Setup) → IsAtChannel T offered_record 700
  pub elsewhere : (T : Setup) → IsAtChannel T offered_record 701 → ⊥
  pub returned : (T : Setup) (control : ℕ) → IsAtChannel T (begins_with no_record) control → ⊥
  pub sends_nothing : (T : Setup) → IsAtSend T (begins_with no_record) → ⊥
