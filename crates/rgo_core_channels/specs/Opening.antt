-- At the start no channel exists, and the first goroutine's record knows nothing of channels. So the image is empty.
use Rattle.std.specs.Prelude.{ℕ, List, [], ◌∷◌}
use Rattle.rgo_sound.specs.Memory.declared.values.Value.{Value}
use Rattle.rgo_sound.specs.Code.Code.{Code}
use Rattle.rgo_sound.specs.RegionMachine.Machine.{region_start}
use Rattle.rgo_core_channels.specs.Channels.{Channels, Places}
use Rattle.rgo_core_channels.specs.Records.{at_rest}

-- it holds whatever the words are
abbrev pub ChannelsOpen : Type 0
ChannelsOpen = (code : Code) (page_words : ℕ) (encode : Value → ℕ) (place : ℕ → ℕ) (cell : ℕ → ℕ → ℕ)
    (words : List ℕ) (at : Places)
    → Channels code page_words encode place cell words (at_rest ∷ []) (region_start code) at
