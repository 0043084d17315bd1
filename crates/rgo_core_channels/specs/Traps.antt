-- Traps at channels: a send on a closed channel, and a close of one that is closed or nil. No word of a channel changes: the trap itself
-- is an access to the clock. That the channel was found closed may be long ago, since it stays closed.
use Rattle.std.specs.Prelude.{◌≡◌, ◌⊎◌, ℕ, [], ◌∷◌}
use Rattle.rgo_sound.specs.Typed.declared.actions.Action.TheVariants.{Send, Close}
use Rattle.rgo_sound.specs.Memory.declared.traps.Trap.TheVariants.{SendClosed, CloseClosed, CloseNil}
use Rattle.rgo_sound.specs.Memory.declared.values.Value.{Value}
use Rattle.rgo_sound.specs.Memory.declared.values.Value.TheVariants as value
use Rattle.rgo_core_channels.specs.Moments.{Law, GoroutineTraps}
use Rattle.rgo_core_channels.specs.Records.{Nowhere, Shut, Stranded}
use Rattle.rgo_core_channels.specs.Standing.{Next}

-- a send on a channel that was found closed, or a send whose offer was not taken before the close
abbrev pub SendTrapLaw : Type 0
SendTrapLaw = Law (λ T g c. (o : ℕ) (v : Value) (next : Next T.code T.state g Send (value.Object o ∷ v ∷ []))
    → ((c.post ≡ Nowhere) × (c.saw ≡ Shut (T.place o))) ⊎ (c.saw ≡ Stranded (T.place o))
    → GoroutineTraps T g SendClosed next.before.instr.place)

-- a close of a channel that was found closed
abbrev pub CloseTrapLaw : Type 0
CloseTrapLaw = Law (λ T g c. (o : ℕ) (next : Next T.code T.state g Close (value.Object o ∷ [])) → c.post ≡ Nowhere
    → c.saw ≡ Shut (T.place o) → GoroutineTraps T g CloseClosed next.before.instr.place)

-- a close of nil
abbrev pub CloseNilLaw : Type 0
CloseNilLaw = Law (λ T g c. (next : Next T.code T.state g Close (value.Nil ∷ [])) → c.post ≡ Nowhere
    → GoroutineTraps T g CloseNil next.before.instr.place)
