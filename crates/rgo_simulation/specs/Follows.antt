-- When one machine follows another: from goroutines that match, the higher one moves by itself for a while, and then both
-- do the same. It is about one goroutine of each machine; what several do to each other is the same for both machines, so it follows.
use Rattle.std.specs.Prelude.{◌≡◌, ◌<◌, ◌⊎◌, ℕ, List, [], ◌∷◌, length, Option}
use Rattle.rgo_memory.specs.declared.values.Value.{Value}
use Rattle.rgo_memory.specs.Memory.{Memory}
use Rattle.rgo_machine.specs.Machines.{Machine, Act, Moves, Returns, Prints, Traps}
use Rattle.rgo_machine.specs.Machines.{Stand, AtReceive, AtSend, AtClose, AtCall, AtStart, Elsewhere}

-- `Matched` relates the frames of a goroutine of the higher machine to those of one of the lower machine.
module _ {F G : Type 0} (high : Machine F) (low : Machine G) (Matched : List F → List G → Type 0) where
  -- goroutines that match after a return to these callers, if there are any
  abbrev pub ReturnAlike : Option Value → List F → List G → Type 0
  ReturnAlike v [] [] = Matched [] []
  ReturnAlike v (f ∷ callers) (g ∷ lows) = Matched (high.resume f v ∷ callers) (low.resume g v ∷ lows)
  ReturnAlike v _ _ = ⊥

  -- `callers` and `lows` are the frames below those that act
  module _ (callers : List F) (lows : List G) where
    abbrev pub ActAlike : Act F → Act G → Type 0
    ActAlike (Moves m f) (Moves n g) = (n ≡ m) × Matched (f ∷ callers) (g ∷ lows)
    ActAlike (Returns v) (Returns w) = (w ≡ v) × ReturnAlike v callers lows
    ActAlike (Prints f bytes) (Prints g others) = (others ≡ bytes) × Matched (f ∷ callers) (g ∷ lows)
    ActAlike (Traps trap place) (Traps other at) = (other ≡ trap) × (at ≡ place)
    ActAlike _ _ = ⊥

    -- Both are before the same, and match after it, whatever value a receive returns: which one depends on other goroutines.
    abbrev pub StandAlike : Stand F → Stand G → Type 0
    StandAlike (AtReceive c blank k) (AtReceive d other l) =
        (d ≡ c) × (other ≡ blank) × ((v : Value) → Matched (k v ∷ callers) (l v ∷ lows))
    StandAlike (AtSend c v place k) (AtSend d w at l) =
        (d ≡ c) × (w ≡ v) × (at ≡ place) × Matched (k ∷ callers) (l ∷ lows)
    StandAlike (AtClose c place k) (AtClose d at l) = (d ≡ c) × (at ≡ place) × Matched (k ∷ callers) (l ∷ lows)
    StandAlike (AtCall k callee) (AtCall l other) = Matched (callee ∷ k ∷ callers) (other ∷ l ∷ lows)
    StandAlike (AtStart k child) (AtStart l other) =
        Matched (k ∷ callers) (l ∷ lows) × Matched (child ∷ []) (other ∷ [])
    StandAlike Elsewhere Elsewhere = Unit {0}
    StandAlike _ _ = ⊥

    -- both frames do the same
    pub record Together (f : F) (g : G) : Type 0 where
      pub stands : StandAlike (high.stand f) (low.stand g)
      pub acts : high.stand f ≡ Elsewhere → (m : Memory) → ActAlike (high.act m f) (low.act m g)

    -- The higher frame moves by itself, over any memory, and gets smaller: without that it could move for ever, and
    -- the lower machine's step would have no match. It leaves the memory as it is, so no other goroutine can see that it
    -- moved.
    pub record Stutters (size : F → ℕ) (f : F) (g : G) : Type 0 where
      pub next : F
      pub elsewhere : high.stand f ≡ Elsewhere
      pub moves : (m : Memory) → high.act m f ≡ Moves m next
      pub matched : Matched (next ∷ callers) (g ∷ lows)
      pub smaller : size next < size f

  pub record Follows (size : F → ℕ) : Type 0 where
    pub step : (f : F) (callers : List F) (g : G) (lows : List G) → Matched (f ∷ callers) (g ∷ lows)
        → Stutters callers lows size f g ⊎ Together callers lows f g
    -- goroutines that match have as many frames, so that both meet the limit on calls at the same time
    pub depth : (fs : List F) (gs : List G) → Matched fs gs → length gs ≡ length fs
