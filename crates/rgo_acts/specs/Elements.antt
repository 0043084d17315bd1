-- Accesses to elements of slices, before which the length is loaded, and to fields. If the object is spread, the number of the data page is
-- loaded, too. The record must know what was loaded: without it the table's rule would not allow the access.
use Rattle.std.specs.Prelude.{◌≡◌, ◌⊎◌, ◌<◌, ℕ, suc, List, [], ◌∷◌, Some, None}
use Rattle.rgo_core.specs.Frames.shown.WordFrames.{frame_word}
use Rattle.rgo_core.specs.moves.Cells.{IsElementAt, IsInSlice, IsLocated}
use Rattle.rgo_core.specs.moves.ElementTraps.{HasNoElement}
use Rattle.rgo_core.specs.Records.{steps_of}
use Rattle.rgo_core_steps.specs.Accesses.{Loads, Stores}
use Rattle.rgo_sound.specs.Tac.Code.{Do, Op}
use Rattle.rgo_sound.specs.Tac.Ops.{operation_of}
use Rattle.rgo_sound.specs.Typed.declared.actions.Action.TheVariants as action
use Rattle.rgo_body.specs.declared.nexts.Next.{Next}
use Rattle.rgo_acts.specs.Actors.{ActorActed, now}
use Rattle.rgo_acts.specs.Ready.{ActorIsBefore}
use Rattle.rgo_acts.specs.Runs.{Run}
use Rattle.rgo_acts.specs.declared.actors.Actor.{Actor}

-- the goroutine is before its instruction as it was, and has loaded at most what shows where the word is
pub record HasMeasured (r : Run) (a b : Actor) (next : Next) : Type 0 where
  pub before : ActorIsBefore r b next
  pub acted : ActorActed r a b 0 [] []
  pub body : b.body ≡ a.body

-- ---- spread objects

-- this cell of the spread object at this address lies in this word of the table; a length that was read before is still known
pub record HasLocated (r : Run) (a b : Actor) (next : Next) (address cell word : ℕ) : Type 0 where
  pub measured : HasMeasured r a b next
  pub located : IsLocated r.setup (now r.setup b) address cell word
  pub lengths : (now r.setup b).memory.measured ≡ (now r.setup a).memory.measured
  pub steps : steps_of (now r.setup b) ≡ steps_of (now r.setup a)
  pub inside : word < r.table.words

-- ---- elements

-- an instruction on an element of the slice in variable p, whose index is in variable q
abbrev pub IsElementAccess : Op → (p q : ℕ) → Type 0
IsElementAccess op p q = ((to : ℕ) × (op ≡ Do (Some to) action.At (p ∷ q ∷ [])))
    ⊎ ((r : ℕ) × (op ≡ Do None action.Put (p ∷ q ∷ r ∷ [])))

-- the slice has the element, which lies in this word of the table
pub record ActorHasElement (r : Run) (a b : Actor) (next : Next) (p q word : ℕ) : Type 0 where
  pub measured : HasMeasured r a b next
  pub address : ℕ
  pub points : (w : _) (ws : List _) → (now r.setup b).frame.frames ≡ w ∷ ws → frame_word w p ≡ suc address
  pub within : (w : _) (ws : List _) → (now r.setup b).frame.frames ≡ w ∷ ws
      → (inside : IsInSlice (now r.setup b) address (frame_word w q))
      × IsElementAt r.setup (now r.setup b) address (frame_word w q) inside word
  pub inside : word < r.table.words

-- it has not
pub record HasNoElementHere (r : Run) (a b : Actor) (next : Next) (p q : ℕ) : Type 0 where
  pub measured : HasMeasured r a b next
  pub none : (w : _) (ws : List _) → (now r.setup b).frame.frames ≡ w ∷ ws → HasNoElement (now r.setup b) w p q

-- ---- fields

-- an instruction on field k of the struct to which variable p points
abbrev pub IsAtFieldOf : Op → (p k : ℕ) → Type 0
IsAtFieldOf op p k = ((to : ℕ) × (op ≡ Do (Some to) (action.Load k) (p ∷ [])))
    ⊎ ((q : ℕ) × (op ≡ Do None (action.Store k) (p ∷ q ∷ [])))

-- the field lies in this word of the table, which the instruction loads or stores
pub record HasFieldHere (r : Run) (a b : Actor) (next : Next) (p k word : ℕ) : Type 0 where
  pub measured : HasMeasured r a b next
  pub loads : (to : ℕ) → operation_of next.op ≡ Do (Some to) (action.Load k) (p ∷ []) → Loads r.setup (now r.setup b) word
  pub stores : (q value : ℕ) → operation_of next.op ≡ Do None (action.Store k) (p ∷ q ∷ [])
      → ((w : _) (ws : List _) → (now r.setup b).frame.frames ≡ w ∷ ws → value ≡ frame_word w q)
      → Stores r.setup (now r.setup b) word value
  pub inside : word < r.table.words
