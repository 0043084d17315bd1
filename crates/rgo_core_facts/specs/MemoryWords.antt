-- Where the words are that the next instruction of a goroutine accesses. A pointer, slice or channel that is not nil is one more than
-- an address, and the words from there on are words of pages. Words beyond those that the type guarantees are known to be in the
-- pages only after a length or a capacity was loaded.
use Rattle.std.specs.Prelude.{◌≡◌, ◌+◌, ◌/◌, ◌<◌, ◌≤◌, ℕ, suc, List, [], ◌∷◌, Option, Some, None, Contains, length, slice_get}
use Rattle.rgo_sound.specs.Code.Code.{CodeOp, Do}
use Rattle.rgo_sound.specs.Code.Erasure.{erased_fn, erased_op}
use Rattle.rgo_sound.specs.Code.Types.{VariableHasType}
use Rattle.rgo_sound.specs.Tac.Flow.{reads}
use Rattle.rgo_sound.specs.Typed.declared.actions.Action.{Action}
use Rattle.rgo_sound.specs.Typed.declared.actions.Action.TheVariants as action
use Rattle.rgo_sound.specs.Typed.declared.programs.Struct.{Struct}
use Rattle.rgo_sound.specs.Typed.declared.types.Type.{«Type»}
use Rattle.rgo_sound.specs.WellFormed.TypeRules.{pointer_to}
use Rattle.rgo_core.specs.Channels.Records.{Offering}
use Rattle.rgo_core.specs.Channels.Standing.{IsOfChannel}
use Rattle.rgo_core.specs.Frames.shown.WordFrames.{frame_word}
use Rattle.rgo_core.specs.Memory.Words.{all_words, base}
use Rattle.rgo_core.specs.moves.Cells.{IsAtSpread, PointsToWhole}
use Rattle.rgo_core.specs.ties.Bounds.{LieInPages, Points, slice_words}
use Rattle.rgo_core.specs.moves.Commits.{IsAtSend}
use Rattle.rgo_core.specs.Core.{Situation, Setup, layout}
use Rattle.rgo_core.specs.ties.Links.{IsAtElement}
use Rattle.rgo_core.specs.Next.{IsAtOp}
use Rattle.rgo_core.specs.Records.{Record}

-- ---- operands

-- a variable of this type that the next instruction reads points into the pages
abbrev pub OperandPoints : Type 0
OperandPoints = (T : Setup) (g : ℕ) (c : Record) → Situation T g c → (op : CodeOp) (a : IsAtOp T.code c op) (v : ℕ) (ty : «Type»)
    → Contains (reads (erased_op op)) v → VariableHasType (erased_fn a.fn) v ty → Points T ty (frame_word a.w v)

-- words of pages are words of the table
abbrev pub PagesInTable : Type 0
PagesInTable = (T : Setup) (address n : ℕ) → LieInPages T address n → base (layout T) + (address + n) ≤ all_words (layout T)

-- ---- fields, elements and lengths

-- The variable points to structs of this type, which have this field. They fit a page, or are spread.
pub record PointerHasField (T : Setup) (c : Record) {op : CodeOp} (a : IsAtOp T.code c op) (p k : ℕ) : Type 0 where
  pub number : ℕ
  pub typed : VariableHasType (erased_fn a.fn) p (pointer_to number)
  pub struct : Struct
  pub there : slice_get T.code.structs number ≡ Some struct
  pub low : k < length struct.fields

abbrev pub LoadsField : Type 0
LoadsField = (T : Setup) (g : ℕ) (c : Record) → Situation T g c → (d k p : ℕ) (removes : List ℕ)
    (a : IsAtOp T.code c (Do (Some d) (action.Load k) (p ∷ []) removes)) → PointerHasField T c a p k

abbrev pub StoresField : Type 0
StoresField = (T : Setup) (g : ℕ) (c : Record) → Situation T g c → (k p q : ℕ) (removes : List ℕ)
    (a : IsAtOp T.code c (Do None (action.Store k) (p ∷ q ∷ []) removes)) → PointerHasField T c a p k

-- a struct that fits a page, up to the field that is loaded
abbrev pub LoadLies : Type 0
LoadLies = (T : Setup) (g : ℕ) (c : Record) → Situation T g c → (d k p address : ℕ) (removes : List ℕ)
    (a : IsAtOp T.code c (Do (Some d) (action.Load k) (p ∷ []) removes)) → frame_word a.w p ≡ suc address → PointsToWhole T c a p
    → LieInPages T address (suc k)

-- a struct that fits a page, up to the field that is stored
abbrev pub StoreLies : Type 0
StoreLies = (T : Setup) (g : ℕ) (c : Record) → Situation T g c → (k p q address : ℕ) (removes : List ℕ)
    (a : IsAtOp T.code c (Do None (action.Store k) (p ∷ q ∷ []) removes)) → frame_word a.w p ≡ suc address → PointsToWhole T c a p
    → LieInPages T address (suc k)

-- a spread object up to the number of the data page that has a cell
abbrev pub IndexLies : Type 0
IndexLies = (T : Setup) (g : ℕ) (c : Record) → Situation T g c → (address before cell : ℕ) → IsAtSpread T c address before cell
    → LieInPages T address (suc (before + cell / T.sizes.page_words))

-- a slice that fits a page, and whose length was read, up to an element
abbrev pub SliceLies : Type 0
SliceLies = (T : Setup) (address n i : ℕ) → LieInPages T address (slice_words T n) → suc n ≤ T.sizes.page_words → i < n
    → LieInPages T address (suc (suc i))

-- the length of a slice
abbrev pub LenLies : Type 0
LenLies = (T : Setup) (g : ℕ) (c : Record) → Situation T g c → (d p address : ℕ) (removes : List ℕ)
    (a : IsAtOp T.code c (Do (Some d) action.Len (p ∷ []) removes)) → frame_word a.w p ≡ suc address → LieInPages T address 1

-- the length of the slice one of whose elements is loaded or stored
abbrev pub ElementLies : Type 0
ElementLies = (T : Setup) (g : ℕ) (c : Record) → Situation T g c → (address : ℕ) → IsAtElement T.code c address → LieInPages T address 1

-- ---- package variables

-- the package variable that is loaded exists
abbrev pub GetExists : Type 0
GetExists = (T : Setup) (g : ℕ) (c : Record) → Situation T g c → (to : Option ℕ) (k : ℕ) (from removes : List ℕ)
    → IsAtOp T.code c (Do to (action.Get k) from removes) → k < length T.code.variables

-- the same of one that is stored
abbrev pub SetExists : Type 0
SetExists = (T : Setup) (g : ℕ) (c : Record) → Situation T g c → (to : Option ℕ) (k : ℕ) (from removes : List ℕ)
    → IsAtOp T.code c (Do to (action.Set k) from removes) → k < length T.code.variables

-- ---- channels

-- the control, the capacity and the first cell of the channel on which the next instruction operates
abbrev pub ChannelLies : Type 0
ChannelLies = (T : Setup) (g : ℕ) (c : Record) → Situation T g c → (to : Option ℕ) (act : Action) (channel address : ℕ) (others removes : List ℕ)
    (a : IsAtOp T.code c (Do to act (channel ∷ others) removes)) → IsOfChannel act → frame_word a.w channel ≡ suc address
    → LieInPages T address 3

-- The channel at which the goroutine's offer is: its control is a word of a page, and so are its capacity and its first cell. The
-- record of the goroutine is before the send, also when the offer was taken.
pub record OffersAt (T : Setup) (c : Record) (at : ℕ) : Type 0 where
  pub send : IsAtSend T c
  pub address : ℕ
  pub is : at ≡ base (layout T) + address
  pub lies : LieInPages T address 3

abbrev pub OfferLies : Type 0
OfferLies = (T : Setup) (g : ℕ) (c : Record) → Situation T g c → (at : ℕ) → c.side.post ≡ Offering at → OffersAt T c at
