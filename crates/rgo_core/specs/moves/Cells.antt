-- Loads and stores: fields of structs, elements and lengths of slices, and package variables. Each is the instruction, except the
-- load of a length before an access to an element, which shows that the index is within it. Any goroutine whose next instruction
-- this is may make the access, whatever the others do: it has a stake in the region of the object, so the object stays.
use Rattle.std.specs.Prelude.{◌≡◌, ◌⊎◌, ◌+◌, ◌-◌, ◌/◌, ◌%◌, ◌<◌, ◌≤◌, ℕ, suc, List, [], ◌∷◌, length, Some, None, slice_get}
use Rattle.rgo_sound.specs.Code.Code.{CodeOp, Do}
use Rattle.rgo_sound.specs.Code.Erasure.{erased_fn}
use Rattle.rgo_sound.specs.Code.Types.{VariableHasType}
use Rattle.rgo_sound.specs.Typed.declared.actions.Action.TheVariants as action
use Rattle.rgo_sound.specs.Typed.declared.programs.Struct.{Struct}
use Rattle.rgo_sound.specs.WellFormed.TypeRules.{pointer_to}
use Rattle.rgo_core_channels.specs.Records.{at_rest}
use Rattle.rgo_core_frames.specs.steps.Actions.{after_action}
use Rattle.rgo_core_frames.specs.shown.WordFrames.{frame_word}
use Rattle.rgo_core_memory.specs.Records.{Located, Measured, with_located, with_measured}
use Rattle.rgo_core_memory.specs.Words.{all_words, base, cell_at, variable_at}
use Rattle.rgo_core.specs.ties.Bounds.{Gives, LieInPages, slice_words}
use Rattle.rgo_core.specs.Core.{Setup, layout}
use Rattle.rgo_core.specs.ties.Links.{IsAtElement, LeadsToSpread}
use Rattle.rgo_core.specs.Next.{IsAtOp, acted_record}
use Rattle.rgo_core.specs.Records.{Record, accessed, instructed, steps_of}
use Rattle.rgo_core.specs.Steps.{IsStill, Moves}

-- The variable points to structs, and these fit a page. Whether they do is known from the type, so no word is loaded to find out.
pub record PointsToWhole (T : Setup) (c : Record) {op : CodeOp} (a : IsAtOp T.code c op) (p : ℕ) : Type 0 where
  pub number : ℕ
  pub typed : VariableHasType (erased_fn a.fn) p (pointer_to number)
  pub struct : Struct
  pub there : slice_get T.code.structs number ≡ Some struct
  pub fits : length struct.fields ≤ T.sizes.page_words

-- the variable points to structs, and these are spread
abbrev pub PointsToSpread : (T : Setup) (c : Record) {op : CodeOp} → IsAtOp T.code c op → (p : ℕ) → Type 0
PointsToSpread T c a p = LeadsToSpread T.code T.sizes.page_words a.fn p

-- The record has read in which data page this cell of the spread object at this address is, and has made no instruction since:
-- the cell is this word of the table. Without `now` the object might be gone and its page be another's.
pub record IsLocated (T : Setup) (c : Record) (address cell word : ℕ) : Type 0 where
  pub located : Located
  pub read : c.memory.located ≡ Some located
  pub now : located.steps ≡ steps_of c
  pub its : located.address ≡ address
  pub of_cell : located.cell ≡ cell
  pub at : word ≡ cell_at (layout T) located.page (cell % T.sizes.page_words)

-- field k of the struct at this address is this word of the table: k words after the address if the struct fits a page; otherwise
-- where it was located
abbrev pub IsFieldAt : (T : Setup) (c : Record) {op : CodeOp} → IsAtOp T.code c op → (p address k word : ℕ) → Type 0
IsFieldAt T c a p address k word =
    (PointsToWhole T c a p × (word ≡ base (layout T) + (address + k))) ⊎ IsLocated T c address k word

-- a field is loaded
abbrev pub LoadMove : Type 0
LoadMove = (T : Setup) (g : ℕ) (c : Record) (d k p address word : ℕ) (removes : List ℕ)
    (a : IsAtOp T.code c (Do (Some d) (action.Load k) (p ∷ []) removes)) → c.side ≡ at_rest → frame_word a.w p ≡ suc address
    → IsFieldAt T c a p address k word → Moves T g c word (λ n. n) (Gives T c a (Some d))

-- a field is stored
abbrev pub StoreMove : Type 0
StoreMove = (T : Setup) (g : ℕ) (c : Record) (k p q address word : ℕ) (removes : List ℕ)
    (a : IsAtOp T.code c (Do None (action.Store k) (p ∷ q ∷ []) removes)) → c.side ≡ at_rest → frame_word a.w p ≡ suc address
    → IsFieldAt T c a p address k word → Moves T g c word (λ n. frame_word a.w q) (λ n e. e ≡ acted_record T.code c a None 0)

-- The length of a slice is loaded. All its elements are in the pages, or, if it is spread, the numbers of its data pages. By this the
-- code computes positions without a test.
abbrev pub LenMove : Type 0
LenMove = (T : Setup) (g : ℕ) (c : Record) (d p address : ℕ) (removes : List ℕ)
    (a : IsAtOp T.code c (Do (Some d) action.Len (p ∷ []) removes)) → c.side ≡ at_rest → frame_word a.w p ≡ suc address
    → Moves T g c (base (layout T) + address) (λ n. n) (λ n e. Gives T c a (Some d) n e × LieInPages T address (slice_words T n))

-- the length of nil is 0, and no word is loaded for it: an instruction without an access
abbrev pub LenNilStill : Type 0
LenNilStill = (T : Setup) (g : ℕ) (c : Record) (d p : ℕ) (removes : List ℕ)
    (a : IsAtOp T.code c (Do (Some d) action.Len (p ∷ []) removes)) → c.side ≡ at_rest → frame_word a.w p ≡ 0
    → IsStill T g c
    (record c { clock = instructed c.clock; frame = after_action T.code c.frame a.w a.ws a.instr (Some d) 0 })

-- The length of a slice is loaded before an access to one of its elements. The record remembers it until the next instruction. Others
-- may run in between, since nobody changes a length.
abbrev pub measures : Record → (address elements : ℕ) → Record
measures c address n = record c {
  clock = accessed c.clock;
  memory = with_measured c.memory (record { address = address; elements = n; steps = steps_of c });
}

abbrev pub MeasureMove : Type 0
MeasureMove = (T : Setup) (g : ℕ) (c : Record) (address : ℕ) → IsAtElement T.code c address
    → Moves T g c (base (layout T) + address) (λ n. n) (λ n d. (d ≡ measures c address n) × LieInPages T address (slice_words T n))

-- The length of the slice at this address is known, and this is one of its elements. `now` ties the length to this instruction: after
-- the next one another slice may have this address.
pub record IsInSlice (c : Record) (address index : ℕ) : Type 0 where
  pub measured : Measured
  pub read : c.memory.measured ≡ Some measured
  pub now : measured.steps ≡ steps_of c
  pub its : measured.address ≡ address
  pub within : index < measured.elements

-- and it fits a page
abbrev pub IsWhole : (T : Setup) {c : Record} {address index : ℕ} → IsInSlice c address index → Type 0
IsWhole T inside = suc inside.measured.elements ≤ T.sizes.page_words

-- or is spread
abbrev pub IsSpreadOut : (T : Setup) {c : Record} {address index : ℕ} → IsInSlice c address index → Type 0
IsSpreadOut T inside = T.sizes.page_words < suc inside.measured.elements

-- the element is this word of the table: after the length, if the slice fits a page; or where it was located
abbrev pub IsElementAt : (T : Setup) (c : Record) (address index : ℕ) → IsInSlice c address index → (word : ℕ) → Type 0
IsElementAt T c address index inside word =
    (IsWhole T inside × (word ≡ base (layout T) + (address + suc index))) ⊎ IsLocated T c address index word

-- an element is loaded
abbrev pub AtMove : Type 0
AtMove = (T : Setup) (g : ℕ) (c : Record) (d p q address word : ℕ) (removes : List ℕ)
    (a : IsAtOp T.code c (Do (Some d) action.At (p ∷ q ∷ []) removes)) → c.side ≡ at_rest → frame_word a.w p ≡ suc address
    → (inside : IsInSlice c address (frame_word a.w q)) → IsElementAt T c address (frame_word a.w q) inside word
    → Moves T g c word (λ n. n) (Gives T c a (Some d))

-- an element is stored
abbrev pub PutMove : Type 0
PutMove = (T : Setup) (g : ℕ) (c : Record) (p q r address word : ℕ) (removes : List ℕ)
    (a : IsAtOp T.code c (Do None action.Put (p ∷ q ∷ r ∷ []) removes)) → c.side ≡ at_rest → frame_word a.w p ≡ suc address
    → (inside : IsInSlice c address (frame_word a.w q)) → IsElementAt T c address (frame_word a.w q) inside word
    → Moves T g c word (λ n. frame_word a.w r) (λ n e. e ≡ acted_record T.code c a None 0)

-- ---- page numbers

-- The next instruction accesses this cell of the spread object at this address; `before` words of the object precede its cells. An
-- index is within the length, which was read.
pub data IsAtSpread (T : Setup) (c : Record) (address before cell : ℕ) : Type 0 where
  LoadsField : (d k p : ℕ) (removes : List ℕ) (a : IsAtOp T.code c (Do (Some d) (action.Load k) (p ∷ []) removes)) → frame_word a.w p ≡ suc address
      → PointsToSpread T c a p → before ≡ 0 → cell ≡ k → IsAtSpread T c address before cell
  StoresField : (k p q : ℕ) (removes : List ℕ) (a : IsAtOp T.code c (Do None (action.Store k) (p ∷ q ∷ []) removes)) → frame_word a.w p ≡ suc address
      → PointsToSpread T c a p → before ≡ 0 → cell ≡ k → IsAtSpread T c address before cell
  LoadsElement : (d p q : ℕ) (removes : List ℕ) (a : IsAtOp T.code c (Do (Some d) action.At (p ∷ q ∷ []) removes)) → frame_word a.w p ≡ suc address
      → (inside : IsInSlice c address (frame_word a.w q)) → IsSpreadOut T inside → before ≡ 1 → cell ≡ frame_word a.w q
      → IsAtSpread T c address before cell
  StoresElement : (p q r : ℕ) (removes : List ℕ) (a : IsAtOp T.code c (Do None action.Put (p ∷ q ∷ r ∷ []) removes)) → frame_word a.w p ≡ suc address
      → (inside : IsInSlice c address (frame_word a.w q)) → IsSpreadOut T inside → before ≡ 1 → cell ≡ frame_word a.w q
      → IsAtSpread T c address before cell

-- the record after it has read in which data page this cell is
abbrev pub locates : Record → (address cell page : ℕ) → Record
locates c address i page = record c {
  clock = accessed c.clock;
  memory = with_located c.memory (record { address = address; cell = i; page = page; steps = steps_of c });
}

-- The number of the data page that has a cell is loaded from the lead page, plus 1, before an access to the cell, which is in the
-- table. It takes an access of its own, since the number is in a word; it never changes, so the two need not be one.
abbrev pub IndexMove : Type 0
IndexMove = (T : Setup) (g : ℕ) (c : Record) (address before cell : ℕ) → IsAtSpread T c address before cell
    → Moves T g c (base (layout T) + (address + (before + cell / T.sizes.page_words))) (λ n. n)
    (λ n d. (d ≡ locates c address cell (n - 1)) × (0 < n) × (cell_at (layout T) (n - 1) (cell % T.sizes.page_words) < all_words (layout T)))

-- a package variable is loaded
abbrev pub GetMove : Type 0
GetMove = (T : Setup) (g : ℕ) (c : Record) (d k : ℕ) (removes : List ℕ)
    (a : IsAtOp T.code c (Do (Some d) (action.Get k) [] removes)) → c.side ≡ at_rest
    → Moves T g c (variable_at (layout T) k) (λ n. n) (Gives T c a (Some d))

-- a package variable is stored
abbrev pub SetMove : Type 0
SetMove = (T : Setup) (g : ℕ) (c : Record) (k q : ℕ) (removes : List ℕ)
    (a : IsAtOp T.code c (Do None (action.Set k) (q ∷ []) removes)) → c.side ≡ at_rest
    → Moves T g c (variable_at (layout T) k) (λ n. frame_word a.w q) (λ n e. e ≡ acted_record T.code c a None 0)
