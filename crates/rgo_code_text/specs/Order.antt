-- The order of the lines of a code text.
use Rattle.std.specs.Prelude.{ℕ, ◌+◌, ◌==◌, if◌then◌else◌, Option, Some, None, List, [], ◌∷◌, ⊤}
use Rattle.rgo_code_text.specs.declared.places.Place.{Place}
use Rattle.rgo_code_text.specs.declared.places.Place.TheVariants.{First, Structs, Globals, Functions, Slots, Body}
use Rattle.rgo_code_words.specs.Readers.{on_some}

-- what kind of line it is; of an instruction also its number
pub data Kind : Type 0 where
  OfHead : Kind
  OfStruct : Kind
  OfGlobal : Kind
  OfFunction : Kind
  OfSlot : Kind
  OfEntry : Kind
  OfInstr : (i : ℕ) → Kind
  OfEnd : Kind

-- the place after a line, if the line may be at this place
abbrev pub after_kind : Place → Kind → Option Place
after_kind First OfHead = Some Structs
after_kind Structs OfStruct = Some Structs
after_kind Structs OfGlobal = Some Globals
after_kind Globals OfGlobal = Some Globals
after_kind Structs OfFunction = Some Slots
after_kind Globals OfFunction = Some Slots
after_kind Functions OfFunction = Some Slots
after_kind Slots OfSlot = Some Slots
after_kind Slots OfEntry = Some (Body 0)
after_kind (Body n) (OfInstr i) = if i == n then Some (Body (n + 1)) else None
after_kind (Body n) OfEnd = Some Functions
after_kind place kind = None

-- where lines lead from a place
abbrev pub after_kinds : List Kind → Place → Option Place
after_kinds [] place = Some place
after_kinds (kind ∷ kinds) place = on_some (after_kind place kind) (after_kinds kinds)

-- A text may end there: not within a function, and not without its first line. A text without functions is code; rule 1 refuses it.
abbrev pub IsLast : Place → Type 0
IsLast Structs = ⊤
IsLast Globals = ⊤
IsLast Functions = ⊤
IsLast place = ⊥
