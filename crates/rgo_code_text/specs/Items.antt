-- Lines of a code text by what they say, with names in place of numbers.
use Rattle.std.specs.Prelude.{◌≡◌, ℕ, true, List, [], ◌∷◌, map, Option, Some, None, All, IfSome, codes, decimal, ⊤}
use Rattle.std.specs.List.{flat_map, join_with_byte}
use Rattle.rgo_typed.specs.declared.actions.Action.{Action}
use Rattle.rgo_typed.specs.declared.types.Base.{Base}
use Rattle.rgo_typed.specs.declared.types.Base.TheVariants as base
use Rattle.rgo_tac.specs.declared.regions.Class.{Class}
use Rattle.rgo_code.specs.Code.{CodeOp, CodeInstr, Do, Call, Go, Print, Jump, Branch, Return}
use Rattle.rgo_code_text.specs.declared.places.Place.{Place}
use Rattle.rgo_code_text.specs.Order.{Kind, OfHead, OfStruct, OfGlobal, OfFunction, OfSlot, OfEntry, OfInstr, OfEnd, after_kind, after_kinds}
use Rattle.rgo_code_words.specs.Readers.{NamedType}
use Rattle.rgo_code_printing.specs.Text.{Names, line, entry_words, instr_words}
use Rattle.rgo_code_printing.specs.Words.{type_word, class_word}
use Rattle.rgo_code_text.specs.Written.{InstrHasText, ActionNaming, NamesNothing, NamesStruct, NamesVariable, naming_of}
use Rattle.rgo_code_words.specs.Worded.{is_name, AreRegions, ClassFits, IsSmallNumber}

pub record NamedSlot : Type 0 where
  pub ty : NamedType
  pub class : Class

-- What an instruction names has the number 0: a line may name what a later line declares, so numbers come after all lines are read.
pub data Item : Type 0 where
  Head : Item
  Struct : (name : List ℕ) (fields : List NamedType) → Item
  Global : (name : List ℕ) (ty : NamedType) → Item
  Function : (name : List ℕ) (params : ℕ) (slot : Option NamedSlot) → Item
  Slot : (slot : NamedSlot) → Item
  Entry : (names : List ℕ) → Item
  Instr : (i : ℕ) (instr : CodeInstr) (name : List ℕ) → Item
  End : Item

-- ---- words

-- one name of each kind
abbrev pub only_name : List ℕ → Names
only_name name = record { structs = name ∷ []; variables = name ∷ []; functions = name ∷ [] }

abbrev pub named_type_word : NamedType → List ℕ
named_type_word t = type_word (t.name ∷ []) t.ty

abbrev pub named_slot_words : NamedSlot → List (List ℕ)
named_slot_words s = named_type_word s.ty ∷ class_word s.class ∷ []

abbrev pub named_result_words : Option NamedSlot → List (List ℕ)
named_result_words None = codes "-" ∷ codes "-" ∷ []
named_result_words (Some s) = named_slot_words s

abbrev pub item_words : Item → List (List ℕ)
item_words Head = codes "rgo" ∷ codes "code" ∷ codes "1" ∷ []
item_words (Struct name fields) = codes "struct" ∷ name ∷ map named_type_word fields
item_words (Global name ty) = codes "global" ∷ name ∷ named_type_word ty ∷ []
item_words (Function name params slot) = codes "func" ∷ name ∷ decimal params ∷ named_result_words slot
item_words (Slot slot) = codes "var" ∷ named_slot_words slot
item_words (Entry names) = entry_words names
item_words (Instr i instr name) = instr_words (only_name name) i instr
item_words End = codes "end" ∷ []

-- the line of an item, without its newline
abbrev pub item_line : Item → List ℕ
item_line item = join_with_byte 32 (item_words item)

-- ---- what has such words

abbrev pub IsName : List ℕ → Type 0
IsName name = is_name name ≡ true

-- a number that is not known yet, and its name
abbrev pub AwaitsNumber : ℕ → List ℕ → Type 0
AwaitsNumber n name = (n ≡ 0) × IsName name

abbrev pub BaseFits : Base → List ℕ → Type 0
BaseFits (base.Pointer n) name = AwaitsNumber n name
BaseFits b name = name ≡ []

abbrev pub TypeFits : NamedType → Type 0
TypeFits t = BaseFits t.ty.base t.name

abbrev pub NamingFits : ActionNaming → List ℕ → Type 0
NamingFits NamesNothing name = name ≡ []
NamingFits (NamesStruct n) name = AwaitsNumber n name
NamingFits (NamesVariable n) name = AwaitsNumber n name

abbrev pub ActionIsNamed : Action → List ℕ → Type 0
ActionIsNamed action name = NamingFits (naming_of action) name

abbrev pub OpIsNamed : CodeOp → List ℕ → Type 0
OpIsNamed (Do to action from removes) name = ActionIsNamed action name
OpIsNamed (Call to f from passes protects removes) name = AwaitsNumber f name
OpIsNamed (Go f from passes removes) name = AwaitsNumber f name
OpIsNamed (Print pieces from removes) name = name ≡ []
OpIsNamed (Jump target removes) name = name ≡ []
OpIsNamed (Branch test target removes other otherwise) name = name ≡ []
OpIsNamed (Return value) name = name ≡ []

abbrev pub NamedSlotFits : NamedSlot → Type 0
NamedSlotFits s = TypeFits s.ty × ClassFits s.class

abbrev pub ItemFits : Item → Type 0
ItemFits Head = ⊤
ItemFits (Struct name fields) = IsName name × All TypeFits fields
ItemFits (Global name ty) = IsName name × TypeFits ty
ItemFits (Function name params slot) = IsName name × IsSmallNumber params × IfSome slot NamedSlotFits
ItemFits (Slot slot) = NamedSlotFits slot
ItemFits (Entry names) = AreRegions names
ItemFits (Instr i instr name) = IsSmallNumber i × InstrHasText instr × OpIsNamed instr.op name
ItemFits End = ⊤

-- ---- places

abbrev pub item_kind : Item → Kind
item_kind Head = OfHead
item_kind (Struct name fields) = OfStruct
item_kind (Global name ty) = OfGlobal
item_kind (Function name params slot) = OfFunction
item_kind (Slot slot) = OfSlot
item_kind (Entry names) = OfEntry
item_kind (Instr i instr name) = OfInstr i
item_kind End = OfEnd

-- the place after a line, if the line may be at this place
abbrev pub place_after_item : Place → Item → Option Place
place_after_item place item = after_kind place (item_kind item)

-- where lines lead from a place
abbrev pub place_after_items : List Item → Place → Option Place
place_after_items items place = after_kinds (map item_kind items) place

abbrev pub items_text : List Item → List ℕ
items_text items = flat_map (λ item. line (item_words item)) items
