-- What the code has of functions that are not complete yet.
use Rattle.std.specs.Prelude.{◌≡◌, ◌<◌, ◌+◌, ◌^◌, ℕ, List, [], ◌∷◌, ◌++◌, length, get_or, All, ⊤}
use Rattle.std.specs.Option.{option_map}
use Rattle.rgo_typed.specs.declared.statements.Piece.{Piece}
use Rattle.rgo_tac.specs.declared.code.Instr.{Instr}
use Rattle.rgo_tac.specs.declared.code.Instr.TheVariants as code
use Rattle.rgo_tac.specs.Views.{op_of, body_of}
use Rattle.rgo_code.specs.Code.{Slot, CodeInstr, CodeFn}
use Rattle.rgo_code.specs.Views.{slot, slots, code_op, code_body, code_fns}
use Rattle.rgo_code_text.specs.declared.building.Building.{Building as CodeBuilding}
use Rattle.rgo_code_text.specs.declared.building.Open.{Open}
use Rattle.rgo_code_text.specs.declared.items.NamedInstr.{NamedInstr}
use Rattle.rgo_code_text.specs.declared.ops.NamedOp.{NamedOp}
use Rattle.rgo_code_text.specs.Building.{numbered_op}
use Rattle.rgo_code_text.specs.CodeLines.{Building}
use Rattle.rgo_code_printing.specs.Text.{Names}
use Rattle.rgo_code_text.specs.Views.{named_op_of}

abbrev pub open_of : Open → CodeFn
open_of o = record {
  name = o.name;
  params = o.params;
  result = option_map (λ ty. slot ty o.result) o.result_type;
  variables = slots o.types.items o.classes.items;
  entry = o.entry.items;
  body = code_body (body_of o.lists.items o.pieces.items o.instrs.items o.places.items) o.notes.items;
}

-- a function with one more variable, or instruction
abbrev pub with_slot : CodeFn → Slot → CodeFn
with_slot f slot = record f { variables = f.variables ++ slot ∷ [] }

abbrev pub with_instr : CodeFn → CodeInstr → CodeFn
with_instr f instr = record f { body = f.body ++ instr ∷ [] }

-- The lists of an instruction have numbers below n: then it means the same after more lists were added.
abbrev pub ListsBelow : ℕ → Instr → Type 0
ListsBelow n (code.Call d f k) = k < n
ListsBelow n (code.Invoke f k) = k < n
ListsBelow n (code.Go f k) = k < n
ListsBelow n (code.Print p k) = (p < n) × (k < n)
ListsBelow n (code.Int d k) = ⊤
ListsBelow n (code.Bool d b) = ⊤
ListsBelow n (code.Nil d) = ⊤
ListsBelow n (code.Copy d a) = ⊤
ListsBelow n (code.CopyInt d a) = ⊤
ListsBelow n (code.CopyBool d a) = ⊤
ListsBelow n (code.Add d a b) = ⊤
ListsBelow n (code.Sub d a b) = ⊤
ListsBelow n (code.Mul d a b) = ⊤
ListsBelow n (code.Div d a b) = ⊤
ListsBelow n (code.Rem d a b) = ⊤
ListsBelow n (code.Eq d a b) = ⊤
ListsBelow n (code.Ne d a b) = ⊤
ListsBelow n (code.Lt d a b) = ⊤
ListsBelow n (code.Le d a b) = ⊤
ListsBelow n (code.Gt d a b) = ⊤
ListsBelow n (code.Ge d a b) = ⊤
ListsBelow n (code.Neg d a) = ⊤
ListsBelow n (code.Not d a) = ⊤
ListsBelow n (code.IsNil d a) = ⊤
ListsBelow n (code.Len d a) = ⊤
ListsBelow n (code.Load d a k) = ⊤
ListsBelow n (code.Store a k b) = ⊤
ListsBelow n (code.At d a i) = ⊤
ListsBelow n (code.Put a i b) = ⊤
ListsBelow n (code.New d s) = ⊤
ListsBelow n (code.Slice d count) = ⊤
ListsBelow n (code.Chan d count) = ⊤
ListsBelow n (code.Recv d c) = ⊤
ListsBelow n (code.Send c a) = ⊤
ListsBelow n (code.Close c) = ⊤
ListsBelow n (code.Get d g) = ⊤
ListsBelow n (code.Set g a) = ⊤
ListsBelow n (code.Jump t) = ⊤
ListsBelow n (code.Branch a t e) = ⊤
ListsBelow n (code.Return a) = ⊤
ListsBelow n code.Leave = ⊤

-- a copy of variable a to d, of any kind: the kinds differ in speed only
abbrev pub IsCopy : (d a : ℕ) → Instr → Type 0
IsCopy d a (code.Copy e b) = (e ≡ d) × (b ≡ a)
IsCopy d a (code.CopyInt e b) = (e ≡ d) × (b ≡ a)
IsCopy d a (code.CopyBool e b) = (e ≡ d) × (b ≡ a)
IsCopy d a instr = ⊥

-- the instruction of an operation in a function that has its variables and its pieces at this number
pub record IsNumberedInstr (n : Names) (o : NamedOp) (list : ℕ) (instr : Instr) : Type 0 where
  pub below : (k : ℕ) → list < k → ListsBelow k instr
  pub op :
      (lists : List (List ℕ)) (pieces : List (List Piece)) → get_or lists list [] ≡ o.from.items
      → get_or pieces list [] ≡ o.pieces.items
      → code_op (op_of lists pieces instr) o.note ≡ numbered_op n (named_op_of o).op o.name.now

-- each variable has a class, and each instruction a place, lists and a note
pub record IsAligned (o : Open) : Type 0 where
  pub classes : length o.classes.items ≡ length o.types.items
  pub places : length o.places.items ≡ length o.instrs.items
  pub lists : length o.lists.items ≡ length o.instrs.items
  pub pieces : length o.pieces.items ≡ length o.instrs.items
  pub notes : length o.notes.items ≡ length o.instrs.items
  pub below : All (ListsBelow (length o.instrs.items)) o.instrs.items

-- without its lists and its note, the function has one more instruction
pub record HasCode (before after : Open) (instr : Instr) (place : ℕ) : Type 0 where
  pub instrs : after.instrs.items ≡ before.instrs.items ++ instr ∷ []
  pub places : after.places.items ≡ before.places.items ++ place ∷ []
  pub lists : after.lists.items ≡ before.lists.items
  pub pieces : after.pieces.items ≡ before.pieces.items
  pub notes : after.notes.items ≡ before.notes.items
  pub types : after.types.items ≡ before.types.items
  pub classes : after.classes.items ≡ before.classes.items
  pub others : record (open_of after) { body = [] } ≡ record (open_of before) { body = [] }

-- the function has one more instruction, with its place, its lists and its note
pub record HasOneMore (before after : Open) (instr : Instr) (named : NamedInstr) : Type 0 where
  pub instrs : after.instrs.items ≡ before.instrs.items ++ instr ∷ []
  pub places : after.places.items ≡ before.places.items ++ named.place ∷ []
  pub lists : after.lists.items ≡ before.lists.items ++ named.op.from.items ∷ []
  pub pieces : after.pieces.items ≡ before.pieces.items ++ named.op.pieces.items ∷ []
  pub notes : after.notes.items ≡ before.notes.items ++ named.op.note ∷ []
  pub types : after.types.items ≡ before.types.items
  pub classes : after.classes.items ≡ before.classes.items
  pub others : record (open_of after) { body = [] } ≡ record (open_of before) { body = [] }

-- so few variables and instructions that a function can have them, with numbers of 32 bits
pub record FunctionHasRoom (o : Open) : Type 0 where
  pub types : length o.types.items + 2 < 2 ^ 32
  pub instrs : length o.instrs.items + 1 < 2 ^ 32

abbrev pub building_of : CodeBuilding → Building
building_of b = record {
  structs = b.structs.items;
  variables = b.variables.items;
  functions = code_fns b.functions.items b.regions.items;
  current = open_of b.current;
}

pub record AllAligned (b : CodeBuilding) : Type 0 where
  pub regions : length b.regions.items ≡ length b.functions.items
  pub current : IsAligned b.current
