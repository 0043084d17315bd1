-- What the code's parts of lines are, as plain data.
use Rattle.std.specs.Prelude.{ℕ, List, [], Some, None, map}
use Rattle.std.specs.Option.{option_map}
use Rattle.rgo_typed.specs.declared.statements.Piece.{Piece}
use Rattle.rgo_tac.specs.declared.code.Instr.{Instr as CodeInstruction}
use Rattle.rgo_tac.specs.declared.code.Instr.TheVariants as instruction
use Rattle.rgo_tac.specs.Code as tac
use Rattle.rgo_tac.specs.Views.{op_of}
use Rattle.rgo_code_text.specs.declared.actions.Action.{Action}
use Rattle.rgo_code_text.specs.declared.items.Item.{Item as CodeItem}
use Rattle.rgo_code_text.specs.declared.items.Item.TheVariants as code
use Rattle.rgo_code_text.specs.declared.items.NamedInstr.{NamedInstr as CodeNamedInstr}
use Rattle.rgo_code_text.specs.declared.items.NamedSlot.{NamedSlot as CodeSlot}
use Rattle.rgo_code_text.specs.declared.calls.Callee.{Callee as CodeCallee}
use Rattle.rgo_code_text.specs.declared.ops.NamedOp.{NamedOp as CodeNamedOp}
use Rattle.rgo_code.specs.Code.{CodeInstr}
use Rattle.rgo_code.specs.Views.{code_op}
use Rattle.rgo_code_text.specs.Actions.{NamedAction}
use Rattle.rgo_code_text.specs.Items.{NamedSlot, Item, Head, Struct, Global, Function, Slot, Entry, Instr, End}
use Rattle.rgo_code_text.specs.Ops.{NamedOp, Callee}
use Rattle.rgo_code_words.specs.Views.{named_type_of}

abbrev pub named_callee_of : CodeCallee → Callee
named_callee_of c = record { name = c.name.now; from = c.from }

-- what an instruction does with variables and pieces of its own, whatever numbers it has for them
abbrev pub own_op : List ℕ → List Piece → CodeInstruction → tac.Op
own_op from pieces (instruction.Call d f n) = tac.Call (Some d) f from
own_op from pieces (instruction.Invoke f n) = tac.Call None f from
own_op from pieces (instruction.Go f n) = tac.Go f from
own_op from pieces (instruction.Print p n) = tac.Print pieces from
own_op from pieces (instruction.Int d k) = op_of [] [] (instruction.Int d k)
own_op from pieces (instruction.Bool d b) = op_of [] [] (instruction.Bool d b)
own_op from pieces (instruction.Nil d) = op_of [] [] (instruction.Nil d)
own_op from pieces (instruction.Copy d a) = op_of [] [] (instruction.Copy d a)
own_op from pieces (instruction.CopyInt d a) = op_of [] [] (instruction.CopyInt d a)
own_op from pieces (instruction.CopyBool d a) = op_of [] [] (instruction.CopyBool d a)
own_op from pieces (instruction.Add d a b) = op_of [] [] (instruction.Add d a b)
own_op from pieces (instruction.Sub d a b) = op_of [] [] (instruction.Sub d a b)
own_op from pieces (instruction.Mul d a b) = op_of [] [] (instruction.Mul d a b)
own_op from pieces (instruction.Div d a b) = op_of [] [] (instruction.Div d a b)
own_op from pieces (instruction.Rem d a b) = op_of [] [] (instruction.Rem d a b)
own_op from pieces (instruction.Eq d a b) = op_of [] [] (instruction.Eq d a b)
own_op from pieces (instruction.Ne d a b) = op_of [] [] (instruction.Ne d a b)
own_op from pieces (instruction.Lt d a b) = op_of [] [] (instruction.Lt d a b)
own_op from pieces (instruction.Le d a b) = op_of [] [] (instruction.Le d a b)
own_op from pieces (instruction.Gt d a b) = op_of [] [] (instruction.Gt d a b)
own_op from pieces (instruction.Ge d a b) = op_of [] [] (instruction.Ge d a b)
own_op from pieces (instruction.Neg d a) = op_of [] [] (instruction.Neg d a)
own_op from pieces (instruction.Not d a) = op_of [] [] (instruction.Not d a)
own_op from pieces (instruction.IsNil d a) = op_of [] [] (instruction.IsNil d a)
own_op from pieces (instruction.Len d a) = op_of [] [] (instruction.Len d a)
own_op from pieces (instruction.Load d a k) = op_of [] [] (instruction.Load d a k)
own_op from pieces (instruction.Store a k b) = op_of [] [] (instruction.Store a k b)
own_op from pieces (instruction.At d a i) = op_of [] [] (instruction.At d a i)
own_op from pieces (instruction.Put a i b) = op_of [] [] (instruction.Put a i b)
own_op from pieces (instruction.New d s) = op_of [] [] (instruction.New d s)
own_op from pieces (instruction.Slice d n) = op_of [] [] (instruction.Slice d n)
own_op from pieces (instruction.Chan d n) = op_of [] [] (instruction.Chan d n)
own_op from pieces (instruction.Recv d c) = op_of [] [] (instruction.Recv d c)
own_op from pieces (instruction.Send c a) = op_of [] [] (instruction.Send c a)
own_op from pieces (instruction.Close c) = op_of [] [] (instruction.Close c)
own_op from pieces (instruction.Get d g) = op_of [] [] (instruction.Get d g)
own_op from pieces (instruction.Set g a) = op_of [] [] (instruction.Set g a)
own_op from pieces (instruction.Jump t) = op_of [] [] (instruction.Jump t)
own_op from pieces (instruction.Branch a t e) = op_of [] [] (instruction.Branch a t e)
own_op from pieces (instruction.Return a) = op_of [] [] (instruction.Return a)
own_op from pieces instruction.Leave = op_of [] [] instruction.Leave

abbrev pub named_op_of : CodeNamedOp → NamedOp
named_op_of o = record {
  op = code_op (own_op o.from.items o.pieces.items o.instr) o.note;
  name = o.name.now;
}

abbrev pub named_action_of : Action → NamedAction
named_action_of a = record { op = op_of [] [] a.instr; name = a.name.now }

abbrev pub named_slot_of : CodeSlot → NamedSlot
named_slot_of s = record { ty = named_type_of s.ty; class = s.class }

-- an instruction with what is created before it, and its place
abbrev pub code_instr_of : CodeNamedInstr → CodeInstr
code_instr_of i = record { creates = i.op.note.creates; op = (named_op_of i.op).op; place = i.place }

abbrev pub item_of : CodeItem → Item
item_of code.Head = Head
item_of (code.Struct name types) = Struct name.now (map named_type_of types.items)
item_of (code.Global name ty) = Global name.now (named_type_of ty)
item_of (code.Function name params slot) = Function name.now params (option_map named_slot_of slot)
item_of (code.Slot slot) = Slot (named_slot_of slot)
item_of (code.Entry names) = Entry names.items
item_of (code.Instr instr) = Instr instr.value.index (code_instr_of instr.value) instr.value.op.name.now
item_of code.End = End
