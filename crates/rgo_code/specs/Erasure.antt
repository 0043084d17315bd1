-- The three-address code that is left when classes and all that is said of regions are dropped from code.
use Rattle.std.specs.Prelude.{map}
use Rattle.std.specs.Option.{option_map}
use Rattle.rgo_tac.specs.Code as tac
use Rattle.rgo_tac.specs.Code.{Op, Instr, TacFn, Tac}
use Rattle.rgo_code.specs.Code.{CodeOp, CodeInstr, CodeFn, Code, Do, Call, Go, Print, Jump, Branch, Return}

-- the operation without the regions that it passes, protects and removes
abbrev pub erased_op : CodeOp → Op
erased_op (Do to action from removes) = tac.Do to action from
erased_op (Call to function from passes protects removes) = tac.Call to function from
erased_op (Go function from passes removes) = tac.Go function from
erased_op (Print pieces from removes) = tac.Print pieces from
erased_op (Jump target removes) = tac.Jump target
erased_op (Branch test target removes other otherwise) = tac.Branch test target other
erased_op (Return value) = tac.Return value

-- the instruction without the names that it creates; it traps at the same place
abbrev pub erased_instr : CodeInstr → Instr
erased_instr i = record { op = erased_op i.op; place = i.place }

-- the function without the classes of its variables and of its result, and without the removals at entry
abbrev pub erased_fn : CodeFn → TacFn
erased_fn f = record {
  name = f.name;
  params = f.params;
  result_type = option_map (λ s. s.ty) f.result;
  variables = map (λ s. s.ty) f.variables;
  body = map erased_instr f.body;
}

-- all functions erased. Structs and package variables have no classes and stay as they are; the names that the code uses without
-- declaring them are dropped.
abbrev pub erased : Code → Tac
erased code = record {
  structs = code.structs;
  variables = code.variables;
  functions = map erased_fn code.functions;
}
