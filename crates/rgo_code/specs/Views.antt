-- What code is made of: three-address code, and beside it what each function says of regions.
use Rattle.std.specs.Prelude.{List, [], ◌∷◌, get_or, drop}
use Rattle.std.specs.Option.{option_map}
use Rattle.rgo_typed.specs.declared.types.Type.{«Type»}
use Rattle.rgo_tac.specs.declared.regions.Class.{Class}
use Rattle.rgo_tac.specs.declared.regions.Class.TheVariants as class
use Rattle.rgo_tac.specs.Code as tac
use Rattle.rgo_tac.specs.Code.{Op, Instr, TacFn, Tac}
use Rattle.rgo_code.specs.declared.notes.Note.{Note}
use Rattle.rgo_code.specs.declared.notes.Regions.{Regions}
use Rattle.rgo_code.specs.declared.code.Undeclared.{Undeclared}
use Rattle.rgo_code.specs.Code.{Slot, CodeOp, CodeInstr, CodeFn, Code, Do, Call, Go, Print, Jump, Branch, Return}

-- nothing is said of regions
abbrev pub no_note : Note
no_note = record { creates = []; passes = []; protects = []; removes = []; otherwise = [] }

abbrev pub no_regions : Regions
no_regions = record { classes = []; result = class.NoClass; entry = []; notes = [] }

abbrev pub slot : «Type» → Class → Slot
slot ty class = record { ty = ty; class = class }

-- each variable with its class; those beyond the list have none, so that any two lists make code
abbrev pub slots : List «Type» → List Class → List Slot
slots [] classes = []
slots (ty ∷ tys) classes = slot ty (get_or classes 0 class.NoClass) ∷ slots tys (drop 1 classes)

abbrev pub code_op : Op → Note → CodeOp
code_op (tac.Do to action from) n = Do to action from n.removes
code_op (tac.Call to function from) n = Call to function from n.passes n.protects n.removes
code_op (tac.Go function from) n = Go function from n.passes n.removes
code_op (tac.Print pieces from) n = Print pieces from n.removes
code_op (tac.Jump target) n = Jump target n.removes
code_op (tac.Branch test target other) n = Branch test target n.removes other n.otherwise
code_op (tac.Return value) n = Return value

abbrev pub code_instr : Instr → Note → CodeInstr
code_instr i n = record { creates = n.creates; op = code_op i.op n; place = i.place }

-- each instruction with its note; those without one have an empty one
abbrev pub code_body : List Instr → List Note → List CodeInstr
code_body [] notes = []
code_body (i ∷ is) notes = code_instr i (get_or notes 0 no_note) ∷ code_body is (drop 1 notes)

abbrev pub code_fn : TacFn → Regions → CodeFn
code_fn f r = record {
  name = f.name;
  params = f.params;
  result = option_map (λ ty. slot ty r.result) f.result_type;
  variables = slots f.variables r.classes;
  entry = r.entry;
  body = code_body f.body r.notes;
}

abbrev pub code_fns : List TacFn → List Regions → List CodeFn
code_fns [] regions = []
code_fns (f ∷ fs) regions = code_fn f (get_or regions 0 no_regions) ∷ code_fns fs (drop 1 regions)

abbrev pub code_of : Tac → Undeclared → List Regions → Code
code_of code undeclared regions = record {
  structs = code.structs;
  variables = code.variables;
  functions = code_fns code.functions regions;
  undeclared = undeclared;
}
