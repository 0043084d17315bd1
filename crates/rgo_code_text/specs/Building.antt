-- Code, made of the lines of its text: names get their numbers, and each line adds to what the lines before it made.
use Rattle.std.specs.Prelude.{◌≡◌, ℕ, List, [], ◌∷◌, ◌++◌, map, drop, length, Option, Some, None}
use Rattle.std.specs.Option.{option_map}
use Rattle.std.specs.List.{flat_map}
use Rattle.rgo_typed.specs.declared.actions.Action.{Action}
use Rattle.rgo_typed.specs.declared.actions.Action.TheVariants as action
use Rattle.rgo_typed.specs.declared.types.Base.{Base}
use Rattle.rgo_typed.specs.declared.types.Base.TheVariants as base
use Rattle.rgo_typed.specs.declared.types.Type.{«Type»}
use Rattle.rgo_code.specs.Code.{Slot, CodeOp, CodeInstr, Code, Do, Call, Go, Print, Jump, Branch, Return}
use Rattle.rgo_code_text.specs.declared.numbers.Counts.{Counts}
use Rattle.rgo_code_text.specs.declared.numbers.Tables.{Tables}
use Rattle.rgo_code_text.specs.CodeLines.{Line, Building, empty_building, with_lines}
use Rattle.rgo_code_text.specs.CodeLines as line
use Rattle.rgo_code_text.specs.Items.{NamedSlot, Item}
use Rattle.rgo_code_text.specs.Items as item
use Rattle.rgo_code_text.specs.Numbers.{with_name}
use Rattle.rgo_code_words.specs.Readers.{NamedType}
use Rattle.rgo_code_printing.specs.Text.{Names}
use Rattle.rgo_code_text.specs.Written.{ActionNaming, NamesNothing, NamesStruct, NamesVariable, naming_of, number_of_name}

-- ---- the names of lines

abbrev pub declared_struct : Item → List (List ℕ)
declared_struct (item.Struct name fields) = name ∷ []
declared_struct i = []

abbrev pub declared_variable : Item → List (List ℕ)
declared_variable (item.Global name ty) = name ∷ []
declared_variable i = []

abbrev pub declared_function : Item → List (List ℕ)
declared_function (item.Function name params slot) = name ∷ []
declared_function i = []

abbrev pub base_names : Base → List ℕ → List (List ℕ)
base_names (base.Pointer n) name = name ∷ []
base_names b name = []

abbrev pub type_names : NamedType → List (List ℕ)
type_names t = base_names t.ty.base t.name

abbrev pub result_names : Option NamedSlot → List (List ℕ)
result_names None = []
result_names (Some s) = type_names s.ty

abbrev pub struct_name : ActionNaming → List ℕ → List (List ℕ)
struct_name NamesNothing name = []
struct_name (NamesStruct n) name = name ∷ []
struct_name (NamesVariable n) name = []

abbrev pub variable_name : ActionNaming → List ℕ → List (List ℕ)
variable_name NamesNothing name = []
variable_name (NamesVariable n) name = name ∷ []
variable_name (NamesStruct n) name = []

abbrev pub op_structs : CodeOp → List ℕ → List (List ℕ)
op_structs (Do to action from removes) name = struct_name (naming_of action) name
op_structs (Call to f from passes protects removes) name = []
op_structs (Go f from passes removes) name = []
op_structs (Print pieces from removes) name = []
op_structs (Jump target removes) name = []
op_structs (Branch test target removes other otherwise) name = []
op_structs (Return value) name = []

abbrev pub op_variables : CodeOp → List ℕ → List (List ℕ)
op_variables (Do to action from removes) name = variable_name (naming_of action) name
op_variables (Call to f from passes protects removes) name = []
op_variables (Go f from passes removes) name = []
op_variables (Print pieces from removes) name = []
op_variables (Jump target removes) name = []
op_variables (Branch test target removes other otherwise) name = []
op_variables (Return value) name = []

abbrev pub op_functions : CodeOp → List ℕ → List (List ℕ)
op_functions (Call to f from passes protects removes) name = name ∷ []
op_functions (Go f from passes removes) name = name ∷ []
op_functions (Do to action from removes) name = []
op_functions (Print pieces from removes) name = []
op_functions (Jump target removes) name = []
op_functions (Branch test target removes other otherwise) name = []
op_functions (Return value) name = []

-- the names that a line uses
abbrev pub used_structs : Item → List (List ℕ)
used_structs (item.Struct name fields) = flat_map type_names fields
used_structs (item.Global name ty) = type_names ty
used_structs (item.Function name params slot) = result_names slot
used_structs (item.Slot slot) = type_names slot.ty
used_structs (item.Instr i instr name) = op_structs instr.op name
used_structs i = []

abbrev pub used_variables : Item → List (List ℕ)
used_variables (item.Instr i instr name) = op_variables instr.op name
used_variables i = []

abbrev pub used_functions : Item → List (List ℕ)
used_functions (item.Instr i instr name) = op_functions instr.op name
used_functions i = []

-- these names, with those of the others that are new, in order
abbrev pub with_all_names : (names others : List (List ℕ)) → List (List ℕ)
with_all_names names [] = names
with_all_names names (name ∷ others) = with_all_names (with_name names name) others

abbrev pub declared_in : List Item → Names
declared_in items = record {
  structs = flat_map declared_struct items;
  variables = flat_map declared_variable items;
  functions = flat_map declared_function items;
}

-- one kind: these names, with those of the others that are new
abbrev pub with_struct_names : Names → List (List ℕ) → Names
with_struct_names n names = record n { structs = with_all_names n.structs names }

-- with what a line declares, or uses
abbrev pub with_declared : Names → Item → Names
with_declared n i = record {
  structs = n.structs ++ declared_struct i;
  variables = n.variables ++ declared_variable i;
  functions = n.functions ++ declared_function i;
}

abbrev pub with_used : Names → Item → Names
with_used n i = record {
  structs = with_all_names n.structs (used_structs i);
  variables = with_all_names n.variables (used_variables i);
  functions = with_all_names n.functions (used_functions i);
}

-- the same line by line
abbrev pub all_declared : Names → List Item → Names
all_declared n [] = n
all_declared n (i ∷ items) = all_declared (with_declared n i) items

abbrev pub all_used : Names → List Item → Names
all_used n [] = n
all_used n (i ∷ items) = all_used (with_used n i) items

-- what the tables of the code have
abbrev pub names_now : Tables → Names
names_now t = record { structs = t.structs; variables = t.globals; functions = t.functions }

-- how many names of each kind
pub record CountsAre (counts : Counts) (n : Names) : Type 0 where
  pub structs : counts.structs ≡ length n.structs
  pub variables : counts.globals ≡ length n.variables
  pub functions : counts.functions ≡ length n.functions

-- all names of these lines by number
abbrev pub names_in : List Item → Names
names_in items = record {
  structs = with_all_names (declared_in items).structs (flat_map used_structs items);
  variables = with_all_names (declared_in items).variables (flat_map used_variables items);
  functions = with_all_names (declared_in items).functions (flat_map used_functions items);
}

-- ---- numbers for names

abbrev pub numbered_base : Names → Base → List ℕ → Base
numbered_base n (base.Pointer k) name = base.Pointer (number_of_name n.structs name)
numbered_base n b name = b

abbrev pub numbered_type : Names → NamedType → «Type»
numbered_type n t = record { layers = t.ty.layers; base = numbered_base n t.ty.base t.name }

abbrev pub numbered_slot : Names → NamedSlot → Slot
numbered_slot n s = record { ty = numbered_type n s.ty; class = s.class }

abbrev pub numbered_action : Names → Action → List ℕ → Action
numbered_action n (action.New k) name = action.New (number_of_name n.structs name)
numbered_action n (action.Get k) name = action.Get (number_of_name n.variables name)
numbered_action n (action.Set k) name = action.Set (number_of_name n.variables name)
numbered_action n (action.Int k) name = action.Int k
numbered_action n (action.Bool b) name = action.Bool b
numbered_action n action.Nil name = action.Nil
numbered_action n action.Copy name = action.Copy
numbered_action n (action.Binary op) name = action.Binary op
numbered_action n action.Neg name = action.Neg
numbered_action n action.Not name = action.Not
numbered_action n action.IsNil name = action.IsNil
numbered_action n action.Len name = action.Len
numbered_action n (action.Load k) name = action.Load k
numbered_action n (action.Store k) name = action.Store k
numbered_action n action.At name = action.At
numbered_action n action.Put name = action.Put
numbered_action n action.Slice name = action.Slice
numbered_action n action.Chan name = action.Chan
numbered_action n action.Recv name = action.Recv
numbered_action n action.Send name = action.Send
numbered_action n action.Close name = action.Close

abbrev pub numbered_op : Names → CodeOp → List ℕ → CodeOp
numbered_op n (Do to action from removes) name = Do to (numbered_action n action name) from removes
numbered_op n (Call to f from passes protects removes) name =
    Call to (number_of_name n.functions name) from passes protects removes
numbered_op n (Go f from passes removes) name = Go (number_of_name n.functions name) from passes removes
numbered_op n (Print pieces from removes) name = Print pieces from removes
numbered_op n (Jump target removes) name = Jump target removes
numbered_op n (Branch test target removes other otherwise) name = Branch test target removes other otherwise
numbered_op n (Return value) name = Return value

abbrev pub numbered_instr : Names → CodeInstr → List ℕ → CodeInstr
numbered_instr n i name = record { creates = i.creates; op = numbered_op n i.op name; place = i.place }

-- the line of an item
abbrev pub line_of_item : Names → Item → Line
line_of_item n item.Head = line.Head
line_of_item n (item.Struct name fields) = line.Struct (record { name = name; fields = map (numbered_type n) fields })
line_of_item n (item.Global name ty) = line.Global (record { name = name; ty = numbered_type n ty })
line_of_item n (item.Function name params slot) = line.Function name params (option_map (numbered_slot n) slot)
line_of_item n (item.Slot slot) = line.Var (numbered_slot n slot)
line_of_item n (item.Entry names) = line.Entry names
line_of_item n (item.Instr i instr name) = line.Instr i (numbered_instr n instr name)
line_of_item n item.End = line.End

abbrev pub built : Names → Names → Building → Code
built names declared b = record {
  structs = b.structs;
  variables = b.variables;
  functions = b.functions;
  undeclared = record {
    structs = drop (length declared.structs) names.structs;
    variables = drop (length declared.variables) names.variables;
    functions = drop (length declared.functions) names.functions;
  };
}

-- the code with these lines
abbrev pub code_of_items : List Item → Code
code_of_items items =
    built (names_in items) (declared_in items) (with_lines empty_building (map (line_of_item (names_in items)) items))
