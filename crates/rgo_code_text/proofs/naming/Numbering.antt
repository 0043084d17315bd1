-- The numbers that code uses are those of the names that its lines use.
use Rattle.std.proofs.Common.{◌≡◌, ℕ, List, [], ◌∷◌, ◌++◌, map, Option, Some, None, refl, sym, ap, ◌∙◌}
use Rattle.std.specs.List.{flat_map}
use Rattle.std.specs.Option.{option_map}
use Rattle.std.proofs.lemmas.List.{map-append}
use Rattle.rgo_typed.specs.declared.actions.Action.TheVariants as action
use Rattle.rgo_typed.specs.declared.types.Base.{Base}
use Rattle.rgo_typed.specs.declared.types.Base.TheVariants as base
use Rattle.rgo_code.specs.Code.{CodeOp, Do, Call, Go}
use Rattle.rgo_code_text.specs.Building.{numbered_base, numbered_type, numbered_slot, numbered_op}
use Rattle.rgo_code_text.specs.Building.{base_names, type_names, result_names, op_structs, op_variables, op_functions}
use Rattle.rgo_code_text.specs.Items.{NamedSlot}
use Rattle.rgo_code_words.specs.Readers.{NamedType}
use Rattle.rgo_code_printing.specs.Text.{Names}
use Rattle.rgo_code_text.specs.Written.{number_of_name, base_uses, type_uses, result_uses, struct_of_op, variable_in, function_in}

base_numbers : (n : Names) (b : Base) (name : List ℕ)
    → base_uses (numbered_base n b name) ≡ map (number_of_name n.structs) (base_names b name)
base_numbers n base.Int name = refl
base_numbers n base.Bool name = refl
base_numbers n (base.Pointer k) name = refl

pub type_numbers : (n : Names) (t : NamedType)
    → type_uses (numbered_type n t) ≡ map (number_of_name n.structs) (type_names t)
type_numbers n t = base_numbers n t.ty.base t.name

pub fields_numbers : (n : Names) (ts : List NamedType)
    → flat_map type_uses (map (numbered_type n) ts) ≡ map (number_of_name n.structs) (flat_map type_names ts)
fields_numbers n [] = refl
fields_numbers n (t ∷ ts) =
    ap (λ ns. ns ++ flat_map type_uses (map (numbered_type n) ts)) (type_numbers n t)
    ∙ ap (λ ns. map (number_of_name n.structs) (type_names t) ++ ns) (fields_numbers n ts)
    ∙ sym (map-append (number_of_name n.structs) (type_names t) (flat_map type_names ts))

pub result_numbers : (n : Names) (s : Option NamedSlot)
    → result_uses (option_map (numbered_slot n) s) ≡ map (number_of_name n.structs) (result_names s)
result_numbers n None = refl
result_numbers n (Some s) = type_numbers n s.ty

pub structs_numbers : (n : Names) (op : CodeOp) (name : List ℕ)
    → struct_of_op (numbered_op n op name) ≡ map (number_of_name n.structs) (op_structs op name)
structs_numbers n (Do to (action.New k) from removes) name = refl
structs_numbers n (Do to (action.Get k) from removes) name = refl
structs_numbers n (Do to (action.Set k) from removes) name = refl
structs_numbers n (Do to _ from removes) name = refl
structs_numbers n _ name = refl

pub variables_numbers : (n : Names) (op : CodeOp) (name : List ℕ)
    → variable_in (numbered_op n op name) ≡ map (number_of_name n.variables) (op_variables op name)
variables_numbers n (Do to (action.New k) from removes) name = refl
variables_numbers n (Do to (action.Get k) from removes) name = refl
variables_numbers n (Do to (action.Set k) from removes) name = refl
variables_numbers n (Do to _ from removes) name = refl
variables_numbers n _ name = refl

pub functions_numbers : (n : Names) (op : CodeOp) (name : List ℕ)
    → function_in (numbered_op n op name) ≡ map (number_of_name n.functions) (op_functions op name)
functions_numbers n (Call to f from passes protects removes) name = refl
functions_numbers n (Go f from passes removes) name = refl
functions_numbers n _ name = refl
