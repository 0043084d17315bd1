-- The erasure of code is the three-address code of which it is made.
use Rattle.std.proofs.Common.{◌≡◌, ◌∷◌, List, [], Option, Some, None, map, drop, get_or, refl, ap, ◌∙◌}
use Rattle.std.specs.Option.{option_map}
use Rattle.rgo_typed.specs.declared.types.Type.{«Type»}
use Rattle.rgo_tac.specs.declared.regions.Class.{Class}
use Rattle.rgo_tac.specs.Code.{Op, Instr, TacFn, Do, Call, Go, Print, Jump, Branch, Return}
use Rattle.rgo_code.specs.declared.notes.Note.{Note}
use Rattle.rgo_code.specs.declared.notes.Regions.{Regions}
use Rattle.rgo_code.specs.Erasure.{erased_op, erased_instr, erased_fn}
use Rattle.rgo_code.specs.Laws.{ErasureIsCode}
use Rattle.rgo_code.specs.Views.{no_note, no_regions, slot, slots, code_op, code_instr, code_body, code_fn, code_fns}

pub op_erased : (op : Op) (n : Note) → erased_op (code_op op n) ≡ op
op_erased (Do to action from) n = refl
op_erased (Call to function from) n = refl
op_erased (Go function from) n = refl
op_erased (Print pieces from) n = refl
op_erased (Jump target) n = refl
op_erased (Branch test target other) n = refl
op_erased (Return value) n = refl

pub instr_erased : (i : Instr) (n : Note) → erased_instr (code_instr i n) ≡ i
instr_erased i n = ap (λ op. record { op = op; place = i.place }) (op_erased i.op n)

pub body_erased : (is : List Instr) (notes : List Note) → map erased_instr (code_body is notes) ≡ is
body_erased [] notes = refl
body_erased (i ∷ is) notes =
    ap (λ first. first ∷ map erased_instr (code_body is (drop 1 notes))) (instr_erased i (get_or notes 0 no_note))
    ∙ ap (λ rest. i ∷ rest) (body_erased is (drop 1 notes))

pub types_erased : (tys : List «Type») (classes : List Class) → map (λ s. s.ty) (slots tys classes) ≡ tys
types_erased [] classes = refl
types_erased (ty ∷ tys) classes = ap (λ rest. ty ∷ rest) (types_erased tys (drop 1 classes))

pub result_erased : (ty : Option «Type») (c : Class)
    → option_map (λ s. s.ty) (option_map (λ t. slot t c) ty) ≡ ty
result_erased None c = refl
result_erased (Some ty) c = refl

abbrev function : TacFn → Option «Type» → List «Type» → List Instr → TacFn
function f result variables body = record {
  name = f.name;
  params = f.params;
  result_type = result;
  variables = variables;
  body = body;
}

pub fn_erased : (f : TacFn) (r : Regions) → erased_fn (code_fn f r) ≡ f
fn_erased f r =
    let c = code_fn f r in
    ap (λ ty. function f ty (map (λ s. s.ty) c.variables) (map erased_instr c.body))
    (result_erased f.result_type r.result)
    ∙ ap (λ tys. function f f.result_type tys (map erased_instr c.body)) (types_erased f.variables r.classes)
    ∙ ap (λ is. function f f.result_type f.variables is) (body_erased f.body r.notes)

fns_erased : (fs : List TacFn) (regions : List Regions) → map erased_fn (code_fns fs regions) ≡ fs
fns_erased [] regions = refl
fns_erased (f ∷ fs) regions =
    ap (λ first. first ∷ map erased_fn (code_fns fs (drop 1 regions))) (fn_erased f (get_or regions 0 no_regions))
    ∙ ap (λ rest. f ∷ rest) (fns_erased fs (drop 1 regions))

pub erasure_is_code : ErasureIsCode
erasure_is_code code undeclared regions =
    ap (λ fs. record { structs = code.structs; variables = code.variables; functions = fs })
    (fns_erased code.functions regions)
