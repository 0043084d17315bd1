-- The text of code has lines that make the code again. The hard part is the numbers: they are replaced by names, and the names are numbered
-- again. Each gets its own number back, since code that is written uses the first number of each name and lists the others by first use.
use Rattle.std.proofs.Common.{◌≡◌, ℕ, ◌<◌, List, [], ◌∷◌, ◌++◌, map, length, drop, Option, Some, None, IfSome, refl, sym, ap, subst, ◌∙◌}
use Rattle.std.specs.List.{All, flat_map}
use Rattle.std.specs.Option.{option_map}
use Rattle.std.proofs.lemmas.List.{map-append, drop_at}
use Rattle.std.proofs.lemmas.List.Elements.{All-nil, All-cons, All-head, All-tail}
use Rattle.rgo_typed.specs.declared.actions.Action.{Action}
use Rattle.rgo_typed.specs.declared.actions.Action.TheVariants as action
use Rattle.rgo_typed.specs.declared.types.Base.{Base}
use Rattle.rgo_typed.specs.declared.types.Base.TheVariants as base
use Rattle.rgo_typed.specs.declared.types.Type.{«Type»}
use Rattle.rgo_code.specs.Code.{Slot as CodeSlot, CodeOp, CodeInstr, Code, Do, Call, Go, Print, Jump, Branch, Return}
use Rattle.rgo_code_text.specs.declared.places.Place.{Place}
use Rattle.rgo_code_text.specs.declared.places.Place.TheVariants.{First}
use Rattle.rgo_code_text.specs.Building.{line_of_item, numbered_base, numbered_type, numbered_slot, numbered_op, numbered_action, code_of_items, built, names_in, declared_in, declared_struct, declared_variable, declared_function, used_structs, used_variables, used_functions, type_names, base_names, result_names, op_structs, op_variables, op_functions, with_all_names}
use Rattle.rgo_code_text.specs.CodeLines.{Line, empty_building, with_lines, code_lines_of, line_kind, LineFits, line_struct, line_variable, line_function, uses_structs, uses_variables, uses_functions}
use Rattle.rgo_code_text.specs.CodeLines as line
use Rattle.rgo_code_text.specs.Items.{NamedSlot, Item, Head, Struct, Global, Function, Slot, Entry, Instr, End, ItemFits, IsName, BaseFits, TypeFits, NamedSlotFits, ActionIsNamed, OpIsNamed, item_kind, items_text, place_after_items}
use Rattle.rgo_code_text.specs.Order.{after_kinds, IsLast}
use Rattle.rgo_code_words.specs.Readers.{NamedType}
use Rattle.rgo_code_printing.specs.Text.{Names, names_of, text_of}
use Rattle.rgo_code_printing.specs.Words.{name_at}
use Rattle.rgo_code_text.specs.Written.{unknown, AreFirst, HasCodeText, KindIsWritten, uses_of, number_of_name, base_uses, type_uses, result_uses, struct_of_op, variable_in, function_in, SlotFits, OpHasText}
use Rattle.rgo_code_words.specs.Worded.{AreNames}
use Rattle.rgo_code_text.proofs.code_of_lines.Assembling.{code_again}
use Rattle.rgo_code_text.proofs.naming.Knowing.{names_are, all_flat}
use Rattle.rgo_code_text.proofs.code_of_lines.LinesOfCode.{structs_used, variables_used, functions_used, structs_declared, variables_declared, functions_declared, code_fits, code_ordered}
use Rattle.rgo_code_words.proofs.ListFacts.{front_all, back_all}
use Rattle.rgo_code_text.proofs.code_of_lines.Making.{made, op_fits}

-- ---- names in place of numbers

zero_base : Base → Base
zero_base (base.Pointer k) = base.Pointer 0
zero_base b = b

base_name : Names → Base → List ℕ
base_name n (base.Pointer k) = name_at n.structs k
base_name n b = []

named_type : Names → «Type» → NamedType
named_type n ty = record { ty = record { layers = ty.layers; base = zero_base ty.base }; name = base_name n ty.base }

named_slot : Names → CodeSlot → NamedSlot
named_slot n s = record { ty = named_type n s.ty; class = s.class }

zero_action : Action → Action
zero_action (action.New k) = action.New 0
zero_action (action.Get k) = action.Get 0
zero_action (action.Set k) = action.Set 0
zero_action a = a

action_name : Names → Action → List ℕ
action_name n (action.New k) = name_at n.structs k
action_name n (action.Get k) = name_at n.variables k
action_name n (action.Set k) = name_at n.variables k
action_name n a = []

zero_op : CodeOp → CodeOp
zero_op (Do to a from removes) = Do to (zero_action a) from removes
zero_op (Call to f from passes protects removes) = Call to 0 from passes protects removes
zero_op (Go f from passes removes) = Go 0 from passes removes
zero_op op = op

op_name : Names → CodeOp → List ℕ
op_name n (Do to a from removes) = action_name n a
op_name n (Call to f from passes protects removes) = name_at n.functions f
op_name n (Go f from passes removes) = name_at n.functions f
op_name n op = []

zero_instr : CodeInstr → CodeInstr
zero_instr i = record { creates = i.creates; op = zero_op i.op; place = i.place }

named : Names → Line → Item
named n line.Head = Head
named n (line.Struct s) = Struct s.name (map (named_type n) s.fields)
named n (line.Global v) = Global v.name (named_type n v.ty)
named n (line.Function name params result) = Function name params (option_map (named_slot n) result)
named n (line.Var slot) = Slot (named_slot n slot)
named n (line.Entry names) = Entry names
named n (line.Instr i instr) = Instr i (zero_instr instr) (op_name n instr.op)
named n line.End = End

-- ---- numbers that a line uses

-- each is the number of the first one of its name, which is a name
abbrev Known : List (List ℕ) → ℕ → Type 0
Known names k = (number_of_name names (name_at names k) ≡ k) × IsName (name_at names k)

abbrev AllKnown : List (List ℕ) → List ℕ → Type 0
AllKnown names ks = All (Known names) ks

record LineKnown (n : Names) (l : Line) : Type 0 where
  pub structs : AllKnown n.structs (uses_structs l)
  pub variables : AllKnown n.variables (uses_variables l)
  pub functions : AllKnown n.functions (uses_functions l)
  pub struct : AreNames (line_struct l)
  pub variable : AreNames (line_variable l)
  pub function : AreNames (line_function l)

known_of : (names : List (List ℕ)) (ks : List ℕ) → AreNames names → AreFirst names ks → AllKnown names ks
known_of names [] a f = All-nil (Known names)
known_of names (k ∷ ks) a f =
    let first = All-head (λ k. (k < length names) × (number_of_name names (name_at names k) ≡ k)) k ks f in
    All-cons (Known names) k ks (first.1, a k [] first.0)
    (known_of names ks a (All-tail (λ k. (k < length names) × (number_of_name names (name_at names k) ≡ k)) k ks f))

-- ---- numbered again

base_again : (n : Names) (b : Base) → AllKnown n.structs (base_uses b) → numbered_base n (zero_base b) (base_name n b) ≡ b
unfolding zero_base base_name
base_again n base.Int k = refl
base_again n base.Bool k = refl
base_again n (base.Pointer j) k = ap base.Pointer (All-head (Known n.structs) j [] k).0

type_again : (n : Names) (ty : «Type») → AllKnown n.structs (type_uses ty) → numbered_type n (named_type n ty) ≡ ty
unfolding named_type
type_again n ty k = ap (λ b. record { layers = ty.layers; base = b }) (base_again n ty.base k)

types_again : (n : Names) (tys : List «Type») → AllKnown n.structs (flat_map type_uses tys)
    → map (numbered_type n) (map (named_type n) tys) ≡ tys
types_again n [] k = refl
types_again n (ty ∷ tys) k =
    ap (λ t. t ∷ map (numbered_type n) (map (named_type n) tys))
    (type_again n ty (front_all (Known n.structs) (type_uses ty) (flat_map type_uses tys) k))
    ∙ ap (λ ts. ty ∷ ts) (types_again n tys (back_all (Known n.structs) (type_uses ty) (flat_map type_uses tys) k))

slot_again : (n : Names) (s : CodeSlot) → AllKnown n.structs (type_uses s.ty) → numbered_slot n (named_slot n s) ≡ s
unfolding named_slot
slot_again n s k = ap (λ t. record { ty = t; class = s.class }) (type_again n s.ty k)

result_again : (n : Names) (o : Option CodeSlot) → AllKnown n.structs (result_uses o)
    → option_map (numbered_slot n) (option_map (named_slot n) o) ≡ o
result_again n None k = refl
result_again n (Some s) k = ap Some (slot_again n s k)

action_again : (n : Names) (to : Option ℕ) (a : Action) (from removes : List ℕ)
    → AllKnown n.structs (struct_of_op (Do to a from removes)) → AllKnown n.variables (variable_in (Do to a from removes))
    → numbered_action n (zero_action a) (action_name n a) ≡ a
unfolding zero_action action_name
action_again n to (action.New k) from removes s v = ap action.New (All-head (Known n.structs) k [] s).0
action_again n to (action.Get k) from removes s v = ap action.Get (All-head (Known n.variables) k [] v).0
action_again n to (action.Set k) from removes s v = ap action.Set (All-head (Known n.variables) k [] v).0
action_again n to _ from removes s v = refl

op_again : (n : Names) (op : CodeOp) → AllKnown n.structs (struct_of_op op) → AllKnown n.variables (variable_in op)
    → AllKnown n.functions (function_in op) → numbered_op n (zero_op op) (op_name n op) ≡ op
unfolding zero_op op_name
op_again n (Do to a from removes) s v f = ap (λ b. Do to b from removes) (action_again n to a from removes s v)
op_again n (Call to k from passes protects removes) s v f =
    ap (λ j. Call to j from passes protects removes) (All-head (Known n.functions) k [] f).0
op_again n (Go k from passes removes) s v f = ap (λ j. Go j from passes removes) (All-head (Known n.functions) k [] f).0
op_again n (Print pieces from removes) s v f = refl
op_again n (Jump target removes) s v f = refl
op_again n (Branch test target removes other otherwise) s v f = refl
op_again n (Return value) s v f = refl

line_again : (n : Names) (l : Line) → LineKnown n l → line_of_item n (named n l) ≡ l
unfolding named zero_instr
line_again n line.Head k = refl
line_again n (line.Struct s) k = ap (λ ts. line.Struct (record { name = s.name; fields = ts })) (types_again n s.fields k.structs)
line_again n (line.Global v) k = ap (λ t. line.Global (record { name = v.name; ty = t })) (type_again n v.ty k.structs)
line_again n (line.Function name params result) k = ap (line.Function name params) (result_again n result k.structs)
line_again n (line.Var slot) k = ap line.Var (slot_again n slot k.structs)
line_again n (line.Entry names) k = refl
line_again n (line.Instr i instr) k =
    ap (λ op. line.Instr i (record { creates = instr.creates; op = op; place = instr.place }))
    (op_again n instr.op k.structs k.variables k.functions)
line_again n line.End k = refl

-- ---- the items fit

base_fits : (n : Names) (b : Base) → AllKnown n.structs (base_uses b) → BaseFits (zero_base b) (base_name n b)
unfolding zero_base base_name
base_fits n base.Int k = refl
base_fits n base.Bool k = refl
base_fits n (base.Pointer j) k = (refl, (All-head (Known n.structs) j [] k).1)

type_fits : (n : Names) (ty : «Type») → AllKnown n.structs (type_uses ty) → TypeFits (named_type n ty)
unfolding named_type
type_fits n ty k = base_fits n ty.base k

types_fit : (n : Names) (tys : List «Type») → AllKnown n.structs (flat_map type_uses tys) → All TypeFits (map (named_type n) tys)
types_fit n [] k = All-nil TypeFits
types_fit n (ty ∷ tys) k =
    All-cons TypeFits (named_type n ty) (map (named_type n) tys)
    (type_fits n ty (front_all (Known n.structs) (type_uses ty) (flat_map type_uses tys) k))
    (types_fit n tys (back_all (Known n.structs) (type_uses ty) (flat_map type_uses tys) k))

slot_fits : (n : Names) (s : CodeSlot) → SlotFits s → AllKnown n.structs (type_uses s.ty) → NamedSlotFits (named_slot n s)
unfolding named_slot
slot_fits n s f k = (type_fits n s.ty k, f)

result_fits : (n : Names) (o : Option CodeSlot) → IfSome o SlotFits → AllKnown n.structs (result_uses o)
    → IfSome (option_map (named_slot n) o) NamedSlotFits
result_fits n None f k = tt
result_fits n (Some s) f k = slot_fits n s f k

action_named : (n : Names) (to : Option ℕ) (a : Action) (from removes : List ℕ)
    → AllKnown n.structs (struct_of_op (Do to a from removes)) → AllKnown n.variables (variable_in (Do to a from removes))
    → ActionIsNamed (zero_action a) (action_name n a)
unfolding zero_action action_name
action_named n to (action.New k) from removes s v = (refl, (All-head (Known n.structs) k [] s).1)
action_named n to (action.Get k) from removes s v = (refl, (All-head (Known n.variables) k [] v).1)
action_named n to (action.Set k) from removes s v = (refl, (All-head (Known n.variables) k [] v).1)
action_named n to _ from removes s v = refl

op_named : (n : Names) (op : CodeOp) → AllKnown n.structs (struct_of_op op) → AllKnown n.variables (variable_in op)
    → AllKnown n.functions (function_in op) → OpIsNamed (zero_op op) (op_name n op)
unfolding zero_op op_name
op_named n (Do to a from removes) s v f = action_named n to a from removes s v
op_named n (Call to k from passes protects removes) s v f = (refl, (All-head (Known n.functions) k [] f).1)
op_named n (Go k from passes removes) s v f = (refl, (All-head (Known n.functions) k [] f).1)
op_named n (Print pieces from removes) s v f = refl
op_named n (Jump target removes) s v f = refl
op_named n (Branch test target removes other otherwise) s v f = refl
op_named n (Return value) s v f = refl

-- numbers are taken out as they are put in: each name has the number 0
without : Names
without = record { structs = []; variables = []; functions = [] }

zeroed_action : (a : Action) → numbered_action without a [] ≡ zero_action a
unfolding zero_action without
zeroed_action (action.New k) = refl
zeroed_action (action.Get k) = refl
zeroed_action (action.Set k) = refl
zeroed_action _ = refl

zeroed : (op : CodeOp) → numbered_op without op [] ≡ zero_op op
unfolding zero_op without
zeroed (Do to a from removes) = ap (λ b. Do to b from removes) (zeroed_action a)
zeroed (Call to k from passes protects removes) = refl
zeroed (Go k from passes removes) = refl
zeroed (Print pieces from removes) = refl
zeroed (Jump target removes) = refl
zeroed (Branch test target removes other otherwise) = refl
zeroed (Return value) = refl

line_fits : (n : Names) (l : Line) → LineFits l → LineKnown n l → ItemFits (named n l)
unfolding named zero_instr
line_fits n line.Head f k = tt
line_fits n (line.Struct s) f k = (All-head IsName s.name [] k.struct, types_fit n s.fields k.structs)
line_fits n (line.Global v) f k = (All-head IsName v.name [] k.variable, type_fits n v.ty k.structs)
line_fits n (line.Function name params result) f k = (All-head IsName name [] k.function, f.0, result_fits n result f.1 k.structs)
line_fits n (line.Var slot) f k = slot_fits n slot f k.structs
line_fits n (line.Entry names) f k = f
line_fits n (line.Instr i instr) f k = (
  f.0,
  (f.1.0, f.1.1, subst OpHasText (zeroed instr.op) (op_fits without instr.op [] f.1.2)),
  op_named n instr.op k.structs k.variables k.functions,
)
line_fits n line.End f k = tt

-- ---- what items declare and use

kind_back : (n : Names) (l : Line) → item_kind (named n l) ≡ line_kind l
unfolding named
kind_back n line.Head = refl
kind_back n (line.Struct s) = refl
kind_back n (line.Global v) = refl
kind_back n (line.Function name params result) = refl
kind_back n (line.Var slot) = refl
kind_back n (line.Entry names) = refl
kind_back n (line.Instr i instr) = refl
kind_back n line.End = refl

struct_back : (n : Names) (l : Line) → declared_struct (named n l) ≡ line_struct l
unfolding named
struct_back n (line.Struct s) = refl
struct_back n line.Head = refl
struct_back n (line.Global v) = refl
struct_back n (line.Function name params result) = refl
struct_back n (line.Var slot) = refl
struct_back n (line.Entry names) = refl
struct_back n (line.Instr i instr) = refl
struct_back n line.End = refl

variable_back : (n : Names) (l : Line) → declared_variable (named n l) ≡ line_variable l
unfolding named
variable_back n (line.Struct s) = refl
variable_back n line.Head = refl
variable_back n (line.Global v) = refl
variable_back n (line.Function name params result) = refl
variable_back n (line.Var slot) = refl
variable_back n (line.Entry names) = refl
variable_back n (line.Instr i instr) = refl
variable_back n line.End = refl

function_back : (n : Names) (l : Line) → declared_function (named n l) ≡ line_function l
unfolding named
function_back n (line.Struct s) = refl
function_back n line.Head = refl
function_back n (line.Global v) = refl
function_back n (line.Function name params result) = refl
function_back n (line.Var slot) = refl
function_back n (line.Entry names) = refl
function_back n (line.Instr i instr) = refl
function_back n line.End = refl

base_used : (n : Names) (b : Base) → base_names (zero_base b) (base_name n b) ≡ map (name_at n.structs) (base_uses b)
unfolding zero_base base_name
base_used n base.Int = refl
base_used n base.Bool = refl
base_used n (base.Pointer k) = refl

type_used : (n : Names) (ty : «Type») → type_names (named_type n ty) ≡ map (name_at n.structs) (type_uses ty)
unfolding named_type
type_used n ty = base_used n ty.base

types_used : (n : Names) (tys : List «Type»)
    → flat_map type_names (map (named_type n) tys) ≡ map (name_at n.structs) (flat_map type_uses tys)
types_used n [] = refl
types_used n (ty ∷ tys) =
    ap (λ ns. ns ++ flat_map type_names (map (named_type n) tys)) (type_used n ty)
    ∙ ap (λ ns. map (name_at n.structs) (type_uses ty) ++ ns) (types_used n tys)
    ∙ sym (map-append (name_at n.structs) (type_uses ty) (flat_map type_uses tys))

slot_used : (n : Names) (s : CodeSlot) → type_names (named_slot n s).ty ≡ map (name_at n.structs) (type_uses s.ty)
unfolding named_slot
slot_used n s = type_used n s.ty

result_used : (n : Names) (o : Option CodeSlot)
    → result_names (option_map (named_slot n) o) ≡ map (name_at n.structs) (result_uses o)
result_used n None = refl
result_used n (Some s) = slot_used n s

op_structs_used : (n : Names) (op : CodeOp) → op_structs (zero_op op) (op_name n op) ≡ map (name_at n.structs) (struct_of_op op)
unfolding zero_op op_name zero_action action_name
op_structs_used n (Do to (action.New k) from removes) = refl
op_structs_used n (Do to (action.Get k) from removes) = refl
op_structs_used n (Do to (action.Set k) from removes) = refl
op_structs_used n (Do to _ from removes) = refl
op_structs_used n _ = refl

op_variables_used : (n : Names) (op : CodeOp) → op_variables (zero_op op) (op_name n op) ≡ map (name_at n.variables) (variable_in op)
unfolding zero_op op_name zero_action action_name
op_variables_used n (Do to (action.New k) from removes) = refl
op_variables_used n (Do to (action.Get k) from removes) = refl
op_variables_used n (Do to (action.Set k) from removes) = refl
op_variables_used n (Do to _ from removes) = refl
op_variables_used n _ = refl

op_functions_used : (n : Names) (op : CodeOp) → op_functions (zero_op op) (op_name n op) ≡ map (name_at n.functions) (function_in op)
unfolding zero_op op_name
op_functions_used n (Call to k from passes protects removes) = refl
op_functions_used n (Go k from passes removes) = refl
op_functions_used n _ = refl

structs_back : (n : Names) (l : Line) → used_structs (named n l) ≡ map (name_at n.structs) (uses_structs l)
unfolding named zero_instr
structs_back n (line.Struct s) = types_used n s.fields
structs_back n (line.Global v) = type_used n v.ty
structs_back n (line.Function name params result) = result_used n result
structs_back n (line.Var slot) = slot_used n slot
structs_back n (line.Instr i instr) = op_structs_used n instr.op
structs_back n line.Head = refl
structs_back n (line.Entry names) = refl
structs_back n line.End = refl

variables_back : (n : Names) (l : Line) → used_variables (named n l) ≡ map (name_at n.variables) (uses_variables l)
unfolding named zero_instr
variables_back n (line.Instr i instr) = op_variables_used n instr.op
variables_back n line.Head = refl
variables_back n (line.Struct s) = refl
variables_back n (line.Global v) = refl
variables_back n (line.Function name params result) = refl
variables_back n (line.Var slot) = refl
variables_back n (line.Entry names) = refl
variables_back n line.End = refl

functions_back : (n : Names) (l : Line) → used_functions (named n l) ≡ map (name_at n.functions) (uses_functions l)
unfolding named zero_instr
functions_back n (line.Instr i instr) = op_functions_used n instr.op
functions_back n line.Head = refl
functions_back n (line.Struct s) = refl
functions_back n (line.Global v) = refl
functions_back n (line.Function name params result) = refl
functions_back n (line.Var slot) = refl
functions_back n (line.Entry names) = refl
functions_back n line.End = refl

-- ---- all lines

map_same : {A B C : Type 0} (f : A → B) (g : B → C) (h : A → C) (xs : List A) → ((x : A) → g (f x) ≡ h x)
    → map g (map f xs) ≡ map h xs
map_same f g h [] e = refl
map_same f g h (x ∷ xs) e = ap (λ y. y ∷ map g (map f xs)) (e x) ∙ ap (λ ys. h x ∷ ys) (map_same f g h xs e)

flat_lines : {A : Type 0} (f : Line → Item) (F : Item → List A) (G : Line → List A) (xs : List Line) → ((x : Line) → F (f x) ≡ G x)
    → flat_map F (map f xs) ≡ flat_map G xs
flat_lines f F G [] e = refl
flat_lines f F G (x ∷ xs) e =
    ap (λ ys. ys ++ flat_map F (map f xs)) (e x) ∙ ap (λ ys. G x ++ ys) (flat_lines f F G xs e)

flat_names : (f : Line → Item) (F : Item → List (List ℕ)) (G : Line → List ℕ) (name : ℕ → List ℕ) (xs : List Line)
    → ((x : Line) → F (f x) ≡ map name (G x)) → flat_map F (map f xs) ≡ map name (flat_map G xs)
flat_names f F G name [] e = refl
flat_names f F G name (x ∷ xs) e =
    ap (λ ys. ys ++ flat_map F (map f xs)) (e x) ∙ ap (λ ys. map name (G x) ++ ys) (flat_names f F G name xs e)
    ∙ sym (map-append name (G x) (flat_map G xs))

lines_again : (n : Names) (xs : List Line) → All (LineKnown n) xs → map (line_of_item n) (map (named n) xs) ≡ xs
lines_again n [] k = refl
lines_again n (x ∷ xs) k =
    ap (λ y. y ∷ map (line_of_item n) (map (named n) xs)) (line_again n x (All-head (LineKnown n) x xs k))
    ∙ ap (λ ys. x ∷ ys) (lines_again n xs (All-tail (LineKnown n) x xs k))

all_fit : (n : Names) (xs : List Line) → All LineFits xs → All (LineKnown n) xs → All ItemFits (map (named n) xs)
all_fit n [] a k = All-nil ItemFits
all_fit n (x ∷ xs) a k =
    All-cons ItemFits (named n x) (map (named n) xs)
    (line_fits n x (All-head LineFits x xs a) (All-head (LineKnown n) x xs k))
    (all_fit n xs (All-tail LineFits x xs a) (All-tail (LineKnown n) x xs k))

-- the items of a text
pub record Lined (code : Code) : Type 0 where
  pub items : List Item
  pub place : Place
  pub fit : All ItemFits items
  pub leads : place_after_items items First ≡ Some place
  pub last : IsLast place
  pub again : code_of_items items ≡ code
  pub text : text_of code ≡ items_text items

module _ (c : Code) (w : HasCodeText c) where
  abbrev n : Names
  n = names_of c

  abbrev items : List Item
  items = map (named (names_of c)) (code_lines_of c)

  structs_known : AllKnown n.structs (flat_map uses_structs (code_lines_of c))
  structs_known =
      subst (AllKnown n.structs) (sym (structs_used c)) (known_of n.structs (uses_of c).structs w.structs.names w.structs.first)

  variables_known : AllKnown n.variables (flat_map uses_variables (code_lines_of c))
  variables_known =
      subst (AllKnown n.variables) (sym (variables_used c))
      (known_of n.variables (uses_of c).variables w.variables.names w.variables.first)

  functions_known : AllKnown n.functions (flat_map uses_functions (code_lines_of c))
  functions_known =
      subst (AllKnown n.functions) (sym (functions_used c))
      (known_of n.functions (uses_of c).functions w.functions.names w.functions.first)

  all_known : All (LineKnown n) (code_lines_of c)
  all_known =
      let a = all_flat (Known n.structs) uses_structs (code_lines_of c) structs_known in
      let b = all_flat (Known n.variables) uses_variables (code_lines_of c) variables_known in
      let d = all_flat (Known n.functions) uses_functions (code_lines_of c) functions_known in
      let e = all_flat IsName line_struct (code_lines_of c) (subst AreNames (sym (structs_declared c))
      (front_all IsName (map (λ s. s.name) c.structs) c.undeclared.structs w.structs.names)) in
      let f = all_flat IsName line_variable (code_lines_of c) (subst AreNames (sym (variables_declared c))
      (front_all IsName (map (λ v. v.name) c.variables) c.undeclared.variables w.variables.names)) in
      let g = all_flat IsName line_function (code_lines_of c) (subst AreNames (sym (functions_declared c))
      (front_all IsName (map (λ f. f.name) c.functions) c.undeclared.functions w.functions.names)) in
      λ k x l. record { structs = a k x l; variables = b k x l; functions = d k x l; struct = e k x l; variable = f k x l; function = g k x l }

  kinds_same : map item_kind items ≡ map line_kind (code_lines_of c)
  kinds_same = map_same (named n) item_kind line_kind (code_lines_of c) (kind_back n)

  structs_declared_same : flat_map declared_struct items ≡ map (λ s. s.name) c.structs
  structs_declared_same = flat_lines (named n) declared_struct line_struct (code_lines_of c) (struct_back n) ∙ structs_declared c

  variables_declared_same : flat_map declared_variable items ≡ map (λ v. v.name) c.variables
  variables_declared_same = flat_lines (named n) declared_variable line_variable (code_lines_of c) (variable_back n) ∙ variables_declared c

  functions_declared_same : flat_map declared_function items ≡ map (λ f. f.name) c.functions
  functions_declared_same = flat_lines (named n) declared_function line_function (code_lines_of c) (function_back n) ∙ functions_declared c

  -- the names of one kind
  kind_names : (declared undeclared : List (List ℕ)) (uses : List ℕ) (us ds : List (List ℕ)) → KindIsWritten declared undeclared uses
      → ds ≡ declared → us ≡ map (name_at (declared ++ undeclared)) uses → with_all_names ds us ≡ declared ++ undeclared
  kind_names declared undeclared uses us ds k e f =
      ap (λ d. with_all_names d us) e ∙ names_are us declared
      ∙ ap (λ t. declared ++ t) (ap (unknown declared) f ∙ sym k.unknown)

  names_same : names_in items ≡ n
  names_same =
      let a = kind_names (map (λ s. s.name) c.structs) c.undeclared.structs (uses_of c).structs (flat_map used_structs items)
      (flat_map declared_struct items) w.structs structs_declared_same
      (flat_names (named n) used_structs uses_structs (name_at n.structs) (code_lines_of c) (structs_back n)
      ∙ ap (map (name_at n.structs)) (structs_used c)) in
      let b = kind_names (map (λ v. v.name) c.variables) c.undeclared.variables (uses_of c).variables (flat_map used_variables items)
      (flat_map declared_variable items) w.variables variables_declared_same
      (flat_names (named n) used_variables uses_variables (name_at n.variables) (code_lines_of c) (variables_back n)
      ∙ ap (map (name_at n.variables)) (variables_used c)) in
      let d = kind_names (map (λ f. f.name) c.functions) c.undeclared.functions (uses_of c).functions (flat_map used_functions items)
      (flat_map declared_function items) w.functions functions_declared_same
      (flat_names (named n) used_functions uses_functions (name_at n.functions) (code_lines_of c) (functions_back n)
      ∙ ap (map (name_at n.functions)) (functions_used c)) in
      ap (λ x. record { structs = x; variables = (names_in items).variables; functions = (names_in items).functions }) a
      ∙ ap (λ x. record { structs = n.structs; variables = x; functions = (names_in items).functions }) b
      ∙ ap (λ x. record { structs = n.structs; variables = n.variables; functions = x }) d

  -- what is not declared
  left_over : (declared undeclared ds all : List (List ℕ)) → ds ≡ declared → all ≡ declared ++ undeclared
      → drop (length ds) all ≡ undeclared
  left_over declared undeclared ds all e f =
      ap (λ d. drop (length d) all) e ∙ ap (drop (length declared)) f ∙ drop_at declared undeclared (length declared) refl

  made_again : code_of_items items ≡ c
  made_again =
      let b = with_lines empty_building (code_lines_of c) in
      let again = code_again c.structs c.variables c.functions in
      let lines : with_lines empty_building (map (line_of_item (names_in items)) items) ≡ b =
      ap (λ m. with_lines empty_building (map (line_of_item m) items)) names_same ∙ ap (with_lines empty_building) (lines_again n (code_lines_of c) all_known) in
      let s = left_over (map (λ s. s.name) c.structs) c.undeclared.structs (declared_in items).structs (names_in items).structs
      structs_declared_same (ap (λ m. m.structs) names_same) in
      let v = left_over (map (λ v. v.name) c.variables) c.undeclared.variables (declared_in items).variables (names_in items).variables
      variables_declared_same (ap (λ m. m.variables) names_same) in
      let f = left_over (map (λ f. f.name) c.functions) c.undeclared.functions (declared_in items).functions (names_in items).functions
      functions_declared_same (ap (λ m. m.functions) names_same) in
      ap (built (names_in items) (declared_in items)) lines
      ∙ ap (λ x. record { structs = x; variables = b.variables; functions = b.functions; undeclared = (code_of_items items).undeclared }) again.structs
      ∙ ap (λ x. record { structs = c.structs; variables = x; functions = b.functions; undeclared = (code_of_items items).undeclared }) again.variables
      ∙ ap (λ x. record { structs = c.structs; variables = c.variables; functions = x; undeclared = (code_of_items items).undeclared }) again.functions
      ∙ ap (λ x. record {
        structs = c.structs;
        variables = c.variables;
        functions = c.functions;
        undeclared = record { structs = x; variables = (code_of_items items).undeclared.variables; functions = (code_of_items items).undeclared.functions };
      }) s
      ∙ ap (λ x. record {
        structs = c.structs;
        variables = c.variables;
        functions = c.functions;
        undeclared = record { structs = c.undeclared.structs; variables = x; functions = (code_of_items items).undeclared.functions };
      }) v
      ∙ ap (λ x. record {
        structs = c.structs;
        variables = c.variables;
        functions = c.functions;
        undeclared = record { structs = c.undeclared.structs; variables = c.undeclared.variables; functions = x };
      }) f

  pub lined : Lined c
  lined =
      let ordered = code_ordered c in
      let fit = all_fit n (code_lines_of c) (code_fits c w.fits) all_known in
      let leads : place_after_items items First ≡ Some ordered.place = ap (λ ks. after_kinds ks First) kinds_same ∙ ordered.leads in
      record {
        items = items;
        place = ordered.place;
        fit = fit;
        leads = leads;
        last = ordered.last;
        again = made_again;
        text = ap text_of (sym made_again) ∙ (made items ordered.place fit leads ordered.last).text;
      }
