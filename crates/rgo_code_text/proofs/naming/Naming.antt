-- Once a name has its number, the words are those of the name again: numbering does not change how a line is printed.
use Rattle.std.proofs.Common.{◌≡◌, ℕ, List, [], ◌∷◌, ◌++◌, Option, Some, None, IfSome, refl, sym, ap, ◌∙◌, codes}
use Rattle.std.specs.List.{All, flat_map}
use Rattle.std.specs.Option.{option_map}
use Rattle.std.proofs.lemmas.List.Elements.{All-head}
use Rattle.rgo_typed.specs.declared.actions.Action.{Action}
use Rattle.rgo_typed.specs.declared.actions.Action.TheVariants as action
use Rattle.rgo_typed.specs.declared.types.Base.{Base}
use Rattle.rgo_typed.specs.declared.types.Base.TheVariants as base
use Rattle.rgo_code.specs.Code.{CodeOp, Do, Call, Go, Print, Jump, Branch, Return}
use Rattle.rgo_code_text.specs.Building.{numbered_base, numbered_type, numbered_slot, numbered_action, numbered_op}
use Rattle.rgo_code_text.specs.Building.{base_names, type_names, result_names, op_structs, op_variables, op_functions}
use Rattle.rgo_code_text.specs.Items.{NamedSlot, only_name, named_type_word, named_slot_words, named_result_words, TypeFits, BaseFits, ActionIsNamed, OpIsNamed, NamedSlotFits}
use Rattle.rgo_code_words.specs.Readers.{NamedType}
use Rattle.rgo_code_printing.specs.Text.{Names, action_words, value_word, op_words, slot_words, result_words}
use Rattle.rgo_code_printing.specs.Words.{name_at, base_word, type_word, layer_word, class_word, variable_word, callee_word, removes_word, passes_word, protects_word}
use Rattle.rgo_code_text.specs.Written.{number_of_name}

-- the number of a name is that of a name like it
abbrev pub IsKnown : List (List ℕ) → List ℕ → Type 0
IsKnown names name = name_at names (number_of_name names name) ≡ name

abbrev pub AreKnown : List (List ℕ) → List (List ℕ) → Type 0
AreKnown names others = All (IsKnown names) others

-- ---- types

base_same : (n : Names) (b : Base) (name : List ℕ) → BaseFits b name
    → ((k : ℕ) → b ≡ base.Pointer k → IsKnown n.structs name)
    → base_word n.structs (numbered_base n b name) ≡ base_word (name ∷ []) b
base_same n base.Int name f k = refl
base_same n base.Bool name f k = refl
base_same n (base.Pointer j) name f k =
    ap (λ w. 42 ∷ w) (k j refl) ∙ ap (λ m. 42 ∷ name_at (name ∷ []) m) (sym f.0)

pointer_known : (n : Names) (t : NamedType) → AreKnown n.structs (type_names t)
    → (j : ℕ) → t.ty.base ≡ base.Pointer j → IsKnown n.structs t.name
pointer_known n t known j e = by t.ty.base e known
  where
    by : (b : Base) → b ≡ base.Pointer j → AreKnown n.structs (base_names b t.name) → IsKnown n.structs t.name
    by base.Int q k = cc
    by base.Bool q k = cc
    by (base.Pointer m) q k = All-head (IsKnown n.structs) t.name [] k

pub type_same : (n : Names) (t : NamedType) → TypeFits t → AreKnown n.structs (type_names t)
    → type_word n.structs (numbered_type n t) ≡ named_type_word t
type_same n t f known =
    ap (λ w. flat_map layer_word t.ty.layers ++ w) (base_same n t.ty.base t.name f (pointer_known n t known))

pub slot_same : (n : Names) (s : NamedSlot) → NamedSlotFits s → AreKnown n.structs (type_names s.ty)
    → slot_words n (numbered_slot n s) ≡ codes "var" ∷ named_slot_words s
slot_same n s f known = ap (λ w. codes "var" ∷ w ∷ class_word s.class ∷ []) (type_same n s.ty f.0 known)

pub result_same : (n : Names) (s : Option NamedSlot) → IfSome s NamedSlotFits → AreKnown n.structs (result_names s)
    → result_words n (option_map (numbered_slot n) s) ≡ named_result_words s
result_same n None f known = refl
result_same n (Some s) f known = ap (λ w. w ∷ class_word s.class ∷ []) (type_same n s.ty f.0 known)

-- ---- operations

-- an action that names nothing
nameless_same : (n m : Names) (a : Action) (to : Option ℕ) (from : List ℕ)
    → ((k : ℕ) → a ≡ action.New k → ⊥) → ((k : ℕ) → a ≡ action.Get k → ⊥) → ((k : ℕ) → a ≡ action.Set k → ⊥)
    → action_words n a to from ≡ action_words m a to from
nameless_same n m (action.New k) to from x y z = absurd (x k refl)
nameless_same n m (action.Get k) to from x y z = absurd (y k refl)
nameless_same n m (action.Set k) to from x y z = absurd (z k refl)
nameless_same n m _ to from x y z = refl

-- `new`, `get` and `set` by their names
new_same : (n : Names) (to : Option ℕ) (from name : List ℕ) → IsKnown n.structs name
    → action_words n (action.New (number_of_name n.structs name)) to from ≡ action_words (only_name name) (action.New 0) to from
new_same n (Some d) [] name k = ap (λ w. codes "new" ∷ variable_word d ∷ w ∷ []) k
new_same n (Some d) (a ∷ from) name k = refl
new_same n None from name k = refl

get_same : (n : Names) (to : Option ℕ) (from name : List ℕ) → IsKnown n.variables name
    → action_words n (action.Get (number_of_name n.variables name)) to from ≡ action_words (only_name name) (action.Get 0) to from
get_same n (Some d) [] name k = ap (λ w. codes "get" ∷ variable_word d ∷ w ∷ []) k
get_same n (Some d) (a ∷ from) name k = refl
get_same n None from name k = refl

set_same : (n : Names) (to : Option ℕ) (from name : List ℕ) → IsKnown n.variables name
    → action_words n (action.Set (number_of_name n.variables name)) to from ≡ action_words (only_name name) (action.Set 0) to from
set_same n None (a ∷ []) name k = ap (λ w. codes "set" ∷ w ∷ variable_word a ∷ []) k
set_same n None [] name k = refl
set_same n None (a ∷ b ∷ from) name k = refl
set_same n (Some d) from name k = refl

action_same : (n : Names) (a : Action) (to : Option ℕ) (from removes name : List ℕ) → ActionIsNamed a name
    → AreKnown n.structs (op_structs (Do to a from removes) name)
    → AreKnown n.variables (op_variables (Do to a from removes) name)
    → action_words n (numbered_action n a name) to from ≡ action_words (only_name name) a to from
action_same n (action.New k) to from removes name f s v =
    new_same n to from name (All-head (IsKnown n.structs) name [] s)
    ∙ ap (λ m. action_words (only_name name) (action.New m) to from) (sym f.0)
action_same n (action.Get k) to from removes name f s v =
    get_same n to from name (All-head (IsKnown n.variables) name [] v)
    ∙ ap (λ m. action_words (only_name name) (action.Get m) to from) (sym f.0)
action_same n (action.Set k) to from removes name f s v =
    set_same n to from name (All-head (IsKnown n.variables) name [] v)
    ∙ ap (λ m. action_words (only_name name) (action.Set m) to from) (sym f.0)
action_same n (action.Int i) to from removes name f s v =
    nameless_same n (only_name name) (action.Int i) to from (λ k e. cc) (λ k e. cc) (λ k e. cc)
action_same n (action.Bool b) to from removes name f s v =
    nameless_same n (only_name name) (action.Bool b) to from (λ k e. cc) (λ k e. cc) (λ k e. cc)
action_same n (action.Binary op) to from removes name f s v =
    nameless_same n (only_name name) (action.Binary op) to from (λ k e. cc) (λ k e. cc) (λ k e. cc)
action_same n (action.Load j) to from removes name f s v =
    nameless_same n (only_name name) (action.Load j) to from (λ k e. cc) (λ k e. cc) (λ k e. cc)
action_same n (action.Store j) to from removes name f s v =
    nameless_same n (only_name name) (action.Store j) to from (λ k e. cc) (λ k e. cc) (λ k e. cc)
action_same n a to from removes name f s v = nameless_same n (only_name name) a to from (λ k e. cc) (λ k e. cc) (λ k e. cc)

pub op_same : (n : Names) (op : CodeOp) (name : List ℕ) → OpIsNamed op name → AreKnown n.structs (op_structs op name)
    → AreKnown n.variables (op_variables op name) → AreKnown n.functions (op_functions op name)
    → op_words n (numbered_op n op name) ≡ op_words (only_name name) op
op_same n (Do to a from removes) name f s v g =
    ap (λ ws. ws ++ removes_word removes ∷ []) (action_same n a to from removes name f s v)
op_same n (Call to k from passes protects removes) name f s v g =
    ap (λ w. codes "call" ∷ value_word to ∷ callee_word w from ∷ passes_word passes ∷ protects_word protects
    ∷ removes_word removes ∷ [])
    (All-head (IsKnown n.functions) name [] g ∙ ap (λ m. name_at (name ∷ []) m) (sym f.0))
op_same n (Go k from passes removes) name f s v g =
    ap (λ w. codes "go" ∷ callee_word w from ∷ passes_word passes ∷ removes_word removes ∷ [])
    (All-head (IsKnown n.functions) name [] g ∙ ap (λ m. name_at (name ∷ []) m) (sym f.0))
op_same n (Print pieces from removes) name f s v g = refl
op_same n (Jump target removes) name f s v g = refl
op_same n (Branch test target removes other otherwise) name f s v g = refl
op_same n (Return value) name f s v g = refl
