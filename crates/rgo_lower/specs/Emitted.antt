-- What was added to a builder: the code of terms and statements, between its state before and its state after.
use Rattle.std.specs.Prelude.{◌≡◌, ℕ, ◌+◌, ◌*◌, ◌<◌, ◌≤◌, Bool, true, false, List, [], ◌∷◌, ◌++◌, length, map, take, get_or, slice_set}
use Rattle.std.specs.Prelude.{Option, Some, None, slice_get}
use Rattle.rgo_typed.specs.declared.actions.Action.{Action}
use Rattle.rgo_typed.specs.declared.actions.Logical.{Logical}
use Rattle.rgo_typed.specs.declared.statements.Piece.{Piece}
use Rattle.rgo_typed.specs.declared.types.Type.{«Type»}
use Rattle.rgo_typed.specs.Tree.{Term, Terms, Stmt, Stmts, Function}
use Rattle.rgo_wellformed.specs.TypeRules.{Declared}
use Rattle.rgo_wellformed.specs.WellFormed.{InScope, is_in_scope, HasType, HaveTypes, Environment, IsCondition, IsStmt, AreStmts}
use Rattle.rgo_wellformed.specs.WellFormed.{signature_of, scope_after, IsFunction}
use Rattle.rgo_tac.specs.declared.code.Instr.{Instr}
use Rattle.rgo_tac.specs.declared.code.Instr.TheVariants as code
use Rattle.rgo_tac.specs.Code.{Op, Do, Call, Jump, Branch, TacFn}
use Rattle.rgo_tac.specs.Views.{op_of, body_of}
use Rattle.rgo_lower.specs.Lowered.{LoweringPoint, next_point, after_value, OpAt, LoweringScope, variable_of_local, Target}
use Rattle.rgo_lower.specs.Lowered.{bool_type, logic_branch, StoresAt, TestAt, ConditionAt, TermAt, TermsAt, StmtAt, StmtsAt, IsLoweredFn}
use Rattle.rgo_lower.specs.Shapes.{how_many}
use Rattle.rgo_lower.specs.Sizes.{term_size, terms_size, value_size, stmt_size, stmts_size}
use Rattle.rgo_lower.specs.declared.builder.Builder.{Builder}
use Rattle.rgo_lower.specs.declared.builder.Line.{Line}
use Rattle.rgo_lower.specs.declared.builder.Loop.{Loop}

-- ---- builders

-- the parts of a builder; targets of jumps are numbers of labels
pub record BuilderParts : Type 0 where
  pub lines : List Line
  pub variables : List «Type»
  pub lists : List (List ℕ)
  pub pieces : List (List Piece)
  -- the instruction of each label that has been placed
  pub labels : List (Option ℕ)
  -- the variable of each local variable that is in scope
  pub slots : List ℕ

abbrev pub made_of : Builder → BuilderParts
made_of b = record {
  lines = b.lines.items;
  variables = b.variables.items;
  lists = b.lists.items;
  pieces = b.pieces.items;
  labels = b.labels.items;
  slots = b.slots.items;
}

-- where the builder is
abbrev pub builder_point : BuilderParts → LoweringPoint
builder_point b = record { instr = length b.lines; variable = length b.variables }

abbrev pub slot_of_local : BuilderParts → ℕ → ℕ
slot_of_local b n = get_or b.slots n 0

abbrev pub with_emitted_line : BuilderParts → Instr → (place : ℕ) → BuilderParts
with_emitted_line b i place = record b { lines = b.lines ++ record { instr = i; place = place } ∷ [] }

abbrev pub with_emitted_variable : BuilderParts → «Type» → BuilderParts
with_emitted_variable b ty = record b { variables = b.variables ++ ty ∷ [] }

abbrev pub with_list : BuilderParts → List ℕ → BuilderParts
with_list b l = record b { lists = b.lists ++ l ∷ [] }

abbrev pub with_pieces : BuilderParts → List Piece → BuilderParts
with_pieces b l = record b { pieces = b.pieces ++ l ∷ [] }

-- a label that is not placed yet
abbrev pub with_label : BuilderParts → BuilderParts
with_label b = record b { labels = b.labels ++ None ∷ [] }

-- the label leads to the next instruction
abbrev pub with_placed : BuilderParts → ℕ → BuilderParts
with_placed b k = record b { labels = slice_set b.labels k (Some (length b.lines)) }

abbrev pub with_local_slot : BuilderParts → ℕ → ℕ → BuilderParts
with_local_slot b n d = record b { slots = slice_set b.slots n d }

-- how many instructions, variables, lists, texts and labels it has, all together
abbrev pub builder_size : BuilderParts → ℕ
builder_size b = length b.lines + length b.variables + length b.lists + length b.pieces + length b.labels

-- ---- instructions

-- the instruction whose labels are replaced by the instructions to which they lead
abbrev pub resolved_instr : (ℕ → ℕ) → Instr → Instr
resolved_instr leads (code.Jump t) = code.Jump (leads t)
resolved_instr leads (code.Branch a t e) = code.Branch a (leads t) (leads e)
resolved_instr leads (code.Int d k) = code.Int d k
resolved_instr leads (code.Bool d b) = code.Bool d b
resolved_instr leads (code.Nil d) = code.Nil d
resolved_instr leads (code.Copy d a) = code.Copy d a
resolved_instr leads (code.CopyInt d a) = code.CopyInt d a
resolved_instr leads (code.CopyBool d a) = code.CopyBool d a
resolved_instr leads (code.Add d a b) = code.Add d a b
resolved_instr leads (code.Sub d a b) = code.Sub d a b
resolved_instr leads (code.Mul d a b) = code.Mul d a b
resolved_instr leads (code.Div d a b) = code.Div d a b
resolved_instr leads (code.Rem d a b) = code.Rem d a b
resolved_instr leads (code.Eq d a b) = code.Eq d a b
resolved_instr leads (code.Ne d a b) = code.Ne d a b
resolved_instr leads (code.Lt d a b) = code.Lt d a b
resolved_instr leads (code.Le d a b) = code.Le d a b
resolved_instr leads (code.Gt d a b) = code.Gt d a b
resolved_instr leads (code.Ge d a b) = code.Ge d a b
resolved_instr leads (code.Neg d a) = code.Neg d a
resolved_instr leads (code.Not d a) = code.Not d a
resolved_instr leads (code.IsNil d a) = code.IsNil d a
resolved_instr leads (code.Len d a) = code.Len d a
resolved_instr leads (code.Load d a k) = code.Load d a k
resolved_instr leads (code.Store a k b) = code.Store a k b
resolved_instr leads (code.At d a i) = code.At d a i
resolved_instr leads (code.Put a i b) = code.Put a i b
resolved_instr leads (code.New d s) = code.New d s
resolved_instr leads (code.Slice d n) = code.Slice d n
resolved_instr leads (code.Chan d n) = code.Chan d n
resolved_instr leads (code.Recv d c) = code.Recv d c
resolved_instr leads (code.Send c a) = code.Send c a
resolved_instr leads (code.Close c) = code.Close c
resolved_instr leads (code.Get d g) = code.Get d g
resolved_instr leads (code.Set g a) = code.Set g a
resolved_instr leads (code.Call d f n) = code.Call d f n
resolved_instr leads (code.Invoke f n) = code.Invoke f n
resolved_instr leads (code.Go f n) = code.Go f n
resolved_instr leads (code.Print p n) = code.Print p n
resolved_instr leads (code.Return a) = code.Return a
resolved_instr leads code.Leave = code.Leave

-- whatever the function's labels, lists and pieces are
abbrev pub InstrEncodes : Instr → Op → Type 0
InstrEncodes i op = (leads : ℕ → ℕ) (lists : List (List ℕ)) (pieces : List (List Piece)) → op_of lists pieces
    (resolved_instr leads i) ≡ op

-- ---- growth

-- each item is where it was
abbrev pub Kept : {A : Type 0} → List A → List A → Type 0
Kept {A} xs ys = (i : ℕ) (x : A) → slice_get xs i ≡ Some x → slice_get ys i ≡ Some x

-- What was there is as it was, unplaced labels too: the code of a part of a program places only labels that it has made.
pub record Grown (old new : BuilderParts) : Type 0 where
  pub lines : Kept old.lines new.lines
  pub variables : Kept old.variables new.variables
  pub lists : Kept old.lists new.lists
  pub pieces : Kept old.pieces new.pieces
  pub labels : Kept old.labels new.labels

-- a finished function: what its program declares, the types of its local variables, the program's functions, its code,
-- the instruction of each label, its lists and pieces
pub record Whole : Type 0 where
  pub declared : Declared
  pub locals : List «Type»
  pub functions : List Function
  pub signed : declared.functions ≡ map signature_of functions
  pub f : TacFn
  pub leads : ℕ → ℕ
  pub lists : List (List ℕ)
  pub pieces : List (List Piece)

-- The function has all that the builder was given. Emitted code is described by all finished functions that complete it: where its
-- labels lead is known only at the end.
pub record Completes (w : Whole) (b : BuilderParts) : Type 0 where
  pub lines :
      (i : ℕ) (l : Line) → slice_get b.lines i ≡ Some l
      → OpAt w.f i (op_of w.lists w.pieces (resolved_instr w.leads l.instr)) l.place
  pub variables : Kept b.variables w.f.variables
  pub lists : Kept b.lists w.lists
  pub pieces : Kept b.pieces w.pieces
  pub labels : (k t : ℕ) → slice_get b.labels k ≡ Some (Some t) → w.leads k ≡ t

-- ---- single instructions

-- an instruction was added; what it does may depend on where labels lead
pub record OpIsAdded (old : BuilderParts) (op : Whole → Op) (place : ℕ) (new : BuilderParts) : Type 0 where
  pub grown : Grown old new
  pub size : builder_size new ≤ builder_size old + 3
  pub slots : new.slots ≡ old.slots
  pub point : builder_point new ≡ next_point (builder_point old)
  pub instr : (w : Whole) → Completes w new → OpAt w.f (length old.lines) (op w) place

-- the same operation wherever labels lead
abbrev pub always : Op → Whole → Op
always op w = op

abbrev pub jump_to : (label : ℕ) → Whole → Op
jump_to label w = Jump (w.leads label)

abbrev pub branch_to : (test inside other : ℕ) → Whole → Op
branch_to test inside other w = Branch test (w.leads inside) (w.leads other)

-- to the next instruction, of this number, where a value that decides on `&&` or `||` does not; else to a label
abbrev pub decides : Logical → (test next other : ℕ) → Whole → Op
decides logic test next other w = logic_branch logic test next (w.leads other)

-- an instruction was added whose value goes to a new variable of this type
pub record ValueIsAdded (old : BuilderParts) (op : ℕ → Op) (ty : «Type») (place d : ℕ) (new : BuilderParts) : Type 0 where
  pub grown : Grown old new
  pub size : builder_size new ≤ builder_size old + 3
  pub slots : new.slots ≡ old.slots
  pub variable : d ≡ length old.variables
  pub point : builder_point new ≡ after_value (builder_point old)
  pub instr : (w : Whole) → Completes w new → OpAt w.f (length old.lines) (op (length old.variables)) place
  pub kind : (w : Whole) → Completes w new → slice_get w.f.variables (length old.variables) ≡ Some ty

-- an action on these variables
abbrev pub acts : Action → List ℕ → ℕ → Op
acts action from to = Do (Some to) action from

-- a call with a result
abbrev pub calls : ℕ → List ℕ → ℕ → Op
calls n from to = Call (Some to) n from

-- ---- terms

-- The scope of the code has the variables in scope, each with its slot, and no others: a declaration needs a variable that is not in
-- scope yet.
pub record ScopeHasSlots (slots : List ℕ) (g : InScope) (scope : LoweringScope) : Type 0 where
  pub inside : (n : ℕ) → is_in_scope g n ≡ true → variable_of_local scope n ≡ Some (get_or slots n 0)
  pub outside : (n : ℕ) → is_in_scope g n ≡ false → variable_of_local scope n ≡ None

-- the code of a well-formed term was added
pub record TermIsEmitted (t : Term) (old : BuilderParts) (d : ℕ) (new : BuilderParts) : Type 0 where
  pub grown : Grown old new
  pub size : builder_size new ≤ builder_size old + term_size t
  pub slots : new.slots ≡ old.slots
  pub code :
      (w : Whole) (g : InScope) (ty : «Type») (scope : LoweringScope) → HasType w.declared w.locals g t ty
      → ScopeHasSlots old.slots g scope → Completes w new
      → TermAt w.functions w.f scope t (builder_point old) d (builder_point new)

pub record TermsAreEmitted (ts : Terms) (old : BuilderParts) (ds : List ℕ) (new : BuilderParts) : Type 0 where
  pub grown : Grown old new
  pub size : builder_size new ≤ builder_size old + terms_size ts
  pub values : length ds ≡ how_many ts
  pub slots : new.slots ≡ old.slots
  pub code :
      (w : Whole) (g : InScope) (types : List «Type») (scope : LoweringScope) → HaveTypes w.declared w.locals g ts types
      → ScopeHasSlots old.slots g scope → Completes w new
      → TermsAt w.functions w.f scope ts (builder_point old) ds (builder_point new)

-- the values were stored, one in each field of an object
pub record FieldsAreStored (object : ℕ) (fields ds : List ℕ) (place : ℕ) (old new : BuilderParts) : Type 0 where
  pub grown : Grown old new
  pub size : builder_size new ≤ builder_size old + length fields * 3
  pub slots : new.slots ≡ old.slots
  pub code :
      (w : Whole) → Completes w new
      → StoresAt w.functions w.f object fields ds place (builder_point old) (builder_point new)

-- ---- statements

-- If there is a loop around, these are the labels of the innermost. Outside of loops nothing is asked, since nothing jumps there.
abbrev pub AreLoopTargets : Whole → (in_loop : Bool) → Option Loop → List Target → Type 0
AreLoopTargets w in_loop innermost targets =
    in_loop ≡ true
    → (l : Loop) × (outer : List Target) × (innermost ≡ Some l)
    × (targets ≡ record { break_to = w.leads l.break_to; continue_to = w.leads l.continue_to } ∷ outer)

abbrev pub typing_environment : Whole → (in_loop : Bool) → Environment
typing_environment w in_loop =
    record { declared = w.declared; locals = w.locals; result_type = w.f.result_type; in_loop = in_loop }

-- the code of a well-formed statement was added; variables in scope keep their slots
pub record StmtIsEmitted (s : Stmt) (innermost : Option Loop) (old new : BuilderParts) : Type 0 where
  pub grown : Grown old new
  pub size : builder_size new ≤ builder_size old + stmt_size s
  pub locals : length new.slots ≡ length old.slots
  pub kept :
      (e : Environment) (g : InScope) → IsStmt e g s → (n : ℕ) → is_in_scope g n ≡ true
      → slot_of_local new n ≡ slot_of_local old n
  pub code :
      (w : Whole) (in_loop : Bool) (g : InScope) (scope : LoweringScope) (targets : List Target)
      → IsStmt (typing_environment w in_loop) g s → AreLoopTargets w in_loop innermost targets → ScopeHasSlots old.slots g scope
      → Completes w new
      → (scope2 : LoweringScope) × StmtAt w.functions w.f s targets scope (builder_point old) scope2 (builder_point new)
      × ScopeHasSlots new.slots (scope_after g s) scope2

pub record StmtsAreEmitted (all : Stmts) (innermost : Option Loop) (old new : BuilderParts) : Type 0 where
  pub grown : Grown old new
  pub size : builder_size new ≤ builder_size old + stmts_size all
  pub locals : length new.slots ≡ length old.slots
  pub kept :
      (e : Environment) (g : InScope) → AreStmts e g all → (n : ℕ) → is_in_scope g n ≡ true
      → slot_of_local new n ≡ slot_of_local old n
  pub code :
      (w : Whole) (in_loop : Bool) (g : InScope) (scope : LoweringScope) (targets : List Target)
      → AreStmts (typing_environment w in_loop) g all → AreLoopTargets w in_loop innermost targets → ScopeHasSlots old.slots g scope
      → Completes w new
      → (scope2 : LoweringScope) × StmtsAt w.functions w.f all targets scope (builder_point old) scope2 (builder_point new)

-- a condition, and the branch to a label where it is false
pub record TestIsEmitted (t : Term) (other place : ℕ) (old new : BuilderParts) : Type 0 where
  pub grown : Grown old new
  pub size : builder_size new ≤ builder_size old + term_size t + 3
  pub slots : new.slots ≡ old.slots
  pub code :
      (w : Whole) (g : InScope) (scope : LoweringScope) → HasType w.declared w.locals g t bool_type → ScopeHasSlots old.slots g scope
      → Completes w new → TestAt w.functions w.f scope t (w.leads other) place (builder_point old) (builder_point new)

-- the same of a loop's condition, if there is one
pub record ConditionIsEmitted (t : Option Term) (other place : ℕ) (old new : BuilderParts) : Type 0 where
  pub grown : Grown old new
  pub size : builder_size new ≤ builder_size old + value_size t + 3
  pub slots : new.slots ≡ old.slots
  pub code :
      (w : Whole) (in_loop : Bool) (g : InScope) (scope : LoweringScope) → IsCondition (typing_environment w in_loop) g t
      → ScopeHasSlots old.slots g scope → Completes w new
      → ConditionAt w.functions w.f scope t (w.leads other) place (builder_point old) (builder_point new)

-- the code of a statement was added that has nothing to do with loops around it
abbrev pub IsEmitted : Stmt → BuilderParts → BuilderParts → Type 0
IsEmitted s old new = (innermost : Option Loop) → StmtIsEmitted s innermost old new

-- ---- functions

-- a label that was never placed leads to 0
abbrev pub label_target : Option (Option ℕ) → ℕ
label_target (Some (Some n)) = n
label_target _ = 0

-- where these labels lead
abbrev pub leads_by : List (Option ℕ) → ℕ → ℕ
leads_by labels k = label_target (slice_get labels k)

-- the code of a function before its first instruction
pub record FunctionCodeBegins (params : ℕ) (locals : List «Type») (b : BuilderParts) : Type 0 where
  pub lines : b.lines ≡ []
  pub variables : b.variables ≡ take params locals
  pub size : builder_size b ≤ params
  pub slot_count : length b.slots ≡ length locals
  pub slots : (n : ℕ) → n < length locals → slot_of_local b n ≡ n

-- the finished function
abbrev pub finished_function : Function → BuilderParts → TacFn
finished_function source b = record {
  name = source.name;
  params = source.params;
  result_type = source.result_type;
  variables = b.variables;
  body = body_of b.lists b.pieces (map (λ l. resolved_instr (leads_by b.labels) l.instr) b.lines) (map
      (λ l. l.place) b.lines);
}

-- it is the code of a well-formed function, in a program with these functions
abbrev pub FunctionIsLowered : Function → TacFn → Type 0
FunctionIsLowered source f =
    (d : Declared) (functions : List Function) → d.functions ≡ map signature_of functions → IsFunction d source
    → IsLoweredFn functions source f
