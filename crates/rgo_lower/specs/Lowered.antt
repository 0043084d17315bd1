-- Lowering: the three-address code of a well-formed program, as a relation between each part of the program and the place
-- of its code in a function. The code and the variables of a part are numbered in the order of evaluation.
use Rattle.std.specs.Prelude.{◌≡◌, ℕ, zero, suc, ◌+◌, List, [], ◌∷◌, ◌++◌, length, take, pos, false}
use Rattle.std.specs.Prelude.{Option, Some, None, slice_get, option_and_then, nat_eq, if◌then◌else◌}
use Rattle.rgo_typed.specs.declared.actions.Action.{Action}
use Rattle.rgo_typed.specs.declared.actions.Action.TheVariants.{Int, Bool, Nil, Copy, Binary, New, Store}
use Rattle.rgo_typed.specs.declared.actions.Logical.{Logical}
use Rattle.rgo_typed.specs.declared.actions.Logical.TheVariants.{And, Or}
use Rattle.rgo_typed.specs.declared.types.Base.{Base}
use Rattle.rgo_typed.specs.declared.types.Base.TheVariants as base
use Rattle.rgo_typed.specs.declared.types.Layer.{Layer}
use Rattle.rgo_typed.specs.declared.types.Type.{«Type»}
use Rattle.rgo_typed.specs.Tree as tree
use Rattle.rgo_typed.specs.Tree.{Term, Terms, Stmt, Stmts, Change, Function, Typed, stmts_of}
use Rattle.rgo_tac.specs.Code.{Op, Do, Call, Go, Print, Jump, Branch, Return, TacFn, Tac}

-- ---- places

-- the numbers of the next instruction and of the next variable
pub record LoweringPoint : Type 0 where
  pub instr : ℕ
  pub variable : ℕ

-- the point after an instruction whose value goes to the next variable
abbrev pub after_value : LoweringPoint → LoweringPoint
after_value p = record { instr = p.instr + 1; variable = p.variable + 1 }

-- the point after any other instruction: it has no value, or writes a variable that already has its number
abbrev pub next_point : LoweringPoint → LoweringPoint
next_point p = record { instr = p.instr + 1; variable = p.variable }

-- the instruction of this number
abbrev pub OpAt : TacFn → ℕ → Op → (place : ℕ) → Type 0
OpAt f i op place = slice_get f.body i ≡ Some (record { op = op; place = place })

-- an action on these variables, whose value goes to the next variable, of this type
pub record ActionAt (f : TacFn) (p : LoweringPoint) (action : Action) (from : List ℕ) (ty : «Type») (place : ℕ) : Type 0 where
  pub instr : OpAt f p.instr (Do (Some p.variable) action from) place
  pub variable : slice_get f.variables p.variable ≡ Some ty

-- ---- local variables

-- the local variables in scope, each with its variable of the code, the newest first
abbrev pub LoweringScope : Type 0
LoweringScope = List (ℕ × ℕ)

-- the variable of the code for local n; `None` if n is not in scope
abbrev pub variable_of_local : LoweringScope → ℕ → Option ℕ
variable_of_local [] n = None
variable_of_local ((m, d) ∷ scope) n = if nat_eq m n then Some d else variable_of_local scope n

-- the parameters are the first variables
abbrev pub parameters : ℕ → LoweringScope
parameters zero = []
parameters (suc n) = (n, n) ∷ parameters n

-- ---- types and actions

-- the type `bool`
abbrev pub bool_type : «Type»
bool_type = record { layers = []; base = base.Bool }

-- the type of pointers to the struct of number n
abbrev pub pointer_type : ℕ → «Type»
pointer_type n = record { layers = []; base = base.Pointer n }

-- the constant that is the zero of a type
abbrev pub zero_action_in : List Layer → Base → Action
zero_action_in [] base.Int = Int (pos 0)
zero_action_in [] base.Bool = Bool false
zero_action_in [] (base.Pointer n) = Nil
zero_action_in (layer ∷ layers) b = Nil

-- The action whose value is the zero of the type. It has no operands, and a declaration without a value begins with it.
abbrev pub zero_action : «Type» → Action
zero_action ty = zero_action_in ty.layers ty.base

-- after the left side d of `&&` or `||`: to the right side where it decides, else to the end
abbrev pub logic_branch : Logical → (d right end : ℕ) → Op
logic_branch And d right end = Branch d right end
logic_branch Or d right end = Branch d end right

-- ---- loops

-- where `break` and `continue` lead
pub record Target : Type 0 where
  pub break_to : ℕ
  pub continue_to : ℕ

-- `functions` are those of the program, `f` is the code of one of them
module _ (functions : List Function) (f : TacFn) where
  -- the type of the result of function n of the program: `Some None` if it has no result, `None` if there is no such function
  abbrev pub function_result_type : ℕ → Option (Option «Type»)
  function_result_type n = option_and_then (λ g. Some g.result_type) (slice_get functions n)

  -- ---- terms

  -- one store for each element of an object, in order
  abbrev pub StoresAt : (object : ℕ) → List ℕ → List ℕ → (place : ℕ) → LoweringPoint → LoweringPoint → Type 0
  StoresAt object [] [] place p q = q ≡ p
  StoresAt object (k ∷ fields) (d ∷ ds) place p q =
      OpAt f p.instr (Do None (Store k) (object ∷ d ∷ [])) place × StoresAt object fields ds place (next_point p) q
  StoresAt object _ _ place p q = ⊥

  abbrev mutual
    -- the code of the term is from p to q, and leaves its value in variable d
    pub TermAt : LoweringScope → Term → LoweringPoint → (d : ℕ) → LoweringPoint → Type 0
    TermAt scope (tree.Local n) p d q = (variable_of_local scope n ≡ Some d) × (q ≡ p)
    TermAt scope (tree.Apply action parts ty place) p d q =
        (ds : List ℕ) × (mid : LoweringPoint) × TermsAt scope parts p ds mid × ActionAt f mid action ds ty place
        × (d ≡ mid.variable) × (q ≡ after_value mid)
    -- The value has a variable of its own: that of the left side may be a local variable, which the value of the right side must
    -- not overwrite.
    TermAt scope (tree.Logic logic left right place) p d q =
        (l : ℕ) × (mid : LoweringPoint) × TermAt scope left p l mid × ActionAt f mid Copy (l ∷ []) bool_type place
        × (r : ℕ) × (last : LoweringPoint)
        × OpAt f (mid.instr + 1) (logic_branch logic mid.variable (mid.instr + 2) (last.instr + 1)) place
        × TermAt scope right (next_point (after_value mid)) r last
        × OpAt f last.instr (Do (Some mid.variable) Copy (r ∷ [])) place
        × (d ≡ mid.variable) × (q ≡ next_point last)
    TermAt scope (tree.Build n parts fields place) p d q =
        (ds : List ℕ) × (mid : LoweringPoint) × TermsAt scope parts p ds mid × ActionAt f mid (New n) [] (pointer_type n) place
        × StoresAt mid.variable fields ds place (after_value mid) q × (d ≡ mid.variable)
    TermAt scope (tree.Call n arguments ty place) p d q =
        (ds : List ℕ) × (mid : LoweringPoint) × TermsAt scope arguments p ds mid
        × OpAt f mid.instr (Call (Some mid.variable) n ds) place × (slice_get f.variables mid.variable ≡ Some ty)
        × (function_result_type n ≡ Some (Some ty)) × (d ≡ mid.variable) × (q ≡ after_value mid)

    -- several terms, one after the other
    pub TermsAt : LoweringScope → Terms → LoweringPoint → (ds : List ℕ) → LoweringPoint → Type 0
    TermsAt scope tree.no_terms p ds q = (ds ≡ []) × (q ≡ p)
    TermsAt scope (tree.a_term t ts) p ds q =
        (d : ℕ) × (others : List ℕ) × (mid : LoweringPoint) × TermAt scope t p d mid × TermsAt scope ts mid others q
        × (ds ≡ d ∷ others)

  -- ---- statements

  -- a condition, and the branch to what follows it or to another instruction
  abbrev pub TestAt : LoweringScope → Term → (otherwise place : ℕ) → LoweringPoint → LoweringPoint → Type 0
  TestAt scope t otherwise place p q =
      (d : ℕ) × (mid : LoweringPoint) × TermAt scope t p d mid × OpAt f mid.instr (Branch d (mid.instr + 1) otherwise) place
      × (q ≡ next_point mid)

  -- the condition of a loop, if there is one
  abbrev pub ConditionAt : LoweringScope → Option Term → (otherwise place : ℕ) → LoweringPoint → LoweringPoint → Type 0
  ConditionAt scope None otherwise place p q = q ≡ p
  ConditionAt scope (Some t) otherwise place p q = TestAt scope t otherwise place p q

  -- the operands, the read, the value, the operation, the write
  abbrev pub UpdateAt : LoweringScope → Change → LoweringPoint → LoweringPoint → Type 0
  UpdateAt scope c p q =
      (ds : List ℕ) × (before : LoweringPoint) × TermsAt scope c.operands p ds before × ActionAt f before c.read ds c.ty c.read_at
      × (d : ℕ) × (mid : LoweringPoint) × TermAt scope c.value (after_value before) d mid
      × ActionAt f mid (Binary c.op) (before.variable ∷ d ∷ []) c.ty c.at
      × OpAt f (mid.instr + 1) (Do None c.write (ds ++ mid.variable ∷ [])) c.at × (q ≡ next_point (after_value mid))

  abbrev mutual
    -- The code of the statement is from p to q. `targets` are those of the loops around it, the innermost first; the
    -- scope is the one before it, `scope2` the one after it.
    pub StmtAt : Stmt → List Target → LoweringScope → LoweringPoint → (scope2 : LoweringScope) → LoweringPoint → Type 0
    StmtAt (tree.Block all) targets scope p scope2 q =
        (inner : LoweringScope) × StmtsAt all targets scope p inner q × (scope2 ≡ scope)
    -- No variable is in scope twice, so that which of two declarations is meant is never a question.
    StmtAt (tree.Declare n ty value place) targets scope p scope2 q =
        (d : ℕ) × (mid : LoweringPoint) × TermAt scope value p d mid × ActionAt f mid Copy (d ∷ []) ty place
        × (variable_of_local scope n ≡ None) × (scope2 ≡ (n, mid.variable) ∷ scope) × (q ≡ after_value mid)
    StmtAt (tree.Zero n ty place) targets scope p scope2 q =
        ActionAt f p (zero_action ty) [] ty place
        × (variable_of_local scope n ≡ None) × (scope2 ≡ (n, p.variable) ∷ scope) × (q ≡ after_value p)
    StmtAt (tree.Assign n value place) targets scope p scope2 q =
        (d : ℕ) × (mid : LoweringPoint) × (x : ℕ) × TermAt scope value p d mid × (variable_of_local scope n ≡ Some x)
        × OpAt f mid.instr (Do (Some x) Copy (d ∷ [])) place × (scope2 ≡ scope) × (q ≡ next_point mid)
    StmtAt (tree.Perform action operands place) targets scope p scope2 q =
        (ds : List ℕ) × (mid : LoweringPoint) × TermsAt scope operands p ds mid × OpAt f mid.instr (Do None action ds) place
        × (scope2 ≡ scope) × (q ≡ next_point mid)
    StmtAt (tree.Update change) targets scope p scope2 q = UpdateAt scope change p q × (scope2 ≡ scope)
    StmtAt (tree.Discard value) targets scope p scope2 q = (d : ℕ) × TermAt scope value p d q × (scope2 ≡ scope)
    StmtAt (tree.Invoke n arguments place) targets scope p scope2 q =
        (ds : List ℕ) × (mid : LoweringPoint) × TermsAt scope arguments p ds mid × OpAt f mid.instr (Call None n ds) place
        × (function_result_type n ≡ Some None) × (scope2 ≡ scope) × (q ≡ next_point mid)
    StmtAt (tree.Go n arguments place) targets scope p scope2 q =
        (ds : List ℕ) × (mid : LoweringPoint) × TermsAt scope arguments p ds mid × OpAt f mid.instr (Go n ds) place
        × (function_result_type n ≡ Some None) × (scope2 ≡ scope) × (q ≡ next_point mid)
    StmtAt (tree.Print pieces values place) targets scope p scope2 q =
        (ds : List ℕ) × (mid : LoweringPoint) × TermsAt scope values p ds mid × OpAt f mid.instr (Print pieces ds) place
        × (scope2 ≡ scope) × (q ≡ next_point mid)
    StmtAt (tree.If test body place) targets scope p scope2 q =
        (mid : LoweringPoint) × (inner : LoweringScope) × TestAt scope test q.instr place p mid
        × StmtsAt body targets scope mid inner q × (scope2 ≡ scope)
    StmtAt (tree.IfElse test body other place) targets scope p scope2 q =
        (mid last : LoweringPoint) × (inner outer : LoweringScope) × TestAt scope test (last.instr + 1) place p mid
        × StmtsAt body targets scope mid inner last × OpAt f last.instr (Jump q.instr) place
        × StmtsAt other targets scope (next_point last) outer q × (scope2 ≡ scope)
    -- The post statement has the targets around the loop, since neither `break` nor `continue` is a post statement.
    StmtAt (tree.Loop test body post place) targets scope p scope2 q =
        (mid next last : LoweringPoint) × (inner outer : LoweringScope) × ConditionAt scope test q.instr place p mid
        × StmtsAt body (record { break_to = q.instr; continue_to = next.instr } ∷ targets) scope mid inner next
        × StmtsAt post targets scope next outer last × OpAt f last.instr (Jump p.instr) place
        × (scope2 ≡ scope) × (q ≡ next_point last)
    StmtAt (tree.Break place) [] scope p scope2 q = ⊥
    StmtAt (tree.Break place) (t ∷ targets) scope p scope2 q =
        OpAt f p.instr (Jump t.break_to) place × (scope2 ≡ scope) × (q ≡ next_point p)
    StmtAt (tree.Continue place) [] scope p scope2 q = ⊥
    StmtAt (tree.Continue place) (t ∷ targets) scope p scope2 q =
        OpAt f p.instr (Jump t.continue_to) place × (scope2 ≡ scope) × (q ≡ next_point p)
    StmtAt (tree.Return None place) targets scope p scope2 q =
        OpAt f p.instr (Return None) place × (f.result_type ≡ None) × (scope2 ≡ scope) × (q ≡ next_point p)
    StmtAt (tree.Return (Some value) place) targets scope p scope2 q =
        (d : ℕ) × (mid : LoweringPoint) × (ty : «Type») × TermAt scope value p d mid × OpAt f mid.instr (Return (Some d)) place
        × (f.result_type ≡ Some ty) × (scope2 ≡ scope) × (q ≡ next_point mid)

    -- several statements, each in the scope that those before it leave
    pub StmtsAt : Stmts → List Target → LoweringScope → LoweringPoint → (scope2 : LoweringScope) → LoweringPoint → Type 0
    StmtsAt tree.no_stmts targets scope p scope2 q = (scope2 ≡ scope) × (q ≡ p)
    StmtsAt (tree.a_stmt s all) targets scope p scope2 q =
        (between : LoweringScope) × (mid : LoweringPoint) × StmtAt s targets scope p between mid × StmtsAt all targets between mid scope2 q

-- ---- programs

-- at the end of a function: a return, or, where it has a result, a jump to itself, which is never reached
abbrev pub closing_op : Option «Type» → (i : ℕ) → Op
closing_op None i = Return None
closing_op (Some ty) i = Jump i

-- the code of a function: its body, whose parameters are the first variables, and its end
pub record IsLoweredFn (functions : List Function) (source : Function) (f : TacFn) : Type 0 where
  pub name : f.name ≡ source.name
  pub params : f.params ≡ source.params
  pub result_type : f.result_type ≡ source.result_type
  pub param_types : take source.params f.variables ≡ take source.params source.locals
  pub scope : LoweringScope
  pub last : LoweringPoint
  pub body :
      StmtsAt functions f (stmts_of source.body) [] (parameters source.params)
      (record { instr = 0; variable = source.params }) scope last
  pub closing : OpAt f last.instr (closing_op source.result_type last.instr) source.end
  -- and nothing else: without these two a program would have many codes
  pub instrs : length f.body ≡ last.instr + 1
  pub variables : length f.variables ≡ last.variable

-- each function has its code
abbrev pub AreLowered : List Function → List Function → List TacFn → Type 0
AreLowered functions [] [] = Unit {0}
AreLowered functions (source ∷ sources) (f ∷ fs) = IsLoweredFn functions source f × AreLowered functions sources fs
AreLowered functions _ _ = ⊥

-- the code of a program
pub record IsLowered (program : Typed) (code : Tac) : Type 0 where
  pub structs : code.structs ≡ program.structs
  pub variables : code.variables ≡ program.variables
  pub functions : AreLowered program.functions program.functions code.functions
