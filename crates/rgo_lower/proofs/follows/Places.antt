-- Places: where the code of what a frame still has to do is in a function.
use Rattle.std.specs.Prelude.{◌≡◌, ◌⊎◌, ℕ, ◌+◌, ◌<◌, ◌≤◌, List, [], ◌∷◌, ◌++◌, reverse, take, drop, length}
use Rattle.std.specs.Prelude.{Option, Some, None, slice_get}
use Rattle.rgo_typed.specs.declared.actions.Action.TheVariants.{Copy, New, Store}
use Rattle.rgo_typed.specs.declared.types.Type.{«Type»}
use Rattle.rgo_typed.specs.Tree.{Function, Term, Stmts}
use Rattle.rgo_tac.specs.Code as op
use Rattle.rgo_tac.specs.Code.{TacFn}
use Rattle.rgo_meaning.specs.Frames.{Todo, Evaluate, Each, Perform, Affect, Settle, Decide, Create, Fill, Repeat, Give}
use Rattle.rgo_meaning.specs.Frames.{Forget, Clear, Enter, Start, Write, Execute, Sequence, When, Choose, Close, Onward}
use Rattle.rgo_meaning.specs.Frames.{Turn, Test, Again, Leave, Stay}
use Rattle.rgo_lower.specs.Lowered.{LoweringPoint, after_value, next_point, OpAt, ActionAt, logic_branch, zero_action, pointer_type}
use Rattle.rgo_lower.specs.Lowered.{LoweringScope, variable_of_local, Target, function_result_type, TermAt, TermsAt, StmtAt, StmtsAt, ConditionAt}
use Rattle.rgo_lower.proofs.follows.Lists.{AreBelow, onto}

-- ---- scopes

-- what is in the one scope is in the other
pub record Inside (inner outer : LoweringScope) : Type 0 where
  pub has : (n d : ℕ) → variable_of_local inner n ≡ Some d → variable_of_local outer n ≡ Some d

-- the variables of local variables exist, come before n, and are distinct
pub record Fits (f : TacFn) (scope : LoweringScope) (n : ℕ) : Type 0 where
  pub below : (m d : ℕ) → variable_of_local scope m ≡ Some d → d < n
  pub known : (m d : ℕ) → variable_of_local scope m ≡ Some d → d < length f.variables
  pub apart : (m other d : ℕ) → variable_of_local scope m ≡ Some d → variable_of_local scope other ≡ Some d → m ≡ other

-- ---- loops

-- a loop around what is to do: where `break` and `continue` lead, and what is in scope there
pub record Loop : Type 0 where
  pub target : Target
  pub scope : LoweringScope

abbrev pub targets_of : List Loop → List Target
targets_of [] = []
targets_of (l ∷ loops) = l.target ∷ targets_of loops

-- a loop in this scope, which ends at q and whose post statement is at `next`
abbrev pub loop_to : LoweringScope → (q next : LoweringPoint) → Loop
loop_to scope q next = record {
  target = record { break_to = q.instr; continue_to = next.instr };
  scope = scope;
}

-- what is in scope around the innermost loop is in this scope
abbrev pub InLoop : List Loop → LoweringScope → Type 0
InLoop [] scope = Unit {0}
InLoop (l ∷ loops) scope = Inside l.scope scope

-- ---- places

-- a place to which something leads: what is in scope, the point, and the variables of the values, the newest first
pub record Place : Type 0 where
  pub scope : LoweringScope
  pub point : LoweringPoint
  pub held : List ℕ

abbrev pub place_of : LoweringScope → LoweringPoint → List ℕ → Place
place_of scope p held = record { scope = scope; point = p; held = held }

module _ (functions : List Function) (f : TacFn) where
  -- a call of a function with this result
  abbrev pub CallAt : Option (Option «Type») → (n count : ℕ) → LoweringScope → LoweringPoint → List ℕ → Place → Type 0
  CallAt (Some (Some ty)) n count scope p held b =
      (place : ℕ) × OpAt f p.instr (op.Call (Some p.variable) n (reverse (take count held))) place
      × (slice_get f.variables p.variable ≡ Some ty)
      × (b ≡ place_of scope (after_value p) (p.variable ∷ drop count held))
  CallAt (Some None) n count scope p held b =
      (place : ℕ) × OpAt f p.instr (op.Call None n (reverse (take count held))) place
      × (b ≡ place_of scope (next_point p) (drop count held))
  CallAt None n count scope p held b = ⊥

  -- the stores that are left, from instruction i on
  abbrev pub FillAt : List ℕ → (object i : ℕ) → List ℕ → (place : ℕ) → LoweringPoint → Type 0
  FillAt [] object i below place q = q.instr ≡ i
  FillAt (k ∷ fields) object i below place q =
      (d : ℕ) × (slice_get below (length fields) ≡ Some d)
      × OpAt f i (op.Do None (Store k) (object ∷ d ∷ [])) place × FillAt fields object (i + 1) below place q

  -- a local variable begins, with the next variable; or one that is in scope is given a value
  pub record Begins (n : ℕ) (scope : LoweringScope) (p : LoweringPoint) (b : Place) : Type 0 where
    pub known : p.variable < length f.variables
    pub fresh : variable_of_local scope n ≡ None
    pub is : b ≡ place_of ((n, p.variable) ∷ scope) (after_value p) []

  pub record Changes (n x : ℕ) (scope : LoweringScope) (p : LoweringPoint) (b : Place) : Type 0 where
    pub known : variable_of_local scope n ≡ Some x
    pub is : b ≡ place_of scope (next_point p) []

  -- a loop from its condition on, which is at p; its post statement is at `next`, and its end at q
  abbrev pub LoopAt :
      List Loop → LoweringScope → Option Term → (body post : Stmts) → (place : ℕ) → (p next q : LoweringPoint) → Type 0
  LoopAt loops scope test body post place p next q =
      (mid last : LoweringPoint) × (inner outer : LoweringScope) × ConditionAt functions f scope test q.instr place p mid
      × StmtsAt functions f body (targets_of (loop_to scope q next ∷ loops)) scope mid inner next
      × StmtsAt functions f post (targets_of loops) scope next outer last
      × OpAt f last.instr (op.Jump p.instr) place × (q ≡ next_point last)

  -- the same, where the condition has been tested, and the body is at `mid`
  abbrev pub BodyAt :
      List Loop → LoweringScope → Option Term → (body post : Stmts) → (place : ℕ) → (p mid next q : LoweringPoint) → Type 0
  BodyAt loops scope test body post place p mid next q =
      (last : LoweringPoint) × (inner outer : LoweringScope) × ConditionAt functions f scope test q.instr place p mid
      × StmtsAt functions f body (targets_of (loop_to scope q next ∷ loops)) scope mid inner next
      × StmtsAt functions f post (targets_of loops) scope next outer last
      × OpAt f last.instr (op.Jump p.instr) place × (q ≡ next_point last)

  -- the loop to which a body belongs, which has ended at p
  abbrev pub AgainAt : Option Term → (body post : Stmts) → List Loop → LoweringScope → LoweringPoint → List ℕ → Place → Type 0
  AgainAt test body post [] scope p held b = ⊥
  AgainAt test body post (l ∷ loops) scope p (d ∷ held) b = ⊥
  AgainAt test body post (l ∷ loops) scope p [] b =
      (head q : LoweringPoint) × (place : ℕ) × LoopAt loops l.scope test body post place head p q
      × Fits f l.scope head.variable × (head.variable ≤ p.variable) × InLoop loops l.scope
      × (l.target.break_to ≡ q.instr) × (l.target.continue_to ≡ p.instr) × (b ≡ place_of l.scope q [])

  -- the code of one thing to do is at p, and leads to b
  abbrev pub ItemAt : Todo → List Loop → LoweringScope → LoweringPoint → List ℕ → Place → Type 0
  ItemAt (Evaluate t) loops scope p held b =
      (d : ℕ) × (q : LoweringPoint) × TermAt functions f scope t p d q × (b ≡ place_of scope q (d ∷ held))
  ItemAt (Each ts) loops scope p held b =
      (ds : List ℕ) × (q : LoweringPoint) × TermsAt functions f scope ts p ds q × (b ≡ place_of scope q (onto ds held))
  ItemAt (Perform action count ty place) loops scope p held b =
      ActionAt f p action (reverse (take count held)) ty place
      × (b ≡ place_of scope (after_value p) (p.variable ∷ drop count held))
  ItemAt (Affect action count place) loops scope p held b =
      OpAt f p.instr (op.Do None action (reverse (take count held))) place
      × (b ≡ place_of scope (next_point p) (drop count held))
  ItemAt Settle loops scope p (v ∷ held) b =
      (to place : ℕ) × OpAt f p.instr (op.Do (Some to) Copy (v ∷ [])) place × (to < length f.variables)
      × Fits f scope to × AreBelow to held × (q : LoweringPoint) × (q.instr ≡ p.instr + 1) × (p.variable ≤ q.variable)
      × (to < q.variable) × (b ≡ place_of scope q (to ∷ held))
  ItemAt (Decide logic right) loops scope p (d ∷ held) b =
      (r : ℕ) × (last : LoweringPoint) × (place : ℕ)
      × OpAt f p.instr (logic_branch logic d (p.instr + 1) (last.instr + 1)) place
      × TermAt functions f scope right (next_point p) r last × OpAt f last.instr (op.Do (Some d) Copy (r ∷ [])) place
      × (d < length f.variables) × Fits f scope d × AreBelow d held × (b ≡ place_of scope (next_point last) (d ∷ held))
  ItemAt (Create struct) loops scope p held b =
      (place : ℕ) × ActionAt f p (New struct) [] (pointer_type struct) place
      × (b ≡ place_of scope (after_value p) (p.variable ∷ held))
  ItemAt (Fill count fields place) loops scope p (object ∷ below) b =
      (q : LoweringPoint) × FillAt fields object p.instr below place q × (q.variable ≡ p.variable)
      × (b ≡ place_of scope q (object ∷ drop count below))
  ItemAt (Repeat count) loops scope p held b = b ≡ place_of scope p (take count held ++ held)
  ItemAt (Give n) loops scope p (d ∷ []) b =
      (x place : ℕ) × OpAt f p.instr (op.Do (Some x) Copy (d ∷ [])) place
      × (((x ≡ p.variable) × Begins n scope p b) ⊎ Changes n x scope p b)
  ItemAt Forget loops scope p (d ∷ held) b = b ≡ place_of scope p held
  ItemAt (Clear n ty) loops scope p [] b =
      (place : ℕ) × ActionAt f p (zero_action ty) [] ty place × Begins n scope p b
  ItemAt (Enter n count) loops scope p held b = CallAt (function_result_type functions f n) n count scope p held b
  ItemAt (Start n count) loops scope p held b =
      (place : ℕ) × OpAt f p.instr (op.Go n (reverse (take count held))) place
      × (function_result_type functions f n ≡ Some None) × (b ≡ place_of scope (next_point p) (drop count held))
  ItemAt (Write pieces count) loops scope p held b =
      (place : ℕ) × OpAt f p.instr (op.Print pieces (reverse (take count held))) place
      × (b ≡ place_of scope (next_point p) (drop count held))
  ItemAt (Execute s) loops scope p [] b =
      (inner : LoweringScope) × (q : LoweringPoint) × StmtAt functions f s (targets_of loops) scope p inner q
      × (b ≡ place_of inner q [])
  ItemAt (Sequence ss) loops scope p [] b =
      (inner : LoweringScope) × (q : LoweringPoint) × StmtsAt functions f ss (targets_of loops) scope p inner q
      × (b ≡ place_of inner q [])
  ItemAt (When body) loops scope p (d ∷ []) b =
      (place : ℕ) × (inner : LoweringScope) × (q : LoweringPoint) × OpAt f p.instr (op.Branch d (p.instr + 1) q.instr) place
      × StmtsAt functions f body (targets_of loops) scope (next_point p) inner q × (b ≡ place_of scope q [])
  ItemAt (Choose body other) loops scope p (d ∷ []) b =
      (place : ℕ) × (inner outer : LoweringScope) × (last q : LoweringPoint)
      × OpAt f p.instr (op.Branch d (p.instr + 1) (last.instr + 1)) place
      × StmtsAt functions f body (targets_of loops) scope (next_point p) inner last
      × OpAt f last.instr (op.Jump q.instr) place
      × StmtsAt functions f other (targets_of loops) scope (next_point last) outer q × (b ≡ place_of scope q [])
  ItemAt Close loops scope p [] b =
      (outer : LoweringScope) × Inside outer scope × InLoop loops outer × (b ≡ place_of outer p [])
  ItemAt Onward loops scope p [] b =
      (outer : LoweringScope) × (place : ℕ) × (q : LoweringPoint) × OpAt f p.instr (op.Jump q.instr) place × Inside outer scope
      × InLoop loops outer × Fits f outer q.variable × (b ≡ place_of outer q [])
  ItemAt (Turn test body post) loops scope p [] b =
      (next q : LoweringPoint) × (place : ℕ) × LoopAt loops scope test body post place p next q × (b ≡ place_of scope q [])
  ItemAt (Test test body post) loops scope p (d ∷ []) b =
      (head next q : LoweringPoint) × (place : ℕ) × BodyAt loops scope test body post place head (next_point p) next q
      × Fits f scope head.variable × (head.variable ≤ p.variable)
      × OpAt f p.instr (op.Branch d (p.instr + 1) q.instr) place × (b ≡ place_of scope q [])
  ItemAt (Again test body post) loops scope p held b = AgainAt test body post loops scope p held b
  ItemAt _ loops scope p held b = ⊥

  -- the loops around what follows a thing to do
  abbrev pub around : Todo → List Loop → List Loop
  around (Again test body post) loops = drop 1 loops
  around _ loops = loops

  -- ---- the end of a function, where no loop is around

  -- a return without a value
  pub record EndAt (loops : List Loop) (p : LoweringPoint) : Type 0 where
    pub place : ℕ
    pub instr : OpAt f p.instr (op.Return None) place
    pub is : f.result_type ≡ None
    pub none : loops ≡ []

  -- a return with the value of variable d
  pub record LeaveAt (loops : List Loop) (p : LoweringPoint) (d : ℕ) : Type 0 where
    pub place : ℕ
    pub instr : OpAt f p.instr (op.Return (Some d)) place
    pub ty : «Type»
    pub is : f.result_type ≡ Some ty
    pub none : loops ≡ []

  abbrev pub LeavesAt : List Loop → LoweringPoint → List ℕ → Type 0
  LeavesAt loops p [] = ⊥
  LeavesAt loops p (d ∷ held) = LeaveAt loops p d

  -- the end of a function with a result
  pub record StayAt (loops : List Loop) (p : LoweringPoint) : Type 0 where
    pub place : ℕ
    pub instr : OpAt f p.instr (op.Jump p.instr) place
    pub none : loops ≡ []

  -- the code of what a frame still has to do is from p on; its values are in the variables held, the newest first
  abbrev pub TodoAt : List Todo → List Loop → LoweringScope → LoweringPoint → List ℕ → Type 0
  TodoAt [] loops scope p held = EndAt loops p
  TodoAt (Leave ∷ todo) loops scope p held = LeavesAt loops p held
  TodoAt (Stay ∷ todo) loops scope p held = StayAt loops p
  TodoAt (item ∷ todo) loops scope p held =
      (b : Place) × ItemAt item loops scope p held b
      × TodoAt todo (around item loops) b.scope b.point b.held
