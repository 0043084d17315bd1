-- The rules on creations, protections and removals.
use Rattle.std.specs.Prelude.{◌≡◌, ◌↔◌, ◌⊎◌, ◌+◌, ℕ, List, [], Some, Contains, slice_get, ⊤}
use Rattle.std.specs.List.Sorted.{IsStrictlyIncreasing}
use Rattle.rgo_tac.specs.declared.regions.Class.TheVariants.{Name}
use Rattle.rgo_code.specs.Code.{CodeOp, CodeInstr, CodeFn, Code, Call, Return, Do, Go, Print, Jump, Branch}
use Rattle.rgo_code.specs.Names.{result_class, IsOwn, IsLiveName, Holds, UsesRegionName, LeavesToCallee, IsPassedTwice, IsParameterName, edges}

-- rule 9: an instruction creates the own names that it uses and that are not held before it. A name that is held has its region
-- already; a second creation would hide that one, and nothing could remove it.
abbrev pub CreatesUsed : CodeFn → ℕ → CodeInstr → Type 0
CreatesUsed f i instr = (k : ℕ) → Contains instr.creates k ↔ (IsOwn f k × UsesRegionName f instr.op k × (Holds f k i → ⊥))

-- rule 10: a call protects the names that it passes and that are live after it, the result's, or passed twice. The first are used
-- after the call, and the second by the caller's caller. For the third the callee has two names, and may still use the region by one
-- when the other dies.
abbrev pub ProtectsUsed : CodeFn → ℕ → CodeOp → Type 0
ProtectsUsed f i (Call to n from passes protects removes) =
    (k : ℕ) → Contains protects k
    ↔ (Contains passes (Name k) × (IsLiveName f k (i + 1) ⊎ ((result_class f ≡ Name k) ⊎ IsPassedTwice passes k)))
ProtectsUsed f i (Do to action from removes) = ⊤
ProtectsUsed f i (Go n from passes removes) = ⊤
ProtectsUsed f i (Print pieces from removes) = ⊤
ProtectsUsed f i (Jump target removes) = ⊤
ProtectsUsed f i (Branch test target removes other otherwise) = ⊤
ProtectsUsed f i (Return value) = ⊤

-- what may be removed after an instruction: the names that are held or created before it and not left to a callee
abbrev pub MayRemove : Code → CodeFn → ℕ → CodeInstr → ℕ → Type 0
MayRemove code f i instr k = (Holds f k i ⊎ Contains instr.creates k) × (LeavesToCallee code instr.op k → ⊥)

-- rule 13: on each way the names are removed that are not held there. In one direction it keeps regions from being used after their
-- removal, in the other it keeps dead regions from staying.
abbrev pub RemovesDead : Code → CodeFn → ℕ → CodeInstr → Type 0
RemovesDead code f i instr =
    (j : ℕ) (removes : List ℕ) → Contains (edges instr.op i) (j, removes)
    → (k : ℕ) → Contains removes k ↔ (MayRemove code f i instr k × (Holds f k j → ⊥))

-- the same at entry, of the own names of parameters
abbrev pub EntryRemovesDead : CodeFn → Type 0
EntryRemovesDead f = (k : ℕ) → Contains f.entry k ↔ (IsOwn f k × IsParameterName f k × (Holds f k 0 → ⊥))

-- rule 12: the region of the result is neither created nor removed: it exists before the call, and the caller uses it afterwards
pub record LendsResult (f : CodeFn) (i : ℕ) (instr : CodeInstr) : Type 0 where
  pub creates : (k : ℕ) → result_class f ≡ Name k → Contains instr.creates k → ⊥
  pub removes : (k j : ℕ) (removes : List ℕ) → result_class f ≡ Name k → Contains (edges instr.op i) (j, removes)
      → Contains removes k → ⊥

-- the same at the line `entry`, which only removes
abbrev pub EntryLendsResult : CodeFn → Type 0
EntryLendsResult f = (k : ℕ) → result_class f ≡ Name k → Contains f.entry k → ⊥

-- rule 14: before a return no name is held, and a return creates none, since no later instruction of the function could remove it
pub record HoldsNothing (f : CodeFn) (i : ℕ) (instr : CodeInstr) : Type 0 where
  pub creates : instr.creates ≡ []
  pub holds : (k : ℕ) → Holds f k i → ⊥

-- rule 14, which only a return can break
abbrev pub ReturnsHoldNothing : CodeFn → ℕ → CodeInstr → CodeOp → Type 0
ReturnsHoldNothing f i instr (Return value) = HoldsNothing f i instr
ReturnsHoldNothing f i instr (Do to action from removes) = ⊤
ReturnsHoldNothing f i instr (Call to n from passes protects removes) = ⊤
ReturnsHoldNothing f i instr (Go n from passes removes) = ⊤
ReturnsHoldNothing f i instr (Print pieces from removes) = ⊤
ReturnsHoldNothing f i instr (Jump target removes) = ⊤
ReturnsHoldNothing f i instr (Branch test target removes other otherwise) = ⊤

-- ---- lists of names are ascending

-- the names that a call protects; other operations protect none
abbrev pub protected_names : CodeOp → List ℕ
protected_names (Call to n from passes protects removes) = protects
protected_names (Do to action from removes) = []
protected_names (Go n from passes removes) = []
protected_names (Print pieces from removes) = []
protected_names (Jump target removes) = []
protected_names (Branch test target removes other otherwise) = []
protected_names (Return value) = []

-- The lists of names of instruction i are strictly ascending: those that it creates and protects, and on each way those that are
-- removed there. `passes` is not among them: its order is that of the callee's region parameters, and it may repeat a class.
pub record InstrAscends (i : ℕ) (instr : CodeInstr) : Type 0 where
  pub creates : IsStrictlyIncreasing instr.creates
  pub protects : IsStrictlyIncreasing (protected_names instr.op)
  pub removes : (j : ℕ) (removes : List ℕ) → Contains (edges instr.op i) (j, removes) → IsStrictlyIncreasing removes

-- the lists of names at entry and at each instruction are strictly ascending
pub record FnAscends (f : CodeFn) : Type 0 where
  pub entry : IsStrictlyIncreasing f.entry
  pub body : (i : ℕ) (instr : CodeInstr) → slice_get f.body i ≡ Some instr → InstrAscends i instr

-- In all lists each name is below the next: so a set has one list, and code one text.
abbrev pub Ascends : Code → Type 0
Ascends code = (n : ℕ) (f : CodeFn) → slice_get code.functions n ≡ Some f → FnAscends f
