-- Nodes of a function: its members, and for each of its calls the members of the callee that callers see.
use Rattle.std.specs.Prelude.{◌≡◌, ◌⊎◌, ◌<◌, ◌+◌, ℕ, Option, Some, slice_get}
use Rattle.rgo_tac.specs.declared.regions.Member.{Member}
use Rattle.rgo_tac.specs.Code.{Instr, TacFn, Tac}
use Rattle.rgo_tac.specs.Joins.{joins}
use Rattle.rgo_classes.specs.Joins.{IsPointerLike}
use Rattle.rgo_summaries.specs.Calls.{CallParts, call_and_callee_at, member, passed_member}

-- what a node represents; `at` is the number of the instruction that calls, `number` that of the callee's member
pub data NodeKind : Type 0 where
  Own : Member → NodeKind
  Callee : (at number : ℕ) → NodeKind

-- members that callers see: the package variables, the result and the parameters
abbrev pub IsOuter : TacFn → ℕ → Type 0
IsOuter f number = (number < f.params + 2) × IsPointerLike f (member number)

-- an instruction other than a call joins two members
pub record JoinsOwn (f : TacFn) (kinds : ℕ → Option NodeKind) (x y : ℕ) : Type 0 where
  pub at : ℕ
  pub instr : Instr
  pub one : Member
  pub other : Member
  pub here : slice_get f.body at ≡ Some instr
  pub joined : joins f instr.op ≡ Some (one, other)
  pub x_is : kinds x ≡ Some (Own one)
  pub y_is : kinds y ≡ Some (Own other)

-- a call joins a member of the callee to the one that is passed for it
pub record JoinsPassed (code : Tac) (f : TacFn) (kinds : ℕ → Option NodeKind) (x y : ℕ) : Type 0 where
  pub at : ℕ
  pub call : CallParts
  pub callee : TacFn
  pub number : ℕ
  pub actual : Member
  pub here : call_and_callee_at code f at ≡ Some (call, callee)
  pub outer : IsOuter callee number
  pub passes : passed_member call number ≡ Some actual
  pub pointer_like : IsPointerLike f actual
  pub x_is : kinds x ≡ Some (Callee at number)
  pub y_is : kinds y ≡ Some (Own actual)

-- what is joined before anything is known of the callees; what these join is carried over later, by the nodes of the calls
abbrev pub JoinsAtFirst : Tac → TacFn → (ℕ → Option NodeKind) → ℕ → ℕ → Type 0
JoinsAtFirst code f kinds x y = JoinsOwn f kinds x y ⊎ JoinsPassed code f kinds x y
