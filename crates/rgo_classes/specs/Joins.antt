-- What the instructions of a function join, where the functions that it calls have these summaries.
use Rattle.std.specs.Prelude.{◌≡◌, ◌≢◌, ◌⊎◌, ℕ, true, List, Option, Some, None, slice_get}
use Rattle.rgo_tac.specs.declared.regions.Class.{Class}
use Rattle.rgo_tac.specs.declared.regions.Class.TheVariants as class
use Rattle.rgo_tac.specs.declared.regions.Member.{Member}
use Rattle.rgo_tac.specs.declared.regions.Member.TheVariants.{Variable, Result, Global}
use Rattle.rgo_tac.specs.Code.{Op, Call, Go, Instr, TacFn, Do, Print, Jump, Branch, Return}
use Rattle.rgo_tac.specs.Joins.{is_pointer_like_member, op_joins}
use Rattle.rgo_classes.specs.declared.classes.Summary.{Summary}

-- `CorrespondsInCall s to from c m`: in a call of a function with the summary s, the caller's member m corresponds to a member of the callee
-- that has the class c. A variable corresponds to the parameters that it is passed for, and to the result if it is the target. The
-- package variables correspond to themselves. The caller's own result takes no part in a call.
abbrev pub CorrespondsInCall : Summary → (to : Option ℕ) → (from : List ℕ) → Class → Member → Type 0
CorrespondsInCall s to from c (Variable v) =
    ((i : ℕ) × (slice_get s.params i ≡ Some c) × (slice_get from i ≡ Some v)) ⊎ ((s.result ≡ c) × (to ≡ Some v))
CorrespondsInCall s to from c Result = ⊥
CorrespondsInCall s to from c Global = c ≡ class.Global

-- A call joins two members of the caller if both correspond to members of one class of the callee. A call of a function without a
-- summary joins nothing.
abbrev pub CallJoins : Option Summary → (to : Option ℕ) → (from : List ℕ) → Member → Member → Type 0
CallJoins None to from a b = ⊥
CallJoins (Some s) to from a b =
    (c : Class) × (c ≢ class.NoClass) × CorrespondsInCall s to from c a × CorrespondsInCall s to from c b

-- The operation joins the two members. Calls and starts of goroutines do so by the summary of their function, where a start has no
-- target; other operations do so by themselves.
abbrev pub OpJoins : List Summary → Op → Member → Member → Type 0
OpJoins summaries (Call to n from) a b = CallJoins (slice_get summaries n) to from a b
OpJoins summaries (Go n from) a b = CallJoins (slice_get summaries n) None from a b
OpJoins summaries (Do to action from) a b = op_joins (Do to action from) ≡ Some (a, b)
OpJoins summaries (Print pieces from) a b = op_joins (Print pieces from) ≡ Some (a, b)
OpJoins summaries (Jump target) a b = op_joins (Jump target) ≡ Some (a, b)
OpJoins summaries (Branch test target other) a b = op_joins (Branch test target other) ≡ Some (a, b)
OpJoins summaries (Return value) a b = op_joins (Return value) ≡ Some (a, b)

-- m is the result or a variable of f whose type is a pointer, a slice or a channel, or it is the package variables
abbrev pub IsPointerLike : TacFn → Member → Type 0
IsPointerLike f m = is_pointer_like_member f m ≡ true

-- Some instruction of the function joins the two, which are pointer-like: a copy of an integer joins no regions, and `op_joins` does
-- not look at types.
pub record Joins (summaries : List Summary) (f : TacFn) (a b : Member) : Type 0 where
  pub at : ℕ
  pub instr : Instr
  pub here : slice_get f.body at ≡ Some instr
  pub joined : OpJoins summaries instr.op a b
  pub first : IsPointerLike f a
  pub second : IsPointerLike f b
