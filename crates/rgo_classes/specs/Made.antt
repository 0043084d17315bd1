-- What is joined as the instructions of a function are gone through one by one.
use Rattle.std.specs.Prelude.{◌≡◌, ◌<◌, ℕ, List, Some, slice_get}
use Rattle.rgo_tac.specs.declared.regions.Member.{Member}
use Rattle.rgo_tac.specs.Code.{Instr, Op, TacFn}
use Rattle.rgo_tac.specs.Joins.{joins}
use Rattle.rgo_classes.specs.declared.classes.Summary.{Summary}
use Rattle.rgo_classes.specs.Holding.{Among}
use Rattle.rgo_classes.specs.Joins.{OpJoins}

-- what an instruction joins by itself
abbrev pub OwnJoins : TacFn → Op → Member → Member → Type 0
OwnJoins f op a b = joins f op ≡ Some (a, b)

-- what it joins in its function
abbrev pub JoinsOf : List Summary → TacFn → Op → Member → Member → Type 0
JoinsOf summaries f op = Among f (OpJoins summaries op)

-- what some instruction before this one joins
pub record JoinsBefore (summaries : List Summary) (f : TacFn) (n : ℕ) (a b : Member) : Type 0 where
  pub at : ℕ
  pub instr : Instr
  pub before : at < n
  pub here : slice_get f.body at ≡ Some instr
  pub joined : JoinsOf summaries f instr.op a b
