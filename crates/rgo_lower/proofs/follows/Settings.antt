-- Settings: a frame of the code and what is around it, of which the steps are shown.
use Rattle.std.proofs.Common.{ℕ, List, map}
use Rattle.rgo_typed.specs.Tree.{Typed}
use Rattle.rgo_memory.specs.declared.values.Value.{Value}
use Rattle.rgo_tac.specs.Code.{TacFn, Tac}
use Rattle.rgo_tac.specs.Frames as tac
use Rattle.rgo_tac.specs.Frames.{value_at}
use Rattle.rgo_meaning.specs.Frames as source
use Rattle.rgo_meaning.specs.Frames.{Todo}
use Rattle.rgo_lower.specs.Lowered.{LoweringPoint, LoweringScope, IsLowered}
use Rattle.rgo_lower.proofs.follows.Places.{TodoAt, Loop}
use Rattle.rgo_lower.proofs.follows.Matched.{Matches, AreMatched, CallersAt, Stacks}

-- a program and its code; a frame of the code, of function f; and the frames below it and below the source's frame
pub record Setting : Type 0 where
  pub program : Typed
  pub code : Tac
  pub lowered : IsLowered program code
  pub f : TacFn
  pub frame : tac.TacFrame
  pub callers : List source.SourceFrame
  pub lows : List tac.TacFrame
  pub below : CallersAt program.functions code f.result_type callers lows

module _ (c : Setting) where
  -- the value of a variable
  abbrev pub g : ℕ → Value
  g d = value_at c.frame d

  -- a frame of the source whose values are in these variables
  abbrev pub frame_of : List Value → List ℕ → List Todo → source.SourceFrame
  frame_of locals held todo = record { locals = locals; values = map g held; todo = todo }

  -- that frame matches the frame of the code
  abbrev pub Here : List Loop → LoweringScope → LoweringPoint → List ℕ → List Value → List Todo → Type 0
  Here loops scope p held locals todo =
      Matches c.program.functions c.code c.f loops scope p held (frame_of locals held todo) c.frame

  -- the code of what is to do is in the frame's function
  abbrev pub At : List Todo → List Loop → LoweringScope → LoweringPoint → List ℕ → Type 0
  At todo loops scope p held = TodoAt c.program.functions c.f todo loops scope p held

  -- frames that match, of this function
  abbrev pub Fit : source.SourceFrame → tac.TacFrame → Type 0
  Fit frame other = AreMatched c.program.functions c.code c.f frame other

  abbrev pub Goroutines : List source.SourceFrame → List tac.TacFrame → Type 0
  Goroutines fs gs = Stacks c.program.functions c.code fs gs
