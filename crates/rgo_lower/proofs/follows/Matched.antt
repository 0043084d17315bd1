-- Matches: a frame of the source and a frame of the code at the same place, and the goroutines of both.
use Rattle.std.proofs.Common.{◌≡◌, ℕ, ◌≤◌, List, [], ◌∷◌, map, length}
use Rattle.std.proofs.Common.{Option, Some, None}
use Rattle.rgo_typed.specs.declared.types.Type.{«Type»}
use Rattle.rgo_typed.specs.Tree.{Function}
use Rattle.rgo_memory.specs.declared.values.Value.{Value}
use Rattle.rgo_tac.specs.Code.{TacFn, Tac}
use Rattle.rgo_tac.specs.Frames as tac
use Rattle.rgo_tac.specs.Frames.{value_at}
use Rattle.rgo_tac.specs.Steps.{function_of_frame}
use Rattle.rgo_tac.specs.Steps as steps
use Rattle.rgo_meaning.specs.Frames as source
use Rattle.rgo_meaning.specs.Frames.{Todo, local_value}
use Rattle.rgo_meaning.specs.Steps.{source_resumed}
use Rattle.rgo_lower.specs.Lowered.{LoweringPoint, LoweringScope, variable_of_local}
use Rattle.rgo_lower.proofs.follows.Lists.{AreBelow}
use Rattle.rgo_lower.proofs.follows.Places.{TodoAt, Fits, Loop, InLoop}

-- ---- frames and goroutines

-- both frames, that of the code in function f, are at the same place, with the same values
pub record Matches (functions : List Function) (code : Tac) (f : TacFn) (loops : List Loop) (scope : LoweringScope)
    (p : LoweringPoint) (held : List ℕ) (frame : source.SourceFrame) (low : tac.TacFrame) : Type 0 where
  pub function : function_of_frame code low ≡ Some f
  pub next : low.next ≡ p.instr
  pub todo : TodoAt functions f frame.todo loops scope p held
  pub values : map (value_at low) held ≡ frame.values
  pub below : AreBelow p.variable held
  pub fits : Fits f scope p.variable
  pub loop : InLoop loops scope
  pub locals : (n d : ℕ) → variable_of_local scope n ≡ Some d → local_value frame.locals n ≡ value_at low d
  pub long : length f.variables ≤ length low.variables

module _ (functions : List Function) (code : Tac) where
  abbrev pub AreMatched : TacFn → source.SourceFrame → tac.TacFrame → Type 0
  AreMatched f frame low =
      (loops : List Loop) × (scope : LoweringScope) × (p : LoweringPoint) × (held : List ℕ)
      × Matches functions code f loops scope p held frame low

  -- a caller matches when its callee, which has this result, has returned
  abbrev pub Awaits : TacFn → Option «Type» → source.SourceFrame → tac.TacFrame → Type 0
  Awaits f None caller low = AreMatched f (source_resumed caller None) (steps.tac_resumed code low None)
  Awaits f (Some ty) caller low =
      (v : Value) → AreMatched f (source_resumed caller (Some v)) (steps.tac_resumed code low (Some v))

  -- the callers of a function with this result
  abbrev pub CallersAt : Option «Type» → List source.SourceFrame → List tac.TacFrame → Type 0
  CallersAt result [] [] = Unit {0}
  CallersAt result (caller ∷ callers) (low ∷ lows) =
      (f : TacFn) × Awaits f result caller low × CallersAt f.result_type callers lows
  CallersAt result _ _ = ⊥

  abbrev pub Stacks : List source.SourceFrame → List tac.TacFrame → Type 0
  Stacks [] [] = Unit {0}
  Stacks (frame ∷ callers) (low ∷ lows) =
      (f : TacFn) × AreMatched f frame low × CallersAt f.result_type callers lows
  Stacks _ _ = ⊥
