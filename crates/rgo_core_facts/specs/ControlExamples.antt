-- Each definition where it holds and where it must not.
use Rattle.std.specs.Prelude.{◌<◌, ℕ, List, [], ◌∷◌, Some, None}
use Rattle.rgo_sound.specs.Ast.declared.ops.BinaryOp.TheVariants.{And}
use Rattle.rgo_sound.specs.Code.Code.{Branch, Call, CodeFn, Do, Go, Jump, Print, Return, Slot}
use Rattle.rgo_core.specs.Frames.goroutines.Opening.{no_record}
use Rattle.rgo_core.specs.Frames.shown.WordFrames.{WordFrame}
use Rattle.rgo_sound.specs.Machine.declared.limits.Limits.{Limits}
use Rattle.rgo_sound.specs.Machine.declared.limits.Sizes.{Sizes}
use Rattle.rgo_sound.specs.RegionMachine.Examples.{int_slot, main_of, passed_twice, plain_instr}
use Rattle.rgo_sound.specs.RegionMachine.States.{Create, EndBase, RegionEnvironment, Remove, Share, Unprotect}
use Rattle.rgo_sound.specs.RegionMachine.declared.regions.Region.TheVariants.{Global as GlobalRegion, Numbered}
use Rattle.rgo_sound.specs.Tac.declared.regions.Class.TheVariants.{Name, NoClass}
use Rattle.rgo_sound.specs.Typed.declared.actions.Action.TheVariants as action
use Rattle.rgo_sound.specs.WellFormed.TypeRules.{bool}
use Rattle.rgo_core.specs.Core.{Setup}
use Rattle.rgo_core.specs.Records.{Record, begins_with}
use Rattle.rgo_core_facts.specs.ControlCode.{HasCallee, IsFollowed, ReturnsResult, UsesVariables}
use Rattle.rgo_core_facts.specs.ControlDuties.{CanAttend}
use Rattle.rgo_core_facts.specs.ControlFrames.{IsAtNext, IsCalledBy, IsInCode}
use Rattle.rgo_core_facts.specs.ControlPrints.{IsBoolWord, IsIntWord, CanBePrinted}
use Rattle.rgo_core_facts.specs.ControlRegions.{HasNothingOf, HaveRegions, IsStaked, KnowsRegions}
use Rattle.rgo_core_facts.specs.ControlShapes.{HasShape}

-- ---- code

-- a function with one variable, whose only instruction jumps to itself
abbrev pub looping : CodeFn
looping = main_of (int_slot ∷ []) (plain_instr (Jump 0 []) ∷ [])

-- a variable that is printed as a bool
abbrev pub bool_slot : Slot
bool_slot = record { ty = bool; class = NoClass }

-- ---- records

-- `main` of `passed_twice` at its call of `f`, and `f` at its first instruction
abbrev pub at_call : WordFrame
at_call = record { function = 1; next = 3; variables = 21 ∷ 6 ∷ 0 ∷ [] }

abbrev pub at_entry : WordFrame
at_entry = record { function = 0; next = 0; variables = 6 ∷ 6 ∷ 0 ∷ 0 ∷ 0 ∷ [] }

-- name 0 is bound to the region of slot 0
abbrev pub name_binding : RegionEnvironment
name_binding = record { lent = NoClass; names = (0, Numbered 0) ∷ []; protections = [] }

-- a goroutine at that call, with these stakes, which knows the region of slot 0 by name 0
abbrev pub knowing_record : (stakes : List ℕ) → Record
knowing_record stakes = begins_with (record {
  frames = at_call ∷ [];
  holder = record no_record.holder { stakes = stakes; environments = name_binding ∷ [] };
})

-- a table for this code
abbrev pub setup : Sizes → Limits → Setup
setup sizes limits = record { code = passed_twice; sizes = sizes; limits = limits }

-- ---- examples

pub record CodeExamples : Type 0 where
  pub uses : UsesVariables looping (Branch 0 0 [] 0 [])
  pub uses_no_variable : UsesVariables looping (Branch 1 0 [] 0 []) → ⊥
  pub jumps : IsFollowed looping 0 (Jump 0 [])
  pub jumps_out : IsFollowed looping 0 (Jump 1 []) → ⊥
  pub runs_out : IsFollowed looping 0 (Print [] [] []) → ⊥
  pub returns : ReturnsResult looping (Return None)
  pub returns_a_value : ReturnsResult looping (Return (Some 0)) → ⊥
  pub calls : HasCallee passed_twice (Call (Some 2) 0 (1 ∷ 1 ∷ []) (Name 0 ∷ Name 0 ∷ []) (0 ∷ []) (0 ∷ []))
  pub calls_no_function : HasCallee passed_twice (Call None 7 [] [] [] []) → ⊥
  pub drops_result : HasCallee passed_twice (Call None 0 (1 ∷ 1 ∷ []) (Name 0 ∷ Name 0 ∷ []) [] []) → ⊥
  pub starts_with_result : HasCallee passed_twice (Go 0 (1 ∷ 1 ∷ []) (Name 0 ∷ Name 0 ∷ []) []) → ⊥
  pub loads : HasShape (Do (Some 2) (action.Load 0) (1 ∷ []) [])
  pub loads_nowhere : HasShape (Do None (action.Load 0) (1 ∷ []) []) → ⊥
  pub stores_nothing : HasShape (Do None (action.Store 0) (1 ∷ []) []) → ⊥
  pub takes_both : HasShape (Do (Some 0) (action.Binary And) (1 ∷ 2 ∷ []) []) → ⊥

pub record ControlFrameExamples : Type 0 where
  pub in_code : IsInCode passed_twice at_call
  pub past_end : IsInCode passed_twice (record at_call { next = 6 }) → ⊥
  pub without_words : IsInCode passed_twice (record at_call { variables = [] }) → ⊥
  pub called : IsCalledBy passed_twice at_entry at_call
  pub called_elsewhere : IsCalledBy passed_twice at_entry (record at_call { next = 2 }) → ⊥
  pub next : IsAtNext passed_twice (knowing_record (0 ∷ [])) at_call []
  pub no_next : (w : WordFrame) (ws : List WordFrame) → IsAtNext passed_twice (begins_with no_record) w ws → ⊥

pub record ControlRegionExamples (sizes : Sizes) (limits : Limits) : Type 0 where
  pub global : IsStaked (setup sizes limits) (knowing_record []) GlobalRegion
  pub staked : 0 < sizes.regions → IsStaked (setup sizes limits) (knowing_record (0 ∷ [])) (Numbered 0)
  pub unstaked : IsStaked (setup sizes limits) (knowing_record (0 ∷ [])) (Numbered 1) → ⊥
  pub knows : 0 < sizes.regions → KnowsRegions (setup sizes limits) (knowing_record (0 ∷ []))
  -- a name without a stake
  pub knows_too_much : KnowsRegions (setup sizes limits) (knowing_record []) → ⊥
  pub nothing : HasNothingOf (knowing_record (0 ∷ [])) 1
  pub something : HasNothingOf (knowing_record []) 0 → ⊥
  pub passes : 0 < sizes.regions → HaveRegions (setup sizes limits) (knowing_record (0 ∷ [])) (Name 0 ∷ [])
  pub passes_no_region : HaveRegions (setup sizes limits) (knowing_record (0 ∷ [])) (Name 1 ∷ []) → ⊥
  pub creates : CanAttend (setup sizes limits) (knowing_record (0 ∷ [])) (Create 1)
  pub creates_again : CanAttend (setup sizes limits) (knowing_record (0 ∷ [])) (Create 0) → ⊥
  pub removes : 0 < sizes.regions → CanAttend (setup sizes limits) (knowing_record (0 ∷ [])) (Remove 0)
  pub shares_no_region : CanAttend (setup sizes limits) (knowing_record (0 ∷ [])) (Share 1) → ⊥
  pub unprotects_none : CanAttend (setup sizes limits) (knowing_record (0 ∷ [])) (Unprotect 0) → ⊥
  pub ends_early : CanAttend (setup sizes limits) (knowing_record (0 ∷ [])) (EndBase (Numbered 0)) → ⊥

pub record ControlPrintExamples : Type 0 where
  pub an_int : IsIntWord int_slot 5
  pub too_large : IsIntWord int_slot 18446744073709551616 → ⊥
  pub no_int : IsIntWord bool_slot 5 → ⊥
  pub a_bool : IsBoolWord bool_slot 1
  pub neither : IsBoolWord bool_slot 2 → ⊥
  pub prints : CanBePrinted looping (record { function = 0; next = 0; variables = 5 ∷ [] }) 0
  pub prints_no_variable : CanBePrinted looping (record { function = 0; next = 0; variables = 5 ∷ [] }) 1 → ⊥
