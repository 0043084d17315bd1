-- The compiled code of `one_object`, and code that is not: one creation more, or one fewer, is already another code.
use Rattle.std.specs.Prelude.{ℕ, List, [], ◌∷◌, Some, None}
use Rattle.rgo_typed.specs.declared.actions.Action.TheVariants as action
use Rattle.rgo_typed.specs.declared.statements.Piece.TheVariants as piece
use Rattle.rgo_machine.specs.declared.limits.Shortage.TheVariants as shortage
use Rattle.rgo_tac.specs.declared.regions.Class.TheVariants.{Name}
use Rattle.rgo_code.specs.Code.{Code, CodeFn, CodeInstr, CodeOp, Do, Jump, Print, Return}
use Rattle.rgo_region_machine.specs.Examples.{small_code, int_slot, main_of, node_slot}
use Rattle.rgo_run.specs.Compiled.{IsCompiledFrom}
use Rattle.rgo_run.specs.Headline.{AlwaysHas}
use Rattle.rgo_run.specs.Runs.{of_program}
use Rattle.rgo_claim_examples.specs.Programs.{endless, node, one_object}
use Rattle.rgo_claim_examples.specs.States.{sizes}

abbrev pub at : (place : ℕ) → (creates : List ℕ) → CodeOp → CodeInstr
at place creates op = record { creates = creates; op = op; place = place }

-- `main`, whose first instruction creates the regions of these names
abbrev pub main_with : (creates : List ℕ) → CodeFn
main_with creates = main_of (node_slot (Name 0) ∷ node_slot (Name 0) ∷ int_slot ∷ []) (
    at 94 creates (Do (Some 0) (action.New 0) [] [])
    ∷ at 91 [] (Do (Some 1) action.Copy (0 ∷ []) [])
    ∷ at 119 [] (Do (Some 2) (action.Load 0) (1 ∷ []) (0 ∷ []))
    ∷ at 116 [] (Print (piece.Value ∷ []) (2 ∷ []) [])
    ∷ at 126 [] (Return None) ∷ [])

abbrev pub code_with : (creates : List ℕ) → Code
code_with creates = small_code (node ∷ []) (main_with creates ∷ [])

-- the code of the program that never ends, which has no region
abbrev pub endless_main : CodeFn
endless_main = main_of [] (at 29 [] (Jump 0 []) ∷ at 38 [] (Return None) ∷ [])

abbrev pub endless_made : Code
endless_made = small_code [] (endless_main ∷ [])

pub record CompiledExamples : Type 0 where
  pub compiled : IsCompiledFrom one_object (code_with (0 ∷ []))
  pub endless : IsCompiledFrom endless endless_made
  -- one region too many is created, and none is
  pub padded : IsCompiledFrom one_object (code_with (0 ∷ 0 ∷ [])) → ⊥
  pub uncreated : IsCompiledFrom one_object (code_with []) → ⊥
  -- without a page, without a region, and in pages of one word, some run lacks room
  pub no_page : AlwaysHas (sizes 16 0 1) (of_program one_object) shortage.Pages → ⊥
  pub no_region : AlwaysHas (sizes 16 1 0) (of_program one_object) shortage.Regions → ⊥
  pub one_word : AlwaysHas (sizes 1 1 1) (of_program one_object) shortage.ObjectSize → ⊥
