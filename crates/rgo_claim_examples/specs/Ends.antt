-- Two small pieces of three-address code, and which ends their runs have: one prints a truth value, and one waits for a value that is
-- never sent. What a run cannot do (`other_print`, `no_exit`) matters as much: a definition that every end satisfied would make the
-- claim empty.
use Rattle.std.specs.Prelude.{ℕ, Bool, codes, true, false, pos, List, [], ◌∷◌, map, Some, None}
use Rattle.rgo_typed.specs.declared.actions.Action.TheVariants as action
use Rattle.rgo_typed.specs.declared.statements.Piece.TheVariants as piece
use Rattle.rgo_typed.specs.declared.types.Type.{«Type»}
use Rattle.rgo_wellformed.specs.TypeRules.{int, bool, chan_of}
use Rattle.rgo_memory.specs.Memory.{Channel}
use Rattle.rgo_memory.specs.declared.values.Value.TheVariants as value
use Rattle.rgo_machine.specs.declared.picks.End.TheVariants.{Exit}
use Rattle.rgo_machine.specs.Deadlocks.{IsDeadlock}
use Rattle.rgo_machine.specs.Lines.{printed_line}
use Rattle.rgo_tac.specs.Code.{Op, Tac, Do, Print, Return}
use Rattle.rgo_tac.specs.Tac.{TacState, tac, tac_start}
use Rattle.rgo_machine.specs.declared.ends.RunEnd.{RunEnd}
use Rattle.rgo_machine.specs.declared.ends.RunEnd.TheVariants as run_end
use Rattle.rgo_machine.specs.Ends.{RunsFreely}
use Rattle.rgo_command_line.specs.Limits.{default_options}

-- `main` alone, with these variables and instructions
abbrev pub main_code : List «Type» → List Op → Tac
main_code variables ops = record {
  structs = [];
  variables = [];
  functions =
      record {
        name = codes "main";
        params = 0;
        result_type = None;
        variables = variables;
        body = map (λ op. record { op = op; place = 0 }) ops;
      } ∷ [];
}

-- fmt.Println(true)
abbrev pub prints : Tac
prints =
    main_code (bool ∷ [])
    (Do (Some 0) (action.Bool true) [] ∷ Print (piece.Value ∷ []) (0 ∷ []) ∷ Return None ∷ [])

-- c := make(chan int); <-c
abbrev pub receiver : Tac
receiver =
    main_code (int ∷ chan_of int ∷ int ∷ [])
    (Do (Some 0) (action.Int (pos 0)) [] ∷ Do (Some 1) action.Chan (0 ∷ []) ∷ Do (Some 2) action.Recv (1 ∷ [])
    ∷ Return None ∷ [])

-- the line of a truth value
abbrev pub truth_line : Bool → List ℕ
truth_line b = printed_line (piece.Value ∷ []) (value.Bool b ∷ [])

-- the receiver before its receive
abbrev pub waiting : TacState
waiting = record {
  memory = record { heap = Channel 0 [] false ∷ []; variables = [] };
  goroutines =
      (record { function = 0; next = 2; variables = value.Int (pos 0) ∷ value.Object 0 ∷ value.Int (pos 0) ∷ [] } ∷ [])
      ∷ [];
  printed = [];
  ended = None;
}

-- some run of the code within the default limits has this end and this print
abbrev pub FreeRunPrints : Tac → RunEnd → List ℕ → Type 0
FreeRunPrints code end print = RunsFreely (tac code) default_options.limits (tac_start code) end (Some []) (Some print)

pub record EndExamples : Type 0 where
  pub waits : IsDeadlock (tac receiver) waiting
  -- a step is left, or the run has ended
  pub has_step : IsDeadlock (tac receiver) (tac_start receiver) → ⊥
  pub has_ended : IsDeadlock (tac receiver) (record waiting { ended = Some Exit }) → ⊥
  pub exits : FreeRunPrints prints (run_end.Ended Exit) (truth_line true)
  pub deadlocks : FreeRunPrints receiver run_end.Deadlock []
  -- no other print, no other end
  pub other_print : FreeRunPrints prints (run_end.Ended Exit) (truth_line false) → ⊥
  pub no_deadlock : (print : List ℕ) → FreeRunPrints prints run_end.Deadlock print → ⊥
  pub no_exit : (print : List ℕ) → FreeRunPrints receiver (run_end.Ended Exit) print → ⊥
