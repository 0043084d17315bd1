-- Small programs and their runs, worked out by computation: a reader can compare the definitions with what Go does. Each is there for one
-- order or one trap that is easily defined wrongly.
use Rattle.std.specs.Prelude.{◌≡◌, ℕ, zero, suc, Bool, true, false, pos, List, [], ◌∷◌, ◌++◌, length, Option, Some}
use Rattle.std.specs.Prelude.{None, codes, decimal, nat_le, slice_get, option_and_then}
use Rattle.rgo_ast.specs.declared.ops.BinaryOp.TheVariants.{Add, Div}
use Rattle.rgo_typed.specs.declared.actions.Action.TheVariants as action
use Rattle.rgo_typed.specs.declared.statements.Piece.TheVariants.{Value as NextValue}
use Rattle.rgo_typed.specs.declared.types.Type.{«Type»}
use Rattle.rgo_typed.specs.declared.types.Base.TheVariants as base
use Rattle.rgo_typed.specs.declared.types.Layer.TheVariants.{Chan}
use Rattle.rgo_typed.specs.Tree.{Term, Terms, Local, Apply, Call, no_terms, a_term, Stmt, Function, Typed}
use Rattle.rgo_typed.specs.Tree as tree
use Rattle.rgo_memory.specs.declared.traps.Trap.TheVariants.{DivideZero, NilPointer, SendClosed}
use Rattle.rgo_memory.specs.Memory.{Object, Channel}
use Rattle.rgo_machine.specs.declared.picks.Pick.TheVariants.{One, Meet}
use Rattle.rgo_machine.specs.declared.picks.End.{End}
use Rattle.rgo_machine.specs.declared.picks.End.TheVariants.{Exit, Trap}
use Rattle.rgo_meaning.specs.Source.{SourceState, source_step, source_start}

-- ---- programs

abbrev pub type_int : «Type»
type_int = record { layers = []; base = base.Int }

abbrev pub int_channel : «Type»
int_channel = record { layers = Chan ∷ []; base = base.Int }

abbrev pub one_term : Term → Terms
one_term t = a_term t no_terms

abbrev pub two_terms : Term → Term → Terms
two_terms t u = a_term t (a_term u no_terms)

abbrev pub int_term : ℕ → Term
int_term n = Apply (action.Int (pos n)) no_terms type_int 0

-- a function with these parameters, local variables and statements
abbrev pub function_with_body : List ℕ → ℕ → List «Type» → Option «Type» → List Stmt → Function
function_with_body name params locals result_type body =
    record { name = name; params = params; locals = locals; result_type = result_type; body = body; end = 0 }

abbrev pub program_of_functions : List Function → Typed
program_of_functions functions = record { structs = []; variables = []; functions = functions }

abbrev pub print_term : Term → Stmt
print_term t = tree.Print (NextValue ∷ []) (one_term t) 0

-- fmt.Println(2 + 3)
abbrev pub sum_program : Typed
sum_program =
    program_of_functions
    (function_with_body (codes "main") 0 [] None (print_term (Apply (action.Binary Add) (two_terms (int_term 2) (int_term 3)) type_int 0) ∷ []) ∷ [])

-- var x int; fmt.Println(1 / x), the division at place 17
abbrev pub division_program : Typed
division_program =
    program_of_functions
    (function_with_body (codes "main") 0 (type_int ∷ []) None
    (tree.Zero 0 type_int 0 ∷ print_term (Apply (action.Binary Div) (two_terms (int_term 1) (Local 0)) type_int 17) ∷ [])
    ∷ [])

-- func main() { c := make(chan int); go f(c); fmt.Println(<-c) }; func f(c chan int) { c <- 7 }
abbrev pub rendezvous_program : Typed
rendezvous_program =
    program_of_functions
    (function_with_body (codes "main") 0 (int_channel ∷ []) None
    (tree.Declare 0 int_channel (Apply action.Chan (one_term (int_term 0)) int_channel 0) 0
    ∷ tree.Go 1 (one_term (Local 0)) 0
    ∷ print_term (Apply action.Recv (one_term (Local 0)) type_int 0) ∷ [])
    ∷ function_with_body (codes "f") 1 (int_channel ∷ []) None (tree.Perform action.Send (two_terms (Local 0) (int_term 7)) 5 ∷ [])
    ∷ [])

-- func main() { c := make(chan int); go f(c); close(c); for {} }; func f(c chan int) { c <- 7 }, the send at place 5
abbrev pub closing_program : Typed
closing_program =
    program_of_functions
    (function_with_body (codes "main") 0 (int_channel ∷ []) None
    (tree.Declare 0 int_channel (Apply action.Chan (one_term (int_term 0)) int_channel 0) 0
    ∷ tree.Go 1 (one_term (Local 0)) 0
    ∷ tree.Perform action.Close (one_term (Local 0)) 0
    ∷ tree.Loop None tree.no_stmts tree.no_stmts 0 ∷ [])
    ∷ function_with_body (codes "f") 1 (int_channel ∷ []) None (tree.Perform action.Send (two_terms (Local 0) (int_term 7)) 5 ∷ [])
    ∷ [])

-- func main() { var x *N; x.v = f() }; func f() int { fmt.Println(1); return 2 }, the assignment at place 9
abbrev pub late_nil_program : Typed
late_nil_program =
    program_of_functions
    (function_with_body (codes "main") 0 (record { layers = []; base = base.Pointer 0 } ∷ []) None
    (tree.Zero 0 (record { layers = []; base = base.Pointer 0 }) 0
    ∷ tree.Perform (action.Store 0) (two_terms (Local 0) (Call 1 no_terms type_int 0)) 9 ∷ [])
    ∷ function_with_body (codes "f") 0 [] (Some type_int) (print_term (int_term 1) ∷ tree.Return (Some (int_term 2)) 0 ∷ [])
    ∷ [])

-- ---- runs

-- a goroutine alone, as long as it has a step and the test fails, up to n steps: a computation needs a bound
abbrev pub going_on : Bool → SourceState → Option SourceState → (SourceState → SourceState) → SourceState
going_on true s next more = s
going_on false s None more = s
going_on false s (Some t) more = more t

abbrev pub alone_until : Typed → (SourceState → Bool) → ℕ → ℕ → SourceState → SourceState
alone_until p test g zero s = s
alone_until p test g (suc n) s = going_on (test s) s (source_step p s (One g)) (alone_until p test g n)

abbrev pub never : SourceState → Bool
never s = false

abbrev pub have_started : SourceState → Bool
have_started s = nat_le 2 (length s.goroutines)

abbrev pub is_closed_object : Option Object → Bool
is_closed_object (Some (Channel capacity queue closed)) = closed
is_closed_object _ = false

abbrev pub has_closed : SourceState → Bool
has_closed s = is_closed_object (slice_get s.memory.heap 0)

-- what was printed, and how the run ended
abbrev pub print_and_end : SourceState → List ℕ × Option End
print_and_end s = (s.printed, s.ended)

abbrev pub main_alone : Typed → List ℕ × Option End
main_alone p = print_and_end (alone_until p never 0 100 (source_start p))

abbrev pub main_after_meeting : Option SourceState → Option (List ℕ × Option End)
main_after_meeting next = option_and_then (λ s. Some (print_and_end (alone_until rendezvous_program never 0 100 s))) next

-- both wait, they meet, and `main` continues
abbrev pub meeting_met : Option (List ℕ × Option End)
meeting_met =
    main_after_meeting
    (source_step rendezvous_program
    (alone_until rendezvous_program never 1 100 (alone_until rendezvous_program never 0 100 (source_start rendezvous_program)))
    (Meet 0 1))

-- the sender waits, then the channel is closed, then the sender traps: it is still at its send
abbrev pub closing_closed : List ℕ × Option End
closing_closed =
    print_and_end
    (alone_until closing_program never 1 10
    (alone_until closing_program has_closed 0 100
    (alone_until closing_program never 1 100
    (alone_until closing_program have_started 0 100 (source_start closing_program)))))

-- a number alone
abbrev pub number_line : ℕ → List ℕ
number_line n = decimal n ++ 10 ∷ []

pub record Examples : Type 0 where
  pub sum_prints : main_alone sum_program ≡ (number_line 5, Some Exit)
  pub division_traps : main_alone division_program ≡ ([], Some (Trap DivideZero 17))
  pub both_meet : meeting_met ≡ Some (number_line 7, Some Exit)
  pub waiting_sender_traps : closing_closed ≡ ([], Some (Trap SendClosed 5))
  pub right_side_first : main_alone late_nil_program ≡ (number_line 1, Some (Trap NilPointer 9))
