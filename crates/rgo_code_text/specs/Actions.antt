-- Operations of a code text, as they are read by their words. The numbers of what they name are 0.
use Rattle.std.specs.Prelude.{ℕ, ◌==◌, if◌then◌else◌, List, [], ◌∷◌, length, Option, Some, None, codes}
use Rattle.std.specs.Str.{bytes_eq}
use Rattle.rgo_ast.specs.declared.ops.BinaryOp.{BinaryOp}
use Rattle.rgo_ast.specs.declared.ops.BinaryOp.TheVariants as binary
use Rattle.rgo_typed.specs.declared.actions.Action.{Action}
use Rattle.rgo_typed.specs.declared.actions.Action.TheVariants as action
use Rattle.rgo_tac.specs.Code as tac
use Rattle.rgo_code_words.specs.Cuts.{nth_word}
use Rattle.rgo_code_words.specs.Worded.{is_name}
use Rattle.rgo_code_words.specs.Readers.{read_number, read_int, read_variable, read_truth, read_operator, on_some}

-- an action with its operands, and what it names, if that is anything
pub record NamedAction : Type 0 where
  pub op : tac.Op
  pub name : List ℕ

abbrev pub nameless_action : Option ℕ → Action → List ℕ → Option NamedAction
nameless_action to a from = Some (record { op = tac.Do to a from; name = [] })

abbrev pub named_action : tac.Op → List ℕ → Option NamedAction
named_action op name = if is_name name then Some (record { op = op; name = name }) else None

abbrev pub with_one : List ℕ → ℕ → Option NamedAction
with_one word a =
    if bytes_eq word (codes "nil") then nameless_action (Some a) action.Nil []
    else (if bytes_eq word (codes "close") then nameless_action None action.Close (a ∷ [])
    else None)

abbrev pub with_two : List ℕ → ℕ → ℕ → Option NamedAction
with_two word a b =
    if bytes_eq word (codes "copy") then nameless_action (Some a) action.Copy (b ∷ [])
    else (if bytes_eq word (codes "neg") then nameless_action (Some a) action.Neg (b ∷ [])
    else (if bytes_eq word (codes "not") then nameless_action (Some a) action.Not (b ∷ [])
    else (if bytes_eq word (codes "isnil") then nameless_action (Some a) action.IsNil (b ∷ [])
    else (if bytes_eq word (codes "len") then nameless_action (Some a) action.Len (b ∷ [])
    else (if bytes_eq word (codes "slice") then nameless_action (Some a) action.Slice (b ∷ [])
    else (if bytes_eq word (codes "chan") then nameless_action (Some a) action.Chan (b ∷ [])
    else (if bytes_eq word (codes "recv") then nameless_action (Some a) action.Recv (b ∷ [])
    else (if bytes_eq word (codes "send") then nameless_action None action.Send (a ∷ b ∷ [])
    else None))))))))

abbrev pub with_three : List ℕ → ℕ → ℕ → ℕ → Option NamedAction
with_three word a b c =
    if bytes_eq word (codes "at") then nameless_action (Some a) action.At (b ∷ c ∷ [])
    else (if bytes_eq word (codes "put") then nameless_action None action.Put (a ∷ b ∷ c ∷ [])
    else None)

abbrev pub two_words : List (List ℕ) → Option NamedAction
two_words words = on_some (read_variable (nth_word words 1)) (λ a. with_one (nth_word words 0) a)

-- `set` has a name where other actions of three words have a variable
abbrev pub read_set : List (List ℕ) → Option NamedAction
read_set words = on_some (read_variable (nth_word words 2)) (λ a. named_action (tac.Do None (action.Set 0) (a ∷ [])) (nth_word words 1))

abbrev pub int_of : ℕ → List ℕ → Option NamedAction
int_of d word = on_some (read_int word) (λ k. nameless_action (Some d) (action.Int k) [])

abbrev pub bool_of : ℕ → List ℕ → Option NamedAction
bool_of d word = on_some (read_truth word) (λ b. nameless_action (Some d) (action.Bool b) [])

abbrev pub read_with_target : ℕ → (word last : List ℕ) → Option NamedAction
read_with_target d word last =
    if bytes_eq word (codes "int") then int_of d last
    else (if bytes_eq word (codes "bool") then bool_of d last
    else (if bytes_eq word (codes "new") then named_action (tac.Do (Some d) (action.New 0) []) last
    else (if bytes_eq word (codes "get") then named_action (tac.Do (Some d) (action.Get 0) []) last
    else on_some (read_variable last) (λ a. with_two word d a))))

abbrev pub three_words : List (List ℕ) → Option NamedAction
three_words words =
    if bytes_eq (nth_word words 0) (codes "set") then read_set words
    else on_some (read_variable (nth_word words 1)) (λ d. read_with_target d (nth_word words 0) (nth_word words 2))

abbrev pub read_load : ℕ → List (List ℕ) → Option NamedAction
read_load d words =
    on_some (read_variable (nth_word words 2)) (λ a.
    on_some (read_number (nth_word words 3)) (λ k. nameless_action (Some d) (action.Load k) (a ∷ [])))

abbrev pub read_store : ℕ → List (List ℕ) → Option NamedAction
read_store a words =
    on_some (read_number (nth_word words 2)) (λ k.
    on_some (read_variable (nth_word words 3)) (λ b. nameless_action None (action.Store k) (a ∷ b ∷ [])))

abbrev pub three_variables : ℕ → List (List ℕ) → Option NamedAction
three_variables a words =
    on_some (read_variable (nth_word words 2)) (λ b.
    on_some (read_variable (nth_word words 3)) (λ c. with_three (nth_word words 0) a b c))

abbrev pub taking : ℕ → List (List ℕ) → Option NamedAction
taking a words =
    if bytes_eq (nth_word words 0) (codes "load") then read_load a words
    else (if bytes_eq (nth_word words 0) (codes "store") then read_store a words
    else three_variables a words)

abbrev pub four_words : List (List ℕ) → Option NamedAction
four_words words = on_some (read_variable (nth_word words 1)) (λ a. taking a words)

abbrev pub with_operator : BinaryOp → (d a b : ℕ) → Option NamedAction
with_operator binary.And d a b = None
with_operator binary.Or d a b = None
with_operator op d a b = nameless_action (Some d) (action.Binary op) (a ∷ b ∷ [])

abbrev pub read_binary : List (List ℕ) → Option NamedAction
read_binary words =
    on_some (read_variable (nth_word words 1)) (λ d.
    on_some (read_operator (nth_word words 2)) (λ op.
    on_some (read_variable (nth_word words 3)) (λ a.
    on_some (read_variable (nth_word words 4)) (λ b. with_operator op d a b))))

abbrev pub five_words : List (List ℕ) → Option NamedAction
five_words words = if bytes_eq (nth_word words 0) (codes "bin") then read_binary words else None

-- an action by its word and its operands
abbrev pub read_action : List (List ℕ) → Option NamedAction
read_action words =
    if length words == 2 then two_words words
    else (if length words == 3 then three_words words
    else (if length words == 4 then four_words words
    else (if length words == 5 then five_words words
    else None)))
