-- The vocabulary of reading functions: their results, sequencing, one token, and lists.
use Rattle.std.specs.Prelude.{ℕ, zero, suc, if◌then◌else◌, List, [], ◌∷◌, ◌++◌, Option, Some, None}
use Rattle.rgo_lexer.specs.{declared.terminals.Terminal.{Terminal}, Lexemes.{Leaf, Lexeme, is_same_terminal}}

-- Why a reading function fails: the tokens from the first bad one on, or a bound on the turns that was too small. The bound makes
-- the functions total; with the one that `parse` uses it never runs out.
pub data Stop : Type 0 where
  At : List Lexeme → Stop
  Starving : Stop

-- a value and the tokens after it, or a failure
pub data Read (A : Type 0) : Type 0 where
  Done : A → List Lexeme → Read A
  Failed : Stop → Read A

-- a function that reads a value from the front of a list of tokens
abbrev pub Reader : Type 0 → Type 0
Reader A = List Lexeme → Read A

infixl 10 ◌>>=◌
abbrev pub ◌>>=◌ : {A B : Type 0} → Read A → (A → Reader B) → Read B
(Done a w) >>= f = f a w
(Failed s) >>= f = Failed s

-- success with a function of what was read
abbrev pub yielding : {A B : Type 0} → (A → B) → A → List Lexeme → Read B
yielding f a w = Done (f a) w

abbrev pub next_lexeme : List Lexeme → Option (Lexeme × List Lexeme)
next_lexeme [] = None
next_lexeme (t ∷ l) = Some (t, l)

-- one token
abbrev pub token_on : Terminal → List Lexeme → Option (Lexeme × List Lexeme) → Read Leaf
token_on k l None = Failed (At l)
token_on k l (Some x) = if is_same_terminal k x.0.terminal then Done x.0.leaf x.1 else Failed (At l)

abbrev pub token : Terminal → List Lexeme → Read Leaf
token k l = token_on k l (next_lexeme l)

-- after an item of a list: what closes the list, or a separator and the rest of the list
abbrev pub list_rest_on : {A : Type 0} → Terminal → Terminal → (List A → Reader (List A × Leaf))
    → List A → List Lexeme → Option (Lexeme × List Lexeme) → Read (List A × Leaf)
list_rest_on separator closer again found l None = Failed (At l)
list_rest_on separator closer again found l (Some x) =
    if is_same_terminal closer x.0.terminal then Done (found, x.0.leaf) x.1 else
    (if is_same_terminal separator x.0.terminal then again found x.1 else Failed (At l))

abbrev pub list_rest : {A : Type 0} → Terminal → Terminal → (List A → Reader (List A × Leaf)) → List A
    → List Lexeme → Read (List A × Leaf)
list_rest separator closer again found l = list_rest_on separator closer again found l (next_lexeme l)

abbrev pub listed_on : {A : Type 0} → Terminal → Terminal → Reader (List A)
    → (List A → Reader (List A × Leaf)) → List A → List Lexeme
    → Option (Lexeme × List Lexeme) → Read (List A × Leaf)
listed_on separator closer item again found l None = Failed (At l)
listed_on separator closer item again found l (Some x) =
    if is_same_terminal closer x.0.terminal then Done (found, x.0.leaf) x.1 else
    (item l >>= λ a. list_rest separator closer again (found ++ a))

-- items up to what closes them, appended to those found so far
unfoldable pub listed : {A : Type 0} → Terminal → Terminal → Reader (List A) → ℕ → List A
    → List Lexeme → Read (List A × Leaf)
listed separator closer item zero found l = Failed Starving
listed separator closer item (suc n) found l =
    listed_on separator closer item (listed separator closer item n) found l (next_lexeme l)

abbrev pub single : {A : Type 0} → Read A → Read (List A)
single m = m >>= yielding (λ a. a ∷ [])

-- items that are read one by one, up to what closes them, appended to those found so far
unfoldable pub several : {A : Type 0} → Terminal → Terminal → Reader A → ℕ → List A
    → List Lexeme → Read (List A × Leaf)
several separator closer item n found l = listed separator closer (λ m. single (item m)) n found l
