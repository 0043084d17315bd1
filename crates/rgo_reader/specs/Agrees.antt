-- `Agrees`: code that reads from a `Reader` agrees with a reading function of rgo_grammar on the same lexemes, unless memory ran out.
-- It also fixes the lexemes that are left, after a failure too: by their number the parser knows the first bad one.
use Rattle.std.specs.Prelude.{◌≡◌, ◌≢◌, ℕ, List, [], Result, Ok, Err}
use denote.Ref.{Bor}
use Rattle.rgo_ast.specs.declared.names.Ident.{Ident}
use Rattle.rgo_lexer.specs.Lexemes.{Leaf, Lexeme}
use Rattle.rgo_grammar.specs.reading.Read.{Read, Done, Failed, Stop, At, Starving}
use Rattle.rgo_reader.specs.declared.readers.Fault.{Fault}
use Rattle.rgo_reader.specs.declared.readers.Fault.TheVariants as fault

abbrev pub stop_of : List Lexeme → Fault → Stop
stop_of left fault.NoMemory = Starving
stop_of left fault.Syntax = At left
stop_of left fault.Starved = Starving

-- `view` is the part of the result that is compared; the lexemes that are left have to agree, too
abbrev pub Agrees : {X A : Type 0} → (X → A) → Result X Fault → List Lexeme → Read A → Type 0
Agrees view (Ok x) left read = read ≡ Done (view x) left
Agrees view (Err e) left read = e ≢ fault.NoMemory → read ≡ Failed (stop_of left e)

-- the leaf that a name was read from
abbrev pub leaf_of : Ident → Leaf
leaf_of i = record { at = i.at; word = i.name }

abbrev pub leaf_in : Bor Lexeme → Leaf
leaf_in l = l.now.leaf

-- A leaf with a place and no word, for keywords and brackets: trees keep only their place, and the code has no more of them.
abbrev pub leaf_at : ℕ → Leaf
leaf_at at = record { at = at; word = [] }
