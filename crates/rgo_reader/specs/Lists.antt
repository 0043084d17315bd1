-- Reading functions for the separators and ends of lists.
use Rattle.std.specs.Prelude.{if◌then◌else◌, List, Option, Some, None}
use denote.Ref.{Bor}
use Rattle.rgo_lexer.specs.declared.terminals.Terminal.{Terminal}
use Rattle.rgo_lexer.specs.Lexemes.{Leaf, Lexeme, is_same_terminal}
use Rattle.rgo_grammar.specs.reading.Read.{Read, Done, Failed, At, next_lexeme}

-- before an item: the lexeme that closes the list, or none if an item is next
abbrev pub closes_on : Terminal → List Lexeme → Option (Lexeme × List Lexeme) → Read (Option Leaf)
closes_on closer l None = Failed (At l)
closes_on closer l (Some x) = if is_same_terminal closer x.0.terminal then Done (Some x.0.leaf) x.1 else Done None l

abbrev pub closes : Terminal → List Lexeme → Read (Option Leaf)
closes closer l = closes_on closer l (next_lexeme l)

abbrev pub after_item_on : Terminal → Terminal → List Lexeme → Option (Lexeme × List Lexeme) → Read (Option Leaf)
after_item_on separator closer l None = Failed (At l)
after_item_on separator closer l (Some x) =
    if is_same_terminal closer x.0.terminal then Done (Some x.0.leaf) x.1
    else (if is_same_terminal separator x.0.terminal then Done None x.1 else Failed (At l))

-- after an item: the lexeme that closes the list, or none after a separator
abbrev pub after_item : Terminal → Terminal → List Lexeme → Read (Option Leaf)
after_item separator closer l = after_item_on separator closer l (next_lexeme l)

abbrev pub ending_of : Option (Bor Lexeme) → Option Leaf
ending_of None = None
ending_of (Some l) = Some l.now.leaf
