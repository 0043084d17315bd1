-- What reading a whole list of lexemes finds, with as many turns as the parser takes; by rgo_grammar these are enough.
use Rattle.std.proofs.Common.{◌≡◌, ◌+◌, ◌-◌, ◌*◌, ◌≤◌, List, length, subst}
use Rattle.rgo_ast.specs.Tree.{Import, Decl}
use Rattle.rgo_lexer.specs.Lexemes.{Lexeme}
use Rattle.rgo_grammar.specs.Grammar.{IsProgram}
use Rattle.rgo_grammar.specs.FirstBad.{IsFirstBad}
use Rattle.rgo_grammar.specs.reading.Read.{Read, Done, Failed, At, Starving}
use Rattle.rgo_grammar.specs.reading.Declarations.{program}
use Rattle.rgo_grammar.proofs.Whole.{parsed, first_bad, rest_within, never_starved}

-- In what follows `start` is the list at which the reader begins.

abbrev Found : List Lexeme → Read (List Import × List Decl) → List Lexeme → Type 0
Found l r start = program (4 * length l + 4) start ≡ r

pub parsed_as : (l start : List Lexeme) (imports : List Import) (decls : List Decl) (w : List Lexeme)
    → start ≡ l → program (4 * length l + 4) start ≡ Done (imports, decls) w → IsProgram l imports decls
parsed_as l start imports decls w same e =
    parsed l (imports, decls) w (subst (Found l (Done (imports, decls) w)) same e)

pub stops_within : (l start r : List Lexeme) → start ≡ l → program (4 * length l + 4) start ≡ Failed (At r)
    → length r ≤ length l
stops_within l start r same e = rest_within l r (subst (Found l (Failed (At r))) same e)

pub stops_at : (l start r : List Lexeme) → start ≡ l → program (4 * length l + 4) start ≡ Failed (At r)
    → IsFirstBad l (length l - length r)
stops_at l start r same e = first_bad l r (subst (Found l (Failed (At r))) same e)

pub starves_never : (l start : List Lexeme) → start ≡ l → program (4 * length l + 4) start ≡ Failed Starving → ⊥
starves_never l start same e = never_starved l (subst (Found l (Failed Starving)) same e)
