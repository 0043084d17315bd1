use Rattle.std.proofs.Common.{◌≡◌, ◌-◌, [], map}
use Rattle.rgo_ast.specs.Views.{decl_of}
use Rattle.rgo_grammar.specs.reading.Declarations.{decls}
use Rattle.rgo_parser.proofs.programs.decls.Given as goal

abbrev pub invariant-loop-turn : goal.invariant-loop-turn
invariant-loop-turn l =
    decls l.turns l.turns [] l.fn.reader
    ≡ decls l.turns (l.turns - l.turn) (map decl_of l.found.items) l.reader
