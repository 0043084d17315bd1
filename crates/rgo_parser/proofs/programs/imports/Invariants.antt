use Rattle.std.proofs.Common.{◌≡◌, ◌-◌, [], map}
use Rattle.rgo_ast.specs.Views.{import_of}
use Rattle.rgo_grammar.specs.reading.Declarations.{imports}
use Rattle.rgo_parser.proofs.programs.imports.Given as goal

abbrev pub invariant-loop-turn : goal.invariant-loop-turn
invariant-loop-turn l =
    imports l.turns l.turns [] l.fn.reader
    ≡ imports l.turns (l.turns - l.turn) (map import_of l.found.items) l.reader
