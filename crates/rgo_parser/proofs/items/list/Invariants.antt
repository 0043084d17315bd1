use Rattle.std.proofs.Common.{◌≡◌, ◌-◌, [], map}
use Rattle.rgo_grammar.specs.reading.Read.{several}
use Rattle.rgo_parser.proofs.items.list.Given as goal

abbrev pub invariant-loop-turn : goal.invariant-loop-turn
invariant-loop-turn g l =
    several l.separator l.closer (g.T.Item.reads l.turns) l.turns [] l.fn.reader
    ≡ several l.separator l.closer (g.T.Item.reads l.turns) (l.turns - l.turn) (map g.T.Item.tree_of l.found.items) l.reader
