use Rattle.std.proofs.Common.{◌≡◌, map, drop}
use Rattle.rgo_code_text.specs.Building.{names_now, all_declared}
use Rattle.rgo_code_text.specs.Views.{item_of}
use Rattle.rgo_code_text.proofs.numbers.declare_all.Given as goal

abbrev pub invariant-loop-item : goal.invariant-loop-item
invariant-loop-item l =
    all_declared (names_now l.tables) (map item_of (drop l.item-index l.items))
    ≡ all_declared (names_now l.initial.tables) (map item_of l.items)
