use Rattle.std.proofs.Common.{◌≡◌, map}
use Rattle.rgo_code_text.specs.Building.{names_now, line_of_item}
use Rattle.rgo_code_text.specs.CodeLines.{empty_building, with_lines}
use Rattle.rgo_code_text.specs.Opened.{building_of, AllAligned}
use Rattle.rgo_code_text.specs.Views.{item_of}
use Rattle.rgo_code_text.proofs.building.collected.Given as goal

abbrev pub invariant-loop-item : goal.invariant-loop-item
invariant-loop-item l = record {
  built : building_of l.building ≡ with_lines empty_building (map (line_of_item (names_now l.tables)) (map item_of l.yielded));
  aligned : AllAligned l.building;
}
