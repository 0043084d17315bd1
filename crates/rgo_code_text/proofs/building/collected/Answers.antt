use Rattle.std.proofs.Common.{◌∙◌, sym, ap, arith, map, map-id, rules}
use Rattle.std.proofs.lemmas.Iterator.Adapters.{YieldsList-from_vec}
use Rattle.std.proofs.lemmas.Iterator.Consumers.{YieldsList-end, YieldsList-turn}
use Rattle.std.proofs.lemmas.List.{length-map, map_push}
use Rattle.rgo_code_text.specs.Building.{names_now, line_of_item}
use Rattle.rgo_code_text.specs.CodeLines.{empty_building, with_line, with_lines}
use Rattle.rgo_code_text.specs.Views.{item_of}
use Rattle.rgo_code_text.proofs.code_of_lines.Few.{has_room}
use Rattle.rgo_code_text.proofs.code_of_lines.Opening.{lines_push}
use Rattle.rgo_code_text.proofs.building.collected.Goals as goal

pub loop-item-preserved : goal.loop-item-preserved
loop-item-preserved c =
    let n = names_now c.args.tables.now in
    let xs = c.loop-item.yielded in
    let x = c.in-Some.item in
    record {
      built = c.in_ok-add.ensures.line
          ∙ ap (λ b. with_line b (line_of_item n (item_of x))) c.loop-item.invariant.built
          ∙ sym (lines_push empty_building (map (line_of_item n) (map item_of xs)) (line_of_item n (item_of x)))
          ∙ ap (with_lines empty_building) (sym (map_push (line_of_item n) (map item_of xs) (item_of x)))
          ∙ ap (λ ys. with_lines empty_building (map (line_of_item n) ys)) (sym (map_push item_of xs x));
      aligned = c.in_ok-add.ensures.aligned;
    }

pub returns : goal.returns
returns c =
    let end = YieldsList-end (YieldsList-from_vec {s = c.into_iter-item-iterator.result} c.args.items.items (search rules) (search rules))
    c.loop-item.yielded c.loop-item.item-iterator c.loop-item.yielded_by c.next.result c.next.new.self c.in-None.is c.next.ensures.steps in
    record {
      built = c.loop-item.invariant.built ∙ ap (λ xs. with_lines empty_building (map (line_of_item (names_now c.args.tables.now)) (map item_of xs)))
          (sym (map-id c.loop-item.yielded) ∙ end.0);
      aligned = c.loop-item.invariant.aligned;
    }

pub add-requires-clause-room : goal.add-requires-clause-room
add-requires-clause-room c =
    let n = names_now c.args.tables.now in
    let xs = c.loop-item.yielded in
    let turn = YieldsList-turn (YieldsList-from_vec {s = c.into_iter-item-iterator.result} c.args.items.items (search rules) (search rules))
    xs c.loop-item.item-iterator c.loop-item.yielded_by c.next.result c.next.new.self c.in-Some.item c.in-Some.is c.next.ensures.steps in
    has_room c.loop-item.building (map (line_of_item n) (map item_of xs)) c.loop-item.invariant.built
    (omega (arith, c.requires.few, turn.0, length-map (map item_of xs) (line_of_item n), length-map xs item_of))
