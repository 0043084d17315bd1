use Rattle.std.proofs.Common.{◌∙◌, ◌++◌, ◌∷◌, [], ap}
use Rattle.rgo_code_text.proofs.building.push_op.Goals as goal

pub returns : goal.returns
returns c =
    let op = c.args.named.op in
    let code = c.in_ok-push_code.ensures in
    let lists = c.in_ok-push_lists.ensures in
    record {
      instrs = code.instrs;
      places = code.places;
      lists = lists.lists ∙ ap (λ ls. ls ++ op.from.items ∷ []) code.lists;
      pieces = lists.pieces ∙ ap (λ ps. ps ++ op.pieces.items ∷ []) code.pieces;
      notes = c.in_ok-push.ensures.items ∙ ap (λ ns. ns ++ op.note ∷ []) code.notes;
      types = code.types;
      classes = code.classes;
      others = code.others;
    }
