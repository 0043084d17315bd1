use Rattle.std.proofs.Common.{◌≡◌, ◌∙◌, ◌++◌, ◌∷◌, [], ◌+◌, sym, ap, List, length, arith, subst}
use Rattle.std.proofs.lemmas.List.{length_push}
use Rattle.std.specs.List.{All}
use Rattle.rgo_tac.specs.declared.code.Instr.{Instr}
use Rattle.rgo_tac.specs.Views.{op_of}
use Rattle.rgo_code.specs.Code.{CodeFn, CodeOp}
use Rattle.rgo_code.specs.Views.{code_op}
use Rattle.rgo_code_text.specs.Building.{names_now, numbered_op}
use Rattle.rgo_code_text.specs.Opened.{open_of, ListsBelow, HasOneMore}
use Rattle.rgo_code_text.specs.Views.{named_op_of}
use Rattle.rgo_code_text.proofs.code_of_lines.Opening.{instr_added, all_below, at_end, parts_same}
use Rattle.rgo_code_words.proofs.Options.{on_ok}
use Rattle.rgo_code_text.proofs.building.add_instr.Goals as goal

pub returns-clause-function : goal.returns-clause-function
returns-clause-function c =
    let o = c.args.current.now in
    let named = c.args.named in
    let from = named.op.from.items in
    let pieces = named.op.pieces.items in
    let i = c.next_instr-instr.result in
    let f : CodeFn = open_of o in
    let op : code_op (op_of (o.lists.items ++ from ∷ []) (o.pieces.items ++ pieces ∷ []) i) named.op.note
    ≡ numbered_op (names_now c.args.tables.now) (named_op_of named.op).op named.op.name.now =
    c.next_instr-instr.ensures.op (o.lists.items ++ from ∷ []) (o.pieces.items ++ pieces ∷ [])
    (at_end o.lists.items from [] (length o.instrs.items) (sym c.requires.aligned.lists))
    (at_end o.pieces.items pieces [] (length o.instrs.items) (sym c.requires.aligned.pieces)) in
    on_ok c.push_op.result (HasOneMore o c.push_op.new.current i named) _ c.push_op.ensures (λ more.
    ap (λ (g : CodeFn). record g { body = (open_of c.push_op.new.current).body }) more.others
    ∙ ap (λ b. record f { body = b })
    (parts_same more.lists more.pieces more.instrs more.places more.notes
    ∙ instr_added o.lists.items o.pieces.items from pieces o.instrs.items o.places.items o.notes.items i named.place named.op.note
    c.requires.aligned.lists c.requires.aligned.pieces c.requires.aligned.places c.requires.aligned.notes c.requires.aligned.below
    ∙ ap (λ (z : CodeOp). f.body ++ record { creates = named.op.note.creates; op = z; place = named.place } ∷ []) op))

pub returns-clause-aligned : goal.returns-clause-aligned
returns-clause-aligned c =
    let o = c.args.current.now in
    let named = c.args.named in
    let i = c.next_instr-instr.result in
    let new = c.push_op.new.current in
    on_ok c.push_op.result (HasOneMore o new i named) _ c.push_op.ensures (λ more.
    let count : length new.instrs.items ≡ length o.instrs.items + 1 = ap length more.instrs ∙ length_push o.instrs.items i in
    record {
      classes = ap length more.classes ∙ c.requires.aligned.classes ∙ sym (ap length more.types);
      places = omega (arith, count, c.requires.aligned.places, ap length more.places ∙ length_push o.places.items named.place);
      lists = omega (arith, count, c.requires.aligned.lists, ap length more.lists ∙ length_push o.lists.items named.op.from.items);
      pieces = omega (arith, count, c.requires.aligned.pieces, ap length more.pieces ∙ length_push o.pieces.items named.op.pieces.items);
      notes = omega (arith, count, c.requires.aligned.notes, ap length more.notes ∙ length_push o.notes.items named.op.note);
      below =
          subst (λ (is : List Instr). All (ListsBelow (length new.instrs.items)) is) (sym more.instrs)
          (all_below (length o.instrs.items) (length new.instrs.items) o.instrs.items i (omega (arith, count))
          c.requires.aligned.below (c.next_instr-instr.ensures.below (length new.instrs.items) (omega (arith, count))));
    })
