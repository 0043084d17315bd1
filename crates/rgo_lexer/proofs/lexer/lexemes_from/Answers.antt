use Rattle.rgo_lexer.proofs.Progress.{after_blank, after_newline, after_piece, at_end, at_refusal, seen, seen_width}
use Rattle.rgo_lexer.proofs.lexer.lexemes_from.Goals as goal

pub pieces-preserved-in-Blank : goal.pieces-preserved-in-Blank
pieces-preserved-in-Blank c =
    let front = seen c.args.text.now c.pieces.at _ c.in-Blank.ensures.value in
    let fits = seen_width c.args.text.now c.pieces.at _ c.in-Blank.ensures.within in
    after_blank _ _ _ _ _ _ c.pieces.invariant fits front

pub pieces-preserved-in-Newline : goal.pieces-preserved-in-Newline
pieces-preserved-in-Newline c =
    let front = seen c.args.text.now c.pieces.at _ c.in-Newline.ensures.value in
    let fits = seen_width c.args.text.now c.pieces.at _ c.in-Newline.ensures.within in
    let inserted = c.in_ok-insert_semicolon-in-Newline.ensures.ok in
    after_newline _ _ _ _ _ _ _ c.pieces.invariant fits front inserted

pub pieces-preserved : goal.pieces-preserved
pieces-preserved c =
    let front = seen c.args.text.now c.pieces.at _ c.in-Piece.ensures.value in
    let fits = seen_width c.args.text.now c.pieces.at _ c.in-Piece.ensures.within in
    rw c.ending_after-ending.ensures
    (after_piece c.args.text.now _ c.pieces.at c.in-Piece.width c.in-Piece.terminal _ _ _
    c.pieces.invariant fits front c.in_ok-push-in-Piece.ensures.items)

pub returns-in-Refused-clause-refused : goal.returns-in-Refused-clause-refused
returns-in-Refused-clause-refused c =
    let front = seen c.args.text.now c.pieces.at _ c.in-Refused.ensures.value in
    at_refusal _ _ _ _ _ _ _ c.pieces.invariant front

pub returns-in-End-clause-ok : goal.returns-in-End-clause-ok
returns-in-End-clause-ok c =
    let front = seen c.args.text.now c.pieces.at _ c.in-End.ensures.value in
    let inserted = c.in_ok-insert_semicolon-in-End.ensures.ok in
    at_end _ _ _ _ _ _ c.pieces.invariant front inserted
