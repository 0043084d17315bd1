use Rattle.std.proofs.Common.{◌≡◌, ◌-◌, ℕ, List, [], ◌++◌, take, sym, ap, ◌∙◌, subst, arith, codes, Some}
use Rattle.std.specs.Option.{option_map}
use Rattle.rgo_typed.specs.declared.statements.Piece.{Piece}
use Rattle.rgo_code.specs.Code.{Print}
use Rattle.rgo_code_text.specs.Ops.{NamedOp, op_text, NamedOpFits}
use Rattle.rgo_code_words.specs.Pieces.{ArePieces}
use Rattle.rgo_code_words.specs.Readers.{IsReadFromBytes, read_regions}
use Rattle.rgo_code_words.specs.Views.{pieces_of}
use Rattle.rgo_code_words.proofs.ListFacts.{rest_of}
use Rattle.rgo_code_text.proofs.op_lines.PrintWords.{print_none, print_plain, print_pieces, print_wrong}
use Rattle.rgo_code_text.proofs.prints.print.Goals as goal

pub returns-in_default : goal.returns-in_default
returns-in_default c =
    let bytes = c.args.bytes.now in
    print_none bytes c.last_word-at.result c.last_word-at.ensures
    (ap (read_regions 45) (sym (rest_of bytes c.last_word-at.result)) ∙ sym c.in_ok-removes.ensures ∙ c.in_default.is)

pub returns-then-at-eq0 : goal.returns-then-at-eq0
returns-then-at-eq0 c =
    let bytes = c.args.bytes.now in
    let at = c.last_word-at.result in
    let removes = c.in-Some.removes in
    let none : (ps : List Piece) (fs : List ℕ) → ps ≡ [] → fs ≡ []
    → record { op = Print [] [] removes; name = [] } ≡ record { op = Print ps fs removes; name = [] } =
    λ ps fs p f. ap (λ x. record { op = Print x [] removes; name = [] }) (sym p)
    ∙ ap (λ x. record { op = Print ps x removes; name = [] }) (sym f) in
    subst (λ (o : NamedOp). IsReadFromBytes NamedOpFits op_text (codes "print " ++ bytes) (Some o))
    (none c.no_pieces.result.pieces.items c.no_pieces.result.from.items c.no_pieces.ensures.pieces c.no_pieces.ensures.from
    ∙ sym c.printing.ensures)
    (print_plain bytes at c.last_word-at.ensures removes
    (ap (read_regions 45) (sym (rest_of bytes at)) ∙ sym c.in_ok-removes.ensures ∙ c.in-Some.is) c.if-at-eq0.true)

pub returns-in-Some-2 : goal.returns-in-Some-2
returns-in-Some-2 c =
    let bytes = c.args.bytes.now in
    let at = c.last_word-at.result in
    let removes = c.in-Some.removes in
    let all = c.in-Some-2.all in
    subst (λ (o : NamedOp). IsReadFromBytes NamedOpFits op_text (codes "print " ++ bytes) (Some o)) (sym c.printing-in-Some-2.ensures)
    (print_pieces bytes at c.last_word-at.ensures removes
    (ap (read_regions 45) (sym (rest_of bytes at)) ∙ sym c.in_ok-removes.ensures ∙ c.in-Some.is) all.pieces.items all.from.items
    (omega (arith, c.if-at-eq0.false))
    (subst (λ o. ArePieces (take (at - 1) bytes) (option_map pieces_of o)) c.in-Some-2.is c.in_ok-all.ensures))

pub returns-in-None : goal.returns-in-None
returns-in-None c =
    let bytes = c.args.bytes.now in
    let at = c.last_word-at.result in
    print_wrong bytes at c.last_word-at.ensures c.in-Some.removes
    (ap (read_regions 45) (sym (rest_of bytes at)) ∙ sym c.in_ok-removes.ensures ∙ c.in-Some.is)
    (omega (arith, c.if-at-eq0.false))
    (subst (λ o. ArePieces (take (at - 1) bytes) (option_map pieces_of o)) c.in-None.is c.in_ok-all.ensures)
