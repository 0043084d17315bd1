use Rattle.std.proofs.Common.{sym, ◌∙◌, subst}
use Rattle.rgo_code_words.specs.Pieces.{IsStringInside}
use Rattle.rgo_code_words.proofs.ListFacts.{rest_of}
use Rattle.rgo_code_words.proofs.PieceFronts.{string_fronts, string_none}
use Rattle.rgo_code_words.proofs.printed.string_first.Goals as goal

pub returns-then-byte_at-ne34 : goal.returns-then-byte_at-ne34
returns-then-byte_at-ne34 c =
    let bytes = c.args.bytes.now in
    string_none bytes c.in_ok-inside.inside c.in_ok-inside.len c.requires
    (subst (λ t. IsStringInside t c.in_ok-inside.inside c.in_ok-inside.len) (rest_of bytes 1) c.in_ok-inside.ensures)
    (λ e. c.if-byte_at-ne34.true (c.byte_at.ensures ∙ e))

pub returns : goal.returns
returns c =
    let bytes = c.args.bytes.now in
    string_fronts bytes c.in_ok-inside.inside c.in_ok-inside.len c.requires
    (subst (λ t. IsStringInside t c.in_ok-inside.inside c.in_ok-inside.len) (rest_of bytes 1) c.in_ok-inside.ensures)
    (sym c.byte_at.ensures ∙ c.if-byte_at-ne34.false)
