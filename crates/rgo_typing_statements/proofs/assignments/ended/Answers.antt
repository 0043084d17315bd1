use Rattle.std.proofs.Common.{◌∙◌, ◌∷◌, [], map, ap, sym}
use Rattle.std.proofs.lemmas.List.{map-append}
use Rattle.rgo_typed.specs.Tree.{terms_of}
use Rattle.rgo_typed.specs.Views.{term_of}
use Rattle.rgo_typing_statements.proofs.Ends.{ended_terms}
use Rattle.rgo_typing_statements.proofs.assignments.ended.Goals as goal

pub returns : goal.returns
returns c =
    ap (λ l. terms_of (map term_of l)) c.in_ok-push.ensures.items
    ∙ ap terms_of (map-append term_of c.args.operands.items (c.args.value ∷ []))
    ∙ sym (ended_terms (map term_of c.args.operands.items) (term_of c.args.value))
