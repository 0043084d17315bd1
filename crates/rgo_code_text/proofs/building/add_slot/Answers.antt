use Rattle.std.proofs.Common.{◌≡◌, ◌∙◌, ◌++◌, ◌∷◌, [], ap}
use Rattle.rgo_code.specs.Code.{CodeFn}
use Rattle.rgo_code.specs.Views.{slot, slots}
use Rattle.rgo_code_text.specs.Opened.{open_of}
use Rattle.rgo_code_text.proofs.code_of_lines.Opening.{slots_push}
use Rattle.rgo_code_text.proofs.building.add_slot.Goals as goal

pub returns-clause-function : goal.returns-clause-function
returns-clause-function c =
    let f : CodeFn = open_of c.args.current.now in
    let types = c.args.current.now.types.items in
    let classes = c.args.current.now.classes.items in
    let variables : slots c.push.new.self.items c.push-2.new.self.items
    ≡ f.variables ++ slot c.numbered_type.result c.args.slot.class ∷ [] =
    ap (λ ts. slots ts c.push-2.new.self.items) c.in_ok-push.ensures.items
    ∙ ap (slots (types ++ c.numbered_type.result ∷ [])) c.in_ok-push-2.ensures.items
    ∙ slots_push types classes c.numbered_type.result c.args.slot.class c.requires.classes in
    ap (λ vs. record f { variables = vs }) (variables
    ∙ ap (λ t. f.variables ++ slot t c.args.slot.class ∷ []) c.numbered_type.ensures)
