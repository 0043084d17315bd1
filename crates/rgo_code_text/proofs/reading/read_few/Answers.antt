use Rattle.std.proofs.Common.{◌≡◌, ℕ, ◌+◌, ◌<◌, ◌^◌, List, length, sym, subst, map}
use Rattle.rgo_code.specs.Code.{Code}
use Rattle.rgo_code_text.specs.Building.{code_of_items}
use Rattle.rgo_code_printing.specs.Text.{text_of}
use Rattle.rgo_code_text.specs.Views.{item_of}
use Rattle.rgo_code_text.specs.Walk.{RefusesCodeText}
use Rattle.rgo_code_text.specs.Written.{HasCodeText}
use Rattle.rgo_code_words.proofs.Options.{handed_on}
use Rattle.rgo_code_text.proofs.code_of_lines.Few.{are_few}
use Rattle.rgo_code_text.proofs.readings.Refusing.{read_is, refuses}
use Rattle.rgo_code_text.proofs.reading.read_few.Goals as goal

pub returns-in_err-items : goal.returns-in_err-items
returns-in_err-items c =
    let text = c.args.text.now in
    let e = c.in_err-items.field-0.0 in
    handed_on c.from_residual.result (λ (code : Code). (text ≡ text_of code) × HasCodeText code) (RefusesCodeText text) e
    c.from_residual.ensures.1 (refuses text e c.in_err-items.ensures)

pub returns-in-Ok : goal.returns-in-Ok
returns-in-Ok c =
    let text = c.args.text.now in
    let items = map item_of c.in_ok-items.items.items in
    let made : c.in-Ok.code ≡ code_of_items items = c.in-Ok.ensures in
    subst (λ (code : Code). (text ≡ text_of code) × HasCodeText code) (sym made) (read_is text items c.in_ok-items.ensures)

pub code_in-requires-clause-few : goal.code_in-requires-clause-few
code_in-requires-clause-few c =
    are_few (map item_of c.in_ok-items.items.items)
    (subst (λ (t : List ℕ). length t + 2 < 2 ^ 32) c.in_ok-items.ensures.text_is c.requires)
