use Rattle.std.proofs.Common.{◌≡◌, Some, None, true≢false, sym, ap, ◌∙◌, subst}
use Rattle.std.specs.Option.{option_map, IsSome}
use Rattle.rgo_code_text.specs.Items.{ItemFits, item_line, place_after_item}
use Rattle.rgo_code_words.specs.Readers.{IsReadFromBytes}
use Rattle.rgo_code_text.specs.Views.{item_of}
use Rattle.rgo_code_text.proofs.line_forms.ItemsOne.{items_one}
use Rattle.rgo_code_text.proofs.reading.step.Goals as goal

pub returns : goal.returns
returns c x f s e =
    let read : IsReadFromBytes ItemFits item_line c.args.line.now (Some (item_of c.in-Some.item)) =
    subst (λ o. IsReadFromBytes ItemFits item_line c.args.line.now (option_map item_of o)) c.in-Some.is c.in_ok-item.ensures in
    let same : item_of c.in-Some.item ≡ x = items_one (item_of c.in-Some.item) x read.1 f (sym read.0 ∙ e) in
    let none : place_after_item c.args.place x ≡ None =
    ap (place_after_item c.args.place) (sym same) ∙ sym c.after.ensures ∙ c.in-None.is in
    absurd (true≢false (sym (subst IsSome none s)))
