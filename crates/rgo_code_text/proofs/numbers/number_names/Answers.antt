use Rattle.std.proofs.Common.{◌≡◌, ◌∙◌, ap, map, length}
use Rattle.rgo_code_text.specs.Building.{names_now, all_declared, declared_in}
use Rattle.rgo_code_printing.specs.Text.{Names}
use Rattle.rgo_code_text.specs.Views.{item_of}
use Rattle.rgo_code_text.proofs.naming.Tables.{all_declared_in, all_names_in}
use Rattle.rgo_code_text.proofs.numbers.number_names.Goals as goal

pub returns-clause-names : goal.returns-clause-names
returns-clause-names c =
    let items = map item_of c.args.items.now in
    let declared : names_now c.declare_all.new.tables ≡ declared_in items =
    c.in_ok-declare_all.ensures ∙ ap (λ n. all_declared n items) c.requires ∙ all_declared_in items in
    c.in_ok-note_all.ensures ∙ all_names_in items (names_now c.declare_all.new.tables) declared

pub returns-clause-counts : goal.returns-clause-counts
returns-clause-counts c =
    let items = map item_of c.args.items.now in
    let declared : names_now c.declare_all.new.tables ≡ declared_in items =
    c.in_ok-declare_all.ensures ∙ ap (λ n. all_declared n items) c.requires ∙ all_declared_in items in
    let counts = c.counts_of-counts.ensures in
    record {
      structs = counts.structs ∙ ap (λ (n : Names). length n.structs) declared;
      variables = counts.variables ∙ ap (λ (n : Names). length n.variables) declared;
      functions = counts.functions ∙ ap (λ (n : Names). length n.functions) declared;
    }
