use Rattle.std.proofs.Common.{◌∙◌, ◌+◌, ◌∷◌, sym, ap, map, drop, List}
use Rattle.std.specs.List.{flat_map}
use Rattle.std.proofs.lemmas.List.{at_drop_more}
use Rattle.rgo_code_text.specs.Building.{names_now, with_struct_names, type_names}
use Rattle.rgo_code_words.specs.Views.{named_type_of}
use Rattle.rgo_code_words.specs.declared.types.NamedType.{NamedType as CodeType}
use Rattle.rgo_code_text.proofs.naming.Tables.{structs_append}
use Rattle.rgo_code_text.proofs.numbers.note_types.Goals as goal

pub loop-named-preserved : goal.loop-named-preserved
loop-named-preserved c =
    let i = c.loop-named.named-index in
    let types = c.args.types.now in
    let old = names_now c.loop-named.tables in
    let x = c.named-item.result in
    let rest = flat_map type_names (map named_type_of (drop (i + 1) types)) in
    ap (λ n. with_struct_names n rest) c.in_ok-note_type.ensures
    ∙ sym (structs_append old (type_names (named_type_of x)) rest)
    ∙ ap (λ y. with_struct_names old (flat_map type_names (map named_type_of (y ∷ drop (i + 1) types)))) c.named-item.is
    ∙ sym (at_drop_more (λ (ts : List CodeType). with_struct_names old (flat_map type_names (map named_type_of ts))) types i x
    c.loop-named-test.true)
    ∙ c.loop-named.invariant
