use Rattle.std.proofs.Common.{◌∙◌, ◌++◌, ◌∷◌, [], sym, ap, map, map-id, rules}
use Rattle.std.proofs.lemmas.Iterator.Adapters.{YieldsList-from_vec}
use Rattle.std.proofs.lemmas.Iterator.Consumers.{YieldsList-end}
use Rattle.std.proofs.lemmas.List.{map_push}
use Rattle.rgo_code_text.specs.Building.{names_now, numbered_type}
use Rattle.rgo_code_words.specs.Views.{named_type_of}
use Rattle.rgo_code_text.proofs.numbered.numbered_types.Goals as goal

pub loop-ty-preserved : goal.loop-ty-preserved
loop-ty-preserved c =
    let f = numbered_type (names_now c.args.tables.now) in
    let xs = c.loop-ty.yielded in
    let x = c.in-Some.ty in
    c.in_ok-push.ensures.items ∙ ap (λ ts. ts ++ c.numbered_type.result ∷ []) c.loop-ty.invariant
    ∙ ap (λ t. map f (map named_type_of xs) ++ t ∷ []) c.numbered_type.ensures
    ∙ sym (map_push f (map named_type_of xs) (named_type_of x))
    ∙ ap (map f) (sym (map_push named_type_of xs x))

pub returns : goal.returns
returns c =
    let end = YieldsList-end (YieldsList-from_vec {s = c.into_iter-ty-iterator.result} c.args.named.items (search rules) (search rules))
    c.loop-ty.yielded c.loop-ty.ty-iterator c.loop-ty.yielded_by c.next.result c.next.new.self c.in-None.is c.next.ensures.steps in
    c.loop-ty.invariant ∙ ap (λ xs. map (numbered_type (names_now c.args.tables.now)) (map named_type_of xs))
    (sym (map-id c.loop-ty.yielded) ∙ end.0)
