use Rattle.std.proofs.Common.{◌-◌, map, length, take, drop, arith, length-drop, ap, ◌∙◌}
use Rattle.std.specs.Option.{option_map}
use Rattle.std.proofs.lemmas.List.{map_push}
use Rattle.rgo_code_words.specs.Readers.{read_type}
use Rattle.rgo_code_words.specs.Views.{named_type_of, named_types_of}
use Rattle.rgo_code_words.proofs.ListFacts.{rest_of}
use Rattle.rgo_code_words.proofs.Listing.{list_none, list_last, list_more}
use Rattle.rgo_code_text.proofs.items.fields.Goals as goal

pub returns-in-None : goal.returns-in-None
returns-in-None c =
    let list = c.args.list.now in
    let at = c.types.at in
    list_none 32 read_type (named_types_of c.types.types) list (take (length list - at) (drop at list)) at c.len_to-len.result
    (rest_of list at) c.len_to-len.ensures.len c.len_to-len.ensures.within c.types.invariant.read
    (option_map named_type_of c.in_ok-ty.field-0) c.in_ok-ty.ensures (ap (option_map named_type_of) c.in-None.is)

pub returns-then-len-rest : goal.returns-then-len-rest
returns-then-len-rest c =
    let list = c.args.list.now in
    let at = c.types.at in
    list_last 32 read_type (named_types_of c.types.types) list (take (length list - at) (drop at list)) at c.len_to-len.result
    (rest_of list at) c.len_to-len.ensures.len c.len_to-len.ensures.within c.types.invariant.read
    (option_map named_type_of c.in_ok-ty.field-0) (named_type_of c.in-Some.ty) (named_types_of c.push.new.self)
    c.in_ok-ty.ensures (ap (option_map named_type_of) c.in-Some.is) c.if-len-rest.true
    (ap (map named_type_of) c.in_ok-push-in-Some.ensures.items ∙ map_push named_type_of c.types.types.items c.in-Some.ty)

pub types-preserved : goal.types-preserved
types-preserved c =
    let list = c.args.list.now in
    let at = c.types.at in
    let rest = take (length list - at) (drop at list) in
    record {
      within = omega (arith, c.if-len-rest.false, c.len_to-len.ensures.within, ap length (rest_of list at), length-drop at list);
      read = list_more 32 read_type (named_types_of c.types.types) list rest at c.len_to-len.result
          (rest_of list at) c.len_to-len.ensures.len c.len_to-len.ensures.within c.types.invariant.read
          (option_map named_type_of c.in_ok-ty.field-0) (named_type_of c.in-Some.ty) (named_types_of c.push.new.self)
          c.in_ok-ty.ensures (ap (option_map named_type_of) c.in-Some.is) c.if-len-rest.false
          (ap (map named_type_of) c.in_ok-push-in-Some.ensures.items ∙ map_push named_type_of c.types.types.items c.in-Some.ty);
    }
