use Rattle.std.proofs.Common.{◌≡◌, ◌-◌, List, ℕ, length, take, drop, arith, length-drop, ap, ◌∙◌}
use Rattle.std.proofs.lemmas.List.{take_all}
use Rattle.rgo_code_words.specs.Readers.{read_class}
use Rattle.rgo_code_words.proofs.Listing.{list_none, list_last, list_more}
use Rattle.rgo_code_words.proofs.lists.some_classes.Goals as goal

rest_of : (list : List ℕ) (at : ℕ) → take (length list - at) (drop at list) ≡ drop at list
rest_of list at = take_all (length list - at) (drop at list) (omega (arith, length-drop at list))

pub returns-in-None : goal.returns-in-None
returns-in-None c =
    let list = c.args.list.now in
    let at = c.words.at in
    list_none 44 read_class c.words.classes.items list (take (length list - at) (drop at list)) at c.len_to-len.result
    (rest_of list at) c.len_to-len.ensures.len c.len_to-len.ensures.within c.words.invariant.read c.class.result c.class.ensures
    c.in-None.is

pub returns-then-len-rest : goal.returns-then-len-rest
returns-then-len-rest c =
    let list = c.args.list.now in
    let at = c.words.at in
    list_last 44 read_class c.words.classes.items list (take (length list - at) (drop at list)) at c.len_to-len.result
    (rest_of list at) c.len_to-len.ensures.len c.len_to-len.ensures.within c.words.invariant.read c.class.result c.in-Some.c
    c.new.result c.class.ensures c.in-Some.is c.if-len-rest.true (c.new.ensures ∙ c.in_ok-push-in-Some.ensures.items)

pub words-preserved : goal.words-preserved
words-preserved c =
    let list = c.args.list.now in
    let at = c.words.at in
    let rest = take (length list - at) (drop at list) in
    record {
      within = omega (arith, c.if-len-rest.false, c.len_to-len.ensures.within, ap length (rest_of list at), length-drop at list);
      read = list_more 44 read_class c.words.classes.items list rest at c.len_to-len.result
          (rest_of list at) c.len_to-len.ensures.len c.len_to-len.ensures.within c.words.invariant.read c.class.result c.in-Some.c
          c.push.new.self.items c.class.ensures c.in-Some.is c.if-len-rest.false c.in_ok-push-in-Some.ensures.items;
    }
