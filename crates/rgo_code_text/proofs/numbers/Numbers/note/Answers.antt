use Rattle.std.proofs.Common.{◌∙◌, ◌++◌, ◌∷◌, [], sym, ap, subst, arith, Some, not}
use Rattle.std.specs.Option.{is_some}
use Rattle.indexmap.specs.IndexMap.{UpdatesBy}
use Rattle.std.specs.Str.{bytes_eq}
use Rattle.rgo_code_words.specs.Cuts.{nows}
use Rattle.rgo_code_text.specs.Numbers.{number_if_known}
use Rattle.rgo_code_text.proofs.naming.Tables.{finds_added, nows_push, nows_length, copied_some, with_new, with_known}
use Rattle.rgo_code_text.proofs.numbers.Numbers.note.Goals as goal

pub invariant_of-self-then-is_none : goal.invariant_of-self-then-is_none
invariant_of-self-then-is_none c = λ q.
    let name = c.args.name.now in
    finds_added (nows c.self.inside.names.items) name c.self.inside.numbers c.insert.new.self c.self.invariant
    (sym (sym (copied_some c.get.result) ∙ ap is_some c.get.ensures.value) ∙ c.is_none.ensures ∙ ap not c.if-is_none.true)
    (subst (λ n. UpdatesBy (λ a b. bytes_eq a.now b.now) (λ k. bytes_eq name k.now) c.self.inside.numbers c.insert.new.self (Some n))
    (omega (arith, c.len-n.ensures, c.self.inside.names.ok, nows_length c.self.inside.names.items)) c.in_ok-insert.ensures.updates) q
    ∙ sym (ap (λ ns. number_if_known (nows ns) q) (c.push_reserved.ensures.items ∙ ap (λ ns. ns ++ c.args.name ∷ []) c.reserve.ensures.items)
    ∙ ap (λ ns. number_if_known ns q) (nows_push c.self.inside.names.items c.args.name))

pub returns-in_ok-insert : goal.returns-in_ok-insert
returns-in_ok-insert c =
    rw (← c.self.view_is) (
    ap nows (c.push_reserved.ensures.items ∙ ap (λ ns. ns ++ c.args.name ∷ []) c.reserve.ensures.items)
    ∙ nows_push c.self.inside.names.items c.args.name
    ∙ sym (with_new (nows c.self.inside.names.items) c.args.name.now
    (ap is_some (sym (c.self.invariant c.args.name.now))
    ∙ sym (sym (copied_some c.get.result) ∙ ap is_some c.get.ensures.value) ∙ c.is_none.ensures ∙ ap not c.if-is_none.true)))

pub returns-else-is_none : goal.returns-else-is_none
returns-else-is_none c =
    rw (← c.self.view_is) (
    sym (with_known (nows c.self.inside.names.items) c.args.name.now
    (ap is_some (sym (c.self.invariant c.args.name.now))
    ∙ sym (sym (copied_some c.get.result) ∙ ap is_some c.get.ensures.value) ∙ c.is_none.ensures ∙ ap not c.if-is_none.false)))
