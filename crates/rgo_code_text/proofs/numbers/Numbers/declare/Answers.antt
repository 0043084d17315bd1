use Rattle.std.proofs.Common.{◌∙◌, ◌++◌, ◌∷◌, [], sym, ap, subst, arith, Some, not}
use Rattle.std.specs.Option.{is_some}
use Rattle.indexmap.specs.IndexMap.{get_by, UpdatesBy}
use Rattle.std.specs.Str.{bytes_eq}
use Rattle.rgo_code_words.specs.Cuts.{nows}
use Rattle.rgo_code_text.specs.Numbers.{number_if_known}
use Rattle.rgo_code_text.proofs.naming.Tables.{finds_kept, finds_added, nows_push, nows_length, copied_some}
use Rattle.rgo_code_text.proofs.numbers.Numbers.declare.Goals as goal
use Rattle.rgo_code_text.proofs.numbers.Numbers.declare.Goals.{then-is_none+in_ok-insert, else-is_none}

pub invariant_of-self-2 : goal.invariant_of-self-2
invariant_of-self-2 c = λ q.
    let names = nows c.self.inside.names.items in
    let name = c.args.name.now in
    let looked = sym (copied_some c.get.result) ∙ ap is_some c.get.ensures.value in
    elim c.if-is_none.branch [
      | then-is_none+in_ok-insert w ↦
          let e = w.self-inside-is in
          ap (λ s. get_by (λ known. bytes_eq q known.now) s.numbers) e
          ∙ finds_added names name c.self.inside.numbers w.insert.new.self c.self.invariant
          (sym looked ∙ c.is_none.ensures ∙ ap not w.if-is_none.true)
          (subst (λ n. UpdatesBy (λ a b. bytes_eq a.now b.now) (λ k. bytes_eq name k.now) c.self.inside.numbers w.insert.new.self (Some n))
          (omega (arith, c.len-n.ensures, c.self.inside.names.ok, nows_length c.self.inside.names.items)) w.in_ok-insert.ensures.updates) q
          ∙ sym (ap (λ ns. number_if_known (nows ns) q) (c.push_reserved.ensures.items ∙ ap (λ s. s.names.items ++ c.args.name ∷ []) e
          ∙ ap (λ ns. ns ++ c.args.name ∷ []) c.reserve.ensures.items)
          ∙ ap (λ ns. number_if_known ns q) (nows_push c.self.inside.names.items c.args.name))
      | else-is_none w ↦
          let e = w.self-inside-is in
          ap (λ s. get_by (λ known. bytes_eq q known.now) s.numbers) e
          ∙ finds_kept names name c.self.inside.numbers c.self.invariant
          (sym looked ∙ c.is_none.ensures ∙ ap not w.if-is_none.false) q
          ∙ sym (ap (λ ns. number_if_known (nows ns) q) (c.push_reserved.ensures.items ∙ ap (λ s. s.names.items ++ c.args.name ∷ []) e
          ∙ ap (λ ns. ns ++ c.args.name ∷ []) c.reserve.ensures.items)
          ∙ ap (λ ns. number_if_known ns q) (nows_push c.self.inside.names.items c.args.name))
    ]
