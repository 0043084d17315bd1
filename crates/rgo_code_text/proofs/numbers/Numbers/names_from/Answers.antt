use Rattle.std.proofs.Common.{◌∙◌, ◌++◌, ◌∷◌, [], sym, ap, arith, take, drop, ◌-◌, List, ℕ}
use denote.Ref.{Bor}
use Rattle.rgo_code_words.specs.Cuts.{nows}
use Rattle.rgo_code_text.proofs.naming.Tables.{names_more}
use Rattle.rgo_code_text.proofs.numbers.Numbers.names_from.Goals as goal

pub loop-n-preserved : goal.loop-n-preserved
loop-n-preserved c =
    let front = take (c.loop-n.n - c.args.first) (drop c.args.first (nows c.self.inside.names.items)) in
    c.in_ok-push.ensures.items ∙ ap (λ ns. ns ++ c.new.result ∷ []) c.loop-n.invariant
    ∙ ap (λ x. front ++ x ∷ []) (c.new.ensures ∙ c.in_ok-from_slice.ensures.items ∙ ap (λ (w : Bor (List ℕ)). w.now) c.index.ensures)
    ∙ sym (names_more c.self.inside.names.items c.args.first c.loop-n.n _ c.loop-n.auto.n (omega (arith, c.loop-n-test.true, c.loop-n.auto.n-end, c.len-n-end.ensures, c.self.inside.names.ok)))
