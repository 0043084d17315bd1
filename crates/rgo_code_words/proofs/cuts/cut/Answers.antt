use Rattle.std.proofs.Common.{◌≡◌, ◌<◌, ◌-◌, List, ℕ, length, take, drop, arith, length-drop, ap, ◌∙◌, sym, refl}
use Rattle.std.proofs.lemmas.List.{take_all}
use Rattle.rgo_code_words.proofs.Cutting.{cut_ends, cut_goes_on}
use Rattle.rgo_code_words.proofs.cuts.cut.Goals as goal

rest_of : (list : List ℕ) (at : ℕ) → take (length list - at) (drop at list) ≡ drop at list
rest_of list at = take_all (length list - at) (drop at list) (omega (arith, length-drop at list))

pub returns-then-len-rest : goal.returns-then-len-rest
returns-then-len-rest c =
    let line = c.args.line.now in
    let at = c.words.at in
    cut_ends c.words.words.items c.push-then-len-rest.new.self.items line (take (length line - at) (drop at line)) at c.words.left
    c.args.n _ (rest_of line at) c.in_ok-push-2.ensures.items c.words.invariant.cut_is refl
    (sym c.len_to-len.ensures.len ∙ c.if-len-rest.true)

pub words-preserved : goal.words-preserved
words-preserved c =
    let line = c.args.line.now in
    let at = c.words.at in
    let rest = take (length line - at) (drop at line) in
    let less : c.len_to-len.result < length rest = omega (arith, c.if-len-rest.false, c.len_to-len.ensures.within) in
    record {
      within = omega (arith, less, ap length (rest_of line at), length-drop at line);
      cut_is = cut_goes_on c.words.words.items c.push-in-words.new.self.items line rest at c.words.left c.args.n _
          (rest_of line at) c.in_ok-push-3.ensures.items c.words.invariant.cut_is c.len_to-len.result refl
          c.len_to-len.ensures.len less (omega (arith, c.if-left-eq0.false));
    }
