use Rattle.std.proofs.Common.{◌≡◌, ◌≤◌, ◌+◌, ◌-◌, ◌∷◌, [], ap, subst, arith, length, length-drop, take, drop}
use Rattle.std.proofs.lemmas.List.{take_rest}
use Rattle.rgo_lexer.specs.Strings.{items, items_len}
use Rattle.rgo_lexer.proofs.StringLemmas.{items_len-none, items_len-more}
use Rattle.rgo_lexer.proofs.strings.items_len.Goals as goal

pub loop-width-preserved : goal.loop-width-preserved
loop-width-preserved c =
    let text = c.args.text.now in
    let at = c.loop-width.at in
    let width = c.in-Some.width in
    let rest = drop at text in
    let seen : take (length text - at) rest ≡ rest = take_rest text at in
    let within : width ≤ length rest = omega (arith, c.in-Some.ensures.within, ap length seen) in
    let first : items rest ≡ take width rest ∷ items
    (drop width rest) = subst (λ l. items l ≡ take width l ∷ items
    (drop width l)) seen c.in-Some.ensures.value.0 in
    let more : items_len rest ≡ width + items_len
    (drop (at + width) text) = items_len-more text at width within first in
    record {
      within = omega (arith, length-drop at text);
      rest = omega (
        arith,
        more,
        c.loop-width.invariant.rest,
      );
    }

pub returns-clause-value : goal.returns-clause-value
returns-clause-value c =
    let text = c.args.text.now in
    let at = c.loop-width.at in
    let none : items (drop at text) ≡ [] = subst (λ l. items l ≡ [])
    (take_rest text at) c.in_default.ensures.value in
    omega (arith, items_len-none (drop at text) none, c.loop-width.invariant.rest)
