use Rattle.std.proofs.Common.{◌≡◌, [], ◌∷◌, length, sym, ap, ◌∙◌, subst, arith}
use Rattle.rgo_sound.specs.Code.Code.{Code}
use Rattle.rgo_compact.specs.Functions.{IsCompact}
use Rattle.rgo_core.specs.runs.Opening.{main_words}
use Rattle.rgo_core.specs.Frames.shown.WordFrames.{bare_all, word_called}
use Rattle.rgo_sound.specs.RegionMachine.Owed.{code_function}
use Rattle.rgo_stack.proofs.Lookups.{places}
use Rattle.rgo_stack.specs.Places.{FunctionTakes}
use Rattle.rgo_stack.specs.Stacks.{Belongs}
use Rattle.rgo_body.proofs.Starting.{first_shows, has_main, if_ok}
use Rattle.rgo_body.proofs.bodies.Body.new.Goals as goal

pub unreachable-requires : goal.unreachable-requires
unreachable-requires c = has_main c.code.result.now c.code.ensures.checked c.in_default.ensures

pub new-requires-2 : goal.new-requires-2
new-requires-2 c =
    let p = c.args.program.now in
    let found = c.in-Some.ensures in
    let none : length c.new.result.items ≡ 0 = ap length c.new.ensures.items in
    subst (λ fs. FunctionTakes fs c.in-Some.n (length c.new.result.items)) (sym c.compact.ensures.compact)
    (places.takes p.code p.compact c.in-Some.n (length c.new.result.items) found.0 c.compact.ensures.program.compact
    (ap (λ code. code_function code c.in-Some.n) (sym c.code.ensures.code) ∙ found.1) (omega (arith, none)))

pub returns : goal.returns
returns c =
    let p = c.args.program.now in
    let found = c.in-Some.ensures in
    let known = ap (λ code. code_function code c.in-Some.n) (sym c.code.ensures.code) ∙ found.1 in
    if_ok c.with_frame.result c.with_frame.ensures (λ b fresh T code many.
    first_shows T p b _ _ code
    (subst (λ fs. Belongs fs c.in_ok-stack.stack) c.compact.ensures.compact c.in_ok-stack.ensures.belongs)
    c.in-Some.n found.0 c.args.slots fresh many
    (ap (λ (k : Code). main_words k.functions 0) (sym c.code.ensures.code) ∙ found.2)
    (c.in_ok-stack.ensures.frames p.code found.0
    (subst (IsCompact p.code) (sym c.compact.ensures.compact) c.compact.ensures.program.compact) known
    ∙ ap (λ ws. word_called found.0 c.in-Some.n ws ∷ []) c.new.ensures.items)
    (c.in_ok-holding.ensures T.code (bare_all (main_words T.code.functions 0))))
