use Rattle.std.specs.Prelude.{OnOk}
use Rattle.std.proofs.Common.{sym, ◌∙◌, subst}
use Rattle.rgo_region_interpreter.specs.Objects.{ChangesHolder, WithPage}
use Rattle.rgo_region_interpreter.proofs.worlds.World.keep_page.Goals as goal

pub returns-then-is_spread-clause-kept : goal.returns-then-is_spread-clause-kept
returns-then-is_spread-clause-kept c =
    subst (λ b. OnOk c.reserve_page.result (ChangesHolder c.args.self.now c.reserve_page.new.self c.args.g
    (λ h d. WithPage b h d c.args.region))) (sym c.if-is_spread.true ∙ c.is_spread.ensures)
    c.reserve_page.ensures.reserves

pub returns-else-is_spread-clause-kept : goal.returns-else-is_spread-clause-kept
returns-else-is_spread-clause-kept c =
    subst (λ b. OnOk c.refill.result (ChangesHolder c.args.self.now c.refill.new.self c.args.g
    (λ h d. WithPage b h d c.args.region))) (sym c.if-is_spread.false ∙ c.is_spread.ensures) c.refill.ensures.refills
