use Rattle.std.specs.Prelude.{OnOk}
use Rattle.std.proofs.Common.{sym, ◌∙◌, subst}
use Rattle.rgo_region_interpreter.specs.Objects.{ChangesHolder, Placed}
use Rattle.rgo_region_interpreter.proofs.worlds.World.use_room.Goals as goal

pub returns-then-is_spread-clause-used : goal.returns-then-is_spread-clause-used
returns-then-is_spread-clause-used c =
    subst (λ b. ChangesHolder c.args.self.now c.use_reserved.new.self c.args.g
    (λ h d. Placed b h d c.args.region c.args.extent.words)) (sym c.if-is_spread.true ∙ c.is_spread.ensures)
    c.use_reserved.ensures.uses

pub returns-else-is_spread-clause-used : goal.returns-else-is_spread-clause-used
returns-else-is_spread-clause-used c =
    subst (λ b. OnOk c.fill_more.result (ChangesHolder c.args.self.now c.fill_more.new.self c.args.g
    (λ h d. Placed b h d c.args.region c.args.extent.words))) (sym c.if-is_spread.false ∙ c.is_spread.ensures)
    c.fill_more.ensures.refills
