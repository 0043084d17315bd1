use Rattle.std.proofs.Common.{sym, ◌∙◌}
use Rattle.rgo_region_interpreter.proofs.acts.Rooms.{never_none, too_many_pages}
use Rattle.rgo_region_interpreter.proofs.worlds.World.make_room.Goals as goal

pub returns-in_default : goal.returns-in_default
returns-in_default c = λ s ready. absurd (never_none c.args.self.now s c.args.g c.args.next.now c.args.making ready
    c.requires (sym c.region_for.ensures ∙ c.in_default.is))

pub returns-then-is_too_large : goal.returns-then-is_too_large
returns-then-is_too_large c = λ s ready. too_many_pages c.args.self.now s c.args.g c.args.next.now c.args.making ready
    c.requires (sym c.is_too_large.ensures ∙ c.if-is_too_large.true)
