use Rattle.rgo_scopes.proofs.scopes.Scopes.leave.Goals as goal
use Rattle.std.proofs.Common.{ap, ◌∙◌, sym, refl}
use Rattle.rgo_scopes.specs.Blocks.{block_left}
use Rattle.rgo_scopes.proofs.TrailLemmas.{trail-restored, IsSome-last, trail-left, view-left, nil_from_length}

pub restore-requires : goal.restore-requires
restore-requires g c =
    IsSome-last c.pop.new.self.items c.loop-binding.self-inside.here.items
    c.loop-binding.self-inside.outer.items c.loop-binding.self-inside.newest c.in-Some.binding
    c.loop-binding.invariant.0 c.in-Some.ensures.items

pub loop-binding-preserved : goal.loop-binding-preserved
loop-binding-preserved g c = (
  trail-restored c.pop.new.self.items c.loop-binding.self-inside.here.items
      c.loop-binding.self-inside.outer.items c.loop-binding.self-inside.newest c.restore.new.newest
      c.in-Some.binding c.loop-binding.invariant.0 c.in-Some.ensures.items c.restore.ensures.noted,
  c.loop-binding.invariant.1,
)

pub invariant_of-self : goal.invariant_of-self
invariant_of-self g c =
    trail-left c.loop-binding.self-inside.here.items c.in-Some-pop.block.items c.pop-2.new.self.items
    c.loop-binding.self-inside.outer.items c.in-Some-pop.block
    c.loop-binding.self-inside.newest c.loop-binding.invariant.0
    (nil_from_length c.loop-binding.self-inside.here.items
    (sym c.loop-binding.self-inside.here.ok.0 ∙ c.in_default.ensures.cases.0)) c.in-Some-pop.ensures.items
    refl

pub returns-in-Some-pop : goal.returns-in-Some-pop
returns-in-Some-pop g c =
    view-left c.self.inside.here.items c.pop-2.new.self.items c.self.inside.outer.items c.in-Some-pop.block
    (sym c.loop-binding.invariant.1 ∙ c.in-Some-pop.ensures.items) ∙ ap block_left c.self.view_is
