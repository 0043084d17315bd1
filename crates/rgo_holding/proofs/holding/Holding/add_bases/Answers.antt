use Rattle.std.proofs.Common.{◌≢◌, None, map, nat_eq, reverse, subst, sym, ◌∙◌}
use Rattle.std.specs.HashMap.{get}
use Rattle.std.proofs.lemmas.List.{take_all}
use Rattle.rgo_sound.specs.RegionMachine.declared.regions.Region.TheVariants.{Numbered}
use Rattle.rgo_holding.specs.Learning.{ShowsFresh}
use Rattle.rgo_holding.proofs.Starting.{all_at, bases_more}
use Rattle.rgo_holding.proofs.holding.Holding.add_bases.Goals as goal

pub loop-slot-preserved : goal.loop-slot-preserved
loop-slot-preserved c = (
  λ slots stakes tracks shows apart.
      let old = c.loop-slot.invariant.0 slots stakes tracks shows apart in (
        c.in_ok-add_base.ensures.tracks (get nat_eq c.args.known.now) old.0,
        bases_more slots stakes c.loop-slot.self c.add_base.new.self (get nat_eq c.args.known.now) c.args.found.now
            c.loop-slot.slot-index _ c.in-Some.key c.loop-slot-test.true old.0 old.1 apart (sym c.key_of.ensures ∙ c.in-Some.is)
            c.in_ok-add_base.ensures.adds,
      ),
  λ key. c.in_ok-add_base.ensures.regions key ∙ c.loop-slot.invariant.1 key,
  c.add_base.ensures.kept.0 ∙ c.loop-slot.invariant.2,
  c.add_base.ensures.kept.1 ∙ c.loop-slot.invariant.3,
)

pub loop-slot-preserved-in_default : goal.loop-slot-preserved-in_default
loop-slot-preserved-in_default c = (
  λ slots stakes tracks shows known.
      let one = all_at (λ p. (p ≢ slots) × (get nat_eq c.args.known.now p ≢ None)) c.args.found.now c.loop-slot.slot-index _ known
      c.loop-slot-test.true in
      absurd (one.1 (sym c.key_of.ensures ∙ c.in_default.is)),
  c.loop-slot.invariant.1,
  c.loop-slot.invariant.2,
  c.loop-slot.invariant.3,
)

pub returns-clause-adds : goal.returns-clause-adds
returns-clause-adds c = λ slots stakes tracks shows apart.
    subst (λ ps. ShowsFresh slots c.loop-slot.self (map Numbered (reverse ps)) stakes)
    (take_all c.loop-slot.slot-index c.args.found.now c.loop-slot-test.false)
    (c.loop-slot.invariant.0 slots stakes tracks shows apart).1
