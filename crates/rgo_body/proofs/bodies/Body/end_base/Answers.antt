use Rattle.std.proofs.Common.{refl, subst}
use Rattle.rgo_holding.specs.Changes.{FirstBase}
use Rattle.rgo_body.proofs.Removing.{TellsKeptBase, base_leaves_in, ends_none, ends_rest, no_first_base}
use Rattle.rgo_body.proofs.bodies.Body.end_base.Goals as goal

pub returns-then-is_kept_beyond_base : goal.returns-then-is_kept_beyond_base
returns-then-is_kept_beyond_base c =
    let keyed = subst (FirstBase c.args.self.now.holding) c.in-Some.is c.first_base.ensures in
    ends_none c.args.program.now c.args.self.now _ c.requires.first.0 c.in-Some.key keyed
    c.requires.first.1.0 c.requires.first.1.1 (c.pop.ensures _ _ c.requires.first.1.1) refl c.requires.rests refl
    (ends_rest c.args.self.now.holding c.end_base.new.self c.end_base.result c.end_base.ensures.ends)
    (subst (TellsKeptBase c.args.program.now c.args.self.now c.args.self.now c.requires.first.0 c.in-Some.key keyed)
    c.if-is_kept_beyond_base.true c.is_kept_beyond_base.ensures)

pub returns : goal.returns
returns c =
    let keyed = subst (FirstBase c.args.self.now.holding) c.in-Some.is c.first_base.ensures in (
      refl,
      base_leaves_in c.args.program.now c.args.self.now c.args.self.now c.requires.first.0 c.in-Some.key keyed
          c.requires.first.1.0 c.requires.first.1.1 c.requires.possible
          (subst (TellsKeptBase c.args.program.now c.args.self.now c.args.self.now c.requires.first.0 c.in-Some.key keyed)
          c.if-is_kept_beyond_base.false c.is_kept_beyond_base.ensures),
    )

pub returns-in_default : goal.returns-in_default
returns-in_default c = absurd (no_first_base c.args.program.now c.args.self.now c.requires.first.0
    c.requires.possible c.requires.first.1 (subst (FirstBase c.args.self.now.holding) c.in_default.is c.first_base.ensures))
