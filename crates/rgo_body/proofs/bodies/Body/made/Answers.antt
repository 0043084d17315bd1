use Rattle.std.proofs.Common.{◌+◌, suc, inl, refl, sym, ap, ◌∙◌, subst}
use Rattle.rgo_core.specs.Memory.Records.{raised}
use Rattle.rgo_core_steps.specs.After.{making}
use Rattle.rgo_holding.specs.Holds.{IsHoldingOf, region_of_key}
use Rattle.rgo_holding.specs.Known.{slot_or_global}
use Rattle.rgo_sound.specs.RegionMachine.Objects.{object_words as words_in}
use Rattle.rgo_body.specs.Shows.{BodyShows}
use Rattle.rgo_body.specs.declared.bodies.Body.{Body}
use Rattle.rgo_body.proofs.Acting.{kept_holds, made_shows}
use Rattle.rgo_body.proofs.bodies.Body.made.Goals as goal

pub returns-clause-shows : goal.returns-clause-shows
returns-clause-shows c T r f object region s known slot end word =
    let m = c.go_on.new.self in
    let here = ap (λ (b : Body). region_of_key b.holding c.args.key) c.go_on.ensures.rest ∙ known in
    let filled = c.fill.ensures.fills T.sizes.regions r.frame.holder r.memory.fills region
    (kept_holds T c.args.program.now c.args.self.now m r c.args.next.now c.args.word s c.requires.ready c.go_on.ensures) here in
    subst (λ n. BodyShows T c.args.program.now (record m { holding = c.fill.new.self; counts = n }) (making T r f object))
    (sym c.add_object.ensures)
    (made_shows T c.args.program.now c.args.self.now m r c.args.next.now c.args.word s c.requires.ready c.go_on.ensures
    (inl c.requires.does) f object
    (record m {
      holding = c.fill.new.self;
      counts = record m.counts { steps = suc m.counts.steps; objects = suc m.counts.objects };
    })
    word refl
    (subst (λ k. IsHoldingOf T.sizes.regions c.fill.new.self r.frame.holder (raised k (f.fill + words_in object) r.memory.fills)) (sym slot)
    (subst (λ n. IsHoldingOf T.sizes.regions c.fill.new.self r.frame.holder (raised (slot_or_global T.sizes.regions region) n r.memory.fills)) (sym end) filled)))

pub returns-clause-side : goal.returns-clause-side
returns-clause-side c = ap (λ (b : Body). b.side) c.go_on.ensures.rest

pub returns-clause-not_yet : goal.returns-clause-not_yet
returns-clause-not_yet c = ap (λ (b : Body). b.is_expanded) c.go_on.ensures.rest
