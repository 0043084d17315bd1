use Rattle.std.proofs.Common.{ap, arith, refl, sym, ◌∙◌}
use Rattle.rgo_core.specs.runs.Plans.{setup_of}
use Rattle.rgo_goroutine.proofs.Looking.{caught_up_at}
use Rattle.rgo_goroutine.proofs.goroutine.Goroutine.catch_up.Goals as goal

pub look-requires-clause-own : goal.look-requires-clause-own
look-requires-clause-own c = (
  c.requires.stands.own ∙ sym c.table.ensures.table,
  (let words = ap (λ t. t.words) c.table.ensures.table ∙ c.fits.ensures.layout.words in omega (arith, words)),
)

pub returns : goal.returns
returns c =
    let a = c.args.self.now.actor in
    let b = record a { seat = c.look.new.seat; behind = 0 } in
    caught_up_at c.args.run.now (setup_of c.table.result.now.shared.key) c.table.ensures.setup c.args.self.now b c.look.ensures.own.0 refl
    refl c.look.ensures.possible (c.look.ensures.looked.0, c.look.ensures.looked.2)
