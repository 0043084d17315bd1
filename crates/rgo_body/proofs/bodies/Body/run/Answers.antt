use Rattle.std.proofs.Common.{sym, ap, subst}
use Rattle.rgo_compact.specs.Functions.{IsCompact}
use Rattle.rgo_core_steps.specs.Seats.{settled}
use Rattle.rgo_stack.specs.Runs.{HasHalted}
use Rattle.rgo_stack.specs.Stacks.{Belongs}
use Rattle.rgo_body.specs.declared.bodies.Body.{Body}
use Rattle.rgo_body.proofs.LoopRuns.{is_between, run_shows}
use Rattle.rgo_body.proofs.bodies.Body.run.Goals as goal

pub run-ran-requires-clause-compact : goal.run-ran-requires-clause-compact
run-ran-requires-clause-compact c =
    subst (IsCompact c.args.heap.now.setup.code) (sym c.compact.ensures.compact)
    (subst (λ code. IsCompact code c.args.program.now.compact) (sym c.requires.shows.code) c.compact.ensures.program.compact)

pub run-ran-requires-clause-belongs : goal.run-ran-requires-clause-belongs
run-ran-requires-clause-belongs c =
    subst (λ fs. Belongs fs c.args.self.now.stack) (sym c.compact.ensures.compact) c.requires.shows.belongs

pub run-ran-requires-clause-between : goal.run-ran-requires-clause-between
run-ran-requires-clause-between c =
    is_between c.args.heap.now.setup c.args.program.now c.args.self.now c.args.seat.now.me c.args.behind c.requires.shows
    c.requires.empty c.requires.not_yet c.requires.rests c.requires.alone c.requires.settles c.requires.possible

pub returns-clause-shows : goal.returns-clause-shows
returns-clause-shows c =
    let T = c.args.heap.now.setup in
    let p = c.args.program.now in
    let b = c.args.self.now in
    let r = settled T c.args.behind c.args.seat.now.me in
    let ran = c.run-ran in
    let d : Body = record b { stack = ran.new.self; holding = c.settle.new.self; counts = c.add_steps.new.self } in
    run_shows T p b c.args.seat.now.me c.args.behind c.requires.shows c.requires.empty c.requires.not_yet c.requires.rests
    d ran.new.seat.me ran.result.behind ran.result.done ran.result.kept c.depth.result ran.ensures.comes
    (subst (λ fs. Belongs fs ran.new.self) c.compact.ensures.compact ran.ensures.belongs) c.depth.ensures
    (ap (λ n. record b { stack = ran.new.self; holding = c.settle.new.self; counts = n }) c.add_steps.ensures)
    (λ es k. c.settle.ensures.settles T.sizes.regions r.frame.holder r.memory.fills es c.requires.shows.holds k)

pub returns-clause-halts : goal.returns-clause-halts
returns-clause-halts c fewer =
    let ran = c.run-ran in
    subst (λ code. HasHalted code c.args.program.now.compact ran.new.self) c.requires.shows.code
    (subst (λ fs. HasHalted c.args.heap.now.setup.code fs ran.new.self) c.compact.ensures.compact (ran.ensures.halts fewer))
