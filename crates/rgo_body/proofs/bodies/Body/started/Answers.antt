use Rattle.std.proofs.Common.{suc, refl, sym, subst}
use Rattle.rgo_core_steps.specs.After.{starting}
use Rattle.rgo_body.specs.Shows.{BodyShows}
use Rattle.rgo_body.proofs.Acting.{kept_holds, none_started, started_shows}
use Rattle.rgo_body.proofs.bodies.Body.started.Goals as goal

pub returns : goal.returns
returns c number T r s =
    let m = c.go_on.new.self in
    subst (λ n. BodyShows T c.args.program.now (record m { holding = c.clear_pending.new.self; counts = n }) (starting T.code r number))
    (sym c.add_goroutine.ensures)
    (started_shows T c.args.program.now c.args.self.now m r c.args.next.now 0 s c.requires.ready c.go_on.ensures c.requires.starts number
    (record m {
      holding = c.clear_pending.new.self;
      counts = record m.counts { steps = suc m.counts.steps; goroutines = suc m.counts.goroutines };
    })
    (none_started T c.args.program.now c.args.self.now m r c.args.next.now 0 s c.requires.ready c.go_on.ensures c.requires.starts)
    refl
    (c.clear_pending.ensures.clears T.sizes.regions r.frame.holder r.memory.fills
    (kept_holds T c.args.program.now c.args.self.now m r c.args.next.now 0 s c.requires.ready c.go_on.ensures)))
