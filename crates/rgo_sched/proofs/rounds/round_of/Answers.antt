use Rattle.std.proofs.Common.{◌≡◌, length, ap, arith, sym, subst, ◌∙◌}
use Rattle.rgo_sched.specs.Crew.{Every, New}
use Rattle.rgo_sched.proofs.rounds.round_of.Goals as goal

pub turn_all-requires-clause-new : goal.turn_all-requires-clause-new
turn_all-requires-clause-new g c κs within =
    let crew = c.in_ok-crew.ensures in
    let tasks : c.len-count.result ≡ length g.B.Before.tasks =
    (let e = ap length c.requires.dealt in omega (arith, c.len-count.ensures, c.args.tasks.now.ok)) in
    let same = sym crew.len ∙ crew.crew.same ∙ ap length (sym c.as_slice.ensures.value) in
    subst (λ k. Every (New (length g.B.Before.tasks) k) c.in_ok-crew.crew.items) same
    (subst (λ n. Every (New n c.args.workers) c.in_ok-crew.crew.items) tasks crew.new)
