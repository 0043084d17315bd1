use Rattle.std.proofs.Common.{◌+◌, inr, sym, subst}
use Rattle.rgo_core_steps.specs.After.{printing}
use Rattle.rgo_body.specs.Shows.{BodyShows}
use Rattle.rgo_body.proofs.Acting.{none_printed, printed_shows}
use Rattle.rgo_body.proofs.bodies.Body.printed.Goals as goal

pub returns : goal.returns
returns c clock T r s =
    subst (λ n. BodyShows T c.args.program.now (record c.go_on.new.self { counts = n; prints = c.go_on.new.self.prints + 1 }) (printing T.code r clock))
    (sym c.add_step.ensures)
    (printed_shows T c.args.program.now c.args.self.now c.go_on.new.self r c.args.next.now 0 s c.requires.ready c.go_on.ensures
    (inr c.requires.prints) clock
    (none_printed T c.args.program.now c.args.self.now c.go_on.new.self r c.args.next.now 0 s c.requires.ready c.go_on.ensures
    c.requires.prints))
