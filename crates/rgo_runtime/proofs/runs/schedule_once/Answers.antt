-- A round, a flush and the test of the end, one after the other. The round prints nothing (`goes_quietly`), the flush does (`goes_out`),
-- and after it none of the prints that wait is the next (`none_next`).
use Rattle.rgo_runtime.specs.declared.runs.Why.TheVariants.{Write}
use Rattle.rgo_runtime.proofs.ending.Playing.{comes_then, ends_then, fails, goes_out, goes_quietly, goes_then, none_next}
use Rattle.rgo_runtime.proofs.runs.schedule_once.Goals as goal

pub returns-in-Err-clause-ends : goal.returns-in-Err-clause-ends
returns-in-Err-clause-ends g c =
    goes_quietly c.args.crew.now c.run_round.new.self (g.K.Sink.contents c.args.out.now) c.run_round.ensures.kept c.run_round.ensures.next

pub returns-in-Err-flush_prints-clause-ends : goal.returns-in-Err-flush_prints-clause-ends
returns-in-Err-flush_prints-clause-ends g c =
    let was = g.K.Sink.contents c.args.out.now in
    let now = g.K.Sink.contents c.flush_prints.new.out in
    ends_then Write c.args.crew.now c.run_round.new.self c.flush_prints.new.self was was now
    (goes_quietly c.args.crew.now c.run_round.new.self was c.run_round.ensures.kept c.run_round.ensures.next)
    (fails c.run_round.new.self c.flush_prints.new.self was now c.flush_prints.ensures.rest c.in-Err-flush_prints.ensures.part)

pub check_end-why-requires-clause-next : goal.check_end-why-requires-clause-next
check_end-why-requires-clause-next g c = none_next c.flush_prints.new.self.waiting c.flush_prints.new.self.next c.in-Ok-flush_prints.ensures.given.none

pub returns-clause-ends : goal.returns-clause-ends
returns-clause-ends g c =
    let was = g.K.Sink.contents c.args.out.now in
    let now = g.K.Sink.contents c.flush_prints.new.out in
    comes_then c.check_end-why.result c.args.crew.now c.flush_prints.new.self c.check_end-why.new.crew was now now
    (goes_then c.args.crew.now c.run_round.new.self c.flush_prints.new.self was was now
    (goes_quietly c.args.crew.now c.run_round.new.self was c.run_round.ensures.kept c.run_round.ensures.next)
    (goes_out c.run_round.new.self c.flush_prints.new.self was now c.flush_prints.ensures.rest c.in-Ok-flush_prints.ensures.given))
    (c.check_end-why.ensures.ends now)
