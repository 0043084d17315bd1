use Rattle.std.proofs.Common.{Some, if◌then◌else◌, refl, subst, sym}
use Rattle.rgo_sound.specs.Machine.declared.picks.End.TheVariants.{Exit}
use Rattle.rgo_core_steps.specs.declared.clock.Mark.TheVariants.{Ended}
use Rattle.rgo_goroutine.specs.Instructions.{MakesInstruction}
use Rattle.rgo_goroutine.specs.declared.goroutine.Goroutine.{Goroutine as Goroutine_}
use Rattle.rgo_goroutine.proofs.Beginning.{returning, roomier}
use Rattle.rgo_goroutine.proofs.Concluding.{counted, ended_then, only_told, refused}
use Rattle.rgo_goroutine.proofs.goroutine.Goroutine.exit.Goals as goal

pub returns-then-is_err : goal.returns-then-is_err
returns-then-is_err c =
    let b = record c.args.self.now.actor { body = c.room_to_return.new.self } in
    refused c.args.run.now c.args.self.now b c.args.turning.now c.move_on.new.self c.requires.can.at.goes c.requires.can.noted
    (roomier c.args.run.now c.args.self.now.actor c.room_to_return.new.self c.requires.can.at.goes.stands c.room_to_return.ensures.same)
    (only_told c.args.turning.now c.move_on.new.self c.move_on.ensures)

pub exit-ended-requires-clause-before : goal.exit-ended-requires-clause-before
exit-ended-requires-clause-before c =
    returning c.args.run.now c.args.self.now.actor c.room_to_return.new.self c.args.next.now c.args.value (record {
      stands = c.requires.can.at.goes.stands;
      ready = c.requires.can.at.ready;
      rests = c.requires.can.rests;
      room = c.requires.can.at.room;
      count = c.requires.can.counts.can.steps;
    })
    c.room_to_return.ensures.same c.requires.is

pub returns : goal.returns
returns c =
    let r = c.args.run.now in
    let old = c.args.self.now in
    let b = record old.actor { body = c.room_to_return.new.self } in
    let mark = Ended Exit in
    subst (λ (g : Goroutine_). MakesInstruction r old g c.args.turning.now c.count.new.self (Some c.over.result)) (sym c.over.ensures.same)
    (ended_then r old (record old { actor = c.exit-ended.new.actor; first = if c.exit-ended.result then Some mark else old.first })
    c.args.turning.now c.count.new.self c.requires.can.at.goes c.requires.can.noted b 1 c.over.result
    (roomier r old.actor c.room_to_return.new.self c.requires.can.at.goes.stands c.room_to_return.ensures.same)
    (record {
      mark = mark;
      ends = c.exit-ended.result;
      ended = c.exit-ended.ensures;
      rest = refl;
      is = c.over.ensures.is;
    })
    (counted c.args.turning.now c.count.new.self 1 c.requires.can.at.some c.count.ensures))
