use Rattle.std.proofs.Common.{length, subst, sym}
use Rattle.rgo_holding.specs.Naming.{NamedFrameEnters, HasFrameRoom}
use Rattle.rgo_holding.proofs.Calling.{enter_shows}
use Rattle.rgo_holding.proofs.holding.Holding.enter.Goals as goal

pub enter-requires : goal.enter-requires
enter-requires c = record {
  room = subst (λ ks. HasFrameRoom c.leave_given.new.frames (length ks)) (sym c.deref.ensures.value)
      (c.leave_given.ensures.room _ c.requires.prepared.room);
}

pub returns-clause-calls : goal.returns-clause-calls
returns-clause-calls c = λ slots h fills shows.
    enter_shows c.args.self.now c.leave_given.new.frames c.enter.new.self c.args.formals.now c.args.passes.now
    c.args.protects.now c.args.lent c.requires.prepared (c.leave_given.ensures.clears shows.ordered)
    (subst (NamedFrameEnters c.leave_given.new.frames c.enter.new.self) c.deref.ensures.value c.enter.ensures) slots h fills shows
