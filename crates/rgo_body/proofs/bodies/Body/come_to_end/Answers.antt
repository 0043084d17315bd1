use Rattle.std.proofs.Common.{[], None, false, sym, ◌∙◌, refl, subst}
use Rattle.rgo_stack.specs.Places.{CanReturn}
use Rattle.rgo_stack.specs.Stacks.{Belongs}
use Rattle.rgo_body.specs.Bodies.{frames_of_body}
use Rattle.rgo_body.proofs.Calling.{base_room, can_return, ends, ends_exit, tail_is}
use Rattle.rgo_body.proofs.Transfers.{no_caller_below}
use Rattle.rgo_body.proofs.bodies.Body.come_to_end.Goals as goal

pub come_back-requires-clause-can : goal.come_back-requires-clause-can
come_back-requires-clause-can c =
    let at = c.requires.ready.is_next in
    subst (λ fs. CanReturn fs c.args.value None (frames_of_body c.args.self.now)) (sym c.compact.ensures.compact)
    (can_return c.args.program.now c.args.self.now c.args.next.now c.requires.possible c.fits.ensures at c.args.value c.requires.returns
    None [] (tail_is at.w at.ws (frames_of_body c.args.self.now) at.are ∙ no_caller_below (frames_of_body c.args.self.now) c.requires.last) tt)

pub put_base-requires : goal.put_base-requires
put_base-requires c = record {
  room = base_room c.args.program.now c.args.self.now (record c.args.self.now { holding = c.come_back-2.new.self }) c.args.next.now
      c.requires.possible c.requires.ready c.requires.rests c.args.value c.requires.returns c.requires.last c.requires.room
      c.come_back-2.ensures.returns;
}

pub returns-clause-local : goal.returns-clause-local
returns-clause-local c T g r here s =
    ends T c.args.program.now c.args.self.now (record c.args.self.now {
      stack = c.come_back.new.self;
      holding = c.come_back-2.new.self;
      queue = c.put_base.new.queue;
      is_expanded = false;
      counts = c.add_step.new.self;
    }) g r c.args.next.now c.requires.possible c.fits.ensures here s c.requires.ready c.requires.rests c.args.value c.requires.returns
    (subst (λ fs. Belongs fs c.come_back.new.self) c.compact.ensures.compact c.come_back.ensures.belongs)
    c.come_back-2.ensures.returns refl refl c.add_step.ensures refl refl refl
    c.requires.last c.come_back.ensures.frames c.put_base.ensures

pub returns-clause-exit : goal.returns-clause-exit
returns-clause-exit c clock T g r here s =
    ends_exit T c.args.program.now c.args.self.now (record c.args.self.now {
      stack = c.come_back.new.self;
      holding = c.come_back-2.new.self;
      queue = c.put_base.new.queue;
      is_expanded = false;
      counts = c.add_step.new.self;
    }) g r c.args.next.now c.requires.possible c.fits.ensures here s c.requires.ready c.requires.rests c.args.value c.requires.returns
    (subst (λ fs. Belongs fs c.come_back.new.self) c.compact.ensures.compact c.come_back.ensures.belongs)
    c.come_back-2.ensures.returns refl refl c.add_step.ensures refl refl refl
    c.requires.last c.come_back.ensures.frames c.put_base.ensures clock
