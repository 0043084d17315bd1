use Rattle.std.proofs.Common.{◌++◌, ◌∷◌, List, ℕ, false, arith, length, map, sym, ap, ◌∙◌, refl, subst}
use Rattle.rgo_sound.specs.RegionMachine.States.{Duty, Remove, Unprotect}
use Rattle.rgo_stack.specs.Places.{CanReturn, IsCalledFor}
use Rattle.rgo_stack.specs.Stacks.{Belongs}
use Rattle.rgo_body.specs.Bodies.{frames_of_body}
use Rattle.rgo_body.proofs.Calling.{can_return, comes_back, comes_back_exit, goes_back, room_enough, tail_is}
use Rattle.rgo_body.proofs.bodies.Body.come_back_to.Goals as goal

pub come_back-requires-clause-can : goal.come_back-requires-clause-can
come_back-requires-clause-can c =
    let n = c.requires.call in
    let at = c.requires.ready.is_next in
    subst (λ fs. CanReturn fs c.args.value c.result_target.result (frames_of_body c.args.self.now)) (sym c.compact.ensures.compact)
    (subst (λ to. CanReturn c.args.program.now.compact c.args.value to (frames_of_body c.args.self.now)) (sym c.result_target.ensures)
    (can_return c.args.program.now c.args.self.now c.args.next.now c.requires.possible c.fits.ensures at c.args.value c.requires.returns
    _ (n.w ∷ n.ws) (tail_is at.w at.ws (frames_of_body c.args.self.now) at.are ∙ n.are)
    (goes_back c.args.program.now c.args.self.now c.args.call.now c.requires.possible c.fits.ensures n)))

pub put_all-requires : goal.put_all-requires
put_all-requires c =
    let l = room_enough c.args.program.now c.args.self.now c.args.call.now c.requires.possible c.fits.ensures c.requires.call c.requires.room in
    let e = ap length c.removes.ensures in
    record { room = omega (arith, l, e) }

pub put_all-requires-2 : goal.put_all-requires-2
put_all-requires-2 c =
    let l = room_enough c.args.program.now c.args.self.now c.args.call.now c.requires.possible c.fits.ensures c.requires.call c.requires.room in
    let e = ap length c.removes.ensures in
    let f = ap length c.protects.ensures in
    let r = c.put_all.ensures.room in
    record { room = omega (arith, l, e, f, r) }

pub returns-clause-local : goal.returns-clause-local
returns-clause-local c T g r here s =
    comes_back T c.args.program.now c.args.self.now (record c.args.self.now {
      stack = c.come_back.new.self;
      holding = c.come_back-2.new.self;
      queue = c.put_all-2.new.self;
      is_expanded = false;
      counts = c.add_step.new.self;
    }) g r c.args.next.now c.requires.possible c.fits.ensures here s c.requires.ready c.requires.rests c.args.value c.requires.returns
    (subst (λ fs. Belongs fs c.come_back.new.self) c.compact.ensures.compact c.come_back.ensures.belongs)
    c.come_back-2.ensures.returns refl refl c.add_step.ensures refl refl refl
    c.args.call.now c.requires.call
    (λ code is. c.come_back.ensures.frames code (subst (λ t. IsCalledFor code t (frames_of_body c.args.self.now)) (sym c.result_target.ensures) is))
    (c.put_all-2.ensures.put ∙ ap (λ (q : List ℕ × List Duty). map Unprotect q.0 ++ q.1)
    (λ i. (c.protects.ensures i, (c.put_all.ensures.put ∙ ap (λ ks. map Remove ks ++ c.args.self.now.queue.duties) c.removes.ensures) i)))

pub returns-clause-exit : goal.returns-clause-exit
returns-clause-exit c clock T g r here s =
    comes_back_exit T c.args.program.now c.args.self.now (record c.args.self.now {
      stack = c.come_back.new.self;
      holding = c.come_back-2.new.self;
      queue = c.put_all-2.new.self;
      is_expanded = false;
      counts = c.add_step.new.self;
    }) g r c.args.next.now c.requires.possible c.fits.ensures here s c.requires.ready c.requires.rests c.args.value c.requires.returns
    (subst (λ fs. Belongs fs c.come_back.new.self) c.compact.ensures.compact c.come_back.ensures.belongs)
    c.come_back-2.ensures.returns refl refl c.add_step.ensures refl refl refl
    c.args.call.now c.requires.call
    (λ code is. c.come_back.ensures.frames code (subst (λ t. IsCalledFor code t (frames_of_body c.args.self.now)) (sym c.result_target.ensures) is))
    (c.put_all-2.ensures.put ∙ ap (λ (q : List ℕ × List Duty). map Unprotect q.0 ++ q.1)
    (λ i. (c.protects.ensures i, (c.put_all.ensures.put ∙ ap (λ ks. map Remove ks ++ c.args.self.now.queue.duties) c.removes.ensures) i))) clock
