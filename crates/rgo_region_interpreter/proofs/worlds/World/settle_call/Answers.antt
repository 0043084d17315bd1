use Rattle.std.proofs.Common.{◌∙◌, ◌++◌, map, subst, append_assoc}
use Rattle.rgo_region_machine.specs.Owed.{next_duties}
use Rattle.rgo_region_machine.specs.States.{Remove, Unprotect, frames_of}
use Rattle.rgo_region_interpreter.specs.Works.{Works}
use Rattle.rgo_region_interpreter.proofs.owing.Attending.{attended_then}
use Rattle.rgo_region_interpreter.proofs.stepping.Taking.{settled}
use Rattle.rgo_region_interpreter.proofs.worlds.World.settle_call.Goals as goal

pub returns : goal.returns
returns c = record {
  settled = λ s works others.
      let w = c.args.self.now in
      let g = c.args.g in
      let v = c.owe.new.self in
      let u = c.unprotect_all.new.self in
      let z = c.remove_all.new.self in
      let then = next_duties w.code.now (frames_of s.plain g) in
      let behind = map Remove c.args.removes.now ++ then in
      let unprotects = map Unprotect c.args.protects.now in
      let first = c.unprotect_all.ensures.unprotected behind s (c.owe.ensures.works s _
      (subst (Works w s g) (append_assoc unprotects (map Remove c.args.removes.now) then) works)) in
      settled w v z s g c.owe.ensures.same c.owe.ensures.others others
      (attended_then v u z s g behind then first (c.remove_all.ensures.removed then first.state first.works))
      (c.remove_all.ensures.done ∙ c.unprotect_all.ensures.done ∙ c.owe.ensures.done);
}
