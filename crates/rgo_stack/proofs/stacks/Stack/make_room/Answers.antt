use Rattle.std.proofs.Common.{◌∙◌, ap}
use Rattle.rgo_stack.specs.Stacks.{Stack}
use Rattle.rgo_stack.proofs.Roomy.{grown_belongs, grown_frames}
use Rattle.rgo_stack.proofs.stacks.Stack.make_room.Goals as goal

pub returns-clause-frames : goal.returns-clause-frames
returns-clause-frames c =
    let a = c.args in
    let here = c.self.inside in
    let at = ap (λ (s : Stack). s.at) c.self.view_is ∙ c.requires.at in
    grown_frames a.compact.now _ a.self.now a.p at c.self.view_is c.requires.belongs c.widen.new.words.items
    c.deepen.new.callers.items c.widen.ensures.kept c.deepen.ensures.kept c.widen.ensures.longer c.deepen.ensures.longer
    c.deepen.ensures.room

pub returns-clause-belongs : goal.returns-clause-belongs
returns-clause-belongs c =
    let a = c.args in
    let here = c.self.inside in
    let at = ap (λ (s : Stack). s.at) c.self.view_is ∙ c.requires.at in
    grown_belongs a.compact.now _ a.self.now a.p at c.self.view_is c.requires.belongs c.widen.new.words.items
    c.deepen.new.callers.items c.widen.ensures.kept c.deepen.ensures.kept c.widen.ensures.longer c.deepen.ensures.longer
    c.deepen.ensures.room
