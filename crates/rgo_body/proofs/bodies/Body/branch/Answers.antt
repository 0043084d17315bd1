use Rattle.std.proofs.Common.{true, false, sym, ap, ◌∙◌, refl}
use Rattle.rgo_core.specs.Frames.shown.WordFrames.{is_set}
use Rattle.rgo_stack.specs.Stacks.{newest_word}
use Rattle.rgo_body.proofs.Placing.{can_go_on, can_turn, has_test}
use Rattle.rgo_body.proofs.Showing.{at}
use Rattle.rgo_body.proofs.Transfers.{branches, on_ok, set_if}
use Rattle.rgo_body.proofs.bodies.Body.branch.Goals as goal

pub word-requires : goal.word-requires
word-requires c =
    has_test c.args.program.now c.args.self.now c.args.next.now c.requires.possible c.fits.ensures c.requires.ready.is_next c.args.test
    c.args.target c.args.other c.requires.branches

pub go_to-requires-clause-can : goal.go_to-requires-clause-can
go_to-requires-clause-can c =
    can_turn c.args.program.now c.args.self.now c.args.next.now c.requires.possible c.fits.ensures c.requires.ready.is_next c.args.test
    c.args.target c.args.other c.requires.branches

pub go_to-requires-else-word-eq0-clause-can : goal.go_to-requires-else-word-eq0-clause-can
go_to-requires-else-word-eq0-clause-can c =
    can_go_on c.args.program.now c.args.self.now c.args.next.now c.requires.possible c.fits.ensures c.requires.ready.is_next c.args.test
    c.args.target c.args.other c.requires.branches

pub returns-then-word-eq0-clause-done : goal.returns-then-word-eq0-clause-done
returns-then-word-eq0-clause-done c =
    on_ok c.go_to.result c.go_to.ensures.went (λ went T g r here s.
    let x = at T c.args.program.now c.args.self.now r c.args.next.now s c.requires.ready.is_next in
    branches T c.args.program.now c.args.self.now c.go_to.new.self g r c.args.next.now s c.requires.ready c.requires.rests c.args.other
    c.otherwise.result.now went c.args.test c.args.target c.args.other c.requires.branches false
    (ap is_set (ap (λ fs. newest_word fs c.args.test) (sym x.are ∙ s.frames) ∙ sym c.word.ensures ∙ c.if-word-eq0.true)) refl
    c.otherwise.ensures)

pub returns-else-word-eq0-clause-done : goal.returns-else-word-eq0-clause-done
returns-else-word-eq0-clause-done c =
    on_ok c.go_to-else-word-eq0.result c.go_to-else-word-eq0.ensures.went (λ went T g r here s.
    let x = at T c.args.program.now c.args.self.now r c.args.next.now s c.requires.ready.is_next in
    branches T c.args.program.now c.args.self.now c.go_to-else-word-eq0.new.self g r c.args.next.now s c.requires.ready c.requires.rests
    c.args.target c.removes.result.now went c.args.test c.args.target c.args.other c.requires.branches true
    (ap is_set (ap (λ fs. newest_word fs c.args.test) (sym x.are ∙ s.frames) ∙ sym c.word.ensures) ∙ set_if c.word.result c.if-word-eq0.false)
    refl c.removes.ensures)
