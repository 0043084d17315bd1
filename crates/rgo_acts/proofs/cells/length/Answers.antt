use Rattle.std.proofs.Common.{[], refl, subst, sym}
use Rattle.rgo_core_steps.specs.Accesses.{LengthOfNil}
use Rattle.rgo_acts.specs.Actors.{now}
use Rattle.rgo_acts.specs.Runs.{Run}
use Rattle.rgo_acts.proofs.before.Instructions.{first_in, reads_it}
use Rattle.rgo_acts.proofs.accesses.Fields.{length_loads, length_of_nil, length_within}
use Rattle.rgo_acts.proofs.accesses.Loading.{looked}
use Rattle.rgo_acts.proofs.cells.length.Goals as goal

pub word-slice-requires : goal.word-slice-requires
word-slice-requires g c =
    reads_it c.args.run.now c.args.actor.now c.args.next.now c.requires.before _ _ _ c.requires.is c.args.from (first_in c.args.from [])

pub length_of_nil-requires-clause-nil : goal.length_of_nil-requires-clause-nil
length_of_nil-requires-clause-nil g c =
    subst (λ (r : Run). LengthOfNil r.setup (now r.setup c.args.actor.now)) (sym c.run.view_is)
    (length_of_nil c.args.run.now c.args.actor.now c.args.next.now c.requires.before c.args.to c.args.from c.word-slice.result c.requires.is
    c.word-slice.ensures c.if-slice-eq0.true)

pub returns-then-slice-eq0 : goal.returns-then-slice-eq0
returns-then-slice-eq0 g c =
    let a = c.args.actor.now in
    let b = record a { seat = c.length_of_nil.new.seat; behind = 0; body = c.acted.new.self } in
    looked _ c.args.run.now c.run.view_is a b c.args.next.now c.requires.before c.length_of_nil.ensures.own.0 refl
    c.length_of_nil.ensures.possible c.length_of_nil.ensures.leaves c.acted.ensures

pub cell-requires : goal.cell-requires
cell-requires g c =
    length_within c.args.run.now c.args.actor.now c.args.next.now c.requires.before c.args.to c.args.from c.word-slice.result c.requires.is
    c.word-slice.ensures c.if-slice-eq0.false

pub take-requires-clause-loads : goal.take-requires-clause-loads
take-requires-clause-loads g c =
    length_loads c.args.run.now c.args.actor.now c.args.next.now c.requires.before c.args.to c.args.from c.word-slice.result c.requires.is
    c.word-slice.ensures c.if-slice-eq0.false c.cell.result c.cell.ensures.at
