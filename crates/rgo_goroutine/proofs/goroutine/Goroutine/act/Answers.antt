use Rattle.std.proofs.Common.{◌∙◌, ap, inl, inr}
use Rattle.std.specs.Prelude.{is_some}
use Rattle.rgo_acts.specs.Compact.Simple.{operand_count}
use Rattle.rgo_sound.specs.Tac.Ops.{numbers_of}
use Rattle.rgo_sound.specs.Typed.declared.actions.Action.{Action}
use Rattle.rgo_goroutine.proofs.Instructing.{come_to}
use Rattle.rgo_goroutine.proofs.Shaping.{shaped, strict}
use Rattle.rgo_goroutine.proofs.goroutine.Goroutine.act.Goals as goal

pub compute-done-requires-clause-computes : goal.compute-done-requires-clause-computes
compute-done-requires-clause-computes g c =
    let at = c.requires.can.at in
    let shape = shaped c.args.run.now c.args.self.now.actor c.args.next.now at.goes.stands at.ready.is_next c.args.to c.args.action
    (numbers_of c.args.from) c.requires.is in
    let some = λ (a : Action). is_some (operand_count a) in
    elim c.in-Int.is [
      | inl d ↦ ap some d.1
      | inr l ↦ elim l [
        | inl d ↦ ap some d.1
        | inr l ↦ elim l [
          | inl d ↦ ap some d
          | inr l ↦ elim l [
            | inl d ↦ ap some d
            | inr l ↦ elim l [
              | inl d ↦ ap some d.1 ∙ strict d.0 (shape.operator d.0 d.1)
              | inr l ↦ elim l [
                | inl d ↦ ap some d
                | inr l ↦ elim l [ inl d ↦ ap some d | inr d ↦ ap some d ]
              ]
            ]
          ]
        ]
      ]
    ]

pub unless_trapped-requires : goal.unless_trapped-requires
unless_trapped-requires g c = record {
  come = (
    c.args.self.now,
    come_to c.args.run.now c.args.self.now c.args.next.now c.args.turning.now c.requires.can c.compute-done.new.actor c.compute-done.result
        c.compute-done.ensures,
  );
}

pub access-requires-clause-shape : goal.access-requires-clause-shape
access-requires-clause-shape g c =
    let at = c.requires.can.at in
    shaped c.args.run.now c.args.self.now.actor c.args.next.now at.goes.stands at.ready.is_next c.args.to c.args.action
    (numbers_of c.args.from) c.requires.is

pub make-requires-clause-shape : goal.make-requires-clause-shape
make-requires-clause-shape g c =
    let at = c.requires.can.at in
    shaped c.args.run.now c.args.self.now.actor c.args.next.now at.goes.stands at.ready.is_next c.args.to c.args.action
    (numbers_of c.args.from) c.requires.is
