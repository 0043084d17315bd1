use Rattle.std.proofs.Common.{◌++◌, sym, ap, ◌∙◌, map, subst, inl, inr, []}
use Rattle.rgo_sound.specs.Code.Lists.{passes_in, protects_in}
use Rattle.rgo_sound.specs.RegionMachine.Owed.{regions_named}
use Rattle.rgo_sound.specs.RegionMachine.States.{Protect, Share}
use Rattle.rgo_sound.specs.Tac.Ops.{operation_of}
use Rattle.rgo_body.proofs.Creating.{IsPlain, call_duties, go_duties, plain_duties, queued_by}
use Rattle.rgo_body.proofs.duties.enqueue.Goals as goal

pub returns-in-Ok-clause-queued : goal.returns-in-Ok-clause-queued
returns-in-Ok-clause-queued c instr at op = queued_by instr _ c.creates-creates.result.now _ _ _ c.args.queue.now.duties at c.creates-creates.ensures
    c.put_all-in-Call.ensures.put (c.put_all.ensures.put ∙ ap (λ l. map Protect c.protects-protects.result.now ++ l) c.reserve_both.ensures.same)
    (call_duties instr.op c.in-Call.to c.in-Call.function c.in-Call.from.now (op ∙ ap operation_of c.in-Call.is)
    ∙ ap (map Protect) (sym (c.protects-protects.ensures ∙ ap protects_in at)))

pub returns-in-Ok-reserve_both-clause-queued : goal.returns-in-Ok-reserve_both-clause-queued
returns-in-Ok-reserve_both-clause-queued c instr at op = queued_by instr _ c.creates-creates.result.now _ _ _ c.args.queue.now.duties at
    c.creates-creates.ensures c.put_all-in-Go.ensures.put
    (c.put_shares.ensures.put ∙ ap (λ l. map Share (regions_named c.passes-passes.result.now) ++ l) c.reserve_both-in-Go.ensures.same)
    (go_duties instr.op c.in-Go.function c.in-Go.from.now (op ∙ ap operation_of c.in-Go.is)
    ∙ ap (λ l. map Share (regions_named l)) (sym (c.passes-passes.ensures ∙ ap passes_in at)))

pub returns-in-Ok-reserve-clause-queued : goal.returns-in-Ok-reserve-clause-queued
returns-in-Ok-reserve-clause-queued c instr at op =
    let plain : IsPlain (operation_of c.args.next.now.op) = elim c.in-Do.is [
      | inl d ↦ subst IsPlain (sym (ap operation_of d.3)) tt
      | inr l ↦ elim l [
        | inl d ↦ subst IsPlain (sym (ap operation_of d.2)) tt
        | inr l ↦ elim l [
          | inl d ↦ subst IsPlain (sym (ap operation_of d.1)) tt
          | inr l ↦ elim l [
            | inl d ↦ subst IsPlain (sym (ap operation_of d.3)) tt
            | inr d ↦ subst IsPlain (sym (ap operation_of d.1)) tt
          ]
        ]
      ]
    ] in
    queued_by instr _ c.creates-creates.result.now [] _ _ c.args.queue.now.duties at c.creates-creates.ensures
    c.put_all-in-Do.ensures.put c.reserve.ensures.same (plain_duties instr.op (operation_of c.args.next.now.op) op plain)
