use Rattle.std.proofs.Common.{Some, ap, subst, ◌∙◌, ⊎_elim, length}
use Rattle.std.proofs.lemmas.Result.{err_from_is_err_and}
use Rattle.rgo_code.specs.Lists.{creates_in, passes_in, protects_in}
use Rattle.rgo_region_machine.specs.Owed.{regions_named}
use Rattle.rgo_tac.specs.Ops.{operation_of}
use Rattle.rgo_region_interpreter.specs.Attending.{CreatesAll, FailsToCreate, ProtectsAll, SharesAll}
use Rattle.rgo_region_interpreter.proofs.owing.Preparing.{IsSilent, falls, prepares_call, prepares_silent, prepares_start}
use Rattle.rgo_region_interpreter.proofs.worlds.World.prepare.Goals as goal

pub returns-in_err-create_all : goal.returns-in_err-create_all
returns-in_err-create_all c =
    let at = c.requires.next in
    let p = err_from_is_err_and c.from_residual.result c.from_residual.ensures.1 in
    let names = c.creates-creates.ensures ∙ ap creates_in at.is.is_instr in
    record {
      readied = rw (p.1, p.2)
          (falls c.in_err-create_all.field-0.0 c.args.self.now c.create_all.new.self c.args.g c.args.next.now at
          (subst (FailsToCreate c.in_err-create_all.field-0.0 c.args.self.now c.create_all.new.self c.args.g) names
          c.in_err-create_all.ensures.created));
    }

pub returns-in_ok-protect_all-in-Call : goal.returns-in_ok-protect_all-in-Call
returns-in_ok-protect_all-in-Call c =
    let at = c.requires.next in
    let w = c.args.self.now in
    let v = c.create_all.new.self in
    let u = c.protect_all.new.self in
    let names = c.creates-creates.ensures ∙ ap creates_in at.is.is_instr in
    let protects = c.protects.ensures ∙ ap protects_in at.is.is_instr in
    record {
      readied = λ s between.
          prepares_call w v c.args.g c.args.next.now at (subst (CreatesAll w v c.args.g) names c.in_ok-create_all.ensures.created)
          s between u c.in-Call.to c.in-Call.function c.in-Call.from.now (ap operation_of c.in-Call.is)
          (subst (λ l. ProtectsAll v u c.args.g (length l) (protects_in (Some at.is.instr))) names
          (subst (ProtectsAll v u c.args.g (length c.creates-creates.result.now)) protects
          c.in_ok-protect_all-in-Call.ensures.protected));
    }

pub returns-in_ok-share_all-in-Go : goal.returns-in_ok-share_all-in-Go
returns-in_ok-share_all-in-Go c =
    let at = c.requires.next in
    let w = c.args.self.now in
    let v = c.create_all.new.self in
    let u = c.share_all.new.self in
    let names = c.creates-creates.ensures ∙ ap creates_in at.is.is_instr in
    let passes = c.passes.ensures ∙ ap passes_in at.is.is_instr in
    record {
      readied = λ s between.
          prepares_start w v c.args.g c.args.next.now at
          (subst (CreatesAll w v c.args.g) names c.in_ok-create_all.ensures.created) s between u c.in-Go.function
          c.in-Go.from.now (ap operation_of c.in-Go.is)
          (subst (λ l. SharesAll v u c.args.g (length l) (regions_named (passes_in (Some at.is.instr)))) names
          (subst (λ l. SharesAll v u c.args.g (length c.creates-creates.result.now) (regions_named l)) passes
          c.in_ok-share_all-in-Go.ensures.shared));
    }

pub returns-in-Do : goal.returns-in-Do
returns-in-Do c =
    let at = c.requires.next in
    let w = c.args.self.now in
    let v = c.create_all.new.self in
    let names = c.creates-creates.ensures ∙ ap creates_in at.is.is_instr in
    let silent : IsSilent (operation_of c.args.next.now.op) = ⊎_elim (λ e. rw e.3 tt) (λ r. ⊎_elim (λ e. rw e.2 tt)
    (λ r. ⊎_elim (λ e. rw e.1 tt) (λ r. ⊎_elim (λ e. rw e.3 tt) (λ e. rw e.1 tt) r) r) r) c.in-Do.is in
    record {
      readied = λ s between.
          prepares_silent w v c.args.g c.args.next.now at
          (subst (CreatesAll w v c.args.g) names c.in_ok-create_all.ensures.created) s between
          silent;
    }
