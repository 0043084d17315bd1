use Rattle.std.proofs.Common.{refl, sym, ap, ◌∙◌, subst, slice_get}
use Rattle.std.specs.List.Sorted.{IsStrictlyIncreasing}
use Rattle.rgo_region_machine.specs.Owed.{code_function}
use Rattle.rgo_region_interpreter.specs.Holders.{newest_frame_names}
use Rattle.rgo_region_interpreter.proofs.owing.Attending.{found}
use Rattle.rgo_region_interpreter.proofs.passing.Lists.{unbinds_since}
use Rattle.rgo_region_interpreter.proofs.passing.Entering.{called_so, entered_at, formals_found, protects_rise}
use Rattle.rgo_region_interpreter.proofs.worlds.World.enter.Goals as goal

pub returns-clause-entered : goal.returns-clause-entered
returns-clause-entered c =
    let w = c.args.self.now in
    let next = c.args.next.now in
    let item = c.in-Some.ensures.item in
    let function = code_function w.code.now c.args.callee in
    let instr = slice_get next.function.body next.at in
    entered_at w _ c.args.g function instr c.in-Some.holder.now c.enter.new.self
    (found w.holders.items c.args.g c.in-Some.holder.now item.3.0 item.1) refl refl
    (called_so c.in-Some.holder.now c.leave_given.new.holder c.enter.new.self function instr c.names.result.now
    c.fill.new.names.items c.result_class.result c.formals_at-formals.result.now c.passes-passes.result.now
    c.protects.result.now
    (c.formals_at-formals.ensures
    ∙ formals_found w c.deref.result.now c.args.callee c.deref.ensures.value c.requires.prepared)
    c.result_class.ensures c.passes-passes.ensures c.protects.ensures
    (c.names.ensures ∙ ap newest_frame_names c.take_spare-names.ensures.kept.0)
    (unbinds_since c.in-Some.holder.now c.take_spare-names.new.self c.leave_given.new.holder _
    c.take_spare-names.ensures.kept
    (c.leave_given.ensures (subst IsStrictlyIncreasing (sym c.protects.ensures)
    (protects_rise w next c.requires.prepared c.requires.next))))
    c.in_ok-enter.ensures.enters c.in_ok-fill.ensures)

pub returns-clause-same : goal.returns-clause-same
returns-clause-same c = record { code = refl; sizes = refl; print = refl }

pub returns-in_default-clause-same : goal.returns-in_default-clause-same
returns-in_default-clause-same c = record { code = refl; sizes = refl; print = refl }

pub returns-in_err-fill-clause-same : goal.returns-in_err-fill-clause-same
returns-in_err-fill-clause-same c = record { code = refl; sizes = refl; print = refl }

pub returns-in_err-enter-clause-same : goal.returns-in_err-enter-clause-same
returns-in_err-enter-clause-same c = record { code = refl; sizes = refl; print = refl }
