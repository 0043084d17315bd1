use Rattle.std.proofs.Common.{◌∙◌, true, refl}
use Rattle.rgo_tac.specs.Ops.{operation_of}
use Rattle.rgo_checker.specs.Tests.{instr_exists, op_fits}
use Rattle.rgo_checker.proofs.Deciding.{on_ok}
use Rattle.rgo_checker.proofs.decides.InstrLaws.{exists_kept, types_kept, joins_kept, globals_kept, returns_kept, calls_kept, starts_kept, lending_kept, endings_kept, classes_kept, entry_kept}
use Rattle.rgo_checker.proofs.instructions.keeps.Goals as goal

pub returns-in-Exists : goal.returns-in-Exists
returns-in-Exists c =
    let s = c.args.site.now in
    rw c.in-Exists.is
    (exists_kept s.code.now s.f.now s.at (operation_of c.args.op) c.instr_exists.result c.requires.here
    (c.instr_exists.ensures
    ∙ (λ j. instr_exists (c.tac-program.ensures j) (c.tac-function.ensures j) s.at (operation_of c.args.op))))

pub returns-in-Types : goal.returns-in-Types
returns-in-Types c =
    let s = c.args.site.now in
    rw c.in-Types.is
    (types_kept s.code.now s.f.now s.at (operation_of c.args.op) c.op_fits.result c.requires.here
    (c.op_fits.ensures ∙ (λ j. op_fits (c.tac-program.ensures j) (c.tac-function.ensures j) (operation_of c.args.op))))

pub returns-in-Joins : goal.returns-in-Joins
returns-in-Joins c =
    let s = c.args.site.now in
    rw c.in-Joins.is
    (joins_kept s.code.now s.f.now s.at (operation_of c.args.op) c.joins_agree.result c.requires.here
    c.joins_agree.ensures)

pub returns-in-Globals : goal.returns-in-Globals
returns-in-Globals c =
    let s = c.args.site.now in
    rw c.in-Globals.is
    (globals_kept s.code.now s.f.now s.at (operation_of c.args.op) c.globals_agree.result c.requires.here
    c.globals_agree.ensures)

pub returns-in-Returns : goal.returns-in-Returns
returns-in-Returns c =
    let s = c.args.site.now in
    rw c.in-Returns.is
    (returns_kept s.code.now s.f.now s.at (operation_of c.args.op) c.return_agrees.result c.requires.here
    c.return_agrees.ensures)

pub returns-in-Calls : goal.returns-in-Calls
returns-in-Calls c =
    let s = c.args.site.now in
    rw c.in-Calls.is
    (on_ok c.calls_pass.result _ _
    (λ b d. calls_kept s.code.now s.f.now s.at (operation_of c.args.op) b c.requires.here c.passes.result.now
    c.passes.ensures d)
    c.calls_pass.ensures)

pub returns-in-Starts : goal.returns-in-Starts
returns-in-Starts c =
    let s = c.args.site.now in
    rw c.in-Starts.is
    (on_ok c.starts_pass.result _ _
    (λ b d. starts_kept s.code.now s.f.now s.at (operation_of c.args.op) b c.requires.here c.passes-in-Starts.result.now
    c.passes-in-Starts.ensures d)
    c.starts_pass.ensures)

pub returns-in-Lending : goal.returns-in-Lending
returns-in-Lending c =
    let s = c.args.site.now in
    rw c.in-Lending.is
    (lending_kept s.code.now s.f.now s.at (operation_of c.args.op) c.lends.result c.requires.here
    c.result_class.result c.creates.result.now c.removes.result.now c.otherwise.result.now c.result_class.ensures
    c.creates.ensures c.removes.ensures c.otherwise.ensures c.lends.ensures)

pub returns-in-Endings : goal.returns-in-Endings
returns-in-Endings c =
    let s = c.args.site.now in
    rw c.in-Endings.is
    (endings_kept s.code.now s.f.now s.at (operation_of c.args.op) c.ends_empty.result c.requires.here
    c.creates-in-Endings.result.now c.creates-in-Endings.ensures c.ends_empty.ensures)

pub returns-in-Classes : goal.returns-in-Classes
returns-in-Classes c =
    let s = c.args.site.now in
    rw c.in-Classes.is (classes_kept s.code.now s.f.now s.at (operation_of c.args.op) true c.requires.here refl)

pub returns-in-Entry : goal.returns-in-Entry
returns-in-Entry c =
    let s = c.args.site.now in
    rw c.in-Entry.is (entry_kept s.code.now s.f.now s.at (operation_of c.args.op) true c.requires.here refl)
