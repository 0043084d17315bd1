use Rattle.std.proofs.Common.{subst, sym}
use Rattle.std.proofs.lemmas.Result.{IfOk-weaker}
use Rattle.rgo_sound.specs.Code.Checked.{IsChecked}
use Rattle.rgo_sound.specs.Code.NameRules.{Ascends}
use Rattle.rgo_core_frames.specs.shown.Constants.{ConstantsFit}
use Rattle.rgo_core.specs.Core.{IsPossible}
use Rattle.rgo_core.specs.runs.Opening.{first_of}
use Rattle.rgo_core.specs.runs.Plans.{setup_of}
use Rattle.rgo_core.specs.declared.table.Plan.{Plan}
use Rattle.rgo_core.proofs.runs.Opening.{opens_by}
use Rattle.rgo_core.proofs.runs.Possible.{opens_possible}
use Rattle.rgo_core.proofs.table.open.Goals as goal

pub open-requires-clause-explains : goal.open-requires-clause-explains
open-requires-clause-explains c =
    opens_by (setup_of (record { code = c.of.result; sizes = c.args.sizes; limits = c.args.limits })) c.args.code.now c.of.ensures
    (subst IsChecked c.code.ensures.code c.code.ensures.checked) (subst Ascends c.code.ensures.code c.ascends.ensures)
    (subst ConstantsFit c.code-2.ensures.code c.constants_fit.ensures)
    c.requires.goroutines

pub returns-clause-possible : goal.returns-clause-possible
returns-clause-possible c =
    let plan : Plan = record { code = c.of.result; sizes = c.args.sizes; limits = c.args.limits } in
    let core = opens_by (setup_of plan) c.args.code.now c.of.ensures
    (subst IsChecked c.code.ensures.code c.code.ensures.checked) (subst Ascends c.code.ensures.code c.ascends.ensures)
    (subst ConstantsFit c.code-2.ensures.code c.constants_fit.ensures) c.requires.goroutines in
    let p = subst (λ code. IsPossible (setup_of plan) 0 (first_of code)) c.of.ensures (opens_possible (setup_of plan) core) in
    IfOk-weaker c.open.result _ _ (λ t e. subst (λ key. IsPossible (setup_of key) 0 (first_of c.args.code.now)) (sym e.2) p) c.open.ensures.table
