use Rattle.std.proofs.Common.{◌∙◌, ap, sym}
use Rattle.rgo_code.specs.Erasure.{erased}
use Rattle.rgo_code.proofs.Erased.{erasure_is_code}
use Rattle.rgo_code.proofs.code.Code.tac.Goals as goal

pub returns : goal.returns
returns c =
    let own = c.self.inside in
    sym (erasure_is_code own.tac own.undeclared own.regions) ∙ ap erased c.self.view_is
