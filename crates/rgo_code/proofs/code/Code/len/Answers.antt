use Rattle.std.proofs.Common.{◌∙◌, ap, sym, length}
use Rattle.rgo_code.proofs.Parts.{functions_long}
use Rattle.rgo_code.proofs.code.Code.len.Goals as goal

pub returns : goal.returns
returns c =
    let own = c.self.inside in
    ap length c.functions.ensures ∙ sym (functions_long own.tac.functions own.regions)
    ∙ ap (λ code. length code.functions) c.self.view_is
