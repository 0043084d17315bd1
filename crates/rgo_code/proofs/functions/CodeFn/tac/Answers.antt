use Rattle.std.proofs.Common.{◌∙◌, ap, sym}
use Rattle.rgo_code.specs.Erasure.{erased_fn}
use Rattle.rgo_code.proofs.Erased.{fn_erased}
use Rattle.rgo_code.proofs.functions.CodeFn.tac.Goals as goal

pub returns : goal.returns
returns c =
    let own = c.self.inside in
    sym (fn_erased own.tac.now own.regions.now) ∙ ap erased_fn c.self.view_is
