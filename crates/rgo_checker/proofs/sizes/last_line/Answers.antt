use Rattle.std.proofs.Common.{◌≡◌, ◌∙◌, List, length, ap, arith}
use Rattle.rgo_tac.specs.Code.{TacFn}
use Rattle.rgo_code.specs.Lines.{lines_before}
use Rattle.rgo_checker.specs.Sizes.{functions_lines}
use Rattle.rgo_checker.proofs.walks.Counting.{erased_lines}
use Rattle.rgo_checker.proofs.sizes.last_line.Goals as goal

pub returns : goal.returns
returns c =
    let code = c.args.code.now in
    let lines : functions_lines c.functions.result.now ≡ lines_before code.functions (length code.functions) =
    ap (λ (fs : List TacFn). functions_lines fs) (c.functions.ensures ∙ ap (λ x. x.functions) c.tac.ensures)
    ∙ erased_lines code.functions in
    omega (arith, lines, c.functions_lines-lines.ensures, c.first_line.ensures, c.saturating_add.ensures)
