use Rattle.std.proofs.Common.{◌∙◌, length, nat_lt, ap}
use Rattle.std.proofs.lemmas.List.{length-map}
use Rattle.rgo_code.specs.Erasure.{erased_instr}
use Rattle.rgo_checker.proofs.existence.has_body.Goals as goal

pub returns : goal.returns
returns c =
    ap (nat_lt 0)
    (c.len.ensures ∙ ap (λ x. length x.body) c.tac.ensures ∙ length-map c.args.f.now.body erased_instr)
