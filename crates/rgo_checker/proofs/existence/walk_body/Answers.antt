use Rattle.std.proofs.Common.{◌≡◌, ◌∙◌, length, ap, subst, arith}
use Rattle.std.proofs.lemmas.List.{length-map}
use Rattle.rgo_code.specs.declared.rules.Line.TheVariants.{Instr as InstrLine}
use Rattle.rgo_code.specs.Erasure.{erased_instr}
use Rattle.rgo_checker.specs.Lines.{first_lines}
use Rattle.rgo_checker.specs.Scan.{Walks}
use Rattle.rgo_checker.proofs.walks.ExistenceWalk.{instr_walked}
use Rattle.rgo_checker.proofs.walks.Scanning.{walks_none}
use Rattle.rgo_checker.proofs.walks.WalkLaws.{walks_more}
use Rattle.rgo_checker.proofs.existence.walk_body.Goals as goal

pub loop-at-init : goal.loop-at-init
loop-at-init c = λ n here. walks_none c.args.code.now 1 2 c.args.scan.now

pub loop-at-preserved : goal.loop-at-preserved
loop-at-preserved c = λ n here.
    walks_more c.args.code.now 1 2 (InstrLine n) c.loop-at.at c.args.scan.now c.loop-at.scan c.pass_existence.new.scan
    (c.loop-at.invariant n here)
    (instr_walked c.args.code.now c.loop-at.scan c.pass_existence.new.scan n c.args.f.now here c.loop-at.at
    c.instr_is_kept-kept.result c.instr_is_kept-kept.ensures c.pass_existence.ensures)

pub returns : goal.returns
returns c = λ n here.
    let f = c.args.f.now in
    let long = c.len-at-end.ensures ∙ ap (λ x. length x.body) c.tac.ensures ∙ length-map f.body erased_instr in
    let whole : c.loop-at.at ≡ length f.body = omega (arith, long) in
    subst (λ k. Walks c.args.code.now 1 2 (first_lines (InstrLine n) k) c.args.scan.now c.loop-at.scan) whole
    (c.loop-at.invariant n here)
