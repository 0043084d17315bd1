use Rattle.std.proofs.Common.{◌≡◌, ◌∙◌, length, ap, subst, arith}
use Rattle.std.proofs.lemmas.List.{length-map}
use Rattle.rgo_code.specs.declared.rules.Line.TheVariants.{Instr as InstrLine}
use Rattle.rgo_code.specs.Erasure.{erased_instr}
use Rattle.rgo_checker.specs.Lines.{first_lines}
use Rattle.rgo_checker.specs.Scan.{Walks}
use Rattle.rgo_checker.proofs.walks.Scanning.{walks_none}
use Rattle.rgo_checker.proofs.walks.WalkLaws.{walks_more}
use Rattle.rgo_checker.proofs.walking.walk_body.Goals as goal

pub loop-at-init : goal.loop-at-init
loop-at-init c = λ n here. walks_none c.args.code.now 2 15 c.args.scan.now

pub loop-at-preserved : goal.loop-at-preserved
loop-at-preserved c = λ n here.
    walks_more c.args.code.now 2 15 (InstrLine n) c.loop-at.at c.args.scan.now c.loop-at.scan c.walk_instr.new.scan
    (c.loop-at.invariant n here) (c.in_ok-walk_instr.ensures n here)

pub returns : goal.returns
returns c = λ n here.
    let f = c.args.f.now in
    let long = c.len-at-end.ensures ∙ ap (λ x. length x.body) c.tac.ensures ∙ length-map f.body erased_instr in
    let whole : c.loop-at.at ≡ length f.body = omega (arith, long) in
    subst (λ k. Walks c.args.code.now 2 15 (first_lines (InstrLine n) k) c.args.scan.now c.loop-at.scan) whole
    (c.loop-at.invariant n here)
