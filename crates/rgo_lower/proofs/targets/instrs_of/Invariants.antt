use Rattle.std.proofs.Common.{◌≡◌, ◌++◌, map, drop}
use Rattle.rgo_lower.specs.declared.builder.Line.{Line}
use Rattle.rgo_lower.specs.Emitted.{leads_by, resolved_instr}
use Rattle.rgo_lower.proofs.targets.instrs_of.Given as goal

abbrev pub invariant-loop-line : goal.invariant-loop-line
invariant-loop-line l =
    l.instrs.items ++ map (λ (x : Line). resolved_instr (leads_by l.labels) x.instr) (drop l.line-index l.lines)
    ≡ map (λ (x : Line). resolved_instr (leads_by l.labels) x.instr) l.lines
