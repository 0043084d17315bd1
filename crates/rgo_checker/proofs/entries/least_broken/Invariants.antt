use Rattle.std.proofs.Common.{◌<◌, ◌≤◌}
use Rattle.rgo_code.specs.declared.rules.Rule.{Rule}
use Rattle.rgo_code.specs.Checked.{rule_number}
use Rattle.rgo_checker.specs.Instrs.{EntryKept}
use Rattle.rgo_checker.proofs.entries.least_broken.Given as goal

abbrev pub invariant-loop-number : goal.invariant-loop-number
invariant-loop-number l =
    (rule : Rule) → 2 ≤ rule_number rule → rule_number rule < l.number → EntryKept l.f rule
