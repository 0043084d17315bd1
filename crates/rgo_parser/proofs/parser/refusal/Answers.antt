use Rattle.std.proofs.Common.{◌≤◌, sym, arith}
use Rattle.rgo_parser.proofs.Cuts.{cut_syntax, cut_program, deep_within}
use Rattle.rgo_parser.proofs.parser.refusal.Goals as goal

pub prove-unreachable-requires : goal.prove-unreachable-requires
prove-unreachable-requires c =
    let h = deep_within c.args.lexemes.now c.args.deep (sym c.requires) in
    omega (arith, h)

pub returns-in_default : goal.returns-in_default
returns-in_default c =
    let program = rw c.in_default.is at c.in_ok-read.ensures in
    cut_program c.args.lexemes.now c.args.deep _ _ (sym c.requires) program

pub returns : goal.returns
returns c =
    let bad = rw c.in-Err.is at c.in_ok-read.ensures in
    let within : c.in-Err.at ≤ c.args.deep = omega arith in
    cut_syntax c.args.lexemes.now c.in-Err.at c.args.deep (sym c.requires) within bad
