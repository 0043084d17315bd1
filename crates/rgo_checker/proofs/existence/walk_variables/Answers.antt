use Rattle.std.proofs.Common.{◌≡◌, ◌∙◌, List, Some, length, map, take, slice_get, refl, ap, subst, arith}
use Rattle.std.proofs.lemmas.Option.{slice_get_read, slice_get-map}
use Rattle.std.specs.Option.{option_map}
use Rattle.rgo_typed.specs.declared.programs.Variable.{Variable}
use Rattle.rgo_code.specs.declared.rules.Line.TheVariants.{Variable as VariableLine}
use Rattle.rgo_checker.specs.Lines.{first_lines}
use Rattle.rgo_checker.specs.Naming.{AddsToNames}
use Rattle.rgo_checker.specs.Scan.{Walks}
use Rattle.rgo_checker.specs.Tests.{type_exists}
use Rattle.rgo_checker.proofs.walks.ExistenceWalk.{variable_walked}
use Rattle.rgo_checker.proofs.decides.NamingLaws.{no_names, names_next}
use Rattle.rgo_checker.proofs.walks.Scanning.{walks_none}
use Rattle.rgo_checker.proofs.walks.WalkLaws.{walks_more}
use Rattle.rgo_checker.proofs.existence.walk_variables.Goals as goal

pub loop-n-init : goal.loop-n-init
loop-n-init c = record {
  names = no_names c.new-names.result c.new-names.ensures.empty;
  walks = walks_none c.args.code.now 1 2 c.args.scan.now;
}

pub loop-n-preserved : goal.loop-n-preserved
loop-n-preserved c =
    let code = c.args.code.now in
    let n = c.loop-n.n in
    let found = c.variables-variables.result.now in
    let same = c.variables-variables.ensures ∙ ap (λ x. x.variables) c.tac-program.ensures in
    let x = c.index-variables-n.result in
    let here = subst (λ (xs : List Variable). slice_get xs n ≡ Some x) same
    (slice_get_read found (length found) n x refl (omega arith) c.index-variables-n.is) in
    let seen = take n (map (λ y. y.name) code.variables) in
    let passes = c.in_ok-pass_name.ensures in
    let added =
    subst (λ name. AddsToNames c.loop-n.names name passes.0 c.pass_name.new.names) c.bytes.ensures passes.1 in
    record {
      names =
          names_next (map (λ y. y.name) code.variables) n x.name
          (slice_get-map (λ y. y.name) code.variables n ∙ ap (option_map (λ y. y.name)) here) c.pass_name.new.names
          (added.names seen c.loop-n.invariant.names);
      walks =
          walks_more code 1 2 VariableLine n c.args.scan.now c.loop-n.scan c.pass_name.new.scan c.loop-n.invariant.walks
          (variable_walked code c.loop-n.scan c.pass_name.new.scan n x here passes.0 c.type_exists-exists.result
          (added.is_new seen c.loop-n.invariant.names)
          (c.type_exists-exists.ensures ∙ ap (λ p. type_exists p x.ty) c.tac-program.ensures) passes.2);
    }

pub returns : goal.returns
returns c =
    let long =
    ap (λ (xs : List Variable). length xs) (c.variables-variables.ensures ∙ ap (λ x. x.variables) c.tac-program.ensures) in
    let whole : c.loop-n.n ≡ length c.args.code.now.variables = omega (arith, long) in
    subst (λ k. Walks c.args.code.now 1 2 (first_lines VariableLine k) c.args.scan.now c.loop-n.scan) whole
    c.loop-n.invariant.walks
