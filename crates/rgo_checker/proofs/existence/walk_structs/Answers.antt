use Rattle.std.proofs.Common.{◌≡◌, ◌∙◌, List, Some, length, map, take, slice_get, refl, ap, subst, arith}
use Rattle.std.proofs.lemmas.Option.{slice_get_read, slice_get-map}
use Rattle.std.specs.Option.{option_map}
use Rattle.rgo_typed.specs.declared.programs.Struct.{Struct}
use Rattle.rgo_code.specs.declared.rules.Line.TheVariants.{Struct as StructLine}
use Rattle.rgo_checker.specs.Lines.{first_lines}
use Rattle.rgo_checker.specs.Naming.{AddsToNames}
use Rattle.rgo_checker.specs.Scan.{Walks}
use Rattle.rgo_checker.specs.Tests.{types_exist}
use Rattle.rgo_checker.proofs.walks.ExistenceWalk.{struct_walked}
use Rattle.rgo_checker.proofs.decides.NamingLaws.{no_names, names_next}
use Rattle.rgo_checker.proofs.walks.Scanning.{walks_none}
use Rattle.rgo_checker.proofs.walks.WalkLaws.{walks_more}
use Rattle.rgo_checker.proofs.existence.walk_structs.Goals as goal

pub loop-n-init : goal.loop-n-init
loop-n-init c = record {
  names = no_names c.new-names.result c.new-names.ensures.empty;
  walks = walks_none c.args.code.now 1 2 c.args.scan.now;
}

pub loop-n-preserved : goal.loop-n-preserved
loop-n-preserved c =
    let code = c.args.code.now in
    let n = c.loop-n.n in
    let found = c.structs-structs.result.now in
    let same = c.structs-structs.ensures ∙ ap (λ x. x.structs) c.tac-program.ensures in
    let x = c.index-structs-n.result in
    let here = subst (λ (xs : List Struct). slice_get xs n ≡ Some x) same
    (slice_get_read found (length found) n x refl (omega arith) c.index-structs-n.is) in
    let seen = take n (map (λ y. y.name) code.structs) in
    let passes = c.in_ok-pass_name.ensures in
    let added =
    subst (λ name. AddsToNames c.loop-n.names name passes.0 c.pass_name.new.names) c.bytes.ensures passes.1 in
    record {
      names =
          names_next (map (λ y. y.name) code.structs) n x.name
          (slice_get-map (λ y. y.name) code.structs n ∙ ap (option_map (λ y. y.name)) here) c.pass_name.new.names
          (added.names seen c.loop-n.invariant.names);
      walks =
          walks_more code 1 2 StructLine n c.args.scan.now c.loop-n.scan c.pass_name.new.scan c.loop-n.invariant.walks
          (struct_walked code c.loop-n.scan c.pass_name.new.scan n x here passes.0 c.types_exist-exist.result
          (added.is_new seen c.loop-n.invariant.names)
          (c.types_exist-exist.ensures ∙ (λ j. types_exist (c.tac-program.ensures j) (c.items.ensures j))) passes.2);
    }

pub returns : goal.returns
returns c =
    let long = ap (λ (xs : List Struct). length xs) (c.structs-structs.ensures ∙ ap (λ x. x.structs) c.tac-program.ensures) in
    let whole : c.loop-n.n ≡ length c.args.code.now.structs = omega (arith, long) in
    subst (λ k. Walks c.args.code.now 1 2 (first_lines StructLine k) c.args.scan.now c.loop-n.scan) whole
    c.loop-n.invariant.walks
