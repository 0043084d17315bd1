-- Structs: the first that is refused ends the loop, and a turn passes one.
use Rattle.std.proofs.Common.{◌+◌, map, drop, refl, arith, rules}
use Rattle.rgo_ast.specs.Views.{type_spec_of}
use Rattle.rgo_typing_rules.specs.Checks.{Refuses}
use Rattle.rgo_typing_rules.specs.Sites.{first_refusal}
use Rattle.rgo_typing_packages.specs.Signatures.{struct_sites, structs_sites, with_struct}
use Rattle.rgo_typing_packages.specs.Views.{signatures_of}
use Rattle.rgo_typing_packages.proofs.Lists.{opened_map}
use Rattle.rgo_typing_packages.proofs.Turns.{refused, kept}
use Rattle.rgo_typing_packages.proofs.signatures.Signatures.add_structs.Goals as goal

pub returns-in_err-add_struct : goal.returns-in_err-add_struct
returns-in_err-add_struct c =
    let e = c.in_err-add_struct.field-0.0 in
    let p = c.args.top.now in
    let s = signatures_of c.loop-declared.self in
    let x = c.declared-item.result in
    let rest = map type_spec_of (drop (c.loop-declared.declared-index + 1) c.args.types.now) in
    let here = opened_map type_spec_of c.args.types.now c.loop-declared.declared-index x c.declared-item.is (omega arith) in
    let refuses : Refuses e (first_refusal (structs_sites p (signatures_of c.args.self.now) (map type_spec_of c.args.types.now))) =
    refused c.loop-declared.invariant (type_spec_of x) rest here (struct_sites p s (type_spec_of x)) (structs_sites p (with_struct p s (type_spec_of x)) rest) refl e c.in_err-add_struct.ensures in
    search rules

pub loop-declared-preserved : goal.loop-declared-preserved
loop-declared-preserved c =
    let p = c.args.top.now in
    let s = signatures_of c.loop-declared.self in
    let x = c.declared-item.result in
    let rest = map type_spec_of (drop (c.loop-declared.declared-index + 1) c.args.types.now) in
    let here = opened_map type_spec_of c.args.types.now c.loop-declared.declared-index x c.declared-item.is (omega arith) in
    kept c.loop-declared.invariant (type_spec_of x) rest here (struct_sites p s (type_spec_of x)) (structs_sites p (with_struct p s (type_spec_of x)) rest) refl c.in_ok-add_struct.ensures refl refl
