-- Package variables: the first declaration that is refused ends the loop, and a turn passes one.
use Rattle.std.proofs.Common.{◌+◌, map, drop, refl, arith, rules}
use Rattle.rgo_ast.specs.Views.{binding_of}
use Rattle.rgo_typing_rules.specs.Checks.{Refuses}
use Rattle.rgo_typing_rules.specs.Sites.{first_refusal}
use Rattle.rgo_typing_packages.specs.Signatures.{binding_sites, vars_sites, with_binding}
use Rattle.rgo_typing_packages.specs.Views.{signatures_of}
use Rattle.rgo_typing_packages.proofs.Lists.{opened_map}
use Rattle.rgo_typing_packages.proofs.Turns.{refused, kept}
use Rattle.rgo_typing_packages.proofs.signatures.Signatures.add_bindings.Goals as goal

pub returns-in_err-add_binding : goal.returns-in_err-add_binding
returns-in_err-add_binding c =
    let e = c.in_err-add_binding.field-0.0 in
    let p = c.args.top.now in
    let s = signatures_of c.loop-binding.self in
    let x = c.binding-item.result in
    let rest = map binding_of (drop (c.loop-binding.binding-index + 1) c.args.vars.now) in
    let here = opened_map binding_of c.args.vars.now c.loop-binding.binding-index x c.binding-item.is (omega arith) in
    let refuses : Refuses e (first_refusal (vars_sites p (signatures_of c.args.self.now) (map binding_of c.args.vars.now))) =
    refused c.loop-binding.invariant (binding_of x) rest here (binding_sites p s (binding_of x)) (vars_sites p (with_binding p s (binding_of x)) rest) refl e c.in_err-add_binding.ensures in
    search rules

pub loop-binding-preserved : goal.loop-binding-preserved
loop-binding-preserved c =
    let p = c.args.top.now in
    let s = signatures_of c.loop-binding.self in
    let x = c.binding-item.result in
    let rest = map binding_of (drop (c.loop-binding.binding-index + 1) c.args.vars.now) in
    let here = opened_map binding_of c.args.vars.now c.loop-binding.binding-index x c.binding-item.is (omega arith) in
    kept c.loop-binding.invariant (binding_of x) rest here (binding_sites p s (binding_of x)) (vars_sites p (with_binding p s (binding_of x)) rest) refl c.in_ok-add_binding.ensures refl refl
