-- Fields and parameters: the first that is refused ends the loop, and a turn passes one declaration.
use Rattle.std.proofs.Common.{◌+◌, map, drop, refl, arith, rules}
use Rattle.rgo_ast.specs.Views.{binding_of}
use Rattle.rgo_typing_rules.specs.Checks.{Refuses}
use Rattle.rgo_typing_rules.specs.Sites.{first_refusal}
use Rattle.rgo_typing_packages.specs.Names.{binding_sites, bindings_sites, with_binding}
use Rattle.rgo_typing_packages.proofs.Lists.{opened_map}
use Rattle.rgo_typing_packages.proofs.Turns.{refused, kept}
use Rattle.rgo_typing_packages.proofs.names.declare_bindings.Goals as goal

pub returns-in_err-declare_binding : goal.returns-in_err-declare_binding
returns-in_err-declare_binding c =
    let e = c.in_err-declare_binding.field-0.0 in
    let p = c.args.top.now in
    let g = c.loop-binding.scope in
    let x = c.binding-item.result in
    let rest = map binding_of (drop (c.loop-binding.binding-index + 1) c.args.bindings.now) in
    let here = opened_map binding_of c.args.bindings.now c.loop-binding.binding-index x c.binding-item.is (omega arith) in
    let refuses : Refuses e (first_refusal (bindings_sites p c.args.scope.now (map binding_of c.args.bindings.now))) =
    refused c.loop-binding.invariant (binding_of x) rest here (binding_sites p g (binding_of x)) (bindings_sites p (with_binding p g (binding_of x)) rest) refl e c.in_err-declare_binding.ensures in
    search rules

pub loop-binding-preserved : goal.loop-binding-preserved
loop-binding-preserved c =
    let p = c.args.top.now in
    let g = c.loop-binding.scope in
    let x = c.binding-item.result in
    let rest = map binding_of (drop (c.loop-binding.binding-index + 1) c.args.bindings.now) in
    let here = opened_map binding_of c.args.bindings.now c.loop-binding.binding-index x c.binding-item.is (omega arith) in
    kept c.loop-binding.invariant (binding_of x) rest here (binding_sites p g (binding_of x)) (bindings_sites p (with_binding p g (binding_of x)) rest) refl c.in_ok-declare_binding.ensures refl refl
