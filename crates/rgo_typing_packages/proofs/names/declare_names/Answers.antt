-- Names: the first that is refused ends the loop, and a turn passes one.
use Rattle.std.proofs.Common.{◌+◌, [], ◌∷◌, drop, refl, arith, rules}
use Rattle.rgo_typing_rules.specs.Checks.{Refuses}
use Rattle.rgo_typing_rules.specs.Sites.{first_refusal}
use Rattle.rgo_typing_rules.specs.Views.{type_of_kind}
use Rattle.rgo_typing_expressions.specs.Scopes.{with_local}
use Rattle.rgo_typing_packages.specs.Names.{name_site, name_sites}
use Rattle.rgo_typing_packages.proofs.Lists.{opened}
use Rattle.rgo_typing_packages.proofs.Turns.{refused, kept}
use Rattle.rgo_typing_packages.proofs.names.declare_names.Goals as goal

pub returns-in_err-declare_name : goal.returns-in_err-declare_name
returns-in_err-declare_name c =
    let e = c.in_err-declare_name.field-0.0 in
    let k = type_of_kind c.args.kind in
    let g = c.loop-x.scope in
    let x = c.x-item.result in
    let rest = drop (c.loop-x.x-index + 1) c.args.names.now in
    let here = opened c.args.names.now c.loop-x.x-index x c.x-item.is (omega arith) in
    let refuses : Refuses e (first_refusal (name_sites k c.args.scope.now c.args.names.now)) =
    refused c.loop-x.invariant x rest here (name_site g x ∷ []) (name_sites k (with_local x.name k g) rest) refl e c.in_err-declare_name.ensures in
    search rules

pub loop-x-preserved : goal.loop-x-preserved
loop-x-preserved c =
    let k = type_of_kind c.args.kind in
    let g = c.loop-x.scope in
    let x = c.x-item.result in
    let rest = drop (c.loop-x.x-index + 1) c.args.names.now in
    let here = opened c.args.names.now c.loop-x.x-index x c.x-item.is (omega arith) in
    kept c.loop-x.invariant x rest here (name_site g x ∷ []) (name_sites k (with_local x.name k g) rest) refl c.in_ok-declare_name.ensures refl refl
