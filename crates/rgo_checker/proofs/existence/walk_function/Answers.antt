use Rattle.std.proofs.Common.{◌∙◌, ◌∷◌, ◌++◌, [], take, ap, subst}
use Rattle.rgo_checker.specs.Naming.{AddsToNames, SetHasNames, fn_names}
use Rattle.rgo_checker.specs.Tests.{head_exists}
use Rattle.rgo_checker.proofs.walks.ExistenceWalk.{head_walked}
use Rattle.rgo_checker.proofs.walks.WalkLaws.{fn_walked}
use Rattle.rgo_checker.proofs.existence.walk_function.Goals as goal

pub returns-clause-names : goal.returns-clause-names
returns-clause-names c = λ seen h.
    subst (λ name. SetHasNames c.pass_name.new.names (seen ++ name ∷ []))
    (c.bytes.ensures ∙ c.name.ensures ∙ ap (λ x. x.name) c.tac-function.ensures)
    (c.in_ok-pass_name.ensures.1.names seen h)

pub returns-clause-walks : goal.returns-clause-walks
returns-clause-walks c = λ n here h.
    let code = c.args.code.now in
    let s = c.args.scan.now in
    let passes = c.in_ok-pass_name.ensures in
    let added =
    subst (λ name. AddsToNames c.args.names.now name passes.0 c.pass_name.new.names)
    (c.bytes.ensures ∙ c.name.ensures ∙ ap (λ x. x.name) c.tac-function.ensures) passes.1 in
    fn_walked code 1 2 n c.args.f.now s c.pass_name.new.scan c.walk_slots.new.scan c.walk_entry.new.scan
    c.walk_body.new.scan c.walk_end.new.scan
    (head_walked code s c.pass_name.new.scan n c.args.f.now here passes.0 c.head_exists-exists.result
    (added.is_new (take n (fn_names code)) h)
    (c.head_exists-exists.ensures ∙ (λ j. head_exists (c.tac.ensures j) (c.tac-function.ensures j))) passes.2)
    (c.walk_slots.ensures n here) (c.walk_entry.ensures n) (c.walk_body.ensures n here) (c.walk_end.ensures n here)
