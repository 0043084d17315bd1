-- Bodies: the first that is refused ends the loop, and a turn passes one.
use Rattle.std.proofs.Common.{◌+◌, ◌++◌, ◌∙◌, drop, map, ap, sym, subst, arith, rules}
use Rattle.std.proofs.lemmas.List.{append_assoc}
use Rattle.rgo_ast.specs.Views.{decl_of}
use Rattle.rgo_typed.specs.Views.{typed_function_of}
use Rattle.rgo_typing_rules.specs.Checks.{Refuses}
use Rattle.rgo_typing_rules.specs.Sites.{first_refusal}
use Rattle.rgo_typing_rules.proofs.Refusals.{refuses_first, none_first}
use Rattle.rgo_types.specs.Programs.{decl_body_sites, bodies_sites, typed_decl, typed_functions}
use Rattle.rgo_typing_packages.proofs.Lists.{opened_map}
use Rattle.rgo_types.proofs.bodies.check_bodies.Goals as goal

pub returns-in_err-check_decl-clause-checked : goal.returns-in_err-check_decl-clause-checked
returns-in_err-check_decl-clause-checked c =
    let e = c.in_err-check_decl.field-0.0 in
    let p = c.args.top.now in
    let d = decl_of c.decl-item.result in
    let rest = map decl_of (drop (c.loop-decl.decl-index + 1) c.args.decls.now) in
    let here = opened_map decl_of c.args.decls.now c.loop-decl.decl-index c.decl-item.result c.decl-item.is (omega arith) in
    let refuses : Refuses e (first_refusal (bodies_sites p (map decl_of c.args.decls.now))) =
    subst (Refuses e) c.loop-decl.invariant.0
    (subst (λ l. Refuses e (first_refusal (bodies_sites p l))) (sym here)
    (refuses_first e (decl_body_sites p d) (bodies_sites p rest) c.in_err-check_decl.ensures.checked)) in
    search rules

pub loop-decl-preserved : goal.loop-decl-preserved
loop-decl-preserved c =
    let p = c.args.top.now in
    let o = map typed_function_of c.loop-decl.functions.items in
    let d = decl_of c.decl-item.result in
    let rest = map decl_of (drop (c.loop-decl.decl-index + 1) c.args.decls.now) in
    let here = opened_map decl_of c.args.decls.now c.loop-decl.decl-index c.decl-item.result c.decl-item.is (omega arith) in
    rw c.in_ok-check_decl.ensures.typed (
      sym (none_first (decl_body_sites p d) (bodies_sites p rest) c.in_ok-check_decl.ensures.checked)
          ∙ ap (λ l. first_refusal (bodies_sites p l)) (sym here) ∙ c.loop-decl.invariant.0,
      append_assoc o (typed_decl p d) (typed_functions p rest)
          ∙ ap (λ l. o ++ typed_functions p l) (sym here) ∙ c.loop-decl.invariant.1,
    )
