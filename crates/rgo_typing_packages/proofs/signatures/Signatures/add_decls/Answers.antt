-- Declarations: the first that is refused ends the loop, and a turn passes one.
use Rattle.std.proofs.Common.{◌+◌, map, drop, refl, arith, rules}
use Rattle.rgo_ast.specs.Views.{decl_of}
use Rattle.rgo_typing_rules.specs.Checks.{Refuses}
use Rattle.rgo_typing_rules.specs.Sites.{first_refusal}
use Rattle.rgo_typing_packages.specs.Signatures.{decl_sites, decls_sites, with_decl}
use Rattle.rgo_typing_packages.specs.Views.{signatures_of}
use Rattle.rgo_typing_packages.proofs.Lists.{opened_map}
use Rattle.rgo_typing_packages.proofs.Turns.{refused, kept}
use Rattle.rgo_typing_packages.proofs.signatures.Signatures.add_decls.Goals as goal

pub returns-in_err-add_decl : goal.returns-in_err-add_decl
returns-in_err-add_decl c =
    let e = c.in_err-add_decl.field-0.0 in
    let p = c.args.top.now in
    let s = signatures_of c.loop-decl.self in
    let x = c.decl-item.result in
    let rest = map decl_of (drop (c.loop-decl.decl-index + 1) c.args.decls.now) in
    let here = opened_map decl_of c.args.decls.now c.loop-decl.decl-index x c.decl-item.is (omega arith) in
    let refuses : Refuses e (first_refusal (decls_sites p (signatures_of c.args.self.now) (map decl_of c.args.decls.now))) =
    refused c.loop-decl.invariant (decl_of x) rest here (decl_sites p s (decl_of x)) (decls_sites p (with_decl p s (decl_of x)) rest) refl e c.in_err-add_decl.ensures in
    search rules

pub loop-decl-preserved : goal.loop-decl-preserved
loop-decl-preserved c =
    let p = c.args.top.now in
    let s = signatures_of c.loop-decl.self in
    let x = c.decl-item.result in
    let rest = map decl_of (drop (c.loop-decl.decl-index + 1) c.args.decls.now) in
    let here = opened_map decl_of c.args.decls.now c.loop-decl.decl-index x c.decl-item.is (omega arith) in
    kept c.loop-decl.invariant (decl_of x) rest here (decl_sites p s (decl_of x)) (decls_sites p (with_decl p s (decl_of x)) rest) refl c.in_ok-add_decl.ensures refl refl
