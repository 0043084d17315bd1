-- Imports: the first that is refused ends the loop, and a turn passes those of one declaration.
use Rattle.std.proofs.Common.{◌≡◌, ◌+◌, ◌∙◌, None, drop, map, false, refl, ap, subst, arith, rules}
use Rattle.rgo_ast.specs.Views.{import_of}
use Rattle.rgo_typing_rules.specs.Checks.{Refuses}
use Rattle.rgo_typing_rules.specs.Sites.{first_refusal}
use Rattle.rgo_typing_packages.specs.Imports.{path_sites, import_sites, imports_fmt}
use Rattle.rgo_typing_packages.proofs.Lists.{opened_map}
use Rattle.rgo_typing_packages.proofs.Turns.{refused, kept}
use Rattle.rgo_typing_packages.proofs.imports.check_imports.Goals as goal

pub returns-in_err-imported-clause-checked : goal.returns-in_err-imported-clause-checked
returns-in_err-imported-clause-checked c =
    let e = c.in_err-imported.field-0.0 in
    let b = c.loop-import.imported in
    let i = import_of c.import-item.result in
    let rest = map import_of (drop (c.loop-import.import-index + 1) c.args.imports.now) in
    let here = opened_map import_of c.args.imports.now c.loop-import.import-index c.import-item.result c.import-item.is (omega arith) in
    let first : Refuses e (first_refusal (path_sites b i.paths)) =
    subst (λ l. Refuses e (first_refusal (path_sites b l))) c.deref.ensures.value c.in_err-imported.ensures.checked in
    let refuses : Refuses e (first_refusal (import_sites false (map import_of c.args.imports.now))) =
    refused c.loop-import.invariant i rest here (path_sites b i.paths) (import_sites (imports_fmt b i.paths) rest) refl e first in
    search rules

pub loop-import-preserved : goal.loop-import-preserved
loop-import-preserved c =
    let b = c.loop-import.imported in
    let i = import_of c.import-item.result in
    let rest = map import_of (drop (c.loop-import.import-index + 1) c.args.imports.now) in
    let here = opened_map import_of c.args.imports.now c.loop-import.import-index c.import-item.result c.import-item.is (omega arith) in
    let first : first_refusal (path_sites b i.paths) ≡ None =
    subst (λ l. first_refusal (path_sites b l) ≡ None) c.deref.ensures.value c.in_ok-imported.ensures.checked in
    let imported : c.in_ok-imported.imported ≡ imports_fmt b i.paths =
    c.in_ok-imported.ensures.value ∙ ap (imports_fmt b) c.deref.ensures.value in
    kept c.loop-import.invariant i rest here (path_sites b i.paths) (import_sites (imports_fmt b i.paths) rest) refl (first, imported) refl refl
