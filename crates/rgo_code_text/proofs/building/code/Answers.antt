use Rattle.std.proofs.Common.{◌≡◌, ◌∙◌, sym, ap, arith, subst, map, drop, List}
use Rattle.std.specs.List.{All}
use Rattle.std.proofs.lemmas.List.{length-map}
use Rattle.rgo_tac.specs.Code.{Tac, TacFn}
use Rattle.rgo_code.specs.declared.code.Undeclared.{Undeclared}
use Rattle.rgo_code.specs.Views.{code_fns}
use Rattle.rgo_code_text.specs.Building.{built, names_now, declared_in, line_of_item}
use Rattle.rgo_code_text.specs.CodeLines.{Building, empty_building, with_lines}
use Rattle.rgo_code_printing.specs.Text.{Names}
use Rattle.rgo_code_text.specs.Sizes.{HaveNumbers}
use Rattle.rgo_code_text.specs.Views.{item_of}
use Rattle.rgo_code_text.proofs.code_of_lines.Fitting.{PartsFit, fits_ascends, all_fit, nothing_fits}
use Rattle.rgo_code_text.proofs.code_of_lines.Opening.{built_same}
use Rattle.rgo_code_text.proofs.building.code.Goals as goal

pub new-requires-5-clause-ascends : goal.new-requires-5-clause-ascends
new-requires-5-clause-ascends c =
    let n = names_now c.args.tables.now in
    let items = map item_of c.args.items.items in
    let made : Building = with_lines empty_building (map (line_of_item n) items) in
    let functions : code_fns c.new-tac.result.functions c.new-4.result ≡ made.functions =
    ap (λ (t : Tac). code_fns t.functions c.new-4.result) c.new-tac.ensures
    ∙ ap (λ (fs : List TacFn). code_fns fs c.new-4.result) c.new-3.ensures
    ∙ ap (code_fns c.in_ok-building.building.functions.items) c.new-4.ensures
    ∙ ap (λ (b : Building). b.functions) c.in_ok-building.ensures.built in
    fits_ascends (code_fns c.new-tac.result.functions c.new-4.result)
    (subst (All PartsFit) (sym functions) (all_fit n empty_building items c.requires.fit nothing_fits).functions)

pub returns : goal.returns
returns c =
    let n = names_now c.args.tables.now in
    let items = map item_of c.args.items.items in
    let d = declared_in items in
    let made : Building = with_lines empty_building (map (line_of_item n) items) in
    let b = c.in_ok-building.building in
    let u = c.in_ok-undeclared.undeclared in
    let code = c.new-tac.result in
    let structs : code.structs ≡ made.structs =
    ap (λ (t : Tac). t.structs) c.new-tac.ensures ∙ c.new.ensures ∙ ap (λ (b : Building). b.structs) c.in_ok-building.ensures.built in
    let variables : code.variables ≡ made.variables =
    ap (λ (t : Tac). t.variables) c.new-tac.ensures ∙ c.new-2.ensures
    ∙ ap (λ (b : Building). b.variables) c.in_ok-building.ensures.built in
    let functions : code_fns code.functions c.new-4.result ≡ made.functions =
    ap (λ (t : Tac). code_fns t.functions c.new-4.result) c.new-tac.ensures
    ∙ ap (λ (fs : List TacFn). code_fns fs c.new-4.result) c.new-3.ensures
    ∙ ap (code_fns b.functions.items) c.new-4.ensures
    ∙ ap (λ (b : Building). b.functions) c.in_ok-building.ensures.built in
    c.new-5.ensures
    ∙ built_same code u c.new-4.result n d made structs variables functions
    (ap (λ (u : Undeclared). u.structs) c.in_ok-undeclared.ensures ∙ ap (λ k. drop k n.structs) c.requires.counts.structs)
    (ap (λ (u : Undeclared). u.variables) c.in_ok-undeclared.ensures ∙ ap (λ k. drop k n.variables) c.requires.counts.variables)
    (ap (λ (u : Undeclared). u.functions) c.in_ok-undeclared.ensures ∙ ap (λ k. drop k n.functions) c.requires.counts.functions)
    ∙ ap (λ (m : Names). built m d (with_lines empty_building (map (line_of_item m) items))) c.requires.names

pub collected-requires-clause-names : goal.collected-requires-clause-names
collected-requires-clause-names c = subst HaveNumbers (sym c.requires.names) c.requires.few.names

pub collected-requires-clause-few : goal.collected-requires-clause-few
collected-requires-clause-few c = omega (arith, c.requires.few.lines, length-map c.args.items.items item_of)
