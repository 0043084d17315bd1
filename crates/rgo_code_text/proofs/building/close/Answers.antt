use Rattle.std.proofs.Common.{◌≡◌, ◌∙◌, ◌++◌, ◌∷◌, [], ap, sym, subst}
use Rattle.rgo_code.specs.Code.{CodeFn}
use Rattle.rgo_code.specs.Views.{code_fns}
use Rattle.rgo_code_text.specs.CodeLines.{Building, no_function}
use Rattle.rgo_code_text.specs.Opened.{open_of, building_of, FunctionHasRoom}
use Rattle.rgo_code_text.proofs.code_of_lines.Opening.{fns_push}
use Rattle.rgo_code_text.proofs.building.close.Goals as goal

pub returns-clause-ended : goal.returns-clause-ended
returns-clause-ended c =
    let b = c.args.building.now in
    let old : Building = building_of b in
    let functions : c.push.new.self.items ≡ b.functions.items ++ c.in_ok-function.function ∷ [] = c.in_ok-push.ensures.items in
    let regions : c.push-2.new.self.items ≡ b.regions.items ++ c.in_ok-function.regions ∷ [] = c.in_ok-push-2.ensures.items in
    let f = c.in_ok-function.function in
    let r = c.in_ok-function.regions in
    let all : code_fns c.push.new.self.items c.push-2.new.self.items ≡ old.functions ++ old.current ∷ [] =
    ap (λ fs. code_fns fs c.push-2.new.self.items) functions
    ∙ ap (code_fns (b.functions.items ++ f ∷ [])) regions
    ∙ fns_push b.functions.items b.regions.items f r c.requires.aligned.regions
    ∙ ap (λ (g : CodeFn). old.functions ++ g ∷ []) (c.in_ok-function.ensures ∙ ap open_of c.replace-complete.ensures.value) in
    let current : open_of c.replace-complete.new.dest ≡ no_function =
    ap open_of c.replace-complete.ensures.after ∙ c.none_open.ensures.function in
    ap (λ fs. record old { functions = fs; current = open_of c.replace-complete.new.dest }) all
    ∙ ap (λ (g : CodeFn). record old { functions = old.functions ++ old.current ∷ []; current = g }) current

pub completed-requires : goal.completed-requires
completed-requires c = subst FunctionHasRoom (sym c.replace-complete.ensures.value) c.requires.room
