use Rattle.std.proofs.Common.{◌∙◌, ap, refl, length, slice_get, Some}
use Rattle.std.proofs.lemmas.Option.{slice_get_past, slice_get_read}
use Rattle.rgo_code.proofs.Parts.{function_found, no_function}
use Rattle.rgo_insert.proofs.bare.Bare.function.Goals as goal

pub returns-in-Some-get : goal.returns-in-Some-get
returns-in-Some-get c =
    let fs = c.self.inside.functions.now in
    let rs = c.self.inside.regions.now in
    let tac = c.in-Some.ensures.lookup in
    let regions = c.in-Some-get.ensures.lookup in
    ap Some c.new.ensures
    ∙ function_found fs rs c.args.n c.in-Some.tac.now c.in-Some-get.regions.now
    (slice_get_read fs (length fs) c.args.n c.in-Some.tac.now refl tac.3.0 tac.1)
    (slice_get_read rs (length rs) c.args.n c.in-Some-get.regions.now refl regions.3.0 regions.1)
    ∙ ap (λ l. slice_get l c.args.n) c.self.view_is

pub returns-in-None : goal.returns-in-None
returns-in-None c =
    let own = c.self.inside in
    no_function own.functions.now own.regions.now c.args.n
    (slice_get_past own.functions.now c.args.n c.in-None.ensures.lookup.3)
    ∙ ap (λ l. slice_get l c.args.n) c.self.view_is
