use Rattle.std.proofs.Common.{arith, ◌≡◌, ◌<◌, ◌≤◌, [], ◌∷◌, length, get_or, map, refl, sym, ◌∙◌, subst, append-nil}
use Rattle.rgo_typed.specs.Views.{typed_function_of, typed_of}
use Rattle.rgo_wellformed.specs.WellFormed.{declared_by}
use Rattle.rgo_lower.specs.Lowered.{AreLowered}
use Rattle.rgo_lower.proofs.Growing.{one_more_before}
use Rattle.rgo_lower.proofs.Finished.{within_largest, well_function, next_lowered, end_lowered, program_is}
use Rattle.rgo_lower.proofs.Fitting.{small_program, function_fits}
use Rattle.rgo_lower.proofs.programs.emit.Goals as goal

pub lower_function-requires-clause-params : goal.lower_function-requires-clause-params
lower_function-requires-clause-params c =
    let xs = c.args.program.now.functions.items in
    let i = c.loop-function.function-index in
    let x = c.function-item.result in
    let same : c.deref-function-items.result.now ≡ xs = c.deref-function-items.ensures.value in
    let well =
    well_function (typed_of c.args.program.now) xs i x c.requires.well refl
    (subst (λ z. i < length z) same c.loop-function-test.true) (subst
    (λ z. x ≡ get_or z i x) same c.function-item.is) in
    well.params

pub lower_function-requires-clause-size : goal.lower_function-requires-clause-size
lower_function-requires-clause-size c =
    let xs = c.args.program.now.functions.items in
    let i = c.loop-function.function-index in
    let x = c.function-item.result in
    let same : c.deref-function-items.result.now ≡ xs = c.deref-function-items.ensures.value in
    let within =
    within_largest xs i x (subst (λ z. i < length z) same c.loop-function-test.true)
    (subst (λ z. x ≡ get_or z i x) same c.function-item.is) in
    omega (arith, within, c.requires.size)

pub lower_function-requires-clause-shape : goal.lower_function-requires-clause-shape
lower_function-requires-clause-shape c =
    let xs = c.args.program.now.functions.items in
    let i = c.loop-function.function-index in
    let x = c.function-item.result in
    let program = typed_of c.args.program.now in
    let same : c.deref-function-items.result.now ≡ xs = c.deref-function-items.ensures.value in
    let well =
    well_function program xs i x c.requires.well refl (subst (λ z. i < length z) same c.loop-function-test.true)
    (subst (λ z. x ≡ get_or z i x) same c.function-item.is) in
    function_fits (declared_by program) (small_program program c.requires.size) (typed_function_of x) well

pub loop-function-preserved : goal.loop-function-preserved
loop-function-preserved c =
    λ rest h.
    let xs = c.args.program.now.functions.items in
    let i = c.loop-function.function-index in
    let x = c.function-item.result in
    let f = c.in_ok-lower_function.field-0 in
    let program = typed_of c.args.program.now in
    let same : c.deref-function-items.result.now ≡ xs = c.deref-function-items.ensures.value in
    let lt : i < length xs = subst (λ z. i < length z) same c.loop-function-test.true in
    let is : x ≡ get_or xs i x = subst (λ z. x ≡ get_or z i x) same c.function-item.is in
    let lowered =
    c.in_ok-lower_function.ensures (declared_by program) program.functions refl
    (well_function program xs i x c.requires.well refl lt is) in
    subst (λ z. AreLowered (map typed_function_of xs) (map typed_function_of xs) z)
    (one_more_before c.loop-function.functions.items c.push.new.self.items rest f c.in_ok-push.ensures.items)
    (c.loop-function.invariant (f ∷ rest) (next_lowered (map typed_function_of xs) xs i x f rest lt is lowered h))

pub returns : goal.returns
returns c =
    let xs = c.args.program.now.functions.items in
    let i = c.loop-function.function-index in
    let program = typed_of c.args.program.now in
    let same : c.deref-function-items.result.now ≡ xs = c.deref-function-items.ensures.value in
    let done =
    c.loop-function.invariant []
    (end_lowered (map typed_function_of xs) xs i (subst (λ z. length z ≤ i) same c.loop-function-test.false)) in
    program_is program c.new-2.result c.in_ok-structs.structs c.in_ok-variables.variables c.new.result c.new-2.ensures
    (c.in_ok-structs.ensures ∙ c.items.ensures) (c.in_ok-variables.ensures ∙ c.items-2.ensures)
    (subst (λ z. AreLowered (map typed_function_of xs) (map typed_function_of xs) z)
    (append-nil c.loop-function.functions.items ∙ sym c.new.ensures) done)
