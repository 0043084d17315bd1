use Rattle.std.proofs.Common.{◌≡◌, true, false, sym, subst}
use Rattle.std.proofs.lemmas.Result.{IfOk-weaker}
use Rattle.rgo_typed.specs.Tree.{stmts_of}
use Rattle.rgo_typed.specs.Views.{typed_function_of}
use Rattle.rgo_lower.specs.Emitted.{made_of, FunctionCodeBegins}
use Rattle.rgo_lower.specs.Shapes.{stmts_fit}
use Rattle.rgo_lower.proofs.Finished.{function_lowered}
use Rattle.rgo_lower.proofs.functions.lower_function.Goals as goal

pub lower_stmts-requires-clause-shape : goal.lower_stmts-requires-clause-shape
lower_stmts-requires-clause-shape c =
    let source = typed_function_of c.args.function.now in
    let a = made_of c.in_ok-b.b in
    let begins : FunctionCodeBegins source.params source.locals a =
    subst (λ z. FunctionCodeBegins source.params z a) c.items.ensures c.in_ok-b.ensures in
    subst (λ n. stmts_fit n false (stmts_of source.body) ≡ true) (sym begins.slot_count) c.requires.shape

pub returns : goal.returns
returns c =
    let source = typed_function_of c.args.function.now in
    let a = made_of c.in_ok-b.b in
    let begins : FunctionCodeBegins source.params source.locals a =
    subst (λ z. FunctionCodeBegins source.params z a) c.items.ensures c.in_ok-b.ensures in
    IfOk-weaker c.finish.result _ _
    (λ f is. function_lowered source f a (made_of c.lower_stmts.new.b) (made_of c.close.new.b) begins
    c.in_ok-lower_stmts.ensures c.in_ok-close.ensures is)
    c.finish.ensures
