use Rattle.std.proofs.Common.{arith, [], ◌∷◌, ◌++◌, length}
use Rattle.std.proofs.lemmas.Result.{IfOk-weaker}
use Rattle.rgo_tac.specs.declared.regions.Member.TheVariants.{Result}
use Rattle.rgo_classes.specs.declared.classes.Classes.{Classes}
use Rattle.rgo_classes.specs.Classes.{AreClasses, AreNamed, all_members, variables_before}
use Rattle.rgo_classes.specs.Joins.{Joins}
use Rattle.rgo_classes.specs.Labels.{AreFor}
use Rattle.rgo_classes.specs.Naming.{AreLike}
use Rattle.rgo_classes.proofs.Joining.{labels_first}
use Rattle.rgo_classes.proofs.Named.{named_describes}
use Rattle.rgo_classes.proofs.functions.classes_of.Goals as goal

pub returns : goal.returns
returns c =
    let f = c.args.function.now in
    let summaries = c.args.summaries.now.functions in
    let labels = c.join_body.new.labels in
    let fits : AreFor f labels = omega (arith, c.in_ok-join_body.ensures.len, c.in_ok-labels.ensures.fits) in
    let are = labels_first c.in_ok-labels.labels labels (Joins summaries f) c.in_ok-labels.ensures.apart
    c.in_ok-join_body.ensures.joined in
    IfOk-weaker c.name.result
    (λ (k : Classes). AreNamed (AreLike labels) f (variables_before (length c.variables.result.now) (Result ∷ []))
    (k.variables ++ k.result ∷ []))
    (AreClasses summaries f)
    (λ k n. named_describes summaries f labels (all_members f) (k.variables ++ k.result ∷ []) fits are
    (rw c.variables.ensures at n))
    c.name.ensures
