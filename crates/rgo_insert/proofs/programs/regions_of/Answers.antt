use Rattle.std.proofs.lemmas.Result.{IfOk-weaker}
use Rattle.rgo_insert.specs.Bare.{nothing_undeclared}
use Rattle.rgo_insert.proofs.Inserting.{inserted}
use Rattle.rgo_insert.proofs.programs.regions_of.Goals as goal

pub returns-clause-inserted : goal.returns-clause-inserted
returns-clause-inserted c =
    IfOk-weaker c.all_filled.result _ _
    (λ regions are. inserted c.args.code.now c.functions-functions.result.now c.args.summaries.now.functions
    c.in_ok-bare.bare.items c.deref.result.now regions.items nothing_undeclared c.requires.typed c.requires.family
    c.functions-functions.ensures c.deref.ensures.value c.in_ok-bare.ensures are)
    c.all_filled.ensures
