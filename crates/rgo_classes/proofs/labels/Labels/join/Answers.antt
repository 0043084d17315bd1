use Rattle.std.proofs.Common.{◌∙◌, arith}
use Rattle.std.proofs.lemmas.Result.{on_ok_weaker}
use Rattle.rgo_classes.proofs.Joining.{joins_pair}
use Rattle.rgo_classes.proofs.Rows.{written_back}
use Rattle.rgo_classes.proofs.labels.Labels.join.Goals as goal

pub returns-clause-joined : goal.returns-clause-joined
returns-clause-joined c =
    let e = written_back c.join_numbers.new.labels c.self.inside.labels.items c.self.inside.labels.len
    (omega (arith, c.join_numbers.ensures.size, c.as_mut_slice.ensures.len)) (omega arith) in
    let s = c.as_mut_slice.ensures.value ∙ c.self.view_is in
    rw e (on_ok_weaker c.join_numbers.result
    (λ m. joins_pair c.args.self.now c.join_numbers.new.labels c.args.a c.args.b c.requires.a c.requires.b
    (rw (s, c.number_of.ensures, c.number_of-2.ensures) at m))
    c.join_numbers.ensures.merged)
