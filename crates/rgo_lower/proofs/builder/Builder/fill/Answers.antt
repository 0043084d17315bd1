use Rattle.std.proofs.lemmas.List.Sums.{AllPass-from_list_all}
use Rattle.rgo_lower.specs.Shapes.{is_narrow}
use Rattle.rgo_lower.specs.Emitted.{made_of}
use Rattle.rgo_lower.proofs.TermParts.{next_stored, end_stored}
use Rattle.rgo_lower.proofs.builder.Builder.fill.Goals as goal

pub act-requires : goal.act-requires
act-requires c =
    AllPass-from_list_all is_narrow c.args.fields.now c.requires.numbers c.loop-i.i 0 c.loop-i-test.true

pub loop-i-preserved : goal.loop-i-preserved
loop-i-preserved c = record {
  same_length = c.loop-i.invariant.same_length;
  rest = λ new h.
      c.loop-i.invariant.rest new
      (next_stored c.args.object c.args.place c.loop-i.i c.args.fields.now c.args.from.now (made_of c.loop-i.self)
      (made_of c.act.new.self) new c.loop-i-test.true c.loop-i.invariant.same_length c.in_ok-act.ensures h);
}

pub returns : goal.returns
returns c =
    c.loop-i.invariant.rest (made_of c.loop-i.self)
    (end_stored c.args.object c.args.place c.loop-i.i c.args.fields.now c.args.from.now (made_of c.loop-i.self)
    c.loop-i-test.false c.loop-i.invariant.same_length)
