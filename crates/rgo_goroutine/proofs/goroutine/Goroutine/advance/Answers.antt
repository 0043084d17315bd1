use Rattle.std.proofs.Common.{arith, refl, sym, ◌∙◌}
use Rattle.rgo_goroutine.proofs.Advancing.{continues_as, continues_then, executed, halts, halts_then, left_as, made_then, room_then, used}
use Rattle.rgo_goroutine.proofs.goroutine.Goroutine.advance.Goals as goal

pub returns-in-Offering : goal.returns-in-Offering
returns-in-Offering g c = c.acknowledge.ensures

-- ---- it attends to what it owes

pub attend_all-requires : goal.attend_all-requires
attend_all-requires g c = record {
  goes = c.requires.goes;
  noted = c.requires.some.1;
  none = λ at e. c.in_default.not-Offering at (c.side.ensures ∙ e);
}

pub returns-in-Some : goal.returns-in-Some
returns-in-Some g c = halts c.args.run.now c.args.self.now c.attend_all.new.self c.args.turning.now c.attend_all.new.turning c.in-Some.stop c.in-Some.ensures.acts

-- ---- it knows what it owes before its next instruction

pub instruct-requires : goal.instruct-requires
instruct-requires g c =
    let done = c.in_default-attend_all.ensures.done refl in
    let left = left_as c.args.turning.now c.attend_all.new.turning c.attend_all.new.turning.moved c.attend_all.ensures.same in
    let some = c.requires.some.0 in
    let first = continues_as c.args.run.now c.args.self.now c.attend_all.new.self c.args.turning.now c.attend_all.new.turning c.attend_all.new.turning.moved c.attend_all.ensures.same
    c.in_default-attend_all.ensures.acts in
    record {
      goes = c.in_default-attend_all.ensures.acts.goes;
      pages = c.requires.pages;
      some = (omega (arith, left, some), room_then c.args.run.now c.args.self.now c.attend_all.new.self c.args.self.now c.args.turning.now c.attend_all.new.turning c.args.turning.now first c.requires.some.1);
      empty = done.empty;
      expanded = sym c.is_expanded.ensures ∙ c.if-is_expanded.true;
      none = done.none;
    }

pub returns-then-is_expanded : goal.returns-then-is_expanded
returns-then-is_expanded g c =
    let first = continues_as c.args.run.now c.args.self.now c.attend_all.new.self c.args.turning.now c.attend_all.new.turning c.attend_all.new.turning.moved c.attend_all.ensures.same
    c.in_default-attend_all.ensures.acts in
    made_then c.args.run.now c.args.self.now c.attend_all.new.self c.instruct.new.self c.args.turning.now c.attend_all.new.turning c.instruct.new.turning first c.instruct.result c.instruct.ensures

-- ---- it executes what can be executed at once

pub execute-requires : goal.execute-requires
execute-requires g c =
    let done = c.in_default-attend_all.ensures.done refl in
    let first = continues_as c.args.run.now c.args.self.now c.attend_all.new.self c.args.turning.now c.attend_all.new.turning c.attend_all.new.turning.moved c.attend_all.ensures.same
    c.in_default-attend_all.ensures.acts in
    record {
      goes = c.in_default-attend_all.ensures.acts.goes;
      noted = room_then c.args.run.now c.args.self.now c.attend_all.new.self c.args.self.now c.args.turning.now c.attend_all.new.turning c.args.turning.now first c.requires.some.1;
      none = done.none;
      empty = done.empty;
      not_yet = sym c.is_expanded.ensures ∙ c.if-is_expanded.false;
    }

pub returns-then-turning-eq0 : goal.returns-then-turning-eq0
returns-then-turning-eq0 g c =
    let first = continues_as c.args.run.now c.args.self.now c.attend_all.new.self c.args.turning.now c.attend_all.new.turning c.attend_all.new.turning.moved c.attend_all.ensures.same
    c.in_default-attend_all.ensures.acts in
    let second = continues_then c.args.run.now c.args.self.now c.attend_all.new.self c.execute.new.self c.args.turning.now c.attend_all.new.turning c.execute.new.turning first
    (executed c.args.run.now c.attend_all.new.self c.execute.new.self c.attend_all.new.turning c.execute.new.turning c.execute.ensures.noted c.execute.ensures.fewer c.execute.ensures.acts) in
    used c.args.run.now c.args.self.now c.execute.new.self c.args.turning.now c.execute.new.turning second c.requires.some.0 c.if-turning-eq0.true

-- ---- it attends to what it owes before its next instruction

pub prepare-requires : goal.prepare-requires
prepare-requires g c =
    let first = continues_as c.args.run.now c.args.self.now c.attend_all.new.self c.args.turning.now c.attend_all.new.turning c.attend_all.new.turning.moved c.attend_all.ensures.same
    c.in_default-attend_all.ensures.acts in
    let second = continues_then c.args.run.now c.args.self.now c.attend_all.new.self c.execute.new.self c.args.turning.now c.attend_all.new.turning c.execute.new.turning first
    (executed c.args.run.now c.attend_all.new.self c.execute.new.self c.attend_all.new.turning c.execute.new.turning c.execute.ensures.noted c.execute.ensures.fewer c.execute.ensures.acts) in
    record {
      goes = c.execute.ensures.acts.goes;
      noted = room_then c.args.run.now c.args.self.now c.execute.new.self c.args.self.now c.args.turning.now c.execute.new.turning c.args.turning.now second c.requires.some.1;
      none = c.execute.ensures.none;
    }

pub returns-in-Some-prepare : goal.returns-in-Some-prepare
returns-in-Some-prepare g c =
    let first = continues_as c.args.run.now c.args.self.now c.attend_all.new.self c.args.turning.now c.attend_all.new.turning c.attend_all.new.turning.moved c.attend_all.ensures.same
    c.in_default-attend_all.ensures.acts in
    let second = continues_then c.args.run.now c.args.self.now c.attend_all.new.self c.execute.new.self c.args.turning.now c.attend_all.new.turning c.execute.new.turning first
    (executed c.args.run.now c.attend_all.new.self c.execute.new.self c.attend_all.new.turning c.execute.new.turning c.execute.ensures.noted c.execute.ensures.fewer c.execute.ensures.acts) in
    halts_then c.args.run.now c.args.self.now c.execute.new.self c.prepare.new.self c.args.turning.now c.execute.new.turning c.prepare.new.turning second c.in-Some-prepare.stop c.in-Some-prepare.ensures.acts

-- ---- and then it makes the instruction

pub instruct-requires-2 : goal.instruct-requires-2
instruct-requires-2 g c =
    let ready = c.in_default-prepare.ensures.ready refl in
    let left = left_as c.execute.new.turning c.prepare.new.turning c.prepare.new.turning.moved c.prepare.ensures.same in
    let some = c.if-turning-eq0.false in
    let first = continues_as c.args.run.now c.args.self.now c.attend_all.new.self c.args.turning.now c.attend_all.new.turning c.attend_all.new.turning.moved c.attend_all.ensures.same
    c.in_default-attend_all.ensures.acts in
    let second = continues_then c.args.run.now c.args.self.now c.attend_all.new.self c.execute.new.self c.args.turning.now c.attend_all.new.turning c.execute.new.turning first
    (executed c.args.run.now c.attend_all.new.self c.execute.new.self c.attend_all.new.turning c.execute.new.turning c.execute.ensures.noted c.execute.ensures.fewer c.execute.ensures.acts) in
    let third = continues_then c.args.run.now c.args.self.now c.execute.new.self c.prepare.new.self c.args.turning.now c.execute.new.turning c.prepare.new.turning second
    (continues_as c.args.run.now c.execute.new.self c.prepare.new.self c.execute.new.turning c.prepare.new.turning c.prepare.new.turning.moved c.prepare.ensures.same
    c.in_default-prepare.ensures.acts) in
    record {
      goes = c.in_default-prepare.ensures.acts.goes;
      pages = c.requires.pages;
      some = (omega (arith, left, some), room_then c.args.run.now c.args.self.now c.prepare.new.self c.args.self.now c.args.turning.now c.prepare.new.turning c.args.turning.now third c.requires.some.1);
      empty = ready.empty;
      expanded = ready.expanded;
      none = ready.none;
    }

pub returns : goal.returns
returns g c =
    let first = continues_as c.args.run.now c.args.self.now c.attend_all.new.self c.args.turning.now c.attend_all.new.turning c.attend_all.new.turning.moved c.attend_all.ensures.same
    c.in_default-attend_all.ensures.acts in
    let second = continues_then c.args.run.now c.args.self.now c.attend_all.new.self c.execute.new.self c.args.turning.now c.attend_all.new.turning c.execute.new.turning first
    (executed c.args.run.now c.attend_all.new.self c.execute.new.self c.attend_all.new.turning c.execute.new.turning c.execute.ensures.noted c.execute.ensures.fewer c.execute.ensures.acts) in
    let third = continues_then c.args.run.now c.args.self.now c.execute.new.self c.prepare.new.self c.args.turning.now c.execute.new.turning c.prepare.new.turning second
    (continues_as c.args.run.now c.execute.new.self c.prepare.new.self c.execute.new.turning c.prepare.new.turning c.prepare.new.turning.moved c.prepare.ensures.same
    c.in_default-prepare.ensures.acts) in
    made_then c.args.run.now c.args.self.now c.prepare.new.self c.instruct-2.new.self c.args.turning.now c.prepare.new.turning c.instruct-2.new.turning third c.instruct-2.result c.instruct-2.ensures
