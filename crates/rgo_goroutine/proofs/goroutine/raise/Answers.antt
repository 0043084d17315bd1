use Rattle.std.proofs.Common.{◌≡◌, ◌∙◌, ◌++◌, List, [], ◌∷◌, ap, append_assoc, arith, reverse, sym}
use Rattle.std.proofs.lemmas.List.{append-nil, reverse-reverse}
use Rattle.rgo_goroutine.specs.declared.goroutine.Child.{Child}
use Rattle.rgo_goroutine.specs.declared.goroutine.Goroutine.{Goroutine}
use Rattle.rgo_goroutine.proofs.Handing.{born_last, child_in, is_born, last_first}
use Rattle.rgo_goroutine.proofs.goroutine.raise.Goals as goal

pub loop-child-init : goal.loop-child-init
loop-child-init c = record {
  born = (
    [],
    [],
    ap reverse c.reverse.ensures.items ∙ reverse-reverse c.args.children.now.items,
    sym (append-nil c.args.into.now.items),
    tt,
  );
  room = omega (arith, c.requires.room, c.reverse.ensures.len);
}

pub loop-child-preserved : goal.loop-child-preserved
loop-child-preserved c =
    let r = c.args.run.now in
    let l = c.loop-child in
    let born = l.invariant.born in
    let child = c.in-Some.child in
    let go = c.new.result in
    let later = reverse c.pop.new.self.items in
    let taken : reverse l.children.items ≡ child ∷ later =
    last_first l.children.items c.pop.new.self.items child c.in-Some.ensures.items in
    let all : born.0 ++ child ∷ later ≡ c.args.children.now.items = ap (λ (k : List Child). born.0 ++ k) (sym taken) ∙ born.2 in
    record {
      born = (
        born.0 ++ child ∷ [],
        born.1 ++ go ∷ [],
        append_assoc born.0 (child ∷ []) later ∙ all,
        c.push_reserved.ensures.items
            ∙ (ap (λ (k : List Goroutine). k ++ go ∷ []) born.3 ∙ append_assoc c.args.into.now.items born.1 (go ∷ [])),
        born_last r born.0 born.1 child go born.4
            (is_born r child go (child_in r c.args.children.now.items born.0 later child all c.requires.stand) c.new.ensures.actor
            c.new.ensures.number c.new.ensures.prints c.new.ensures.children c.new.ensures.first),
      );
      room = omega (
        arith,
        l.invariant.room,
        c.in-Some.ensures.cases,
        c.pop.ensures.capacity,
        c.push_reserved.ensures.len,
        c.push_reserved.ensures.capacity,
      );
    }
