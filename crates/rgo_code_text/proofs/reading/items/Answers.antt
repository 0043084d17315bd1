use Rattle.std.proofs.Common.{◌-◌, map, length, take, drop, Option, true≢false, sym, ap, ◌∙◌, subst, arith}
use Rattle.std.specs.Option.{option_map}
use Rattle.std.proofs.lemmas.List.{map_push}
use Rattle.rgo_code_text.specs.declared.items.Item.{Item as CodeItem}
use Rattle.rgo_code_text.specs.declared.places.Place.{Place}
use Rattle.rgo_code_text.specs.Views.{item_of}
use Rattle.rgo_code_text.specs.Walk.{StepIs}
use Rattle.rgo_code_words.proofs.ListFacts.{rest_of}
use Rattle.rgo_code_text.proofs.code_of_lines.Few.{line_fits}
use Rattle.rgo_code_text.proofs.line_forms.Walking.{ends_here, stops_here, goes_on}
use Rattle.rgo_code_text.proofs.reading.items.Goals as goal
use Rattle.rgo_code_text.proofs.reading.items.Goals.{else-len-eq0-via-then-len-eq0+else-is_last, else-len-eq0-via-else-len-eq0}

pub returns-then-len-rest : goal.returns-then-len-rest
returns-then-len-rest c =
    ends_here c.args.text.now (map item_of c.lines.items.items) c.lines.place c.lines.at c.len_to-len.result c.lines.line
    (take (length c.args.text.now - c.lines.at) (drop c.lines.at c.args.text.now))
    (rest_of c.args.text.now c.lines.at) c.len_to-len.ensures.len c.len_to-len.ensures.within c.lines.invariant.within
    c.lines.invariant.fit c.lines.invariant.leads c.lines.invariant.cut c.lines.invariant.number
    c.if-len-rest.true
    (λ z l. elim c.else-len-eq0.branch as (λ b. ⊥) [
      | else-len-eq0-via-then-len-eq0+else-is_last w ↦ true≢false (sym (w.if-is_last.ensures.1 l))
      | else-len-eq0-via-else-len-eq0 w ↦ w.if-len-eq0.false z
    ])

pub returns-in-None : goal.returns-in-None
returns-in-None c =
    stops_here c.args.text.now (map item_of c.lines.items.items) c.lines.place c.lines.at c.len_to-len.result c.lines.line
    (take (length c.args.text.now - c.lines.at) (drop c.lines.at c.args.text.now))
    (rest_of c.args.text.now c.lines.at) c.len_to-len.ensures.len c.len_to-len.ensures.within c.lines.invariant.within
    c.lines.invariant.fit c.lines.invariant.leads c.lines.invariant.cut c.lines.invariant.number
    c.if-len-rest.false
    (subst (λ (o : Option (CodeItem × Place)). StepIs c.lines.place
    (take c.len_to-len.result (take (length c.args.text.now - c.lines.at) (drop c.lines.at c.args.text.now)))
    (option_map (λ s. (item_of s.0, s.1)) o)) c.in-None.is c.in_ok-item.ensures)

pub lines-preserved : goal.lines-preserved
lines-preserved c =
    goes_on c.args.text.now (map item_of c.lines.items.items) c.lines.place c.lines.at c.len_to-len.result c.lines.line
    (take (length c.args.text.now - c.lines.at) (drop c.lines.at c.args.text.now))
    (rest_of c.args.text.now c.lines.at) c.len_to-len.ensures.len c.len_to-len.ensures.within c.lines.invariant.within
    c.lines.invariant.fit c.lines.invariant.leads c.lines.invariant.cut c.lines.invariant.number
    (item_of c.in-Some.item) c.in-Some.next (map item_of c.push.new.self.items) c.if-len-rest.false
    (subst (λ (o : Option (CodeItem × Place)). StepIs c.lines.place
    (take c.len_to-len.result (take (length c.args.text.now - c.lines.at) (drop c.lines.at c.args.text.now)))
    (option_map (λ s. (item_of s.0, s.1)) o)) c.in-Some.is c.in_ok-item.ensures)
    (ap (map item_of) c.in_ok-push-in-Some.ensures.items ∙ map_push item_of c.lines.items.items c.in-Some.item)

pub overflow_add-line : goal.overflow_add-line
overflow_add-line c =
    let fits = line_fits c.args.text.now (map item_of c.lines.items.items) c.lines.at c.lines.line c.lines.invariant.cut
    c.lines.invariant.number c.requires in
    omega (arith, fits)
