use Rattle.std.proofs.Common.{◌≡◌, ◌+◌, ◌-◌, ◌*◌, ◌≤◌, ◌∙◌, ap, arith, length, refl, subst, sym}
use Rattle.rgo_core_facts.specs.MemoryObjects.{data_pages_of}
use Rattle.rgo_acts.specs.Objects.{HasReserved}
use Rattle.rgo_acts.proofs.new_objects.Reserves.{all_cost, cost_within, few_reserved, next_cost, no_memory, none_free_yet, none_more, reserved_all, reserved_then, too_few}
use Rattle.rgo_acts.proofs.objects.reserve.Goals as goal

pub overflow_sub-all : goal.overflow_sub-all
overflow_sub-all g c =
    let a = c.args in
    let few = few_reserved a.run.now a.actor.now a.next.now c.requires.before a.new c.requires.new in
    let same = ap length c.reserved-first.ensures in
    let all = c.data_pages-all.ensures ∙ ap (λ n. data_pages_of n a.new.words a.new.before) c.page_words.ensures in
    omega (arith, few, same, all)

pub returns-in-Err-clause-made : goal.returns-in-Err-clause-made
returns-in-Err-clause-made g c =
    let a = c.args in
    no_memory a.run.now a.actor.now a.next.now c.requires.before a.new c.requires.new c.room_to_reserve.new.self c.room_to_reserve.ensures.same
    (c.room_to_reserve.ensures.stays a.run.now.program)

pub loop-i-init : goal.loop-i-init
loop-i-init g c =
    let a = c.args in
    let first = length c.reserved-first.result.now in
    let b = record a.actor.now { body = c.room_to_reserve.new.self } in
    let none : first - first ≡ 0 = omega arith in
    record {
      reserved = subst (λ n. HasReserved a.run.now b b a.next.now a.new n) (sym none)
          (none_more a.run.now a.actor.now a.next.now c.requires.before a.new c.requires.new c.room_to_reserve.new.self
          c.room_to_reserve.ensures.same (c.room_to_reserve.ensures.stays a.run.now.program));
      same = λ e. refl;
      counted = subst (λ n. a.steps.now ≤ a.steps.now + n * (a.run.now.setup.sizes.pages + 2)) (sym none) (omega arith);
    }

pub returns-then-i-first-clause-made : goal.returns-then-i-first-clause-made
returns-then-i-first-clause-made g c =
    let a = c.args in
    none_free_yet a.run.now a.actor.now a.next.now c.requires.before a.new c.requires.new c.room_to_reserve.new.self
    c.room_to_reserve.ensures.same (c.room_to_reserve.ensures.stays a.run.now.program) c.loop-i.actor c.reserve_page-is_free.new.actor
    (c.loop-i.invariant.same c.if-i-first.true) (c.if-not-is_free.ensures.none refl)

pub returns-then-not-is_free-clause-made : goal.returns-then-not-is_free-clause-made
returns-then-not-is_free-clause-made g c =
    let a = c.args in
    too_few a.run.now a.actor.now a.next.now c.requires.before a.new c.requires.new c.room_to_reserve.new.self
    c.room_to_reserve.ensures.same (c.room_to_reserve.ensures.stays a.run.now.program) (c.loop-i.i - length c.reserved-first.result.now)
    c.loop-i.actor c.loop-i.invariant.reserved c.reserve_page-is_free.new.actor (c.if-not-is_free.ensures.none refl)

pub returns-then-i-first-clause-cost : goal.returns-then-i-first-clause-cost
returns-then-i-first-clause-cost g c =
    let a = c.args in
    let all = c.data_pages-all.ensures ∙ ap (λ n. data_pages_of n a.new.words a.new.before) c.page_words.ensures in
    let more = c.loop-i-test.true in
    cost_within (length c.reserved-first.result.now) c.loop-i.i
    (data_pages_of a.run.now.setup.sizes.page_words a.new.words a.new.before + 1) (a.run.now.setup.sizes.pages + 2)
    a.steps.now c.loop-i.steps c.reserve_page-is_free.new.steps (omega (arith, all, more)) c.loop-i.invariant.counted
    c.reserve_page-is_free.ensures.cost

pub returns-then-not-is_free-clause-cost : goal.returns-then-not-is_free-clause-cost
returns-then-not-is_free-clause-cost g c =
    let a = c.args in
    let all = c.data_pages-all.ensures ∙ ap (λ n. data_pages_of n a.new.words a.new.before) c.page_words.ensures in
    let more = c.loop-i-test.true in
    cost_within (length c.reserved-first.result.now) c.loop-i.i
    (data_pages_of a.run.now.setup.sizes.page_words a.new.words a.new.before + 1) (a.run.now.setup.sizes.pages + 2)
    a.steps.now c.loop-i.steps c.reserve_page-is_free.new.steps (omega (arith, all, more)) c.loop-i.invariant.counted
    c.reserve_page-is_free.ensures.cost

pub loop-i-preserved : goal.loop-i-preserved
loop-i-preserved g c =
    let a = c.args in
    let first = length c.reserved-first.result.now in
    let b = record a.actor.now { body = c.room_to_reserve.new.self } in
    let from = c.loop-i.auto.i in
    let one : (c.loop-i.i - first) + 1 ≡ c.loop-i.i + 1 - first = omega (arith, from) in
    record {
      reserved = subst (λ n. HasReserved a.run.now b c.reserve_page-is_free.new.actor a.next.now a.new n) one
          (reserved_then a.run.now b c.loop-i.actor c.reserve_page-is_free.new.actor a.next.now a.new (c.loop-i.i - first)
          c.loop-i.invariant.reserved (c.if-not-is_free.ensures.one refl));
      same = λ e. absurd (omega (arith, e, from));
      counted = next_cost first c.loop-i.i (a.run.now.setup.sizes.pages + 2) a.steps.now c.loop-i.steps c.reserve_page-is_free.new.steps from
          c.loop-i.invariant.counted c.reserve_page-is_free.ensures.cost;
    }

pub returns-clause-made : goal.returns-clause-made
returns-clause-made g c =
    let a = c.args in
    let few = few_reserved a.run.now a.actor.now a.next.now c.requires.before a.new c.requires.new in
    let same = ap length c.reserved-first.ensures in
    let all = c.data_pages-all.ensures ∙ ap (λ n. data_pages_of n a.new.words a.new.before) c.page_words.ensures in
    let most = c.loop-i.auto.i-end in
    let least = c.loop-i-test.false in
    reserved_all a.run.now a.actor.now a.next.now c.requires.before a.new c.requires.new c.room_to_reserve.new.self
    c.room_to_reserve.ensures.same (c.room_to_reserve.ensures.stays a.run.now.program) (c.loop-i.i - length c.reserved-first.result.now)
    c.loop-i.actor c.loop-i.invariant.reserved (omega (arith, few, same, all, most, least))

pub returns-clause-cost : goal.returns-clause-cost
returns-clause-cost g c =
    let a = c.args in
    let few = few_reserved a.run.now a.actor.now a.next.now c.requires.before a.new c.requires.new in
    let same = ap length c.reserved-first.ensures in
    let all = c.data_pages-all.ensures ∙ ap (λ n. data_pages_of n a.new.words a.new.before) c.page_words.ensures in
    let most = c.loop-i.auto.i-end in
    all_cost (length c.reserved-first.result.now) c.loop-i.i
    (data_pages_of a.run.now.setup.sizes.page_words a.new.words a.new.before + 1) (a.run.now.setup.sizes.pages + 2)
    a.steps.now c.loop-i.steps (omega (arith, few, same, all, most)) c.loop-i.invariant.counted
