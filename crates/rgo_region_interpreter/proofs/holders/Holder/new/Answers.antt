use Rattle.std.proofs.Common.{◌≡◌, ℕ, None, ◌+◌, ◌∙◌, ap, sym, refl, arith, rules, length, nat_eq, take, get_or}
use Rattle.std.specs.HashMap.{get}
use Rattle.std.proofs.lemmas.List.{take_all, take_more}
use Rattle.rgo_sound.specs.Stakes.{one_when}
use Rattle.rgo_region_interpreter.specs.Holders.{count_in, times_among}
use Rattle.rgo_region_interpreter.proofs.holding.Newest.{count_more, each_region, one_at_most, one_frame, times_push}
use Rattle.rgo_region_interpreter.proofs.holders.Holder.new.Goals as goal

pub loop-r-preserved : goal.loop-r-preserved
loop-r-preserved c =
    let base = c.args.base.items in
    let i = c.loop-r.r-index in
    let same = c.deref-r-items.ensures.value in
    λ q.
    ap count_in (c.in_ok-insert.ensures.updates.0 q)
    ∙ count_more (get nat_eq c.loop-r.protections q) (get_or c.deref-r-items.result.now i 0) q
    (times_among q (take i base)) (c.loop-r.invariant q)
    ∙ ap one_at_most
    (ap (λ l. times_among q (take i base) + one_when (nat_eq (get_or l i 0) q)) same
    ∙ sym (times_push q (take i base) (get_or base i 0))
    ∙ ap (times_among q) (sym (take_more base i 0 (omega (arith, ap length same)))))

pub returns : goal.returns
returns c = record {
  frames = one_frame (λ v. v.items) c.push.new.self.items c.new-frames.result.items c.args.names
      c.in_ok-push.ensures.items c.new-frames.ensures.items;
  protections = λ q. c.loop-r.invariant q
      ∙ ap (λ l. one_at_most (times_among q l)) (take_all c.loop-r.r-index c.args.base.items
      (omega (arith, ap length c.deref-r-items.ensures.value)));
  base_is = refl;
  fills =
      let none : (r : ℕ) → get nat_eq c.new-2.result r ≡ None = λ r. search rules in
      each_region _ refl none;
  reserved = refl;
  done = refl;
}
