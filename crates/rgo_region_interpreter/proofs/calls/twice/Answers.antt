use Rattle.std.proofs.Common.{◌≡◌, ◌∙◌, ◌+◌, ◌-◌, ◌∷◌, [], ℕ, true, false, Some, None, ap, sym, drop, map, reverse, arith, nat_eq, if◌then◌else◌}
use Rattle.std.proofs.lemmas.List.{reverse-append}
use Rattle.std.specs.HashMap.{get}
use Rattle.rgo_region_machine.specs.declared.regions.Region.TheVariants.{Numbered}
use Rattle.rgo_region_machine.specs.Owed.{twice}
use Rattle.rgo_region_interpreter.proofs.passing.Lists.{next_seen, seen_in, seen_step, seen_still, since_ok, stands_from_none, stands_from_some, twice_step}
use Rattle.rgo_region_interpreter.proofs.calls.twice.Goals as goal

pub loop-i-preserved : goal.loop-i-preserved
loop-i-preserved c =
    let rs = c.args.regions.now in
    let j = c.loop-i.i - 1 in
    let q = c.in-Numbered.r in
    let h = next_seen rs c.loop-i.i c.loop-i-test.true c.loop-i.invariant.0 in
    let at = c.in-Some.is ∙ ap Some c.in-Numbered.is in
    let got : None ≡ get nat_eq c.loop-i.seen q = c.in-None.ensures.value in
    let seen = got ∙ c.loop-i.invariant.2 q ∙ ap (seen_in q) h.1 in
    let put : (r : ℕ) → get nat_eq c.insert-in-None.new.self r ≡ (if nat_eq q r then Some false else get nat_eq c.loop-i.seen r) =
    (since_ok c.insert-in-None.result _ (sym c.if-is_err-2.ensures.value) c.insert-in-None.ensures.updates).0 in (
      omega (arith, h.0),
      c.loop-i.invariant.1 ∙ ap twice h.1 ∙ sym (twice_step rs j q None h.0 at seen),
      λ r.
          put r
          ∙ ap (λ o. if nat_eq q r then Some false else o) (c.loop-i.invariant.2 r ∙ ap (seen_in r) h.1)
          ∙ ap (λ s. if nat_eq q r then Some s else seen_in r (drop (j + 1) rs)) (sym (stands_from_none q (drop (j + 1) rs) seen))
          ∙ sym (seen_step rs j q r h.0 at),
    )

-- it was seen once
pub loop-i-preserved-else-is_err : goal.loop-i-preserved-else-is_err
loop-i-preserved-else-is_err c =
    let rs = c.args.regions.now in
    let j = c.loop-i.i - 1 in
    let q = c.in-Numbered.r in
    let h = next_seen rs c.loop-i.i c.loop-i-test.true c.loop-i.invariant.0 in
    let at = c.in-Some.is ∙ ap Some c.in-Numbered.is in
    let got : Some false ≡ get nat_eq c.loop-i.seen q = ap Some (sym c.in-Some-false.field-0-test) ∙ c.in-Some-false.ensures.value in
    let seen = got ∙ c.loop-i.invariant.2 q ∙ ap (seen_in q) h.1 in
    let put : (r : ℕ) → get nat_eq c.insert.new.self r ≡ (if nat_eq q r then Some true else get nat_eq c.loop-i.seen r) =
    (since_ok c.insert.result _ (sym c.if-is_err.ensures.value) c.insert.ensures.updates).0 in (
      omega (arith, h.0),
      ap (λ l. map Numbered (reverse l)) c.in_ok-push-in-Some-false.ensures.items
          ∙ ap (map Numbered) (reverse-append c.loop-i.found.items (q ∷ []))
          ∙ ap (λ l. Numbered q ∷ l) (c.loop-i.invariant.1 ∙ ap twice h.1)
          ∙ sym (twice_step rs j q (Some false) h.0 at seen),
      λ r.
          put r
          ∙ ap (λ o. if nat_eq q r then Some true else o) (c.loop-i.invariant.2 r ∙ ap (seen_in r) h.1)
          ∙ ap (λ s. if nat_eq q r then Some s else seen_in r (drop (j + 1) rs)) (sym (stands_from_some q (drop (j + 1) rs) false seen))
          ∙ sym (seen_step rs j q r h.0 at),
    )

-- it was seen twice
pub loop-i-preserved-in-Some-true : goal.loop-i-preserved-in-Some-true
loop-i-preserved-in-Some-true c =
    let rs = c.args.regions.now in
    let j = c.loop-i.i - 1 in
    let q = c.in-Numbered.r in
    let h = next_seen rs c.loop-i.i c.loop-i-test.true c.loop-i.invariant.0 in
    let at = c.in-Some.is ∙ ap Some c.in-Numbered.is in
    let got : Some true ≡ get nat_eq c.loop-i.seen q = ap Some (sym c.in-Some-true.field-0-test) ∙ c.in-Some-true.ensures.value in
    let seen = got ∙ c.loop-i.invariant.2 q ∙ ap (seen_in q) h.1 in (
      omega (arith, h.0),
      c.loop-i.invariant.1 ∙ ap twice h.1 ∙ sym (twice_step rs j q (Some true) h.0 at seen),
      λ r.
          seen_still (get nat_eq c.loop-i.seen) rs j q r h.0 at got (λ k. c.loop-i.invariant.2 k ∙ ap (seen_in k) h.1),
    )
