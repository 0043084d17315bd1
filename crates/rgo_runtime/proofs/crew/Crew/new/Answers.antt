-- A crew of one: `main` has the only record, which has come from the driver's seat, and the first place of the shares. Its invariant and
-- that nobody is lost are two lemmas of `Crewing`, by the same facts.
use Rattle.std.proofs.Common.{◌≡◌, ◌∙◌, ◌∷◌, ◌++◌, [], None, ap, refl, replicate}
use Rattle.rgo_sound.specs.Tally.{no_share}
use Rattle.rgo_runtime.specs.Parking.{all_parked}
use Rattle.rgo_runtime.specs.Printing.{WaitingPrints}
use Rattle.rgo_runtime.proofs.crews.Steps.{main_is_crew, main_not_lost}
use Rattle.rgo_runtime.proofs.crew.Crew.new.Goals as goal

pub invariant_of-result : goal.invariant_of-result
invariant_of-result c =
    let main = c.in-Ok-spawn_main.ensures in
    let none = c.in-Ok-reserve.ensures.items ∙ c.new-ready.ensures.items in
    let ready : c.push_reserved.new.self.items ≡ record { run = c.args.run.now; goroutine = c.in-Ok-spawn_main.main.value; slice = 0; turned = None } ∷ [] =
    c.push_reserved.ensures.items ∙ (ap (λ l. l ++ c.new.result ∷ []) none ∙ ap (λ t. t ∷ []) c.new.ensures) in
    let shares = c.in-Ok.ensures.more.1 ∙ ap (λ l. l ++ replicate c.in-Ok.ensures.more.0 no_share) c.new-shares.ensures in
    main_is_crew c.args.run.now c.in-Ok-spawn_main.main.value main.main.1 _ c.in-Ok.ensures.more.0 refl ready (ap all_parked c.new-in-Ok-spawn_main.ensures)
    c.new-in-Ok-spawn_main-2.ensures.items (ap (λ me. me.0.records) main.seat) (main.own ∙ c.requires.own.0, c.requires.own.1) c.requires.pages shares c.in-Ok.ensures.room refl

pub returns-in-Ok-spawn_main-clause-begun : goal.returns-in-Ok-spawn_main-clause-begun
returns-in-Ok-spawn_main-clause-begun c =
    let main = c.in-Ok-spawn_main.ensures in
    let none = c.in-Ok-reserve.ensures.items ∙ c.new-ready.ensures.items in
    let ready : c.push_reserved.new.self.items ≡ record { run = c.args.run.now; goroutine = c.in-Ok-spawn_main.main.value; slice = 0; turned = None } ∷ [] =
    c.push_reserved.ensures.items ∙ (ap (λ l. l ++ c.new.result ∷ []) none ∙ ap (λ t. t ∷ []) c.new.ensures) in (
      refl,
      ap (λ (q : WaitingPrints). q.waiting) c.new-in-Ok-spawn_main-3.ensures,
      ap (λ (q : WaitingPrints). q.next) c.new-in-Ok-spawn_main-3.ensures,
      main_not_lost c.args.run.now c.in-Ok-spawn_main.main.value main.main.1 c.push_reserved.new.self.items (all_parked c.new-in-Ok-spawn_main.result)
          c.new-in-Ok-spawn_main-2.result.items c.spawn_main.new.seat.me.0.records ready (ap all_parked c.new-in-Ok-spawn_main.ensures)
          c.new-in-Ok-spawn_main-2.ensures.items (ap (λ me. me.0.records) main.seat) (main.main.2 ∙ c.requires.first),
    )
