-- When a record has no reserved pages: a goroutine has some only while its next instruction makes a spread object. The law of frames has
-- it of runs, and the core has the run.
use Rattle.std.proofs.Common.{◌≡◌, ℕ, ◌<◌, true, false, true≢false, List, [], ◌∷◌, length, Some, None, refl, ap, sym, ◌∙◌, arith}
use Rattle.std.proofs.lemmas.Option.{same_Some}
use Rattle.rgo_sound.specs.Machine.declared.picks.Pick.TheVariants.{One}
use Rattle.rgo_sound.specs.Memory.Memory.{Object}
use Rattle.rgo_sound.specs.RegionMachine.Machine.{Instruct, next_object, object_made, region_run, region_start, region_step}
use Rattle.rgo_sound.specs.RegionMachine.Objects.{is_spread}
use Rattle.rgo_sound.specs.RegionMachine.States.{Holder, RegionState}
use Rattle.rgo_sound.specs.Reserved.{IsReserved}
use Rattle.rgo_sound.specs.Tac.Tac.{TacState}
use Rattle.rgo_sound.proofs.plain.Steps.{Follows, step_follows, yields_is}
use Rattle.rgo_sound.proofs.counts.Pages.{reserved_for_next}
use Rattle.rgo_core_memory.specs.Ground.{Held, held_of}
use Rattle.rgo_core_memory.proofs.image.Steadies.{map_back}
use Rattle.rgo_core_memory.proofs.image.Stepped.{slice_get_none}
use Rattle.rgo_core.specs.Core.{Situation, Setup}
use Rattle.rgo_core.specs.Records.{Record}
use Rattle.rgo_core.proofs.image.Parts.{I}
use Rattle.rgo_core.proofs.runs.Runs.{runs_too}
use Rattle.rgo_core.proofs.image.Standing.{memory_at}

pub none_in : (pages : List ℕ) → (0 < length pages → ⊥) → pages ≡ []
none_in [] few = refl
none_in (p ∷ ps) few = absurd (few (omega arith))

module _ {T : Setup} {g : ℕ} {c : Record} (x : Situation T g c) where
  leads : region_run T.code T.sizes.page_words x.events ≡ Some x.s
  leads = runs_too T.code T.sizes.page_words T.limits x.events (region_start T.code) x.s x.core.story.leads

  -- its next instruction makes a spread object
  pub for_next : 0 < length c.memory.reserved.pages → (h : Holder) × IsReserved T.code T.sizes.page_words x.s g h
  for_next some =
      let f = (I x).memory.filled.reserved g c.memory (memory_at x) some in
      let b = map_back held_of x.s.holders g f.0 f.2 in
      let many : b.0.reserved ≡ length c.memory.reserved.pages = ap (λ (k : Held). k.reserved) b.2 ∙ f.5 in (
        b.0,
        reserved_for_next T.code T.sizes.page_words x.events x.s g b.0 x.core.sound.checked x.core.sound.written leads b.1
            (omega (arith, many, some)),
      )

  pub no_next : next_object T.code x.s g ≡ None → c.memory.reserved.pages ≡ []
  no_next none = none_in c.memory.reserved.pages (λ some.
      let r = for_next some in
      let e : None ≡ Some r.1.object = sym none ∙ r.1.next in cc e)

  -- before an instruction that adds no object
  pub adds_nothing : (t : RegionState) → region_step T.code T.sizes.page_words x.s (Instruct (One g)) ≡ Some t
      → length t.plain.memory.heap ≡ length x.s.plain.memory.heap → c.memory.reserved.pages ≡ []
  adds_nothing t step same =
      let f : Follows T.code T.sizes.page_words x.s (Instruct (One g)) t =
      yields_is {P = Follows T.code T.sizes.page_words x.s (Instruct (One g))} (region_step T.code T.sizes.page_words x.s (Instruct (One g))) t
      (step_follows T.code T.sizes.page_words x.s (Instruct (One g))) step in
      let long : length f.0.memory.heap ≡ length x.s.plain.memory.heap =
      ap (λ (p : TacState). length p.memory.heap) (sym f.2.plain) ∙ same in
      no_next (ap (object_made x.s) f.1
      ∙ slice_get_none f.0.memory.heap (length x.s.plain.memory.heap) (omega (arith, long)))

  -- and before one that makes an object which is not spread
  pub not_spread : (object : Object) → next_object T.code x.s g ≡ Some object → is_spread T.sizes.page_words object ≡ false
      → c.memory.reserved.pages ≡ []
  not_spread object next whole = none_in c.memory.reserved.pages (λ some.
      let r = for_next some in
      true≢false (sym r.1.spread ∙ (ap (is_spread T.sizes.page_words) (same_Some r.1.object object (sym r.1.next ∙ next)) ∙ whole)))
