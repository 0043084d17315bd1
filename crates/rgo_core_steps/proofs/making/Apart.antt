-- The moves that store the words of a spread object: as in `Making`, in reserved pages.
use Rattle.std.proofs.Common.{◌≡◌, inl, inr, ⊎_elim, ℕ, suc, Bool, true, false, List, ◌∷◌, if◌then◌else◌, refl, ap, sym, subst, ◌∙◌}
use Rattle.std.proofs.lemmas.Option.{same_Some}
use Rattle.rgo_sound.specs.Memory.Memory.{Object}
use Rattle.rgo_sound.specs.Typed.declared.types.Type.{«Type»}
use Rattle.rgo_core.specs.Channels.Records.{at_rest}
use Rattle.rgo_core.specs.Memory.Parts.{MakesApart}
use Rattle.rgo_core.specs.Memory.Records.{Rest, with_word_apart}
use Rattle.rgo_core.specs.Memory.Spread.{spread_opening, table_words}
use Rattle.rgo_core.specs.ties.Bounds.{Points}
use Rattle.rgo_core.specs.Core.{Setup, layout}
use Rattle.rgo_core.specs.moves.NewObjects.{reserved_address, word_apart}
use Rattle.rgo_core.specs.Records.{Record, accessed}
use Rattle.rgo_core.specs.Steps.{Moves}
use Rattle.rgo_core.proofs.new_objects.ObjectsApart.{object_move_apart}
use Rattle.rgo_core.proofs.new_objects.WordsApart.{word_move_apart}
use Rattle.rgo_core_steps.specs.After.{making_apart}
use Rattle.rgo_core_steps.specs.Making.{IsNewWordApart, IsPlacedApart, NewPointsApart, covers, filling_apart, stored_in}
use Rattle.rgo_core_steps.proofs.accesses.Cells.{given_type_is}
use Rattle.rgo_core_steps.proofs.record_steps.After.{making_apart_is}
use Rattle.rgo_core_steps.proofs.making.Objects.{covers_all, filling_apart_is, next_object_is, object_plain}
use Rattle.rgo_core_steps.proofs.accesses.Telling.{tells_more}

module _ {T : Setup} (g : ℕ) {c : Record} {i word value : ℕ} (k : IsNewWordApart T c i word value) where
  makes : MakesApart (layout T) c.memory k.object (stored_in c.memory.make)
  makes = ⊎_elim
      (λ (e : c.memory.make ≡ Rest). inr (
        e,
        ap stored_in e,
        k.spread,
        k.small,
        k.all,
        object_plain T.code k.next.here.w k.next.to k.next.act k.next.from k.object k.next.makes,
      ))
      (λ e. inl e)
      k.making

  abbrev to_word : (P : ℕ → Record → Type 0)
      → Moves T g c (word_apart T c k.object i) (λ n. spread_opening k.object c.memory.reserved.pages i) P → Moves T g c word (λ n. value) P
  to_word P m = subst (λ w. Moves T g c w (λ n. value) P) (sym k.at)
      (subst (λ v. Moves T g c (word_apart T c k.object i) (λ n. v) P) (sym k.opens) m)

  abbrev stored : List ℕ
  stored = i ∷ stored_in c.memory.make

  abbrev all_words : ℕ
  all_words = table_words T.sizes.page_words k.object

  after : (b : Bool) → covers all_words stored ≡ b
      → filling_apart T c i ≡ (if b then making_apart T c
      else record c { clock = accessed c.clock; memory = with_word_apart c.memory k.object stored })
  after b is =
      filling_apart_is k.next i
      ∙ ap (λ b. if b then making_apart T c
      else record c { clock = accessed c.clock; memory = with_word_apart c.memory k.object stored }) is

  abbrev Tells : ℕ → Record → Type 0
  Tells n d = (d ≡ filling_apart T c i) × NewPointsApart T c i

  placed : IsPlacedApart T c k.object → NewPointsApart T c i
  placed is object made all = subst (IsPlacedApart T c) (same_Some k.object object (sym (next_object_is k.next) ∙ made)) is

  none_yet : covers all_words stored ≡ false → NewPointsApart T c i
  none_yet lacks object made all =
      let o : k.object ≡ object = same_Some k.object object (sym (next_object_is k.next) ∙ made) in
      absurd (let e : false ≡ true = sym lacks ∙ (ap (λ (o : Object). covers (table_words T.sizes.page_words o) stored) o ∙ all) in cc e)

  pub zero_apart_moves : c.side ≡ at_rest
      → Moves T g c word (λ n. value) (λ n d. (d ≡ filling_apart T c i) × NewPointsApart T c i)
  zero_apart_moves rests = by (covers all_words stored) refl
    where
      by : (b : Bool) → covers all_words stored ≡ b → Moves T g c word (λ n. value) Tells
      by true is = to_word Tells (tells_more T g c (word_apart T c k.object i)
          (λ n. spread_opening k.object c.memory.reserved.pages i)
          (λ n d e. (
            e.0 ∙ (sym (making_apart_is T k.next.here) ∙ sym (after true is)),
            placed (e.1, subst (λ (ty : «Type»). Points T ty (suc (reserved_address T c))) (sym (given_type_is T k.next.here)) e.2),
          ))
          (object_move_apart T g c k.next.to k.next.act k.next.from k.next.removes k.next.here k.object k.next.region
          (stored_in c.memory.make) i rests k.next.makes k.next.in_region makes k.low (covers_all all_words stored is)))
      by false is = to_word Tells (tells_more T g c (word_apart T c k.object i)
          (λ n. spread_opening k.object c.memory.reserved.pages i) (λ n d e. (e ∙ sym (after false is), none_yet is))
          (word_move_apart T g c k.object (stored_in c.memory.make) i makes k.low))
