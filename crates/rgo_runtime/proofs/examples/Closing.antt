-- Prints in turn and out of turn, and one that nobody has printed.
use Rattle.std.proofs.Common.{◌≡◌, ◌⊎◌, inl, ◌≤◌, ℕ, zero, suc, List, [], ◌∷◌, None, Some, map, slice_get, refl, sym, ap, subst, arith}
use Rattle.std.proofs.lemmas.Option.{same_Some}
use lib.ListN.{get_elem?}
use mathlib.Core.Option.{some, some-injective, some-ne-none}
use Rattle.rgo_core.specs.Memory.Records.{Calm, Idle, Rest}
use Rattle.rgo_core.specs.Channels.Records.{Free}
use Rattle.rgo_core.specs.runs.Opening.{first_of, opening_table}
use Rattle.rgo_core.specs.Records.{Drawn, Record, drawn_at}
use Rattle.rgo_core.specs.Rule.Views.{HasRow, view}
use Rattle.rgo_table_runs.specs.Goroutine.Goroutines.{IsTidy}
use Rattle.rgo_sound.specs.RegionMachine.Counts.{Counts}
use Rattle.rgo_sound.specs.Tally.{no_share}
use Rattle.rgo_table_runs.proofs.closing.Examples.{closing_examples as closed_tables}
use Rattle.rgo_table_runs.specs.closing.Members.{ListHasNumber, IsOneOf, Member, retired}
use Rattle.rgo_table_runs.specs.closing.Gathering.{IsDrawnIn}
use Rattle.rgo_runtime.specs.Closing.{AreInTurn, ClosingExamples}
use Rattle.rgo_runtime.specs.Crews.{AreRetired, NobodyIsLost}
use Rattle.rgo_runtime.proofs.ending.Closing.{closes_anyway}
use Rattle.rgo_runtime.proofs.examples.Crews.{each_of_one}
use Rattle.rgo_runtime.proofs.leaving.One.{none_in}

-- `main` alone, which has started nobody
alone : (its : Record) → its.clock.children ≡ [] → NobodyIsLost (map retired ((0, its) ∷ [])) []
alone its childless = record {
  main = (retired (0, its), (0, refl), refl);
  children = λ m h one listed.
      let at = subst (λ (x : Member). ListHasNumber x.its.clock.children h) (only_one m one) listed in
      let z : None ≡ Some h = subst (λ (l : List ℕ). slice_get l at.0 ≡ Some h) childless at.1 in absurd (cc z);
  are = λ d t. absurd (none_in d t);
}
  where
    only_one : (m : Member) → IsOneOf (retired (0, its) ∷ []) m → m ≡ retired (0, its)
    only_one m (zero, e) = sym (some-injective (retired (0, its)) m e)
    only_one m (suc i, e) = absurd (some-ne-none m (sym e))

none_yet : AreInTurn [] []
none_yet = record { turns = λ i d e. absurd (some-ne-none d (sym e)); next = λ d t. absurd (none_in d t) }

has_retired : (its : Record) → its.side.hold ≡ Free → its.memory.make ≡ Rest → its.memory.claim ≡ Idle → its.memory.give ≡ Calm
    → its.clock.first ≡ None → AreRetired ((0, its) ∷ []) (its.clock.share ∷ []) None
has_retired its hold make claim give first = record {
  tidy = each_of_one its (λ g c. IsTidy c) (record { hold = hold; make = make; claim = claim; give = give });
  is_first = each_of_one its (λ g c. c.clock.first ≡ None) first;
  its = each_of_one its
      (λ g c. ((d : Record) × HasRow ((0, its) ∷ []) g d × (slice_get (its.clock.share ∷ []) g ≡ Some d.clock.share))
      ⊎ ((1 ≤ g) × (c.clock.share ≡ no_share)))
      (inl (its, (0, refl), refl));
  others = belongs;
}
  where
    belongs : (g : ℕ) (share : Counts) → slice_get (its.clock.share ∷ []) g ≡ Some share
        → ((c : Record) × HasRow ((0, its) ∷ []) g c × (c.clock.share ≡ share)) ⊎ (share ≡ no_share)
    belongs zero share at = inl (its, (0, refl), same_Some its.clock.share share at)
    belongs (suc g) share at = let z : None ≡ Some share = at in absurd (cc z)

pub closing_examples : ClosingExamples
closing_examples = record {
  in_turn = record { turns = first; next = later };
  held_back = λ k. k.next (drawn_at 1 (7 ∷ [])) (0, refl) refl;
  out_of_turn = λ k. let z : 1 ≡ 0 = k.turns 0 (drawn_at 1 (9 ∷ [])) refl in absurd (omega (arith, z));
  closed = λ T checked ascends constants few.
      let e = (closed_tables.closed T checked ascends constants few).0 in (
        e,
        closes_anyway T (opening_table T) (view ((0, first_of T.code) ∷ []) []) e ((first_of T.code).clock.share ∷ []) None [] []
            (alone (first_of T.code) refl) none_yet.turns (has_retired (first_of T.code) refl refl refl refl refl),
      );
  made_up = λ T words e shares d k.
      let p = k.order.are 0 d refl in
      absurd (some-ne-none _ (sym (k.all.here p.goroutine p.its p.has).1));
}
  where
    first : (i : ℕ) (d : Drawn) → get_elem? (drawn_at 0 (9 ∷ []) ∷ []) i ≡ some d → d.ticket ≡ i
    first zero d e = ap (λ (x : Drawn). x.ticket) (sym (some-injective (drawn_at 0 (9 ∷ [])) d e))
    first (suc i) d e = absurd (some-ne-none d (sym e))

    later : (d : Drawn) → IsDrawnIn (drawn_at 2 (7 ∷ []) ∷ []) d → d.ticket ≡ 1 → ⊥
    later d (zero, e) is =
        let z : 2 ≡ d.ticket = ap (λ (x : Drawn). x.ticket) (some-injective (drawn_at 2 (7 ∷ [])) d e) in omega (arith, z, is)
    later d (suc i, e) is = absurd (some-ne-none d (sym e))
