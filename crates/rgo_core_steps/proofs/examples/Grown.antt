-- The examples of what several accesses leave, by computation.
use Rattle.std.proofs.Common.{◌≡◌, ◌<◌, ℕ, zero, suc, [], ◌∷◌, Some, refl, sym, subst, arith}
use mathlib.Core.Option.{some, some-injective, some-ne-none}
use lib.ListN.{get_elem?}
use Rattle.rgo_core.specs.Rule.Counting.{adds, child_record, new_adder, starts, three}
use Rattle.rgo_core.specs.Rule.Histories.{access}
use Rattle.rgo_core.specs.Rule.Views.{view}
use Rattle.rgo_core.specs.Rule.declared.counting.Adder.{Adder}
use Rattle.rgo_core.specs.Rule.declared.accesses.Access.{Access}
use Rattle.rgo_core.specs.Rule.declared.accesses.Kind.TheVariants.{DrawTicket, Load}
use Rattle.rgo_core_steps.specs.Grown.{Found, GrownExamples, Made}
use Rattle.rgo_core_steps.proofs.accesses.Growing.{made_counts}

abbrev counted : Adder → ℕ
counted c = c.accesses

apart : (a b : ℕ) → a ≡ b → a < b → ⊥
apart a b e h = omega arith

each : (P : Access → Type 0) → P (adds 0 0) → P (starts 0 1) → P (adds 1 1) → (i : ℕ) (a : Access) → get_elem? three i ≡ some a → P a
each P p q r zero a e = subst P (some-injective (adds 0 0) a e) p
each P p q r (suc zero) a e = subst P (some-injective (starts 0 1) a e) q
each P p q r (suc (suc zero)) a e = subst P (some-injective (adds 1 1) a e) r
each P p q r (suc (suc (suc i))) a e = absurd (some-ne-none a (sym e))

of : (g h : ℕ) → Some g ≡ Some h → g ≡ h
of g h e = cc

not_load : DrawTicket ≡ Load → ⊥
not_load e = cc

none : (s : Found 1 three DrawTicket 0 0) → ⊥
none s = each (λ a. a.by ≡ Some 1 → a.found ≡ 0 → ⊥)
    (λ by found. apart 0 1 (of 0 1 by) (omega arith)) (λ by found. apart 0 1 (of 0 1 by) (omega arith))
    (λ by found. apart 0 1 (sym found) (omega arith)) s.place s.access s.there s.own s.found

nobody : (s : Found 2 three DrawTicket 0 1) → ⊥
nobody s = each (λ a. a.by ≡ Some 2 → ⊥) (λ by. apart 0 2 (of 0 2 by) (omega arith))
    (λ by. apart 0 2 (of 0 2 by) (omega arith)) (λ by. apart 1 2 (of 1 2 by) (omega arith)) s.place s.access s.there s.own

other : (s : Found 1 three Load 0 1) → ⊥
other s = each (λ a. a.by ≡ Some 1 → a.kind ≡ Load → ⊥) (λ by is. apart 0 1 (of 0 1 by) (omega arith))
    (λ by is. apart 0 1 (of 0 1 by) (omega arith)) (λ by is. not_load is) s.place s.access s.there s.own s.of_kind

two_made : (a : Made counted new_adder (view ((1, new_adder) ∷ []) [], []) (λ g. access g DrawTicket 0 1 2 ∷ access g Load 0 2 2 ∷ [])
    child_record (view ((1, child_record) ∷ []) three, [])) → ⊥
two_made a = apart 1 2 (made_counts counted new_adder (view ((1, new_adder) ∷ []) [], []) (view ((1, child_record) ∷ []) three, [])
    (λ g. access g DrawTicket 0 1 2 ∷ access g Load 0 2 2 ∷ []) child_record a) (omega arith)

pub grown_examples : GrownExamples
grown_examples = record {
  grew = record { alone = (refl, refl); same = refl; seen = refl; more = refl; counts = λ any. refl };
  not_grew = λ g. apart 0 1 (sym g.more) (omega arith);
  another = λ g. apart 0 1 (sym g.same) (omega arith);
  own = refl;
  made = record {
    es = three;
    grew = record { alone = (refl, refl); same = refl; seen = refl; more = refl; counts = λ any. refl };
    own = refl;
    after = refl;
  };
  not_made = λ a. two_made a;
  found = record {
    place = 2;
    access = adds 1 1;
    there = refl;
    own = refl;
    of_kind = refl;
    word = refl;
    found = refl;
  };
  not_found = none;
  not_its = nobody;
  not_so = other;
}
