-- Where the definitions of a pass hold and where they do not.
use Rattle.std.proofs.Common.{◌≡◌, ℕ, zero, suc, List, [], ◌∷◌, ◌++◌, Some, None, slice_get, refl, ap, sym, subst, ◌∙◌, inl, arith}
use mathlib.Core.Option.{some-injective, some-ne-none}
use lib.ListN.{get_elem?}
use Rattle.rgo_core.specs.Core.{Setup}
use Rattle.rgo_core.specs.Records.{Record, looked}
use Rattle.rgo_core.specs.Memory.Records.{Calm}
use Rattle.rgo_core.specs.Rule.Histories.{access, accesses_by}
use Rattle.rgo_core.specs.Rule.Passes.{ChangesNothingBy}
use Rattle.rgo_core.specs.Rule.Views.{HasRow, view}
use Rattle.rgo_core.specs.Rule.declared.accesses.Access.{Access}
use Rattle.rgo_core.specs.Rule.declared.accesses.Kind.TheVariants.{Load}
use Rattle.rgo_sound.specs.Machine.declared.limits.Shortage.TheVariants.{Pages, Regions}
use Rattle.rgo_table_runs.specs.passing.Examples.{TablePassExamples, returned_record, look_at_clock}
use Rattle.rgo_table_runs.specs.passing.Passes.{AllPassed}
use Rattle.rgo_table_runs.specs.passing.Turns.{HadTurn, HasPassed, AccessesAreKnown, Over}

-- an empty list has no parts
no_parts : (xs ys : List Access) → [] ≡ xs ++ ys → xs ≡ []
no_parts [] ys e = refl
no_parts (x ∷ xs) ys e = cc

not_known : (k : AccessesAreKnown [] 1 1) → ⊥
not_known k = let e : 1 ≡ 0 = k.own ∙ ap (accesses_by 1) (no_parts k.early k.later k.is) in omega (arith, e)

front_none : (xs ys : List Access) → xs ++ ys ≡ [] → xs ≡ []
front_none xs ys e = no_parts xs ys (sym e)

not_before : (g : ℕ) (c : Record) → HadTurn (look_at_clock ∷ []) [] g c → ⊥
not_before g c k = let e : look_at_clock ∷ [] ≡ [] = front_none (look_at_clock ∷ []) k.front (front_none ((look_at_clock ∷ []) ++ k.front) k.turn
    (front_none (((look_at_clock ∷ []) ++ k.front) ++ k.turn) k.rest (sym k.is))) in cc e

still_look : ChangesNothingBy 1 (look_at_clock ∷ [])
still_look zero a e q = let same = some-injective look_at_clock a e in ap (λ (x : Access). x.left) (sym same) ∙ ap (λ (x : Access). x.found) same
still_look (suc i) a e q = absurd (some-ne-none a (sym e))

its_turn : HadTurn [] (look_at_clock ∷ []) 1 (looked returned_record)
its_turn = record {
  had = 0;
  known = record { early = []; later = []; is = refl; own = refl };
  front = [];
  turn = look_at_clock ∷ [];
  rest = [];
  is = refl;
  more = refl;
  whole = refl;
  still = still_look;
}

passed_over : (T : Setup) → HasPassed T [] [] 0 returned_record None
passed_over T = record {
  tidy = record { hold = refl; make = refl; claim = refl; give = refl };
  stands = Over refl (record { early = []; later = []; is = refl; own = refl }) (record { frames = refl; duties = refl });
}

module _ (P : ℕ → Record → Type 0) (p : P 0 returned_record) where
  each_of_one : (g : ℕ) (c : Record) → HasRow ((0, returned_record) ∷ []) g c → P g c
  each_of_one g c (zero, e) = subst (λ (r : ℕ × Record). P r.0 r.1) (some-injective (0, returned_record) (g, c) e) p
  each_of_one g c (suc k, e) = absurd (some-ne-none (g, c) (sym e))

no_child : (h : ℕ) → None ≡ Some h → ⊥
no_child h e = cc e

one_passed : (T : Setup) → AllPassed T (view ((0, returned_record) ∷ []) []) ((0, returned_record) ∷ []) [] (λ g. None)
one_passed T = record {
  all = record {
    here = λ g c has. has;
    family = record {
      main = (returned_record, (0, refl));
      children = λ g h i c has at. each_of_one (λ g c. slice_get c.clock.children i ≡ Some h → (d : Record) × HasRow ((0, returned_record) ∷ []) h d)
          (λ e. absurd (no_child h e)) g c has at;
    };
    ascending = λ i r q e f. absurd (some-ne-none q (sym f));
    calm = each_of_one (λ g c. c.memory.give ≡ Calm) refl;
  };
  since = [];
  seen = refl;
  each = each_of_one (λ g c. HasPassed T [] [] g c None) (passed_over T);
}

other_lack : Some Pages ≡ Some Regions → ⊥
other_lack e = cc e

pub passing_examples : TablePassExamples
passing_examples = record {
  known = record { early = look_at_clock ∷ []; later = []; is = refl; own = refl };
  unknown = not_known;
  had_turn = its_turn;
  changed = λ k e. let s : 6 ≡ 5 = k.still 0 (access 1 Load 0 5 6) (ap (λ (l : List Access). get_elem? l 0) e) refl in omega (arith, s);
  before = not_before;
  waits = λ T g c es place w. inl (place, w);
  too_large = λ T g c es k. k;
  over = passed_over;
  locked = λ T before history g c lack no k. no k.tidy.hold;
  all = one_passed;
  unseen = λ T lack k. let e : [] ≡ (look_at_clock ∷ []) ++ k.since = k.seen in cc e;
  short = refl;
  other = λ e. other_lack (sym e);
  went = λ lack k. k;
}
