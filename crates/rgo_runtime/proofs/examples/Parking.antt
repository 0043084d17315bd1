-- Examples: what holds of three values in queues, of values that are parked for two operations, and of prints from ticket 7 on.
use Rattle.std.proofs.Common.{◌≡◌, ◌++◌, ◌∷◌, [], ℕ, List, Some, All, ap, arith, length, length-append, refl, subst, sum, sym, ◌∙◌, take}
use Rattle.std.proofs.lemmas.List.Elements.{All-cons, All-head, All-nil}
use Rattle.std.proofs.lemmas.List.Sorted.{All-permutation, IsPermutation-reverse, IsPermutation-to_front, length_permutation}
use Rattle.std.proofs.Math.Seq.{take-nil}
use Rattle.rgo_outside.specs.Pieces.{IsEndOf}
use Rattle.rgo_runtime.specs.Parking.{ParkingExamples, QueueExamples, TakesAll, three_parked}
use Rattle.rgo_runtime.specs.Printing.{AreFrom, GivesSome, PrintingExamples, bytes_of_prints}
use Rattle.rgo_table_runs.specs.Goroutine.Acts.declared.prints.Print.{Print}

two_are_some : TakesAll three_parked (7 ∷ []) (7 ∷ 3 ∷ 2 ∷ []) → ⊥
two_are_some (more, come, same) =
    let few : 3 ≡ length {A = ℕ} (7 ∷ more) = ap length come in
    let many : length more ≡ 3 = length_permutation (1 ∷ 2 ∷ 3 ∷ []) more same in
    omega (arith, few, many)

pub queues : QueueExamples
queues = record {
  found = refl;
  left = refl;
  apart = λ e. cc;
  lost = λ e. cc;
  oldest = refl;
  youngest = refl;
  all = (3 ∷ 2 ∷ 1 ∷ [], refl, IsPermutation-reverse (1 ∷ 2 ∷ 3 ∷ []));
  some = two_are_some;
}

pub parking : ParkingExamples
parking = record {
  parks = record { joins = refl; others = refl; rest = refl };
  parks_elsewhere = λ p. omega (arith, ap length p.joins);
  parks_twice = λ p. omega (arith, ap (λ q. length q.senders) p.rest);
  wakes = record { many_come = refl; woken = refl; left = refl; others = refl; rest = refl };
  wakes_younger = λ w. omega (arith, ap sum w.woken);
  wakes_none = λ w. omega (arith, ap length w.woken);
  wakes_sender = λ w. omega (arith, ap (λ q. length q.senders) w.rest);
}

not_early : (third : Print) → third.ticket ≡ 9 → GivesSome (third ∷ []) 7 (Some []) (Some (1 ∷ [])) → ⊥
not_early third late gives = by gives.given gives.turns
    (All-permutation (λ p. p.ticket ≡ 9) (third ∷ []) (gives.given ++ gives.rest) gives.all
    (All-cons (λ p. p.ticket ≡ 9) third [] late (All-nil (λ p. p.ticket ≡ 9))))
    gives.count
    gives.out
  where
    by : (given : List Print) → AreFrom 7 given → All (λ p. p.ticket ≡ 9) (given ++ gives.rest) → (n : ℕ) → (1 ∷ [] ≡ take n (bytes_of_prints given)) → ⊥
    by [] turns all n out = let none = out ∙ take-nil n in cc
    by (p ∷ given) turns all n out =
        let nine = All-head (λ p. p.ticket ≡ 9) p (given ++ gives.rest) all in
        omega (arith, nine, turns.0)

pub printing : PrintingExamples
printing = record {
  turns = λ first second a b. (a, (b, tt));
  gap = λ first second b turns. omega (arith, b, turns.1.0);
  bytes = λ first second a b. ap (λ l. l ++ (second.bytes.items ++ [])) a ∙ ap (λ l. 1 ∷ (l ++ [])) b;
  goes = λ first third a b. record {
    given = first ∷ [];
    turns = (a, tt);
    all = IsPermutation-to_front (third ∷ []) first;
    many = refl;
    none = All-cons (λ p. p.ticket ≡ 8 → ⊥) third [] (λ e. omega (arith, e, b)) (All-nil (λ p. p.ticket ≡ 8 → ⊥));
    out = refl;
  };
  stays = λ first before now a gives. All-head (λ p. p.ticket ≡ 7 → ⊥) first [] gives.none a;
  lost = λ third before now gives.
      let one = length_permutation (third ∷ []) (gives.given ++ []) gives.all in
      omega (arith, one, gives.many, length-append gives.given []);
  early = not_early;
  piece = λ print e. (print, (0, omega arith, refl), subst (λ l. IsEndOf l (2 ∷ [])) (sym e) (1, omega arith, refl));
  other = λ piece. omega (arith, piece.1.1);
}
