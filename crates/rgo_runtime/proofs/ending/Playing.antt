-- What a driver knows from round to round: `CrewContinues` is composed of steps in which no print goes out and of steps in which some do.
-- In the second kind, tickets and bytes of what goes out continue those of what has gone out before.
use Rattle.std.proofs.Common.{◌≡◌, ◌+◌, ℕ, zero, suc, List, [], ◌∷◌, ◌++◌, Option, None, Some, All, MatchOption, length, refl, ap, sym, subst, ◌∙◌, append-nil, append_assoc, arith, take}
use mathlib.Core.Option.{some, some-injective, some-ne-none}
use lib.ListN.{get_elem?}
use Rattle.std.proofs.KnownBytes.{Appends-trans}
use Rattle.std.proofs.Math.Seq.{take-append-add}
use Rattle.std.proofs.lemmas.List.{length-append, length-map}
use Rattle.std.proofs.lemmas.List.Elements.{All-head, All-tail}
use Rattle.std.specs.Io.KnownBytes.{Appends}
use Rattle.rgo_core.specs.Records.{Drawn}
use Rattle.rgo_table_runs.specs.Goroutine.Acts.declared.prints.Print.{Print}
use Rattle.rgo_table_runs.specs.Goroutine.Goroutines.{drawn_by}
use Rattle.rgo_table_runs.specs.closing.Gathering.{IsDrawnIn}
use Rattle.rgo_table_runs.specs.closing.Members.{NoneIsLost}
use Rattle.rgo_table_runs.specs.closing.Prints.{bytes_of}
use Rattle.rgo_runtime.specs.Closing.{AreInOrder}
use Rattle.rgo_runtime.specs.Crew.{Crew, HasPassedAll, KeepsAll, crew_members}
use Rattle.rgo_runtime.specs.Crews.{drawn}
use Rattle.rgo_runtime.specs.Printing as printing
use Rattle.rgo_runtime.specs.Printing.{AreFrom, GivesOut, GivesSome}
use Rattle.rgo_runtime.specs.Runs.{EndsFor, CrewContinues, NoneIsNext}
use Rattle.rgo_runtime.specs.declared.deadlock.Passed.{Passed}
use Rattle.rgo_runtime.specs.declared.runs.Why.{Why}
use Rattle.rgo_runtime.specs.declared.runs.Why.TheVariants.{Memory, Over, Steps, Stuck, Write}
use Rattle.rgo_runtime.proofs.crews.Parts.{keeps_out}
use Rattle.rgo_runtime.proofs.crews.Moving.{kept_then}

-- ---- prints that go out

-- tickets from n on, in order
abbrev AreOnFrom : ℕ → List Drawn → Type 0
AreOnFrom n given = (i : ℕ) (d : Drawn) → get_elem? given i ≡ some d → d.ticket ≡ n + i

on_from : (n : ℕ) (more : List Print) → AreFrom n more → AreOnFrom n (drawn more)
on_from n [] turns i d at = absurd (some-ne-none d (sym at))
on_from n (p ∷ ps) turns zero d at =
    let same = ap (λ (x : Drawn). x.ticket) (some-injective (drawn_by p) d at) in omega (arith, same, turns.0)
on_from n (p ∷ ps) turns (suc i) d at = let later = on_from (n + 1) ps turns.1 i d at in omega (arith, later)

joined : (n : ℕ) (given : List Drawn) (more : List Print) → AreOnFrom n given → AreFrom (n + length given) more
    → AreOnFrom n (given ++ drawn more)
joined n [] more first turns i d at =
    let none : n + 0 ≡ n = omega arith in on_from n more (subst (λ (k : ℕ). AreFrom k more) none turns) i d at
joined n (g ∷ given) more first turns zero d at = first 0 d at
joined n (g ∷ given) more first turns (suc i) d at =
    let one : n + length (g ∷ given) ≡ n + 1 + length given = omega arith in
    let later = joined (n + 1) given more (λ j e is. let its = first (suc j) e is in omega (arith, its))
    (subst (λ (k : ℕ). AreFrom k more) one turns) i d at in
    omega (arith, later)

-- prints with the following tickets come after those that have gone out
pub in_order : (given : List Drawn) (from : ℕ) (more : List Print) → AreInOrder given → from ≡ length given → AreFrom from more
    → AreInOrder (given ++ drawn more)
in_order given from more first is turns i d at =
    let from_nought : from ≡ 0 + length given = omega (arith, is) in
    let all = joined 0 given more (λ j e its. let t = first j e its in omega (arith, t))
    (subst (λ (k : ℕ). AreFrom k more) from_nought turns) i d at in
    omega (arith, all)

bytes_joined : (given more : List Drawn) → bytes_of (given ++ more) ≡ bytes_of given ++ bytes_of more
bytes_joined [] more = refl
bytes_joined (d ∷ given) more =
    ap (λ (l : List ℕ). d.bytes ++ l) (bytes_joined given more) ∙ sym (append_assoc d.bytes (bytes_of given) (bytes_of more))

bytes_drawn : (more : List Print) → bytes_of (drawn more) ≡ printing.bytes_of_prints more
bytes_drawn [] = refl
bytes_drawn (p ∷ ps) = ap (λ (l : List ℕ). p.bytes.items ++ l) (bytes_drawn ps)

-- their bytes come after those that have gone out
bytes_all : (given : List Drawn) (more : List Print) → bytes_of (given ++ drawn more) ≡ bytes_of given ++ printing.bytes_of_prints more
bytes_all given more = bytes_joined given (drawn more) ∙ ap (λ (l : List ℕ). bytes_of given ++ l) (bytes_drawn more)

module _ (before after : Crew) (was now : Option (List ℕ)) (rest : after ≡ record before { waiting = after.waiting; next = after.next }) where
  abbrev same : crew_members before ≡ crew_members after
  same = sym (ap crew_members rest)

  pub goes_out : GivesOut before.waiting before.next after.waiting after.next was now → CrewContinues before was after now
  goes_out gives old given h =
      let many : length (given ++ drawn gives.given) ≡ length given + length gives.given =
      length-append given (drawn gives.given) ∙ ap (λ (n : ℕ). length given + n) (length-map gives.given drawn_by) in (
        given ++ drawn gives.given,
        record {
          none_lost = subst (λ ms. NoneIsLost ms ((given ++ drawn gives.given) ++ drawn after.waiting)) same
              (keeps_out (crew_members before) given before.waiting gives.given after.waiting gives.all h.none_lost);
          turns = in_order given before.next gives.given h.turns h.next gives.turns;
          next = omega (arith, gives.many, h.next, many);
          out = subst (Appends old now) (sym (bytes_all given gives.given))
              (Appends-trans old was now (bytes_of given) (printing.bytes_of_prints gives.given) h.out gives.out);
        },
      )

  -- a write failed
  pub fails : GivesSome before.waiting before.next was now → EndsFor Write before was after now
  fails gives old given h =
      let bytes = printing.bytes_of_prints gives.given in
      let n = length (bytes_of given) + gives.count in (
        given ++ drawn gives.given,
        record {
          rest = drawn gives.rest;
          none_lost = subst (λ ms. NoneIsLost ms ((given ++ drawn gives.given) ++ drawn gives.rest)) same
              (keeps_out (crew_members before) given before.waiting gives.given gives.rest gives.all h.none_lost);
          turns = in_order given before.next gives.given h.turns h.next gives.turns;
          out = (
            n,
            subst (Appends old now) (sym (ap (take n) (bytes_all given gives.given) ∙ take-append-add (bytes_of given) bytes gives.count))
                (Appends-trans old was now (bytes_of given) (take gives.count bytes) h.out gives.out),
          );
        },
      )

-- none of those that still wait could go out
pub none_next : (waiting : List Print) (next : ℕ) → All (λ print. print.ticket ≡ next → ⊥) waiting
    → (d : Drawn) → IsDrawnIn (drawn waiting) d → d.ticket ≡ next → ⊥
none_next [] next none d at is = some-ne-none d (sym at.1)
none_next (p ∷ ps) next none d (zero, at) is =
    All-head (λ (print : Print). print.ticket ≡ next → ⊥) p ps none (ap (λ (x : Drawn). x.ticket) (some-injective (drawn_by p) d at) ∙ is)
none_next (p ∷ ps) next none d (suc i, at) is =
    none_next ps next (All-tail (λ (print : Print). print.ticket ≡ next → ⊥) p ps none) d (i, at) is

-- ---- one step after another

-- nothing goes out
pub goes_quietly : (before after : Crew) (out : Option (List ℕ)) → KeepsAll before after → after.next ≡ before.next → CrewContinues before out after out
goes_quietly before after out kept next old given h = (
  given,
  record {
    none_lost = subst (λ ms. NoneIsLost ms (given ++ drawn after.waiting)) (append-nil (crew_members after))
        (kept [] given (subst (λ ms. NoneIsLost ms (given ++ drawn before.waiting)) (sym (append-nil (crew_members before))) h.none_lost));
    turns = h.turns;
    next = next ∙ h.next;
    out = h.out;
  },
)

pub goes_then : (a b c : Crew) (was mid now : Option (List ℕ)) → CrewContinues a was b mid → CrewContinues b mid c now → CrewContinues a was c now
goes_then a b c was mid now first second old given h = let k = first old given h in second old k.0 k.1

pub ends_then : (why : Why) (a b c : Crew) (was mid now : Option (List ℕ)) → CrewContinues a was b mid → EndsFor why b mid c now → EndsFor why a was c now
ends_then Memory a b c was mid now first second = goes_then a b c was mid now first second
ends_then Write a b c was mid now first second = λ old given h. let k = first old given h in second old k.0 k.1
ends_then Over a b c was mid now first second = (goes_then a b c was mid now first second.0, second.1)
ends_then Steps a b c was mid now first second = (goes_then a b c was mid now first second.0, second.1)
ends_then (Stuck passed) a b c was mid now first second = (goes_then a b c was mid now first second.0, second.1)

-- the same for what a step has come to: none, or why the run is over
pub comes_then : (result : Option Why) (a b c : Crew) (was mid now : Option (List ℕ)) → CrewContinues a was b mid
    → MatchOption result (CrewContinues b mid c now) (λ why. EndsFor why b mid c now)
    → MatchOption result (CrewContinues a was c now) (λ why. EndsFor why a was c now)
comes_then None a b c was mid now first second = goes_then a b c was mid now first second
comes_then (Some why) a b c was mid now first second = ends_then why a b c was mid now first second

-- it waits for the same ticket, with the same prints
pub still_none_next : (before after : Crew) → after.waiting ≡ before.waiting → after.next ≡ before.next → NoneIsNext before → NoneIsNext after
still_none_next before after waiting next none d at is =
    none d (subst (λ (l : List Print). IsDrawnIn (drawn l) d) waiting at) (is ∙ next)

-- ---- a pass

-- all that were parked were woken, and had a pass
module _ (a b c : Crew) (passed : Passed) (woken : b ≡ record a { ready = b.ready; parked = b.parked }) (kept : KeepsAll a b)
    (still_kept : KeepsAll b c) (has : HasPassedAll b c passed) where
  pub passes : (out : Option (List ℕ)) → CrewContinues a out c out
  passes out = goes_quietly a c out (kept_then a b c kept still_kept) (ap (λ x. x.next) has.rest ∙ ap (λ x. x.next) woken)

  pub is_stuck : NoneIsNext a → b.parked ≡ [] → a.born ≡ [] → (out : Option (List ℕ)) → EndsFor (Stuck passed) a out c out
  is_stuck none parked born out = (
    passes out,
    (
      still_none_next a c (ap (λ x. x.waiting) has.rest ∙ ap (λ x. x.waiting) woken) (ap (λ x. x.next) has.rest ∙ ap (λ x. x.next) woken) none,
      b,
      has,
      ap (λ x. x.parked) has.rest ∙ parked,
      ap (λ x. x.born) has.rest ∙ (ap (λ x. x.born) woken ∙ born),
    ),
  )
