-- Acts after which what the goroutine has for its driver is as before, or is one print or one goroutine more.
use Rattle.std.proofs.Common.{◌≡◌, ◌<◌, List, [], ◌∷◌, ◌++◌, Option, Some, None, MatchOption, inl, map, ap, sym, subst, ◌∙◌, arith}
use Rattle.std.specs.Prelude.{⊤}
use Rattle.std.proofs.lemmas.List.{append-nil, map-append}
use Rattle.rgo_acts.specs.Actors as act
use Rattle.rgo_acts.specs.Runs.{Run}
use Rattle.rgo_acts.specs.declared.prints.Print.{Print}
use Rattle.rgo_core.specs.Rule.declared.accesses.Access.{Access}
use Rattle.rgo_goroutine.specs.Acting.{ActConcludes, MayMakeInstructions, SameFirst, StopsBy}
use Rattle.rgo_goroutine.specs.Goroutines.{AreChildren, HoldsMuch, IsChild, drawn_by, ungathered_prints}
use Rattle.rgo_goroutine.specs.Instructions.{MakesInstruction}
use Rattle.rgo_goroutine.specs.declared.goroutine.Child.{Child}
use Rattle.rgo_goroutine.specs.declared.goroutine.Goroutine.{Goroutine}
use Rattle.rgo_goroutine.specs.declared.turning.TableTurnEnd.{TableTurnEnd}
use Rattle.rgo_goroutine.specs.declared.turning.TableTurnEnd.TheVariants as stop
use Rattle.rgo_goroutine.specs.declared.turning.Turning.{Turning}
use Rattle.rgo_goroutine.proofs.Concluding.{Counts, no_answer}
use Rattle.rgo_goroutine.proofs.Lifting.{goes_as, moved_as, moves}

-- nothing was printed or started
pub record IsSame (old new : Goroutine) : Type 0 where
  pub prints : new.prints.items ≡ old.prints.items
  pub children : new.children.items ≡ old.children.items
  pub number : new.number ≡ old.number
  pub first : new.first ≡ old.first

pub same_halts : (r : Run) (old new : Goroutine) (t u : Turning) → MayMakeInstructions r old t.left → t.changed.count < 6 → IsSame old new
    → (acted : act.ActorActed r old.actor new.actor 0 [] []) → Counts t u 0 0 → MakesInstruction r old new t u (Some stop.NoMemory)
same_halts r old new t u goes noted same acted counts = record {
  acts = record {
    acted = record {
      n = 0;
      es = acted.es;
      moved = moved_as r old new 0 [] [] acted (ap (map drawn_by) same.prints ∙ sym (append-nil (ungathered_prints old)))
          (same.children ∙ sym (append-nil old.children.items));
      left = counts.left;
      noted = (let c = counts.changed in omega (arith, c));
      still = λ e. absurd (moves u.moved counts.moved e);
    };
    goes = goes_as r old new 0 [] [] acted t.left u.left goes counts.left (omega arith) same.number
        (subst (AreChildren r) (sym same.children) goes.all) same.first;
    noted = (let c = counts.changed in omega (arith, c, noted));
    concludes = acted.went.first;
  };
  progress = λ e. absurd (no_answer stop.NoMemory e);
}

-- One print more, after which the turn is over if it has printed much: the one reason of `Went` that an act can have, but for a late end.
much_concludes : (r : Run) (old new : Goroutine) (es : List Access) (answer : Option TableTurnEnd) → SameFirst r old new
    → MatchOption answer ⊤ (λ why. (why ≡ stop.Went) × HoldsMuch new) → ActConcludes r old new es answer
much_concludes r old new es None same much = same
much_concludes r old new es (Some why) same (is, much) = subst (StopsBy r old new es) (sym is) (same, inl much)

pub printed_on : (r : Run) (old new : Goroutine) (t u : Turning) → MayMakeInstructions r old t.left → t.changed.count < 6 → (print : Print)
    → new.prints.items ≡ old.prints.items ++ print ∷ [] → new.children.items ≡ old.children.items → new.number ≡ old.number
    → new.first ≡ old.first → act.ActorActed r old.actor new.actor 1 (drawn_by print ∷ []) [] → Counts t u 1 0 → (answer : Option TableTurnEnd)
    → MatchOption answer ⊤ (λ why. (why ≡ stop.Went) × HoldsMuch new) → MakesInstruction r old new t u answer
printed_on r old new t u goes noted print prints children number first acted counts answer much = record {
  acts = record {
    acted = record {
      n = 1;
      es = acted.es;
      moved = moved_as r old new 1 (drawn_by print ∷ []) [] acted
          (ap (map drawn_by) prints ∙ map-append drawn_by old.prints.items (print ∷ []))
          (children ∙ sym (append-nil old.children.items));
      left = counts.left;
      noted = (let c = counts.changed in omega (arith, c));
      still = λ e. absurd (moves u.moved counts.moved e);
    };
    goes = goes_as r old new 1 (drawn_by print ∷ []) [] acted t.left u.left goes counts.left (omega arith) number
        (subst (AreChildren r) (sym children) goes.all) first;
    noted = (let c = counts.changed in omega (arith, c, noted));
    concludes = much_concludes r old new acted.es answer acted.went.first much;
  };
  progress = λ e. let l = counts.left in let c = counts.changed in omega (arith, l, c, noted);
}

-- one goroutine more
all_with : (r : Run) (children : List Child) (child : Child) → AreChildren r children → IsChild r child → AreChildren r (children ++ child ∷ [])
all_with r [] child all is = (is, tt)
all_with r (c ∷ cs) child all is = (all.0, all_with r cs child all.1 is)

pub started_on : (r : Run) (old new : Goroutine) (t u : Turning) → MayMakeInstructions r old t.left → t.changed.count < 6 → (child : Child)
    → IsChild r child → new.prints.items ≡ old.prints.items → new.children.items ≡ old.children.items ++ child ∷ []
    → new.number ≡ old.number → new.first ≡ old.first → act.ActorActed r old.actor new.actor 1 [] (child.number ∷ []) → Counts t u 1 0
    → MakesInstruction r old new t u None
started_on r old new t u goes noted child is prints children number first acted counts = record {
  acts = record {
    acted = record {
      n = 1;
      es = acted.es;
      moved = moved_as r old new 1 [] (child ∷ []) acted (ap (map drawn_by) prints ∙ sym (append-nil (ungathered_prints old))) children;
      left = counts.left;
      noted = (let c = counts.changed in omega (arith, c));
      still = λ e. absurd (moves u.moved counts.moved e);
    };
    goes = goes_as r old new 1 [] (child ∷ []) acted t.left u.left goes counts.left (omega arith) number
        (subst (AreChildren r) (sym children) (all_with r old.children.items child goes.all is)) first;
    noted = (let c = counts.changed in omega (arith, c, noted));
    concludes = acted.went.first;
  };
  progress = λ e. let l = counts.left in let c = counts.changed in omega (arith, l, c, noted);
}
