use Rattle.std.proofs.Common.{Err, IfOk, Ok, Result, [], refl}
use Rattle.rgo_sound.specs.Tac.declared.regions.Class.TheVariants.{NoClass}
use Rattle.rgo_sound.specs.RegionMachine.States.{environment_of}
use Rattle.rgo_holding.proofs.holding.Holding.new.Goals as goal

of_ok : {A E : Type 0} (r : Result A E) (P Q : A → Type 0) → ((a : A) → P a → Q a) → IfOk r P → IfOk r Q
of_ok (Ok a) P Q f h = f a h
of_ok (Err e) P Q f h = h

pub returns : goal.returns
returns c = of_ok c.bare.result _ _ (λ k shows code frames. shows [] (environment_of NoClass []) refl refl) c.bare.ensures.shows
