-- Examples of what a driver knows in a run, of why it ends one, and of what must not count as such.
use mathlib.Core.Option.{some-ne-none}
use Rattle.std.proofs.Common.{◌≡◌, ℕ, true, false, List, [], Option, None, Some, refl, sym, subst, ◌∙◌, append-nil, arith}
use Rattle.std.specs.Io.KnownBytes.{Appends}
use Rattle.rgo_table_runs.specs.Goroutine.Acts.declared.prints.Print.{Print}
use Rattle.rgo_table_runs.specs.Goroutine.Goroutines.{drawn_by}
use Rattle.rgo_table_runs.specs.closing.Gathering.{IsDrawnIn}
use Rattle.rgo_table_runs.specs.closing.Members.{NoneIsLost}
use Rattle.rgo_runtime.specs.Crew.{Crew, crew_members}
use Rattle.rgo_runtime.specs.Crews.{drawn}
use Rattle.rgo_runtime.specs.Runs.{HasGiven, RunExamples}
use Rattle.rgo_runtime.proofs.leaving.One.{none_in}

adds_nothing : (old : Option (List ℕ)) → Appends old old []
adds_nothing None = tt
adds_nothing (Some xs) = sym (append-nil xs)

begins : (c : Crew) (old : Option (List ℕ)) → NoneIsLost (crew_members c) [] → c.waiting ≡ [] → c.next ≡ 0 → HasGiven c [] old old
begins c old none waiting next = record {
  none_lost = subst (λ (ps : List Print). NoneIsLost (crew_members c) (drawn ps)) (sym waiting) none;
  turns = λ i d e. absurd (some-ne-none d (sym e));
  next = next;
  out = adds_nothing old;
}

pub run_examples : RunExamples
run_examples = record {
  begins = begins;
  uncounted = λ c d old now next k. let z : 0 ≡ 1 = sym next ∙ k.next in absurd (omega (arith, z));
  out_of_order = λ c d old now ticket k. let z : 1 ≡ 0 = sym ticket ∙ k.turns 0 d refl in absurd (omega (arith, z));
  some_out_of_order = λ c d old now ticket k. let z : 1 ≡ 0 = sym ticket ∙ k.turns 0 d refl in absurd (omega (arith, z));
  nothing_done = λ c now old given k. (given, k);
  none_waits = λ c waiting d t is. none_in d (subst (λ (ps : List Print). IsDrawnIn (drawn ps) d) waiting t);
  one_waits = λ c print waiting ticket k.
      k (drawn_by print) (subst (λ (ps : List Print). IsDrawnIn (drawn ps) (drawn_by print)) (sym waiting) (0, refl)) ticket;
  deadlock = refl;
  lost = refl;
  exited = refl;
  spent = refl;
  unspent = λ e. cc e;
  overspent = λ e. cc e;
  failed = refl;
  broke = record { fault = λ x. omega arith; broken = λ x. refl; held = λ n. absurd (n tt) };
  hidden = λ f. let same : 1 ≡ 0 = f.held (λ x. x) in absurd (omega (arith, same));
  went_on = λ f. let same : false ≡ true = f.broken tt in cc;
}
