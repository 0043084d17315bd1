-- Picks, taken one after the other; and that they can be replayed with one end only.
use Rattle.std.proofs.Common.{◌≡◌, ℕ, zero, suc, ◌+◌, ◌<◌, ◌≤◌, ◌⊎◌, inl, inr, List, [], ◌∷◌, length, map, take, get_or, Option, None, Some, Ok, Bool, true, false, true≢false, refl, sym, ap, ◌∙◌, subst, arith}
use Rattle.std.specs.Io.KnownBytes.{Appends}
use Rattle.std.specs.Prelude.{IfSome, slice_get, option_and_then}
use Rattle.std.proofs.KnownBytes.{Appends-nil}
use Rattle.std.proofs.lemmas.Bool.{cases_lt}
use Rattle.std.proofs.lemmas.List.{take_all, take_more}
use Rattle.rgo_machine.specs.declared.picks.End.{End}
use Rattle.rgo_machine.specs.declared.picks.Pick.{Pick}
use Rattle.rgo_machine.specs.declared.picks.Pick.TheVariants.{One, Meet}
use Rattle.rgo_machine.specs.Deadlocks.{IsDeadlock}
use Rattle.rgo_machine.specs.Runs.{run}
use Rattle.rgo_machine.proofs.Runs.{joined, single}
use Rattle.rgo_tac.specs.Code.{Tac}
use Rattle.rgo_tac.specs.Tac.{TacState, tac, tac_start, tac_step}
use Rattle.rgo_code_words.proofs.Options.{some_same, not_none}
use Rattle.rgo_journal.specs.declared.picks.TacPick.{TacPick}
use Rattle.rgo_journal.specs.declared.replays.ReplayEnd.{ReplayEnd}
use Rattle.rgo_journal.specs.declared.replays.ReplayEnd.TheVariants.{Ended, Deadlock, Unfinished, Foreign, WriteFault, NoMemory}
use Rattle.rgo_journal.specs.Laws.{IsFaultlessEnd, OneReplay, SameSteps}
use Rattle.rgo_journal.specs.Picks.{journal_pick, taken}
use Rattle.rgo_journal.specs.Replays.{ReplayEndsAs, ReplayPrints, Replays, TakesPicks, Takes1, TakesFirstPicks}

-- ---- one after the other

one_more : (code : Tac) (picks : List TacPick) (i : ℕ) (d : TacPick) (s t : TacState) → i < length picks
    → TakesFirstPicks code picks i s → taken code s (get_or picks i d) ≡ Some t → TakesFirstPicks code picks (i + 1) t
one_more code picks i d s t l so_far e =
    subst (λ ps. TakesPicks code ps t) (sym (take_more picks i d l))
    (joined (taken code) (tac_start code) s t (take i picks) (get_or picks i d ∷ []) so_far (single (taken code) s t (get_or picks i d) e))

pub all_taken : (code : Tac) (picks : List TacPick) (i : ℕ) (s : TacState) → length picks ≤ i → TakesFirstPicks code picks i s
    → TakesPicks code picks s
all_taken code picks i s l so_far = subst (λ ps. TakesPicks code ps s) (take_all i picks l) so_far

is_taken : (b : Bool) (s t : TacState) (next : Option TacState) → Takes1 (Ok b) s t next → b ≡ true → next ≡ Some t
is_taken true s t next e is = e
is_taken false s t next e is = absurd (true≢false (sym is))

-- the same, as the code has it
pub next_taken : (code other : Tac) (picks : List TacPick) (i : ℕ) (d : TacPick) (s t : TacState) (b : Bool) → other ≡ code
    → i < length picks → TakesFirstPicks code picks i s → Takes1 (Ok b) s t (taken other s (get_or picks i d)) → b ≡ true
    → TakesFirstPicks code picks (i + 1) t
next_taken code other picks i d s t b same l so_far e is =
    one_more code picks i d s t l so_far
    (subst (λ k. taken k s (get_or picks i d) ≡ Some t) same (is_taken b s t (taken other s (get_or picks i d)) e is))

pub at_number : (P : TacPick → Type 0) (picks : List TacPick) (i : ℕ) (d : TacPick) → P (get_or picks i d)
    → IfSome (slice_get picks i) P
at_number P [] i d h = tt
at_number P (p ∷ picks) zero d h = h
at_number P (p ∷ picks) (suc i) d h = at_number P picks i d h

pub all_some : (code : Tac) (picks : List TacPick) (s : TacState) → TakesPicks code picks s → (n : ℕ) × TakesFirstPicks code picks n s
all_some code picks s all =
    (length picks, subst (λ ps. TakesPicks code ps s) (sym (take_all (length picks) picks (omega arith))) all)

some_taken : (code : Tac) (picks : List TacPick) (s : TacState) (end : ReplayEnd) → ReplayEndsAs code picks s end
    → (n : ℕ) × TakesFirstPicks code picks n s
some_taken code picks s (Ended e) ends = all_some code picks s ends.0
some_taken code picks s Deadlock ends = all_some code picks s ends.0
some_taken code picks s Unfinished ends = all_some code picks s ends.0
some_taken code picks s (Foreign index) ends = (index, ends.1)
some_taken code picks s WriteFault ends = ends
some_taken code picks s NoMemory ends = ends

gives_whole : (end : ReplayEnd) (print : List ℕ) (old new : Option (List ℕ)) → (end ≡ WriteFault → ⊥)
    → Appends old new print → ReplayPrints end print old new
gives_whole (Ended e) print old new kept grown = grown
gives_whole Deadlock print old new kept grown = grown
gives_whole Unfinished print old new kept grown = grown
gives_whole (Foreign index) print old new kept grown = grown
gives_whole WriteFault print old new kept grown = absurd (kept refl)
gives_whole NoMemory print old new kept grown = grown

pub replayed : (code : Tac) (picks : List TacPick) (s : TacState) (end : ReplayEnd) (old new : Option (List ℕ))
    → ReplayEndsAs code picks s end → (end ≡ WriteFault → ⊥) → Appends old new s.printed → Replays code picks end old new
replayed code picks s end old new ends kept grown =
    record { state = s; ends = ends; gives = gives_whole end s.printed old new kept grown }

pub not_written : (code : Tac) (picks : List TacPick) (s : TacState) (end : ReplayEnd) (n : ℕ) (old new : Option (List ℕ))
    → ReplayEndsAs code picks s end → Appends old new (take n s.printed) → Replays code picks WriteFault old new
not_written code picks s end n old new ends grown =
    record { state = s; ends = some_taken code picks s end ends; gives = (n, grown) }

pub not_begun : (code : Tac) (picks : List TacPick) (old : Option (List ℕ)) → Replays code picks NoMemory old old
not_begun code picks old =
    record { state = tac_start code; ends = (0, refl); gives = Appends-nil old }

-- ---- the same steps

same_step : (code : Tac) (s : TacState) (p : Pick) → taken code s (journal_pick p) ≡ tac_step code s p
same_step code s (One g) = refl
same_step code s (Meet r t) = refl

through : (code : Tac) (picks : List Pick) (o : Option TacState)
    → ((t : TacState) → run (taken code) t (map journal_pick picks) ≡ run (tac_step code) t picks)
    → option_and_then (λ t. run (taken code) t (map journal_pick picks)) o ≡ option_and_then (λ t. run (tac_step code) t picks) o
through code picks None h = refl
through code picks (Some t) h = h t

same_run : (code : Tac) (s : TacState) (picks : List Pick) → run (taken code) s (map journal_pick picks) ≡ run (tac_step code) s picks
same_run code s [] = refl
same_run code s (p ∷ picks) =
    ap (option_and_then (λ t. run (taken code) t (map journal_pick picks))) (same_step code s p)
    ∙ through code picks (tac_step code s p) (λ t. same_run code t picks)

pub same_steps : SameSteps
same_steps code picks s leads = same_run code (tac_start code) picks ∙ leads

-- ---- one end

-- no run leads past an event that has no step
module _ {S E : Type 0} (step : S → E → Option S) where
  in_turn : (es : List E) (i n : ℕ) (o : Option S) (t u : S) → option_and_then (λ v. run step v (take i es)) o ≡ Some t
      → option_and_then (λ v. run step v (take n es)) o ≡ Some u
      → ((v : S) → run step v (take i es) ≡ Some t → run step v (take n es) ≡ Some u → ⊥) → ⊥
  in_turn es i n None t u p q h = not_none t p
  in_turn es i n (Some v) t u p q h = h v p q

  past : (s t u : S) (es : List E) (i n : ℕ) → run step s (take i es) ≡ Some t
      → IfSome (slice_get es i) (λ e. step t e ≡ None) → i < length es → i < n → run step s (take n es) ≡ Some u → ⊥
  past s t u [] i n here none l m there = omega (arith, l)
  past s t u (e ∷ es) i zero here none l m there = omega (arith, m)
  past s t u (e ∷ es) zero (suc n) here none l m there =
      not_none u (sym (ap (option_and_then (λ v. run step v (take n es))) (ap (λ v. step v e) (some_same s t here) ∙ none)) ∙ there)
  past s t u (e ∷ es) (suc i) (suc n) here none l m there =
      in_turn es i n (step s e) t u here there
      (λ v p q. past v t u es i n p none (omega (arith, l)) (omega (arith, m)) q)

module _ (code : Tac) (picks : List TacPick) where
  same_state : (s t : TacState) (ps : List TacPick) → TakesPicks code ps s → TakesPicks code ps t → s ≡ t
  same_state s t ps p q = some_same s t (sym p ∙ q)

  not_all : (s t : TacState) (i : ℕ) → TakesPicks code picks s → ReplayEndsAs code picks t (Foreign i) → ⊥
  not_all s t i all foreign =
      past (taken code) (tac_start code) t s picks i (length picks) foreign.1 foreign.2 foreign.0 foreign.0
      (subst (λ ps. TakesPicks code ps s) (sym (take_all (length picks) picks (omega arith))) all)

  same_foreign : (s t : TacState) (i j : ℕ) → ReplayEndsAs code picks s (Foreign i) → ReplayEndsAs code picks t (Foreign j)
      → (Foreign i ≡ Foreign j) × (s ≡ t)
  same_foreign s t i j p q = by (cases_lt i j) (cases_lt j i)
    where
      by : (i < j) ⊎ (j ≤ i) → (j < i) ⊎ (i ≤ j) → (Foreign i ≡ Foreign j) × (s ≡ t)
      by (inl l) m = absurd (past (taken code) (tac_start code) s t picks i j p.1 p.2 p.0 l q.1)
      by (inr l) (inl m) = absurd (past (taken code) (tac_start code) t s picks j i q.1 q.2 q.0 m p.1)
      by (inr l) (inr m) =
          let same : i ≡ j = omega (arith, l, m) in
          (ap Foreign same, same_state s t (take j picks) (subst (λ n. TakesFirstPicks code picks n s) same p.1) q.1)

  ended_not : (s t : TacState) (e : End) → s ≡ t → s.ended ≡ Some e → t.ended ≡ None → ⊥
  ended_not s t e same p q = not_none e (sym q ∙ sym (ap (λ v. v.ended) same) ∙ p)

  one_end : (a b : ReplayEnd) (s t : TacState) → IsFaultlessEnd a → IsFaultlessEnd b → ReplayEndsAs code picks s a → ReplayEndsAs code picks t b
      → (a ≡ b) × (s ≡ t)
  one_end (Ended e) (Ended f) s t v w p q =
      let same = same_state s t picks p.0 q.0 in
      (ap Ended (some_same e f (sym p.1 ∙ ap (λ x. x.ended) same ∙ q.1)), same)
  one_end (Ended e) Deadlock s t v w p q = absurd (ended_not s t e (same_state s t picks p.0 q.0) p.1 q.1.0)
  one_end (Ended e) Unfinished s t v w p q = absurd (ended_not s t e (same_state s t picks p.0 q.0) p.1 q.1)
  one_end (Ended e) (Foreign i) s t v w p q = absurd (not_all s t i p.0 q)
  one_end Deadlock (Ended e) s t v w p q = absurd (ended_not t s e (same_state t s picks q.0 p.0) q.1 p.1.0)
  one_end Deadlock Deadlock s t v w p q = (refl, same_state s t picks p.0 q.0)
  one_end Deadlock Unfinished s t v w p q =
      absurd (q.2 (subst (λ x. IsDeadlock (tac code) x) (same_state s t picks p.0 q.0) p.1))
  one_end Deadlock (Foreign i) s t v w p q = absurd (not_all s t i p.0 q)
  one_end Unfinished (Ended e) s t v w p q = absurd (ended_not t s e (same_state t s picks q.0 p.0) q.1 p.1)
  one_end Unfinished Deadlock s t v w p q =
      absurd (p.2 (subst (λ x. IsDeadlock (tac code) x) (same_state t s picks q.0 p.0) q.1))
  one_end Unfinished Unfinished s t v w p q = (refl, same_state s t picks p.0 q.0)
  one_end Unfinished (Foreign i) s t v w p q = absurd (not_all s t i p.0 q)
  one_end (Foreign i) (Ended e) s t v w p q = absurd (not_all t s i q.0 p)
  one_end (Foreign i) Deadlock s t v w p q = absurd (not_all t s i q.0 p)
  one_end (Foreign i) Unfinished s t v w p q = absurd (not_all t s i q.0 p)
  one_end (Foreign i) (Foreign j) s t v w p q = same_foreign s t i j p q
  one_end WriteFault b s t v w p q = absurd v
  one_end NoMemory b s t v w p q = absurd v
  one_end a WriteFault s t v w p q = absurd w
  one_end a NoMemory s t v w p q = absurd w

pub one_replay : OneReplay
one_replay code picks a b s t v w p q = one_end code picks a b s t v w p q
