-- Each step keeps the crew. `crew_set` carries all of them: one worker changes, and what its deque's owner loses in parts is in its
-- permits or in hand. Giving out and taking back a permit take two such steps each, with the permit in hand between them.
use Rattle.std.proofs.Common.{◌≡◌, ℕ, zero, suc, ◌+◌, ◌-◌, ◌<◌, ◌≤◌, ◌≢◌, ◌⊎◌, inl, inr, get_or, Option, List, [], ◌∷◌, ◌++◌, take, length, set, refl, ap, sym, subst, ◌∙◌, ⊎_elim, arith}
use Rattle.std.proofs.lemmas.List.{length-set, nil_from_length}
use mathlib.Core.Option.{some, some-injective, some-ne-none}
use lib.ListN.{get_elem?}
use Rattle.atomic_table.proofs.Lists.{at_set}
use Rattle.crossbeam_deque.specs.Handles.{view, stealer_deque, worker_deque, worker_flavor, worker_view}
use Rattle.rgo_sched.specs.declared.crew.Worker.{Worker}
use Rattle.rgo_sched.specs.declared.deques.Permit.{Permit}
use Rattle.rgo_sched.specs.declared.accounts.Account.{Account}
use Rattle.rgo_sched.specs.Accounts.{Put, Took, account, total_weight}
use Rattle.rgo_sched.specs.Crew.{DoneIsTaken, Every, FewerPermits, IsCrew, New, NoneLost, SameCounts, Worked, done_by, put_by, taken_by}
use Rattle.rgo_sched.specs.Deques.{TaskDeque, TaskStealer}
use Rattle.rgo_sched.specs.Permits.{AllFit, Fits, TakenWasDone, permits_for, stolen}
use Rattle.rgo_sched.specs.Positions.{Filled, only}
use Rattle.rgo_sched.proofs.AccountLemmas.{total_set, total-append}

less_or : (a b : ℕ) → a < b + 1 → (a < b) ⊎ (a ≡ b)
less_or zero zero h = inr refl
less_or zero (suc b) h = inl (omega arith)
less_or (suc a) zero h = absurd (omega arith)
less_or (suc a) (suc b) h = ⊎_elim (λ l. inl (omega arith)) (λ r. inr (ap suc r)) (less_or a b (omega arith))

pub only_same : (d : ℕ) → only d d ≡ 1
only_same zero = refl
only_same (suc d) = only_same d

pub only_other : (d i : ℕ) → d ≢ i → only d i ≡ 0
only_other zero zero n = absurd (n refl)
only_other zero (suc i) n = refl
only_other (suc d) zero n = refl
only_other (suc d) (suc i) n = only_other d i (λ e. n (ap suc e))

pub permits_for_next : (i n : ℕ) → permits_for i (suc n) ≡ permits_for i n + only n i
permits_for_next zero zero = refl
permits_for_next zero (suc n) = refl
permits_for_next (suc i) zero = omega arith
permits_for_next (suc i) (suc n) = permits_for_next i n

pub permits_for_one : (i n : ℕ) → permits_for i n ≤ 1
permits_for_one i zero = omega arith
permits_for_one zero (suc n) = omega arith
permits_for_one (suc i) (suc n) = permits_for_one i n

pub total_small : {A : Type 0} (f : A → ℕ) → ((x : A) → f x ≤ 1) → (xs : List A) → total_weight f xs ≤ length xs
total_small f h [] = omega arith
total_small f h (x ∷ xs) = let a = h x in let b = total_small f h xs in omega arith

pub total_same : {A : Type 0} (f : A → ℕ) (xs ys : List A) → length ys ≡ length xs → ((k : ℕ) (x y : A) → get_elem? xs k ≡ some x → get_elem? ys k ≡ some y → f y ≡ f x) → total_weight f ys ≡ total_weight f xs
total_same f [] [] e h = refl
total_same f [] (y ∷ ys) e h = absurd (omega arith)
total_same f (x ∷ xs) [] e h = absurd (omega arith)
total_same f (x ∷ xs) (y ∷ ys) e h = let a = h zero x y refl refl in let b = total_same f xs ys (omega arith) (λ k u v p q. h (suc k) u v p q) in omega arith

pub total_both : {A : Type 0} (f g : A → ℕ) (xs : List A) → ((k : ℕ) (x : A) → get_elem? xs k ≡ some x → f x ≡ g x) → total_weight f xs ≡ total_weight g xs
total_both f g [] h = refl
total_both f g (x ∷ xs) h = let a = h zero x refl in let b = total_both f g xs (λ k u p. h (suc k) u p) in omega arith

pub at_read : {A : Type 0} (l : List A) (i : ℕ) (d : A) → i < length l → get_elem? l i ≡ some (get_or l i d)
at_read [] i d h = absurd (omega arith)
at_read (x ∷ xs) zero d h = refl
at_read (x ∷ xs) (suc i) d h = at_read xs i d (omega arith)

pub read_at : {A : Type 0} (l : List A) (i : ℕ) (a d : A) → get_elem? l i ≡ some a → get_or l i d ≡ a
read_at [] i a d e = absurd (some-ne-none a (sym e))
read_at (x ∷ xs) zero a d e = some-injective x a e
read_at (x ∷ xs) (suc i) a d e = read_at xs i a d e

pub take_front : {A : Type 0} (n : ℕ) (xs r : List A) → length xs ≡ n → take n (xs ++ r) ≡ xs
take_front n [] r e = let z : n ≡ 0 = sym e in ap (λ k. take k r) z
take_front zero (x ∷ xs) r e = absurd (omega arith)
take_front (suc n) (x ∷ xs) r e = ap (λ l. x ∷ l) (take_front n xs r (omega arith))

pub at_inside : {A : Type 0} (l : List A) (i : ℕ) (a : A) → get_elem? l i ≡ some a → i < length l
at_inside [] i a e = absurd (some-ne-none a (sym e))
at_inside (x ∷ xs) zero a e = omega arith
at_inside (x ∷ xs) (suc i) a e = let h = at_inside xs i a e in omega arith

-- the last of a longer list, or one before it
pub at_push : {A : Type 0} (l : List A) (a b : A) (k : ℕ) → get_elem? (l ++ a ∷ []) k ≡ some b → ((k < length l) × (get_elem? l k ≡ some b)) ⊎ ((k ≡ length l) × (a ≡ b))
at_push [] a b zero e = inr (refl, some-injective a b e)
at_push [] a b (suc k) e = absurd (some-ne-none b (sym e))
at_push (x ∷ xs) a b zero e = inl (omega arith, e)
at_push (x ∷ xs) a b (suc k) e = ⊎_elim (λ t. inl (let h = t.0 in omega arith, t.1)) (λ t. inr (ap suc t.0, t.1)) (at_push xs a b k e)

pub at_left : {A : Type 0} (l r : List A) (b : A) (k : ℕ) → get_elem? l k ≡ some b → get_elem? (l ++ r) k ≡ some b
at_left [] r b k e = absurd (some-ne-none b (sym e))
at_left (x ∷ xs) r b zero e = e
at_left (x ∷ xs) r b (suc k) e = at_left xs r b k e

pub at_end : {A : Type 0} (l : List A) (b : A) → get_elem? (l ++ b ∷ []) (length l) ≡ some b
at_end [] b = refl
at_end (x ∷ xs) b = at_end xs b

pub stealer_at : (l : List TaskStealer) (i : ℕ) → i < length l → (s : TaskStealer) × (get_elem? l i ≡ some s)
stealer_at [] i h = absurd (omega arith)
stealer_at (x ∷ xs) zero h = (x, refl)
stealer_at (x ∷ xs) (suc i) h = stealer_at xs i (omega arith)

module _ {T B : Type 0} where
  pub fit_set : (ths : List TaskStealer) (ts : List (Permit T B)) (i : ℕ) (s : TaskStealer) (t : Permit T B) → get_elem? ths i ≡ some s → Fits s t → AllFit ths ts → AllFit ths (set ts i t)
  fit_set ths ts i s t at f a = record {
    few = let h = length-set ts i t in let k = a.few in omega arith;
    each = λ j u p b d. ⊎_elim
        (λ (e : (j ≡ i) × (t ≡ p)). subst (λ (q : TaskStealer × Permit T B). Fits q.0 q.1) (λ n. (some-injective s u (sym at ∙ subst (λ (m : ℕ). get_elem? ths m ≡ some u) e.0 b) n, e.1 n)) f)
        (λ e. a.each j u p b e.1) (at_set ts i j t p d);
  }

  pub moved_set : (ps ts : List (Permit T B)) (ds es fs xs : List ℕ) (i : ℕ) (t u : Permit T B) → get_elem? ts i ≡ some t → Took (view t.pass) xs (view u.pass) → fs ≡ es ++ xs → TakenWasDone ps ts ds es → TakenWasDone ps (set ts i u) ds fs
  moved_set ps ts ds es fs xs i t u at e e' m = record {
    moved = λ w.
        let s = total_set (λ (p : Permit T B). total_weight w (view p.pass).taken) ts i t u at in
        let a = total-append w (view t.pass).taken xs in
        let b : total_weight w (view u.pass).taken ≡ total_weight w ((view t.pass).taken ++ xs) = ap (λ (h : Account). total_weight w h.taken) e in
        let d = total-append w es xs in
        let f : total_weight w fs ≡ total_weight w (es ++ xs) = ap (total_weight w) e' in
        let g = m.moved w in omega arith;
    same = length-set ts i u ∙ m.same;
  }

  pub moved_none : (ps : List (Permit T B)) (ds : List ℕ) → TakenWasDone ps ps ds ds
  moved_none ps ds = record { moved = λ w. refl; same = refl }

  pub moved_more : (ps qs rs : List (Permit T B)) (ds es fs : List ℕ) → TakenWasDone ps qs ds es → TakenWasDone qs rs es fs → TakenWasDone ps rs ds fs
  moved_more ps qs rs ds es fs a b = record { moved = λ w. let x = a.moved w in let y = b.moved w in omega arith; same = b.same ∙ a.same }

  pub counted_more : (ps qs : List (Permit T B)) (ds es fs xs : List ℕ) (u v : Account) → Took u xs v → es ≡ ds ++ xs → TakenWasDone ps qs es fs
      → ((w : ℕ → ℕ) → total_weight w u.taken + stolen w ps ≡ total_weight w ds) → (w : ℕ → ℕ) → total_weight w v.taken + stolen w qs ≡ total_weight w fs
  counted_more ps qs ds es fs xs u v e e' m h w =
      let a = total-append w u.taken xs in let b : total_weight w v.taken ≡ total_weight w (u.taken ++ xs) = ap (λ (k : Account). total_weight w k.taken) e in
      let c = total-append w ds xs in let d : total_weight w es ≡ total_weight w (ds ++ xs) = ap (total_weight w) e' in let k = m.moved w in let l = h w in omega arith

  -- while the results are gathered: each position below n has its task, or more was put and done of it than was taken
  abbrev pub FilledOrLeft : ℕ → List (Option ℕ) → List (Worker T B) → Type 0
  FilledOrLeft n results ms = (k : ℕ) → k < n
      → Filled results k ⊎ (1 + total_weight (taken_by (only k)) ms ≤ total_weight (put_by (only k)) ms + total_weight (done_by (only k)) ms)

  -- The last worker is gathered and dropped: a position whose balance was its alone is filled now.
  pub filled_or_left_less : (n : ℕ) (results next : List (Option ℕ)) (ms ns : List (Worker T B)) (m : Worker T B) → ms ≡ ns ++ m ∷ []
      → m.permits.items ≡ []
      → ((k : ℕ) → Filled results k → Filled next k)
      → ((k : ℕ) → Filled next k ⊎ (put_by (only k) m + done_by (only k) m ≡ total_weight (only k) (worker_view m.own).taken))
      → FilledOrLeft n results ms → FilledOrLeft n next ns
  filled_or_left_less n results next ms ns m e none kept left o k below = ⊎_elim (λ f. inl (kept k f))
      (λ h. ⊎_elim (λ f. inl f) (λ l. inr (
      let a : total_weight (taken_by (only k)) ms ≡ total_weight (taken_by (only k)) (ns ++ m ∷ []) = ap (total_weight (taken_by (only k))) e in
      let b : total_weight (put_by (only k)) ms ≡ total_weight (put_by (only k)) (ns ++ m ∷ []) = ap (total_weight (put_by (only k))) e in
      let c : total_weight (done_by (only k)) ms ≡ total_weight (done_by (only k)) (ns ++ m ∷ []) = ap (total_weight (done_by (only k))) e in
      let a' = total-append (taken_by (only k)) ns (m ∷ []) in
      let b' = total-append (put_by (only k)) ns (m ∷ []) in
      let c' = total-append (done_by (only k)) ns (m ∷ []) in
      let z : stolen (only k) m.permits.items ≡ 0 = ap (stolen (only k)) none in
      omega arith)) (left k)) (o k below)

  pub parts_are_back : (ths : List TaskStealer) (ms : List (Worker T B)) → IsCrew ths (λ _. 0) ms → Every (λ m. m.permits.items ≡ []) ms
      → Every (λ m. ((worker_view m.own).parts ≡ 128) × (worker_flavor m.own ≡ 0) × (m.permits.items ≡ [])) ms
  parts_are_back ths ms c none k m at = (
    (let p = c.parts k m at in let z = no_total (λ (x : Worker T B). permits_for k (length x.permits.items)) ms (λ j x a. ap (λ l. permits_for k (length l)) (none j x a)) in omega arith),
    c.fifo k m at,
    none k m at,
  )
    where
      no_total : (f : Worker T B → ℕ) (xs : List (Worker T B)) → ((j : ℕ) (x : Worker T B) → get_elem? xs j ≡ some x → f x ≡ 0) → total_weight f xs ≡ 0
      no_total f [] h = refl
      no_total f (x ∷ xs) h = let a = h zero x refl in let b = no_total f xs (λ j u p. h (suc j) u p) in omega arith

  -- Everything was put, and what was taken since is what is done. So nothing is lost.
  pub none_lost_after : (n : ℕ) (xs bs cs : List (Worker T B))
      → ((k : ℕ) → k < n → 1 ≤ total_weight (put_by (only k)) xs)
      → ((w : ℕ → ℕ) → total_weight (put_by w) bs ≡ total_weight (put_by w) xs)
      → Every DoneIsTaken bs → SameCounts bs cs → NoneLost n cs
  none_lost_after n xs bs cs puts same counted counts k below =
      let h = puts k below in let a = same (only k) in let b = counts.puts (only k) in let c = counts.takes (only k) in
      let d = counts.dones (only k) in
      let e = total_both (taken_by (only k)) (done_by (only k)) bs (λ j x at. (counted j x at).counted (only k)) in omega arith

  pub every_set : (P : Worker T B → Type 0) (ms : List (Worker T B)) (d : ℕ) (n : Worker T B) → P n → Every P ms → Every P (set ms d n)
  every_set P ms d n p h k m at = ⊎_elim (λ t. subst P t.1 p) (λ t. h k m t.1) (at_set ms d k n m at)

  pub crew_set : (ths : List TaskStealer) (h h' : ℕ → ℕ) (ms : List (Worker T B)) (d : ℕ) (o n : Worker T B)
      → get_elem? ms d ≡ some o
      → worker_flavor n.own ≡ worker_flavor o.own
      → worker_deque n.own ≡ worker_deque o.own
      → AllFit ths n.permits.items
      → ((i : ℕ) → i ≢ d → permits_for i (length n.permits.items) + h' i ≡ permits_for i (length o.permits.items) + h i)
      → (worker_view n.own).parts + permits_for d (length n.permits.items) + h' d ≡ (worker_view o.own).parts + permits_for d (length o.permits.items) + h d
      → IsCrew ths h ms → IsCrew ths h' (set ms d n)
  crew_set ths h h' ms d o n at fl de fit others here c = record {
    same = length-set ms d n ∙ c.same;
    few = c.few;
    fifo = every_set (λ m. worker_flavor m.own ≡ 0) ms d n (fl ∙ c.fifo d o at) c.fifo;
    table = λ k s m a b. ⊎_elim
        (λ t. subst (λ (x : Worker T B). worker_deque x.own ≡ stealer_deque s) t.1 (de ∙ c.table d s o (subst (λ (j : ℕ). get_elem? ths j ≡ some s) t.0 a) at))
        (λ t. c.table k s m a t.1) (at_set ms d k n m b);
    fit = every_set (λ m. AllFit ths m.permits.items) ms d n fit c.fit;
    parts = λ k m b. let s = total_set (λ (x : Worker T B). permits_for k (length x.permits.items)) ms d o n at in ⊎_elim
        (λ (t : (k ≡ d) × (n ≡ m)). let q : (worker_view n.own).parts ≡ (worker_view m.own).parts = ap (λ (x : Worker T B). (worker_view x.own).parts) t.1 in
        let p = c.parts k o (subst (λ (j : ℕ). get_elem? ms j ≡ some o) (sym t.0) at) in
        let e = subst (λ (j : ℕ). (worker_view n.own).parts + permits_for j (length n.permits.items) + h' j ≡ (worker_view o.own).parts + permits_for j (length o.permits.items) + h j) (sym t.0) here in omega arith)
        (λ (t : (k ≢ d) × (get_elem? ms k ≡ some m)). let p = c.parts k m t.1 in let e = others k t.0 in omega arith) (at_set ms d k n m b);
  }

  -- each worker stays, and so does the crew
  pub crew_each : (ths : List TaskStealer) (ms ns : List (Worker T B)) → length ns ≡ length ms
      → ((k : ℕ) (m n : Worker T B) → get_elem? ms k ≡ some m → get_elem? ns k ≡ some n → Worked m n × AllFit ths n.permits.items)
      → ((k : ℕ) (n : Worker T B) → get_elem? ns k ≡ some n → (m : Worker T B) × (get_elem? ms k ≡ some m))
      → IsCrew ths (λ _. 0) ms → IsCrew ths (λ _. 0) ns
  crew_each ths ms ns len each was c = record {
    same = len ∙ c.same;
    few = c.few;
    fifo = λ k n at. let o = was k n at in let s = (each k o.0 n o.1 at).0 in s.fifo ∙ c.fifo k o.0 o.1;
    table = λ k s n a at. let o = was k n at in let st = (each k o.0 n o.1 at).0 in st.table ∙ c.table k s o.0 a o.1;
    fit = λ k n at. let o = was k n at in (each k o.0 n o.1 at).1;
    parts = λ k n at. let o = was k n at in let st = (each k o.0 n o.1 at).0 in let p = c.parts k o.0 o.1 in let q = st.parts in
        let t = total_same (λ (x : Worker T B). permits_for k (length x.permits.items)) ms ns len (λ j x y a b. ap (permits_for k) (each j x y a b).0.permits) in omega arith;
  }

  -- the crew at the start
  pub crew_new : (ths : List TaskStealer) (ms : List (Worker T B)) (all n : ℕ) → length ms ≡ length ths → length ths ≤ 64
      → ((k : ℕ) (s : TaskStealer) (m : Worker T B) → get_elem? ths k ≡ some s → get_elem? ms k ≡ some m → worker_deque m.own ≡ stealer_deque s)
      → Every (New all n) ms → IsCrew ths (λ _. 0) ms
  crew_new ths ms all n same few table new = record {
    same = same;
    few = few;
    fifo = λ k m at. (new k m at).fifo;
    table = table;
    fit = λ k m at. subst (AllFit ths) (sym (new k m at).no_permit) (record { few = omega arith; each = λ i s p a b. absurd (some-ne-none p (sym b)) });
    parts = λ k m at. let p : (worker_view m.own).parts ≡ 128 = ap (λ v. v.parts) (new k m at).alone in
        let t = total_same (λ (x : Worker T B). permits_for k (length x.permits.items)) ms ms refl (λ j x y a b. ap (λ l. permits_for k (length l)) ((new j y b).no_permit ∙ sym (new j x a).no_permit)) in
        let z = total_none (λ (x : Worker T B). permits_for k (length x.permits.items)) ms (λ j x a. ap (λ l. permits_for k (length l)) (new j x a).no_permit) in omega arith;
  }
    where
      total_none : (f : Worker T B → ℕ) (xs : List (Worker T B)) → ((j : ℕ) (x : Worker T B) → get_elem? xs j ≡ some x → f x ≡ 0) → total_weight f xs ≡ 0
      total_none f [] h = refl
      total_none f (x ∷ xs) h = let a = h zero x refl in let b = total_none f xs (λ j u p. h (suc j) u p) in omega arith

  pub last_of : (P : Worker T B → Type 0) (ms ns : List (Worker T B)) (m : Worker T B) → ms ≡ ns ++ m ∷ [] → Every P ms → P m
  last_of P ms ns m e h = h (length ns) m (ap (λ (l : List (Worker T B)). get_elem? l (length ns)) e ∙ at_end ns m)

  pub but_last : (P : Worker T B → Type 0) (ms ns : List (Worker T B)) (m : Worker T B) → ms ≡ ns ++ m ∷ [] → Every P ms → Every P ns
  but_last P ms ns m e h k n at = h k n (ap (λ (l : List (Worker T B)). get_elem? l k) e ∙ at_left ns (m ∷ []) n k at)

  pub every_push : (P : Worker T B → Type 0) (ms ns : List (Worker T B)) (m : Worker T B) → ns ≡ ms ++ m ∷ [] → P m → Every P ms → Every P ns
  every_push P ms ns m e p h k n at = ⊎_elim (λ t. h k n t.1) (λ t. subst P t.1 p) (at_push ms m n k (sym (ap (λ (l : List (Worker T B)). get_elem? l k) e) ∙ at))

  pub table_push : (ms ns : List (Worker T B)) (m : Worker T B) (ss ts : List TaskStealer) (t : TaskStealer) → ns ≡ ms ++ m ∷ [] → ts ≡ ss ++ t ∷ [] → length ms ≡ length ss → worker_deque m.own ≡ stealer_deque t
      → ((k : ℕ) (s : TaskStealer) (m : Worker T B) → get_elem? ss k ≡ some s → get_elem? ms k ≡ some m → worker_deque m.own ≡ stealer_deque s)
      → (k : ℕ) (s : TaskStealer) (m : Worker T B) → get_elem? ts k ≡ some s → get_elem? ns k ≡ some m → worker_deque m.own ≡ stealer_deque s
  table_push ms ns m ss ts t e e' len here h k s n at at' = ⊎_elim
      (λ x. ⊎_elim (λ y. h k s n y.1 x.1) (λ y. absurd (let a = x.0 in let b = y.0 in omega arith)) (at_push ss t s k (sym (ap (λ (l : List TaskStealer). get_elem? l k) e') ∙ at)))
      (λ x. ⊎_elim (λ y. absurd (let a = x.0 in let b = y.0 in omega arith)) (λ y. ap (λ (o : Worker T B). worker_deque o.own) (sym x.1) ∙ here ∙ ap stealer_deque y.1) (at_push ss t s k (sym (ap (λ (l : List TaskStealer). get_elem? l k) e') ∙ at)))
      (at_push ms m n k (sym (ap (λ (l : List (Worker T B)). get_elem? l k) e) ∙ at'))

  abbrev After : List TaskStealer → Worker T B → Worker T B → Type 0
  After ths m n = Worked m n × AllFit ths n.permits.items × DoneIsTaken n

  pub was_there : (ms ns : List (Worker T B)) → length ns ≡ length ms → (k : ℕ) (n : Worker T B) → get_elem? ns k ≡ some n → (m : Worker T B) × (get_elem? ms k ≡ some m)
  was_there ms ns len k n at = let h = at_inside ns k n at in (get_or ms k n, at_read ms k n (omega arith))

  pub relate : (ths : List TaskStealer) (ms ns : List (Worker T B)) → length ns ≡ length ms
      → ((k : ℕ) (d : Worker T B) → k < length ms → After ths (get_or ms k d) (get_or ns k d))
      → (k : ℕ) (m n : Worker T B) → get_elem? ms k ≡ some m → get_elem? ns k ≡ some n → After ths m n
  relate ths ms ns len h k m n a b = subst (λ (p : Worker T B × Worker T B). After ths p.0 p.1) (λ i. (read_at ms k m n a i, read_at ns k n n b i)) (h k n (at_inside ms k m a))

  pub crew_parts : (ths : List TaskStealer) (ms : List (Worker T B)) → IsCrew ths (λ _. 0) ms → Every (λ m. 1 < (worker_view m.own).parts) ms
  crew_parts ths ms c k m at = let p = c.parts k m at in let s = c.same in let f = c.few in
      let t = total_small (λ (x : Worker T B). permits_for k (length x.permits.items)) (λ x. permits_for_one k (length x.permits.items)) ms in omega arith

  pub crew_owner : (ths : List TaskStealer) (ms : List (Worker T B)) (d : ℕ) (o n : Worker T B) → get_elem? ms d ≡ some o
      → worker_flavor n.own ≡ worker_flavor o.own → worker_deque n.own ≡ worker_deque o.own → (worker_view n.own).parts ≡ (worker_view o.own).parts → n.permits.items ≡ o.permits.items
      → IsCrew ths (λ _. 0) ms → IsCrew ths (λ _. 0) (set ms d n)
  crew_owner ths ms d o n at fl de pa ti c = crew_set ths (λ _. 0) (λ _. 0) ms d o n at fl de (subst (AllFit ths) (sym ti) (c.fit d o at))
      (λ i _. ap (λ l. permits_for i (length l) + 0) ti) (let e = ap (λ l. permits_for d (length l)) ti in omega arith) c

  -- one more position was put
  pub puts_set : (ms : List (Worker T B)) (d : ℕ) (o n : Worker T B) (x i : ℕ) → get_elem? ms d ≡ some o → x ≡ i
      → Put (worker_view o.own) (x ∷ []) (worker_view n.own)
      → ((k : ℕ) → k < i → 1 ≤ total_weight (put_by (only k)) ms)
      → (k : ℕ) → k < i + 1 → 1 ≤ total_weight (put_by (only k)) (set ms d n)
  puts_set ms d o n x i at e given before k below =
      let s = total_set (put_by (only k)) ms d o n at in
      let p : put_by (only k) n ≡ total_weight (only k) ((worker_view o.own).put ++ x ∷ []) = ap (λ (h : Account). total_weight (only k) h.put) given in
      let q = total-append (only k) (worker_view o.own).put (x ∷ []) in
      ⊎_elim (λ (l : k < i). let b = before k l in omega arith)
      (λ (r : k ≡ i). let y : only k x ≡ 1 = ap (only k) (e ∙ sym r) ∙ only_same k in omega arith) (less_or k i below)

  abbrev pub Each : (ℕ → Worker T B → Type 0) → List (Worker T B) → Type 0
  Each P ms = (k : ℕ) (m : Worker T B) → get_elem? ms k ≡ some m → P k m

  pub each_set : (P Q : ℕ → Worker T B → Type 0) (ms : List (Worker T B)) (d : ℕ) (n : Worker T B) → Q d n → ((k : ℕ) (m : Worker T B) → k ≢ d → P k m → Q k m) → Each P ms → Each Q (set ms d n)
  each_set P Q ms d n q on h k m at = ⊎_elim (λ t. subst (λ (p : ℕ × Worker T B). Q p.0 p.1) (λ i. (sym t.0 i, t.1 i)) q) (λ t. on k m t.0 (h k m t.1)) (at_set ms d k n m at)

  -- a permit in hand
  pub crew_cut : (ths : List TaskStealer) (ms : List (Worker T B)) (d : ℕ) (o n : Worker T B) → get_elem? ms d ≡ some o
      → worker_flavor n.own ≡ worker_flavor o.own → worker_deque n.own ≡ worker_deque o.own → (worker_view n.own).parts + 1 ≡ (worker_view o.own).parts → n.permits.items ≡ o.permits.items
      → IsCrew ths (λ _. 0) ms → IsCrew ths (only d) (set ms d n)
  crew_cut ths ms d o n at fl de pa ti c = crew_set ths (λ _. 0) (only d) ms d o n at fl de (subst (AllFit ths) (sym ti) (c.fit d o at))
      (λ i other. let e = ap (λ l. permits_for i (length l)) ti in let z = only_other d i (λ q. other (sym q)) in omega arith)
      (let e = ap (λ l. permits_for d (length l)) ti in let z = only_same d in omega arith) c

  fit_push : (ths : List TaskStealer) (ts us : List (Permit T B)) (t : Permit T B) → us ≡ ts ++ t ∷ [] → length ts < length ths → ((s : TaskStealer) → get_elem? ths (length ts) ≡ some s → Fits s t) → AllFit ths ts → AllFit ths us
  fit_push ths ts us t e below f a = subst (AllFit ths) (sym e) (record {
    few = let h = length_more ts in omega arith;
    each = λ i s p b d. ⊎_elim (λ x. a.each i s p b x.1) (λ x. subst (Fits s) x.1 (f s (subst (λ (j : ℕ). get_elem? ths j ≡ some s) x.0 b))) (at_push ts t p i d);
  })
    where
      length_more : (l : List (Permit T B)) → length (l ++ t ∷ []) ≡ length l + 1
      length_more [] = refl
      length_more (x ∷ xs) = let h = length_more xs in omega arith

  -- and given to a worker
  pub crew_add : (ths : List TaskStealer) (ms : List (Worker T B)) (w d : ℕ) (o n : Worker T B) (t : Permit T B) → get_elem? ms w ≡ some o
      → n.own ≡ o.own → n.permits.items ≡ o.permits.items ++ t ∷ [] → length o.permits.items ≡ d → length n.permits.items ≡ suc d → d < length ths
      → ((s : TaskStealer) → get_elem? ths d ≡ some s → Fits s t)
      → IsCrew ths (only d) ms → IsCrew ths (λ _. 0) (set ms w n)
  crew_add ths ms w d o n t at own push len len' below f c = crew_set ths (only d) (λ _. 0) ms w o n at
      (ap worker_flavor own) (ap worker_deque own)
      (fit_push ths _ _ t push (omega arith) (λ s a. f s (subst (λ (j : ℕ). get_elem? ths j ≡ some s) len a)) (c.fit w o at))
      (λ i other. let a = ap (permits_for i) len in let b = ap (permits_for i) len' in let e = permits_for_next i d in omega arith)
      (let p : (worker_view n.own).parts ≡ (worker_view o.own).parts = ap (λ (x : TaskDeque). (worker_view x).parts) own in let a = ap (permits_for w) len in let b = ap (permits_for w) len' in let e = permits_for_next w d in omega arith) c

  pub counted_owner : (o n : Worker T B) → (worker_view n.own).taken ≡ (worker_view o.own).taken → n.permits.items ≡ o.permits.items → n.done.items ≡ o.done.items → DoneIsTaken o → DoneIsTaken n
  counted_owner o n a b d h = record { counted = λ w. let x = ap (total_weight w) a in let y = ap (stolen w) b in let z = ap (total_weight w) d in let k = h.counted w in omega arith }

  -- the first w workers have all permits, the next permits_for d, and the others have none
  pub record Handed (all w d k : ℕ) (m : Worker T B) : Type 0 where
    pub counted : DoneIsTaken m
    pub room : m.permits.cap ≡ all
    pub full : k < w → length m.permits.items ≡ all
    pub here : k ≡ w → length m.permits.items ≡ d
    pub none : w < k → length m.permits.items ≡ 0

  pub handed_new : (tasks all : ℕ) (ms : List (Worker T B)) → Every (New tasks all) ms → Each (Handed all 0 0) ms
  handed_new tasks all ms h k m at = let n = h k m at in let l : length m.permits.items ≡ 0 = ap length n.no_permit in record {
    counted = record { counted = λ w. let a : total_weight w (worker_view m.own).taken ≡ 0 = ap (λ (v : Account). total_weight w v.taken) n.alone in let b : stolen w m.permits.items ≡ 0 = ap (stolen w) n.no_permit in let c : total_weight w m.done.items ≡ 0 = ap (total_weight w) n.nothing_done in omega arith };
    room = n.room;
    full = λ b. absurd (omega arith);
    here = λ _. l;
    none = λ _. l;
  }

  pub handed_cut : (all w d : ℕ) (ms : List (Worker T B)) (i : ℕ) (o n : Worker T B) → get_elem? ms i ≡ some o
      → (worker_view n.own).taken ≡ (worker_view o.own).taken → n.permits.items ≡ o.permits.items → n.permits.cap ≡ o.permits.cap → n.done.items ≡ o.done.items
      → Each (Handed all w d) ms → Each (Handed all w d) (set ms i n)
  handed_cut all w d ms i o n at a b e f h = let p = h i o at in let l : length n.permits.items ≡ length o.permits.items = ap length b in
      each_set (Handed all w d) (Handed all w d) ms i n (record {
        counted = counted_owner o n a b f p.counted;
        room = e ∙ p.room;
        full = λ q. l ∙ p.full q;
        here = λ q. l ∙ p.here q;
        none = λ q. l ∙ p.none q;
      }) (λ k m _ q. q) h

  pub handed_add : (all w d : ℕ) (ms : List (Worker T B)) (o n : Worker T B) (t : Permit T B) → get_elem? ms w ≡ some o
      → n.own ≡ o.own → n.permits.items ≡ o.permits.items ++ t ∷ [] → length n.permits.items ≡ d + 1 → n.permits.cap ≡ o.permits.cap → n.done.items ≡ o.done.items → (view t.pass).taken ≡ []
      → Each (Handed all w d) ms → Each (Handed all w (d + 1)) (set ms w n)
  handed_add all w d ms o n t at own push len cap done taken h = let p = h w o at in
      each_set (Handed all w d) (Handed all w (d + 1)) ms w n (record {
        counted = record {
          counted = λ v.
              let x = ap (λ (u : TaskDeque). total_weight v (worker_view u).taken) own in
              let y : stolen v n.permits.items ≡ stolen v (o.permits.items ++ t ∷ []) = ap (stolen v) push in
              let z = total-append (λ (q : Permit T B). total_weight v (view q.pass).taken) o.permits.items (t ∷ []) in
              let u : total_weight v (view t.pass).taken ≡ 0 = ap (total_weight v) taken in
              let f = ap (total_weight v) done in let k = p.counted.counted v in omega arith;
        };
        room = cap ∙ p.room;
        full = λ q. absurd (omega arith);
        here = λ _. len;
        none = λ q. absurd (omega arith);
      }) (λ k m other q. record { counted = q.counted; room = q.room; full = q.full; here = λ e. absurd (other e); none = q.none }) h

  pub handed_row : (all w d : ℕ) (ms : List (Worker T B)) → d ≡ all → Each (Handed all w d) ms → Each (Handed all (w + 1) 0) ms
  handed_row all w d ms e h k m at = let p = h k m at in record {
    counted = p.counted;
    room = p.room;
    full = λ q. ⊎_elim (λ l. p.full l) (λ r. p.here r ∙ e) (less_or k w q);
    here = λ q. p.none (omega arith);
    none = λ q. p.none (omega arith);
  }

  pub handed_all : (all w : ℕ) (ms : List (Worker T B)) → length ms ≤ w → Each (Handed all w 0) ms → Every (λ m. DoneIsTaken m × (length m.permits.items ≡ all)) ms
  handed_all all w ms e h k m at = let p = h k m at in let b = at_inside ms k m at in (p.counted, p.full (omega arith))

  pub counts_same : (ms : List (Worker T B)) → SameCounts ms ms
  counts_same ms = record { puts = λ w. refl; takes = λ w. refl; dones = λ w. refl }

  pub counts_more : (ms ns ps : List (Worker T B)) → SameCounts ms ns → SameCounts ns ps → SameCounts ms ps
  counts_more ms ns ps a b = record { puts = λ w. b.puts w ∙ a.puts w; takes = λ w. b.takes w ∙ a.takes w; dones = λ w. b.dones w ∙ a.dones w }

  pub row_kept : (w n c : ℕ) (ms ns : List (Worker T B)) → FewerPermits w ms ns
      → ((k : ℕ) (m : Worker T B) → get_elem? ms k ≡ some m → k < w → m.permits.items ≡ [])
      → (k : ℕ) (m : Worker T B) → get_elem? ns k ≡ some m → k < w → m.permits.items ≡ []
  row_kept w n c ms ns f h k m at below = let o = was_there ms ns f.same k m at in f.others k o.0 m o.1 at (λ e. absurd (omega arith)) ∙ h k o.0 o.1 below

  pub row_less : (w all c : ℕ) (ms ns : List (Worker T B)) → FewerPermits w ms ns → c < all
      → ((k : ℕ) (m : Worker T B) → get_elem? ms k ≡ some m → k ≡ w → length m.permits.items + c ≤ all)
      → (k : ℕ) (m : Worker T B) → get_elem? ns k ≡ some m → k ≡ w → length m.permits.items + (c + 1) ≤ all
  row_less w all c ms ns f below h k m at e = let o = was_there ms ns f.same k m at in let x = h k o.0 o.1 e in let y = f.here k o.0 m o.1 at e in omega arith

  pub row_done : (w all c : ℕ) (ms : List (Worker T B)) → all ≤ c
      → ((k : ℕ) (m : Worker T B) → get_elem? ms k ≡ some m → k < w → m.permits.items ≡ [])
      → ((k : ℕ) (m : Worker T B) → get_elem? ms k ≡ some m → k ≡ w → length m.permits.items + c ≤ all)
      → (k : ℕ) (m : Worker T B) → get_elem? ms k ≡ some m → k < w + 1 → m.permits.items ≡ []
  row_done w all c ms end h i k m at below = ⊎_elim (λ l. h k m at l) (λ r. nil_from_length m.permits.items (let x = i k m at r in omega arith)) (less_or k w below)

  counts_set : (f : Worker T B → ℕ) (ms : List (Worker T B)) (d : ℕ) (o n : Worker T B) → get_elem? ms d ≡ some o → f n ≡ f o → total_weight f (set ms d n) ≡ total_weight f ms
  counts_set f ms d o n at e = let s = total_set f ms d o n at in omega arith

  counts_swap : (f : Worker T B → ℕ) (x : ℕ) (ms : List (Worker T B)) (w d : ℕ) (o n q r : Worker T B) → get_elem? ms w ≡ some o → get_elem? (set ms w n) d ≡ some q → f o ≡ f n + x → f r ≡ f q + x → total_weight f (set (set ms w n) d r) ≡ total_weight f ms
  counts_swap f x ms w d o n q r at at' e e' = let s = total_set f ms w o n at in let t = total_set f (set ms w n) d q r at' in omega arith

  pub counts_none : (ms : List (Worker T B)) (w : ℕ) (o n : Worker T B) → get_elem? ms w ≡ some o → n.own ≡ o.own → n.permits.items ≡ o.permits.items → n.done.items ≡ o.done.items → SameCounts ms (set ms w n)
  counts_none ms w o n at own ti done = record {
    puts = λ v. counts_set (put_by v) ms w o n at (ap (λ (u : TaskDeque). total_weight v (worker_view u).put) own);
    takes = λ v. counts_set (taken_by v) ms w o n at (let a = ap (λ (u : TaskDeque). total_weight v (worker_view u).taken) own in let b = ap (stolen v) ti in omega arith);
    dones = λ v. counts_set (done_by v) ms w o n at (ap (total_weight v) done);
  }

  pub fewer_set : (ms : List (Worker T B)) (w : ℕ) (o n : Worker T B) → get_elem? ms w ≡ some o → length n.permits.items ≡ length o.permits.items - 1 → FewerPermits w ms (set ms w n)
  fewer_set ms w o n at e = record {
    same = length-set ms w n;
    others = λ k a b x y other. ⊎_elim (λ t. absurd (other t.0)) (λ t. ap (λ (m : Worker T B). m.permits.items) (some-injective b a (sym t.1 ∙ x))) (at_set ms w k n b y);
    here = λ k a b x y same. ⊎_elim
        (λ t. let p : length n.permits.items ≡ length b.permits.items = ap (λ (m : Worker T B). length m.permits.items) t.1 in
        let q : length o.permits.items ≡ length a.permits.items = ap (λ (m : Worker T B). length m.permits.items) (some-injective o a (sym at ∙ subst (λ (j : ℕ). get_elem? ms j ≡ some a) same x)) in omega arith)
        (λ t. absurd (t.0 same)) (at_set ms w k n b y);
  }

  pub fewer_keep : (ms ns : List (Worker T B)) (w d : ℕ) (q r : Worker T B) → get_elem? ns d ≡ some q → r.permits.items ≡ q.permits.items → FewerPermits w ms ns → FewerPermits w ms (set ns d r)
  fewer_keep ms ns w d q r at e f = record {
    same = length-set ns d r ∙ f.same;
    others = λ k a b x y other. let h = old k b y in h.2 ∙ f.others k a h.0 x h.1 other;
    here = λ k a b x y same. let h = old k b y in ap length h.2 ∙ f.here k a h.0 x h.1 same;
  }
    where
      old : (k : ℕ) (b : Worker T B) → get_elem? (set ns d r) k ≡ some b → (c : Worker T B) × (get_elem? ns k ≡ some c) × (b.permits.items ≡ c.permits.items)
      old k b y = ⊎_elim
          (λ (t : (k ≡ d) × (r ≡ b)). (q, subst (λ (j : ℕ). get_elem? ns j ≡ some q) (sym t.0) at, ap (λ (m : Worker T B). m.permits.items) (sym t.1) ∙ e))
          (λ (t : (k ≢ d) × (get_elem? ns k ≡ some b)). (b, t.1, refl)) (at_set ns d k r b y)

  -- the last permit of a worker in hand
  pub crew_pop : (ths : List TaskStealer) (ms : List (Worker T B)) (w : ℕ) (o n : Worker T B) (t : Permit T B) → get_elem? ms w ≡ some o
      → n.own ≡ o.own → o.permits.items ≡ n.permits.items ++ t ∷ [] → length o.permits.items ≡ suc (length n.permits.items)
      → IsCrew ths (λ _. 0) ms → IsCrew ths (only (length n.permits.items)) (set ms w n)
  crew_pop ths ms w o n t at own push len c = crew_set ths (λ _. 0) (only (length n.permits.items)) ms w o n at
      (ap worker_flavor own) (ap worker_deque own)
      (let a = c.fit w o at in record { few = let f = a.few in omega arith; each = λ i s p b d. a.each i s p b (ap (λ (l : List (Permit T B)). get_elem? l i) push ∙ at_left n.permits.items (t ∷ []) p i d) })
      (λ i other. let b = ap (permits_for i) len in let e = permits_for_next i (length n.permits.items) in omega arith)
      (let p : (worker_view n.own).parts ≡ (worker_view o.own).parts = ap (λ (x : TaskDeque). (worker_view x).parts) own in let b = ap (permits_for w) len in let e = permits_for_next w (length n.permits.items) in omega arith) c

  -- and joined into the owner's view
  pub crew_absorb : (ths : List TaskStealer) (ms : List (Worker T B)) (d : ℕ) (q r : Worker T B) → get_elem? ms d ≡ some q
      → worker_flavor r.own ≡ worker_flavor q.own → worker_deque r.own ≡ worker_deque q.own → (worker_view r.own).parts ≡ (worker_view q.own).parts + 1 → r.permits.items ≡ q.permits.items
      → IsCrew ths (only d) ms → IsCrew ths (λ _. 0) (set ms d r)
  crew_absorb ths ms d q r at fl de pa ti c = crew_set ths (only d) (λ _. 0) ms d q r at fl de (subst (AllFit ths) (sym ti) (c.fit d q at))
      (λ i other. let e = ap (λ l. permits_for i (length l)) ti in let z = only_other d i (λ x. other (sym x)) in omega arith)
      (let e = ap (λ l. permits_for d (length l)) ti in let z = only_same d in omega arith) c

  pub last_fits : (ths : List TaskStealer) (ts us : List (Permit T B)) (t : Permit T B) (s : TaskStealer) → us ≡ ts ++ t ∷ [] → get_elem? ths (length ts) ≡ some s → AllFit ths us → Fits s t
  last_fits ths ts us t s e b a = a.each (length ts) s t b (ap (λ (l : List (Permit T B)). get_elem? l (length ts)) e ∙ at_end ts t)

  pub counts_back : (ms : List (Worker T B)) (w d : ℕ) (o n q r : Worker T B) (t : Permit T B) → get_elem? ms w ≡ some o → get_elem? (set ms w n) d ≡ some q
      → n.own ≡ o.own → o.permits.items ≡ n.permits.items ++ t ∷ [] → n.done.items ≡ o.done.items
      → worker_view r.own ≡ account ((worker_view q.own).parts + (view t.pass).parts) ((worker_view q.own).put ++ (view t.pass).put) ((worker_view q.own).taken ++ (view t.pass).taken)
      → (view t.pass).put ≡ [] → r.permits.items ≡ q.permits.items → r.done.items ≡ q.done.items → SameCounts ms (set (set ms w n) d r)
  counts_back ms w d o n q r t at at' own push done v none ti done' = record {
    puts = λ x. counts_swap (put_by x) 0 ms w d o n q r at at' (let a = ap (λ (u : TaskDeque). total_weight x (worker_view u).put) own in omega arith)
        (let a = ap (λ (h : Account). total_weight x h.put) v in let b = total-append x (worker_view q.own).put (view t.pass).put in let z = ap (total_weight x) none in omega arith);
    takes = λ x. counts_swap (taken_by x) (total_weight x (view t.pass).taken) ms w d o n q r at at'
        (let a = ap (λ (u : TaskDeque). total_weight x (worker_view u).taken) own in let b = ap (stolen x) push in let e = total-append (λ (p : Permit T B). total_weight x (view p.pass).taken) n.permits.items (t ∷ []) in omega arith)
        (let a = ap (λ (h : Account). total_weight x h.taken) v in let b = total-append x (worker_view q.own).taken (view t.pass).taken in let z = ap (stolen x) ti in omega arith);
    dones = λ x. counts_swap (done_by x) 0 ms w d o n q r at at' (let a = ap (total_weight x) done in omega arith) (let a = ap (total_weight x) done' in omega arith);
  }

  pub parts_left : (ths : List TaskStealer) (ms : List (Worker T B)) (d : ℕ) (q : Worker T B) → IsCrew ths (only d) ms → get_elem? ms d ≡ some q → 0 < (worker_view q.own).parts
  parts_left ths ms d q c at = let p = c.parts d q at in let s = c.same in let f = c.few in let z = only_same d in
      let t = total_small (λ (x : Worker T B). permits_for d (length x.permits.items)) (λ x. permits_for_one d (length x.permits.items)) ms in omega arith
