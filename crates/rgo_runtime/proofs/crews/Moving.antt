-- Goroutines go from one list of their driver to another, and nobody is lost by it. A move between the run queue and the parked ones is a
-- permutation of both together, whether or not memory was refused, and `keeps_turns` makes `DriverKeeps` of it.
use Rattle.std.proofs.Common.{◌≡◌, ◌<◌, ◌≤◌, ◌==◌, ⊎_elim, ℕ, not, List, [], ◌∷◌, ◌++◌, All, Err, IfOk, IsPermutation, MatchOption, None, Some, Ok, OnErr, Option, OnOk, Result, filter, get_or, length, map, replicate, swap_remove, take, refl, ap, sym, subst, ◌∙◌, append_assoc, append-nil, arith}
use Rattle.std.proofs.lemmas.List.{length-append, map-append}
use Rattle.std.proofs.lemmas.List.Elements.{All-append, All-cons, All-head, All-nil, All-push, All-tail, All-weaker}
use Rattle.std.proofs.lemmas.List.Sorted.{All-permutation, IsPermutation-append_left, IsPermutation-append_right, IsPermutation-filter_both, IsPermutation-map, IsPermutation-middle, IsPermutation-refl, IsPermutation-swap_remove, IsPermutation-sym, IsPermutation-to_front, IsPermutation-trans}
use Rattle.atomic_table.specs.Seated.{TableId}
use Rattle.rgo_table_runs.specs.Goroutine.Acts.Runs.{Run}
use Rattle.rgo_core.specs.Memory.Words.{clock_at}
use Rattle.rgo_core_steps.specs.Seats.{IsSeatOf}
use Rattle.rgo_core_steps.specs.declared.clock.Mark.{Mark}
use Rattle.rgo_sound.specs.RegionMachine.Counts.{Counts}
use Rattle.rgo_sound.specs.Tally.{no_share}
use Rattle.rgo_core.specs.Records.{Drawn, Record}
use Rattle.rgo_core.specs.Rule.Views.{HasRow, Me, Rows}
use Rattle.rgo_table_runs.specs.Goroutine.Goroutines.{record_of_goroutine}
use Rattle.rgo_table_runs.specs.Goroutine.Turns.{HasFinished}
use Rattle.rgo_table_runs.specs.Goroutine.declared.turning.TableTurnEnd.TheVariants.{Ended}
use Rattle.rgo_table_runs.specs.Goroutine.declared.turning.Turned.{Turned}
use Rattle.rgo_table_runs.specs.Goroutine.declared.goroutine.Goroutine.{Goroutine}
use Rattle.rgo_table_runs.specs.Goroutine.declared.waking.OperationKind.{OperationKind}
use Rattle.rgo_table_runs.specs.closing.Members.{Member, retired}
use Rattle.rgo_runtime.specs.Crew.{Crew, IsRunCrew, KeepsAll, crew_members}
use Rattle.rgo_runtime.specs.Crews.{AreRetired, IsNewborn, IsOfCrew, DriverKeeps, drawn, its_member, end_mark, member_of, members, turning}
use Rattle.rgo_runtime.specs.Parking.{Parked, TakesAll, Wakes, all_parked, parked_values, values_at, waiting_for}
use Rattle.rgo_runtime.specs.Turns.{Turn}
use Rattle.rgo_runtime.proofs.leaving.One.{in_cons, in_either, none_in, room_keeps}
use Rattle.rgo_runtime.proofs.crews.Parked.{wakes_some}
use Rattle.rgo_runtime.proofs.crews.Parts.{keeps_after, keeps_any, keeps_beside, keeps_moved, keeps_permuted, keeps_then}

-- ---- lists

-- what holds of all of two lists holds of each
module _ {T : Type 0} (P : T → Type 0) where
  pub all_first : (xs ys : List T) → All P (xs ++ ys) → All P xs
  all_first [] ys all = All-nil P
  all_first (x ∷ xs) ys all = All-cons P x xs (All-head P x (xs ++ ys) all) (all_first xs ys (All-tail P x (xs ++ ys) all))

  pub all_last : (xs ys : List T) → All P (xs ++ ys) → All P ys
  all_last [] ys all = all
  all_last (x ∷ xs) ys all = all_last xs ys (All-tail P x (xs ++ ys) all)

-- `swap_remove`
pub one_out : {T : Type 0} (xs ys : List T) (i : ℕ) (x : T) → i < length xs → x ≡ get_or xs i x → ys ≡ swap_remove xs i x
    → IsPermutation xs (x ∷ ys)
one_out xs ys i x within at left =
    subst (λ l. IsPermutation xs (x ∷ l)) (sym left) (IsPermutation-swap_remove xs i x within at)

-- ---- those that are ready and those that are parked

-- they are the same, some ready and some parked
pub keeps_turns : (xs vs ys ws : List Turn) (rest : List Member) (t : List Drawn) → IsPermutation (xs ++ vs) (ys ++ ws)
    → DriverKeeps (turning xs ++ (turning vs ++ rest)) t (turning ys ++ (turning ws ++ rest)) t
keeps_turns xs vs ys ws rest t same =
    let all = λ (a b : List Turn). ap (λ (l : List Member). l ++ rest) (map-append its_member a b) ∙ append_assoc (turning a) (turning b) rest in
    subst (λ (l : List Member). DriverKeeps l t (turning ys ++ (turning ws ++ rest)) t) (all xs vs)
    (subst (λ (l : List Member). DriverKeeps (turning (xs ++ vs) ++ rest) t l t) (all ys ws)
    (keeps_beside (turning (xs ++ vs)) (turning (ys ++ ws)) rest t t (keeps_moved its_member (xs ++ vs) (ys ++ ws) t same)))

module _ (ready come : List Turn) (old new : List (ℕ × Turn)) where
  pub unchanged : new ≡ old → come ≡ ready → IsPermutation (ready ++ parked_values old) (come ++ parked_values new)
  unchanged same kept =
      subst (λ (ps : List (ℕ × Turn)). IsPermutation (ready ++ parked_values old) (come ++ parked_values ps)) (sym same)
      (subst (λ (l : List Turn). IsPermutation (ready ++ parked_values old) (l ++ parked_values old)) (sym kept) (IsPermutation-refl (ready ++ parked_values old)))

  -- `unpark_all`
  pub all_woken : TakesAll old ready come → new ≡ [] → IsPermutation (ready ++ parked_values old) (come ++ parked_values new)
  all_woken (more, is, same) none =
      subst (λ (ps : List (ℕ × Turn)). IsPermutation (ready ++ parked_values old) (come ++ parked_values ps)) (sym none)
      (subst (IsPermutation (ready ++ parked_values old)) (sym (append-nil come))
      (subst (IsPermutation (ready ++ parked_values old)) (sym is) (IsPermutation-append_right ready (parked_values old) more same)))

  pub all_unparked : {A E : Type 0} (result : Result A E) → OnOk result (TakesAll old ready come) → OnOk result (new ≡ [])
      → OnErr result (new ≡ old) → OnErr result (come ≡ ready) → IsPermutation (ready ++ parked_values old) (come ++ parked_values new)
  all_unparked (Ok u) all none same kept = all_woken all none
  all_unparked (Err e) all none same kept = unchanged same kept

  -- x is taken from those that are ready, and is parked
  pub one_parked : (x : Turn) → IsPermutation ready (x ∷ come) → IsPermutation (parked_values new) (x ∷ parked_values old)
      → IsPermutation (ready ++ parked_values old) (come ++ parked_values new)
  one_parked x taken parked =
      let vs = parked_values old in
      let there : IsPermutation (x ∷ vs) (parked_values new) = IsPermutation-sym (parked_values new) (x ∷ vs) parked in
      IsPermutation-trans (ready ++ vs) (x ∷ (come ++ vs)) (come ++ parked_values new) (IsPermutation-append_left vs ready (x ∷ come) taken)
      (IsPermutation-trans (x ∷ (come ++ vs)) (come ++ x ∷ vs) (come ++ parked_values new)
      (IsPermutation-sym (come ++ x ∷ vs) (x ∷ (come ++ vs)) (IsPermutation-middle come x vs))
      (IsPermutation-append_right come (x ∷ vs) (parked_values new) there))

  -- some of those that are parked are ready
  pub some_woken : (more : List Turn) → come ≡ ready ++ more → IsPermutation (parked_values old) (more ++ parked_values new)
      → IsPermutation (ready ++ parked_values old) (come ++ parked_values new)
  some_woken more is same =
      subst (λ (l : List Turn). IsPermutation (ready ++ parked_values old) (l ++ parked_values new)) (sym is)
      (subst (IsPermutation (ready ++ parked_values old)) (sym (append_assoc ready more (parked_values new)))
      (IsPermutation-append_right ready (parked_values old) (more ++ parked_values new) same))

  -- x is taken from those that are ready, and put back
  pub one_back : (x : Turn) (left : List Turn) → IsPermutation ready (x ∷ left) → come ≡ left ++ x ∷ [] → new ≡ old
      → IsPermutation (ready ++ parked_values old) (come ++ parked_values new)
  one_back x left taken back same =
      subst (λ (ps : List (ℕ × Turn)). IsPermutation (ready ++ parked_values old) (come ++ parked_values ps)) (sym same)
      (IsPermutation-append_left (parked_values old) ready come
      (subst (IsPermutation ready) (sym back)
      (IsPermutation-trans ready (x ∷ left) (left ++ x ∷ []) taken
      (IsPermutation-sym (left ++ x ∷ []) (x ∷ left) (IsPermutation-to_front left x)))))

-- `unpark`
pub unparked : {E : Type 0} (ready come : List Turn) (old new : Parked Turn) (at : ℕ) (operation : OperationKind) (most : ℕ) (result : Result ℕ E)
    → IfOk result (λ many. Wakes at operation most many old ready new come) → OnErr result (new ≡ old) → OnErr result (come ≡ ready)
    → IsPermutation (ready ++ parked_values (all_parked old)) (come ++ parked_values (all_parked new))
unparked ready come old new at operation most (Ok many) woken same kept =
    some_woken ready come (all_parked old) (all_parked new) (take many (values_at at (waiting_for operation old))) woken.woken
    (wakes_some at operation most many old ready new come woken)
unparked ready come old new at operation most (Err e) woken same kept =
    unchanged ready come (all_parked old) (all_parked new) (ap all_parked same) kept

-- one step after another
pub kept_then : (a b c : Crew) → KeepsAll a b → KeepsAll b c → KeepsAll a c
kept_then a b c first second =
    keeps_then (crew_members a) (crew_members b) (crew_members c) (drawn a.waiting) (drawn b.waiting) (drawn c.waiting) first second

module _ (c : Crew) (ready : List Turn) (parked : List (ℕ × Turn)) (same : IsPermutation (c.ready ++ parked_values c.parked) (ready ++ parked_values parked)) where
  pub crew_turns : IsRunCrew c → IsRunCrew (record c { ready = ready; parked = parked })
  crew_turns is =
      let P = IsOfCrew c.run (length c.shares) in
      let all = All-permutation P (c.ready ++ parked_values c.parked) (ready ++ parked_values parked) same
      (All-append P c.ready (parked_values c.parked) is.ready is.parked) in
      record {
        seat = is.seat;
        pages = is.pages;
        ready = all_first P ready (parked_values parked) all;
        parked = all_last P ready (parked_values parked) all;
        born = is.born;
        retired = is.retired;
        over = is.over;
      }

  -- now is what the crew is seen as
  pub turns_kept : (now : Crew) → c ≡ now → KeepsAll now (record c { ready = ready; parked = parked })
  turns_kept now is =
      subst (λ (x : Crew). KeepsAll x (record c { ready = ready; parked = parked })) is
      (keeps_turns c.ready (parked_values c.parked) ready (parked_values parked) (members c.run.setup c.born ++ map retired c.me.0.records) (drawn c.waiting) same)

-- ---- one that leaves those that are ready, and one that comes to them

-- the first is the first of the last
sunk : (m : Member) (a b c r : List Member) → IsPermutation (m ∷ (a ++ (b ++ (c ++ r)))) (a ++ (b ++ (c ++ m ∷ r)))
sunk m a b c r =
    let under = λ (l q : List Member). IsPermutation-sym (l ++ m ∷ q) (m ∷ (l ++ q)) (IsPermutation-middle l m q) in
    IsPermutation-trans (m ∷ (a ++ (b ++ (c ++ r)))) (a ++ m ∷ (b ++ (c ++ r))) (a ++ (b ++ (c ++ m ∷ r))) (under a (b ++ (c ++ r)))
    (IsPermutation-append_right a (m ∷ (b ++ (c ++ r))) (b ++ (c ++ m ∷ r))
    (IsPermutation-trans (m ∷ (b ++ (c ++ r))) (b ++ m ∷ (c ++ r)) (b ++ (c ++ m ∷ r)) (under b (c ++ r))
    (IsPermutation-append_right b (m ∷ (c ++ r)) (c ++ m ∷ r) (under c r))))

-- `retire`
pub keeps_retired : (xs ys : List Turn) (x : Turn) (b c r s : List Member) (t : List Drawn) → IsPermutation xs (x ∷ ys)
    → DriverKeeps (its_member x ∷ r) t s t → DriverKeeps (turning xs ++ (b ++ (c ++ r))) t (turning ys ++ (b ++ (c ++ s))) t
keeps_retired xs ys x b c r s t taken kept =
    let m = its_member x in
    let a = turning ys in
    let rest = b ++ (c ++ r) in
    keeps_then (turning xs ++ rest) (m ∷ (a ++ rest)) (a ++ (b ++ (c ++ s))) t t t
    (keeps_beside (turning xs) (m ∷ a) rest t t (keeps_moved its_member xs (x ∷ ys) t taken))
    (keeps_then (m ∷ (a ++ rest)) (a ++ (b ++ (c ++ m ∷ r))) (a ++ (b ++ (c ++ s))) t t t
    (keeps_permuted (m ∷ (a ++ rest)) (a ++ (b ++ (c ++ m ∷ r))) t t (sunk m a b c r) (IsPermutation-refl t))
    (keeps_after (b ++ (c ++ m ∷ r)) (b ++ (c ++ s)) a t t
    (keeps_after (c ++ m ∷ r) (c ++ s) b t t
    (keeps_after (m ∷ r) s c t t kept))))

-- who has retired is not ready: x, whose goroutine is go
module _ (c : Crew) (ys : List Turn) (x : Turn) (table : TableId) (me : Me Record) (shares : List Counts) (first : Option Mark)
    (taken : IsPermutation c.ready (x ∷ ys)) (is : IsRunCrew c) where
  abbrev its : All (IsOfCrew c.run (length c.shares)) (x ∷ ys)
  its = All-permutation (IsOfCrew c.run (length c.shares)) c.ready (x ∷ ys) taken is.ready

  -- its last turn reports that it has ended
  over_by : (o : Option Turned) → x.turned ≡ o → MatchOption o ⊥ (λ turned. turned.stop ≡ Ended) → HasFinished (record_of_goroutine c.run.setup x.goroutine)
  over_by None says m = absurd m
  over_by (Some turned) says m = (All-head (IsOfCrew c.run (length c.shares)) x ys its).ended turned says m

  over_too : (go : Goroutine) → go ≡ x.goroutine → MatchOption x.turned ⊥ (λ turned. turned.stop ≡ Ended)
      → me.0.records ≡ c.me.0.records ++ (go.number, record_of_goroutine c.run.setup go) ∷ [] → (g : ℕ) (its : Record) → HasRow me.0.records g its → HasFinished its
  over_too go same ended records g its has =
      let last : ℕ × Record = (go.number, record_of_goroutine c.run.setup go) in
      let over : HasFinished last.1 = subst (λ (z : Goroutine). HasFinished (record_of_goroutine c.run.setup z)) (sym same) (over_by x.turned refl ended) in
      ⊎_elim
      (λ (t : HasRow c.me.0.records g its). is.over g its t)
      (λ (t : HasRow (last ∷ []) g its). ⊎_elim
      (λ (e : last ≡ (g, its)). subst (λ (r : ℕ × Record). HasFinished r.1) e over)
      (λ (n : HasRow [] g its). absurd (none_in (g, its) n))
      (in_cons last [] (g, its) t))
      (in_either c.me.0.records (last ∷ []) (g, its) (subst (λ (rs : Rows Record). HasRow rs g its) records has))

  pub crew_retired : table ≡ c.table → length shares ≡ length c.shares
      → (AreRetired c.me.0.records c.shares (end_mark c.first) → AreRetired me.0.records shares (end_mark first))
      → (go : Goroutine) → go ≡ x.goroutine → MatchOption x.turned ⊥ (λ turned. turned.stop ≡ Ended)
      → me.0.records ≡ c.me.0.records ++ (go.number, record_of_goroutine c.run.setup go) ∷ []
      → IsRunCrew (record c { table = table; me = me; ready = ys; shares = shares; first = first })
  crew_retired same places more go its_goroutine ended records = record {
    seat = subst (λ (id : TableId). IsSeatOf id c.run.table clock_at) (sym same) is.seat;
    pages = is.pages;
    ready = subst (λ (n : ℕ). All (IsOfCrew c.run n) ys) (sym places) (All-tail (IsOfCrew c.run (length c.shares)) x ys its);
    parked = subst (λ (n : ℕ). All (IsOfCrew c.run n) (parked_values c.parked)) (sym places) is.parked;
    born = is.born;
    retired = more is.retired;
    over = over_too go its_goroutine ended records;
  }

  pub retired_kept : (now : Crew) → c ≡ now → (go : Goroutine) → go ≡ x.goroutine
      → DriverKeeps (member_of c.run.setup go ∷ map retired c.me.0.records) [] (map retired me.0.records) []
      → KeepsAll now (record c { table = table; me = me; ready = ys; shares = shares; first = first })
  retired_kept now seen go same kept =
      let new : Crew = record c { table = table; me = me; ready = ys; shares = shares; first = first } in
      let run : x.run ≡ c.run = (All-head (IsOfCrew c.run (length c.shares)) x ys its).run in
      let m : member_of c.run.setup go ≡ its_member x = ap (member_of c.run.setup) same ∙ ap (λ (r : Run). member_of r.setup x.goroutine) (sym run) in
      let rows = map retired c.me.0.records in
      let it = subst (λ (n : Member). DriverKeeps (n ∷ rows) [] (map retired me.0.records) []) m kept in
      subst (λ (o : Crew). KeepsAll o new) seen
      (keeps_retired c.ready ys x (turning (parked_values c.parked)) (members c.run.setup c.born) rows (map retired me.0.records) (drawn c.waiting) taken
      (keeps_any (its_member x ∷ rows) (map retired me.0.records) (drawn c.waiting) it))

-- ---- those that were born

-- one of them is the last of the first
risen : (m : Member) (a b l r : List Member) → IsPermutation (a ++ (b ++ ((l ++ m ∷ []) ++ r))) ((a ++ m ∷ []) ++ (b ++ (l ++ r)))
risen m a b l r =
    let whole = a ++ (b ++ (l ++ r)) in
    let first : IsPermutation (a ++ (b ++ ((l ++ m ∷ []) ++ r))) (m ∷ whole) =
    subst (λ (q : List Member). IsPermutation (a ++ (b ++ q)) (m ∷ whole)) (sym (append_assoc l (m ∷ []) r))
    (IsPermutation-sym (m ∷ whole) (a ++ (b ++ (l ++ m ∷ r))) (sunk m a b l r)) in
    let last : IsPermutation (m ∷ whole) ((a ++ m ∷ []) ++ (b ++ (l ++ r))) =
    subst (IsPermutation (m ∷ whole)) (sym (append_assoc a (m ∷ []) (b ++ (l ++ r))))
    (IsPermutation-sym (a ++ m ∷ (b ++ (l ++ r))) (m ∷ whole) (IsPermutation-middle a m (b ++ (l ++ r)))) in
    IsPermutation-trans (a ++ (b ++ ((l ++ m ∷ []) ++ r))) (m ∷ whole) ((a ++ m ∷ []) ++ (b ++ (l ++ r))) first last

-- the last of some
pub last_newborn : (r : Run) (born left : List Goroutine) (go : Goroutine) → born ≡ left ++ go ∷ [] → All (IsNewborn r) born → IsNewborn r go
last_newborn r born left go last all =
    All-head (IsNewborn r) go [] (all_last (IsNewborn r) left (go ∷ []) (subst (All (IsNewborn r)) last all))

-- in another order
module _ (c : Crew) (ready : List Turn) (born : List Goroutine) (stay : ready ≡ c.ready) (same : IsPermutation c.born born) where
  pub crew_born : IsRunCrew c → IsRunCrew (record c { ready = ready; born = born })
  crew_born is = record {
    seat = is.seat;
    pages = is.pages;
    ready = subst (All (IsOfCrew c.run (length c.shares))) (sym stay) is.ready;
    parked = is.parked;
    born = All-permutation (IsNewborn c.run) c.born born same is.born;
    retired = is.retired;
    over = is.over;
  }

  pub born_kept : (now : Crew) → c ≡ now → KeepsAll now (record c { ready = ready; born = born })
  born_kept now seen =
      let T = c.run.setup in
      let rows = map retired c.me.0.records in
      let t = drawn c.waiting in
      let parked = turning (parked_values c.parked) in
      subst (λ (o : Crew). KeepsAll o (record c { ready = ready; born = born })) seen
      (subst (λ (l : List Turn). KeepsAll c (record c { ready = l; born = born })) (sym stay)
      (keeps_after (parked ++ (members T c.born ++ rows)) (parked ++ (members T born ++ rows)) (turning c.ready) t t
      (keeps_after (members T c.born ++ rows) (members T born ++ rows) parked t t
      (keeps_beside (members T c.born) (members T born) rows t t (keeps_moved (member_of T) c.born born t same)))))

-- the last of them is ready, and has a place
module _ (c : Crew) (ready : List Turn) (left : List Goroutine) (go : Goroutine) (x : Turn) (shares : List Counts) (n : ℕ)
    (come : ready ≡ c.ready ++ x ∷ []) (last : c.born ≡ left ++ go ∷ [])
    (turns : x ≡ record { run = c.run; goroutine = go; slice = 0; turned = None })
    (more : shares ≡ c.shares ++ replicate n no_share) (is : IsRunCrew c) where
  long : length c.shares ≤ length shares
  long = omega (arith, ap length more, length-append c.shares (replicate n no_share))

  wider : (t : Turn) → IsOfCrew c.run (length c.shares) t → IsOfCrew c.run (length shares) t
  wider t of = let p = of.place in let l = long in record { run = of.run; place = omega (arith, p, l); ended = of.ended }

  pub crew_welcomed : go.number < length shares → IsRunCrew (record c { ready = ready; born = left; shares = shares })
  crew_welcomed place = record {
    seat = is.seat;
    pages = is.pages;
    ready = subst (All (IsOfCrew c.run (length shares))) (sym come)
        (All-push (IsOfCrew c.run (length shares)) c.ready x
        (All-weaker (IsOfCrew c.run (length c.shares)) (IsOfCrew c.run (length shares)) wider c.ready is.ready)
        (record {
          run = ap (λ (t : Turn). t.run) turns;
          place = subst (λ (t : Turn). t.goroutine.number < length shares) (sym turns) place;
          ended = λ its says stop. let none : None ≡ Some its = sym (ap (λ (t : Turn). t.turned) turns) ∙ says in absurd (cc none);
        }));
    parked = All-weaker (IsOfCrew c.run (length c.shares)) (IsOfCrew c.run (length shares)) wider (parked_values c.parked) is.parked;
    born = all_first (IsNewborn c.run) left (go ∷ []) (subst (All (IsNewborn c.run)) last is.born);
    retired = subst (λ (l : List Counts). AreRetired c.me.0.records l (end_mark c.first)) (sym more)
        (room_keeps c.me.0.records c.shares n (end_mark c.first) is.retired);
    over = is.over;
  }

  pub welcomed_kept : (old : Crew) → KeepsAll old c → KeepsAll old (record c { ready = ready; born = left; shares = shares })
  welcomed_kept old kept =
      let T = c.run.setup in
      let new : Crew = record c { ready = ready; born = left; shares = shares } in
      let a = turning c.ready in
      let b = turning (parked_values c.parked) in
      let rows = map retired c.me.0.records in
      let t = drawn c.waiting in
      let m = member_of T go in
      let before : members T c.born ≡ members T left ++ m ∷ [] = ap (members T) last ∙ map-append (member_of T) left (go ∷ []) in
      let it : its_member x ≡ m = ap its_member turns in
      let after : turning ready ≡ a ++ m ∷ [] =
      ap turning come ∙ (map-append its_member c.ready (x ∷ []) ∙ ap (λ (k : Member). a ++ k ∷ []) it) in
      kept_then old c new kept
      (subst (λ (l : List Member). DriverKeeps (a ++ (b ++ (l ++ rows))) t (crew_members new) t) (sym before)
      (subst (λ (l : List Member). DriverKeeps (a ++ (b ++ ((members T left ++ m ∷ []) ++ rows))) t (l ++ (b ++ (members T left ++ rows))) t) (sym after)
      (keeps_permuted (a ++ (b ++ ((members T left ++ m ∷ []) ++ rows))) ((a ++ m ∷ []) ++ (b ++ (members T left ++ rows))) t t
      (risen m a b (members T left) rows) (IsPermutation-refl t))))
