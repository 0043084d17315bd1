-- Parts of a driver, one after the other: if each keeps its goroutines and its prints, all together keep them. A part is stated for
-- whatever other members and earlier prints there are, so parts can be composed (`keeps_then`) and put beside each other (`keeps_both`).
-- All reorderings go through `kept_by_order`, since `NoneIsLost` asks only who is a member. The hard cases are prints that were gathered,
-- of which void ones are dropped, and children that were adopted.
use Rattle.std.proofs.Common.{◌≡◌, ◌⊎◌, ◌<◌, inl, inr, ℕ, zero, suc, Bool, true, false, cond, not, List, [], ◌∷◌, ◌++◌, Option, Some, None, All, Contains, IsPermutation, map, slice_get, refl, ap, sym, subst, ◌∙◌, ⊎_elim, arith, append_assoc, append-nil, true≢false}
use mathlib.Core.Option.{some, some-injective, some-ne-none}
use lib.ListN.{get_elem?}
use Rattle.std.specs.List.{AllZip}
use Rattle.std.proofs.lemmas.List.{map-append}
use Rattle.std.proofs.lemmas.List.Elements.{All-append, All-cons, All-head, All-nil, All-tail, All-weaker, Contains-append_cases, Contains-append_left, Contains-append_right}
use Rattle.std.proofs.lemmas.List.Sorted.{Contains-permutation, IsPermutation-append_comm, IsPermutation-append_left, IsPermutation-append_right, IsPermutation-cons, IsPermutation-map, IsPermutation-refl, IsPermutation-sym}
use Rattle.rgo_table_runs.proofs.Goroutine.Acts.Standing.{now_at_once}
use Rattle.rgo_table_runs.specs.Goroutine.Acts.Actors.{now}
use Rattle.rgo_table_runs.specs.Goroutine.Acts.Runs.{Run}
use Rattle.rgo_table_runs.specs.Goroutine.Acts.declared.prints.Print.{Print}
use Rattle.rgo_core.proofs.Lists.{elem_of, get_of}
use Rattle.rgo_core.specs.Core.{Setup}
use Rattle.rgo_core.specs.runs.Opening.{first_of}
use Rattle.rgo_core.specs.Records.{ClockRec, Drawn, Record, blank, steps_of}
use Rattle.rgo_core.specs.Rule.Views.{Me, Rows, longer, number_of, view}
use Rattle.rgo_core.specs.Rule.declared.accesses.Access.{Access}
use Rattle.rgo_core_steps.specs.Seats.{mine}
use Rattle.rgo_table_runs.proofs.Goroutine.Joining.{numbers_append}
use Rattle.rgo_table_runs.specs.Goroutine.Goroutines.{AreChildren, IsChild, IsOf, IsTidy, drawn_by, ungathered_prints, numbers, record_of_goroutine, valid}
use Rattle.rgo_table_runs.specs.Goroutine.Passing.{Adopts, AreBorn, Gathers, IsBorn}
use Rattle.rgo_table_runs.specs.Goroutine.Turns.{HasTurned, HasFinished, TurnStops}
use Rattle.rgo_table_runs.specs.Goroutine.declared.turning.TableTurnEnd.TheVariants.{Ended}
use Rattle.rgo_table_runs.specs.Goroutine.declared.goroutine.Child.{Child}
use Rattle.rgo_table_runs.specs.Goroutine.declared.goroutine.Goroutine.{Goroutine}
use Rattle.rgo_table_runs.specs.Goroutine.declared.turning.Turned.{Turned}
use Rattle.rgo_sched.specs.Rounds.{EachTurned, RoundOf}
use Rattle.rgo_table_runs.proofs.closing.Members.{kept_by_adopting, kept_by_gathering, kept_by_order, kept_by_turn}
use Rattle.rgo_table_runs.specs.closing.Members.{AreSameMembers, SomeHasNumber, HasPlayed, HasPrinted, ListHasNumber, IsOneOf, Member, NoneIsLost, WasGathered, WereAdopted}
use Rattle.rgo_runtime.specs.Crews.{IsNewborn, IsOfCrew, DriverKeeps, drawn, its_member, member_of, members, turning}
use Rattle.rgo_runtime.specs.Passing.{HasLookedOnce, HasMet, HasTurnedOnce, IsPass, MayHaveTurned}
use Rattle.rgo_runtime.specs.Turns.{TurnIsTaken, Turn}
use Rattle.rgo_runtime.specs.declared.deadlock.Passed.{Passed}
use Rattle.rgo_runtime.proofs.lists.Sweeps.{zip_keeps}

-- ---- lists

module _ {A : Type 0} where
  abbrev pub In : List A → A → Type 0
  In xs x = (i : ℕ) × (get_elem? xs i ≡ some x)

  none_in : (x : A) → In [] x → ⊥
  none_in x t = some-ne-none x (sym t.1)

  contained : (xs : List A) (x : A) → In xs x → Contains xs x
  contained [] x t = absurd (none_in x t)
  contained (z ∷ xs) x (zero, e) = (0, omega arith, some-injective z x e)
  contained (z ∷ xs) x (suc i, e) = let t = contained xs x (i, e) in (suc t.0, omega (arith, t.1), t.2)

  placed : (xs : List A) (x : A) → Contains xs x → In xs x
  placed [] x t = absurd (omega (arith, t.1))
  placed (z ∷ xs) x (zero, within, e) = (0, ap some e)
  placed (z ∷ xs) x (suc i, within, e) = let t = placed xs x (i, omega (arith, within), e) in (suc t.0, t.1)

  in_left : (xs ys : List A) (x : A) → In xs x → In (xs ++ ys) x
  in_left xs ys x t = placed (xs ++ ys) x (Contains-append_left xs ys x (contained xs x t))

  in_right : (xs ys : List A) (x : A) → In ys x → In (xs ++ ys) x
  in_right xs ys x t = placed (xs ++ ys) x (Contains-append_right xs ys x (contained ys x t))

  in_either : (xs ys : List A) (x : A) → In (xs ++ ys) x → In xs x ⊎ In ys x
  in_either xs ys x t = ⊎_elim
      (λ (l : Contains xs x). inl (placed xs x l))
      (λ (r : Contains ys x). inr (placed ys x r))
      (Contains-append_cases xs ys x (contained (xs ++ ys) x t))

  pub in_permuted : (xs ys : List A) → IsPermutation xs ys → (x : A) → In xs x → In ys x
  in_permuted xs ys same x t = placed ys x (Contains-permutation xs ys x same (contained xs x t))

  -- what is among the first is among the others, and so it is beside more
  in_beside : (xs ys zs : List A) (x : A) → (In xs x → In ys x) → In (xs ++ zs) x → In (ys ++ zs) x
  in_beside xs ys zs x goes t = ⊎_elim
      (λ (l : In xs x). in_left ys zs x (goes l))
      (λ (r : In zs x). in_right ys zs x r)
      (in_either xs zs x t)

  in_after : (zs xs ys : List A) (x : A) → (In xs x → In ys x) → In (zs ++ xs) x → In (zs ++ ys) x
  in_after zs xs ys x goes t = ⊎_elim
      (λ (l : In zs x). in_left zs ys x l)
      (λ (r : In xs x). in_right zs ys x (goes r))
      (in_either zs xs x t)

module _ {A : Type 0} (R : A → A → Type 0) (P Q : A → Type 0) where
  zip_all : (xs ys : List A) → AllZip R xs ys → All P xs → All Q ys → AllZip (λ x y. R x y × P x × Q y) xs ys
  zip_all [] [] zip olds news = tt
  zip_all [] (y ∷ ys) zip olds news = absurd zip
  zip_all (x ∷ xs) [] zip olds news = absurd zip
  zip_all (x ∷ xs) (y ∷ ys) zip olds news = (
    (zip.0, All-head P x xs olds, All-head Q y ys news),
    zip_all xs ys zip.1 (All-tail P x xs olds) (All-tail Q y ys news),
  )

module _ {A : Type 0} (goes : A → A → Bool → Type 0) where
  zip_turned : (xs ys : List A) (bs : List Bool) → EachTurned goes xs ys bs → AllZip (λ x y. (b : Bool) × goes x y b) xs ys
  zip_turned [] [] [] each = tt
  zip_turned [] [] (b ∷ bs) each = absurd each
  zip_turned [] (y ∷ ys) bs each = absurd each
  zip_turned (x ∷ xs) [] bs each = absurd each
  zip_turned (x ∷ xs) (y ∷ ys) [] each = absurd each
  zip_turned (x ∷ xs) (y ∷ ys) (b ∷ bs) each = ((b, each.0), zip_turned xs ys bs each.1)

-- ---- one part after another

pub kept_permuted : (ms ns : List Member) (taken given : List Drawn) → IsPermutation ms ns → IsPermutation taken given → NoneIsLost ms taken
    → NoneIsLost ns given
kept_permuted ms ns taken given same prints k =
    kept_by_order ms ns taken given k (record {
      there = λ m t. in_permuted ms ns same m t;
      back = λ m t. in_permuted ns ms (IsPermutation-sym ms ns same) m t;
      still = λ d t. in_permuted taken given prints d t;
      before = λ d t. in_permuted given taken (IsPermutation-sym taken given prints) d t;
    })

pub keeps_nothing : (ms : List Member) (t : List Drawn) → DriverKeeps ms t ms t
keeps_nothing ms t others given k = k

pub keeps_then : (a b c : List Member) (t u v : List Drawn) → DriverKeeps a t b u → DriverKeeps b u c v → DriverKeeps a t c v
keeps_then a b c t u v first second others given k = second others given (first others given k)

-- the same members and prints in any order
pub keeps_same : (a b : List Member) (t u : List Drawn) → AreSameMembers a b t u → DriverKeeps a t b u
keeps_same a b t u same others given k =
    kept_by_order (a ++ others) (b ++ others) (given ++ t) (given ++ u) k (record {
      there = λ m is. in_beside a b others m (same.there m) is;
      back = λ m is. in_beside b a others m (same.back m) is;
      still = λ d is. in_after given t u d (same.still d) is;
      before = λ d is. in_after given u t d (same.before d) is;
    })

pub keeps_permuted : (a b : List Member) (t u : List Drawn) → IsPermutation a b → IsPermutation t u → DriverKeeps a t b u
keeps_permuted a b t u same prints others given k =
    kept_permuted (a ++ others) (b ++ others) (given ++ t) (given ++ u) (IsPermutation-append_left others a b same)
    (IsPermutation-append_right given t u prints) k

-- beside other members
pub keeps_beside : (a b c : List Member) (t u : List Drawn) → DriverKeeps a t b u → DriverKeeps (a ++ c) t (b ++ c) u
keeps_beside a b c t u keeps others given k =
    subst (λ (l : List Member). NoneIsLost l (given ++ u)) (sym (append_assoc b c others))
    (keeps (c ++ others) given (subst (λ (l : List Member). NoneIsLost l (given ++ t)) (append_assoc a c others) k))

pub keeps_after : (a b c : List Member) (t u : List Drawn) → DriverKeeps a t b u → DriverKeeps (c ++ a) t (c ++ b) u
keeps_after a b c t u keeps =
    keeps_then (c ++ a) (a ++ c) (c ++ b) t t u (keeps_permuted (c ++ a) (a ++ c) t t (IsPermutation-append_comm c a) (IsPermutation-refl t))
    (keeps_then (a ++ c) (b ++ c) (c ++ b) t u u (keeps_beside a b c t u keeps)
    (keeps_permuted (b ++ c) (c ++ b) u u (IsPermutation-append_comm b c) (IsPermutation-refl u)))

-- one beside the other
pub keeps_both : (a b c d : List Member) (t u v : List Drawn) → DriverKeeps a t b u → DriverKeeps c u d v → DriverKeeps (a ++ c) t (b ++ d) v
keeps_both a b c d t u v first second =
    keeps_then (a ++ c) (b ++ c) (b ++ d) t u v (keeps_beside a b c t u first) (keeps_after c d b u v second)

-- after other prints
pub keeps_prints : (a b : List Member) (w t u : List Drawn) → DriverKeeps a t b u → DriverKeeps a (w ++ t) b (w ++ u)
keeps_prints a b w t u keeps others given k =
    subst (λ (l : List Drawn). NoneIsLost (b ++ others) l) (append_assoc given w u)
    (keeps others (given ++ w) (subst (λ (l : List Drawn). NoneIsLost (a ++ others) l) (sym (append_assoc given w t)) k))

-- what is kept if no print waits is kept whatever waits
pub keeps_any : (a b : List Member) (t : List Drawn) → DriverKeeps a [] b [] → DriverKeeps a t b t
keeps_any a b t keeps =
    subst (λ (l : List Drawn). DriverKeeps a l b l) (append-nil t) (keeps_prints a b t [] [] keeps)

-- the members of a list in another order
pub keeps_moved : {A : Type 0} (its : A → Member) (xs ys : List A) (t : List Drawn) → IsPermutation xs ys → DriverKeeps (map its xs) t (map its ys) t
keeps_moved its xs ys t same = keeps_permuted (map its xs) (map its ys) t t (IsPermutation-map its xs ys same) (IsPermutation-refl t)

-- if there are no other members
pub kept_by : (a b : List Member) (given t u : List Drawn) → DriverKeeps a t b u → NoneIsLost a (given ++ t) → NoneIsLost b (given ++ u)
kept_by a b given t u keeps k =
    subst (λ (l : List Member). NoneIsLost l (given ++ u)) (append-nil b)
    (keeps [] given (subst (λ (l : List Member). NoneIsLost l (given ++ t)) (sym (append-nil a)) k))

pub keeps_played : (m n : Member) (t : List Drawn) → HasPlayed m n → DriverKeeps (m ∷ []) t (n ∷ []) t
keeps_played m n t played others given k = kept_by_turn [] others m n (given ++ t) played k

-- all of a list, if each is kept
module _ {A : Type 0} (R : A → A → Type 0) (its : A → Member) (t : List Drawn)
    (each : (x y : A) → R x y → DriverKeeps (its x ∷ []) t (its y ∷ []) t) where
  pub keeps_all : (xs ys : List A) → AllZip R xs ys → DriverKeeps (map its xs) t (map its ys) t
  keeps_all [] [] zip = keeps_nothing [] t
  keeps_all [] (y ∷ ys) zip = absurd zip
  keeps_all (x ∷ xs) [] zip = absurd zip
  keeps_all (x ∷ xs) (y ∷ ys) zip =
      keeps_both (its x ∷ []) (its y ∷ []) (map its xs) (map its ys) t t t (each x y zip.0) (keeps_all xs ys zip.1)

-- ---- turns

-- its number is that of its seat
abbrev pub IsNumbered : Goroutine → Type 0
IsNumbered go = go.number ≡ number_of go.actor.seat.me

pub numbered : (r : Run) (gos : List Goroutine) → All (IsOf r) gos → All IsNumbered gos
numbered r gos all = All-weaker (IsOf r) IsNumbered (λ go of. of.number) gos all

module _ (r : Run) (old new : Goroutine) (slice : ℕ) (turned : Turned) (has : HasTurned r old new slice turned) where
  pub same_number : IsNumbered old → IsNumbered new → new.number ≡ old.number
  same_number was is = is ∙ (has.turns.grew.same ∙ sym was)

  pub played_turn : new.number ≡ old.number → HasPlayed (member_of r.setup old) (member_of r.setup new)
  played_turn number = record {
    number = number;
    draws = has.turns.draws;
    printed = has.turns.printed;
    fresh = has.turns.fresh;
    starts = numbers has.turns.starts;
    started = has.turns.started;
    unborn = ap numbers has.turns.newborn ∙ numbers_append old.children.items has.turns.starts;
  }

  pub keeps_turn : (t : List Drawn) → IsOf r old → IsOf r new
      → HasPlayed (member_of r.setup old) (member_of r.setup new)
      × DriverKeeps (member_of r.setup old ∷ []) t (member_of r.setup new ∷ []) t
  keeps_turn t was is =
      let played = played_turn (same_number was.number is.number) in
      (played, keeps_played (member_of r.setup old) (member_of r.setup new) t played)

pub played_task : (before after : Turn) (went : Bool) → TurnIsTaken before after went → HasPlayed (its_member before) (its_member after)
played_task before after went takes =
    subst (λ (r : Run). HasPlayed (its_member before) (member_of r.setup after.goroutine)) (sym (ap (λ (x : Turn). x.run) takes.rest))
    (played_turn before.run before.goroutine after.goroutine before.slice takes.turned takes.has takes.number)

pub keeps_task : (before after : Turn) (went : Bool) (t : List Drawn) → TurnIsTaken before after went
    → DriverKeeps (its_member before ∷ []) t (its_member after ∷ []) t
keeps_task before after went t takes = keeps_played (its_member before) (its_member after) t (played_task before after went takes)

pub keeps_tasks : (olds news : List Turn) (t : List Drawn) → AllZip (λ x y. (went : Bool) × TurnIsTaken x y went) olds news
    → DriverKeeps (turning olds) t (turning news) t
keeps_tasks olds news t zip =
    keeps_all (λ x y. (went : Bool) × TurnIsTaken x y went) its_member t (λ x y takes. keeps_task x y takes.0 t takes.1) olds news zip

pub keeps_round : (before after : List Turn) (went : Bool) (t : List Drawn) → RoundOf TurnIsTaken before after went
    → DriverKeeps (turning before) t (turning after) t
keeps_round before after went t round = keeps_tasks before after t (zip_turned TurnIsTaken before after round.answers round.turned)

abbrev said : Turned → Option Turned → Turned
said other None = other
said other (Some turned) = turned

-- a goroutine whose turn reports that it has ended is over
ended_task : (r : Run) (before after : Turn) (went : Bool) → TurnIsTaken before after went → before.run ≡ r → (turned : Turned)
    → after.turned ≡ Some turned → turned.stop ≡ Ended → HasFinished (record_of_goroutine r.setup after.goroutine)
ended_task r before after went takes is turned says stop =
    let same : takes.turned ≡ turned = ap (said takes.turned) (sym (ap (λ (x : Turn). x.turned) takes.rest) ∙ says) in
    let stops : TurnStops before.run before.goroutine after.goroutine before.slice takes.turned.steps takes.turned.changed.count takes.has.es Ended
    = subst (TurnStops before.run before.goroutine after.goroutine before.slice takes.turned.steps takes.turned.changed.count takes.has.es)
    (ap (λ (x : Turned). x.stop) same ∙ stop) takes.has.stops in
    subst (λ (x : Run). HasFinished (record_of_goroutine x.setup after.goroutine)) is stops.1

-- all are of the run as before, and each number has its place
pub crew_round : (r : Run) (n : ℕ) (before after : List Turn) (went : Bool) → RoundOf TurnIsTaken before after went → All (IsOfCrew r n) before
    → All (IsOfCrew r n) after
crew_round r n before after went round all =
    zip_keeps (λ x y. (b : Bool) × TurnIsTaken x y b) (IsOfCrew r n)
    (λ x y takes crew. record {
      run = ap (λ (z : Turn). z.run) takes.1.rest ∙ crew.run;
      place = subst (λ (k : ℕ). k < n) (sym takes.1.number) crew.place;
      ended = ended_task r x y takes.0 takes.1 crew.run;
    }) before after (zip_turned TurnIsTaken before after round.answers round.turned) all

-- ---- meetings, looks and passes

module _ (T : Setup) (old new : Goroutine) (rest : new ≡ record old { actor = record old.actor { seat = new.actor.seat } }) where
  number_stays : new.number ≡ old.number
  number_stays = ap (λ (go : Goroutine). go.number) rest

  -- its record has printed and started nothing
  played_nothing : (record_of_goroutine T new).clock.prints ≡ (record_of_goroutine T old).clock.prints
      → (record_of_goroutine T new).clock.children ≡ (record_of_goroutine T old).clock.children → HasPlayed (member_of T old) (member_of T new)
  played_nothing prints children = record {
    number = number_stays;
    draws = [];
    printed = prints ∙ sym (append-nil (record_of_goroutine T old).clock.prints);
    fresh = ap (λ (go : Goroutine). ungathered_prints go) rest ∙ sym (append-nil (ungathered_prints old));
    starts = [];
    started = children;
    unborn = ap (λ (go : Goroutine). numbers go.children.items) rest;
  }

module _ (T : Setup) (old new : Goroutine) (t : List Drawn) where
  pub keeps_meet : HasMet T old new → DriverKeeps (member_of T old ∷ []) t (member_of T new ∷ []) t
  keeps_meet met =
      keeps_played (member_of T old) (member_of T new) t
      (played_nothing T old new met.rest (ap (λ (c : Record). c.clock.prints) met.its) (ap (λ (c : Record). c.clock.children) met.its))

  pub keeps_look : HasLookedOnce T old new → DriverKeeps (member_of T old ∷ []) t (member_of T new ∷ []) t
  keeps_look looked =
      keeps_played (member_of T old) (member_of T new) t
      (played_nothing T old new looked.rest (ap (λ (c : Record). c.clock.prints) looked.its)
      (ap (λ (c : Record). c.clock.children) looked.its))

pub keeps_meets : (T : Setup) (olds news : List Goroutine) (t : List Drawn) → AllZip (HasMet T) olds news
    → DriverKeeps (members T olds) t (members T news) t
keeps_meets T olds news t zip = keeps_all (HasMet T) (member_of T) t (λ x y met. keeps_meet T x y t met) olds news zip

pub keeps_looks : (T : Setup) (olds news : List Goroutine) (t : List Drawn) → AllZip (HasLookedOnce T) olds news
    → DriverKeeps (members T olds) t (members T news) t
keeps_looks T olds news t zip = keeps_all (HasLookedOnce T) (member_of T) t (λ x y looked. keeps_look T x y t looked) olds news zip

meets_numbered : (T : Setup) (old new : Goroutine) → HasMet T old new → IsNumbered old → IsNumbered new
meets_numbered T old new met was = number_stays T old new met.rest ∙ (was ∙ sym met.number)

looks_numbered : (T : Setup) (old new : Goroutine) → HasLookedOnce T old new → IsNumbered old → IsNumbered new
looks_numbered T old new looked was = number_stays T old new looked.rest ∙ (was ∙ sym looked.number)

module _ (r : Run) (old new : Goroutine) (t : List Drawn) (was : IsNumbered old) (is : IsNumbered new) where
  keeps_turned_once : (turned : Turned) → HasTurnedOnce r old new turned
      → DriverKeeps (member_of r.setup old ∷ []) t (member_of r.setup new ∷ []) t
  keeps_turned_once turned once =
      let T = r.setup in
      let first_is = meets_numbered T old once.first once.met was in
      let last_is : IsNumbered once.last = sym (number_stays T once.last new once.meets.rest) ∙ (is ∙ once.meets.number) in
      let number = same_number r once.first once.last 1 turned once.turns first_is last_is in
      let played = played_turn r once.first once.last 1 turned once.turns number in
      keeps_then (member_of T old ∷ []) (member_of T once.first ∷ []) (member_of T new ∷ []) t t t (keeps_meet T old once.first t once.met)
      (keeps_then (member_of T once.first ∷ []) (member_of T once.last ∷ []) (member_of T new ∷ []) t t t
      (keeps_played (member_of T once.first) (member_of T once.last) t played)
      (keeps_meet T once.last new t once.meets))

  pub keeps_may_turn : MayHaveTurned r old new → DriverKeeps (member_of r.setup old ∷ []) t (member_of r.setup new ∷ []) t
  keeps_may_turn may = ⊎_elim
      (λ (same : new ≡ old). subst (λ (go : Goroutine). DriverKeeps (member_of r.setup old ∷ []) t (member_of r.setup go ∷ []) t) (sym same)
      (keeps_nothing (member_of r.setup old ∷ []) t))
      (λ (one : (turned : Turned) × HasTurnedOnce r old new turned). keeps_turned_once one.0 one.1)
      may

pub keeps_may_turns : (r : Run) (olds news : List Goroutine) (t : List Drawn) → AllZip (MayHaveTurned r) olds news → All IsNumbered olds
    → All IsNumbered news → DriverKeeps (members r.setup olds) t (members r.setup news) t
keeps_may_turns r olds news t zip was is =
    keeps_all (λ x y. MayHaveTurned r x y × IsNumbered x × IsNumbered y) (member_of r.setup) t
    (λ x y both. keeps_may_turn r x y t both.1 both.2 both.0) olds news
    (zip_all (MayHaveTurned r) IsNumbered IsNumbered olds news zip was is)

pub keeps_pass : (r : Run) (me : Me Record) (olds news : List Goroutine) (passed : Passed) (t : List Drawn) → IsPass r me olds news passed
    → All (IsOf r) olds → All (IsOf r) news → DriverKeeps (members r.setup olds) t (members r.setup news) t
keeps_pass r me olds news passed t pass was is =
    let T = r.setup in
    let met_are = zip_keeps (HasMet T) IsNumbered (λ x y met. meets_numbered T x y met) olds pass.met pass.meets (numbered r olds was) in
    let looked_are = zip_keeps (HasLookedOnce T) IsNumbered (λ x y looked. looks_numbered T x y looked) pass.met pass.looked pass.looks met_are in
    keeps_then (members T olds) (members T pass.met) (members T news) t t t (keeps_meets T olds pass.met t pass.meets)
    (keeps_then (members T pass.met) (members T pass.looked) (members T news) t t t (keeps_looks T pass.met pass.looked t pass.looks)
    (keeps_may_turns r pass.looked news t pass.turns looked_are (numbered r news is)))

-- ---- prints that were gathered

valid_first : (v : Bool) (p : Print) (rest : List Print) → v ≡ false → In (drawn (cond (not v) (p ∷ rest) rest)) (drawn_by p)
valid_first false p rest e = (0, refl)
valid_first true p rest e = absurd (true≢false e)

valid_later : (v : Bool) (p : Print) (rest : List Print) (d : Drawn) → In (drawn rest) d → In (drawn (cond (not v) (p ∷ rest) rest)) d
valid_later false p rest d t = (suc t.0, t.1)
valid_later true p rest d t = t

-- one that is not void is gathered
valid_in : (ps : List Print) (d : Drawn) → In (drawn ps) d → d.is_void ≡ false → In (drawn (valid ps)) d
valid_in [] d t is = t
valid_in (p ∷ ps) d (zero, e) is =
    let s = some-injective (drawn_by p) d e in
    subst (λ (x : Drawn). In (drawn (valid (p ∷ ps))) x) s
    (valid_first p.is_void p (valid ps) (ap (λ (x : Drawn). x.is_void) s ∙ is))
valid_in (p ∷ ps) d (suc i, e) is = valid_later p.is_void p (valid ps) d (valid_in ps d (i, e) is)

only_first : (v : Bool) (p : Print) (rest : List Print) (d : Drawn) → p.is_void ≡ v → In (drawn (cond (not v) (p ∷ rest) rest)) d
    → ((drawn_by p ≡ d) × (d.is_void ≡ false)) ⊎ In (drawn rest) d
only_first true p rest d is t = inr t
only_first false p rest d is (zero, e) =
    let s = some-injective (drawn_by p) d e in inl (s, sym (ap (λ (x : Drawn). x.is_void) s) ∙ is)
only_first false p rest d is (suc i, e) = inr (i, e)

-- and no other one
valid_only : (ps : List Print) (d : Drawn) → In (drawn (valid ps)) d → In (drawn ps) d × (d.is_void ≡ false)
valid_only [] d t = absurd (none_in d t)
valid_only (p ∷ ps) d t = ⊎_elim
    (λ (l : (drawn_by p ≡ d) × (d.is_void ≡ false)). ((0, ap some l.0), l.1))
    (λ (s : In (drawn (valid ps)) d). let k = valid_only ps d s in ((suc k.0.0, k.0.1), k.1))
    (only_first p.is_void p (valid ps) d refl t)

module _ (r : Run) (old new : Goroutine) (list longer : List Print) (n : ℕ) (of : IsOf r old) (gathers : Gathers old new list longer n) where
  abbrev it : Member
  it = member_of r.setup old

  gathered_is : member_of r.setup new ≡ record it { fresh = [] }
  gathered_is =
      ap (member_of r.setup) gathers.rest ∙ ap (λ (ps : List Print). record it { fresh = map drawn_by ps }) gathers.none

  drawn_longer : drawn longer ≡ drawn list ++ drawn (valid old.prints.items)
  drawn_longer = ap drawn gathers.are ∙ map-append drawn_by list (valid old.prints.items)

  has_printed : (d : Drawn) → In (ungathered_prints old) d → HasPrinted it.its d
  has_printed d t =
      let s = subst (λ (l : List Drawn). In l d) (sym of.prints) (in_right of.gathered (ungathered_prints old) d t) in
      (s.0, get_of it.its.clock.prints s.0 d s.1)

  was_gathered : (given : List Drawn) → WasGathered it (member_of r.setup new) (given ++ drawn list) (given ++ drawn longer)
  was_gathered given =
      let more = drawn (valid old.prints.items) in
      record {
        is = gathered_is;
        old = λ d t. in_after given (drawn list) (drawn longer) d
            (λ (s : In (drawn list) d). subst (λ (l : List Drawn). In l d) (sym drawn_longer) (in_left (drawn list) more d s)) t;
        all = λ d t is. in_right given (drawn longer) d
            (subst (λ (l : List Drawn). In l d) (sym drawn_longer) (in_right (drawn list) more d (valid_in old.prints.items d t is)));
        only = λ d t. ⊎_elim
            (λ (s : In given d). inl (in_left given (drawn list) d s))
            (λ (s : In (drawn longer) d). ⊎_elim
            (λ (q : In (drawn list) d). inl (in_right given (drawn list) d q))
            (λ (q : In more d). let k = valid_only old.prints.items d q in inr (k.0, k.1, has_printed d k.0))
            (in_either (drawn list) more d (subst (λ (l : List Drawn). In l d) drawn_longer s)))
            (in_either given (drawn longer) d t);
      }

  pub keeps_gather : DriverKeeps (member_of r.setup old ∷ []) (drawn list) (member_of r.setup new ∷ []) (drawn longer)
  keeps_gather others given k =
      kept_by_gathering [] others it (member_of r.setup new) (given ++ drawn list) (given ++ drawn longer) (was_gathered given) k

-- ---- goroutines that were adopted

born_number : (r : Run) (children : List Child) (gos : List Goroutine) → AreBorn r children gos → (h : ℕ) → In (numbers children) h
    → SomeHasNumber (members r.setup gos) h
born_number r [] gos are h t = absurd (none_in h t)
born_number r (c ∷ cs) [] are h t = absurd are
born_number r (c ∷ cs) (g ∷ gos) are h t = ⊎_elim
    (λ (s : In (numbers cs) h). let q = born_number r cs gos are.1 h s in (q.0, (suc q.1.0, q.1.1), q.2))
    (λ (s : In (c.number ∷ []) h). (member_of r.setup g, (0, refl), are.0.number ∙ the_one s))
    (in_either (numbers cs) (c.number ∷ []) h t)
  where
    the_one : In (c.number ∷ []) h → c.number ≡ h
    the_one (zero, e) = some-injective c.number h e
    the_one (suc i, e) = absurd (some-ne-none h (sym e))

is_newborn : (r : Run) (child : Child) (go : Goroutine) → IsChild r child → IsBorn r child go → IsNewborn r go
is_newborn r child go is born =
    let c : record_of_goroutine r.setup go ≡ now r.setup child.actor =
    ap (λ a. mine r.setup a.seat.me) born.actor ∙ sym (now_at_once r.setup child.actor is.settled) in
    record {
      of = born.of;
      tidy = subst IsTidy (sym c) is.tidy;
      blank = ap (λ (d : Record). d.clock) c ∙ is.blank;
      prints = born.prints;
      children = born.children;
    }

all_newborn : (r : Run) (children : List Child) (gos : List Goroutine) → AreChildren r children → AreBorn r children gos → All (IsNewborn r) gos
all_newborn r [] [] stand are = All-nil (IsNewborn r)
all_newborn r [] (g ∷ gos) stand are = absurd are
all_newborn r (c ∷ cs) [] stand are = absurd are
all_newborn r (c ∷ cs) (g ∷ gos) stand are =
    All-cons (IsNewborn r) g gos (is_newborn r c g stand.0 are.0) (all_newborn r cs gos stand.1 are.1)

-- it has executed nothing
pub newborn_steps : (r : Run) (go : Goroutine) → IsNewborn r go → steps_of (record_of_goroutine r.setup go) ≡ 0
newborn_steps r go is = ap (λ (c : ClockRec). c.share.steps) is.blank

-- they have printed and started nothing
nothing_done : (r : Run) (gos : List Goroutine) → All (IsNewborn r) gos → (m : Member) → IsOneOf (members r.setup gos) m
    → (m.its.clock ≡ blank) × (m.fresh ≡ []) × (m.unborn ≡ [])
nothing_done r [] all m t = absurd (none_in m t)
nothing_done r (g ∷ gos) all m (zero, e) =
    let is = All-head (IsNewborn r) g gos all in
    subst (λ (x : Member). (x.its.clock ≡ blank) × (x.fresh ≡ []) × (x.unborn ≡ [])) (some-injective (member_of r.setup g) m e)
    (is.blank, ap drawn is.prints, ap numbers is.children)
nothing_done r (g ∷ gos) all m (suc i, e) = nothing_done r gos (All-tail (IsNewborn r) g gos all) m (i, e)

-- the children that were adopted come after it
pub keeps_adopted : (m n : Member) (more : List Member) (t : List Drawn) → WereAdopted m n more → DriverKeeps (m ∷ []) t (n ∷ more) t
keeps_adopted m n more t were others given k =
    kept_permuted ((n ∷ others) ++ more) ((n ∷ more) ++ others) (given ++ t) (given ++ t)
    (IsPermutation-cons n (others ++ more) (more ++ others) (IsPermutation-append_comm others more)) (IsPermutation-refl (given ++ t))
    (kept_by_adopting [] others more m n (given ++ t) were k)

module _ (r : Run) (old new : Goroutine) (list longer : List Goroutine) (n : ℕ) (of : IsOf r old) (adopts : Adopts r old new list longer n) where
  adopted_newborn : All (IsNewborn r) adopts.more
  adopted_newborn = all_newborn r old.children.items adopts.more of.all adopts.born

  pub adopts_newborn : All (IsNewborn r) list → All (IsNewborn r) longer
  adopts_newborn all =
      subst (All (IsNewborn r)) (sym adopts.are) (All-append (IsNewborn r) list adopts.more all adopted_newborn)

  were_adopted : WereAdopted (member_of r.setup old) (member_of r.setup new) (members r.setup adopts.more)
  were_adopted = record {
    is = ap (member_of r.setup) adopts.rest ∙ ap (λ (cs : List Child). record (member_of r.setup old) { unborn = numbers cs }) adopts.none;
    all = λ h t. born_number r old.children.items adopts.more adopts.born h (t.0, elem_of (numbers old.children.items) t.0 h t.1);
    new = λ m t. nothing_done r adopts.more adopted_newborn m t;
  }

  pub keeps_adopt : (t : List Drawn) → DriverKeeps (member_of r.setup old ∷ members r.setup list) t (member_of r.setup new ∷ members r.setup longer) t
  keeps_adopt t =
      let T = r.setup in
      let m = member_of T old in
      let now = member_of T new in
      let more = members T adopts.more in
      let all : members T longer ≡ members T list ++ more = ap (members T) adopts.are ∙ map-append (member_of T) list adopts.more in
      subst (λ (l : List Member). DriverKeeps (m ∷ members T list) t (now ∷ l) t) (sym all)
      (keeps_then (m ∷ members T list) (now ∷ (more ++ members T list)) (now ∷ (members T list ++ more)) t t t
      (keeps_beside (m ∷ []) (now ∷ more) (members T list) t t (keeps_adopted m now more t were_adopted))
      (keeps_permuted (now ∷ (more ++ members T list)) (now ∷ (members T list ++ more)) t t
      (IsPermutation-cons now (more ++ members T list) (members T list ++ more) (IsPermutation-append_comm more (members T list)))
      (IsPermutation-refl t)))

-- ---- a goroutine from which all is taken

module _ (r : Run) (old mid new : Goroutine) (prints waiting : List Print) (n : ℕ) (list longer : List Goroutine) (of : IsOf r old)
    (gathers : Gathers old mid prints waiting n) where
  gathered_beside : DriverKeeps (member_of r.setup old ∷ members r.setup list) (drawn prints)
      (member_of r.setup mid ∷ members r.setup list) (drawn waiting)
  gathered_beside =
      keeps_beside (member_of r.setup old ∷ []) (member_of r.setup mid ∷ []) (members r.setup list) (drawn prints) (drawn waiting)
      (keeps_gather r old mid prints waiting n of gathers)

  pub keeps_collect : (k : ℕ) → IsOf r mid → Adopts r mid new list longer k
      → DriverKeeps (member_of r.setup old ∷ members r.setup list) (drawn prints) (member_of r.setup new ∷ members r.setup longer) (drawn waiting)
  keeps_collect k mid_of adopts =
      keeps_then (member_of r.setup old ∷ members r.setup list) (member_of r.setup mid ∷ members r.setup list)
      (member_of r.setup new ∷ members r.setup longer) (drawn prints) (drawn waiting) (drawn waiting) gathered_beside
      (keeps_adopt r mid new list longer k mid_of adopts (drawn waiting))

  -- none was adopted
  pub keeps_prints_only : new ≡ mid → longer ≡ list
      → DriverKeeps (member_of r.setup old ∷ members r.setup list) (drawn prints) (member_of r.setup new ∷ members r.setup longer) (drawn waiting)
  keeps_prints_only same none =
      subst (λ (go : Goroutine). DriverKeeps (member_of r.setup old ∷ members r.setup list) (drawn prints)
      (member_of r.setup go ∷ members r.setup longer) (drawn waiting)) (sym same)
      (subst (λ (l : List Goroutine). DriverKeeps (member_of r.setup old ∷ members r.setup list) (drawn prints)
      (member_of r.setup mid ∷ members r.setup l) (drawn waiting)) (sym none) gathered_beside)

-- ---- prints that were given out

-- some of those that wait are given out
pub keeps_out : (ms : List Member) (taken : List Drawn) (old given new : List Print) → IsPermutation old (given ++ new)
    → NoneIsLost ms (taken ++ drawn old) → NoneIsLost ms ((taken ++ drawn given) ++ drawn new)
keeps_out ms taken old given new all k =
    let out : IsPermutation (drawn old) (drawn given ++ drawn new) =
    subst (IsPermutation (drawn old)) (map-append drawn_by given new) (IsPermutation-map drawn_by old (given ++ new) all) in
    subst (NoneIsLost ms) (sym (append_assoc taken (drawn given) (drawn new)))
    (kept_permuted ms ms (taken ++ drawn old) (taken ++ (drawn given ++ drawn new)) (IsPermutation-refl ms)
    (IsPermutation-append_right taken (drawn old) (drawn given ++ drawn new) out) k)

-- ---- the beginning

module _ (r : Run) (go : Goroutine) (me : go.actor.seat.me ≡ (view ((0, first_of r.setup.code) ∷ []) [], [])) where
  main_is : record_of_goroutine r.setup go ≡ first_of r.setup.code
  main_is = ap (λ (m : Me Record). mine r.setup m) me

  pub begins_tidy : IsTidy (record_of_goroutine r.setup go)
  begins_tidy = subst IsTidy (sym main_is) (record { hold = refl; make = refl; claim = refl; give = refl })

  pub begins_steps : steps_of (record_of_goroutine r.setup go) ≡ 0
  begins_steps = ap steps_of main_is

  -- its record has come back to the seat of its driver
  pub begins_again : (seat now : Me Record) → go.number ≡ 0 → seat ≡ (view [] [], [])
      → now.0.records ≡ seat.0.records ++ (go.number, record_of_goroutine r.setup go) ∷ [] → now.0.seen ≡ longer seat.0.seen go.actor.seat.me.0.seen
      → now.1 ≡ seat.1 → now ≡ (view ((0, first_of r.setup.code) ∷ []) [], [])
  begins_again seat now number none records seen slots =
      let rows : now.0.records ≡ (0, first_of r.setup.code) ∷ [] =
      records ∙ (ap (λ (m : Me Record). m.0.records ++ (go.number, record_of_goroutine r.setup go) ∷ []) none
      ∙ (ap (λ (n : ℕ). (n, record_of_goroutine r.setup go) ∷ []) number ∙ ap (λ (c : Record). (0, c) ∷ []) main_is)) in
      let all : now.0.seen ≡ [] =
      seen ∙ (ap (λ (m : Me Record). longer m.0.seen go.actor.seat.me.0.seen) none ∙ ap (λ (m : Me Record). longer [] m.0.seen) me) in
      let free : now.1 ≡ [] = slots ∙ ap (λ (m : Me Record). m.1) none in
      ap (λ (rs : Rows Record). (view rs now.0.seen, now.1)) rows
      ∙ (ap (λ (es : List Access). (view ((0, first_of r.setup.code) ∷ []) es, now.1)) all
      ∙ ap (λ k. (view ((0, first_of r.setup.code) ∷ []) [], k)) free)

  pub begins : go.number ≡ 0 → NoneIsLost (member_of r.setup go ∷ []) []
  begins number = record {
    main = (member_of r.setup go, (0, refl), number);
    children = λ m h one t. absurd (none_listed h (subst (λ (l : List ℕ). ListHasNumber l h)
        (ap (λ (x : Member). x.its.clock.children) (sym (the_one (member_of r.setup go) m one))
        ∙ ap (λ (c : Record). c.clock.children) main_is) t));
    prints = λ m d one t is. absurd (none_printed d (subst (λ (l : List Drawn). (i : ℕ) × (slice_get l i ≡ Some d))
        (ap (λ (x : Member). x.its.clock.prints) (sym (the_one (member_of r.setup go) m one))
        ∙ ap (λ (c : Record). c.clock.prints) main_is) t));
    are = λ d t. absurd (none_in d t);
  }
    where
      the_one : (m n : Member) → IsOneOf (m ∷ []) n → m ≡ n
      the_one m n (zero, e) = some-injective m n e
      the_one m n (suc i, e) = absurd (some-ne-none n (sym e))

      none_listed : (h : ℕ) → ListHasNumber [] h → ⊥
      none_listed h t = let z : None ≡ Some h = t.1 in cc z

      none_printed : (d : Drawn) → (i : ℕ) × (slice_get [] i ≡ Some d) → ⊥
      none_printed d t = let z : None ≡ Some d = t.1 in cc z
