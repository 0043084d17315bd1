-- Goroutines leave one after the other, and their driver has the records of all. `HaveLeft` of two lists, one after the other, is that of
-- both (`both_left`), so each loop adds one goroutine. What is said if nothing is lost is kept apart from what is said in any case.
use Rattle.std.proofs.Common.{◌≡◌, ℕ, true, false, List, [], ◌∷◌, ◌++◌, All, IsPermutation, length, map, reverse, refl, ap, sym, subst, ◌∙◌, append_assoc, append-nil, arith, true≢false}
use Rattle.std.proofs.lemmas.List.{length-append, map-append, reverse-append}
use Rattle.std.proofs.lemmas.List.Elements.{All-head, All-nil, All-push}
use Rattle.std.proofs.lemmas.List.Sorted.{IsPermutation-append, IsPermutation-append_comm, IsPermutation-append_left, IsPermutation-append_right, IsPermutation-refl, IsPermutation-reverse, IsPermutation-sym, IsPermutation-trans}
use Rattle.rgo_core.proofs.Rule.Passes.{keeps}
use Rattle.rgo_core.specs.Core.{Setup}
use Rattle.rgo_core.specs.Records.{Drawn}
use Rattle.rgo_core.specs.Rule.Views.{longer}
use Rattle.rgo_core.specs.Rule.declared.accesses.Access.{Access}
use Rattle.rgo_table_runs.specs.Goroutine.Acts.Runs.{Run}
use Rattle.rgo_table_runs.specs.Goroutine.Goroutines.{numbers}
use Rattle.rgo_table_runs.specs.Goroutine.declared.goroutine.Goroutine.{Goroutine}
use Rattle.rgo_table_runs.specs.closing.Members.{Member, retired}
use Rattle.rgo_runtime.specs.Crew.{Crew}
use Rattle.rgo_runtime.specs.Crews.{AreRetired, DriverKeeps, KeepsMembers, NobodyIsLost, its_goroutine, end_mark, member_of, members}
use Rattle.rgo_runtime.specs.Leaving.{HaveAllLeft, HaveLeft, IsEmptied, LeavingExamples, goroutine_row}
use Rattle.rgo_runtime.specs.Parking.{Parked, all_parked, parked_values}
use Rattle.rgo_runtime.specs.Passing.{IsBehind, seen_by}
use Rattle.rgo_runtime.specs.Turns.{Turn}
use Rattle.rgo_runtime.specs.declared.retiring.Left.{Left}
use Rattle.rgo_runtime.proofs.crews.Parked.{values_of_all}
use Rattle.rgo_runtime.proofs.crews.Parts.{in_permuted, keeps_after, keeps_nothing, keeps_permuted, keeps_then}
use Rattle.rgo_runtime.proofs.leaving.One.{given_up, nobody_by_order}
use Rattle.rgo_runtime.proofs.crews.Moving.{all_first, all_last}

-- ---- members, of which prints may be lost

nobody_permuted : (ms ns : List Member) (taken : List Drawn) → IsPermutation ms ns → NobodyIsLost ms taken → NobodyIsLost ns taken
nobody_permuted ms ns taken same k =
    nobody_by_order ms ns taken taken k (record {
      there = λ m t. in_permuted ms ns same m t;
      back = λ m t. in_permuted ns ms (IsPermutation-sym ms ns same) m t;
      still = λ d t. t;
      before = λ d t. t;
    })

members_then : (a b c : List Member) → KeepsMembers a b → KeepsMembers b c → KeepsMembers a c
members_then a b c first second others taken k = second others taken (first others taken k)

members_permuted : (a b : List Member) → IsPermutation a b → KeepsMembers a b
members_permuted a b same others taken k = nobody_permuted (a ++ others) (b ++ others) taken (IsPermutation-append_left others a b same) k

-- the last ones are among the others
members_after : (a b c : List Member) → KeepsMembers a b → KeepsMembers (c ++ a) (c ++ b)
members_after a b c keeps others taken k =
    let around : (l : List Member) → IsPermutation ((c ++ l) ++ others) (l ++ (c ++ others)) =
    λ l. subst (IsPermutation ((c ++ l) ++ others)) (append_assoc l c others)
    (IsPermutation-append_left others (c ++ l) (l ++ c) (IsPermutation-append_comm c l)) in
    let there = nobody_permuted ((c ++ a) ++ others) (a ++ (c ++ others)) taken (around a) k in
    nobody_permuted (b ++ (c ++ others)) ((c ++ b) ++ others) taken
    (IsPermutation-sym ((c ++ b) ++ others) (b ++ (c ++ others)) (around b)) (keeps (c ++ others) taken there)

-- ---- some leave, and then others

-- the members that have retired
abbrev rows_in : Left → List Member
rows_in left = map retired left.seat.me.0.records

pub nobody_leaves : (T : Setup) (left : Left) → HaveLeft T [] left left
nobody_leaves T left = record {
  own = refl;
  places = refl;
  whole = λ e. e;
  emptied = λ e all. e;
  rows = λ e. sym (append-nil left.seat.me.0.records);
  seen = λ e all. refl;
  kept = λ e. keeps_nothing (rows_in left) [];
  members = λ others taken k. k;
  retired = λ k. k;
}

module _ (T : Setup) (gos hos : List Goroutine) (a b c : Left) (first : HaveLeft T gos a b) (second : HaveLeft T hos b c) where
  abbrev all : List Member
  all = members T (gos ++ hos) ++ rows_in a

  -- all of them, those that leave first at the end
  abbrev turned : List Member
  turned = members T hos ++ (members T gos ++ rows_in a)

  in_turn : IsPermutation all turned
  in_turn =
      let xs = members T gos in
      let ys = members T hos in
      let rs = rows_in a in
      subst (λ (l : List Member). IsPermutation (l ++ rs) turned) (sym (map-append (member_of T) gos hos))
      (subst (IsPermutation ((xs ++ ys) ++ rs)) (append_assoc ys xs rs)
      (IsPermutation-append_left rs (xs ++ ys) (ys ++ xs) (IsPermutation-append_comm xs ys)))

  rows_then : c.is_whole ≡ true → c.seat.me.0.records ≡ a.seat.me.0.records ++ map (goroutine_row T) (gos ++ hos)
  rows_then e =
      let xs = map (goroutine_row T) gos in
      let ys = map (goroutine_row T) hos in
      let rs = a.seat.me.0.records in
      second.rows e
      ∙ (ap (λ l. l ++ ys) (first.rows (second.whole e))
      ∙ (append_assoc rs xs ys ∙ ap (λ l. rs ++ l) (sym (map-append (goroutine_row T) gos hos))))

  seen_then : c.is_whole ≡ true → All (IsBehind a.seat.me.0.seen) (gos ++ hos) → c.seat.me.0.seen ≡ a.seat.me.0.seen
  seen_then e behind =
      let same = first.seen (second.whole e) (all_first (IsBehind a.seat.me.0.seen) gos hos behind) in
      second.seen e
      (subst (λ (l : List Access). All (IsBehind l) hos) (sym same) (all_last (IsBehind a.seat.me.0.seen) gos hos behind))
      ∙ same

  kept_then : c.is_whole ≡ true → DriverKeeps all [] (rows_in c) []
  kept_then e =
      keeps_then all turned (rows_in c) [] [] [] (keeps_permuted all turned [] [] in_turn (IsPermutation-refl []))
      (keeps_then turned (members T hos ++ rows_in b) (rows_in c) [] [] []
      (keeps_after (members T gos ++ rows_in a) (rows_in b) (members T hos) [] [] (first.kept (second.whole e)))
      (second.kept e))

  kept_members : KeepsMembers all (rows_in c)
  kept_members =
      members_then all turned (rows_in c) (members_permuted all turned in_turn)
      (members_then turned (members T hos ++ rows_in b) (rows_in c)
      (members_after (members T gos ++ rows_in a) (rows_in b) (members T hos) first.members)
      second.members)

  pub both_left : HaveLeft T (gos ++ hos) a c
  both_left = record {
    own = second.own ∙ first.own;
    places = second.places ∙ first.places;
    whole = λ e. first.whole (second.whole e);
    emptied = λ e empty.
        second.emptied (first.emptied e (all_first (IsEmptied (length a.shares)) gos hos empty))
        (subst (λ (n : ℕ). All (IsEmptied n) hos) (sym first.places) (all_last (IsEmptied (length a.shares)) gos hos empty));
    rows = rows_then;
    seen = seen_then;
    kept = kept_then;
    members = kept_members;
    retired = λ k. second.retired (first.retired k);
  }

-- ---- one leaves

module _ (r : Run) (go : Goroutine) (old new : Left) (own : new.seat.table_id ≡ old.seat.table_id)
    (places : length new.shares ≡ length old.shares)
    (are_retired : AreRetired old.seat.me.0.records old.shares (end_mark old.first)
    → AreRetired new.seat.me.0.records new.shares (end_mark new.first)) where
  -- it retires: all that it has started was adopted
  module _ (adopted : go.children.items ≡ []) (rows : new.seat.me.0.records ≡ old.seat.me.0.records ++ goroutine_row r.setup go ∷ [])
      (seen : new.seat.me.0.seen ≡ longer old.seat.me.0.seen (seen_by go)) where
    it_is_kept : KeepsMembers (members r.setup (go ∷ []) ++ rows_in old) (rows_in new)
    it_is_kept =
        let m = member_of r.setup go in
        subst (λ rs. KeepsMembers (m ∷ rows_in old) (map retired rs)) (sym rows)
        (given_up r m [] old.seat.me.0.records (ap numbers adopted) tt)

    pub one_retires : new.is_whole ≡ old.is_whole → DriverKeeps (member_of r.setup go ∷ rows_in old) [] (rows_in new) []
        → HaveLeft r.setup (go ∷ []) old new
    one_retires same kept = record {
      own = own;
      places = places;
      whole = λ e. sym same ∙ e;
      emptied = λ e empty. same ∙ e;
      rows = λ e. rows;
      seen = λ e behind. seen ∙ keeps old.seat.me.0.seen (seen_by go) (All-head (IsBehind old.seat.me.0.seen) go [] behind);
      kept = λ e. kept;
      members = it_is_kept;
      retired = are_retired;
    }

  -- it is given up, since not all was taken from it, or there is no place for what it has counted
  pub one_is_given_up : new.is_whole ≡ false → (IsEmptied (length old.shares) go → ⊥) → KeepsMembers (member_of r.setup go ∷ rows_in old) (rows_in new)
      → HaveLeft r.setup (go ∷ []) old new
  one_is_given_up lost full kept =
      let never : new.is_whole ≡ true → ⊥ = λ e. true≢false (sym e ∙ lost) in
      record {
        own = own;
        places = places;
        whole = λ e. absurd (never e);
        emptied = λ e empty. absurd (full (All-head (IsEmptied (length old.shares)) go [] empty));
        rows = λ e. absurd (never e);
        seen = λ e behind. absurd (never e);
        kept = λ e. absurd (never e);
        members = kept;
        retired = are_retired;
      }

-- ---- lists whose last element goes first

module _ {A : Type 0} (P : A → Type 0) (xs left : List A) where
  -- what holds of all holds of the last
  pub last_one : (x : A) → xs ≡ left ++ x ∷ [] → All P xs → P x
  last_one x last so = All-head P x [] (all_last P left (x ∷ []) (subst (All P) last so))

  -- and of those before it
  pub but_last : (more : List A) → xs ≡ left ++ more → All P xs → All P left
  but_last more last so = all_first P left more (subst (All P) last so)

  pub last_ones : (more : List A) → xs ≡ left ++ more → All P xs → All P more
  last_ones more last so = all_last P left more (subst (All P) last so)

-- go leaves, which is the last of those that are left
pub last_gone : (gos gone before left : List Goroutine) (go : Goroutine) → reverse gos ≡ gone ++ reverse before → before ≡ left ++ go ∷ []
    → reverse gos ≡ (gone ++ go ∷ []) ++ reverse left
last_gone gos gone before left go is last =
    is
    ∙ (ap (λ l. gone ++ reverse l) last
    ∙ (ap (λ l. gone ++ l) (reverse-append left (go ∷ [])) ∙ sym (append_assoc gone (go ∷ []) (reverse left))))

-- its turn is the last of those that are left
pub last_turn_gone : (turns : List Turn) (gone : List Goroutine) (before left : List Turn) (t : Turn) (go : Goroutine)
    → reverse (map its_goroutine turns) ≡ gone ++ reverse (map its_goroutine before) → before ≡ left ++ t ∷ [] → go ≡ t.goroutine
    → reverse (map its_goroutine turns) ≡ (gone ++ go ∷ []) ++ reverse (map its_goroutine left)
last_turn_gone turns gone before left t go is last its =
    last_gone (map its_goroutine turns) gone (map its_goroutine before) (map its_goroutine left) go is
    (ap (map its_goroutine) last
    ∙ (map-append its_goroutine left (t ∷ []) ∙ ap (λ x. map its_goroutine left ++ x ∷ []) (sym its)))

-- none is left
pub none_left : (T : Setup) (gos gone before : List Goroutine) (old new : Left) → gos ≡ gone ++ reverse before → before ≡ []
    → HaveLeft T gone old new → HaveLeft T gos old new
none_left T gos gone before old new is none left =
    let same : gos ≡ gone = is ∙ (ap (λ l. gone ++ reverse l) none ∙ append-nil gone) in
    subst (λ (l : List Goroutine). HaveLeft T l old new) (sym same) left

-- the goroutines of a group leave, which are the last of those that are parked
pub group_gone : (gos gone before left group : List Goroutine) → IsPermutation gos (gone ++ before) → before ≡ left ++ group
    → IsPermutation gos ((gone ++ reverse group) ++ left)
group_gone gos gone before left group is last =
    let back : IsPermutation (left ++ group) (reverse group ++ left) =
    IsPermutation-trans (left ++ group) (group ++ left) (reverse group ++ left) (IsPermutation-append_comm left group)
    (IsPermutation-append_left left group (reverse group) (IsPermutation-reverse group)) in
    IsPermutation-trans gos (gone ++ (left ++ group)) ((gone ++ reverse group) ++ left)
    (subst (λ l. IsPermutation gos (gone ++ l)) last is)
    (subst (IsPermutation (gone ++ (left ++ group))) (sym (append_assoc gone (reverse group) left))
    (IsPermutation-append_right gone (left ++ group) (reverse group ++ left) back))

-- none is parked
pub none_parked : (gos gone before : List Goroutine) → IsPermutation gos (gone ++ before) → before ≡ [] → IsPermutation gone gos
none_parked gos gone before is none =
    IsPermutation-sym gos gone (subst (IsPermutation gos) (ap (λ l. gone ++ l) none ∙ append-nil gone) is)

-- those that wait for each of the operations are parked
pub three_parts : (P : Turn → Type 0) (p : Parked Turn) → All P (parked_values (all_parked p))
    → All P (parked_values p.senders) × All P (parked_values p.receivers) × All P (parked_values p.offerers)
three_parts P p all =
    let s = parked_values p.senders in
    let r = parked_values p.receivers in
    let o = parked_values p.offerers in
    let each = subst (All P) (values_of_all p) all in
    let rest = all_last P s (r ++ o) each in
    (all_first P s (r ++ o) each, all_first P r o rest, all_last P r o rest)

-- they have gone one after the other
pub three_gone : (p : Parked Turn) (a b c : List Goroutine) → IsPermutation a (map its_goroutine (parked_values p.senders))
    → IsPermutation b (map its_goroutine (parked_values p.receivers)) → IsPermutation c (map its_goroutine (parked_values p.offerers))
    → IsPermutation ((a ++ b) ++ c) (map its_goroutine (parked_values (all_parked p)))
three_gone p a b c first second third =
    let s = map its_goroutine (parked_values p.senders) in
    let r = map its_goroutine (parked_values p.receivers) in
    let o = map its_goroutine (parked_values p.offerers) in
    let all : map its_goroutine (parked_values (all_parked p)) ≡ (s ++ r) ++ o =
    ap (map its_goroutine) (values_of_all p)
    ∙ (map-append its_goroutine (parked_values p.senders) (parked_values p.receivers ++ parked_values p.offerers)
    ∙ (ap (λ l. s ++ l) (map-append its_goroutine (parked_values p.receivers) (parked_values p.offerers)) ∙ sym (append_assoc s r o))) in
    subst (IsPermutation ((a ++ b) ++ c)) (sym all)
    (IsPermutation-append (a ++ b) (s ++ r) c o (IsPermutation-append a s b r first second) third)

-- all have left
pub all_gone : (ready gone parked born : List Goroutine) → IsPermutation gone parked
    → IsPermutation (reverse ready ++ (gone ++ reverse born)) (ready ++ (parked ++ born))
all_gone ready gone parked born same =
    let back : (l : List Goroutine) → IsPermutation (reverse l) l = λ l. IsPermutation-sym l (reverse l) (IsPermutation-reverse l) in
    IsPermutation-append (reverse ready) ready (gone ++ reverse born) (parked ++ born) (back ready)
    (IsPermutation-append gone parked (reverse born) born same (back born))

-- Those of a crew leave: those that are ready, those that are parked, and those that were born. now is what the crew is seen as.
pub crew_leaves : (c now : Crew) → c ≡ now → (begin mid late last : Left) → begin.seat.table_id ≡ c.table
    → (begin.seat.me ≡ c.me) × (begin.shares ≡ c.shares) × (begin.first ≡ c.first) × (begin.is_whole ≡ true)
    → HaveLeft c.run.setup (reverse (map its_goroutine c.ready)) begin mid
    → (gone : List Goroutine) → IsPermutation gone (map its_goroutine (parked_values c.parked)) → HaveLeft c.run.setup gone mid late
    → HaveLeft c.run.setup (reverse c.born) late last → HaveAllLeft now last
crew_leaves c now seen begin mid late last own is ready gone same parked born =
    let T = c.run.setup in
    let first = reverse (map its_goroutine c.ready) in
    let all : HaveAllLeft c last = record {
      gone = first ++ (gone ++ reverse c.born);
      all = all_gone (map its_goroutine c.ready) gone (map its_goroutine (parked_values c.parked)) c.born same;
      begin = begin;
      own = own;
      is = is;
      left = both_left T first (gone ++ reverse c.born) begin mid last ready (both_left T gone (reverse c.born) mid late last parked born);
    } in
    subst (λ (x : Crew). HaveAllLeft x last) seen all

-- ---- examples

longer_by_one : {A : Type 0} (xs : List A) (x : A) → xs ≡ xs ++ x ∷ [] → ⊥
longer_by_one xs x e =
    let more : length xs ≡ length (xs ++ x ∷ []) = ap length e in
    omega (arith, more, length-append xs (x ∷ []))

pub leaving : LeavingExamples
leaving = record {
  nobody = nobody_leaves;
  lost = λ T go left whole k. longer_by_one left.seat.me.0.records (goroutine_row T go) (k.rows whole);
  made_whole = λ T old new lost whole k. lost (k.whole whole);
  thrown_away = λ T go old new whole lost empty k.
      let P = IsEmptied (length old.shares) in
      true≢false (sym (k.emptied whole (All-push P [] go (All-nil P) empty)) ∙ lost);
}
