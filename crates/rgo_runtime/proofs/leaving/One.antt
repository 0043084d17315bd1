-- What is kept when goroutines retire and when they are given up: `AreRetired` of the longer rows, and nobody is lost. The hard case is one
-- that is given up: its children come with it, and they have no place among the shares. They have counted nothing, so that none is needed.
use Rattle.std.proofs.Common.{◌≡◌, ◌⊎◌, inl, inr, ⊎_elim, ℕ, zero, suc, ◌<◌, ◌≤◌, Bool, true, false, nat_eq, List, [], ◌∷◌, ◌++◌, get_or, length, map, replicate, Option, Some, None, slice_get, slice_set, refl, ap, sym, subst, ◌∙◌, arith}
use Rattle.std.specs.Option.{MatchOption}
use Rattle.std.proofs.lemmas.List.{map-append}
use Rattle.std.proofs.lemmas.Option.{same_Some, slice_get_cases}
use mathlib.Core.Option.{some, some-injective, some-ne-none}
use lib.ListN.{get_elem?}
use Rattle.rgo_table_runs.specs.Goroutine.Acts.Actors.{now}
use Rattle.rgo_table_runs.specs.Goroutine.Acts.Runs.{Run}
use Rattle.rgo_core.proofs.Lists.{elem_of}
use Rattle.rgo_core.specs.Core.{Setup}
use Rattle.rgo_core.specs.Records.{ClockRec, Drawn, Record, blank}
use Rattle.rgo_core.specs.Rule.Views.{HasRow, Rows}
use Rattle.rgo_core_steps.specs.Ends.{mark_of}
use Rattle.rgo_core_steps.specs.Outcomes.{ClosesTable, HasFamily}
use Rattle.rgo_core_steps.specs.Seats.{mine, settled}
use Rattle.rgo_core_steps.specs.declared.clock.Mark as clock
use Rattle.rgo_core.specs.Rule.declared.accesses.View.{View}
use Rattle.rgo_table_runs.specs.Goroutine.Goroutines.{AreChildren, IsTidy, numbers, rows_of_children}
use Rattle.rgo_table_runs.specs.Goroutine.declared.goroutine.Child.{Child}
use Rattle.rgo_sound.specs.RegionMachine.Counts.{Counts}
use Rattle.rgo_sound.specs.RegionMachine.States.{Mark}
use Rattle.rgo_sound.proofs.Places.{get_set_other, get_set_same, get_some, length_set}
use Rattle.rgo_sound.proofs.Tests.{eq_of}
use Rattle.rgo_sound.specs.Tally.{no_share}
use Rattle.rgo_table_runs.proofs.closing.Members.{kept_by_order}
use Rattle.rgo_table_runs.specs.closing.Ends.{IsFirst}
use Rattle.rgo_table_runs.specs.closing.Gathering.{HasShares, IsDrawnIn}
use Rattle.rgo_table_runs.specs.closing.Members.{AreSameMembers, SomeHasNumber, HasPrinted, ListHasNumber, IsOneOf, Member, NoneIsLost, retired}
use Rattle.rgo_table_runs.specs.closing.Prints.{SomePrinted}
use Rattle.rgo_runtime.specs.Crews.{AreRetired, DriverKeeps, KeepsMembers, NobodyIsLost, end_mark}

-- ---- being in a list

module _ {A : Type 0} where
  abbrev pub In : List A → A → Type 0
  In xs x = (i : ℕ) × (get_elem? xs i ≡ some x)

  pub none_in : (x : A) → In [] x → ⊥
  none_in x t = some-ne-none x (sym t.1)

  pub in_left : (xs ys : List A) (x : A) → In xs x → In (xs ++ ys) x
  in_left [] ys x t = absurd (none_in x t)
  in_left (z ∷ xs) ys x (zero, e) = (0, e)
  in_left (z ∷ xs) ys x (suc i, e) = let t = in_left xs ys x (i, e) in (suc t.0, t.1)

  pub in_right : (xs ys : List A) (x : A) → In ys x → In (xs ++ ys) x
  in_right [] ys x t = t
  in_right (z ∷ xs) ys x t = let r = in_right xs ys x t in (suc r.0, r.1)

  pub in_either : (xs ys : List A) (x : A) → In (xs ++ ys) x → In xs x ⊎ In ys x
  in_either [] ys x t = inr t
  in_either (z ∷ xs) ys x (zero, e) = inl (0, e)
  in_either (z ∷ xs) ys x (suc i, e) = ⊎_elim (λ (t : In xs x). inl (suc t.0, t.1)) (λ (t : In ys x). inr t) (in_either xs ys x (i, e))

  pub in_cons : (z : A) (xs : List A) (x : A) → In (z ∷ xs) x → (z ≡ x) ⊎ In xs x
  in_cons z xs x (zero, e) = inl (some-injective z x e)
  in_cons z xs x (suc i, e) = inr (i, e)

  pub in_rest : (z : A) (xs : List A) (x : A) → In xs x → In (z ∷ xs) x
  in_rest z xs x t = (suc t.0, t.1)

  pub the_middle : (xs ys : List A) (z : A) → In (xs ++ z ∷ ys) z
  the_middle xs ys z = in_right xs (z ∷ ys) z (0, refl)

  pub in_list : (xs : List A) (x : A) → (i : ℕ) × (slice_get xs i ≡ Some x) → In xs x
  in_list xs x t = (t.0, elem_of xs t.0 x t.1)

  -- the first goes after some others
  pub moved : (xs ys : List A) (z x : A) → In (z ∷ (xs ++ ys)) x → In ((xs ++ z ∷ []) ++ ys) x
  moved xs ys z x t = ⊎_elim
      (λ (e : z ≡ x). subst (In ((xs ++ z ∷ []) ++ ys)) e (in_left (xs ++ z ∷ []) ys z (the_middle xs [] z)))
      (λ (r : In (xs ++ ys) x). ⊎_elim
      (λ (s : In xs x). in_left (xs ++ z ∷ []) ys x (in_left xs (z ∷ []) x s))
      (λ (s : In ys x). in_right (xs ++ z ∷ []) ys x s)
      (in_either xs ys x r))
      (in_cons z (xs ++ ys) x t)

  pub moved_back : (xs ys : List A) (z x : A) → In ((xs ++ z ∷ []) ++ ys) x → In (z ∷ (xs ++ ys)) x
  moved_back xs ys z x t = ⊎_elim
      (λ (r : In (xs ++ z ∷ []) x). ⊎_elim
      (λ (s : In xs x). in_rest z (xs ++ ys) x (in_left xs ys x s))
      (λ (s : In (z ∷ []) x). ⊎_elim
      (λ (e : z ≡ x). subst (In (z ∷ (xs ++ ys))) e (0, refl))
      (λ (n : In [] x). absurd (none_in x n))
      (in_cons z [] x s))
      (in_either xs (z ∷ []) x r))
      (λ (s : In ys x). in_rest z (xs ++ ys) x (in_right xs ys x s))
      (in_either (xs ++ z ∷ []) ys x t)

get_first : {A : Type 0} (xs ys : List A) (i : ℕ) (x : A) → slice_get xs i ≡ Some x → slice_get (xs ++ ys) i ≡ Some x
get_first [] ys i x e = let z : None ≡ Some x = e in absurd (cc z)
get_first (z ∷ xs) ys zero x e = e
get_first (z ∷ xs) ys (suc i) x e = get_first xs ys i x e

get_either : {A : Type 0} (xs ys : List A) (i : ℕ) (x : A) → slice_get (xs ++ ys) i ≡ Some x → (slice_get xs i ≡ Some x) ⊎ In ys x
get_either [] ys i x e = inr (in_list ys x (i, e))
get_either (z ∷ xs) ys zero x e = inl e
get_either (z ∷ xs) ys (suc i) x e = get_either xs ys i x e

of_replicate : {A : Type 0} (n : ℕ) (x y : A) → In (replicate n x) y → y ≡ x
of_replicate zero x y t = absurd (none_in y t)
of_replicate (suc n) x y t = ⊎_elim (λ (e : x ≡ y). sym e) (λ (q : In (replicate n x) y). of_replicate n x y q) (in_cons x (replicate n x) y t)

set_past : {A : Type 0} (xs : List A) (i : ℕ) (x : A) → length xs ≤ i → slice_set xs i x ≡ xs
set_past [] i x l = refl
set_past (y ∷ xs) zero x l = absurd (omega (arith, l))
set_past (y ∷ xs) (suc i) x l = ap (λ (ys : List _). y ∷ ys) (set_past xs i x (omega (arith, l)))

-- ---- rows

-- the end mark of a goroutine, and how the run has ended before and after that was recorded
abbrev pub Noted : Option Mark → (old new : Option Mark) → Type 0
Noted its old new = ((its ≡ None) × (new ≡ old)) ⊎ ((mark : Mark) × (its ≡ Some mark) × (new ≡ Some mark))

pub noted : (go : Option clock.Mark) (old new : Option clock.Mark) (its : Option Mark) → MatchOption go (new ≡ old) (λ mark. new ≡ Some mark)
    → its ≡ end_mark go → Noted its (end_mark old) (end_mark new)
noted None old new its how is = inl (is, ap end_mark how)
noted (Some mark) old new its how is = inr (mark_of mark, is, ap end_mark how)

-- rows of goroutines that have done nothing
abbrev pub AreNew : Rows Record → Type 0
AreNew kids = (g : ℕ) (d : Record) → HasRow kids g d → IsTidy d × (d.clock ≡ blank)

-- a row has its share among these, or needs none
abbrev HasItsShare : Rows Record → List Counts → ℕ → Record → Type 0
HasItsShare rs shares g c = ((d : Record) × HasRow rs g d × (slice_get shares g ≡ Some d.clock.share)) ⊎ ((length shares ≤ g) × (c.clock.share ≡ no_share))

-- what is at a place belongs to a row of its number, or is nothing
abbrev Belongs : Rows Record → ℕ → Counts → Type 0
Belongs rs g share = ((d : Record) × HasRow rs g d × (d.clock.share ≡ share)) ⊎ (share ≡ no_share)

beyond : (shares : List Counts) (g : ℕ) → slice_get shares g ≡ None → length shares ≤ g
beyond shares g e = ⊎_elim
    (λ (w : (x : Counts) × (g < length shares) × (slice_get shares g ≡ Some x) × (get_or shares g x ≡ x)).
    let z : None ≡ Some w.0 = sym e ∙ w.2 in absurd (cc z))
    (λ (l : (length shares ≤ g) × (slice_get shares g ≡ None)). l.0)
    (slice_get_cases shares g).1

-- a row comes that has counted nothing
module _ (rs all : Rows Record) (shares : List Counts) (of_old : (g : ℕ) (d : Record) → HasRow rs g d → HasRow all g d)
    (others : (g : ℕ) (share : Counts) → slice_get shares g ≡ Some share → Belongs rs g share) (g : ℕ) (d : Record) (has : HasRow all g d)
    (none : d.clock.share ≡ no_share) where
  share_of_idle : (at : Option Counts) → slice_get shares g ≡ at → HasItsShare all shares g d
  share_of_idle None is = inr (beyond shares g is, none)
  share_of_idle (Some share) is = ⊎_elim
      (λ (b : (x : Record) × HasRow rs g x × (x.clock.share ≡ share)). inl (b.0, of_old g b.0 b.1, is ∙ ap Some (sym b.2)))
      (λ (e : share ≡ no_share). inl (d, has, is ∙ ap Some (e ∙ sym none)))
      (others g share is)

module _ (rs kids : Rows Record) (n : ℕ) (c : Record) (kids_are : AreNew kids) where
  abbrev all : Rows Record
  all = rs ++ (n, c) ∷ kids

  of_old : (g : ℕ) (d : Record) → HasRow rs g d → HasRow all g d
  of_old g d t = in_left rs ((n, c) ∷ kids) (g, d) t

  of_kid : (g : ℕ) (d : Record) → HasRow kids g d → HasRow all g d
  of_kid g d t = in_right rs ((n, c) ∷ kids) (g, d) (in_rest (n, c) kids (g, d) t)

  of_it : HasRow all n c
  of_it = the_middle rs kids (n, c)

  each : (P : ℕ → Record → Type 0) → ((g : ℕ) (d : Record) → HasRow rs g d → P g d) → P n c → ((g : ℕ) (d : Record) → HasRow kids g d → P g d)
      → (g : ℕ) (d : Record) → HasRow all g d → P g d
  each P old it new g d t = ⊎_elim
      (λ (s : HasRow rs g d). old g d s)
      (λ (s : HasRow ((n, c) ∷ kids) g d). ⊎_elim
      (λ (e : (n, c) ≡ (g, d)). subst (λ (r : ℕ × Record). P r.0 r.1) e it)
      (λ (q : HasRow kids g d). new g d q)
      (in_cons (n, c) kids (g, d) s))
      (in_either rs ((n, c) ∷ kids) (g, d) t)

  still_first : (old : Option Mark) → c.clock.first ≡ None → IsFirst rs old → IsFirst all old
  still_first None e f = each (λ g d. d.clock.first ≡ None) f e (λ g d t. ap (λ (k : ClockRec). k.first) (kids_are g d t).1)
  still_first (Some mark) e f = (f.0, f.1, of_old f.0 f.1 f.2, f.3)

  then_first : (old new : Option Mark) → Noted c.clock.first old new → IsFirst rs old → IsFirst all new
  then_first old new (inl (none, same)) f = subst (IsFirst all) (sym same) (still_first old none f)
  then_first old new (inr (mark, its, is)) f = subst (IsFirst all) (sym is) (n, c, of_it, its)

  no_share_of_kid : (g : ℕ) (d : Record) → HasRow kids g d → d.clock.share ≡ no_share
  no_share_of_kid g d t = ap (λ (k : ClockRec). k.share) (kids_are g d t).1

  belongs_still : (g : ℕ) (share : Counts) → Belongs rs g share → Belongs all g share
  belongs_still g share b = ⊎_elim
      (λ (x : (d : Record) × HasRow rs g d × (d.clock.share ≡ share)). inl (x.0, of_old g x.0 x.1, x.2))
      (λ (none : share ≡ no_share). inr none)
      b

module _ (rs kids : Rows Record) (n : ℕ) (c : Record) (kids_are : AreNew kids) (shares : List Counts) (old new : Option Mark) (tidy : IsTidy c)
    (noted : Noted c.clock.first old new) (k : AreRetired rs shares old) where
  abbrev rows_then : Rows Record
  rows_then = all rs kids n c kids_are

  abbrev then : List Counts
  then = slice_set shares n c.clock.share

  tidy_then : (g : ℕ) (d : Record) → HasRow rows_then g d → IsTidy d
  tidy_then = each rs kids n c kids_are (λ g d. IsTidy d) k.tidy tidy (λ g d t. (kids_are g d t).0)

  still_belongs : (g : ℕ) (share : Counts) → slice_get shares g ≡ Some share → Belongs rows_then g share
  still_belongs g share at = belongs_still rs kids n c kids_are g share (k.others g share at)

  still_at : (g : ℕ) (d : Record) → HasRow rs g d → HasItsShare rows_then shares g d
  still_at g d t = ⊎_elim
      (λ (q : (x : Record) × HasRow rs g x × (slice_get shares g ≡ Some x.clock.share)). inl (q.0, of_old rs kids n c kids_are g q.0 q.1, q.2))
      (λ (q : (length shares ≤ g) × (d.clock.share ≡ no_share)). inr q)
      (k.its g d t)

  idle_at : (g : ℕ) (d : Record) → HasRow rows_then g d → d.clock.share ≡ no_share → HasItsShare rows_then shares g d
  idle_at g d has none = share_of_idle rs rows_then shares (of_old rs kids n c kids_are) k.others g d has none (slice_get shares g) refl

  kid_at : (g : ℕ) (d : Record) → HasRow kids g d → HasItsShare rows_then shares g d
  kid_at g d t = idle_at g d (of_kid rs kids n c kids_are g d t) (no_share_of_kid rs kids n c kids_are g d t)

  -- it has counted nothing, so that nothing is put at its place
  retired_idle : c.clock.share ≡ no_share → AreRetired rows_then shares new
  retired_idle none = record {
    tidy = tidy_then;
    is_first = then_first rs kids n c kids_are old new noted k.is_first;
    its = each rs kids n c kids_are (HasItsShare rows_then shares) still_at (idle_at n c (of_it rs kids n c kids_are) none) kid_at;
    others = still_belongs;
  }

  module _ (place : n < length shares) where
    at_its_place : slice_get then n ≡ Some c.clock.share
    at_its_place = let s = get_some shares n place in get_set_same shares n s.0 c.clock.share s.1

    at_place : (g : ℕ) → nat_eq n g ≡ true → (d : Record) × HasRow rows_then g d × (slice_get then g ≡ Some d.clock.share)
    at_place g e = subst (λ (h : ℕ). (d : Record) × HasRow rows_then h d × (slice_get then h ≡ Some d.clock.share)) (eq_of n g e)
        (c, of_it rs kids n c kids_are, at_its_place)

    elsewhere : (g : ℕ) → nat_eq n g ≡ false → slice_get then g ≡ slice_get shares g
    elsewhere g e = get_set_other shares n g c.clock.share e

    past : (g : ℕ) → length shares ≤ g → length then ≤ g
    past g l = let e = length_set shares n c.clock.share in omega (arith, e, l)

    -- the share of a row for which it was at its place before
    then_at : (g : ℕ) (d : Record) (t : Bool) → nat_eq n g ≡ t → HasItsShare rows_then shares g d → HasItsShare rows_then then g d
    then_at g d true e q = inl (at_place g e)
    then_at g d false e (inl (x, has, at)) = inl (x, has, elsewhere g e ∙ at)
    then_at g d false e (inr (l, none)) = inr (past g l, none)

    then_belongs : (g : ℕ) (share : Counts) (t : Bool) → nat_eq n g ≡ t → slice_get then g ≡ Some share → Belongs rows_then g share
    then_belongs g share true e at = let p = at_place g e in inl (p.0, p.1, same_Some p.0.clock.share share (sym p.2 ∙ at))
    then_belongs g share false e at = still_belongs g share (sym (elsewhere g e) ∙ at)

    pub retired_more : AreRetired rows_then then new
    retired_more = record {
      tidy = tidy_then;
      is_first = then_first rs kids n c kids_are old new noted k.is_first;
      its = each rs kids n c kids_are (HasItsShare rows_then then)
          (λ g d t. then_at g d (nat_eq n g) refl (still_at g d t))
          (inl (c, of_it rs kids n c kids_are, at_its_place))
          (λ g d t. then_at g d (nat_eq n g) refl (kid_at g d t));
      others = λ g share at. then_belongs g share (nat_eq n g) refl at;
    }

  -- it has a place, or needs none
  pub retired_either : (n < length shares) ⊎ (c.clock.share ≡ no_share) → AreRetired rows_then then new
  retired_either (inl place) = retired_more place
  retired_either (inr none) = ⊎_elim
      (λ (w : (x : Counts) × (n < length shares) × (slice_get shares n ≡ Some x) × (get_or shares n x ≡ x)). retired_more w.1)
      (λ (l : (length shares ≤ n) × (slice_get shares n ≡ None)).
      subst (λ (ss : List Counts). AreRetired rows_then ss new) (sym (set_past shares n c.clock.share l.0)) (retired_idle none))
      (slice_get_cases shares n).1

-- the children of a goroutine
pub children_new : (r : Run) (children : List Child) → AreChildren r children → AreNew (rows_of_children r.setup children)
children_new r [] stand g d t = absurd (none_in (g, d) t)
children_new r (child ∷ later) stand g d t = ⊎_elim
    (λ (e : (child.number, mine r.setup child.actor.seat.me) ≡ (g, d)).
    let is : now r.setup child.actor ≡ d = ap (λ q. settled r.setup q child.actor.seat.me) stand.0.settled ∙ ap (λ (x : ℕ × Record). x.1) e in
    subst (λ (x : Record). IsTidy x × (x.clock ≡ blank)) is (stand.0.tidy, stand.0.blank))
    (λ (s : HasRow (rows_of_children r.setup later) g d). children_new r later stand.1 g d s)
    (in_cons (child.number, mine r.setup child.actor.seat.me) (rows_of_children r.setup later) (g, d) t)

-- ---- members

pub as_row : (m : Member) → m.fresh ≡ [] → m.unborn ≡ [] → m ≡ retired (m.number, m.its)
as_row m e f = λ i. record { number = m.number; its = m.its; fresh = e i; unborn = f i }

pub one_retires : (m : Member) (rs : Rows Record) (r : ℕ × Record) → m ≡ retired r
    → DriverKeeps (m ∷ map retired rs) [] (map retired (rs ++ r ∷ [])) []
one_retires m rs r is others given k =
    let come : map retired (rs ++ r ∷ []) ≡ map retired rs ++ m ∷ [] =
    map-append retired rs (r ∷ []) ∙ ap (λ (x : Member). map retired rs ++ x ∷ []) (sym is) in
    kept_by_order (m ∷ (map retired rs ++ others)) (map retired (rs ++ r ∷ []) ++ others) (given ++ []) (given ++ []) k
    (record {
      there = λ x t. subst (λ (l : List Member). IsOneOf (l ++ others) x) (sym come) (moved (map retired rs) others m x t);
      back = λ x t. moved_back (map retired rs) others m x (subst (λ (l : List Member). IsOneOf (l ++ others) x) come t);
      still = λ d t. t;
      before = λ d t. t;
    })

-- `m` becomes `n` and goes after the old ones; what it has started and was not adopted comes with it, or is still not adopted
module _ (m n : Member) (old kids others : List Member) (taken : List Drawn) (number : n.number ≡ m.number) (its : n.its ≡ m.its)
    (all : (h : ℕ) → ListHasNumber m.unborn h → SomeHasNumber kids h ⊎ ListHasNumber n.unborn h) (new : (x : Member) → IsOneOf kids x → x.its.clock ≡ blank)
    (k : NobodyIsLost (m ∷ (old ++ others)) taken) where
  abbrev come : List Member
  come = (old ++ n ∷ kids) ++ others

  left_one : (x : Member) → IsOneOf (old ++ n ∷ kids) x → IsOneOf come x
  left_one x t = in_left (old ++ n ∷ kids) others x t

  its_one : IsOneOf come n
  its_one = left_one n (the_middle old kids n)

  -- one of those that were there
  still_one : (x : Member) → IsOneOf (old ++ others) x → IsOneOf come x
  still_one x t = ⊎_elim
      (λ (s : In old x). left_one x (in_left old (n ∷ kids) x s))
      (λ (s : In others x). in_right (old ++ n ∷ kids) others x s)
      (in_either old others x t)

  still_number : (h : ℕ) → SomeHasNumber (m ∷ (old ++ others)) h → SomeHasNumber come h
  still_number h (x, one, is) = ⊎_elim
      (λ (e : m ≡ x). (n, its_one, number ∙ ap (λ (y : Member). y.number) e ∙ is))
      (λ (t : IsOneOf (old ++ others) x). (x, still_one x t, is))
      (in_cons m (old ++ others) x one)

  kid_number : (h : ℕ) → SomeHasNumber kids h → SomeHasNumber come h
  kid_number h (x, one, is) = (x, left_one x (in_right old (n ∷ kids) x (in_rest n kids x one)), is)

  of_others : (x : Member) (h : ℕ) → IsOneOf (old ++ others) x → ListHasNumber x.its.clock.children h → SomeHasNumber come h ⊎ ListHasNumber x.unborn h
  of_others x h t at = ⊎_elim
      (λ (q : SomeHasNumber (m ∷ (old ++ others)) h). inl (still_number h q))
      (λ (q : ListHasNumber x.unborn h). inr q)
      (k.children x h (in_rest m (old ++ others) x t) at)

  of_itself : (h : ℕ) → ListHasNumber n.its.clock.children h → SomeHasNumber come h ⊎ ListHasNumber n.unborn h
  of_itself h at = ⊎_elim
      (λ (q : SomeHasNumber (m ∷ (old ++ others)) h). inl (still_number h q))
      (λ (q : ListHasNumber m.unborn h). ⊎_elim
      (λ (c : SomeHasNumber kids h). inl (kid_number h c))
      (λ (u : ListHasNumber n.unborn h). inr u)
      (all h q))
      (k.children m h (0, refl) (subst (λ (c : Record). ListHasNumber c.clock.children h) its at))

  of_kids : (x : Member) (h : ℕ) → IsOneOf kids x → ListHasNumber x.its.clock.children h → ⊥
  of_kids x h t at = let z : None ≡ Some h = subst (λ (y : ClockRec). slice_get y.children at.0 ≡ Some h) (new x t) at.1 in cc z

  children_of : (x : Member) (h : ℕ) → IsOneOf come x → ListHasNumber x.its.clock.children h → SomeHasNumber come h ⊎ ListHasNumber x.unborn h
  children_of x h t at = ⊎_elim
      (λ (l : IsOneOf (old ++ n ∷ kids) x). ⊎_elim
      (λ (s : IsOneOf old x). of_others x h (in_left old others x s) at)
      (λ (s : IsOneOf (n ∷ kids) x). ⊎_elim
      (λ (e : n ≡ x). subst (λ (y : Member). SomeHasNumber come h ⊎ ListHasNumber y.unborn h) e
      (of_itself h (subst (λ (y : Member). ListHasNumber y.its.clock.children h) (sym e) at)))
      (λ (q : IsOneOf kids x). absurd (of_kids x h q at))
      (in_cons n kids x s))
      (in_either old (n ∷ kids) x l))
      (λ (s : IsOneOf others x). of_others x h (in_right old others x s) at)
      (in_either (old ++ n ∷ kids) others x t)

  pub nobody_then : NobodyIsLost come taken
  nobody_then = record {
    main = still_number 0 k.main;
    children = children_of;
    are = λ d t.
        let a = k.are d t in
        ⊎_elim
        (λ (e : m ≡ a.1). (a.0, n, its_one, subst (λ (c : Record). HasPrinted c d) (sym its) (subst (λ (y : Member). HasPrinted y.its d) (sym e) a.3)))
        (λ (s : IsOneOf (old ++ others) a.1). (a.0, a.1, still_one a.1 s, a.3))
        (in_cons m (old ++ others) a.1 a.2);
  }

-- each child has a row
pub child_row : (T : Setup) (children : List Child) (h : ℕ) → In (numbers children) h → SomeHasNumber (map retired (rows_of_children T children)) h
child_row T [] h t = absurd (none_in h t)
child_row T (child ∷ later) h t = ⊎_elim
    (λ (s : In (numbers later) h).
    let q = child_row T later h s in (q.0, in_rest (retired (child.number, mine T child.actor.seat.me)) (map retired (rows_of_children T later)) q.0 q.1, q.2))
    (λ (s : In (child.number ∷ []) h). ⊎_elim
    (λ (e : child.number ≡ h). (retired (child.number, mine T child.actor.seat.me), (0, refl), e))
    (λ (n : In [] h). absurd (none_in h n))
    (in_cons child.number [] h s))
    (in_either (numbers later) (child.number ∷ []) h t)

-- a member that has retired, by its row
pub row_of : (rs : Rows Record) (m : Member) → IsOneOf (map retired rs) m → (g : ℕ) × (c : Record) × HasRow rs g c × (m ≡ retired (g, c))
row_of [] m t = absurd (none_in m t)
row_of (r ∷ rs) m (zero, e) = (r.0, r.1, (0, refl), sym (some-injective (retired r) m e))
row_of (r ∷ rs) m (suc i, e) = let q = row_of rs m (i, e) in (q.0, q.1, in_rest r rs (q.0, q.1) q.2, q.3)

pub as_member : (rs : Rows Record) (g : ℕ) (c : Record) → HasRow rs g c → IsOneOf (map retired rs) (retired (g, c))
as_member [] g c t = absurd (none_in (g, c) t)
as_member (r ∷ rs) g c (zero, e) = (0, ap (λ (x : ℕ × Record). some (retired x)) (some-injective r (g, c) e))
as_member (r ∷ rs) g c (suc i, e) = in_rest (retired r) (map retired rs) (retired (g, c)) (as_member rs g c (i, e))

pub given_up : (r : Run) (m : Member) (children : List Child) (rs : Rows Record) → m.unborn ≡ numbers children → AreChildren r children
    → KeepsMembers (m ∷ map retired rs) (map retired (rs ++ (m.number, m.its) ∷ rows_of_children r.setup children))
given_up r m children rs unborn stand others taken k =
    subst (λ (l : List Member). NobodyIsLost (l ++ others) taken) (sym (map-append retired rs ((m.number, m.its) ∷ rows_of_children r.setup children)))
    (nobody_then m (retired (m.number, m.its)) (map retired rs) (map retired (rows_of_children r.setup children)) others taken refl refl
    (λ h t. inl (child_row r.setup children h (in_list (numbers children) h (subst (λ (l : List ℕ). ListHasNumber l h) unborn t))))
    (λ x t. let q = row_of (rows_of_children r.setup children) x t in
    ap (λ (y : Member). y.its.clock) q.3 ∙ (children_new r children stand q.0 q.1 q.2).1)
    k)

-- ---- for callers

pub nobody_lost : (ms : List Member) (taken : List Drawn) → NoneIsLost ms taken → NobodyIsLost ms taken
nobody_lost ms taken k = record { main = k.main; children = k.children; are = k.are }

-- the same members and prints, in whatever order
pub nobody_by_order : (ms ns : List Member) (taken given : List Drawn) → NobodyIsLost ms taken → AreSameMembers ms ns taken given → NobodyIsLost ns given
nobody_by_order ms ns taken given k s = record {
  main = (k.main.0, s.there k.main.0 k.main.1, k.main.2);
  children = λ m h one at. ⊎_elim
      (λ (t : SomeHasNumber ms h). inl (t.0, s.there t.0 t.1, t.2))
      (λ (t : ListHasNumber m.unborn h). inr t)
      (k.children m h (s.back m one) at);
  are = λ d t. let a = k.are d (s.before d t) in (a.0, a.1, s.there a.1 a.2, a.3);
}

row_numbered : (rs : Rows Record) (h : ℕ) → SomeHasNumber (map retired rs) h → (c : Record) × HasRow rs h c
row_numbered rs h (m, one, is) =
    let r = row_of rs m one in
    (r.1, subst (λ (g : ℕ). HasRow rs g r.1) (sym (ap (λ (y : Member). y.number) r.3) ∙ is) r.2)

-- if all have retired or were given up
pub family_left : (v : View Record) (taken : List Drawn) → NobodyIsLost (map retired v.records) taken
    → HasFamily v × ((d : Drawn) → IsDrawnIn taken d → (d.is_void ≡ false) × SomePrinted v.records d)
family_left v taken k = (
  record {
    main = row_numbered v.records 0 k.main;
    children = λ g h i c has at. ⊎_elim
        (λ (q : SomeHasNumber (map retired v.records) h). row_numbered v.records h q)
        (λ (q : ListHasNumber [] h). let z : None ≡ Some h = q.1 in absurd (cc z))
        (k.children (retired (g, c)) h (as_member v.records g c has) (i, at));
  },
  λ d t.
      let a = k.are d t in
      let r = row_of v.records a.1 a.2 in
      let q = in_list r.1.clock.prints d (subst (λ (y : Member). HasPrinted y.its d) r.3 a.3) in
      (a.0, record { goroutine = r.0; its = r.1; has = r.2; place = q.0; there = q.1 }),
)

-- places that were added
pub room_keeps : (rs : Rows Record) (shares : List Counts) (n : ℕ) (first : Option Mark) → AreRetired rs shares first
    → AreRetired rs (shares ++ replicate n no_share) first
room_keeps rs shares n first k = record { tidy = k.tidy; is_first = k.is_first; its = its; others = others }
  where
    others : (g : ℕ) (share : Counts) → slice_get (shares ++ replicate n no_share) g ≡ Some share → Belongs rs g share
    others g share at = ⊎_elim
        (λ (q : slice_get shares g ≡ Some share). k.others g share q)
        (λ (q : In (replicate n no_share) share). inr (of_replicate n no_share share q))
        (get_either shares (replicate n no_share) g share at)

    its : (g : ℕ) (c : Record) → HasRow rs g c → HasItsShare rs (shares ++ replicate n no_share) g c
    its g c has = ⊎_elim
        (λ (q : (d : Record) × HasRow rs g d × (slice_get shares g ≡ Some d.clock.share)).
        inl (q.0, q.1, get_first shares (replicate n no_share) g q.0.clock.share q.2))
        (λ (q : (length shares ≤ g) × (c.clock.share ≡ no_share)).
        share_of_idle rs rs (shares ++ replicate n no_share) (λ g d t. t) others g c has q.1 (slice_get (shares ++ replicate n no_share) g) refl)
        (k.its g c has)

-- at the close each goroutine has one row
pub has_shares : (T : Setup) (words : List ℕ) (v : View Record) (e : ClosesTable T words v) (shares : List Counts) (first : Option Mark)
    → AreRetired v.records shares first → HasShares v shares
has_shares T words v e shares first k = record {
  its = λ g c has. ⊎_elim
      (λ (q : (d : Record) × HasRow v.records g d × (slice_get shares g ≡ Some d.clock.share)).
      inl (q.2 ∙ ap (λ (x : Record). Some x.clock.share) (some-injective q.0 c (sym (e.here g q.0 q.1).0 ∙ (e.here g c has).0))))
      (λ (q : (length shares ≤ g) × (c.clock.share ≡ no_share)). inr q)
      (k.its g c has);
  others = λ g share at. ⊎_elim
      (λ (q : (d : Record) × HasRow v.records g d × (d.clock.share ≡ share)). inl (q.0, q.1))
      (λ (q : share ≡ no_share). inr q)
      (k.others g share at);
}
