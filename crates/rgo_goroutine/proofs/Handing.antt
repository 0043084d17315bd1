-- What passes between a goroutine and its driver. Lists are reversed and read from their ends, so the invariants of the loops speak of the
-- reversed rest.
use Rattle.std.proofs.Common.{◌≡◌, ◌≤◌, ◌<◌, ◌∙◌, ◌++◌, ◌^◌, ℕ, suc, Bool, true, false, List, [], ◌∷◌, None, ap, arith, if◌then◌else◌, length, map, refl, reverse, subst, sym}
use Rattle.std.proofs.lemmas.List.{append-nil, reverse-append}
use Rattle.std.proofs.lemmas.List.Elements.{All-cons, All-nil}
use Rattle.std.specs.List.{All}
use mathlib.Core.Logic.{◌↔◌}
use Rattle.std.specs.Option.{option_map}
use Rattle.rgo_core.specs.Memory.Words.{all_words, clock_at}
use Rattle.rgo_core.specs.Memory.declared.layout.TableSizes.{TableSizes}
use Rattle.rgo_core.specs.Rule.Views.{Me, number_of, view}
use Rattle.rgo_core.specs.Rule.declared.accesses.Kind.TheVariants.{Load}
use Rattle.rgo_core.specs.Core.{IsPossible}
use Rattle.rgo_core.specs.runs.Opening.{first_of}
use Rattle.rgo_core.specs.Records.{Drawn, Record, accesses, looked, steps_of}
use Rattle.rgo_core_steps.specs.Ends.{mark_of}
use Rattle.rgo_core_steps.specs.Grown.{SeatGrew}
use Rattle.rgo_core_steps.specs.Seats.{HasOne, HasPossible, HasAccessed, Settles, mine}
use Rattle.rgo_core_steps.proofs.accesses.Growing.{told_accesses, told_found, told_grew, told_record, told_still}
use Rattle.rgo_acts.specs.Body.Shows.{BodyShows}
use Rattle.rgo_acts.proofs.Body.Showing.{like_shown}
use Rattle.rgo_acts.specs.Actors.{IsActorOf, now}
use Rattle.rgo_acts.specs.Runs.{Run}
use Rattle.rgo_acts.specs.declared.prints.Print.{Print}
use Rattle.rgo_acts.proofs.Standing.{now_at_once}
use Rattle.rgo_goroutine.specs.Goroutines.{AreChildren, IsChild, IsOf, drawn_by, ungathered_prints, is_valid, numbers, record_of_goroutine, rows_of_children, valid}
use Rattle.rgo_goroutine.specs.Passing.{AreBorn, IsBorn, LoadsClock}
use Rattle.rgo_goroutine.specs.declared.goroutine.Child.{Child}
use Rattle.rgo_goroutine.specs.declared.goroutine.Goroutine.{Goroutine}

-- ---- lists that are read from their end

pub last_first : {A : Type 0} (xs ys : List A) (y : A) → xs ≡ ys ++ y ∷ [] → reverse xs ≡ y ∷ reverse ys
last_first xs ys y e = ap reverse e ∙ reverse-append ys (y ∷ [])

-- ---- prints

pub one_valid : (p : Print) (ps : List Print) → is_valid p ≡ true → valid (p ∷ ps) ≡ p ∷ valid ps
one_valid p ps e = ap (λ (b : Bool). if b then p ∷ valid ps else valid ps) e

pub one_void : (p : Print) (ps : List Print) → is_valid p ≡ false → valid (p ∷ ps) ≡ valid ps
one_void p ps e = ap (λ (b : Bool). if b then p ∷ valid ps else valid ps) e

-- ---- children

pub born_last : (r : Run) (children : List Child) (gos : List Goroutine) (child : Child) (go : Goroutine) → AreBorn r children gos
    → IsBorn r child go → AreBorn r (children ++ child ∷ []) (gos ++ go ∷ [])
born_last r [] [] child go are is = (is, tt)
born_last r [] (g ∷ gos) child go are is = absurd are
born_last r (c ∷ cs) [] child go are is = absurd are
born_last r (c ∷ cs) (g ∷ gos) child go are is = (are.0, born_last r cs gos child go are.1 is)

pub as_many : (r : Run) (children : List Child) (gos : List Goroutine) → AreBorn r children gos → length gos ≡ length children
as_many r [] [] are = refl
as_many r [] (g ∷ gos) are = absurd are
as_many r (c ∷ cs) [] are = absurd are
as_many r (c ∷ cs) (g ∷ gos) are = ap suc (as_many r cs gos are.1)

-- all are of the run
pub all_born : (r : Run) (children : List Child) (gos : List Goroutine) → AreBorn r children gos → All (IsOf r) gos
all_born r [] [] are = All-nil (IsOf r)
all_born r [] (g ∷ gos) are = absurd are
all_born r (c ∷ cs) [] are = absurd are
all_born r (c ∷ cs) (g ∷ gos) are = All-cons (IsOf r) g gos are.0.of (all_born r cs gos are.1)

-- the only row of its seat
pub one_row : (r : Run) (child : Child) → IsChild r child → child.actor.seat.me.0.records ≡ rows_of_children r.setup (child ∷ [])
one_row r child is =
    is.stands.alone.0 ∙ ap (λ n. (n, mine r.setup child.actor.seat.me) ∷ []) (sym is.number)

child_at : (r : Run) (before later : List Child) (child : Child) → AreChildren r (before ++ child ∷ later) → IsChild r child
child_at r [] later child all = all.0
child_at r (c ∷ before) later child all = child_at r before later child all.1

pub child_in : (r : Run) (children before later : List Child) (child : Child) → before ++ child ∷ later ≡ children → AreChildren r children
    → IsChild r child
child_in r children before later child e all = child_at r before later child (subst (AreChildren r) (sym e) all)

-- the goroutine of a child
pub is_born : (r : Run) (child : Child) (go : Goroutine) → IsChild r child → go.actor ≡ child.actor → go.number ≡ child.number
    → go.prints.items ≡ [] → go.children.items ≡ [] → go.first ≡ None → IsBorn r child go
is_born r child go is actor number prints children first =
    let T = r.setup in
    let c : record_of_goroutine T go ≡ now T child.actor =
    ap (λ a. mine T a.seat.me) actor ∙ sym (now_at_once T child.actor is.settled) in
    let blank_clock = ap (λ (d : Record). d.clock) c ∙ is.blank in
    let no_prints = ap (λ k. k.prints) blank_clock in
    record {
      of = record {
        stands = subst (IsActorOf r) (sym actor) is.stands;
        number = number ∙ (is.number ∙ sym (ap (λ a. number_of a.seat.me) actor));
        settled = ap (λ a. a.behind) actor ∙ is.settled;
        gathered = [];
        prints = no_prints ∙ sym (ap (λ (ps : List Print). map drawn_by ps) prints);
        few = let none = ap (λ (ds : List Drawn). length ds) no_prints in omega (arith, none);
        adopted = [];
        children = ap (λ k. k.children) blank_clock ∙ sym (ap (λ (cs : List Child). numbers cs ++ []) children);
        all = subst (AreChildren r) (sym children) tt;
        first = ap (λ k. k.first) blank_clock ∙ sym (ap (option_map mark_of) first);
      };
      actor = actor;
      number = number;
      prints = prints;
      children = children;
    }

-- ---- the goroutine of `main`

pub has_words : (z : TableSizes) → clock_at < all_words z
has_words z = omega arith

pub main_of : (r : Run) (go : Goroutine) → go.actor.seat.me ≡ (view ((0, first_of r.setup.code) ∷ []) [], [])
    → go.actor.seat.table_id ≡ r.table → go.actor.behind ≡ 0 → go.number ≡ 0 → go.prints.items ≡ [] → go.children.items ≡ []
    → go.first ≡ None → IsPossible r.setup 0 (first_of r.setup.code) → BodyShows r.setup r.program go.actor.body (first_of r.setup.code)
    → IsOf r go
main_of r go me own behind number prints children first possible shows =
    let T = r.setup in
    let c : record_of_goroutine T go ≡ first_of T.code = ap (λ (m : Me Record). mine T m) me in
    let now_is : now T go.actor ≡ first_of T.code = now_at_once T go.actor behind ∙ c in
    record {
      stands = record {
        own = own;
        alone = subst (λ (m : Me Record). HasOne T m) (sym me) (refl, refl);
        settles = subst (λ q. Settles T q go.actor.seat.me) (sym behind) tt;
        possible = subst (λ (m : Me Record). IsPossible T (number_of m) (now T go.actor)) (sym me)
            (subst (IsPossible T 0) (sym now_is) possible);
        shows = subst (BodyShows T r.program go.actor.body) (sym now_is) shows;
      };
      number = number ∙ sym (ap (λ (m : Me Record). number_of m) me);
      settled = behind;
      gathered = [];
      prints = ap (λ (d : Record). d.clock.prints) c ∙ sym (ap (λ (ps : List Print). map drawn_by ps) prints);
      few = let none = ap (λ (d : Record). length d.clock.prints) c in omega (arith, none);
      adopted = [];
      children = ap (λ (d : Record). d.clock.children) c ∙ sym (ap (λ (cs : List Child). numbers cs ++ []) children);
      all = subst (AreChildren r) (sym children) tt;
      first = ap (λ (d : Record). d.clock.first) c ∙ sym (ap (option_map mark_of) first);
    }

-- ---- a load of the clock

module _ (r : Run) (go d : Goroutine) (of : IsOf r go) (rest : d ≡ record go { actor = record go.actor { seat = d.actor.seat } })
    (own : d.actor.seat.table_id ≡ go.actor.seat.table_id) (n : ℕ)
    (left : HasAccessed r.setup Load clock_at (λ k. k) (λ k c. c ≡ looked (record_of_goroutine r.setup go)) go.actor.seat.me n d.actor.seat.me)
    (possible : HasPossible r.setup d.actor.seat.me) where
  abbrev tells : ℕ → Record → Type 0
  tells k c = c ≡ looked (record_of_goroutine r.setup go)

  after : record_of_goroutine r.setup d ≡ looked (record_of_goroutine r.setup go)
  after = told_record accesses (first_of r.setup.code) go.actor.seat.me d.actor.seat.me Load clock_at n (λ k. k) tells left

  grew : SeatGrew accesses (first_of r.setup.code) go.actor.seat.me
      (told_accesses accesses (first_of r.setup.code) go.actor.seat.me d.actor.seat.me Load clock_at n (λ k. k) tells left)
      d.actor.seat.me
  grew =
      told_grew accesses (first_of r.setup.code) go.actor.seat.me d.actor.seat.me Load clock_at n (λ k. k) tells left
      (ap accesses after)

  pub looked_of : IsOf r d
  looked_of =
      let T = r.setup in
      let behind : d.actor.behind ≡ 0 = ap (λ (k : Goroutine). k.actor.behind) rest ∙ of.settled in
      let body = ap (λ (k : Goroutine). k.actor.body) rest in
      let prints : ungathered_prints d ≡ ungathered_prints go = ap ungathered_prints rest in
      let children : d.children.items ≡ go.children.items = ap (λ (k : Goroutine). k.children.items) rest in
      let now_is : now T d.actor ≡ looked (record_of_goroutine T go) = now_at_once T d.actor behind ∙ after in
      let shows : BodyShows T r.program go.actor.body (looked (record_of_goroutine T go)) =
      like_shown T r.program go.actor.body (record_of_goroutine T go) (looked (record_of_goroutine T go))
      (subst (BodyShows T r.program go.actor.body) (now_at_once T go.actor of.settled) of.stands.shows)
      (record {
        frame = refl;
        side = refl;
        fills = refl;
        reserved = refl;
        make = refl;
        claim = refl;
        give = refl;
        share = refl;
        owed = refl;
        prints = refl;
        refused = refl;
      }) in
      record {
        stands = record {
          own = own ∙ of.stands.own;
          alone = left.0;
          settles = subst (λ q. Settles T q d.actor.seat.me) (sym behind) tt;
          possible = subst (IsPossible T (number_of d.actor.seat.me)) (sym (now_at_once T d.actor behind)) possible;
          shows = subst (λ (c : Record). BodyShows T r.program d.actor.body c) (sym now_is)
              (subst (λ b. BodyShows T r.program b (looked (record_of_goroutine T go))) (sym body) shows);
        };
        number = ap (λ (k : Goroutine). k.number) rest ∙ (of.number ∙ sym grew.same);
        settled = behind;
        gathered = of.gathered;
        prints = ap (λ (c : Record). c.clock.prints) after ∙ (of.prints ∙ ap (λ (l : List Drawn). of.gathered ++ l) (sym prints));
        few = let a = ap (λ (c : Record). length c.clock.prints) after in
            let b = ap steps_of after in
            let few = of.few in
            omega (arith, a, b, few);
        adopted = of.adopted;
        children = ap (λ (c : Record). c.clock.children) after
            ∙ (of.children ∙ ap (λ (cs : List Child). numbers cs ++ of.adopted) (sym children));
        all = subst (AreChildren r) (sym children) of.all;
        first = ap (λ (c : Record). c.clock.first) after
            ∙ (of.first ∙ sym (ap (λ (k : Goroutine). option_map mark_of k.first) rest));
      }

  pub looks : (ended : Bool) → (ended ≡ true) ↔ (2 ^ 63 ≤ n) → LoadsClock r go d ended
  looks ended end = record {
    es = told_accesses accesses (first_of r.setup.code) go.actor.seat.me d.actor.seat.me Load clock_at n (λ k. k) tells left;
    grew = grew;
    words = told_still accesses (first_of r.setup.code) go.actor.seat.me d.actor.seat.me Load clock_at n (λ k. k) tells left refl;
    clock = n;
    found = told_found accesses (first_of r.setup.code) go.actor.seat.me d.actor.seat.me Load clock_at n (λ k. k) tells left;
    end = end;
    record_is = after;
    rest = rest;
  }

-- ---- what was taken

-- all children were adopted
pub adopted_of : (r : Run) (go d : Goroutine) → IsOf r go → d ≡ record go { children = d.children } → d.children.items ≡ []
    → IsOf r d
adopted_of r go d of rest none =
    let actor = ap (λ (k : Goroutine). k.actor) rest in
    record {
      stands = subst (IsActorOf r) (sym actor) of.stands;
      number = ap (λ (k : Goroutine). k.number) rest ∙ (of.number ∙ sym (ap (λ a. number_of a.seat.me) actor));
      settled = ap (λ a. a.behind) actor ∙ of.settled;
      gathered = of.gathered;
      prints = ap (λ a. (mine r.setup a.seat.me).clock.prints) actor
          ∙ (of.prints ∙ ap (λ (l : List Drawn). of.gathered ++ l) (sym (ap ungathered_prints rest)));
      few = let a = ap (λ a. length (mine r.setup a.seat.me).clock.prints) actor in
          let b = ap (λ a. steps_of (mine r.setup a.seat.me)) actor in
          let few = of.few in
          omega (arith, a, b, few);
      adopted = numbers go.children.items ++ of.adopted;
      children = ap (λ a. (mine r.setup a.seat.me).clock.children) actor
          ∙ (of.children ∙ sym (ap (λ (cs : List Child). numbers cs ++ (numbers go.children.items ++ of.adopted)) none));
      all = subst (AreChildren r) (sym none) tt;
      first = ap (λ a. (mine r.setup a.seat.me).clock.first) actor
          ∙ (of.first ∙ sym (ap (λ (k : Goroutine). option_map mark_of k.first) rest));
    }

-- all prints were gathered
pub gathered_of : (r : Run) (go d : Goroutine) → IsOf r go → d ≡ record go { prints = d.prints } → d.prints.items ≡ [] → IsOf r d
gathered_of r go d of rest none =
    let actor = ap (λ (k : Goroutine). k.actor) rest in
    let children : d.children.items ≡ go.children.items = ap (λ (k : Goroutine). k.children.items) rest in
    record {
      stands = subst (IsActorOf r) (sym actor) of.stands;
      number = ap (λ (k : Goroutine). k.number) rest ∙ (of.number ∙ sym (ap (λ a. number_of a.seat.me) actor));
      settled = ap (λ a. a.behind) actor ∙ of.settled;
      gathered = of.gathered ++ ungathered_prints go;
      prints = ap (λ a. (mine r.setup a.seat.me).clock.prints) actor
          ∙ (of.prints ∙ (sym (append-nil (of.gathered ++ ungathered_prints go))
          ∙ ap (λ (l : List Drawn). (of.gathered ++ ungathered_prints go) ++ l) (sym (ap (λ (ps : List Print). map drawn_by ps) none))));
      few = let a = ap (λ a. length (mine r.setup a.seat.me).clock.prints) actor in
          let b = ap (λ a. steps_of (mine r.setup a.seat.me)) actor in
          let few = of.few in
          omega (arith, a, b, few);
      adopted = of.adopted;
      children = ap (λ a. (mine r.setup a.seat.me).clock.children) actor
          ∙ (of.children ∙ ap (λ (cs : List Child). numbers cs ++ of.adopted) (sym children));
      all = subst (AreChildren r) (sym children) of.all;
      first = ap (λ a. (mine r.setup a.seat.me).clock.first) actor
          ∙ (of.first ∙ sym (ap (λ (k : Goroutine). option_map mark_of k.first) rest));
    }
