-- The length of a slice is loaded before an access to one of its elements: the goroutine is still before the instruction, and its
-- record knows the length.
use Rattle.std.proofs.Common.{◌≡◌, ◌<◌, ◌≤◌, ◌+◌, ◌-◌, inl, inr, ℕ, suc, List, [], ◌∷◌, Contains, Some, None, refl, ap, sym, subst, ◌∙◌, arith}
use Rattle.std.proofs.lemmas.List.{append-nil}
use Rattle.rgo_core.specs.Frames.shown.WordFrames.{WordFrame, frame_word}
use Rattle.rgo_core.specs.Memory.Records.{Measured}
use Rattle.rgo_core.specs.Memory.Words.{base}
use Rattle.rgo_core.specs.Rule.Views.{number_of}
use Rattle.rgo_core.specs.Rule.declared.accesses.Kind.TheVariants as kind
use Rattle.rgo_core.specs.moves.Cells.{IsAtSpread, IsInSlice, IsLocated, LoadsElement, StoresElement, measures}
use Rattle.rgo_core.specs.ties.Bounds.{LieInPages, slice_words}
use Rattle.rgo_core.specs.Core.{layout}
use Rattle.rgo_core.specs.ties.Links.{BeforeLoad, BeforeStore, IsAtElement}
use Rattle.rgo_core.specs.runs.Opening.{first_of}
use Rattle.rgo_core.specs.Records.{Record, accesses, steps_of}
use Rattle.rgo_core_steps.specs.Accesses.{Element, Loads, Stores, ToElement}
use Rattle.rgo_core_steps.specs.Ends as ends
use Rattle.rgo_core_steps.specs.Seats.{HasPossible, HasAccessed, mine}
use Rattle.rgo_core_steps.proofs.accesses.Growing.{told_record}
use Rattle.rgo_core_facts.proofs.Lying.{element_lies, slice_lies}
use Rattle.rgo_sound.specs.Memory.declared.traps.Trap.TheVariants.{IndexRange}
use Rattle.rgo_sound.specs.Tac.Code as tac
use Rattle.rgo_sound.specs.Tac.Code.{Op}
use Rattle.rgo_sound.specs.Tac.Flow.{reads}
use Rattle.rgo_sound.specs.Tac.Ops.{operation_of}
use Rattle.rgo_sound.specs.Typed.declared.actions.Action.TheVariants as action
use Rattle.rgo_body.specs.Bodies.{frames_of_body}
use Rattle.rgo_body.specs.Shows.{BodyShows}
use Rattle.rgo_body.specs.declared.bodies.Body.{Body}
use Rattle.rgo_body.specs.declared.nexts.Next.{Next}
use Rattle.rgo_body.proofs.Showing.{like_shown}
use Rattle.rgo_acts.specs.Actors.{ActorActed, now}
use Rattle.rgo_acts.specs.Elements.{ActorHasElement, HasLocated, HasMeasured, HasNoElementHere, IsElementAccess}
use Rattle.rgo_acts.specs.Ready.{ActorIsBefore}
use Rattle.rgo_acts.specs.Runs.{Run}
use Rattle.rgo_acts.specs.Traps.{IsAtTrap}
use Rattle.rgo_acts.specs.declared.actors.Actor.{Actor}
use Rattle.rgo_acts.proofs.before.Instructions.{IsWord, at_do, first_in, here_do, its_word, one_more, rests, second_in}
use Rattle.rgo_acts.proofs.before.Locating.{still_before, then_measured}
use Rattle.rgo_acts.proofs.Standing.{acted_none, acted_one, acted_then, now_at_once}

-- it reads both variables
pub reads_both : (op : Op) (p q : ℕ) → IsElementAccess op p q → Contains (reads op) p × Contains (reads op) q
reads_both op p q (inl (to, e)) = subst (λ (o : Op). Contains (reads o) p × Contains (reads o) q) (sym e)
    (first_in p (q ∷ []), second_in p q [])
reads_both op p q (inr (r, e)) = subst (λ (o : Op). Contains (reads o) p × Contains (reads o) q) (sym e)
    (first_in p (q ∷ r ∷ []), second_in p q (r ∷ []))

module _ (r : Run) (a : Actor) (next : Next) (before : ActorIsBefore r a next) (p q n : ℕ) (e : IsElementAccess (operation_of next.op) p q)
    (word : IsWord a.body p n) where
  -- the slice is not nil
  pub at_element : (n ≡ 0 → ⊥) → IsAtElement r.setup.code (now r.setup a) (n - 1)
  at_element some = by e
    where
      by : IsElementAccess (operation_of next.op) p q → IsAtElement r.setup.code (now r.setup a) (n - 1)
      by (inl (to, is)) = BeforeLoad to p q (here_do r a next before (Some to) action.At (p ∷ q ∷ []) is).0
          (at_do r a next before (Some to) action.At (p ∷ q ∷ []) is) (one_more n _ (its_word r a next before p n word) some)
      by (inr (v, is)) = BeforeStore p q v (here_do r a next before None action.Put (p ∷ q ∷ v ∷ []) is).0
          (at_do r a next before None action.Put (p ∷ q ∷ v ∷ []) is) (one_more n _ (its_word r a next before p n word) some)

  pub length_lies : (n ≡ 0 → ⊥) → LieInPages r.setup (n - 1) 1
  length_lies some = element_lies r.setup (number_of a.seat.me) (now r.setup a) before.stands.possible (n - 1) (at_element some)

  -- it is nil
  pub is_nil : n ≡ 0 → HasNoElementHere r a a next p q
  is_nil none = record {
    measured = record { before = before; acted = acted_none r a a before.stands refl refl before.stands.shows; body = refl };
    none = λ w ws are. inl (sym (word w ws (sym before.stands.shows.frames ∙ are)) ∙ none);
  }

  -- its length is m
  module _ (some : n ≡ 0 → ⊥) (b : Actor) (i m : ℕ) (own : b.seat.table_id ≡ a.seat.table_id) (at_once : b.behind ≡ 0)
      (same : b.body ≡ a.body) (possible : HasPossible r.setup b.seat.me)
      (left : HasAccessed r.setup kind.Load i (λ n. n)
      (λ m d. (d ≡ measures (now r.setup a) (n - 1) m) × LieInPages r.setup (n - 1) (slice_words r.setup m)) a.seat.me m b.seat.me) where
    tells : (mine r.setup b.seat.me ≡ measures (now r.setup a) (n - 1) m) × LieInPages r.setup (n - 1) (slice_words r.setup m)
    tells = told_record accesses (first_of r.setup.code) a.seat.me b.seat.me kind.Load i m (λ n. n)
        (λ m d. (d ≡ measures (now r.setup a) (n - 1) m) × LieInPages r.setup (n - 1) (slice_words r.setup m)) left

    pub all_lie : LieInPages r.setup (n - 1) (slice_words r.setup m)
    all_lie = tells.1

    knows : now r.setup b ≡ measures (now r.setup a) (n - 1) m
    knows = now_at_once r.setup b at_once ∙ tells.0

    measured_acted : ActorActed r a b 0 [] []
    measured_acted =
        acted_one r a b before.stands 0 [] [] kind.Load i m (λ n. n)
        (λ m d. (d ≡ measures (now r.setup a) (n - 1) m) × LieInPages r.setup (n - 1) (slice_words r.setup m))
        (measures (now r.setup a) (n - 1) m) own at_once left possible (λ t. t.0)
        (record {
          accesses = refl;
          steps = omega arith;
          prints = sym (append-nil (now r.setup a).clock.prints);
          children = refl;
          first = refl;
        })
        (subst (λ (body : Body). BodyShows r.setup r.program body (measures (now r.setup a) (n - 1) m)) (sym same)
        (like_shown r.setup r.program a.body (now r.setup a) (measures (now r.setup a) (n - 1) m) before.stands.shows (record {
          frame = refl;
          side = refl;
          fills = refl;
          reserved = refl;
          make = refl;
          claim = refl;
          give = refl;
          share = refl;
          owed = refl;
          prints = refl;
          refused = refl;
        })))

    pub has_measured : HasMeasured r a b next
    has_measured = still_before r a b next before same measured_acted

    abbrev known : Measured
    known = record { address = n - 1; elements = m; steps = steps_of (now r.setup a) }

    its_index : (k : ℕ) → IsWord b.body q k → (w : WordFrame) (ws : List WordFrame) → (now r.setup b).frame.frames ≡ w ∷ ws → k ≡ frame_word w q
    its_index k index w ws are = index w ws (sym measured_acted.stands.shows.frames ∙ are)

    its_slice : (w : WordFrame) (ws : List WordFrame) → (now r.setup b).frame.frames ≡ w ∷ ws → frame_word w p ≡ suc (n - 1)
    its_slice w ws are = one_more n (frame_word w p)
        (word w ws (sym (ap frames_of_body same) ∙ (sym measured_acted.stands.shows.frames ∙ are))) some

    pub is_outside : (k : ℕ) → IsWord b.body q k → m ≤ k → HasNoElementHere r a b next p q
    is_outside k index beyond = record {
      measured = has_measured;
      none = λ w ws are. inr (
        n - 1,
        its_slice w ws are,
        record {
          measured = known;
          read = ap (λ (c : Record). c.memory.measured) knows;
          now = sym (ap steps_of knows);
          its = refl;
          beyond = subst (λ j. m ≤ j) (its_index k index w ws are) beyond;
        },
      );
    }

    -- it has the element
    abbrev inside_slice : (k : ℕ) → IsWord b.body q k → k < m → (w : WordFrame) (ws : List WordFrame) → (now r.setup b).frame.frames ≡ w ∷ ws
        → IsInSlice (now r.setup b) (n - 1) (frame_word w q)
    inside_slice k index less w ws are = record {
      measured = known;
      read = ap (λ (c : Record). c.memory.measured) knows;
      now = sym (ap steps_of knows);
      its = refl;
      within = subst (λ x. x < m) (its_index k index w ws are) less;
    }

    -- it fits a page
    pub within_pages : (k : ℕ) → k < m → m < r.setup.sizes.page_words → LieInPages r.setup (n - 1) ((1 + k) + 1)
    within_pages k less whole = let l = slice_lies r.setup (n - 1) m k all_lie (omega (arith, whole)) less in omega (arith, l)

    pub is_inside : (k : ℕ) → IsWord b.body q k → k < m → m < r.setup.sizes.page_words → (j : ℕ)
        → j ≡ base (layout r.setup) + ((n - 1) + (1 + k)) → j < r.table.words → ActorHasElement r a b next p q j
    is_inside k index less whole j is inside = record {
      measured = has_measured;
      address = n - 1;
      points = its_slice;
      within = λ w ws are.
          let same_index = its_index k index w ws are in
          (inside_slice k index less w ws are, inl (omega (arith, whole), omega (arith, is, same_index)));
      inside = inside;
    }

    -- it is spread
    pub at_spread : (k : ℕ) → IsWord b.body q k → k < m → r.setup.sizes.page_words ≤ m → IsAtSpread r.setup (now r.setup b) (n - 1) 1 k
    at_spread k index less spread = by e
      where
        by : IsElementAccess (operation_of next.op) p q → IsAtSpread r.setup (now r.setup b) (n - 1) 1 k
        by (inl (to, is)) =
            let x = at_do r b next has_measured.before (Some to) action.At (p ∷ q ∷ []) is in
            LoadsElement to p q (here_do r b next has_measured.before (Some to) action.At (p ∷ q ∷ []) is).0 x
            (its_slice x.w x.ws x.frames) (inside_slice k index less x.w x.ws x.frames) (omega (arith, spread)) refl
            (its_index k index x.w x.ws x.frames)
        by (inr (v, is)) =
            let x = at_do r b next has_measured.before None action.Put (p ∷ q ∷ v ∷ []) is in
            StoresElement p q v (here_do r b next has_measured.before None action.Put (p ∷ q ∷ v ∷ []) is).0 x
            (its_slice x.w x.ws x.frames) (inside_slice k index less x.w x.ws x.frames) (omega (arith, spread)) refl
            (its_index k index x.w x.ws x.frames)

    pub is_located : (k : ℕ) → IsWord b.body q k → k < m → (c : Actor) (j : ℕ) → HasLocated r b c next (n - 1) k j → ActorHasElement r a c next p q j
    is_located k index less c j has =
        let body : c.body ≡ a.body = has.measured.body ∙ same in
        let word_in : (v x : ℕ) → IsWord a.body v x → (w : WordFrame) (ws : List WordFrame) → (now r.setup c).frame.frames ≡ w ∷ ws
        → x ≡ frame_word w v = λ v x word_is w ws are.
        word_is w ws (sym (ap frames_of_body body) ∙ (sym has.measured.acted.stands.shows.frames ∙ are)) in
        let index_in : (w : WordFrame) (ws : List WordFrame) → (now r.setup c).frame.frames ≡ w ∷ ws → k ≡ frame_word w q =
        word_in q k (subst (λ (body : Body). IsWord body q k) same index) in
        record {
          measured = then_measured r a b c next has_measured has.measured;
          address = n - 1;
          points = λ w ws are. one_more n (frame_word w p) (word_in p n word w ws are) some;
          within = λ w ws are. (
            record {
              measured = known;
              read = has.lengths ∙ ap (λ (d : Record). d.memory.measured) knows;
              now = sym (has.steps ∙ ap steps_of knows);
              its = refl;
              within = subst (λ x. x < m) (index_in w ws are) less;
            },
            inr (subst (λ x. IsLocated r.setup (now r.setup c) (n - 1) x j) (index_in w ws are) has.located),
          );
          inside = has.inside;
        }

-- ---- loads and stores of elements

module _ (r : Run) (a b : Actor) (next : Next) (p q : ℕ) where
  module _ (to j : ℕ) (e : operation_of next.op ≡ tac.Do (Some to) action.At (p ∷ q ∷ [])) (has : ActorHasElement r a b next p q j) where
    abbrev before_load : ActorIsBefore r b next
    before_load = has.measured.before

    pub element_loads : Loads r.setup (now r.setup b) j
    element_loads =
        let x = at_do r b next before_load (Some to) action.At (p ∷ q ∷ []) e in
        Element to p q has.address (here_do r b next before_load (Some to) action.At (p ∷ q ∷ []) e).0 x
        (has.points x.w x.ws x.frames) (has.within x.w x.ws x.frames).0 (has.within x.w x.ws x.frames).1

  module _ (v j : ℕ) (e : operation_of next.op ≡ tac.Do None action.Put (p ∷ q ∷ v ∷ [])) (has : ActorHasElement r a b next p q j) where
    abbrev before_store : ActorIsBefore r b next
    before_store = has.measured.before

    pub element_stores : (m : ℕ) → IsWord b.body v m → Stores r.setup (now r.setup b) j m
    element_stores m word =
        let x = at_do r b next before_store None action.Put (p ∷ q ∷ v ∷ []) e in
        ToElement p q v has.address (here_do r b next before_store None action.Put (p ∷ q ∷ v ∷ []) e).0 x
        (has.points x.w x.ws x.frames) (has.within x.w x.ws x.frames).0 (has.within x.w x.ws x.frames).1
        (its_word r b next before_store v m word)

  pub load_traps_at : (to : ℕ) → operation_of next.op ≡ tac.Do (Some to) action.At (p ∷ q ∷ []) → HasNoElementHere r a b next p q
      → IsAtTrap r a b IndexRange
  load_traps_at to e has =
      let x = at_do r b next has.measured.before (Some to) action.At (p ∷ q ∷ []) e in (
        has.measured.acted,
        ends.Loads to p q (here_do r b next has.measured.before (Some to) action.At (p ∷ q ∷ []) e).0 x
            (rests r b next has.measured.before) (has.none x.w x.ws x.frames) refl,
      )

  pub store_traps_at : (v : ℕ) → operation_of next.op ≡ tac.Do None action.Put (p ∷ q ∷ v ∷ []) → HasNoElementHere r a b next p q
      → IsAtTrap r a b IndexRange
  store_traps_at v e has =
      let x = at_do r b next has.measured.before None action.Put (p ∷ q ∷ v ∷ []) e in (
        has.measured.acted,
        ends.Stores p q v (here_do r b next has.measured.before None action.Put (p ∷ q ∷ v ∷ []) e).0 x
            (rests r b next has.measured.before) (has.none x.w x.ws x.frames) refl,
      )

  pub then_acted : (c : Actor) → HasMeasured r a b next → ActorActed r b c 1 [] [] → ActorActed r a c 1 [] []
  then_acted c has acted = acted_then r a b c 0 1 [] [] [] [] has.acted acted
