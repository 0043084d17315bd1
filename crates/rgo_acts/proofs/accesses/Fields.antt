-- Loads and stores of fields, of lengths and of package variables: the word is one of the table, and it is the instruction's. That a
-- pointer leads to words of its struct is an invariant of the table, so only nil has a case.
use Rattle.std.proofs.Common.{◌≡◌, ◌<◌, ◌≤◌, ◌+◌, ◌-◌, ℕ, suc, List, [], ◌∷◌, Contains, Some, None, length, inl, inr, ap, refl, subst, sym, ◌∙◌, arith}
use Rattle.rgo_core.specs.Frames.shown.WordFrames.{WordFrame, frame_word}
use Rattle.rgo_core.specs.moves.Cells.{IsAtSpread, LoadsField, PointsToSpread, PointsToWhole, StoresField}
use Rattle.rgo_core.specs.ties.Bounds.{LieInPages}
use Rattle.rgo_core.specs.Core.{layout}
use Rattle.rgo_core.specs.Memory.Words.{base, variable_at}
use Rattle.rgo_core.specs.Rule.Views.{number_of}
use Rattle.rgo_core_steps.specs.Accesses.{Field, Length, LengthOfNil, Loads, Stores, ToField, ToVariable, Variable}
use Rattle.rgo_core_steps.specs.Ends.{LoadsNil, StoresNil}
use Rattle.rgo_core.specs.Next.{IsAtOp}
use Rattle.rgo_core_facts.specs.MemoryWords.{PointerHasField}
use Rattle.rgo_core_facts.proofs.Lying.{get_exists, len_lies, load_lies, loads_field, set_exists, store_lies, stores_field}
use Rattle.rgo_sound.specs.Code.Code as code
use Rattle.rgo_sound.specs.Code.Code.{CodeOp}
use Rattle.rgo_sound.specs.Memory.declared.traps.Trap.TheVariants.{NilPointer}
use Rattle.rgo_sound.specs.Tac.Code as tac
use Rattle.rgo_sound.specs.Tac.Code.{Op}
use Rattle.rgo_sound.specs.Tac.Flow.{reads}
use Rattle.rgo_sound.specs.Tac.Ops.{operation_of}
use Rattle.rgo_sound.specs.Typed.declared.actions.Action.TheVariants as action
use Rattle.rgo_body.specs.Bodies.{frames_of_body}
use Rattle.rgo_body.specs.Fields.{PointsToFields}
use Rattle.rgo_body.specs.declared.nexts.Next.{Next}
use Rattle.rgo_acts.specs.Actors.{now}
use Rattle.rgo_acts.specs.Elements.{HasFieldHere, HasLocated, IsAtFieldOf}
use Rattle.rgo_acts.specs.Ready.{ActorIsBefore}
use Rattle.rgo_acts.specs.Runs.{Run}
use Rattle.rgo_acts.specs.Traps.{IsAtTrap}
use Rattle.rgo_acts.specs.declared.actors.Actor.{Actor}
use Rattle.rgo_acts.proofs.before.Instructions.{IsWord, at_do, first_in, here_do, its_word, one_more, rests}
use Rattle.rgo_acts.proofs.Standing.{acted_none}

module _ (r : Run) (a : Actor) (next : Next) (before : ActorIsBefore r a next) where
  -- ---- fields of nil

  module _ (to field from n : ℕ) (e : operation_of next.op ≡ tac.Do (Some to) (action.Load field) (from ∷ [])) (word : IsWord a.body from n) where
    pub load_traps : n ≡ 0 → IsAtTrap r a a NilPointer
    load_traps none = (
      acted_none r a a before.stands refl refl before.stands.shows,
      LoadsNil to field from (here_do r a next before (Some to) (action.Load field) (from ∷ []) e).0
          (at_do r a next before (Some to) (action.Load field) (from ∷ []) e) (rests r a next before)
          (sym (its_word r a next before from n word) ∙ none) refl,
    )

  module _ (field to value n : ℕ) (e : operation_of next.op ≡ tac.Do None (action.Store field) (to ∷ value ∷ [])) (word : IsWord a.body to n) where
    pub store_traps : n ≡ 0 → IsAtTrap r a a NilPointer
    store_traps none = (
      acted_none r a a before.stands refl refl before.stands.shows,
      StoresNil field to value (here_do r a next before None (action.Store field) (to ∷ value ∷ []) e).0
          (at_do r a next before None (action.Store field) (to ∷ value ∷ []) e) (rests r a next before)
          (sym (its_word r a next before to n word) ∙ none) refl,
    )

  -- ---- fields of a struct at an address

  -- it reads the pointer
  pub reads_pointer : (op : Op) (p k : ℕ) → IsAtFieldOf op p k → Contains (reads op) p
  reads_pointer op p k (inl (to, e)) = subst (λ (o : Op). Contains (reads o) p) (sym e) (first_in p [])
  reads_pointer op p k (inr (q, e)) = subst (λ (o : Op). Contains (reads o) p) (sym e) (first_in p (q ∷ []))

  module _ (p k address : ℕ) (e : IsAtFieldOf (operation_of next.op) p k)
      (points : (w : WordFrame) (ws : List WordFrame) → frames_of_body a.body ≡ w ∷ ws → frame_word w p ≡ suc address)
      (n : ℕ) (fields : PointsToFields r.program next p n) where
    points_here : frame_word before.ready.is_next.w p ≡ suc address
    points_here = points before.ready.is_next.w before.ready.is_next.ws before.ready.is_next.are

    abbrev at_load : (to : ℕ) (is : operation_of next.op ≡ tac.Do (Some to) (action.Load k) (p ∷ []))
        → IsAtOp r.setup.code (now r.setup a)
        (code.Do (Some to) (action.Load k) (p ∷ []) (here_do r a next before (Some to) (action.Load k) (p ∷ []) is).0)
    at_load to is = at_do r a next before (Some to) (action.Load k) (p ∷ []) is

    abbrev at_store : (q : ℕ) (is : operation_of next.op ≡ tac.Do None (action.Store k) (p ∷ q ∷ []))
        → IsAtOp r.setup.code (now r.setup a)
        (code.Do None (action.Store k) (p ∷ q ∷ []) (here_do r a next before None (action.Store k) (p ∷ q ∷ []) is).0)
    at_store q is = at_do r a next before None (action.Store k) (p ∷ q ∷ []) is

    many : (op : CodeOp) (x : IsAtOp r.setup.code (now r.setup a) op) (f : PointerHasField r.setup (now r.setup a) x p k) → n ≡ length f.struct.fields
    many op x f = fields r.setup a.body (now r.setup a) op x k f before.stands.shows before.ready.is_next

    -- the struct fits a page, or it is spread
    whole_by : {op : CodeOp} (x : IsAtOp r.setup.code (now r.setup a) op) → PointerHasField r.setup (now r.setup a) x p k
        → n ≤ r.setup.sizes.page_words → PointsToWhole r.setup (now r.setup a) x p
    whole_by x f few = record {
      number = f.number;
      typed = f.typed;
      struct = f.struct;
      there = f.there;
      fits = let m = many _ x f in omega (arith, few, m);
    }

    spread_by : {op : CodeOp} (x : IsAtOp r.setup.code (now r.setup a) op) → PointerHasField r.setup (now r.setup a) x p k
        → r.setup.sizes.page_words < n → PointsToSpread r.setup (now r.setup a) x p
    spread_by x f more = record {
      number = f.number;
      typed = f.typed;
      struct = f.struct;
      there = f.there;
      spread = let m = many _ x f in omega (arith, more, m);
    }

    loaded : (to : ℕ) (is : operation_of next.op ≡ tac.Do (Some to) (action.Load k) (p ∷ []))
        → PointerHasField r.setup (now r.setup a) (at_load to is) p k
    loaded to is = loads_field r.setup (number_of a.seat.me) (now r.setup a) before.stands.possible to k p
        (here_do r a next before (Some to) (action.Load k) (p ∷ []) is).0 (at_load to is)

    stored : (q : ℕ) (is : operation_of next.op ≡ tac.Do None (action.Store k) (p ∷ q ∷ []))
        → PointerHasField r.setup (now r.setup a) (at_store q is) p k
    stored q is = stores_field r.setup (number_of a.seat.me) (now r.setup a) before.stands.possible k p q
        (here_do r a next before None (action.Store k) (p ∷ q ∷ []) is).0 (at_store q is)

    pub field_lies : n ≤ r.setup.sizes.page_words → LieInPages r.setup address (k + 1)
    field_lies few = by e
      where
        by : IsAtFieldOf (operation_of next.op) p k → LieInPages r.setup address (k + 1)
        by (inl (to, is)) =
            let l = load_lies r.setup (number_of a.seat.me) (now r.setup a) before.stands.possible to k p address
            (here_do r a next before (Some to) (action.Load k) (p ∷ []) is).0 (at_load to is) points_here
            (whole_by (at_load to is) (loaded to is) few) in
            omega (arith, l)
        by (inr (q, is)) =
            let l = store_lies r.setup (number_of a.seat.me) (now r.setup a) before.stands.possible k p q address
            (here_do r a next before None (action.Store k) (p ∷ q ∷ []) is).0 (at_store q is) points_here
            (whole_by (at_store q is) (stored q is) few) in
            omega (arith, l)

    pub field_here : n ≤ r.setup.sizes.page_words → (j : ℕ) → j ≡ base (layout r.setup) + (address + k) → j < r.table.words
        → HasFieldHere r a a next p k j
    field_here few j at inside = record {
      measured = record { before = before; acted = acted_none r a a before.stands refl refl before.stands.shows; body = refl };
      loads = λ to is.
          Field to k p address (here_do r a next before (Some to) (action.Load k) (p ∷ []) is).0 (at_load to is) points_here
          (inl (whole_by (at_load to is) (loaded to is) few, at));
      stores = λ q value is word.
          ToField k p q address (here_do r a next before None (action.Store k) (p ∷ q ∷ []) is).0 (at_store q is) points_here
          (inl (whole_by (at_store q is) (stored q is) few, at)) (word (at_store q is).w (at_store q is).ws (at_store q is).frames);
      inside = inside;
    }

    pub field_spread : r.setup.sizes.page_words < n → IsAtSpread r.setup (now r.setup a) address 0 k
    field_spread more = by e
      where
        by : IsAtFieldOf (operation_of next.op) p k → IsAtSpread r.setup (now r.setup a) address 0 k
        by (inl (to, is)) =
            LoadsField to k p (here_do r a next before (Some to) (action.Load k) (p ∷ []) is).0 (at_load to is) points_here
            (spread_by (at_load to is) (loaded to is) more) refl refl
        by (inr (q, is)) =
            StoresField k p q (here_do r a next before None (action.Store k) (p ∷ q ∷ []) is).0 (at_store q is) points_here
            (spread_by (at_store q is) (stored q is) more) refl refl

    pub field_located : (b : Actor) (j : ℕ) → HasLocated r a b next address k j → HasFieldHere r a b next p k j
    field_located b j has =
        let there : ActorIsBefore r b next = has.measured.before in
        let points_there : frame_word there.ready.is_next.w p ≡ suc address =
        points there.ready.is_next.w there.ready.is_next.ws (sym (ap frames_of_body has.measured.body) ∙ there.ready.is_next.are) in
        record {
          measured = has.measured;
          loads = λ to is.
              Field to k p address (here_do r b next there (Some to) (action.Load k) (p ∷ []) is).0
              (at_do r b next there (Some to) (action.Load k) (p ∷ []) is) points_there (inr has.located);
          stores = λ q value is word.
              let x = at_do r b next there None (action.Store k) (p ∷ q ∷ []) is in
              ToField k p q address (here_do r b next there None (action.Store k) (p ∷ q ∷ []) is).0 x points_there (inr has.located)
              (word x.w x.ws x.frames);
          inside = has.inside;
        }

  -- ---- lengths

  module _ (to from n : ℕ) (e : operation_of next.op ≡ tac.Do (Some to) action.Len (from ∷ [])) (word : IsWord a.body from n) where
    pub length_within : (n ≡ 0 → ⊥) → LieInPages r.setup (n - 1) 1
    length_within some =
        len_lies r.setup (number_of a.seat.me) (now r.setup a) before.stands.possible to from (n - 1)
        (here_do r a next before (Some to) action.Len (from ∷ []) e).0
        (at_do r a next before (Some to) action.Len (from ∷ []) e)
        (one_more n _ (its_word r a next before from n word) some)

    pub length_loads : (n ≡ 0 → ⊥) → (i : ℕ) → i ≡ base (layout r.setup) + ((n - 1) + 0) → Loads r.setup (now r.setup a) i
    length_loads some i is =
        Length to from (n - 1) (here_do r a next before (Some to) action.Len (from ∷ []) e).0
        (at_do r a next before (Some to) action.Len (from ∷ []) e)
        (one_more n _ (its_word r a next before from n word) some) (omega (arith, is))

    pub length_of_nil : n ≡ 0 → LengthOfNil r.setup (now r.setup a)
    length_of_nil none = record {
      d = to;
      p = from;
      removes = (here_do r a next before (Some to) action.Len (from ∷ []) e).0;
      here = at_do r a next before (Some to) action.Len (from ∷ []) e;
      nil = sym (its_word r a next before from n word) ∙ none;
    }

  -- ---- package variables

  module _ (to k : ℕ) (e : operation_of next.op ≡ tac.Do (Some to) (action.Get k) []) where
    pub variable_there : k < length r.setup.code.variables
    variable_there =
        get_exists r.setup (number_of a.seat.me) (now r.setup a) before.stands.possible (Some to) k []
        (here_do r a next before (Some to) (action.Get k) [] e).0 (at_do r a next before (Some to) (action.Get k) [] e)

    pub variable_loads : (i : ℕ) → i ≡ variable_at (layout r.setup) k → Loads r.setup (now r.setup a) i
    variable_loads i is = Variable to k (here_do r a next before (Some to) (action.Get k) [] e).0
        (at_do r a next before (Some to) (action.Get k) [] e) is

  module _ (k from : ℕ) (e : operation_of next.op ≡ tac.Do None (action.Set k) (from ∷ [])) where
    pub to_variable_there : k < length r.setup.code.variables
    to_variable_there =
        set_exists r.setup (number_of a.seat.me) (now r.setup a) before.stands.possible None k (from ∷ [])
        (here_do r a next before None (action.Set k) (from ∷ []) e).0 (at_do r a next before None (action.Set k) (from ∷ []) e)

    pub variable_stores : (i m : ℕ) → IsWord a.body from m → i ≡ variable_at (layout r.setup) k → Stores r.setup (now r.setup a) i m
    variable_stores i m it is = ToVariable k from (here_do r a next before None (action.Set k) (from ∷ []) e).0
        (at_do r a next before None (action.Set k) (from ∷ []) e) is (its_word r a next before from m it)
