-- What is done under the lock with a cell that is reached: it is loaded or stored, and the operation takes effect. Nobody else accesses
-- the cell meanwhile, so what the commit finds is what the exchange left.
use Rattle.std.proofs.Common.{◌≡◌, ℕ, suc, ◌+◌, ◌%◌, ◌<◌, [], ◌∷◌, ◌++◌, refl, ap, sym, subst, ◌∙◌}
use Rattle.rgo_core.specs.Channels.Controls.{count_of, extent, head_of}
use Rattle.rgo_core.specs.Channels.Locking.{IsCell, IsSpare}
use Rattle.rgo_core.specs.Channels.Records.{Read, ChannelRec as SideRec, Wrote, with_hold}
use Rattle.rgo_core.specs.Rule.Views.{Me}
use Rattle.rgo_core.specs.Rule.declared.accesses.Kind.TheVariants.{Commit, LoadCell, StoreCell}
use Rattle.rgo_core.specs.ties.AtChannels.{knows}
use Rattle.rgo_core.specs.ties.Bounds.{Points}
use Rattle.rgo_core.specs.moves.Commits.{offers}
use Rattle.rgo_core.specs.Core.{Setup}
use Rattle.rgo_core.specs.Records.{Record}
use Rattle.rgo_core_steps.specs.Accesses.{given_type}
use Rattle.rgo_core_steps.specs.After.{committing}
use Rattle.rgo_core_steps.specs.Calls.{Did, accessing, waited}
use Rattle.rgo_core_steps.specs.Channels.{CanLoadCell, RecordCanMeet, CanOffer, CanReceive, CanSend, CanStoreCell, found_by, value_by}
use Rattle.rgo_core_steps.specs.Seats.{HasAccessed, Stored, mine}
use Rattle.rgo_core_steps.proofs.accesses.Calling.{did_as, did_one, did_then, left_record}
use Rattle.rgo_chan.specs.Answers.{Holds, IsReached, cell_word, commits, free_cell, loads_cell, numbers, reaches, stores_cell}
use Rattle.rgo_chan.specs.Before.{ReceivesAt, SendsAt}
use Rattle.rgo_chan.specs.Ready.{HasNoOffer, HasOffer, BufferHasRoom, HasValue}
use Rattle.rgo_chan.proofs.Carrying.{committed_as, committed_counts, receives_as, sends_as, type_as}
use Rattle.rgo_chan.proofs.Cells.{next_spare}
use Rattle.rgo_chan.proofs.CellWords.{reached_commit, reached_offer}

module _ (T : Setup) (at size n : ℕ) where
  -- ---- the cell is reached, and not yet accessed

  module _ (c : Record) (m v : Me Record) (s r cell word : ℕ) (held : Holds at size n c.side) (reach : IsReached T at size cell word c m s v r) where
    is_reached : mine T v ≡ waited (numbers T size) c reach.side
    is_reached = reach.did.made.after

    pub held_still : Holds at size n (mine T v).side
    held_still = (
      ap (λ (d : Record). d.side.hold) is_reached ∙ (reach.hold ∙ held.0),
      ap (λ (d : Record). d.side.size) is_reached ∙ (reach.sized ∙ held.1),
    )

    pub frame_still : (mine T v).frame ≡ c.frame
    frame_still = ap (λ (d : Record). d.frame) is_reached

    there_still : IsCell T.sizes.page_words (mine T v).side at size cell word
    there_still = subst (λ (d : Record). IsCell T.sizes.page_words d.side at size cell word) (sym is_reached) reach.there

    pub can_store : IsSpare n size cell → CanStoreCell T (mine T v) at cell word
    can_store spare = record {
      n = n;
      size = size;
      locked = held_still.0;
      sized = held_still.1;
      spare = spare;
      is_there = there_still;
    }

    pub can_load : cell < extent size → CanLoadCell T (mine T v) at cell word
    can_load within = record {
      n = n;
      size = size;
      locked = held_still.0;
      sized = held_still.1;
      within = within;
      is_there = there_still;
    }

    -- the accesses with those that reach the cell before them

    pub pushed_there : (value : ℕ) → SendsAt T c at value → cell ≡ free_cell size n → (w : Me Record) (u : ℕ)
        → (x y : ℕ)
        × Did T v r (λ g. stores_cell word x value g ∷ commits at y (n + 4) g ∷ []) (committing T.code (accessing 1 (mine T v)) 0) w u
        → (k x y : ℕ)
        × Did T m s
        (λ g. reaches T at size (free_cell size n) k g ++ stores_cell (cell_word T at size (free_cell size n) k) x value g
        ∷ commits at y (n + 4) g ∷ [])
        (committing T.code (accessing (suc (numbers T size)) c) 0) w u
    pushed_there value here is w u p = (
      reach.k,
      p.0,
      p.1,
      subst (λ i. Did T m s
          (λ g. reaches T at size i reach.k g ++ stores_cell (cell_word T at size i reach.k) p.0 value g ∷ commits at p.1 (n + 4) g ∷ [])
          (committing T.code (accessing (suc (numbers T size)) c) 0) w u) is
          (subst (λ i. Did T m s (λ g. reaches T at size cell reach.k g ++ stores_cell i p.0 value g ∷ commits at p.1 (n + 4) g ∷ [])
          (committing T.code (accessing (suc (numbers T size)) c) 0) w u) reach.is
          (reached_commit T at size cell word c m v w s r u reach here.here 0 p.2)),
    )

    pub received_there : (value x : ℕ) → ReceivesAt T c at → (i : ℕ) → cell ≡ i → (w : Me Record) (u : ℕ)
        → (y : ℕ)
        × Did T v r (λ g. loads_cell word value g ∷ commits at y x g ∷ []) (committing T.code (accessing 1 (mine T v)) value) w u
        → (k y : ℕ)
        × Did T m s (λ g. reaches T at size i k g ++ loads_cell (cell_word T at size i k) value g ∷ commits at y x g ∷ [])
        (committing T.code (accessing (suc (numbers T size)) c) value) w u
    received_there value x here i is w u p = (
      reach.k,
      p.0,
      subst (λ i. Did T m s
          (λ g. reaches T at size i reach.k g ++ loads_cell (cell_word T at size i reach.k) value g ∷ commits at p.0 x g ∷ [])
          (committing T.code (accessing (suc (numbers T size)) c) value) w u) is
          (subst (λ i. Did T m s (λ g. reaches T at size cell reach.k g ++ loads_cell i value g ∷ commits at p.0 x g ∷ [])
          (committing T.code (accessing (suc (numbers T size)) c) value) w u) reach.is
          (reached_commit T at size cell word c m v w s r u reach here.1 value p.1)),
    )

    pub put_up_there : (value : ℕ) (w : Me Record) (u : ℕ)
        → (x y : ℕ)
        × Did T v r (λ g. stores_cell word x value g ∷ commits at y (n + 4) g ∷ []) (offers (accessing 1 (mine T v)) at) w u
        → (k x y : ℕ)
        × Did T m s
        (λ g. reaches T at size cell k g ++ stores_cell (cell_word T at size cell k) x value g ∷ commits at y (n + 4) g ∷ [])
        (offers (accessing (suc (numbers T size)) c) at) w u
    put_up_there value w u p = (
      reach.k,
      p.0,
      p.1,
      subst (λ i. Did T m s (λ g. reaches T at size cell reach.k g ++ stores_cell i p.0 value g ∷ commits at p.1 (n + 4) g ∷ [])
          (offers (accessing (suc (numbers T size)) c) at) w u) reach.is
          (reached_offer T at size cell word c m v w s r u reach p.2),
    )

  pub spare_cell : (cell : ℕ) → BufferHasRoom size n → cell ≡ (head_of n + count_of n) % size → IsSpare n size cell
  spare_cell cell room is = subst (λ i. IsSpare n size i) (sym is) (next_spare n size room.1)

  module _ (m v : Me Record) (held : Holds at size n (mine T m).side) (cell word : ℕ) where
    abbrev c : Record
    c = mine T m

    -- ---- a cell was stored

    module _ (value : ℕ) (here : SendsAt T c at value)
        (a : Stored T StoreCell word value (knows c (with_hold c.side (Wrote at (found_by c.side.hold) cell value))) m v) where
      abbrev wrote : SideRec
      wrote = with_hold c.side (Wrote at (found_by c.side.hold) cell value)

      is_stored : mine T v ≡ knows c wrote
      is_stored = left_record T m v a.1

      abbrev still : SendsAt T (mine T v) at value
      still = sends_as (mine T v) (ap (λ (d : Record). d.frame) is_stored) here

      wrote_is : (mine T v).side.hold ≡ Wrote at n cell value
      wrote_is = ap (λ (d : Record). d.side.hold) is_stored ∙ ap (λ k. Wrote at k cell value) (ap found_by held.0)

      sized_is : (mine T v).side.size ≡ c.side.size
      sized_is = ap (λ (d : Record). d.side.size) is_stored

      pub can_send : cell ≡ (head_of n + count_of n) % size → BufferHasRoom size n → CanSend T (mine T v) at n
      can_send is room = record {
        to = still.to;
        sent = still.sent;
        cell = cell;
        size = size;
        here = still.here;
        wrote = wrote_is ∙ ap (Wrote at n cell) (sym still.word);
        sized = sized_is ∙ held.1;
        is_open = room.0;
        room = room.1;
        first = is;
      }

      pub pushed : (w : Me Record) (s t u : ℕ) → t ≡ s + 1 → u ≡ t + 1
          → Stored T Commit at (n + 4) (committing T.code (mine T v) 0) v w
          → (x y : ℕ)
          × Did T m s (λ g. stores_cell word x value g ∷ commits at y (n + 4) g ∷ []) (committing T.code (accessing 1 c) 0) w u
      pushed w s t u one two b = (
        a.0,
        b.0,
        did_as T m w (committing T.code (mine T v) 0) (committing T.code (accessing 1 c) 0) s u
            (ap (λ (d : Record). committing T.code d 0) is_stored ∙ committed_as here.here 1 wrote 0)
            (did_then T m v w (knows c wrote) (committing T.code (mine T v) 0) s t u
            (did_one T m v (knows c wrote) a.1 (λ q. q) refl s t one)
            (did_one T v w (committing T.code (mine T v) 0) b.1 (λ q. q) (committed_counts still.here 0) t u two)),
      )

    -- ---- a cell was loaded

    module _ (value : ℕ) (here : ReceivesAt T c at)
        (a : HasAccessed T LoadCell word (λ x. x)
        (λ x d. d ≡ knows c (with_hold c.side (Read at (found_by c.side.hold) cell x))) m value v) where
      abbrev read : SideRec
      read = with_hold c.side (Read at (found_by c.side.hold) cell value)

      is_loaded : mine T v ≡ knows c read
      is_loaded = left_record T m v a

      abbrev yet : ReceivesAt T (mine T v) at
      yet = receives_as (mine T v) (ap (λ (d : Record). d.frame) is_loaded) here

      read_is : (mine T v).side.hold ≡ Read at n cell value
      read_is = ap (λ (d : Record). d.side.hold) is_loaded ∙ ap (λ k. Read at k cell value) (ap found_by held.0)

      pub can_receive : cell ≡ head_of n → HasValue size n → CanReceive T (mine T v) at n size
      can_receive is some = record {
        to = yet.0;
        cell = cell;
        value = value;
        here = yet.1;
        read = read_is;
        sized = ap (λ (d : Record). d.side.size) is_loaded ∙ held.1;
        some = some.1;
        buffer = some.0;
        oldest = is;
      }

      -- the operation takes effect with the word that was loaded
      pub received : (w : Me Record) (s t u : ℕ) → t ≡ s + 1 → u ≡ t + 1 → (x : ℕ)
          → Stored T Commit at x (committing T.code (mine T v) (value_by (mine T v).side.hold)) v w
          → (y : ℕ) × Did T m s (λ g. loads_cell word value g ∷ commits at y x g ∷ []) (committing T.code (accessing 1 c) value) w u
      received w s t u one two x b = (
        b.0,
        did_as T m w (committing T.code (mine T v) (value_by (mine T v).side.hold)) (committing T.code (accessing 1 c) value) s u
            (ap (λ (d : Record). committing T.code d (value_by d.side.hold)) is_loaded ∙ committed_as here.1 1 read value)
            (did_then T m v w (knows c read) (committing T.code (mine T v) (value_by (mine T v).side.hold)) s t u
            (did_one T m v (knows c read) a (λ q. q) refl s t one)
            (did_one T v w (committing T.code (mine T v) (value_by (mine T v).side.hold)) b.1 (λ q. q)
            (committed_counts yet.1 (value_by (mine T v).side.hold)) t u two)),
      )

      -- where the word leads that was loaded
      pub leads : Points T (given_type T (mine T v)) (value_by (mine T v).side.hold) → Points T (given_type T c) value
      leads p = subst (λ ty. Points T ty value) (type_as T c (mine T v) (ap (λ (d : Record). d.frame) is_loaded))
          (subst (Points T (given_type T (mine T v))) (ap value_by read_is) p)

-- ---- without a buffer

module _ (T : Setup) (at n : ℕ) (m v : Me Record) (held : Holds at 0 n (mine T m).side) (word : ℕ) where
  module _ (value : ℕ) (here : SendsAt T (mine T m) at value)
      (a : Stored T StoreCell word value
      (knows (mine T m) (with_hold (mine T m).side (Wrote at (found_by (mine T m).side.hold) 0 value))) m v) where
    pub can_offer : HasNoOffer 0 n → CanOffer T (mine T v) at n
    can_offer none =
        let x = still T at 0 n m v held 0 word value here a in record {
          to = x.to;
          sent = x.sent;
          here = x.here;
          wrote = wrote_is T at 0 n m v held 0 word value here a ∙ ap (Wrote at n 0) (sym x.word);
          sized = sized_is T at 0 n m v held 0 word value here a ∙ held.1;
          is_open = none.0;
          none = none.2;
        }

    pub put_up : (w : Me Record) (s t u : ℕ) → t ≡ s + 1 → u ≡ t + 1 → Stored T Commit at (n + 4) (offers (mine T v) at) v w
        → (x y : ℕ)
        × Did T m s (λ g. stores_cell word x value g ∷ commits at y (n + 4) g ∷ []) (offers (accessing 1 (mine T m)) at) w u
    put_up w s t u one two b =
        let e = is_stored T at 0 n m v held 0 word value here a in
        let k = knows (mine T m) (wrote T at 0 n m v held 0 word value here a) in (
          a.0,
          b.0,
          did_as T m w (offers (mine T v) at) (offers (accessing 1 (mine T m)) at) s u (ap (λ (d : Record). offers d at) e)
              (did_then T m v w k (offers (mine T v) at) s t u
              (did_one T m v k a.1 (λ q. q) refl s t one)
              (did_one T v w (offers (mine T v) at) b.1 (λ q. q) refl t u two)),
        )

  module _ (value : ℕ) (here : ReceivesAt T (mine T m) at)
      (a : HasAccessed T LoadCell word (λ x. x)
      (λ x d. d ≡ knows (mine T m) (with_hold (mine T m).side (Read at (found_by (mine T m).side.hold) 0 x))) m value v) where
    pub can_meet : HasOffer 0 n → RecordCanMeet T (mine T v) at n
    can_meet offer =
        let x = yet T at 0 n m v held 0 word value here a in record {
          to = x.0;
          value = value;
          here = x.1;
          read = read_is T at 0 n m v held 0 word value here a;
          sized = ap (λ (d : Record). d.side.size) (is_loaded T at 0 n m v held 0 word value here a) ∙ held.1;
          is_open = offer.0;
          offered = offer.2;
        }
