-- The results of sends and receives, from what the accesses have left. The loads and the exchange come first, then what is done under the
-- lock; the two parts meet at the record after the exchange.
use Rattle.std.proofs.Common.{◌≡◌, ◌≢◌, ℕ, suc, ◌+◌, ◌==◌, List, [], ◌∷◌, ◌++◌, Option, refl, ap, subst, ◌∙◌, inl, inr}
use prog.Atomic.{either}
use Rattle.rgo_sound.specs.Typed.declared.actions.Action.{Action}
use Rattle.rgo_core.specs.Channels.Controls.{head_of}
use Rattle.rgo_core.specs.Channels.Records.{Free, Locked, ChannelRec as SideRec, with_hold, with_lock, with_size}
use Rattle.rgo_core.specs.Rule.Views.{Me}
use Rattle.rgo_core.specs.Rule.declared.accesses.Kind.TheVariants.{Commit, LockChannel}
use Rattle.rgo_core.specs.ties.AtChannels.{Operates, knows}
use Rattle.rgo_core.specs.ties.Bounds.{Points}
use Rattle.rgo_core.specs.moves.Commits.{offers}
use Rattle.rgo_core.specs.Core.{Setup}
use Rattle.rgo_core.specs.Records.{Record}
use Rattle.rgo_core_steps.specs.Accesses.{given_type}
use Rattle.rgo_core_steps.specs.After.{committing}
use Rattle.rgo_core_steps.specs.Calls.{Did, accessing, waited}
use Rattle.rgo_core_steps.specs.Channels.{CanReceiveZero}
use Rattle.rgo_core_steps.specs.Seats.{HasAccessed, Stored, mine}
use Rattle.rgo_core_steps.proofs.accesses.Calling.{did_as, did_one, did_then}
use Rattle.rgo_chan.specs.Answers.{Holds, Looked, Receives, Sends, cell_word, commits, free_cell, loads_cell, locks, looked, looks, misses, numbers, reaches, stores_cell, without_oldest}
use Rattle.rgo_chan.specs.Before.{ReceivesAt, SendsAt}
use Rattle.rgo_chan.specs.Ready.{HasNoOffer, HasOffer, BufferHasRoom, HasValue, IsDrained, IsUnlocked}
use Rattle.rgo_chan.specs.declared.answers.Tried.TheVariants.{Done, Offered}
use Rattle.rgo_chan.proofs.Carrying.{committed_as, committed_counts, receives_as, type_as}
use Rattle.rgo_chan.proofs.CellWords.{counted_both}
use Rattle.rgo_chan.proofs.Looking.{lock_holds, lock_misses, look_hold, look_size}

module _ (T : Setup) (at : ℕ) (c : Record) (size n : ℕ) (m v : Me Record) (s t : ℕ) (seen : Looked T at c size n m s v t) where
  abbrev side : SideRec
  side = looked at c.side size n

  abbrev is_looked : mine T v ≡ waited 2 c side
  is_looked = seen.did.made.after

  pub same_frame : (mine T v).frame ≡ c.frame
  same_frame = ap (λ (d : Record). d.frame) is_looked

  pub still_free : c.side.hold ≡ Free → (mine T v).side.hold ≡ Free
  still_free free = ap (λ (d : Record). d.side.hold) is_looked ∙ (look_hold (with_size c.side at size) at n ∙ free)

  -- ---- after the exchange

  module _ (w : Me Record) (found u : ℕ) (one : u ≡ t + 1)
      (l : HasAccessed T LockChannel at (λ x. either (x == n) (n + 1) x) (λ x d. d ≡ knows (mine T v) (with_lock (mine T v).side at n x)) v found w) where
    pub missed : found ≢ n → Did T m s (λ g. looks at size n g ++ misses at found g ∷ []) (waited 3 c side) w u
    missed other =
        did_then T m v w (waited 2 c side) (waited 3 c side) s t u seen.did
        (lock_misses T at 2 c side v w n found t u is_looked l one other)

    abbrev held_side : SideRec
    held_side = with_hold side (Locked at n)

    module _ (same : found ≡ n) where
      pub locked : Did T m s (λ g. looks at size n g ++ locks at n g ∷ []) (waited 3 c held_side) w u
      locked =
          did_then T m v w (waited 2 c side) (waited 3 c held_side) s t u seen.did
          (lock_holds T at 2 c side v w n found t u is_looked l one same)

      is_locked : mine T w ≡ waited 3 c held_side
      is_locked = locked.made.after

      pub holds : Holds at size n (mine T w).side
      holds = (
        ap (λ (d : Record). d.side.hold) is_locked,
        ap (λ (d : Record). d.side.size) is_locked ∙ look_size (with_size c.side at size) at n,
      )

      pub frame_held : (mine T w).frame ≡ c.frame
      frame_held = ap (λ (d : Record). d.frame) is_locked

      -- the accesses under the lock, added to those before it
      pub all_committed : {to : Option ℕ} {action : Action} {others : List ℕ} → Operates T c to action others at → (value : ℕ)
          → committing T.code (accessing (suc (numbers T size)) (mine T w)) value ≡ committing T.code (accessing (4 + numbers T size) c) value
      all_committed here value =
          ap (λ (d : Record). committing T.code (accessing (suc (numbers T size)) d) value) is_locked
          ∙ (ap (λ k. committing T.code (record c { clock = k; side = held_side }) value) (counted_both T size c.clock)
          ∙ committed_as here (4 + numbers T size) held_side value)

      -- ---- the operation took effect

      module _ (z : Me Record) (e : ℕ) where
        pub sent : (value : ℕ) → SendsAt T c at value → IsUnlocked n → BufferHasRoom size n
            → (k x y : ℕ)
            × Did T w u
            (λ g. reaches T at size (free_cell size n) k g ++ stores_cell (cell_word T at size (free_cell size n) k) x value g
            ∷ commits at y (n + 4) g ∷ [])
            (committing T.code (accessing (suc (numbers T size)) (mine T w)) 0) z e
            → Sends T at c value (Done 0) m s z e
        sent value here even room p = (
          refl,
          size,
          n,
          p.0,
          p.1,
          p.2,
          even,
          room,
          did_as T m z (committing T.code (accessing (suc (numbers T size)) (mine T w)) 0) (committing T.code (accessing (4 + numbers T size) c) 0) s e
              (all_committed here.here 0)
              (did_then T m w z (waited 3 c held_side) (committing T.code (accessing (suc (numbers T size)) (mine T w)) 0) s u e locked p.3),
        )

        pub got_value : (value : ℕ) → ReceivesAt T c at → IsUnlocked n → HasValue size n → Points T (given_type T (mine T w)) value
            → (k y : ℕ)
            × Did T w u
            (λ g. reaches T at size (head_of n) k g ++ loads_cell (cell_word T at size (head_of n) k) value g
            ∷ commits at y (without_oldest size n) g ∷ [])
            (committing T.code (accessing (suc (numbers T size)) (mine T w)) value) z e
            → Receives T at c (Done value) m s z e
        got_value value here even some points p = inl (
          size,
          n,
          p.0,
          p.1,
          even,
          some,
          subst (λ ty. Points T ty value) (type_as T c (mine T w) frame_held) points,
          did_as T m z (committing T.code (accessing (suc (numbers T size)) (mine T w)) value)
              (committing T.code (accessing (4 + numbers T size) c) value) s e
              (all_committed here.1 value)
              (did_then T m w z (waited 3 c held_side) (committing T.code (accessing (suc (numbers T size)) (mine T w)) value) s u e locked p.2),
        )

        pub got_zero : ReceivesAt T c at → IsUnlocked n → IsDrained size n → e ≡ u + 1
            → Stored T Commit at n (committing T.code (mine T w) 0) w z → Receives T at c (Done 0) m s z e
        got_zero here even drained two b = inr (inl (
          refl,
          size,
          n,
          b.0,
          even,
          drained,
          did_as T m z (committing T.code (mine T w) 0) (committing T.code (accessing 3 c) 0) s e
              (ap (λ (d : Record). committing T.code d 0) is_locked ∙ committed_as here.1 3 held_side 0)
              (did_then T m w z (waited 3 c held_side) (committing T.code (mine T w) 0) s u e locked
              (did_one T w z (committing T.code (mine T w) 0) b.1 (λ q. q)
              (committed_counts (receives_as (mine T w) frame_held here).1 0) u e two)),
        ))

      pub can_zero : ReceivesAt T c at → IsDrained size n → CanReceiveZero T (mine T w) at n
      can_zero here drained =
          let still = receives_as (mine T w) frame_held here in record {
            to = still.0;
            size = size;
            here = still.1;
            locked = holds.0;
            sized = holds.1;
            closed = drained.0;
            none = drained.1;
          }

-- ---- without a buffer

module _ (T : Setup) (at : ℕ) (c : Record) (n : ℕ) (m v : Me Record) (s t : ℕ) (seen : Looked T at c 0 n m s v t) (w : Me Record) (found u : ℕ)
    (one : u ≡ t + 1)
    (l : HasAccessed T LockChannel at (λ x. either (x == n) (n + 1) x) (λ x d. d ≡ knows (mine T v) (with_lock (mine T v).side at n x)) v found w)
    (same : found ≡ n) (z : Me Record) (e : ℕ) where
  pub offered : (value : ℕ) → IsUnlocked n → HasNoOffer 0 n
      → (k x y : ℕ)
      × Did T w u (λ g. reaches T at 0 0 k g ++ stores_cell (cell_word T at 0 0 k) x value g ∷ commits at y (n + 4) g ∷ [])
      (offers (accessing (suc (numbers T 0)) (mine T w)) at) z e
      → Sends T at c value Offered m s z e
  offered value even none p = (
    n,
    p.0,
    p.1,
    p.2,
    even,
    none,
    did_as T m z (offers (accessing (suc (numbers T 0)) (mine T w)) at) (offers (accessing (4 + numbers T 0) c) at) s e
        (ap (λ (d : Record). offers (accessing (suc (numbers T 0)) d) at) (locked T at c 0 n m v s t seen w found u one l same).made.after
        ∙ ap (λ k. offers (record c { clock = k }) at) (counted_both T 0 c.clock))
        (did_then T m w z (waited 3 c (held_side T at c 0 n m v s t seen w found u one l))
        (offers (accessing (suc (numbers T 0)) (mine T w)) at) s u e
        (locked T at c 0 n m v s t seen w found u one l same) p.3),
  )

  pub got_offer : (value : ℕ) → ReceivesAt T c at → IsUnlocked n → HasOffer 0 n → Points T (given_type T (mine T w)) value
      → (k y : ℕ)
      × Did T w u (λ g. reaches T at 0 0 k g ++ loads_cell (cell_word T at 0 0 k) value g ∷ commits at y (n + 4) g ∷ [])
      (committing T.code (accessing (suc (numbers T 0)) (mine T w)) value) z e
      → Receives T at c (Done value) m s z e
  got_offer value here even offer points p = inr (inr (
    n,
    p.0,
    p.1,
    even,
    offer,
    subst (λ ty. Points T ty value)
        (type_as T c (mine T w) (ap (λ (d : Record). d.frame) (locked T at c 0 n m v s t seen w found u one l same).made.after)) points,
    did_as T m z (committing T.code (accessing (suc (numbers T 0)) (mine T w)) value) (committing T.code (accessing (4 + numbers T 0) c) value) s e
        (all_committed T at c 0 n m v s t seen w found u one l same here.1 value)
        (did_then T m w z (waited 3 c (held_side T at c 0 n m v s t seen w found u one l))
        (committing T.code (accessing (suc (numbers T 0)) (mine T w)) value) s u e
        (locked T at c 0 n m v s t seen w found u one l same) p.2),
  ))
