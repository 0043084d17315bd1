-- The results of closes and acknowledgements, from what the accesses have left. Both load the control alone, so one module serves both.
use Rattle.std.proofs.Common.{◌≡◌, ◌≢◌, ℕ, ◌+◌, ◌-◌, ◌==◌, [], ◌∷◌, ap, ◌∙◌, ⊎_elim}
use prog.Atomic.{either}
use Rattle.rgo_core.specs.Channels.Controls.{count_of}
use Rattle.rgo_core.specs.Channels.Records.{Locked, Offering, ChannelRec as SideRec, with_hold, with_lock}
use Rattle.rgo_core.specs.Rule.Views.{Me}
use Rattle.rgo_core.specs.Rule.declared.accesses.Kind.TheVariants.{Commit, LoadControl, LockChannel}
use Rattle.rgo_core.specs.ties.AtChannels.{knows}
use Rattle.rgo_core.specs.moves.Commits.{IsAtSend}
use Rattle.rgo_core.specs.Core.{Setup}
use Rattle.rgo_core.specs.Records.{Record}
use Rattle.rgo_core_steps.specs.After.{acknowledging, committing}
use Rattle.rgo_core_steps.specs.Calls.{Did, accessing, waited}
use Rattle.rgo_core_steps.specs.Channels.{CanAcknowledge, CanClose, ShowsOwnControl}
use Rattle.rgo_core_steps.specs.Seats.{HasAccessed, Stored, mine}
use Rattle.rgo_core_steps.proofs.accesses.Calling.{did_as, did_one, did_then, left_record}
use Rattle.rgo_chan.specs.Answers.{commits, loads_control, locks, misses}
use Rattle.rgo_chan.specs.Before.{ClosesAt}
use Rattle.rgo_chan.specs.Ready.{IsOpen, IsTaken}
use Rattle.rgo_chan.proofs.Carrying.{acknowledged_as, acknowledged_counts, at_send_as, closes_as, committed_as, committed_counts}
use Rattle.rgo_chan.proofs.Looking.{lock_holds, lock_misses}

-- after a load of the control alone, which made the record know `side` of channels
module _ (T : Setup) (at : ℕ) (c : Record) (side : SideRec) (n : ℕ) (m v : Me Record) (s t : ℕ)
    (seen : Did T m s (λ g. loads_control at n g ∷ []) (waited 1 c side) v t) where
  abbrev is_seen : mine T v ≡ waited 1 c side
  is_seen = seen.made.after

  pub same_frame : (mine T v).frame ≡ c.frame
  same_frame = ap (λ (d : Record). d.frame) is_seen

  pub same_side : (mine T v).side ≡ side
  same_side = ap (λ (d : Record). d.side) is_seen

  module _ (w : Me Record) (found u : ℕ) (one : u ≡ t + 1)
      (l : HasAccessed T LockChannel at (λ x. either (x == n) (n + 1) x) (λ x d. d ≡ knows (mine T v) (with_lock (mine T v).side at n x)) v found w) where
    pub missed : found ≢ n → Did T m s (λ g. loads_control at n g ∷ misses at found g ∷ []) (waited 2 c side) w u
    missed other =
        did_then T m v w (waited 1 c side) (waited 2 c side) s t u seen (lock_misses T at 1 c side v w n found t u is_seen l one other)

    abbrev held_side : SideRec
    held_side = with_hold side (Locked at n)

    module _ (same : found ≡ n) where
      locked : Did T m s (λ g. loads_control at n g ∷ locks at n g ∷ []) (waited 2 c held_side) w u
      locked =
          did_then T m v w (waited 1 c side) (waited 2 c held_side) s t u seen (lock_holds T at 1 c side v w n found t u is_seen l one same)

      is_locked : mine T w ≡ waited 2 c held_side
      is_locked = locked.made.after

      frame_held : (mine T w).frame ≡ c.frame
      frame_held = ap (λ (d : Record). d.frame) is_locked

      -- ---- a close

      pub can_close : ClosesAt T c at → IsOpen n → CanClose T (mine T w) at n
      can_close here is_open =
          let still = closes_as (mine T w) frame_held here in record {
            to = still.0;
            here = still.1;
            locked = ap (λ (d : Record). d.side.hold) is_locked;
            is_open = is_open;
          }

      pub closed : ClosesAt T c at → (z : Me Record) (e : ℕ) → e ≡ u + 1 → Stored T Commit at (n + 2) (committing T.code (mine T w) 0) w z
          → (y : ℕ)
          × Did T m s (λ g. loads_control at n g ∷ locks at n g ∷ commits at y (n + 2) g ∷ []) (committing T.code (accessing 2 c) 0) z e
      closed here z e two b = (
        b.0,
        did_as T m z (committing T.code (mine T w) 0) (committing T.code (accessing 2 c) 0) s e
            (ap (λ (d : Record). committing T.code d 0) is_locked ∙ committed_as here.1 2 held_side 0)
            (did_then T m w z (waited 2 c held_side) (committing T.code (mine T w) 0) s u e locked
            (did_one T w z (committing T.code (mine T w) 0) b.1 (λ q. q)
            (committed_counts (closes_as (mine T w) frame_held here).1 0) u e two)),
      )

      -- ---- an acknowledgement

      pub can_acknowledge : IsAtSend T c → side.post ≡ Offering at → IsTaken n → CanAcknowledge T (mine T w) at n
      can_acknowledge here own taken = record {
        here = at_send_as (mine T w) frame_held here;
        own = ap (λ (d : Record). d.side.post) is_locked ∙ own;
        locked = ap (λ (d : Record). d.side.hold) is_locked;
        taken = taken;
      }

      pub acknowledged : IsAtSend T c → (z : Me Record) (e : ℕ) → e ≡ u + 1 → Stored T Commit at (n - 8) (acknowledging T.code (mine T w)) w z
          → (y : ℕ)
          × Did T m s (λ g. loads_control at n g ∷ locks at n g ∷ commits at y (n - 8) g ∷ []) (acknowledging T.code (accessing 2 c)) z e
      acknowledged here z e two b = (
        b.0,
        did_as T m z (acknowledging T.code (mine T w)) (acknowledging T.code (accessing 2 c)) s e
            (ap (λ (d : Record). acknowledging T.code d) is_locked ∙ acknowledged_as here 2 held_side)
            (did_then T m w z (waited 2 c held_side) (acknowledging T.code (mine T w)) s u e locked
            (did_one T w z (acknowledging T.code (mine T w)) b.1 (λ q. q)
            (acknowledged_counts (at_send_as (mine T w) frame_held here)) u e two)),
      )

-- The offer was taken if it is not up any more: while it is the own one, its phase is 1 or 2.
pub is_taken : (T : Setup) (at : ℕ) (m v : Me Record) (n : ℕ) → HasAccessed T LoadControl at (λ x. x) (ShowsOwnControl (mine T m) at) m n v
    → count_of n ≢ 1 → IsTaken n
is_taken T at m v n l other = ⊎_elim (λ e. absurd (other e)) (λ e. e) (left_record T m v l).phase
