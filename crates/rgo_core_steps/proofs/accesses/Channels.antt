-- The law of each access to a channel, with what the calls require and show. Only words differ between the two; the laws are those of
-- rgo_core.
use Rattle.std.proofs.Common.{◌≡◌, ℕ, suc, [], Option, ◌+◌, ◌-◌, ◌/◌, ◌%◌, ◌==◌, Bool, true, false, if◌then◌else◌, refl, ap, sym, subst, ◌∙◌, ◌++◌, slice_index, slice_set, arith}
use prog.Atomic.{either}
use Rattle.rgo_core.specs.Channels.Controls.{closed_of, control, count_of, head_of}
use Rattle.rgo_core.specs.Channels.Records.{Free, Offering, Read, Wrote, with_hold, with_lock}
use Rattle.rgo_core.specs.ties.AtChannels.{IsAtChannel, Operates, commits, knows}
use Rattle.rgo_core.specs.ties.Bounds.{Points}
use Rattle.rgo_core.specs.moves.Commits.{Receives, offers}
use Rattle.rgo_core.specs.Core.{Core, Setup}
use Rattle.rgo_core.specs.Records.{Record}
use Rattle.rgo_core.specs.Steps.{Moves}
use Rattle.rgo_core.proofs.channel_steps.Moves as laws
use Rattle.rgo_core.proofs.channel_steps.Commits as commit_laws
use Rattle.rgo_core.proofs.channel_steps.Meetings as meeting_laws
use Rattle.rgo_core_steps.specs.Accesses.{given_type}
use Rattle.rgo_core_steps.specs.After.{acknowledging, committing}
use Rattle.rgo_core_steps.specs.Channels.{CanAcknowledge, CanClose, CanLoadCell, RecordCanMeet, CanOffer, CanReachCell, CanReceive, CanReceiveZero, CanSend, CanStoreCell, ShowsCapacity, ShowsControl, ShowsOwnControl, ShowsPage, found_by, value_by}
use Rattle.rgo_sound.specs.Typed.declared.actions.Action.TheVariants.{Recv}
use Rattle.rgo_core_steps.proofs.accesses.Cells.{given_type_is}
use Rattle.rgo_core_steps.proofs.record_steps.After.{acknowledging_is, committing_is}
use Rattle.rgo_core_steps.proofs.accesses.Telling.{tells_more}

module _ (T : Setup) (g : ℕ) (c : Record) where
  -- an equal function of the word
  leaves_as : (i : ℕ) (f h : ℕ → ℕ) {P : ℕ → Record → Type 0} → ((n : ℕ) → f n ≡ h n) → Moves T g c i f P → Moves T g c i h P
  leaves_as i f h same moves words recs run explains is small =
      let m = moves words recs run explains is small in
      record {
        after = m.after;
        gain = m.gain;
        explains = subst (λ v. Core T (slice_set words i v) (slice_set recs g m.after) (run ++ m.gain)) (same (slice_index words i)) m.explains;
        counts = m.counts;
        tells_so = m.tells_so;
      }

  -- ---- loads

  pub control_shows : (at : ℕ) → IsAtChannel T c at → Moves T g c at (λ n. n) (ShowsControl c at)
  control_shows at here = tells_more T g c at (λ n. n) (λ n d t. record { is = t.0; fits = t.1; head = t.2 }) (laws.control_move T g c at here)

  pub own_control_shows : (at : ℕ) → c.side.post ≡ Offering at → Moves T g c at (λ n. n) (ShowsOwnControl c at)
  own_control_shows at own =
      tells_more T g c at (λ n. n) (λ n d t. record { is = t.0; fits = t.1; phase = t.2 }) (laws.own_control_move T g c at own)

  pub capacity_shows : (at : ℕ) → IsAtChannel T c at → Moves T g c (at + 1) (λ n. n) (ShowsCapacity T c at)
  capacity_shows at here =
      tells_more T g c (at + 1) (λ n. n) (λ n d t. record { is = t.0; small = t.1; inside = t.2 }) (laws.capacity_move T g c at here)

  -- ---- the lock and cells

  pub lock_locks : (at n : ℕ) → IsAtChannel T c at → n % 2 ≡ 0 → c.side.hold ≡ Free
      → Moves T g c at (λ w. either (w == n) (n + 1) w) (λ w d. d ≡ knows c (with_lock c.side at n w))
  lock_locks at n here even free =
      leaves_as at (λ w. if w == n then suc n else w) (λ w. either (w == n) (n + 1) w) (λ w. by (w == n) w)
      (laws.lock_move T g c at n here even free)
    where
      by : (b : Bool) (w : ℕ) → (if b then suc n else w) ≡ either b (n + 1) w
      by true w = omega arith
      by false w = refl

  pub page_shows : (at cell : ℕ) → CanReachCell T c at cell
      → Moves T g c (at + 2 + cell / T.sizes.page_words) (λ n. n) (ShowsPage T c at cell)
  page_shows at cell can =
      tells_more T g c (at + 2 + cell / T.sizes.page_words) (λ n. n) (λ n d t. record { is = t.0; some = t.1; inside = t.2 })
      (laws.page_number_move T g c at cell can.size can.sized can.spread can.within)

  pub cell_loads : (at cell word : ℕ) → CanLoadCell T c at cell word
      → Moves T g c word (λ w. w) (λ w d. d ≡ knows c (with_hold c.side (Read at (found_by c.side.hold) cell w)))
  cell_loads at cell word can =
      tells_more T g c word (λ w. w)
      (λ w d e. e ∙ ap (λ n. knows c (with_hold c.side (Read at n cell w))) (sym (ap found_by can.locked)))
      (laws.cell_load_move T g c at can.n cell can.size word can.locked can.sized can.within can.is_there)

  pub cell_stores : (at cell word value : ℕ) → CanStoreCell T c at cell word
      → Moves T g c word (λ w. value) (λ w d. d ≡ knows c (with_hold c.side (Wrote at (found_by c.side.hold) cell value)))
  cell_stores at cell word value can =
      tells_more T g c word (λ w. value)
      (λ w d e. e ∙ ap (λ n. knows c (with_hold c.side (Wrote at n cell value))) (sym (ap found_by can.locked)))
      (laws.cell_store_move T g c at can.n cell can.size word value can.locked can.sized can.spare can.is_there)

  -- ---- commits

  pub send_commits : (at n : ℕ) → CanSend T c at n → Moves T g c at (λ w. n + 4) (λ w d. d ≡ committing T.code c 0)
  send_commits at n can =
      tells_more T g c at (λ w. n + 4) (λ w d e. e ∙ sym (committing_is can.here 0))
      (commit_laws.send_move T g c can.to can.sent at n can.cell can.size can.here can.wrote can.sized can.is_open can.room can.first)

  -- a receive of the word that was loaded
  abbrev pub Received : ℕ → Record → Type 0
  Received n d = (d ≡ committing T.code c (value_by c.side.hold)) × Points T (given_type T c) (value_by c.side.hold)

  received_is : {to : Option ℕ} {at word : ℕ} (a : Operates T c to Recv [] at) → value_by c.side.hold ≡ word → (n : ℕ) (d : Record)
      → Receives a word d → Received n d
  received_is a e n d r = (
    r.0 ∙ (ap (commits a) (sym e) ∙ sym (committing_is a (value_by c.side.hold))),
    rw (given_type_is T a.here, e) r.1,
  )

  pub receive_commits : (at n size : ℕ) → CanReceive T c at n size
      → Moves T g c at (λ w. control (closed_of n) (count_of n - 1) ((head_of n + 1) % size)) Received
  receive_commits at n size can =
      tells_more T g c at (λ w. control (closed_of n) (count_of n - 1) ((head_of n + 1) % size))
      (received_is can.here (ap value_by can.read))
      (commit_laws.receive_move T g c can.to at n can.cell can.value size can.here can.read can.sized can.some can.buffer can.oldest)

  pub zero_commits : (at n : ℕ) → CanReceiveZero T c at n → Moves T g c at (λ w. n) (λ w d. d ≡ committing T.code c 0)
  zero_commits at n can =
      tells_more T g c at (λ w. n) (λ w d e. e ∙ sym (committing_is can.here 0))
      (commit_laws.zero_move T g c can.to at n can.size can.here can.locked can.sized can.closed can.none)

  pub close_commits : (at n : ℕ) → CanClose T c at n → Moves T g c at (λ w. n + 2) (λ w d. d ≡ committing T.code c 0)
  close_commits at n can =
      tells_more T g c at (λ w. n + 2) (λ w d e. e ∙ sym (committing_is can.here 0))
      (commit_laws.close_move T g c can.to at n can.here can.locked can.is_open)

  -- without a buffer

  pub offer_commits : (at n : ℕ) → CanOffer T c at n → Moves T g c at (λ w. n + 4) (λ w d. d ≡ offers c at)
  offer_commits at n can =
      meeting_laws.offer_move T g c can.to can.sent at n can.here can.wrote can.sized can.is_open can.none

  pub meet_commits : (at n : ℕ) → RecordCanMeet T c at n → Moves T g c at (λ w. n + 4) Received
  meet_commits at n can =
      tells_more T g c at (λ w. n + 4) (received_is can.here (ap value_by can.read))
      (meeting_laws.meet_move T g c can.to at n can.value can.here can.read can.sized can.is_open can.offered)

  pub acknowledge_commits : (at n : ℕ) → CanAcknowledge T c at n → Moves T g c at (λ w. n - 8) (λ w d. d ≡ acknowledging T.code c)
  acknowledge_commits at n can =
      tells_more T g c at (λ w. n - 8) (λ w d e. e ∙ sym (acknowledging_is can.here))
      (meeting_laws.acknowledge_move T g c at n can.here can.own can.locked can.taken)
