-- What a goroutine may do after each result. Its frames are as they were and its lock is free, since the accesses of these results only
-- load or miss; so the operation may be made again.
use Rattle.std.proofs.Common.{◌≡◌, ℕ, List, [], ◌∷◌, ap, ◌∙◌, ⊎_elim}
use Rattle.rgo_core.specs.Channels.Records.{Free, ChannelRec as SideRec, Shut, with_look, with_own_look, with_size}
use Rattle.rgo_core.specs.Rule.Views.{Me}
use Rattle.rgo_core.specs.Rule.declared.accesses.Access.{Access}
use Rattle.rgo_core.specs.Core.{Setup}
use Rattle.rgo_core.specs.Records.{Record}
use Rattle.rgo_core_steps.specs.Calls.{Did, waited}
use Rattle.rgo_core_steps.specs.Seats.{mine}
use Rattle.rgo_chan.specs.Answers.{looked}
use Rattle.rgo_chan.specs.Before.{ClosesAt, ReceivesAt}
use Rattle.rgo_chan.specs.Ready.{IsClosed}
use Rattle.rgo_chan.specs.Waits.{AcknowledgeThen, CloseThen, MayAcknowledge, MaySendAgain, ReceiveThen, SendThen}
use Rattle.rgo_chan.proofs.Carrying.{at_send_as, closes_as, receives_as, sends_as}
use Rattle.rgo_chan.proofs.Looking.{look_hold, look_saw, own_hold, own_post, own_saw}

-- a record that knows this of channels, and has made accesses
module _ {T : Setup} {list : ℕ → List Access} {m w : Me Record} {s t : ℕ} {d : Record} (p : Did T m s list d w t) where
  after : mine T w ≡ d
  after = p.made.after

  side_after : (mine T w).side ≡ d.side
  side_after = ap (λ (r : Record). r.side) after

  frame_after : (mine T w).frame ≡ d.frame
  frame_after = ap (λ (r : Record). r.frame) after

both_free : (c : SideRec) (at size n : ℕ) → c.hold ≡ Free → (looked at c size n).hold ≡ Free
both_free c at size n free = look_hold (with_size c at size) at n ∙ free

both_saw : (c : SideRec) (at size n : ℕ) → IsClosed n → (looked at c size n).saw ≡ Shut at
both_saw c at size n closed = look_saw (with_size c at size) at n closed

pub send_then : SendThen
send_then T at value c m s w t free here = record {
  not_ready = λ a. again 2 a.0 a.1 a.4;
  busy = λ k a. ⊎_elim (λ b. again 2 b.0 k b.2) (λ b. again 3 b.0 b.1 b.5) a;
  offered = λ a. record {
    free = ap (λ (r : SideRec). r.hold) (side_after a.6);
    own = ap (λ (r : SideRec). r.post) (side_after a.6);
    here = record {
      w = here.here.here.w;
      ws = here.here.here.ws;
      frames = ap (λ (r : Record). r.frame.frames) (after a.6) ∙ here.here.here.frames;
      instr = here.here.here.instr;
      cur = here.here.here.cur;
      to = here.to;
      from = here.here.channel ∷ here.sent ∷ [];
      removes = here.here.removes;
      is = here.here.here.is;
    };
  };
  trap = λ e a. (sends_as (mine T w) (frame_after a.5) here, ap (λ (r : SideRec). r.saw) (side_after a.5) ∙ both_saw c.side at a.1 a.2 a.4);
}
  where
    again : {list : ℕ → List Access} (k size n : ℕ) (p : Did T m s list (waited k c (looked at c.side size n)) w t) → MaySendAgain T (mine T w) at value
    again k size n p = record {
      free = ap (λ (r : SideRec). r.hold) (side_after p) ∙ both_free c.side at size n free;
      here = sends_as (mine T w) (frame_after p) here;
    }

pub receive_then : ReceiveThen
receive_then T at c m s w t free here = record {
  not_ready = λ a. again 2 a.0 a.1 a.4;
  busy = λ k a. ⊎_elim (λ b. again 2 b.0 k b.2) (λ b. again 3 b.0 b.1 b.5) a;
}
  where
    again : {list : ℕ → List Access} (k size n : ℕ) (p : Did T m s list (waited k c (looked at c.side size n)) w t)
        → ((mine T w).side.hold ≡ Free) × ReceivesAt T (mine T w) at
    again k size n p = (
      ap (λ (r : SideRec). r.hold) (side_after p) ∙ both_free c.side at size n free,
      receives_as (mine T w) (frame_after p) here,
    )

pub close_then : CloseThen
close_then T at c m s w t free here = record {
  busy = λ k a. ⊎_elim (λ b. again 1 k b.1) (λ b. again 2 b.0 b.4) a;
  trap = λ e a. (closes_as (mine T w) (frame_after a.4) here, ap (λ (r : SideRec). r.saw) (side_after a.4) ∙ look_saw c.side at a.1 a.3);
}
  where
    again : {list : ℕ → List Access} (k n : ℕ) (p : Did T m s list (waited k c (with_look c.side at n)) w t)
        → ((mine T w).side.hold ≡ Free) × ClosesAt T (mine T w) at
    again k n p = (
      ap (λ (r : SideRec). r.hold) (side_after p) ∙ (look_hold c.side at n ∙ free),
      closes_as (mine T w) (frame_after p) here,
    )

pub acknowledge_then : AcknowledgeThen
acknowledge_then T at c m s w t free own here = record {
  not_ready = λ a. again 1 a.0 a.4;
  busy = λ k a. ⊎_elim (λ b. again 1 k b.1) (λ b. again 2 b.0 b.4) a;
  trap = λ e a. (
    at_send_as (mine T w) (frame_after a.5) here,
    ap (λ (r : SideRec). r.saw) (side_after a.5) ∙ own_saw c.side at a.1 a.3 a.4,
  );
}
  where
    again : {list : ℕ → List Access} (k n : ℕ) (p : Did T m s list (waited k c (with_own_look c.side at n)) w t)
        → MayAcknowledge T (mine T w) at
    again k n p = record {
      free = ap (λ (r : SideRec). r.hold) (side_after p) ∙ (own_hold c.side at n ∙ free);
      own = ap (λ (r : SideRec). r.post) (side_after p) ∙ (own_post c.side at n ∙ own);
      here = at_send_as (mine T w) (frame_after p) here;
    }
