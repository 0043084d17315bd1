-- A goroutine that could not continue at a channel is blocked, where its words are still what it found. What it found lasts.
use Rattle.std.proofs.Common.{◌≡◌, ◌+◌, ℕ, List, ◌++◌, Option, ap, sym, ◌∙◌, slice_index}
use Rattle.rgo_core.specs.Channels.Records.{ChannelRec as SideRec}
use Rattle.rgo_core.specs.Rule.declared.accesses.Access.{Access}
use Rattle.rgo_core.specs.Rule.declared.accesses.Kind.{Kind}
use Rattle.rgo_core.specs.Rule.declared.accesses.Kind.TheVariants.{Load, LoadControl, LockChannel}
use Rattle.rgo_core.specs.Core.{Setup}
use Rattle.rgo_core.specs.Records.{Record}
use Rattle.rgo_core_steps.specs.Grown.{Found}
use Rattle.rgo_core_steps.proofs.accesses.Growing.{found_left, found_right}
use Rattle.rgo_chan.proofs.Carrying.{at_as, receives_as, sends_as, there_as}
use Rattle.rgo_chan.proofs.Waiting.{lock_waits, nil_receive_waits, nil_send_waits, offer_waits, receive_waits, send_waits}
use Rattle.rgo_acts.specs.Waits.{FoundNow, HasChanged, IsLocked, Loses, LosesBlocked, Offers, Receives, ReceivesOnNil, Sends, SendsOnNil, WaitsAtChannel, WaitsBlocked}

found_now : (words : List ℕ) (g : ℕ) (es : List Access) (kind : Kind) (i n : ℕ) → FoundNow words g es → Found g es kind i n
    → slice_index words i ≡ n
found_now words g es kind i n now f = ap (slice_index words) (sym f.word) ∙ (sym (now f.place f.access f.there f.own) ∙ f.found)

pub waits_blocked : WaitsBlocked
waits_blocked T g c x es place now (Sends at value size n is here size_is control_is full) =
    send_waits T g c x at value size n here (found_now x.words g es Load (at + 1) size now size_is) (found_now x.words g es LoadControl at n now control_is) full
waits_blocked T g c x es place now (Receives at size n is here size_is control_is empty) =
    receive_waits T g c x at size n here (found_now x.words g es Load (at + 1) size now size_is) (found_now x.words g es LoadControl at n now control_is) empty
waits_blocked T g c x es place now (SendsOnNil value is before) = nil_send_waits T g c x value before
waits_blocked T g c x es place now (ReceivesOnNil is before) = nil_receive_waits T g c x before
waits_blocked T g c x es place now (Offers at n is own control_is shut one) =
    offer_waits T g c x at n own (found_now x.words g es LoadControl at n now control_is) shut one

pub loses_blocked : LosesBlocked
loses_blocked T g c x es at now (IsLocked n here control_is odd) = lock_waits T g c x at n here (found_now x.words g es LoadControl at n now control_is) odd
loses_blocked T g c x es at now (HasChanged n k here control_is lock other) =
    absurd (other (sym (found_now x.words g es LockChannel at k now lock) ∙ found_now x.words g es LoadControl at n now control_is))

-- ---- more accesses

module _ (T : Setup) (g : ℕ) (c : Record) (xs ys : List Access) where
  pub waits_right : (place : Option ℕ) → WaitsAtChannel T g c ys place → WaitsAtChannel T g c (xs ++ ys) place
  waits_right place (Sends at value size n is here size_is control_is full) =
      Sends at value size n is here (found_right g xs ys Load (at + 1) size size_is) (found_right g xs ys LoadControl at n control_is) full
  waits_right place (Receives at size n is here size_is control_is empty) =
      Receives at size n is here (found_right g xs ys Load (at + 1) size size_is) (found_right g xs ys LoadControl at n control_is) empty
  waits_right place (SendsOnNil value is before) = SendsOnNil value is before
  waits_right place (ReceivesOnNil is before) = ReceivesOnNil is before
  waits_right place (Offers at n is own control_is shut one) = Offers at n is own (found_right g xs ys LoadControl at n control_is) shut one

  pub waits_left : (place : Option ℕ) → WaitsAtChannel T g c xs place → WaitsAtChannel T g c (xs ++ ys) place
  waits_left place (Sends at value size n is here size_is control_is full) =
      Sends at value size n is here (found_left g xs ys Load (at + 1) size size_is) (found_left g xs ys LoadControl at n control_is) full
  waits_left place (Receives at size n is here size_is control_is empty) =
      Receives at size n is here (found_left g xs ys Load (at + 1) size size_is) (found_left g xs ys LoadControl at n control_is) empty
  waits_left place (SendsOnNil value is before) = SendsOnNil value is before
  waits_left place (ReceivesOnNil is before) = ReceivesOnNil is before
  waits_left place (Offers at n is own control_is shut one) = Offers at n is own (found_left g xs ys LoadControl at n control_is) shut one

  pub loses_right : (at : ℕ) → Loses T g c ys at → Loses T g c (xs ++ ys) at
  loses_right at (IsLocked n here control_is odd) = IsLocked n here (found_right g xs ys LoadControl at n control_is) odd
  loses_right at (HasChanged n k here control_is lock other) =
      HasChanged n k here (found_right g xs ys LoadControl at n control_is) (found_right g xs ys LockChannel at k lock) other

  pub loses_left : (at : ℕ) → Loses T g c xs at → Loses T g c (xs ++ ys) at
  loses_left at (IsLocked n here control_is odd) = IsLocked n here (found_left g xs ys LoadControl at n control_is) odd
  loses_left at (HasChanged n k here control_is lock other) =
      HasChanged n k here (found_left g xs ys LoadControl at n control_is) (found_left g xs ys LockChannel at k lock) other

-- ---- another record that has the same frames and knows the same of channels

module _ (T : Setup) (g : ℕ) (c d : Record) (es : List Access) (frame : d.frame ≡ c.frame) (side : d.side ≡ c.side) where
  post : d.side.post ≡ c.side.post
  post = ap (λ (k : SideRec). k.post) side

  pub waits_as : (place : Option ℕ) → WaitsAtChannel T g c es place → WaitsAtChannel T g d es place
  waits_as place (Sends at value size n is here size_is control_is full) = Sends at value size n is (sends_as d frame here) size_is control_is full
  waits_as place (Receives at size n is here size_is control_is empty) = Receives at size n is (receives_as d frame here) size_is control_is empty
  waits_as place (SendsOnNil value is b) = SendsOnNil value is (record {
    to = b.to;
    from = b.from;
    sent = b.sent;
    removes = b.removes;
    here = at_as d frame b.here;
    on = b.on;
    word = b.word;
  })
  waits_as place (ReceivesOnNil is b) =
      ReceivesOnNil is (record { to = b.to; from = b.from; removes = b.removes; here = at_as d frame b.here; on = b.on })
  waits_as place (Offers at n is own control_is shut one) = Offers at n is (post ∙ own) control_is shut one

  pub loses_as : (at : ℕ) → Loses T g c es at → Loses T g d es at
  loses_as at (IsLocked n here control_is odd) = IsLocked n (there_as d frame post here) control_is odd
  loses_as at (HasChanged n k here control_is lock other) = HasChanged n k (there_as d frame post here) control_is lock other
