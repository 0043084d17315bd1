-- A goroutine stays before its operation while only its clock and what it knows of channels change. Everything that an operation asks for
-- is a matter of the frames, which no load and no exchange touches.
use Rattle.std.proofs.Common.{◌≡◌, ◌≢◌, ◌-◌, ◌+◌, ℕ, suc, List, [], ◌∷◌, Option, refl, ap, sym, ◌∙◌, inl, inr, arith}
use Rattle.rgo_sound.specs.Code.Code.{Code, CodeOp}
use Rattle.rgo_core.specs.Channels.Records.{ChannelRec as SideRec}
use Rattle.rgo_core.specs.Frames.Records.{FramesRec as FrameRec}
use Rattle.rgo_core.specs.Memory.Words.{base as base_of}
use Rattle.rgo_sound.specs.Typed.declared.actions.Action.TheVariants.{Close, Recv, Send}
use Rattle.rgo_sound.specs.Typed.declared.actions.Action.{Action}
use Rattle.rgo_sound.specs.WellFormed.TypeRules.{int}
use Rattle.std.specs.Option.{option_map_or}
use Rattle.rgo_core.specs.ties.Bounds.{target_type}
use Rattle.rgo_core.specs.ties.AtChannels.{IsAtChannel, Operates}
use Rattle.rgo_core.specs.moves.Commits.{IsAtSend}
use Rattle.rgo_core.specs.Core.{Setup, layout}
use Rattle.rgo_core.specs.Next.{IsAtOp}
use Rattle.rgo_core.specs.Records.{Record, accesses}
use Rattle.rgo_core_steps.specs.Accesses.{given_type}
use Rattle.rgo_core_steps.specs.After.{Position, acknowledging, committing, given, position_in}
use Rattle.rgo_core_steps.specs.Calls.{accessing, waited}
use Rattle.rgo_core_steps.proofs.record_steps.After.{acknowledging_is, committing_is}
use Rattle.rgo_chan.specs.Before.{ClosesAt, IsBeforeClose, IsBeforeReceive, IsBeforeSend, ReceivesAt, SendsAt, control_of_channel}

module _ {c : Record} (d : Record) (same : d.frame ≡ c.frame) where
  abbrev pub at_as : {code : Code} {op : CodeOp} → IsAtOp code c op → IsAtOp code d op
  at_as a = record {
    w = a.w;
    ws = a.ws;
    frames = ap (λ (f : FrameRec). f.frames) same ∙ a.frames;
    fn = a.fn;
    in_fn = a.in_fn;
    instr = a.instr;
    cur = a.cur;
    is = a.is;
    none = ap (λ (f : FrameRec). f.holder.duties) same ∙ a.none;
    free = ap (λ (f : FrameRec). f.holder.offer) same ∙ a.free;
  }

  abbrev pub operates_as : {T : Setup} {to : Option ℕ} {action : Action} {others : List ℕ} {at : ℕ} → Operates T c to action others at
      → Operates T d to action others at
  operates_as a = record {
    channel = a.channel;
    removes = a.removes;
    here = at_as a.here;
    of_channel = a.of_channel;
    address = a.address;
    points = a.points;
    lies = a.lies;
  }

  abbrev pub sends_as : {T : Setup} {at value : ℕ} → SendsAt T c at value → SendsAt T d at value
  sends_as a = record { to = a.to; sent = a.sent; here = operates_as a.here; word = a.word }

  abbrev pub receives_as : {T : Setup} {at : ℕ} → ReceivesAt T c at → ReceivesAt T d at
  receives_as a = (a.0, operates_as a.1)

  abbrev pub closes_as : {T : Setup} {at : ℕ} → ClosesAt T c at → ClosesAt T d at
  closes_as a = (a.0, operates_as a.1)

  abbrev pub at_send_as : {T : Setup} → IsAtSend T c → IsAtSend T d
  at_send_as a = record {
    w = a.w;
    ws = a.ws;
    frames = ap (λ (f : FrameRec). f.frames) same ∙ a.frames;
    instr = a.instr;
    cur = a.cur;
    to = a.to;
    from = a.from;
    removes = a.removes;
    is = a.is;
  }

-- ---- it is at the channel

module _ {T : Setup} {c : Record} {at : ℕ} where
  pub sends_there : {value : ℕ} → SendsAt T c at value → IsAtChannel T c at
  sends_there a = inl (a.to, Send, a.sent ∷ [], a.here)

  pub receives_there : ReceivesAt T c at → IsAtChannel T c at
  receives_there a = inl (a.0, Recv, [], a.1)

  pub closes_there : ClosesAt T c at → IsAtChannel T c at
  closes_there a = inl (a.0, Close, [], a.1)

-- the variable to which the operation writes a word stays the same
pub type_as : (T : Setup) (c d : Record) → d.frame ≡ c.frame → given_type T d ≡ given_type T c
type_as T c d same =
    ap (λ (f : FrameRec). option_map_or (λ (p : Position). target_type T p.w (given p.instr.op)) (position_in T.code f.frames) int) same

-- it stays there
pub there_as : {T : Setup} {c : Record} {at : ℕ} (d : Record) → d.frame ≡ c.frame → d.side.post ≡ c.side.post → IsAtChannel T c at
    → IsAtChannel T d at
there_as d same post (inl a) = inl (a.0, a.1, a.2, operates_as d same a.3)
there_as d same post (inr e) = inr (post ∙ e)

-- ---- a channel that is not nil

some_address : (channel : ℕ) → channel ≢ 0 → channel ≡ suc (channel - 1)
some_address channel some = omega arith

module _ {T : Setup} {c : Record} {base channel : ℕ} (first : base ≡ base_of (layout T)) (some : channel ≢ 0) where
  pub sends_at : {value : ℕ} → IsBeforeSend T c channel value → SendsAt T c (control_of_channel base channel) value
  sends_at a = record {
    to = a.to;
    sent = a.sent;
    here = record {
      channel = a.from;
      removes = a.removes;
      here = a.here;
      of_channel = inr (inl refl);
      address = channel - 1;
      points = a.on ∙ some_address channel some;
      lies = ap (λ b. b + (channel - 1)) first;
    };
    word = a.word;
  }

  pub receives_at : IsBeforeReceive T c channel → ReceivesAt T c (control_of_channel base channel)
  receives_at a = (
    a.to,
    record {
      channel = a.from;
      removes = a.removes;
      here = a.here;
      of_channel = inl refl;
      address = channel - 1;
      points = a.on ∙ some_address channel some;
      lies = ap (λ b. b + (channel - 1)) first;
    },
  )

  pub closes_at : IsBeforeClose T c channel → ClosesAt T c (control_of_channel base channel)
  closes_at a = (
    a.to,
    record {
      channel = a.from;
      removes = a.removes;
      here = a.here;
      of_channel = inr (inr refl);
      address = channel - 1;
      points = a.on ∙ some_address channel some;
      lies = ap (λ b. b + (channel - 1)) first;
    },
  )

-- ---- after a commit nothing is left of what it knew of channels

module _ {T : Setup} {c : Record} where
  pub committed_as : {to : Option ℕ} {action : Action} {others : List ℕ} {at : ℕ} → Operates T c to action others at
      → (k : ℕ) (side : SideRec) (word : ℕ) → committing T.code (waited k c side) word ≡ committing T.code (accessing k c) word
  committed_as a k side word =
      committing_is (operates_as (waited k c side) refl a) word ∙ sym (committing_is (operates_as (accessing k c) refl a) word)

  pub committed_counts : {to : Option ℕ} {action : Action} {others : List ℕ} {at : ℕ} → Operates T c to action others at
      → (word : ℕ) → accesses (committing T.code c word) ≡ suc (accesses c)
  committed_counts a word = ap accesses (committing_is a word)

  pub acknowledged_as : IsAtSend T c → (k : ℕ) (side : SideRec)
      → acknowledging T.code (waited k c side) ≡ acknowledging T.code (accessing k c)
  acknowledged_as a k side =
      acknowledging_is (at_send_as (waited k c side) refl a) ∙ sym (acknowledging_is (at_send_as (accessing k c) refl a))

  pub acknowledged_counts : IsAtSend T c → accesses (acknowledging T.code c) ≡ suc (accesses c)
  acknowledged_counts a = ap accesses (acknowledging_is a)
