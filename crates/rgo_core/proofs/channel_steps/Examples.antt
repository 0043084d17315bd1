-- Records that are at a channel, and some that are not.
use Rattle.std.proofs.Common.{◌≡◌, ℕ, suc, ◌+◌, List, [], ◌∷◌, None, refl, ap, ◌∙◌, inl, inr, arith}
use Rattle.rgo_core_frames.specs.goroutines.Opening.{no_record}
use Rattle.rgo_core_memory.specs.Words.{base}
use Rattle.rgo_sound.specs.Machine.declared.limits.Limits.{Limits}
use Rattle.rgo_sound.specs.Machine.declared.limits.Sizes.{Sizes}
use Rattle.rgo_sound.specs.RegionMachine.Examples.{int_slot, main_of, plain_instr}
use Rattle.rgo_sound.specs.Code.Code.{CodeInstr, Do}
use Rattle.rgo_sound.specs.RegionMachine.Owed.{current}
use Rattle.std.proofs.lemmas.Option.{same_Some}
use Rattle.rgo_sound.specs.Typed.declared.actions.Action.TheVariants.{Send}
use Rattle.rgo_core_frames.specs.shown.WordFrames.{WordFrame, bare, frame_word}
use Rattle.rgo_core.specs.ties.AtChannels.{IsAtChannel, Operates}
use Rattle.rgo_core.specs.examples.Channels.{AtChannelExamples, offered_record, sending, with_words}
use Rattle.rgo_core.specs.Core.{Setup, layout}
use Rattle.rgo_core.specs.Records.{begins_with}
use Rattle.rgo_sound.proofs.Places.{head_is, no_cons}

operates : (sizes : Sizes) (limits : Limits) → Operates (sending sizes limits) (with_words (6 ∷ 3 ∷ [])) None Send (1 ∷ [])
    (base (layout (sending sizes limits)) + 5)
operates sizes limits = record {
  channel = 0;
  removes = [];
  here = record {
    w = record { function = 0; next = 0; variables = 6 ∷ 3 ∷ [] };
    ws = [];
    frames = refl;
    fn = main_of (int_slot ∷ int_slot ∷ []) (plain_instr (Do None Send (0 ∷ 1 ∷ []) []) ∷ []);
    in_fn = refl;
    instr = plain_instr (Do None Send (0 ∷ 1 ∷ []) []);
    cur = refl;
    is = refl;
    none = refl;
    free = refl;
  };
  of_channel = inr (inl refl);
  address = 5;
  points = refl;
  lies = refl;
}

zero_suc : (n : ℕ) → 0 ≡ suc n → ⊥
zero_suc n e = omega (arith, e)

channel_of : (n m : ℕ) (ns ms removes others : List ℕ) → Do None Send (n ∷ ns) removes ≡ Do None Send (m ∷ ms) others → n ≡ m
channel_of n m ns ms removes others e = cc

abbrev nil_frame : WordFrame
nil_frame = record { function = 0; next = 0; variables = 0 ∷ 3 ∷ [] }

abbrev sends : CodeInstr
sends = plain_instr (Do None Send (0 ∷ 1 ∷ []) [])

pub examples : AtChannelExamples
examples = record {
  operates = operates;
  at_channel = λ sizes limits. inl (None, Send, 1 ∷ [], operates sizes limits);
  at_nil = λ sizes limits control a. nil a;
  sends = λ sizes limits. record {
    w = record { function = 0; next = 0; variables = 6 ∷ 3 ∷ [] };
    ws = [];
    frames = refl;
    instr = plain_instr (Do None Send (0 ∷ 1 ∷ []) []);
    cur = refl;
    to = None;
    from = 0 ∷ 1 ∷ [];
    removes = [];
    is = refl;
  };
  offers = λ T. inr refl;
  elsewhere = λ T. by T;
  returned = λ T control. gone T control;
  sends_nothing = λ T a. no_cons a.w a.ws a.frames;
}
  where
    by : (T : Setup) → IsAtChannel T offered_record 701 → ⊥
    by T (inl a) = no_cons a.3.here.w a.3.here.ws a.3.here.frames
    by T (inr e) = let q : ◌≡◌ {A = ℕ} 700 701 = cc in omega (arith, q)

    gone : (T : Setup) (control : ℕ) → IsAtChannel T (begins_with no_record) control → ⊥
    gone T control (inl a) = no_cons a.3.here.w a.3.here.ws a.3.here.frames
    gone T control (inr e) = cc

    nil : {sizes : Sizes} {limits : Limits} {control : ℕ}
        → Operates (sending sizes limits) (with_words (0 ∷ 3 ∷ [])) None Send (1 ∷ []) control → ⊥
    nil {sizes} {limits} a =
        let w = head_is nil_frame a.here.w [] a.here.ws a.here.frames in
        let i = same_Some sends a.here.instr
        (ap (λ (f : WordFrame). current (sending sizes limits).code (bare f)) w ∙ a.here.cur) in
        let channel = channel_of 0 a.channel (1 ∷ []) (1 ∷ []) [] a.removes (ap (λ (j : CodeInstr). j.op) i ∙ a.here.is) in
        zero_suc a.address ((λ j. frame_word (w j) (channel j)) ∙ a.points)
