-- What a sender's record sends: the frame in the state and that of the record are before the same instruction.
use Rattle.std.proofs.Common.{◌≡◌, ℕ, List, [], ◌∷◌, Option, sym, ap, ◌∙◌, subst, Contains}
use Rattle.std.proofs.lemmas.Option.{same_Some}
use Rattle.rgo_sound.proofs.Places.{contains_here, contains_there, head_is}
use Rattle.rgo_sound.specs.Typed.declared.actions.Action.TheVariants.{Send}
use Rattle.rgo_sound.specs.Code.Code.{CodeInstr, CodeOp, Do}
use Rattle.rgo_sound.specs.Code.Erasure.{erased_op}
use Rattle.rgo_sound.specs.RegionMachine.Owed.{current}
use Rattle.rgo_sound.specs.RegionMachine.States.{frames_in}
use Rattle.rgo_sound.specs.Tac.Flow.{reads}
use Rattle.rgo_sound.specs.Tac.Frames.{TacFrame, value_at}
use Rattle.rgo_core_frames.specs.goroutines.Meetings.{SentLaw}
use Rattle.rgo_core_frames.specs.shown.WordFrames.{frame_word}
use Rattle.rgo_core_frames.specs.shown.Words.{Shows}

same_sent : (to to' : Option ℕ) (channel sent channel' sent' : ℕ) (removes removes' : List ℕ)
    → Do to Send (channel ∷ sent ∷ []) removes ≡ Do to' Send (channel' ∷ sent' ∷ []) removes' → sent ≡ sent'
same_sent to to' channel sent channel' sent' removes removes' e = cc

pub sent_law : SentLaw
sent_law x to channel sent removes o is y =
    subst (λ v. Shows x.here.addresses (value_at y.frame v) (frame_word x.w sent)) same
    (subst (λ (f : TacFrame). Shows x.here.addresses (value_at f sent) (frame_word x.w sent)) frame_is
    (x.before.shown sent (subst (λ (op : CodeOp). Contains (reads (erased_op op)) sent) (sym is)
    (contains_there channel (sent ∷ []) sent (contains_here sent [])))))
  where
    frame_is : x.before.frame ≡ y.frame
    frame_is = head_is x.before.frame y.frame x.before.callers y.callers (sym (ap frames_in x.before.at) ∙ y.at)

    instr_is : x.instr ≡ y.instr
    instr_is = same_Some x.instr y.instr (sym x.before.cur ∙ ap (current x.here.code) frame_is ∙ y.cur)

    same : sent ≡ y.sent
    same = same_sent to y.to channel sent y.channel y.sent removes y.removes
        (sym is ∙ ap (λ (i : CodeInstr). i.op) instr_is ∙ y.is)
