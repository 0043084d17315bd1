-- An action that touches nothing but words is a local step: its definition and that of a quiet step compute the same word.
use Rattle.std.proofs.Common.{◌≡◌, ◌≤◌, ℕ, List, [], ◌∷◌, Option, Some, refl, sym, ap, ◌∙◌, subst, length}
use Rattle.std.specs.Option.{option_map, option_map_or}
use Rattle.rgo_sound.specs.Code.Code.{Branch, Call, Code, CodeOp, Do, Go, Jump, Print, Return}
use Rattle.rgo_sound.specs.Code.Erasure.{erased_op}
use Rattle.rgo_core.specs.Core.{Setup}
use Rattle.rgo_core.specs.Records.{Record, instructed, ticked}
use Rattle.rgo_core.specs.Frames.steps.Actions.{after_action}
use Rattle.rgo_core.specs.Frames.steps.Local.{local_op}
use Rattle.rgo_core.specs.Frames.shown.Operators.{computed}
use Rattle.rgo_core.specs.Frames.shown.WordFrames.{WordFrame, word_going, words_of}
use Rattle.rgo_core_steps.proofs.record_steps.After.{position_by}
use Rattle.rgo_core_steps.specs.After.{Position, acting, given}
use Rattle.rgo_core_steps.specs.Seats.{SettlesBy, settled_by}
use Rattle.rgo_sound.specs.Machine.Limits.{deepest}
use Rattle.rgo_stack.specs.Stacks.{words_from}
use Rattle.rgo_sound.specs.Tac.Code as tac
use Rattle.rgo_sound.specs.Tac.Ops.{operation_of}
use Rattle.rgo_sound.specs.Typed.declared.actions.Action.{Action}
use Rattle.rgo_body.specs.Bodies.{BodyIsReady, frames_of_body}
use Rattle.rgo_body.specs.Programs.{CompactProgram}
use Rattle.rgo_body.specs.Shows.{BodyShows, SideShows}
use Rattle.rgo_body.specs.declared.bodies.Body.{Body}
use Rattle.rgo_body.specs.declared.bodies.Side.{Side}
use Rattle.rgo_body.specs.declared.bodies.Side.TheVariants as side
use Rattle.rgo_body.specs.declared.nexts.Next.{Next}
use Rattle.rgo_body.proofs.LoopRuns.{few_frames}
use Rattle.rgo_body.proofs.Showing.{At, at, like_shown, none_owed}
use Rattle.rgo_body.proofs.Stepping.{StepIs, local_is, not_exit, step_is}

-- the frames after it
computes_to : (code : Code) (w : WordFrame) (ws : List WordFrame) (op : CodeOp) (to : Option ℕ) (action : Action) (from : List ℕ) (word : ℕ)
    → erased_op op ≡ tac.Do to action from → computed action (words_of w from) ≡ Some word
    → local_op code w ws op ≡ Some (word_going w (given op) word ∷ ws)
computes_to code w ws (Do t a f removes) to action from word e does =
    ap (option_map (λ n. word_going w t n ∷ ws))
    (subst (λ (x : Action × List ℕ). computed x.0 (words_of w x.1) ≡ Some word) (sym same) does)
  where
    same : ◌≡◌ {A = Action × List ℕ} (a, f) (action, from)
    same = cc
computes_to code w ws (Call to n from passes protects removes) t a f word e does = cc
computes_to code w ws (Go n from passes removes) t a f word e does = cc
computes_to code w ws (Print pieces from removes) t a f word e does = cc
computes_to code w ws (Jump target removes) t a f word e does = cc
computes_to code w ws (Branch test target removes other otherwise) t a f word e does = cc
computes_to code w ws (Return value) t a f word e does = cc

module _ (T : Setup) (p : CompactProgram) (b d : Body) (g : ℕ) (c : Record) (next : Next) (word : ℕ) (s : BodyShows T p b c) (ready : BodyIsReady p b next)
    (to : Option ℕ) (action : Action) (from : List ℕ) (op : operation_of next.op ≡ tac.Do to action from)
    (does : computed action (words_from (frames_of_body b) from) ≡ Some word) (rests : b.side ≡ side.AtRest)
    (acted : BodyShows T p d (acting T.code c word)) where
  abbrev pub x : At T.code c next
  x = at T p b c next s ready.is_next

  none : c.frame.holder.duties ≡ []
  none = none_owed T p b c next s ready

  words : words_from (frames_of_body b) from ≡ words_of x.w from
  words = ap (λ fs. words_from fs from) (sym s.frames ∙ x.are)

  step : StepIs T g c (after_action T.code c.frame x.w x.ws x.instr (given x.instr.op) word)
  step = step_is T g c (after_action T.code c.frame x.w x.ws x.instr (given x.instr.op) word)
      (subst (λ (k : Side). SideShows k c.side c.frame.holder.offer) rests s.side).0 none
      (local_is T.code c.frame x.w x.ws x.instr (word_going x.w (given x.instr.op) word ∷ x.ws) none x.are x.cur
      (computes_to T.code x.w x.ws x.instr.op to action from word (x.op ∙ op)
      (subst (λ ws. computed action ws ≡ Some word) words does)))
      (not_exit g (word_going x.w (given x.instr.op) word) x.ws)
      (subst (λ n. n ≤ deepest) (ap length (sym s.frames ∙ x.are)) (few_frames p.compact b.stack s.belongs))

  acting_is : acting T.code c word ≡ record c { clock = ticked c.clock; frame = after_action T.code c.frame x.w x.ws x.instr (given x.instr.op) word }
  acting_is =
      ap (λ (q : Option Position). option_map_or (λ (q : Position). record c {
        clock = ticked c.clock;
        frame = after_action T.code c.frame q.w q.ws q.instr (given q.instr.op) word;
      }) q c) (position_by T.code c x.w x.ws x.instr x.are x.cur)

  pub computes_shows : SettlesBy T g 1 c × BodyShows T p d (settled_by T g 1 c)
  computes_shows = (
    step.settles,
    subst (BodyShows T p d) (sym step.is)
        (like_shown T p d (record c { clock = ticked c.clock; frame = after_action T.code c.frame x.w x.ws x.instr (given x.instr.op) word })
        (record c { clock = instructed c.clock; frame = after_action T.code c.frame x.w x.ws x.instr (given x.instr.op) word })
        (subst (BodyShows T p d) acting_is acted)
        (record {
          frame = refl;
          side = refl;
          fills = refl;
          reserved = refl;
          make = refl;
          claim = refl;
          give = refl;
          share = refl;
          owed = refl;
          prints = refl;
          refused = refl;
        })),
  )
