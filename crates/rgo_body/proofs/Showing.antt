-- A body shows a record after a step, given what has changed of both. The general part of all proofs here: the two sides are compared
-- field by field, and a field that neither changes is done at once.
use Rattle.std.proofs.Common.{◌≡◌, ◌⊎◌, inl, inr, if◌then◌else◌, ℕ, List, [], ◌∷◌, ◌++◌, Some, refl, sym, ap, ◌∙◌, subst, length, map, slice_get, false}
use Rattle.std.proofs.lemmas.List.{append-nil}
use Rattle.rgo_sound.specs.Code.Code.{Branch, Call, Code, CodeInstr, CodeOp, Do, Go, Jump, Print, Return}
use Rattle.rgo_sound.specs.Code.Erasure.{erased_op}
use Rattle.rgo_sound.specs.Code.Lists.{otherwise_in, otherwise_of, passes_in, passes_of, protects_in, protects_of, removes_in, removes_of}
use Rattle.rgo_core.specs.Core.{Setup}
use Rattle.rgo_core.specs.Records.{ClockRec, Record}
use Rattle.rgo_core.specs.Channels.Records.{ChannelRec as SideRec}
use Rattle.rgo_core.specs.Frames.shown.WordFrames.{WordFrame, bare, bare_all, word_going}
use Rattle.rgo_core.specs.Memory.Records.{Fill, Rec as MemoryRec}
use Rattle.rgo_core_steps.specs.After.{given}
use Rattle.rgo_holding.specs.Holds.{IsHoldingOf}
use Rattle.rgo_holding.specs.declared.holding.Holding.{Holding}
use Rattle.rgo_sound.specs.RegionMachine.Instructions.{holder_after}
use Rattle.rgo_sound.specs.RegionMachine.Owed.{current, current_in, code_function, next_duties}
use Rattle.rgo_sound.specs.RegionMachine.States.{Duty, Holder, Offer, Remove}
use Rattle.rgo_stack.specs.Stacks.{Belongs, Stack, frames_of_stack}
use Rattle.rgo_stack.specs.Steps.{after_word}
use Rattle.rgo_sound.specs.Tac.Ops.{operation_of}
use Rattle.rgo_body.specs.Bodies.{BodyIsReady, frames_of_body, owed_by_body}
use Rattle.rgo_body.specs.Nexts.{IsDo, IsGoOp, IsNextOf, IsPrint, removes_at, action_target}
use Rattle.rgo_body.specs.Programs.{CompactProgram}
use Rattle.rgo_body.specs.Queues.{Queue}
use Rattle.rgo_body.specs.Shows.{IsMemoryCalm, LikeShown, BodyShows, SideShows}
use Rattle.rgo_body.specs.Steps.{BodyContinues}
use Rattle.rgo_body.specs.declared.bodies.Body.{Body}
use Rattle.rgo_body.specs.declared.nexts.Next.{Next}

-- ---- records that look the same to every body

pub like_shown : LikeShown
like_shown T p b c d s like = record {
  code = s.code;
  belongs = s.belongs;
  frames = ap (λ (f : _). f.frames) like.frame ∙ s.frames;
  holds = subst (λ (h : Holder). IsHoldingOf T.sizes.regions b.holding h d.memory.fills) (sym (ap (λ (f : _). f.holder) like.frame))
      (subst (λ (fills : List Fill). IsHoldingOf T.sizes.regions b.holding c.frame.holder fills) (sym like.fills) s.holds);
  reserved = like.reserved ∙ s.reserved;
  owes = ap (λ (f : _). f.holder.duties) like.frame ∙ s.owes;
  side = subst (λ (o : Offer). SideShows b.side d.side o) (sym (ap (λ (f : _). f.holder.offer) like.frame))
      (subst (λ (k : SideRec). SideShows b.side k c.frame.holder.offer) (sym like.side) s.side);
  calm = record {
    make = like.make ∙ s.calm.make;
    claim = like.claim ∙ s.calm.claim;
    give = like.give ∙ s.calm.give;
    none = like.owed ∙ s.calm.none;
  };
  share = like.share ∙ s.share;
  prints = like.prints ∙ s.prints;
  refused = like.refused ∙ s.refused;
}

-- a body that has taken memory shows what it showed
pub stays_shows : (T : Setup) (p : CompactProgram) (b : Body) (c : Record) (stack : Stack) (holding : Holding) (queue : Queue) → BodyShows T p b c
    → frames_of_stack stack ≡ frames_of_body b → Belongs p.compact stack → queue.duties ≡ b.queue.duties
    → IsHoldingOf T.sizes.regions holding c.frame.holder c.memory.fills
    → BodyShows T p (record b { stack = stack; holding = holding; queue = queue }) c
stays_shows T p b c stack holding queue s frames belongs same holds = record {
  code = s.code;
  belongs = belongs;
  frames = s.frames ∙ sym frames;
  holds = holds;
  reserved = s.reserved;
  owes = s.owes
      ∙ ap (λ l. l ++ (if b.is_expanded then [] else next_duties p.code (bare_all (frames_of_body b)))) (sym same)
      ∙ ap (λ fs. queue.duties ++ (if b.is_expanded then [] else next_duties p.code (bare_all fs))) (sym frames);
  side = s.side;
  calm = s.calm;
  share = s.share;
  prints = s.prints;
  refused = s.refused;
}

-- ---- instructions that leave regions alone, but for what is removed after them

abbrev pub went : Record → ClockRec → List WordFrame → List Duty → Record
went c k frames duties = record c {
  clock = k;
  frame = record { frames = frames; holder = record c.frame.holder { duties = duties } };
}

-- the frame, the callers and the instruction of the record that a body shows
pub record At (code : Code) (c : Record) (next : Next) : Type 0 where
  pub w : WordFrame
  pub ws : List WordFrame
  pub are : c.frame.frames ≡ w ∷ ws
  pub instr : CodeInstr
  pub cur : current code (bare w) ≡ Some instr
  pub op : erased_op instr.op ≡ operation_of next.op
  pub removes : removes_of instr.op ≡ removes_at next
  pub in_fn : code_function code w.function ≡ Some next.function
  pub passes : passes_of instr.op ≡ passes_in (slice_get next.function.body next.at)
  pub protects : protects_of instr.op ≡ protects_in (slice_get next.function.body next.at)
  pub otherwise : otherwise_of instr.op ≡ otherwise_in (slice_get next.function.body next.at)

pub current_is : (code : Code) (frames : List WordFrame) (next : Next) (n : IsNextOf code frames next)
    → current code (bare n.w) ≡ Some n.instr
current_is code frames next n =
    ap (λ f. current_in f n.w.next) n.in_fn ∙ ap (slice_get next.function.body) (sym n.at) ∙ n.is_instr

pub at : (T : Setup) (p : CompactProgram) (b : Body) (c : Record) (next : Next) → BodyShows T p b c → IsNextOf p.code (frames_of_body b) next
    → At T.code c next
at T p b c next s n = record {
  w = n.w;
  ws = n.ws;
  are = s.frames ∙ n.are;
  instr = n.instr;
  cur = ap (λ code. current code (bare n.w)) s.code ∙ current_is p.code (frames_of_body b) next n;
  op = n.op;
  removes = sym (ap removes_in n.is_instr);
  in_fn = ap (λ code. code_function code n.w.function) s.code ∙ n.in_fn;
  passes = sym (ap passes_in n.is_instr);
  protects = sym (ap protects_in n.is_instr);
  otherwise = sym (ap otherwise_in n.is_instr);
}

pub given_is : (op : CodeOp) → given op ≡ action_target (erased_op op)
given_is (Do to action from removes) = refl
given_is (Call to n from passes protects removes) = refl
given_is (Go n from passes removes) = refl
given_is (Print pieces from removes) = refl
given_is (Jump target removes) = refl
given_is (Branch test target removes other otherwise) = refl
given_is (Return value) = refl

-- what a body owes whose duties are these, and that has not looked at its next instruction yet
pub owes_first : (code : Code) (b : Body) (ds : List Duty) → b.queue.duties ≡ ds → b.is_expanded ≡ false
    → owed_by_body code b ≡ ds ++ next_duties code (bare_all (frames_of_body b))
owes_first code b ds queue not_yet =
    ap (λ l. l ++ (if b.is_expanded then [] else next_duties code (bare_all (frames_of_body b)))) queue
    ∙ ap (λ e. ds ++ (if e then [] else next_duties code (bare_all (frames_of_body b)))) not_yet

pub owes_next : (code : Code) (b : Body) → b.queue.duties ≡ [] → b.is_expanded ≡ false
    → owed_by_body code b ≡ next_duties code (bare_all (frames_of_body b))
owes_next code b empty not_yet = owes_first code b [] empty not_yet

pub none_owed : (T : Setup) (p : CompactProgram) (b : Body) (c : Record) (next : Next) → BodyShows T p b c → BodyIsReady p b next
    → c.frame.holder.duties ≡ []
none_owed T p b c next s ready =
    s.owes
    ∙ ap (λ l. l ++ (if b.is_expanded then [] else next_duties p.code (bare_all (frames_of_body b)))) ready.queue
    ∙ ap (λ e. if e then [] else next_duties p.code (bare_all (frames_of_body b))) ready.expanded

-- what an action or a print leaves of the holder
pub behind : (code : Code) (h : Holder) (w : WordFrame) (ws : List WordFrame) (op : CodeOp) (next : List _)
    → IsDo (erased_op op) ⊎ IsPrint (erased_op op)
    → holder_after code h (bare w) (bare_all ws) op next ≡ record h { duties = map Remove (removes_of op) ++ next_duties code next }
behind code h w ws (Do to action from removes) next k = refl
behind code h w ws (Print pieces from removes) next k = refl
behind code h w ws (Call to n from passes protects removes) next (inl k) = cc
behind code h w ws (Call to n from passes protects removes) next (inr k) = cc
behind code h w ws (Go n from passes removes) next (inl k) = cc
behind code h w ws (Go n from passes removes) next (inr k) = cc
behind code h w ws (Jump target removes) next (inl k) = cc
behind code h w ws (Jump target removes) next (inr k) = cc
behind code h w ws (Branch test target removes other otherwise) next (inl k) = cc
behind code h w ws (Branch test target removes other otherwise) next (inr k) = cc
behind code h w ws (Return value) next (inl k) = cc
behind code h w ws (Return value) next (inr k) = cc

-- and a start
pub behind_go : (code : Code) (h : Holder) (w : WordFrame) (ws : List WordFrame) (op : CodeOp) (next : List _)
    → IsGoOp (erased_op op)
    → holder_after code h (bare w) (bare_all ws) op next
    ≡ record h { pending = []; duties = map Remove (removes_of op) ++ next_duties code next }
behind_go code h w ws (Go n from passes removes) next k = refl
behind_go code h w ws (Do to action from removes) next k = cc
behind_go code h w ws (Print pieces from removes) next k = cc
behind_go code h w ws (Call to n from passes protects removes) next k = cc
behind_go code h w ws (Jump target removes) next k = cc
behind_go code h w ws (Branch test target removes other otherwise) next k = cc
behind_go code h w ws (Return value) next k = cc

-- what a body owes that has gone on
pub owed_behind : (p : CompactProgram) (b m : Body) (after : List WordFrame → List WordFrame) (removes : List ℕ)
    → BodyContinues p b m after removes → b.queue.duties ≡ []
    → owed_by_body p.code m ≡ map Remove removes ++ next_duties p.code (bare_all (frames_of_body m))
owed_behind p b m after removes goes none =
    ap (λ e. m.queue.duties ++ (if e then [] else next_duties p.code (bare_all (frames_of_body m)))) (ap (λ (x : Body). x.is_expanded) goes.rest)
    ∙ ap (λ ds. ds ++ next_duties p.code (bare_all (frames_of_body m)))
    (goes.queue ∙ ap (λ ds. map Remove removes ++ ds) none ∙ append-nil (map Remove removes))

-- ---- one that continues. Its counts, and what it knows of channels, are d's.

module _ (T : Setup) (p : CompactProgram) (b m : Body) (c : Record) (next : Next) (word : ℕ) (s : BodyShows T p b c) (ready : BodyIsReady p b next)
    (goes : BodyContinues p b m (after_word (action_target (operation_of next.op)) word) (removes_at next)) where
  abbrev pub x : At T.code c next
  x = at T p b c next s ready.is_next

  abbrev pub frames : List WordFrame
  frames = word_going x.w (given x.instr.op) word ∷ x.ws

  abbrev pub duties : List Duty
  duties = map Remove (removes_of x.instr.op) ++ next_duties T.code (bare_all frames)

  frames_are : frames ≡ frames_of_body m
  frames_are =
      ap (λ to. word_going x.w to word ∷ x.ws) (given_is x.instr.op ∙ ap action_target x.op)
      ∙ sym (goes.frames ∙ ap (after_word (action_target (operation_of next.op)) word) (sym s.frames ∙ x.are))

  owes : duties ≡ owed_by_body p.code m
  owes =
      ap (λ code. map Remove (removes_of x.instr.op) ++ next_duties code (bare_all frames)) s.code
      ∙ ap (λ fs. map Remove (removes_of x.instr.op) ++ next_duties p.code (bare_all fs)) frames_are
      ∙ ap (λ ks. map Remove ks ++ next_duties p.code (bare_all (frames_of_body m))) x.removes
      ∙ sym (owed_behind p b m (after_word (action_target (operation_of next.op)) word) (removes_at next) goes ready.queue)

  -- the record after it, with clock k, this holder but for its duties, memory and knowledge of channels
  abbrev pub gone : ClockRec → Holder → MemoryRec → SideRec → Record
  gone k h memory side = record {
    clock = k;
    frame = record { frames = frames; holder = record h { duties = duties } };
    memory = memory;
    side = side;
  }

  pub gone_shows : (k : ClockRec) (h : Holder) (memory : MemoryRec) (side : SideRec) (d : Body) → d.stack ≡ m.stack
      → d.queue ≡ m.queue → d.is_expanded ≡ m.is_expanded
      → IsHoldingOf T.sizes.regions d.holding h memory.fills → SideShows d.side side h.offer → IsMemoryCalm memory k.owed
      → memory.reserved.pages ≡ d.reserved.pages → k.share ≡ d.counts → length k.prints ≡ d.prints → k.refused ≡ d.refused → BodyShows T p d (gone k h memory side)
  gone_shows k h memory side d stack queue expanded holds side_shows calm reserved share prints refused = record {
    code = s.code;
    belongs = subst (Belongs p.compact) (sym stack) goes.belongs;
    frames = frames_are ∙ ap frames_of_stack (sym stack);
    holds = holds;
    reserved = reserved;
    owes = owes
        ∙ ap (λ (q : _). q.duties ++ (if m.is_expanded then [] else next_duties p.code (bare_all (frames_of_body m)))) (sym queue)
        ∙ ap (λ e. d.queue.duties ++ (if e then [] else next_duties p.code (bare_all (frames_of_body m)))) (sym expanded)
        ∙ ap (λ st. d.queue.duties ++ (if d.is_expanded then [] else next_duties p.code (bare_all (frames_of_stack st)))) (sym stack);
    side = side_shows;
    calm = calm;
    share = share;
    prints = prints;
    refused = refused;
  }
