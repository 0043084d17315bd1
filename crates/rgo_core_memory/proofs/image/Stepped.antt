-- What an instruction of one goroutine does to what memory shows. Whether it makes an object decides between two forms, and the own
-- page is filled further only in one of them.
use Rattle.std.proofs.Common.{◌≡◌, ℕ, zero, suc, ◌≤◌, true, List, [], ◌∷◌, ◌++◌, map, length, append-nil, Option, Some, None, refl, sym, ap, ◌∙◌, subst, slice_get, slice_set, option_map, arith}
use Rattle.std.proofs.lemmas.Option.{same_Some}
use Rattle.rgo_sound.specs.Typed.declared.actions.Action.{Action}
use Rattle.rgo_sound.specs.Code.Code.{Code, CodeInstr, CodeOp, Do}
use Rattle.rgo_sound.specs.Code.Erasure.{erased, erased_instr, erased_op}
use Rattle.rgo_sound.specs.Machine.declared.picks.End.{End}
use Rattle.rgo_sound.specs.Machine.declared.picks.End.TheVariants.{Exit, Trap}
use Rattle.rgo_sound.specs.Machine.declared.picks.Pick.TheVariants.{One}
use Rattle.rgo_sound.specs.Memory.Effects.{Does}
use Rattle.rgo_sound.specs.Memory.Memory.{Memory}
use Rattle.rgo_sound.specs.Memory.declared.values.Value.{Value}
use Rattle.rgo_sound.specs.RegionMachine.Instructions.{unless_trapped, holder_after, child_holder, last_frames}
use Rattle.rgo_sound.specs.RegionMachine.Machine.{Instruct, region_step}
use Rattle.rgo_sound.specs.RegionMachine.Objects.{allotted, making_region, may_touch, touched}
use Rattle.rgo_sound.specs.RegionMachine.Owed.{current, function_at}
use Rattle.rgo_sound.specs.RegionMachine.States.{Holder, RegionState, frames_of, top_names}
use Rattle.rgo_sound.specs.RegionMachine.declared.regions.Region.{Region}
use Rattle.rgo_sound.proofs.steps.Acting.{after, Acted, act, act_at, alone, effected, performed, trap_place}
use Rattle.rgo_sound.proofs.plain.Steps.{yields_is}
use Rattle.rgo_sound.proofs.steps.OneStep.{OneDone, one_done, current_erased}
use Rattle.rgo_sound.proofs.Places.{head_is}
use Rattle.rgo_sound.specs.Tac.Frames.{TacFrame, frame_after_instr}
use Rattle.rgo_sound.specs.Tac.Steps.{destination_type}
use Rattle.rgo_sound.specs.Tac.Tac.{TacState}
use Rattle.rgo_core_memory.proofs.Rows.{set_again}
use Rattle.rgo_core_memory.specs.Accesses.{Before}
use Rattle.rgo_core_memory.specs.Ground.{ground_of, held_of}

pub map_set : {A B : Type 0} (f : A → B) (l : List A) (i : ℕ) (a : A) → map f (slice_set l i a) ≡ slice_set (map f l) i (f a)
map_set f [] i a = refl
map_set f (b ∷ l) zero a = refl
map_set f (b ∷ l) (suc i) a = ap (λ m. f b ∷ m) (map_set f l i a)

pub map_get : {A B : Type 0} (f : A → B) (l : List A) (i : ℕ) (a : A) → slice_get l i ≡ Some a → slice_get (map f l) i ≡ Some (f a)
map_get f [] i a e = cc
map_get f (b ∷ l) zero a e = ap (λ c. Some (f c)) (same_Some b a e)
map_get f (b ∷ l) (suc i) a e = map_get f l i a e

-- an action that was done and did not trap: the memory after it, and what it was given for an object
pub record Acts (code : Code) (page_words : ℕ) (s : RegionState) (g : ℕ) (frame : TacFrame) (op : CodeOp) (m : Memory) (t : RegionState) : Type 0 where
  pub h : Holder
  pub there : slice_get s.holders g ≡ Some h
  pub live : may_touch s (touched frame op) ≡ true
  pub given : Holder × List Region
  pub allots : allotted page_words h (making_region (function_at code frame) (top_names h.environments) op)
      (slice_get m.heap (length s.plain.memory.heap)) ≡ Some given
  pub ground : ground_of t ≡ record (ground_of s) {
    heap = m.heap;
    variables = m.variables;
    owners = s.owners ++ given.1;
    held = slice_set (map held_of s.holders) g (held_of given.0);
  }

-- a trap leaves stakes and fills as an instruction does
pub held_unless : (e : Option End) (before after : Holder) → held_of after ≡ held_of before
    → held_of (unless_trapped e before after) ≡ held_of before
held_unless None before after h = h
held_unless (Some Exit) before after h = h
held_unless (Some (Trap trap place)) before after h = refl

module _ (code : Code) (page_words : ℕ) (s t : RegionState) (g : ℕ) (action : Action) (values : List Value) (m : Memory) (u : Value)
    (e : region_step code page_words s (Instruct (One g)) ≡ Some t) (b : Before code s g action values)
    (does : performed code.structs action (destination_type (erased code) b.frame b.to) values s.plain.memory ≡ Some (Does m u)) where
  done : OneDone code page_words s g t
  done = yields_is (region_step code page_words s (Instruct (One g))) t (one_done code page_words s g) e

  same_frames : done.frame ∷ done.callers ≡ b.frame ∷ b.callers
  same_frames = same_Some (done.frame ∷ done.callers) (b.frame ∷ b.callers) (sym done.at ∙ b.at)

  same_frame : done.frame ≡ b.frame
  same_frame = head_is done.frame b.frame done.callers b.callers same_frames

  same_instr : done.instr ≡ b.instr
  same_instr = same_Some done.instr b.instr (sym done.cur ∙ (ap (current code) same_frame ∙ b.cur))

  same_op : done.instr.op ≡ Do b.to action b.from b.removes
  same_op = ap (λ (i : CodeInstr). i.op) same_instr ∙ b.is

  abbrev result : Acted
  result = record { memory = m; frames = frame_after_instr b.frame b.to u ∷ b.callers; started = []; printed = []; trap = None }

  does_so : alone (erased code) s.plain.memory (b.frame ∷ b.callers) ≡ Some result
  does_so =
      ap (λ i. act_at (erased code) s.plain.memory i b.frame b.callers) (current_erased code b.frame ∙ ap (option_map erased_instr) b.cur)
      ∙ ap (λ op. act (erased code) s.plain.memory (erased_op op) b.instr.place b.frame b.callers) b.is
      ∙ ap (λ vs. effected s.plain.memory b.frame b.callers b.to (trap_place action b.instr.place) (performed code.structs action (destination_type
      (erased code) b.frame b.to) vs s.plain.memory)) b.operands
      ∙ ap (effected s.plain.memory b.frame b.callers b.to (trap_place action b.instr.place)) does

  is_result : done.a ≡ result
  is_result = same_Some done.a result (sym done.acts ∙ (ap (alone (erased code) s.plain.memory) same_frames ∙ does_so))

  is_memory : done.a.memory ≡ m
  is_memory = ap (λ (a : Acted). a.memory) is_result

  abbrev next : TacState
  next = after s.plain g done.a

  abbrev now : Holder
  now = unless_trapped next.ended done.given.0 (holder_after code done.given.0 done.frame done.callers (Do b.to action b.from b.removes)
      (frames_of next g))

  holders_now : map held_of (slice_set s.holders g now ++ []) ≡ slice_set (map held_of s.holders) g (held_of done.given.0)
  holders_now = ap (map held_of) (append-nil (slice_set s.holders g now))
      ∙ map_set held_of s.holders g now
      ∙ ap (slice_set (map held_of s.holders) g) (held_unless next.ended done.given.0 (holder_after code done.given.0 done.frame done.callers
      (Do b.to action b.from b.removes) (frames_of next g)) refl)

  holders : (op : CodeOp) → op ≡ Do b.to action b.from b.removes
      → map held_of (slice_set s.holders g (unless_trapped next.ended done.given.0 (holder_after code done.given.0 done.frame done.callers op
      (frames_of next g))) ++ child_holder code done.given.0 op (last_frames next.goroutines))
      ≡ slice_set (map held_of s.holders) g (held_of done.given.0)
  holders op q = subst (λ (y : CodeOp). map held_of (slice_set s.holders g (unless_trapped next.ended done.given.0
      (holder_after code done.given.0 done.frame done.callers y (frames_of next g))) ++ child_holder code done.given.0 y
      (last_frames next.goroutines))
      ≡ slice_set (map held_of s.holders) g (held_of done.given.0)) (sym q) holders_now

  pub acts : Acts code page_words s g b.frame (Do b.to action b.from b.removes) m t
  acts = record {
    h = done.h;
    there = done.there;
    live = subst (λ (f : TacFrame). may_touch s (touched f (Do b.to action b.from b.removes)) ≡ true) same_frame
        (subst (λ (op : CodeOp). may_touch s (touched done.frame op) ≡ true) same_op done.ready.live);
    given = done.given;
    allots = subst (λ (y : Memory). allotted page_words done.h (making_region (function_at code b.frame) (top_names done.h.environments)
        (Do b.to action b.from b.removes)) (slice_get y.heap (length s.plain.memory.heap)) ≡ Some done.given) is_memory
        (subst (λ (f : TacFrame). allotted page_words done.h (making_region (function_at code f) (top_names done.h.environments)
        (Do b.to action b.from b.removes)) (slice_get done.a.memory.heap (length s.plain.memory.heap)) ≡ Some done.given) same_frame
        (subst (λ (op : CodeOp). allotted page_words done.h (making_region (function_at code done.frame) (top_names done.h.environments) op)
        (slice_get done.a.memory.heap (length s.plain.memory.heap)) ≡ Some done.given) same_op done.fits));
    ground = ap ground_of done.is ∙ λ i. record {
      heap = ap (λ (y : Memory). y.heap) is_memory i;
      variables = ap (λ (y : Memory). y.variables) is_memory i;
      owners = s.owners ++ done.given.1;
      regions = s.regions;
      global_pages = s.global_pages;
      held = holders done.instr.op same_op i;
    };
  }

pub slice_get_none : {A : Type 0} (l : List A) (i : ℕ) → length l ≤ i → slice_get l i ≡ None
slice_get_none [] i h = refl
slice_get_none (x ∷ l) zero h = absurd (omega arith)
slice_get_none (x ∷ l) (suc i) h = slice_get_none l i (omega arith)

-- if no object is made, only the memory differs
pub only_memory : (code : Code) (page_words : ℕ) (s : RegionState) (g : ℕ) (frame : TacFrame) (op : CodeOp) (m : Memory) (t : RegionState)
    → Acts code page_words s g frame op m t → length m.heap ≡ length s.plain.memory.heap
    → ground_of t ≡ record (ground_of s) { heap = m.heap; variables = m.variables }
only_memory code page_words s g frame op m t a same = a.ground ∙ λ i. record {
  heap = m.heap;
  variables = m.variables;
  owners = (ap (λ (y : Holder × List Region). s.owners ++ y.1) given_is ∙ append-nil s.owners) i;
  regions = s.regions;
  global_pages = s.global_pages;
  held = (ap (λ (y : Holder × List Region). slice_set (map held_of s.holders) g (held_of y.0)) given_is
      ∙ set_again (map held_of s.holders) g (held_of a.h) (map_get held_of s.holders g a.h a.there)) i;
}
  where
    none : slice_get m.heap (length s.plain.memory.heap) ≡ None
    none = slice_get_none m.heap (length s.plain.memory.heap) (omega arith)

    region : Option Region
    region = making_region (function_at code frame) (top_names a.h.environments) op

    given_is : ◌≡◌ {A = Holder × List Region} a.given (a.h, [])
    given_is = same_Some a.given (a.h, []) (sym a.allots
        ∙ ap (allotted page_words a.h (making_region (function_at code frame) (top_names a.h.environments) op)) none)
