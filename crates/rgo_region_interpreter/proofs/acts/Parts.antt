-- An instruction that neither calls, starts nor returns, from its parts: without room for the object that it makes, with an object, and
-- without one.
use Rattle.std.proofs.Common.{◌≡◌, ℕ, true, ◌&&◌, List, [], length, Option, Some, None, sym, ap, ◌∙◌, subst}
use Rattle.std.proofs.Common.{nat_le, slice_get}
use Rattle.std.specs.List.{list_all}
use Rattle.rgo_typed.specs.declared.programs.Struct.{Struct}
use Rattle.rgo_machine.specs.declared.limits.Limits.{Limits}
use Rattle.rgo_interpreter.specs.declared.turns.Turned.{Turned}
use Rattle.rgo_machine.specs.Limits.{is_within_depth, is_within, most_goroutines}
use Rattle.rgo_tac.specs.Frames.{TacFrame}
use Rattle.rgo_tac.specs.Ops.{operation_of}
use Rattle.rgo_tac.specs.Tac.{TacState}
use Rattle.rgo_code.specs.Code.{Code}
use Rattle.rgo_region_machine.specs.Owed.{removes_behind}
use Rattle.rgo_region_machine.specs.States.{RegionState, plain_at}
use Rattle.rgo_region_interpreter.specs.declared.objects.Making.{Making}
use Rattle.rgo_region_interpreter.specs.declared.worlds.Halt.{Halt}
use Rattle.rgo_region_interpreter.specs.declared.worlds.Halt.TheVariants as halt
use Rattle.rgo_region_interpreter.specs.declared.worlds.Next.{Next}
use Rattle.rgo_region_interpreter.specs.declared.worlds.World.{World}
use Rattle.rgo_region_interpreter.specs.Objects.{ObjectHasNoRoom, ObjectHasRoom, IsRoomy, GoroutineMakesNext, RemovesBehind, making_by}
use Rattle.rgo_region_interpreter.specs.Works.{IsNextInFrame, IsNextInWorld, WorldIsReady, Ready, TakesStep, first_frame_of, halted, newest_of}
use Rattle.rgo_region_interpreter.proofs.holding.OneHolder.{the_same}
use Rattle.rgo_region_interpreter.proofs.stepping.Taking.{takes_after, takes_nothing, takes_short}

-- ---- the newest frame

newest_is : (w : World) (g : ℕ) (next : Next) (at : IsNextInWorld w g next) → newest_of w g ≡ Some at.frame
newest_is w g next at = ap first_frame_of at.frames

pub never_newest : (w : World) (g : ℕ) (next : Next) → IsNextInWorld w g next → newest_of w g ≡ None → ⊥
never_newest w g next at none = some_none (sym (newest_is w g next at) ∙ none)
  where
    some_none : Some at.frame ≡ None → ⊥
    some_none e = cc

the_frame : (w : World) (g : ℕ) (next : Next) (at : IsNextInWorld w g next) (frame : TacFrame) → newest_of w g ≡ Some frame
    → frame ≡ at.frame
the_frame w g next at frame is = the_same frame at.frame (sym is ∙ newest_is w g next at)

-- what is removed after an instruction, in whatever code
abbrev pub BehindNext : TacFrame → Next → List ℕ → Type 0
BehindNext frame next removes = (code : Code) (is : IsNextInFrame code frame next) → removes ≡ removes_behind frame is.instr.op

pub removes_next : (w : World) (g : ℕ) (next : Next) (frame : TacFrame) (removes : List ℕ) → newest_of w g ≡ Some frame
    → BehindNext frame next removes → RemovesBehind w g next removes
removes_next w g next frame removes is behind at =
    subst (λ f. (x : IsNextInFrame w.code.now f next) → removes ≡ removes_behind f x.instr.op)
    (the_frame w g next at frame is) (behind w.code.now) at.is

-- the object that the instruction makes, or none
pub made_next : (w : World) (g : ℕ) (next : Next) (at : IsNextInWorld w g next) (frame : TacFrame) (structs : List Struct)
    (o : Option Making) → newest_of w g ≡ Some frame → structs ≡ w.code.now.structs
    → o ≡ making_by structs frame (operation_of next.op)
    → making_by w.code.now.structs at.frame (operation_of next.op) ≡ o
made_next w g next at frame structs o is same made =
    (λ i. making_by (sym same i) (sym (the_frame w g next at frame is) i) (operation_of next.op)) ∙ sym made

-- ---- nothing is done

-- for lack of memory or of room
pub turn_halted : (why : Halt) (w v : World) (s : RegionState) (limits : Limits) (g : ℕ) → Ready w s g
    → ObjectHasNoRoom why w v g → TakesStep w v limits s g 1 (halted why)
turn_halted halt.NoMemory w v s limits g ready same = takes_nothing w v s limits g ready.between.running same
turn_halted (halt.NoRoom why) w v s limits g ready stops =
    takes_short w v limits g why s ready.between.running (stops s ready)

-- ---- an object is made

module _ (w v : World) (limits : Limits) (g : ℕ) (next : Next) (making : Making)
    (has : (s : RegionState) → Ready w s g → ObjectHasRoom w v s g next making) where
  within_then : (s : RegionState) (ready : Ready w s g) → is_within limits (plain_at s w.state.printed) ≡ true
      → is_within limits (plain_at (has s ready).attended.state v.state.printed) ≡ true
  within_then s ready within =
      ap (λ (p : TacState). nat_le (length p.goroutines) (most_goroutines limits) && list_all is_within_depth p.goroutines)
      (has s ready).attended.plain ∙ within

  -- from there it is one of the whole
  pub making_then : (u : World) (turned : Turned) → ((s : RegionState) → IsRoomy v s g next making
      → is_within limits (plain_at s v.state.printed) ≡ true → TakesStep v u limits s g 1 turned)
      → (s : RegionState) → Ready w s g → is_within limits (plain_at s w.state.printed) ≡ true
      → TakesStep w u limits s g 1 turned
  making_then u turned takes s ready within =
      takes_after w v u s g [] limits turned (has s ready).attended ready.between.running
      (takes (has s ready).attended.state (has s ready).roomy (within_then s ready within))

  -- what holds of the world with room
  module _ (on : WorldIsReady w limits g) where
    pub makes_then : GoroutineMakesNext v g next making
    makes_then = (has on.state on.ready).roomy.makes

    pub ready_then : WorldIsReady v limits g
    ready_then = record {
      state = (has on.state on.ready).attended.state;
      ready = (has on.state on.ready).roomy.ready;
      within = within_then on.state on.ready on.within;
    }

    same_frames : v.state.goroutines ≡ w.state.goroutines
    same_frames =
        (has on.state on.ready).roomy.ready.works.shown.goroutines
        ∙ ap (λ (p : TacState). p.goroutines) (has on.state on.ready).attended.plain
        ∙ sym on.ready.works.shown.goroutines

    pub removes_then : (frame : TacFrame) (removes : List ℕ) → newest_of w g ≡ Some frame → BehindNext frame next removes
        → RemovesBehind v g next removes
    removes_then frame removes is behind = removes_next v g next frame removes
        (ap (λ gs. first_frame_of (slice_get gs g)) same_frames ∙ is) behind
