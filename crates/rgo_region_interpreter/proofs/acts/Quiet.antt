-- Turns of an instruction that changes no memory and prints nothing: a call, a start or a return. For these the step over the memory
-- that is kept needs no argument about what is touched.
use Rattle.std.proofs.Common.{◌≡◌, ℕ, List, [], ◌∷◌, ◌++◌, Option, Some, None, refl, sym, ap, ◌∙◌, subst}
use Rattle.std.proofs.lemmas.List.{append-nil}
use Rattle.rgo_memory.specs.declared.values.Value.{Value}
use Rattle.rgo_memory.specs.Channels.{SameChannels}
use Rattle.rgo_memory.specs.Memory.{Memory}
use Rattle.rgo_tac.specs.Code.{Tac, TacFn}
use Rattle.rgo_tac.specs.Frames.{TacFrame}
use Rattle.rgo_tac.specs.Tac.{TacState}
use Rattle.rgo_sound.proofs.steps.Acting.{Acted, after, call, returned, start}
use Rattle.rgo_sound.proofs.plain.Steps.{Always}
use Rattle.rgo_region_interpreter.specs.declared.worlds.Next.{Next}
use Rattle.rgo_region_interpreter.specs.declared.worlds.World.{World}
use Rattle.rgo_region_interpreter.specs.Works.{IsNextInWorld, IsNextOfSome, WorldTakesTurn}
use Rattle.rgo_region_interpreter.specs.Worlds.{Prepared}
use Rattle.rgo_region_interpreter.proofs.lifting.Good.{StepShows}
use Rattle.rgo_machine.specs.declared.limits.Limits.{Limits}
use Rattle.rgo_machine.specs.declared.picks.Pick.TheVariants.{One}
use Rattle.rgo_interpreter.specs.declared.turns.Turned.{Turned}
use Rattle.rgo_code.specs.Code.{Code}
use Rattle.rgo_region_machine.specs.States.{RegionState}

-- ---- what the goroutine did

pub record IsQuiet (m : Memory) (a : Acted) : Type 0 where
  pub memory : a.memory ≡ m
  pub printed : a.printed ≡ []

pub call_quiet : (m : Memory) (frame : TacFrame) (callers : List TacFrame) (n : ℕ) (arguments : List Value) (o : Option TacFn)
    → Always (IsQuiet m) (call m frame callers n arguments o)
call_quiet m frame callers n arguments None = record { memory = refl; printed = refl }
call_quiet m frame callers n arguments (Some fn) = record { memory = refl; printed = refl }

pub start_quiet : (m : Memory) (frame : TacFrame) (callers : List TacFrame) (n : ℕ) (arguments : List Value)
    (o : Option TacFn) → Always (IsQuiet m) (start m frame callers n arguments o)
start_quiet m frame callers n arguments None = record { memory = refl; printed = refl }
start_quiet m frame callers n arguments (Some fn) = record { memory = refl; printed = refl }

pub return_quiet : (code : Tac) (m : Memory) (value : Option Value) (callers : List TacFrame)
    → Always (IsQuiet m) (returned code m value callers)
return_quiet code m value [] = record { memory = refl; printed = refl }
return_quiet code m value (caller ∷ callers) = record { memory = refl; printed = refl }

-- a call and a return start no goroutine
pub call_alone : (m : Memory) (frame : TacFrame) (callers : List TacFrame) (n : ℕ) (arguments : List Value) (o : Option TacFn)
    → Always (λ (a : Acted). a.started ≡ []) (call m frame callers n arguments o)
call_alone m frame callers n arguments None = refl
call_alone m frame callers n arguments (Some fn) = refl

pub return_alone : (code : Tac) (m : Memory) (value : Option Value) (callers : List TacFrame)
    → Always (λ (a : Acted). a.started ≡ []) (returned code m value callers)
return_alone code m value [] = refl
return_alone code m value (caller ∷ callers) = refl

pub nothing_more : (xs ys : List ℕ) → xs ++ ys ≡ xs ++ [] → ys ≡ []
nothing_more [] ys e = e
nothing_more (x ∷ xs) ys e = nothing_more xs ys (tail (xs ++ ys) (xs ++ []) e)
  where
    tail : (us vs : List ℕ) → x ∷ us ≡ x ∷ vs → us ≡ vs
    tail us vs e = cc

module _ (code : Code) (s : RegionState) (state v : TacState) (g : ℕ) (y : StepShows code s state (One g) v)
    (a : Acted) (is : after s.plain g a ≡ y.next) (quiet : IsQuiet s.plain.memory a) where
  pub quiet_channels : SameChannels s.plain.memory y.next.memory
  quiet_channels =
      subst (λ (p : TacState). SameChannels s.plain.memory p.memory) is
      (subst (SameChannels s.plain.memory) (sym quiet.memory) (λ o channel e. e))

  pub quiet_print : v.printed ≡ state.printed
  quiet_print =
      y.prints_kept
      ∙ ap (λ bytes. state.printed ++ bytes) (nothing_more s.plain.printed y.bytes
      (sym y.prints ∙ sym (ap (λ (p : TacState). p.printed) is) ∙ ap (λ bytes. s.plain.printed ++ bytes) quiet.printed))
      ∙ append-nil state.printed

-- ---- what is known after the turn

module _ (w v : World) (limits : Limits) (g : ℕ) (turned : Turned) (takes : WorldTakesTurn w v limits g turned) where
  pub code_kept : v.code.now ≡ w.code.now
  code_kept = ap (λ (z : World). z.code.now) takes.same

  pub next_kept : (next : Next) → IsNextInWorld w g next → IsNextOfSome v.code.now next
  next_kept next at = subst (λ code. IsNextOfSome code next) (sym code_kept) (at.frame, at.is)

  pub prepared_kept : Prepared w → Prepared v
  prepared_kept old = subst Prepared (sym takes.same) (record {
    checked = old.checked;
    ascends = old.ascends;
    marks = old.marks;
    formals = old.formals;
  })
