-- The examples, by computation.
use Rattle.std.proofs.Common.{◌≡◌, ◌+◌, ◌∙◌, ◌∷◌, [], Some, refl, ap, sym, subst, arith, length, slice_get}
use Rattle.std.proofs.lemmas.Option.{same_Some}
use Rattle.rgo_sound.specs.Code.Code.{Call, CodeInstr}
use Rattle.rgo_sound.specs.RegionMachine.Examples.{plain_instr}
use Rattle.rgo_sound.specs.Values.{call_target}
use Rattle.rgo_compact.specs.declared.operations.Operation.{Operation}
use Rattle.rgo_compact.specs.declared.operations.Operation.TheVariants as op
use Rattle.rgo_compact.specs.Functions.{CompactFn}
use Rattle.rgo_compact.specs.Stack.{IsCallOrStop}
use Rattle.rgo_stack.specs.Examples.{StackExamples, both_frames, calling_code, compact_calling, nested_stack, outer_frame}
use Rattle.rgo_stack.specs.Places.{IsFrameAtCall, IsCalledFor, IsPlace, FunctionTakes}
use Rattle.rgo_stack.specs.Stacks.{Belongs}

abbrev only : CompactFn
only = record { operations = op.Call 0 0 ∷ op.Leave ∷ []; size = 2; arguments = [] ∷ [] ∷ [] }

no_place_2 : IsPlace compact_calling 0 2 → ⊥
no_place_2 place =
    let within = place.within in
    let same : length place.f.operations ≡ 2 =
    ap (λ (k : CompactFn). length k.operations) (sym (same_Some only place.f place.known)) in
    omega (arith, within, same)

no_place_3 : IsPlace compact_calling 0 (1 + 1) → ⊥
no_place_3 = no_place_2

takes_two : FunctionTakes compact_calling 0 3 → ⊥
takes_two takes =
    let fits = takes.fits in
    let same : takes.f.size ≡ 2 = ap (λ (k : CompactFn). k.size) (sym (same_Some only takes.f takes.known)) in
    omega (arith, fits, same)

-- the second instruction is a return
leaves : (f : CompactFn) (x : Operation) → slice_get compact_calling 0 ≡ Some f → slice_get f.operations 1 ≡ Some x
    → IsCallOrStop x → ⊥
leaves f x known at waits =
    let there : slice_get only.operations 1 ≡ Some x =
    subst (λ (k : CompactFn). slice_get k.operations 1 ≡ Some x) (sym (same_Some only f known)) at in
    subst IsCallOrStop (sym (same_Some op.Leave x there)) waits

past : Belongs compact_calling (nested_stack 0 2) → ⊥
past b =
    let n = b.frames.0.newest in
    no_place_2 (record { f = n.f; known = n.known; within = n.at })

at_return : Belongs compact_calling (nested_stack 1 1) → ⊥
at_return b =
    let has = b.frames.0.below.0 in
    leaves has.frame.f has.call has.frame.known has.at has.waits

not_called : IsFrameAtCall compact_calling (outer_frame 1) → ⊥
not_called c = leaves c.f c.call c.known c.at c.waits

for_another : IsCalledFor calling_code (Some 1) both_frames → ⊥
for_another (instr, found, target) =
    let same : Some 0 ≡ call_target instr.op =
    ap (λ (i : CodeInstr). call_target i.op) (same_Some (plain_instr (Call (Some 0) 0 [] [] [] [])) instr found) in
    let no : 0 ≡ 1 = same_Some 0 1 (same ∙ target) in
    omega (arith, no)

pub examples : StackExamples
examples = record {
  shows = refl;
  returned = refl;
  newest = refl;
  caller = refl;
  no_caller = refl;
  word = refl;
  belongs = record {
    frames = (
      record {
        newest = record { f = only; known = refl; at = omega arith; size = refl };
        below = (
          record {
            frame = record { f = only; known = refl; at = omega arith; size = refl };
            call = op.Call 0 0;
            at = refl;
            waits = tt;
          },
          tt,
        );
        depth = omega arith;
      },
      omega arith,
    );
    room = omega arith;
  };
  past_the_end = past;
  at_a_return = at_return;
  place = record { f = only; known = refl; within = omega arith };
  no_place = no_place_2;
  takes = record { f = only; known = refl; fits = omega arith };
  takes_fewer = takes_two;
  at_call = record { f = only; known = refl; call = op.Call 0 0; at = refl; waits = tt };
  not_at_call = not_called;
  advances = (omega arith, record { f = only; known = refl; within = omega arith });
  no_variable = λ can. let within = can.0 in omega (arith, within);
  last = λ can. no_place_3 can.1;
  returns = (omega arith, (omega arith, record { f = only; known = refl; within = omega arith }));
  returns_no_variable = λ can. let within = can.0 in omega (arith, within);
  called_for = (plain_instr (Call (Some 0) 0 [] [] [] []), refl, refl);
  called_for_another = for_another;
  after_words = refl;
  after_none = refl;
  after_jumps = refl;
  after_calls = refl;
  after_returns = refl;
  after_last = refl;
  gathers = refl;
}
