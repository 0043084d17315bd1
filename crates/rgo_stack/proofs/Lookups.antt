-- Compact functions, by what their code says: each place of a function has the same number in both, so a fact about an instruction of the
-- code is one about the compact instruction there.
use Rattle.std.proofs.Common.{◌≡◌, ◌<◌, ◌≤◌, ◌∙◌, ℕ, List, Option, Some, None, refl, ap, sym, subst, arith, length, slice_get}
use Rattle.std.proofs.lemmas.Option.{same_Some, slice_get_within}
use Rattle.rgo_sound.specs.Code.Code.{Branch, Call, Code, CodeFn, CodeInstr, CodeOp, Return}
use Rattle.rgo_sound.specs.Tac.declared.regions.Class.{Class}
use Rattle.rgo_sound.specs.RegionMachine.Owed.{current, current_in, code_function}
use Rattle.rgo_core.specs.Frames.shown.WordFrames.{WordFrame, bare}
use Rattle.rgo_sound.proofs.Places.{get_some}
use Rattle.rgo_compact.specs.declared.operations.Operation.{Operation}
use Rattle.rgo_compact.specs.Functions.{CompactFn, IsCompact, IsCompactFn}
use Rattle.rgo_compact.specs.Operations.{StandsFor}
use Rattle.rgo_compact.specs.Stack.{IsCallOrStop}
use Rattle.rgo_compact.proofs.Shapes.{IsPlain, Shape, call, invoke, leave, return_of, shape, stop, straight, one_way}
use Rattle.rgo_stack.specs.Places.{IsFrameAtCall, IsPlace, PlaceLaws, FunctionTakes}

-- function n, compact
pub record Has (code : Code) (fs : List CompactFn) (n : ℕ) (fn : CodeFn) : Type 0 where
  pub f : CompactFn
  pub known : slice_get fs n ≡ Some f
  pub is : IsCompactFn code n f
  pub same : is.fn ≡ fn

pub has : (code : Code) (fs : List CompactFn) (n : ℕ) (fn : CodeFn) → IsCompact code fs → code_function code n ≡ Some fn
    → Has code fs n fn
has code fs n fn compact known =
    let within = slice_get_within code.functions n fn known in
    let len = compact.len in
    let f = get_some fs n (omega (arith, within, len)) in
    let is = compact.each n f.0 f.1 in
    record { f = f.0; known = f.1; is = is; same = same_Some is.fn fn (sym is.known ∙ known) }

place : (code : Code) (fs : List CompactFn) (n next : ℕ) (fn : CodeFn) → IsCompact code fs → code_function code n ≡ Some fn
    → next < length fn.body → IsPlace fs n next
place code fs n next fn compact known within =
    let h = has code fs n fn compact known in
    let len = h.is.len in
    let same = ap (λ (k : CodeFn). length k.body) h.same in
    record { f = h.f; known = h.known; within = omega (arith, within, len, same) }

takes : (code : Code) (fs : List CompactFn) (n arguments : ℕ) (fn : CodeFn) → IsCompact code fs → code_function code n ≡ Some fn
    → arguments ≤ length fn.variables → FunctionTakes fs n arguments
takes code fs n arguments fn compact known within =
    let h = has code fs n fn compact known in
    let size = h.is.size in
    let same = ap (λ (k : CodeFn). length k.variables) h.same in
    record { f = h.f; known = h.known; fits = omega (arith, within, size, same) }

-- ---- calls

not_plain : (o : CodeOp) (to : Option ℕ) (n : ℕ) (from : List ℕ) (passes : List Class) (protects removes : List ℕ) → IsPlain o
    → o ≡ Call to n from passes protects removes → ⊥
not_plain o to n from passes protects removes plain e = subst IsPlain e plain

no_return : (value to : Option ℕ) (n : ℕ) (from : List ℕ) (passes : List Class) (protects removes : List ℕ)
    → Return value ≡ Call to n from passes protects removes → ⊥
no_return value to n from passes protects removes e = cc

-- what represents a call is a call or a stop: nothing else, since a fold has no calls
waits_at : (code : Code) (arguments : List (List ℕ)) (body : List CodeInstr) (at : ℕ) (x : Operation) (instr : CodeInstr)
    (to : Option ℕ) (n : ℕ) (from : List ℕ) (passes : List Class) (protects removes : List ℕ)
    → slice_get body at ≡ Some instr → instr.op ≡ Call to n from passes protects removes
    → StandsFor code arguments body at x → Shape at x → IsCallOrStop x
waits_at code arguments body at x instr to n from passes protects removes found op stands (straight first ops s) =
    let h = s.stands code arguments body stands in
    let same : h.0 ≡ instr = same_Some h.0 instr (sym h.1 ∙ found) in
    absurd (not_plain first to n from passes protects removes s.plain
    (sym h.3 ∙ ap (λ (i : CodeInstr). i.op) same ∙ op))
waits_at code arguments body at x instr to n from passes protects removes found op stands (stop is) =
    subst IsCallOrStop (sym is) tt
waits_at code arguments body at x instr to n from passes protects removes found op stands (call d m is) =
    subst IsCallOrStop (sym is) tt
waits_at code arguments body at x instr to n from passes protects removes found op stands (invoke m is) =
    subst IsCallOrStop (sym is) tt
waits_at code arguments body at x instr to n from passes protects removes found op stands (return_of a is) =
    let r = subst (StandsFor code arguments body at) is stands in
    let same : r.instr ≡ instr = same_Some r.instr instr (sym r.found ∙ found) in
    absurd (no_return (Some a) to n from passes protects removes
    (sym r.op ∙ ap (λ (i : CodeInstr). i.op) same ∙ op))
waits_at code arguments body at x instr to n from passes protects removes found op stands (one_way test target b w) =
    let g = w.stands code arguments body stands in
    let same : g.instr ≡ instr = same_Some g.instr instr (sym g.found ∙ found) in
    let no : Branch test g.target g.removes g.other g.otherwise ≡ Call to n from passes protects removes =
    sym g.op ∙ ap (λ (i : CodeInstr). i.op) same ∙ op in
    cc
waits_at code arguments body at x instr to n from passes protects removes found op stands (leave is) =
    let r = subst (StandsFor code arguments body at) is stands in
    let same : r.instr ≡ instr = same_Some r.instr instr (sym r.found ∙ found) in
    absurd (no_return None to n from passes protects removes
    (sym r.op ∙ ap (λ (i : CodeInstr). i.op) same ∙ op))

-- the function of a current instruction
pub record Found (code : Code) (n i : ℕ) (instr : CodeInstr) : Type 0 where
  pub fn : CodeFn
  pub known : code_function code n ≡ Some fn
  pub at : slice_get fn.body i ≡ Some instr

found_in : (code : Code) (n i : ℕ) (instr : CodeInstr) (o : Option CodeFn) → code_function code n ≡ o
    → current_in o i ≡ Some instr → Found code n i instr
found_in code n i instr None e found = let no : None ≡ Some instr = found in cc
found_in code n i instr (Some fn) e found = record { fn = fn; known = e; at = found }

is_at_call : (code : Code) (fs : List CompactFn) (w : WordFrame) (instr : CodeInstr) (to : Option ℕ) (n : ℕ)
    (from : List ℕ) (passes : List Class) (protects removes : List ℕ) → IsCompact code fs
    → current code (bare w) ≡ Some instr → instr.op ≡ Call to n from passes protects removes → IsFrameAtCall fs w
is_at_call code fs w instr to n from passes protects removes compact found op =
    let x = found_in code w.function w.next instr (code_function code w.function) refl found in
    let h = has code fs w.function x.fn compact x.known in
    let within = slice_get_within x.fn.body w.next instr x.at in
    let len = h.is.len in
    let same = ap (λ (k : CodeFn). length k.body) h.same in
    let call = get_some h.f.operations w.next (omega (arith, within, len, same)) in
    let at : slice_get h.is.fn.body w.next ≡ Some instr =
    subst (λ (k : CodeFn). slice_get k.body w.next ≡ Some instr) (sym h.same) x.at in
    record {
      f = h.f;
      known = h.known;
      call = call.0;
      at = call.1;
      waits = waits_at code h.f.arguments h.is.fn.body w.next call.0 instr to n from passes protects removes at op
          (h.is.stand w.next call.0 call.1) (shape w.next call.0);
    }

pub places : PlaceLaws
places = record { place = place; takes = takes; call = is_at_call }
