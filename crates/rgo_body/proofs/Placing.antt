-- What a possible body may do next, as its stack asks it. All comes from one fact: a possible record is at a well-formed instruction of
-- checked code, with as many variables as its function has.
use Rattle.std.proofs.Common.{◌≡◌, inl, inr, ◌+◌, ◌<◌, ◌≤◌, arith, ℕ, List, ◌∷◌, Option, Some, None, refl, sym, ap, ◌∙◌, subst, length, slice_get}
use Rattle.std.proofs.lemmas.List.{length-map}
use Rattle.std.proofs.lemmas.Option.{same_Some}
use Rattle.rgo_sound.specs.Code.Code.{Branch, Call, CodeOp, Do, Go, Jump, Print, Return}
use Rattle.rgo_sound.specs.Code.Erasure.{erased_op}
use Rattle.rgo_sound.specs.Code.Lists.{passes_of, protects_of, removes_of}
use Rattle.rgo_sound.specs.Code.Exists.{UsesVariable}
use Rattle.rgo_core_facts.proofs.ControlCode.{callees_exist, next_exists, variables_exist}
use Rattle.rgo_core_facts.proofs.ControlFrames.{all_in_code}
use Rattle.rgo_core_facts.specs.ControlCode.{CanCall, HasCallee, IsFollowed}
use Rattle.rgo_core_facts.specs.ControlFrames.{IsInCode}
use Rattle.rgo_compact.specs.Bounds.{IsTarget}
use Rattle.rgo_sound.specs.Tac.Flow.{writes}
use Rattle.rgo_sound.specs.RegionMachine.Owed.{code_function}
use Rattle.rgo_stack.proofs.Lookups.{places}
use Rattle.rgo_stack.specs.Places.{CanAdvance, FrameCanCall as StackCanCall, CanJump, IsPlace, FunctionTakes}
use Rattle.rgo_stack.specs.Stacks.{newest_word, newest_words, words_from}
use Rattle.rgo_sound.specs.Tac.Code as tac
use Rattle.rgo_sound.specs.Tac.Ops.{operation_of}
use Rattle.rgo_body.specs.Bodies.{frames_of_body}
use Rattle.rgo_body.specs.Nexts.{FollowsOn, IsNextOf, action_target}
use Rattle.rgo_body.specs.Programs.{IsCompactProgram, CompactProgram}
use Rattle.rgo_body.specs.Shows.{BodyIsPossible}
use Rattle.rgo_body.specs.declared.bodies.Body.{Body}
use Rattle.rgo_body.specs.declared.nexts.Next.{Next}
use Rattle.rgo_body.proofs.Showing.{current_is}
use Rattle.rgo_body.proofs.OpKinds.{branch_of, call_of, go_of, jump_of}

target_written : (op : tac.Op) (d : ℕ) → action_target op ≡ Some d → writes op ≡ Some d
target_written (tac.Do to action from) d e = e
target_written (tac.Call to m from) d e = cc
target_written (tac.Go m from) d e = cc
target_written (tac.Print pieces from) d e = cc
target_written (tac.Jump target) d e = cc
target_written (tac.Branch test target other) d e = cc
target_written (tac.Return value) d e = cc

module _ (p : CompactProgram) (b : Body) (next : Next) (y : BodyIsPossible p b) (program : IsCompactProgram p) (n : IsNextOf p.code (frames_of_body b) next) where
  are : y.c.frame.frames ≡ n.w ∷ n.ws
  are = y.shows.frames ∙ n.are

  in_code : IsInCode y.T.code n.w
  in_code = all_in_code y.T y.goroutine y.c y.here 0 n.w (ap (λ fs. slice_get fs 0) are)

  same_fn : in_code.fn ≡ next.function
  same_fn = same_Some in_code.fn next.function (sym in_code.in_fn ∙ ap (λ code. code_function code n.w.function) y.shows.code ∙ n.in_fn)

  -- the newest frame has a word for each variable of its function
  pub as_many : length n.w.variables ≡ length next.function.variables
  as_many = in_code.words ∙ ap (λ fn. length fn.variables) same_fn

  instr_at : slice_get next.function.body next.at ≡ Some n.instr
  instr_at = n.is_instr

  -- each variable of the next instruction has a word
  pub has_word : (v : ℕ) → UsesVariable (operation_of next.op) v → v < length n.w.variables
  has_word v uses =
      subst (λ k. v < k) (sym as_many)
      (variables_exist p.code n.w.function next.at next.function n.instr program.checked n.in_fn n.is_instr v
      (subst (λ op. UsesVariable op v) (sym n.op) uses))

  pub followed : IsFollowed next.function next.at n.instr.op
  followed = next_exists p.code n.w.function next.at next.function n.instr program.checked n.in_fn n.is_instr

  place : (i : ℕ) → i < length next.function.body → IsPlace p.compact n.w.function i
  place i low = places.place p.code p.compact n.w.function i next.function program.compact n.in_fn low

  -- ---- it continues

  written : (to : Option ℕ) → action_target (operation_of next.op) ≡ to → IsTarget (length n.w.variables) to
  written None e = tt
  written (Some d) e = has_word d (inr (target_written (operation_of next.op) d e))

  pub can_advance : FollowsOn (operation_of next.op) → CanAdvance p.compact (action_target (operation_of next.op)) (frames_of_body b)
  can_advance follows =
      subst (CanAdvance p.compact (action_target (operation_of next.op))) (sym n.are) (
        written (action_target (operation_of next.op)) refl,
        place (n.w.next + 1) (subst (λ i. i + 1 < length next.function.body) n.at
            (goes_on n.instr.op (subst FollowsOn (sym n.op) follows) followed)),
      )
    where
      goes_on : (op : CodeOp) → FollowsOn (erased_op op) → IsFollowed next.function next.at op → next.at + 1 < length next.function.body
      goes_on (Do to action from removes) k l = l
      goes_on (Call to m from passes protects removes) k l = l
      goes_on (Go m from passes removes) k l = l
      goes_on (Print pieces from removes) k l = l
      goes_on (Jump target removes) (inl k) l = cc
      goes_on (Jump target removes) (inr (inl k)) l = cc
      goes_on (Jump target removes) (inr (inr k)) l = cc
      goes_on (Branch test target removes other otherwise) (inl k) l = cc
      goes_on (Branch test target removes other otherwise) (inr (inl k)) l = cc
      goes_on (Branch test target removes other otherwise) (inr (inr k)) l = cc
      goes_on (Return value) (inl k) l = cc
      goes_on (Return value) (inr (inl k)) l = cc
      goes_on (Return value) (inr (inr k)) l = cc

  -- ---- it leads elsewhere

  can_go_to : (target : ℕ) → target < length next.function.body → CanJump p.compact target (frames_of_body b)
  can_go_to target low = subst (CanJump p.compact target) (sym n.are) (place target low)

  pub can_jump : (target : ℕ) → operation_of next.op ≡ tac.Jump target → CanJump p.compact target (frames_of_body b)
  can_jump target op = can_go_to target (subst (IsFollowed next.function next.at) (jump_of n.instr.op target (n.op ∙ op)) followed)

  can_branch : (test target other : ℕ) → operation_of next.op ≡ tac.Branch test target other
      → (target < length next.function.body) × (other < length next.function.body)
  can_branch test target other op =
      subst (IsFollowed next.function next.at) (branch_of n.instr.op test target other (n.op ∙ op)) followed

  pub can_go_on : (test target other : ℕ) → operation_of next.op ≡ tac.Branch test target other
      → CanJump p.compact target (frames_of_body b)
  can_go_on test target other op = can_go_to target (can_branch test target other op).0

  pub can_turn : (test target other : ℕ) → operation_of next.op ≡ tac.Branch test target other
      → CanJump p.compact other (frames_of_body b)
  can_turn test target other op = can_go_to other (can_branch test target other op).1

  pub has_test : (test target other : ℕ) → operation_of next.op ≡ tac.Branch test target other
      → test < length (newest_words (frames_of_body b))
  has_test test target other op =
      subst (λ fs. test < length (newest_words fs)) (sym n.are)
      (has_word test (subst (λ o. UsesVariable o test) (sym op) (inl (0, omega arith, refl))))

  -- ---- it calls a function

  pub callee : (to : Option ℕ) (f : ℕ) (from : List ℕ) → operation_of next.op ≡ tac.Call to f from
      → CanCall p.code to f from (passes_of n.instr.op)
  callee to f from op =
      subst (HasCallee p.code) (call_of n.instr.op to f from (n.op ∙ op))
      (callees_exist p.code n.w.function next.at next.function n.instr program.checked n.in_fn n.is_instr)

  pub can_call : (to : Option ℕ) (f : ℕ) (from : List ℕ) → operation_of next.op ≡ tac.Call to f from
      → StackCanCall p.compact f (length from) (frames_of_body b)
  can_call to f from op =
      let z = callee to f from op in
      subst (StackCanCall p.compact f (length from)) (sym n.are) (
        places.call p.code p.compact n.w n.instr to f from (passes_of n.instr.op) (protects_of n.instr.op) (removes_of n.instr.op)
            program.compact (current_is p.code (frames_of_body b) next n) (call_of n.instr.op to f from (n.op ∙ op)),
        places.takes p.code p.compact f (length from) z.callee program.compact z.found
            (subst (λ k. k ≤ length z.callee.variables) (sym z.arguments) z.parameters),
      )

  -- ---- it starts a goroutine

  pub can_start : (f : ℕ) (from : List ℕ) → operation_of next.op ≡ tac.Go f from → CanCall p.code None f from (passes_of n.instr.op)
  can_start f from op =
      subst (HasCallee p.code) (go_of n.instr.op f from (n.op ∙ op))
      (callees_exist p.code n.w.function next.at next.function n.instr program.checked n.in_fn n.is_instr)

  pub takes_started : (f : ℕ) (from : List ℕ) → operation_of next.op ≡ tac.Go f from
      → FunctionTakes p.compact f (length (words_from (frames_of_body b) from))
  takes_started f from op =
      let y = can_start f from op in
      places.takes p.code p.compact f (length (words_from (frames_of_body b) from)) y.callee program.compact y.found
      (subst (λ k. k ≤ length y.callee.variables)
      (sym (length-map from (newest_word (frames_of_body b)) ∙ y.arguments)) y.parameters)
