-- The frames of a goroutine after operations, calls and returns.
use Rattle.std.proofs.Common.{◌≡◌, ◌≤◌, ◌+◌, ℕ, List, [], ◌∷◌, length, drop, reverse}
use Rattle.std.proofs.Common.{Option, Some, None, Result, Ok, Err, get_or, slice_set, option_map, refl, ap, sym, ◌∙◌}
use Rattle.std.proofs.Common.{arith}
use Rattle.std.specs.declared.alloc.AllocError.{AllocError}
use Rattle.std.proofs.lemmas.List.{length-reverse}
use Rattle.rgo_memory.specs.declared.values.Value.{Value}
use Rattle.rgo_interpreter.specs.Acting.{frame_after_operation, entered_frames, FrameEnters}
use Rattle.std.specs.Result.{IsErr}
use Rattle.rgo_interpreter.specs.Alone.{after_operation, after_return, entered_by, onto, EntersNewest, ChildBegins, with_child_goroutine}
use Rattle.rgo_machine.specs.Machines.{Machine}
use Rattle.rgo_interpreter.proofs.Newest.{newest, renewed, below, renewed_below}

module _ {F : Type 0} (machine : Machine F) where
  -- the newest frame continues with a value
  pub passes : (l : List F) (f : F) (v : Value) (n : ℕ) → n + 1 ≡ length l → f ≡ get_or l n f
      → reverse (slice_set l n (frame_after_operation f v (machine.stand f))) ≡ after_operation machine v (reverse l)
  passes l f v n e is =
      renewed l (frame_after_operation f v (machine.stand f)) n e ∙ sym (ap (after_operation machine v) (newest l f n e is))

  no_frames : (l : List F) → length l ≡ 0 → reverse l ≡ []
  no_frames [] e = refl
  no_frames (f ∷ l) e = absurd (omega (arith, e))

  pub passes_none : (l : List F) (v : Value) → length l ≡ 0 → reverse l ≡ after_operation machine v (reverse l)
  passes_none l v e = no_frames l e ∙ sym (ap (after_operation machine v) (no_frames l e))

  -- what the newest frame has entered
  pub enters : (answer : Result (Option F) AllocError) (l : List F) (f h : F) (n : ℕ) → n + 1 ≡ length l
      → f ≡ get_or l n f → FrameEnters answer f h (machine.stand f)
      → EntersNewest machine answer (reverse l) (reverse (slice_set l n h))
  enters (Ok (Some begun)) l f h n e is answers =
      ap (entered_by machine) (newest l f n e is)
      ∙ ap (option_map (onto (drop 1 (reverse l)))) answers
      ∙ ap (λ k. Some (k, begun)) (sym (renewed l h n e))
  enters (Ok None) l f h n e is answers = (
    ap (entered_by machine) (newest l f n e is)
        ∙ ap (option_map (onto (drop 1 (reverse l)))) answers.0,
    renewed l h n e ∙ ap (λ x. x ∷ drop 1 (reverse l)) answers.1 ∙ sym (newest l f n e is),
  )
  enters (Err error) l f h n e is same =
      renewed l h n e ∙ ap (λ x. x ∷ drop 1 (reverse l)) same ∙ sym (newest l f n e is)

  pub enters_none : (l : List F) → length l ≡ 0 → (entered_by machine (reverse l) ≡ None) × (reverse l ≡ reverse l)
  enters_none l e = (ap (entered_by machine) (no_frames l e), refl)

  -- ---- returns

  last_return : (v : Option Value) (r : List F) → length r ≤ 1 → after_return machine v r ≡ []
  last_return v [] e = refl
  last_return v (f ∷ []) e = refl
  last_return v (f ∷ h ∷ r) e = absurd (omega (arith, e))

  to_caller : (v : Option Value) (r : List F) (z : F) → drop 1 r ≡ z ∷ drop 2 r
      → after_return machine v r ≡ machine.resume z v ∷ drop 2 r
  to_caller v [] z e = cc
  to_caller v (f ∷ []) z e = cc
  to_caller v (f ∷ h ∷ r) z e = ap (λ l. after_return machine v (f ∷ l)) e

  short : (r : List F) → length r ≤ 1 → drop 1 r ≡ []
  short [] e = refl
  short (f ∷ []) e = refl
  short (f ∷ h ∷ r) e = absurd (omega (arith, e))

  -- without a caller
  pub leaves_last : (l : List F) (v : Option Value) → length l ≤ 1
      → drop 1 (reverse l) ≡ after_return machine v (reverse l)
  leaves_last l v e =
      let few : length (reverse l) ≤ 1 = omega (arith, e, length-reverse l) in
      short (reverse l) few ∙ sym (last_return v (reverse l) few)

  -- the caller was resumed, and the newest frame taken away
  pub leaves : (l : List F) (z : F) (v : Option Value) (n : ℕ) → n + 2 ≡ length l → z ≡ get_or l n z
      → drop 1 (reverse (slice_set l n (machine.resume z v))) ≡ after_return machine v (reverse l)
  leaves l z v n e is =
      renewed_below l (machine.resume z v) n e ∙ sym (to_caller v (reverse l) z (below l z n e is))

  -- ---- the same, of the frames of a goroutine

  module _ (l goroutine : List F) (view : reverse l ≡ goroutine) where
    pub passed_to : (f h : F) (v : Value) (n : ℕ) → n + 1 ≡ length l → f ≡ get_or l n f
        → h ≡ frame_after_operation f v (machine.stand f) → reverse (slice_set l n h) ≡ after_operation machine v goroutine
    passed_to f h v n e is same =
        ap (λ x. reverse (slice_set l n x)) same ∙ passes l f v n e is ∙ ap (after_operation machine v) view

    pub passed_none : (v : Value) → length l ≡ 0 → reverse l ≡ after_operation machine v goroutine
    passed_none v e = passes_none l v e ∙ ap (after_operation machine v) view

    pub left_last : (v : Option Value) → length l ≤ 1 → drop 1 (reverse l) ≡ after_return machine v goroutine
    left_last v e = leaves_last l v e ∙ ap (after_return machine v) view

    pub left_to_caller : (z y : F) (v : Option Value) (n : ℕ) → n + 2 ≡ length l → z ≡ get_or l n z
        → y ≡ machine.resume z v → drop 1 (reverse (slice_set l n y)) ≡ after_return machine v goroutine
    left_to_caller z y v n e is same =
        ap (λ x. drop 1 (reverse (slice_set l n x))) same ∙ leaves l z v n e is ∙ ap (after_return machine v) view

  -- ---- a new goroutine

  pub not_begun : (answer : Result (Option (List F)) AllocError) (before after : List F) → IsErr answer → after ≡ before
      → ChildBegins machine answer before after
  not_begun (Ok child) before after failed same = cc
  not_begun (Err e) before after failed same = same

  -- the goroutine that was started
  pub begun : (l goroutine after : List F) (child : F) (items : List F) → reverse l ≡ goroutine
      → entered_by machine (reverse l) ≡ Some (after, child) → items ≡ child ∷ []
      → option_map with_child_goroutine (entered_by machine goroutine) ≡ Some (after, reverse items)
  begun l goroutine after child items view entered is =
      ap (λ x. option_map with_child_goroutine (entered_by machine x)) (sym view)
      ∙ ap (option_map with_child_goroutine) entered
      ∙ ap (λ i. Some (after, reverse i)) (sym is)

  pub none_begun : (l goroutine after : List F) → reverse l ≡ goroutine
      → (entered_by machine (reverse l) ≡ None) × (after ≡ reverse l)
      → (entered_by machine goroutine ≡ None) × (after ≡ goroutine)
  none_begun l goroutine after view none = (ap (entered_by machine) (sym view) ∙ none.0, none.1 ∙ view)
