-- Actors and runs that meet their definitions, and some that do not.
use Rattle.std.proofs.Common.{◌≡◌, ◌+◌, ◌++◌, inl, inr, ℕ, suc, Bool, List, [], ◌∷◌, Some, length, if◌then◌else◌, true, false, refl, ap, sym, ◌∙◌, length-append, arith}
use Rattle.rgo_core.specs.Frames.shown.WordFrames.{WordFrame, frame_word}
use Rattle.rgo_core.specs.Memory.Records.{Located, Measured}
use Rattle.rgo_core.specs.moves.Cells.{IsInSlice}
use Rattle.rgo_core.specs.moves.ElementTraps.{HasNoElement}
use Rattle.rgo_core.specs.Records.{Record}
use Rattle.rgo_sound.specs.RegionMachine.States.{Duty}
use Rattle.rgo_sound.specs.Tac.Code.{Do}
use Rattle.rgo_sound.specs.Typed.declared.actions.Action.TheVariants as action
use Rattle.rgo_body.specs.Bodies.{owed_by_body}
use Rattle.rgo_acts.specs.ActorExamples.{ActorExamples, ElementExamples}
use Rattle.rgo_acts.specs.Actors.{now}
use Rattle.rgo_acts.proofs.before.Instructions.{owes_none}
use Rattle.rgo_acts.proofs.Standing.{acted_none}

longer : {A : Type 0} (xs : List A) (x : A) → xs ≡ xs ++ x ∷ [] → ⊥
longer xs x e = let l = ap length e in let m = length-append xs (x ∷ []) in absurd (omega (arith, l, m))

longer_before : {A : Type 0} (x : A) (xs : List A) → xs ≡ (x ∷ []) ++ xs → ⊥
longer_before x xs e = let l = ap length e in absurd (omega (arith, l))

some_duties : (d : Duty) (ds : List Duty) → d ∷ ds ≡ [] → ⊥
some_duties d ds e = cc

far_off : (n : ℕ) (b : Bool) → b ≡ false → n + (if b then 0 else 1) ≡ 0 → ⊥
far_off n true e h = cc
far_off n false e h = absurd (omega (arith, h))

pub actor_examples : ActorExamples
actor_examples = record {
  nothing = λ r a s. acted_none r a a s refl refl s.shows;
  no_instruction = λ r a acted. let e = acted.went.steps in absurd (omega (arith, e));
  no_print = λ r a d acted. longer (now r.setup a).clock.prints d acted.went.prints;
  no_start = λ r a n acted. longer_before n (now r.setup a).clock.children acted.went.children;
  started_locked = λ r a b n child amid started. amid started.rests;
  elsewhere = λ r a not s. not s.own;
  other_limits = λ r limits is not other. not (other.limits ∙ sym is.limits);
  owing = λ r a next d ds some before. some_duties d ds (sym some ∙ before.ready.queue);
  near = λ p b queue expanded.
      ap (λ (ds : List Duty). length ds + (if b.is_expanded then 0 else 1)) (owes_none p.code b queue expanded)
      ∙ ap (λ (e : Bool). 0 + (if e then 0 else 1)) expanded;
  far = λ p b expanded none. far_off (length (owed_by_body p.code b)) b.is_expanded expanded none;
}

-- a slice does not both have the element and not have it
not_both : (c : Record) (w : WordFrame) (p q address : ℕ) → frame_word w p ≡ suc address → IsInSlice c address (frame_word w q)
    → HasNoElement c w p q → ⊥
not_both c w p q address points slice (inl nil) = absurd (omega (arith, points, nil))
not_both c w p q address points slice (inr (a, its, none)) =
    let both : Some slice.measured ≡ Some none.measured = sym slice.read ∙ none.read in
    let same : slice.measured ≡ none.measured = cc both in
    let elements = ap (λ (m : Measured). m.elements) same in
    let less = slice.within in
    let more = none.beyond in
    absurd (omega (arith, elements, less, more))

other_load : (n m : ℕ) → Do (Some 2) (action.Load 1) (0 ∷ []) ≡ Do (Some n) (action.Load 2) (m ∷ []) → ⊥
other_load n m e =
    let same : action.Load 1 ≡ action.Load 2 = cc e in
    let one : ℕ = 1 in
    let two : ℕ = 2 in
    let fields : one ≡ two = cc same in
    absurd (omega (arith, fields))

pub element_examples : ElementExamples
element_examples = record {
  load = inl (2, refl);
  store = inr (2, refl);
  swapped = λ e. elim e [ inl t ↦ cc t.1 | inr t ↦ cc t.1 ];
  field = λ e. elim e [ inl t ↦ cc t.1 | inr t ↦ cc t.1 ];
  changed = λ r a b next not has. not has.body;
  outside = λ r a b next p q word beyond has. let inside = has.inside in absurd (omega (arith, inside, beyond));
  either = λ r a b next p q word has none.
      let n = has.measured.before.ready.is_next in
      let are = has.measured.before.stands.shows.frames ∙ n.are in
      not_both (now r.setup b) n.w p q has.address (has.points n.w n.ws are) (has.within n.w n.ws are).0 (none.none n.w n.ws are);
  load_field = inl (2, refl);
  store_field = inr (2, refl);
  other_field = λ e. elim e [ inl t ↦ other_load t.0 0 t.1 | inr t ↦ cc t.1 ];
  element = λ e. elim e [ inl t ↦ cc t.1 | inr t ↦ cc t.1 ];
  located = λ r a b next address cell word x y.
      let both : Some x.located.located ≡ Some y.located.located = sym x.located.read ∙ y.located.read in
      let same : x.located.located ≡ y.located.located = cc both in
      let cells = ap (λ (l : Located). l.cell) same in
      let first = x.located.of_cell in
      let second = y.located.of_cell in
      absurd (omega (arith, cells, first, second));
}
