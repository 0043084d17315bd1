-- The next instruction of a frame, as the code decodes it.
use Rattle.std.proofs.Common.{◌≡◌, ◌-◌, ℕ, List, [], ◌∷◌, Option, Some, None, MatchOption, Bor, refl, sym, ap, ◌∙◌}
use Rattle.std.proofs.Common.{arith, drop, length, reverse, slice_get}
use Rattle.std.specs.Option.{option_copied, option_map}
use Rattle.std.proofs.lemmas.Option.{get_or_from_slice_get, slice_get-get_or, slice_get-map, slice_get_within, same_Some}
use Rattle.rgo_interpreter.proofs.Newest.{newest}
use Rattle.rgo_tac.specs.Code.{Op}
use Rattle.rgo_tac.specs.Frames.{TacFrame}
use Rattle.rgo_tac.specs.Ops.{op_in}
use Rattle.rgo_code.specs.Code.{CodeInstr, CodeFn}
use Rattle.rgo_code.specs.Erasure.{erased_op, erased_instr, erased_fn}
use Rattle.rgo_region_interpreter.specs.Works.{first_frame_of}
use Rattle.rgo_region_interpreter.proofs.holding.OneHolder.{none_some}

-- an instruction of code whose erasure does this
pub record Decoded (f : CodeFn) (at : ℕ) (op : Op) : Type 0 where
  pub instr : CodeInstr
  pub is_instr : slice_get f.body at ≡ Some instr
  pub does : erased_op instr.op ≡ op

pub decoded : (f : CodeFn) (at : ℕ) (op : Op) → op_in (slice_get (erased_fn f).body at) ≡ Some op → Decoded f at op
decoded f at op e = go (slice_get f.body at) refl (ap op_in (sym (slice_get-map erased_instr f.body at)) ∙ e)
  where
    go : (o : Option CodeInstr) → slice_get f.body at ≡ o → op_in (option_map erased_instr o) ≡ Some op → Decoded f at op
    go None q w = cc
    go (Some instr) q w = record { instr = instr; is_instr = q; does = same_Some (erased_op instr.op) op w }

-- ---- the newest frame

-- the last item of a list is the first one of the list the other way round
last_is : {A : Type 0} (xs : List A) (x : A) → slice_get xs (length xs - 1) ≡ Some x
    → reverse xs ≡ x ∷ drop 1 (reverse xs)
last_is xs x e =
    let l = slice_get_within xs (length xs - 1) x e in
    newest xs x (length xs - 1) (omega (arith, l)) (sym (get_or_from_slice_get xs (length xs - 1) x x e))

none_last : {A : Type 0} (xs : List A) → slice_get xs (length xs - 1) ≡ None → xs ≡ []
none_last [] e = refl
none_last (x ∷ xs) e =
    let is = slice_get-get_or (x ∷ xs) (length (x ∷ xs) - 1) x (omega arith) in absurd (none_some (sym e ∙ is))

-- as the code reads it
pub newest_shows : (frames : Option (List TacFrame)) (items : List TacFrame) (o : Option (Bor TacFrame))
    → frames ≡ Some (reverse items) → option_copied o ≡ slice_get items (length items - 1)
    → MatchOption o (first_frame_of frames ≡ None) (λ f. first_frame_of frames ≡ Some f.now)
newest_shows frames items None e v = ap first_frame_of e ∙ ap (λ l. first_frame_of (Some (reverse l))) (none_last items (sym v))
newest_shows frames items (Some f) e v = ap first_frame_of e ∙ ap (λ l. first_frame_of (Some l)) (last_is items f.now (sym v))
