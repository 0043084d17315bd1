-- The constants of code fit if those of its three-address code do, since they are the same.
use Rattle.std.proofs.Common.{◌≡◌, ◌∙◌, ℕ, zero, suc, ◌+◌, ◌<◌, List, [], ◌∷◌, All, IfSome, Some, length, take, slice_get, ap, subst, arith}
use Rattle.std.specs.Option.{option_map}
use Rattle.std.proofs.lemmas.List.Elements.{All-head, All-more, All-tail}
use Rattle.std.proofs.lemmas.Option.{same_Some, slice_get-get_or, slice_get-map}
use Rattle.rgo_sound.specs.Code.Code.{Code, CodeOp}
use Rattle.rgo_sound.specs.Code.Erasure.{erased, erased_fn, erased_instr, erased_op}
use Rattle.rgo_sound.proofs.names.Ruled.{erased_found}
use Rattle.rgo_core_frames.specs.shown.Constants.{ConstantsFit, FnFits, InstrFits, OpFits}

pub one_more : {A : Type 0} (P : A → Type 0) (xs : List A) (n : ℕ) → n < length xs → All P (take n xs)
    → IfSome (slice_get xs n) P → All P (take (n + 1) xs)
one_more P [] n less all one = absurd (omega (arith, less))
one_more P (x ∷ xs) n less all one =
    All-more P (x ∷ xs) n x less all (subst (λ o. IfSome o P) (slice_get-get_or (x ∷ xs) n x less) one)

each_at : {A : Type 0} (P : A → Type 0) (xs : List A) (i : ℕ) (x : A) → All P xs → slice_get xs i ≡ Some x → P x
each_at P [] i x all e = cc
each_at P (y ∷ xs) zero x all e = subst P (same_Some y x e) (All-head P y xs all)
each_at P (y ∷ xs) (suc i) x all e = each_at P xs i x (All-tail P y xs all) e

pub constants_of_erased : (code : Code) → All FnFits (erased code).functions → ConstantsFit code
constants_of_erased code all n i fn instr to k from removes here at is =
    subst (λ (op : CodeOp). OpFits (erased_op op)) is (
    each_at InstrFits (erased_fn fn).body i (erased_instr instr)
    (each_at FnFits (erased code).functions n (erased_fn fn) all (erased_found code n fn here))
    (slice_get-map erased_instr fn.body i ∙ ap (option_map erased_instr) at))
