-- Lines that are printed by number, one after the other.
use Rattle.std.proofs.Common.{◌≡◌, ℕ, zero, suc, ◌+◌, ◌≤◌, List, [], ◌∷◌, ◌++◌, map, drop, length}
use Rattle.std.proofs.Common.{Option, Some, None, slice_get, refl, sym, ap, ◌∙◌, arith, append-nil}
use Rattle.std.specs.List.{flat_map}
use Rattle.std.proofs.lemmas.List.{drop_all}
use Rattle.std.proofs.lemmas.Option.{same_Some, none-some}
use Rattle.rgo_typed.specs.declared.types.Type.{«Type»}
use Rattle.rgo_tac.specs.declared.regions.Class.{Class}
use Rattle.rgo_tac.specs.Code as tac
use Rattle.rgo_tac.specs.Ops.{op_in, place_in}
use Rattle.rgo_code.specs.declared.notes.Note.{Note}
use Rattle.rgo_code.specs.Code.{Slot, CodeOp, CodeInstr, CodeFn, Do, Call, Go, Print, Jump, Branch, Return}
use Rattle.rgo_code.specs.Erasure.{erased_op, erased_instr, erased_fn}
use Rattle.rgo_code.specs.Names.{slot_class}
use Rattle.rgo_code.specs.Views.{slot, code_op, code_instr}
use Rattle.rgo_code_printing.specs.Words.{name_at}
use Rattle.rgo_code_printing.specs.Printing.{note_in, slot_lines, instr_lines, lines_of_fn}
use Rattle.rgo_code_printing.specs.Text.{Names, line, slot_words, instr_words, body_lines, fn_lines}
use Rattle.rgo_code_printing.proofs.Printing.{lines_append}

pub found : {X : Type 0} (xs : List X) (i : ℕ) (x : X) → slice_get xs i ≡ Some x → drop i xs ≡ x ∷ drop (i + 1) xs
found [] i x e = absurd (none-some x e)
found (y ∷ xs) zero x e = ap (λ z. z ∷ xs) (same_Some y x e)
found (y ∷ xs) (suc i) x e =
    let next : suc i + 1 ≡ suc (i + 1) = omega arith in
    found xs i x e ∙ ap (λ n. x ∷ drop n (y ∷ xs)) (sym next)

pub missing : {X : Type 0} (xs : List X) (i : ℕ) → slice_get xs i ≡ None → length xs ≤ i
missing [] i e = omega arith
missing (x ∷ xs) zero e = absurd (none-some x (sym e))
missing (x ∷ xs) (suc i) e = let rest = missing xs i e in omega (arith, rest)

pub slot_step : (n : Names) (xs : List Slot) (i : ℕ)
    → flat_map line (slot_lines n (slice_get xs i)) ++ flat_map line (map (slot_words n) (drop (i + 1) xs))
    ≡ flat_map line (map (slot_words n) (drop i xs))
slot_step n xs i = by (slice_get xs i) refl
  where
    by : (o : Option Slot) → slice_get xs i ≡ o
        → flat_map line (slot_lines n o) ++ flat_map line (map (slot_words n) (drop (i + 1) xs))
        ≡ flat_map line (map (slot_words n) (drop i xs))
    by None e =
        let len = missing xs i e in
        ap (λ ys. flat_map line (map (slot_words n) ys))
        (drop_all (i + 1) xs (omega (arith, len)) ∙ sym (drop_all i xs len))
    by (Some x) e =
        ap (λ t. t ++ flat_map line (map (slot_words n) (drop (i + 1) xs))) (append-nil (line (slot_words n x)))
        ∙ ap (λ ys. flat_map line (map (slot_words n) ys)) (sym (found xs i x e))

pub instr_step : (n : Names) (xs : List CodeInstr) (i : ℕ)
    → flat_map line (instr_lines n i (slice_get xs i)) ++ flat_map line (body_lines n (i + 1) (drop (i + 1) xs))
    ≡ flat_map line (body_lines n i (drop i xs))
instr_step n xs i = by (slice_get xs i) refl
  where
    by : (o : Option CodeInstr) → slice_get xs i ≡ o
        → flat_map line (instr_lines n i o) ++ flat_map line (body_lines n (i + 1) (drop (i + 1) xs))
        ≡ flat_map line (body_lines n i (drop i xs))
    by None e =
        let len = missing xs i e in
        ap (λ ys. flat_map line (body_lines n (i + 1) ys)) (drop_all (i + 1) xs (omega (arith, len)))
        ∙ ap (λ ys. flat_map line (body_lines n i ys)) (sym (drop_all i xs len))
    by (Some x) e =
        ap (λ t. t ++ flat_map line (body_lines n (i + 1) (drop (i + 1) xs))) (append-nil (line (instr_words n i x)))
        ∙ ap (λ ys. flat_map line (body_lines n i ys)) (sym (found xs i x e))

pub fn_step : (n : Names) (xs : List CodeFn) (i : ℕ)
    → flat_map line (lines_of_fn n (slice_get xs i)) ++ flat_map line (flat_map (fn_lines n) (drop (i + 1) xs))
    ≡ flat_map line (flat_map (fn_lines n) (drop i xs))
fn_step n xs i = by (slice_get xs i) refl
  where
    by : (o : Option CodeFn) → slice_get xs i ≡ o
        → flat_map line (lines_of_fn n o) ++ flat_map line (flat_map (fn_lines n) (drop (i + 1) xs))
        ≡ flat_map line (flat_map (fn_lines n) (drop i xs))
    by None e =
        let len = missing xs i e in
        ap (λ ys. flat_map line (flat_map (fn_lines n) ys))
        (drop_all (i + 1) xs (omega (arith, len)) ∙ sym (drop_all i xs len))
    by (Some x) e =
        sym (lines_append (fn_lines n x) (flat_map (fn_lines n) (drop (i + 1) xs)))
        ∙ ap (λ ys. flat_map line (flat_map (fn_lines n) ys)) (sym (found xs i x e))

-- a variable, by its type and its class
pub slot_found : (xs : List Slot) (i : ℕ) (ty : «Type») → slice_get (map (λ s. s.ty) xs) i ≡ Some ty
    → slice_get xs i ≡ Some (slot ty (slot_class (slice_get xs i)))
slot_found [] i ty e = absurd (none-some ty e)
slot_found (s ∷ xs) zero ty e = ap (λ t. Some (slot t s.class)) (same_Some s.ty ty e)
slot_found (s ∷ xs) (suc i) ty e = slot_found xs i ty e

pub slot_missing : (xs : List Slot) (i : ℕ) → slice_get (map (λ s. s.ty) xs) i ≡ None → slice_get xs i ≡ None
slot_missing [] i e = refl
slot_missing (s ∷ xs) zero e = absurd (none-some s.ty (sym e))
slot_missing (s ∷ xs) (suc i) e = slot_missing xs i e

-- the line of a variable
pub slot_line : (n : Names) (xs : List Slot) (i : ℕ) (ty : «Type») (class : Class)
    → slice_get (map (λ s. s.ty) xs) i ≡ Some ty
    → class ≡ slot_class (slice_get xs i)
    → line (slot_words n (slot ty class)) ≡ flat_map line (slot_lines n (slice_get xs i))
slot_line n xs i ty class e k =
    ap (λ c. line (slot_words n (slot ty c))) k
    ∙ sym (append-nil (line (slot_words n (slot ty (slot_class (slice_get xs i))))))
    ∙ ap (λ o. flat_map line (slot_lines n o)) (sym (slot_found xs i ty e))

pub no_slot_line : (n : Names) (xs : List Slot) (i : ℕ) → slice_get (map (λ s. s.ty) xs) i ≡ None
    → flat_map line (slot_lines n (slice_get xs i)) ≡ []
no_slot_line n xs i e = ap (λ o. flat_map line (slot_lines n o)) (slot_missing xs i e)

-- ---- names

-- a declared function's name, by its erasure
pub function_named : (fs : List CodeFn) (others : List (List ℕ)) (n : ℕ) (f : tac.TacFn)
    → slice_get (map erased_fn fs) n ≡ Some f → f.name ≡ name_at (map (λ f. f.name) fs ++ others) n
function_named [] others n f e = absurd (none-some f e)
function_named (g ∷ fs) others zero f e = ap (λ f. f.name) (sym (same_Some (erased_fn g) f e))
function_named (g ∷ fs) others (suc n) f e = function_named fs others n f e

-- ---- instructions

op_again : (creates : List ℕ) (place : ℕ) (op : CodeOp)
    → code_op (erased_op op) (note_in (Some (record { creates = creates; op = op; place = place }))) ≡ op
op_again creates place (Do to action from removes) = refl
op_again creates place (Call to f from passes protects removes) = refl
op_again creates place (Go f from passes removes) = refl
op_again creates place (Print pieces from removes) = refl
op_again creates place (Jump target removes) = refl
op_again creates place (Branch test target removes other otherwise) = refl
op_again creates place (Return value) = refl

-- an instruction, by its erasure and what it says of regions
pub instr_found : (body : List CodeInstr) (i : ℕ) (op : tac.Op) → op_in (slice_get (map erased_instr body) i) ≡ Some op
    → slice_get body i ≡ Some (code_instr
    (record { op = op; place = place_in (slice_get (map erased_instr body) i) }) (note_in (slice_get body i)))
instr_found [] i op e = absurd (none-some op e)
instr_found (x ∷ body) zero op e =
    ap (λ o. Some (record { creates = x.creates; op = o; place = x.place }))
    (sym (op_again x.creates x.place x.op) ∙ ap (λ o. code_op o (note_in (Some x))) (same_Some (erased_op x.op) op e))
instr_found (x ∷ body) (suc i) op e = instr_found body i op e

pub instr_missing : (body : List CodeInstr) (i : ℕ) → op_in (slice_get (map erased_instr body) i) ≡ None
    → slice_get body i ≡ None
instr_missing [] i e = refl
instr_missing (x ∷ body) zero e = absurd (none-some (erased_op x.op) (sym e))
instr_missing (x ∷ body) (suc i) e = instr_missing body i e

-- the line of an instruction
pub instr_line : (n : Names) (body : List CodeInstr) (i : ℕ) (op : tac.Op) (place : ℕ) (note : Note)
    → op_in (slice_get (map erased_instr body) i) ≡ Some op → place ≡ place_in (slice_get (map erased_instr body) i)
    → note ≡ note_in (slice_get body i)
    → line (instr_words n i (code_instr (record { op = op; place = place }) note))
    ≡ flat_map line (instr_lines n i (slice_get body i))
instr_line n body i op place note e p m =
    ap (λ q. line (instr_words n i (code_instr (record { op = op; place = q }) note))) p
    ∙ ap (λ k. line (instr_words n i (code_instr
    (record { op = op; place = place_in (slice_get (map erased_instr body) i) }) k))) m
    ∙ sym (append-nil (line (instr_words n i (code_instr
    (record { op = op; place = place_in (slice_get (map erased_instr body) i) }) (note_in (slice_get body i))))))
    ∙ ap (λ o. flat_map line (instr_lines n i o)) (sym (instr_found body i op e))

pub no_instr_line : (n : Names) (body : List CodeInstr) (i : ℕ) → op_in (slice_get (map erased_instr body) i) ≡ None
    → flat_map line (instr_lines n i (slice_get body i)) ≡ []
no_instr_line n body i e = ap (λ o. flat_map line (instr_lines n i o)) (instr_missing body i e)
