-- The lines of functions, by their places and numbers.
use Rattle.std.proofs.Common.{◌≡◌, ℕ, zero, suc, ◌+◌, ◌<◌, List, [], ◌∷◌, ◌++◌, length, Some, slice_get, ap, sym, ◌∙◌, subst, refl, arith, inl, inr, length-append}
use Rattle.std.proofs.lemmas.Option.{same_Some}
use Rattle.rgo_code.specs.declared.rules.Line.{Line}
use Rattle.rgo_code.specs.declared.rules.Line.TheVariants.{Function as FunctionLine, Slot as SlotLine, Entry as EntryLine, Instr as InstrLine, End as EndLine}
use Rattle.rgo_code.specs.Code.{Slot, CodeInstr, CodeFn, Code}
use Rattle.rgo_code.specs.Lines.{function_lines, lines_before, function_line, variable_count, line_number}
use Rattle.rgo_checker.specs.Lines.{lines_of_slots, lines_of_instrs, lines_of_function, functions_lines}
use Rattle.rgo_checker.proofs.Getting.{IsIn, get_left, get_right, get_split, get_one, first_length, first_get, first_inv}

slots_long : (n : ℕ) (ss : List Slot) → length (lines_of_slots n ss) ≡ length ss
slots_long n ss = first_length (SlotLine n) (length ss)

instrs_long : (n : ℕ) (xs : List CodeInstr) → length (lines_of_instrs n xs) ≡ length xs
instrs_long n xs = first_length (InstrLine n) (length xs)

-- after the variables
abbrev last_lines : ℕ → CodeFn → List Line
last_lines n f = EntryLine n ∷ (lines_of_instrs n f.body ++ EndLine n ∷ [])

-- ---- where each line of a function is among its own

pub fn_head : (n : ℕ) (f : CodeFn) → slice_get (lines_of_function n f) 0 ≡ Some (FunctionLine n)
fn_head n f = refl

pub fn_slot : (n : ℕ) (f : CodeFn) (v : ℕ) → v < length f.variables
    → slice_get (lines_of_function n f) (suc v) ≡ Some (SlotLine n v)
fn_slot n f v h =
    get_left (lines_of_slots n f.variables) (last_lines n f) v (SlotLine n v)
    (first_get (SlotLine n) (length f.variables) v h)

pub fn_entry : (n : ℕ) (f : CodeFn) → slice_get (lines_of_function n f) (suc (length f.variables)) ≡ Some (EntryLine n)
fn_entry n f =
    get_right (lines_of_slots n f.variables) (last_lines n f) 0 (length f.variables) (EntryLine n) refl
    (omega (arith, slots_long n f.variables))

pub fn_instr : (n : ℕ) (f : CodeFn) (i : ℕ) → i < length f.body
    → slice_get (lines_of_function n f) (suc (length f.variables + suc i)) ≡ Some (InstrLine n i)
fn_instr n f i h =
    get_right (lines_of_slots n f.variables) (last_lines n f) (suc i) (length f.variables + suc i) (InstrLine n i)
    (get_left (lines_of_instrs n f.body) (EndLine n ∷ []) i (InstrLine n i) (first_get (InstrLine n) (length f.body) i h))
    (omega (arith, slots_long n f.variables))

pub fn_end : (n : ℕ) (f : CodeFn)
    → slice_get (lines_of_function n f) (suc (length f.variables + suc (length f.body))) ≡ Some (EndLine n)
fn_end n f =
    get_right (lines_of_slots n f.variables) (last_lines n f) (suc (length f.body))
    (length f.variables + suc (length f.body)) (EndLine n)
    (get_right (lines_of_instrs n f.body) (EndLine n ∷ []) 0 (length f.body) (EndLine n) refl
    (omega (arith, instrs_long n f.body)))
    (omega (arith, slots_long n f.variables))

fn_long : (n : ℕ) (f : CodeFn) → length (lines_of_function n f) ≡ function_lines f
fn_long n f =
    omega (
      arith,
      slots_long n f.variables,
      instrs_long n f.body,
      length-append (lines_of_slots n f.variables) (last_lines n f),
      length-append (lines_of_instrs n f.body) (EndLine n ∷ []),
    )

lines_more : (fs : List CodeFn) (n : ℕ) (f : CodeFn) → slice_get fs n ≡ Some f
    → lines_before fs (suc n) ≡ lines_before fs n + function_lines f
lines_more [] n f e = cc
lines_more (g ∷ []) zero f e = let q = ap function_lines (same_Some g f e) in omega (arith, q)
lines_more (g ∷ h ∷ fs) zero f e = let q = ap function_lines (same_Some g f e) in omega (arith, q)
lines_more (g ∷ fs) (suc n) f e = let q = lines_more fs n f e in omega (arith, q)

-- what a line of a function is, by its place there
data FnAt (n : ℕ) (f : CodeFn) (o : ℕ) (l : Line) : Type 0 where
  at_head : o ≡ 0 → FunctionLine n ≡ l → FnAt n f o l
  at_slot : (v : ℕ) → v < length f.variables → o ≡ suc v → SlotLine n v ≡ l → FnAt n f o l
  at_entry : o ≡ suc (length f.variables) → EntryLine n ≡ l → FnAt n f o l
  at_instr : (i : ℕ) → i < length f.body → o ≡ suc (length f.variables + suc i) → InstrLine n i ≡ l → FnAt n f o l
  at_end : o ≡ suc (length f.variables + suc (length f.body)) → EndLine n ≡ l → FnAt n f o l

fn_at : (n : ℕ) (f : CodeFn) (o : ℕ) (l : Line) → slice_get (lines_of_function n f) o ≡ Some l → FnAt n f o l
fn_at n f zero l e = at_head refl (same_Some (FunctionLine n) l e)
fn_at n f (suc o) l e = go (get_split (lines_of_slots n f.variables) (last_lines n f) o l e)
  where
    last : (j : ℕ) → o ≡ length f.variables + suc j → IsIn (lines_of_instrs n f.body) (EndLine n ∷ []) j l
        → FnAt n f (suc o) l
    last j h (inl q) =
        let x = first_inv (InstrLine n) (length f.body) j l q in
        at_instr j x.0 (omega (arith, h)) x.1
    last j h (inr (m, g, q)) =
        let x = get_one (EndLine n) l m q in
        at_end (omega (arith, h, g, x.0, instrs_long n f.body)) x.1

    after : (j : ℕ) → o ≡ length (lines_of_slots n f.variables) + j → slice_get (last_lines n f) j ≡ Some l
        → FnAt n f (suc o) l
    after zero h q = at_entry (omega (arith, h, slots_long n f.variables)) (same_Some (EntryLine n) l q)
    after (suc j) h q =
        last j (omega (arith, h, slots_long n f.variables)) (get_split (lines_of_instrs n f.body) (EndLine n ∷ []) j l q)

    go : IsIn (lines_of_slots n f.variables) (last_lines n f) o l → FnAt n f (suc o) l
    go (inl q) = let x = first_inv (SlotLine n) (length f.variables) o l q in at_slot o x.0 refl x.1
    go (inr (j, h, q)) = after j h q

-- the number of a line of a function
module _ (code : Code) (n : ℕ) (f : CodeFn) (found : slice_get code.functions n ≡ Some f) where
  slots_counted : variable_count (slice_get code.functions n) ≡ length f.variables
  slots_counted = ap variable_count found

  next_begins : lines_before code.functions (n + 1) ≡ lines_before code.functions n + function_lines f
  next_begins = ap (lines_before code.functions) (by n) ∙ lines_more code.functions n f found
    where
      by : (k : ℕ) → k + 1 ≡ suc k
      by k = omega arith

  by_place : (o : ℕ) (l : Line) → FnAt n f o l → line_number code l ≡ function_line code n + o
  by_place o l (at_head h q) = subst (λ x. line_number code x ≡ function_line code n + o) q (omega (arith, h))
  by_place o l (at_slot v b h q) = subst (λ x. line_number code x ≡ function_line code n + o) q (omega (arith, h))
  by_place o l (at_entry h q) =
      subst (λ x. line_number code x ≡ function_line code n + o) q (omega (arith, h, slots_counted))
  by_place o l (at_instr i b h q) =
      subst (λ x. line_number code x ≡ function_line code n + o) q (omega (arith, h, slots_counted))
  by_place o l (at_end h q) =
      subst (λ x. line_number code x ≡ function_line code n + o) q (omega (arith, h, next_begins))

  pub fn_number : (o : ℕ) (l : Line) → slice_get (lines_of_function n f) o ≡ Some l
      → line_number code l ≡ function_line code n + o
  fn_number o l e = by_place o l (fn_at n f o l e)

-- ---- the lines of all functions

pub functions_get : (m q n : ℕ) (fs : List CodeFn) (f : CodeFn) → slice_get fs n ≡ Some f → q ≡ m + n
    → (o j : ℕ) (l : Line)
    → slice_get (lines_of_function q f) o ≡ Some l → j ≡ lines_before fs n + o → slice_get (functions_lines m fs) j ≡ Some l
functions_get m q n [] f e h o j l g r = cc
functions_get m q zero (x ∷ fs) f e h o j l g r =
    let a : q ≡ m = omega (arith, h) in
    let b : j ≡ o = omega (arith, r) in
    get_left (lines_of_function m x) (functions_lines (m + 1) fs) j l
    (ap (slice_get (lines_of_function m x)) b ∙ ap (λ y. slice_get (lines_of_function m y) o) (same_Some x f e)
    ∙ ap (λ y. slice_get (lines_of_function y f) o) (sym a) ∙ g)
functions_get m q (suc n) (x ∷ fs) f e h o j l g r =
    get_right (lines_of_function m x) (functions_lines (m + 1) fs) (lines_before fs n + o) j l
    (functions_get (m + 1) q n fs f e (omega (arith, h)) o (lines_before fs n + o) l g refl)
    (omega (arith, r, fn_long m x))

pub record InFunction (m : ℕ) (fs : List CodeFn) (j : ℕ) (l : Line) : Type 0 where
  pub n : ℕ
  pub f : CodeFn
  pub found : slice_get fs n ≡ Some f
  pub o : ℕ
  pub place : j ≡ lines_before fs n + o
  pub here : slice_get (lines_of_function (m + n) f) o ≡ Some l

pub functions_at : (m : ℕ) (fs : List CodeFn) (j : ℕ) (l : Line) → slice_get (functions_lines m fs) j ≡ Some l
    → InFunction m fs j l
functions_at m [] j l e = cc
functions_at m (x ∷ fs) j l e =
    go (get_split (lines_of_function m x) (functions_lines (m + 1) fs) j l e) (λ i. functions_at (m + 1) fs i l)
  where
    zero_right : m ≡ m + 0
    zero_right = omega arith

    shift : (k : ℕ) → m + suc k ≡ (m + 1) + k
    shift k = omega arith

    go : IsIn (lines_of_function m x) (functions_lines (m + 1) fs) j l
        → ((i : ℕ) → slice_get (functions_lines (m + 1) fs) i ≡ Some l → InFunction (m + 1) fs i l)
        → InFunction m (x ∷ fs) j l
    go (inl q) next = record {
      n = 0;
      f = x;
      found = refl;
      o = j;
      place = omega arith;
      here = ap (λ y. slice_get (lines_of_function y x) j) (sym zero_right) ∙ q;
    }
    go (inr (i, h, q)) next =
        let r = next i q in
        record {
          n = suc r.n;
          f = r.f;
          found = r.found;
          o = r.o;
          place = omega (arith, h, r.place, fn_long m x);
          here = ap (λ y. slice_get (lines_of_function y r.f) r.o) (shift r.n) ∙ r.here;
        }

pub functions_long : (m : ℕ) (fs : List CodeFn) → length (functions_lines m fs) ≡ lines_before fs (length fs)
functions_long m [] = refl
functions_long m (x ∷ fs) =
    let q = functions_long (m + 1) fs in
    omega (arith, q, fn_long m x, length-append (lines_of_function m x) (functions_lines (m + 1) fs))
