-- The text of code is at least as long as a function has variables and instructions, and as a struct has fields. So in a text within
-- the limit all of these numbers fit 32 bits.
use Rattle.std.proofs.Common.{◌≡◌, ℕ, zero, suc, ◌+◌, ◌≤◌, List, [], ◌∷◌, ◌++◌, length, map, Some, slice_get, refl, ap, subst, arith}
use Rattle.std.specs.Prelude.{codes}
use Rattle.std.specs.List.{flat_map, join_with_byte}
use Rattle.std.proofs.lemmas.List.{length-append, length-map}
use Rattle.std.proofs.lemmas.Option.{same_Some, none-some}
use Rattle.rgo_typed.specs.declared.programs.Struct.{Struct}
use Rattle.rgo_code.specs.Code.{CodeInstr, CodeFn, Code}
use Rattle.rgo_code_printing.specs.Words.{type_word}
use Rattle.rgo_code_printing.specs.Text.{Names, names_of, line, lines_with, text_of, struct_line_words, global_words, slot_words, entry_words, body_lines, fn_lines}
use Rattle.rgo_typing_laws.proofs.Lists.{still_there, mapped_at}

joined_long : (ws : List (List ℕ)) → length ws ≤ length (join_with_byte 32 ws) + 1
joined_long [] = omega arith
joined_long (w ∷ []) = omega arith
joined_long (w ∷ v ∷ ws) =
    let rest = joined_long (v ∷ ws) in
    omega (arith, rest, length-append w (32 ∷ join_with_byte 32 (v ∷ ws)))

line_long : (ws : List (List ℕ)) → length ws ≤ length (line ws)
line_long ws = omega (arith, joined_long ws, length-append (join_with_byte 32 ws) (10 ∷ []))

line_some : (ws : List (List ℕ)) → 1 ≤ length (line ws)
line_some ws = omega (arith, length-append (join_with_byte 32 ws) (10 ∷ []))

lines_long : (ls : List (List (List ℕ))) → length ls ≤ length (flat_map line ls)
lines_long [] = omega arith
lines_long (l ∷ ls) = omega (arith, line_some l, lines_long ls, length-append (line l) (flat_map line ls))

part_within : {A B : Type 0} (f : A → List B) (xs : List A) (i : ℕ) (x : A) → slice_get xs i ≡ Some x
    → length (f x) ≤ length (flat_map f xs)
part_within f [] i x e = absurd (none-some x e)
part_within f (y ∷ xs) zero x e =
    subst (λ z. length (f z) ≤ length (flat_map f (y ∷ xs))) (same_Some y x e)
    (omega (arith, length-append (f y) (flat_map f xs)))
part_within f (y ∷ xs) (suc i) x e =
    omega (arith, part_within f xs i x e, length-append (f y) (flat_map f xs))

body_long : (n : Names) (i : ℕ) (body : List CodeInstr) → length (body_lines n i body) ≡ length body
body_long n i [] = refl
body_long n i (instr ∷ body) = ap suc (body_long n (i + 1) body)

fn_long : (n : Names) (f : CodeFn) → length f.variables + length f.body ≤ length (fn_lines n f)
fn_long n f =
    let variables = map (slot_words n) f.variables in
    let body = body_lines n 0 f.body in
    let last = (codes_end ∷ []) ∷ [] in
    omega (
      arith,
      length-append variables (entry_words f.entry ∷ (body ++ last)),
      length-append body last,
      length-map f.variables (slot_words n),
      body_long n 0 f.body,
    )
  where
    codes_end : List ℕ
    codes_end = codes "end"

-- no longer than the text
pub fn_within : (code : Code) (n : ℕ) (f : CodeFn) → slice_get code.functions n ≡ Some f
    → length f.variables + length f.body ≤ length (text_of code)
unfolding text_of
fn_within code n f e =
    let names = names_of code in
    let structs = map (struct_line_words names) code.structs in
    let variables = map (global_words names) code.variables in
    let functions = flat_map (fn_lines names) code.functions in
    omega (
      arith,
      fn_long names f,
      part_within (fn_lines names) code.functions n f e,
      length-append variables functions,
      length-append structs (variables ++ functions),
      lines_long (lines_with names code),
    )

pub fields_within : (code : Code) (n : ℕ) (s : Struct) → slice_get code.structs n ≡ Some s
    → length s.fields ≤ length (text_of code)
unfolding text_of
fields_within code n s e =
    let names = names_of code in
    let structs = map (struct_line_words names) code.structs in
    let rest = map (global_words names) code.variables ++ flat_map (fn_lines names) code.functions in
    let there = still_there structs rest n (struct_line_words names s) (mapped_at (struct_line_words names) code.structs n s e) in
    omega (
      arith,
      part_within line (lines_with names code) (suc n) (struct_line_words names s) there,
      line_long (struct_line_words names s),
      length-map s.fields (type_word names.structs),
    )
