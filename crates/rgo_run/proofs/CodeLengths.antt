-- A code text has at least one byte for each of its lines. So code with more lines than the checker can number has a text beyond the
-- limit, and the checker's `TooLarge` may be reported as a text that is too long.
use Rattle.std.proofs.Common.{◌≡◌, ℕ, ◌+◌, ◌≤◌, List, [], ◌∷◌, ◌++◌, map, length, codes, arith, length-append}
use Rattle.std.specs.List.{flat_map, join_with_byte}
use Rattle.std.proofs.lemmas.List.{length-map}
use Rattle.rgo_code.specs.declared.rules.Line.TheVariants.{AfterLast}
use Rattle.rgo_code.specs.Code.{CodeInstr, CodeFn, Code}
use Rattle.rgo_code.specs.Lines.{function_lines, lines_before, line_number}
use Rattle.rgo_code_printing.specs.Text.{Names, names_of, struct_line_words, global_words, slot_words, entry_words, body_lines, fn_lines, lines_with, line, text_of}

lines_long : (lines : List (List (List ℕ))) → length lines ≤ length (flat_map line lines)
lines_long [] = omega arith
lines_long (words ∷ lines) =
    omega (
      arith,
      lines_long lines,
      length-append (join_with_byte 32 words) (10 ∷ []),
      length-append (line words) (flat_map line lines),
    )

body_long : (n : Names) (i : ℕ) (body : List CodeInstr) → length (body_lines n i body) ≡ length body
body_long n i [] = omega arith
body_long n i (instr ∷ body) = omega (arith, body_long n (i + 1) body)

fn_long : (n : Names) (f : CodeFn) → length (fn_lines n f) ≡ function_lines f
fn_long n f =
    let body = body_lines n 0 f.body ++ (codes "end" ∷ []) ∷ [] in
    omega (
      arith,
      length-append (map (slot_words n) f.variables) (entry_words f.entry ∷ body),
      length-map f.variables (slot_words n),
      length-append (body_lines n 0 f.body) ((codes "end" ∷ []) ∷ []),
      body_long n 0 f.body,
    )

fns_long : (n : Names) (fs : List CodeFn) → length (flat_map (fn_lines n) fs) ≡ lines_before fs (length fs)
fns_long n [] = omega arith
fns_long n (f ∷ fs) =
    omega (arith, fns_long n fs, fn_long n f, length-append (fn_lines n f) (flat_map (fn_lines n) fs))

pub lines_take_bytes : (code : Code) → line_number code AfterLast ≤ length (text_of code) + 1
unfolding text_of
lines_take_bytes code =
    let n = names_of code in
    let fns = flat_map (fn_lines n) code.functions in
    let globals = map (global_words n) code.variables ++ fns in
    omega (
      arith,
      lines_long (lines_with n code),
      length-append (map (struct_line_words n) code.structs) globals,
      length-map code.structs (struct_line_words n),
      length-append (map (global_words n) code.variables) fns,
      length-map code.variables (global_words n),
      fns_long n code.functions,
    )
