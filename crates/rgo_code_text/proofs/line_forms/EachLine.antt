-- Each line is that of one item, or of none.
use Rattle.std.proofs.Common.{◌≡◌, ◌≢◌, ◌⊎◌, inl, inr, ℕ, Bool, true, false, List, length, take, drop, Option, Some, None, refl, subst, codes}
use Rattle.std.specs.List.{before_first}
use Rattle.std.specs.Str.{bytes_eq}
use Rattle.std.proofs.lemmas.Slice.Eq.{bytes_eq-Decides}
use Rattle.rgo_code_words.specs.Cuts.{is_space, cut_line, nth_word}
use Rattle.rgo_code_text.specs.Items.{Head, End, ItemFits, item_line}
use Rattle.rgo_code_text.specs.Lines.{IsFittingInstr, instr_with, struct_item, global_item, function_item, slot_item, entry_item}
use Rattle.rgo_code_text.specs.Ops.{NamedOp, NamedOpFits, op_text, read_op}
use Rattle.rgo_code_words.specs.Readers.{IsReadFromBytes, read_number, read_lettered, read_regions}
use Rattle.rgo_code_text.proofs.op_lines.EachPrint.{print_of, same_or_not}
use Rattle.rgo_code_text.proofs.op_lines.Instrs.{wrong_count, wrong_index, wrong_place, wrong_creates, wrong_op, instr_is}
use Rattle.rgo_code_text.proofs.line_forms.LinesBack.{head_read, end_read, struct_read, global_read, function_read, slot_read, entry_read, instr_read}
use Rattle.rgo_code_text.proofs.op_lines.OpTexts.{print_front, text_read}

-- what was read of some bytes
pub record ReadOf {A : Type 0} (Fits : A → Type 0) (text : A → List ℕ) (bytes : List ℕ) : Type 0 where
  pub what : Option A
  pub is : IsReadFromBytes Fits text bytes what

-- ---- operations

op_of : (text : List ℕ) → ReadOf NamedOpFits op_text text
op_of text = by (bytes_eq (take 6 text) (codes "print ")) refl
  where
    by : (t : Bool) → bytes_eq (take 6 text) (codes "print ") ≡ t → ReadOf NamedOpFits op_text text
    by true e =
        let p = print_of (drop 6 text) in
        record { what = p.what; is = subst (λ t. IsReadFromBytes NamedOpFits op_text t p.what) (print_front text e) p.is }
    by false e = record { what = read_op (cut_line 5 text); is = text_read text e }

-- ---- instructions

module _ (line : List ℕ) where
  abbrev word : ℕ → List ℕ
  word n = nth_word (cut_line 3 line) n

  instr_of : ReadOf IsFittingInstr item_line line
  instr_of = counted (same_or_not (length (cut_line 3 line)) 4)
    where
      none : IsReadFromBytes IsFittingInstr item_line line None → ReadOf IsFittingInstr item_line line
      none is = record { what = None; is = is }

      worked : length (cut_line 3 line) ≡ 4 → (i p : Option ℕ) (c : Option (List ℕ)) (o : Option NamedOp) → read_number (word 0) ≡ i
          → read_lettered 64 (word 1) ≡ p → read_regions 43 (word 2) ≡ c → IsReadFromBytes NamedOpFits op_text (word 3) o
          → ReadOf IsFittingInstr item_line line
      worked long None p c o i_is p_is c_is o_is = none (wrong_index line i_is)
      worked long (Some i) None c o i_is p_is c_is o_is = none (wrong_place line p_is)
      worked long (Some i) (Some p) None o i_is p_is c_is o_is = none (wrong_creates line c_is)
      worked long (Some i) (Some p) (Some c) None i_is p_is c_is o_is = none (wrong_op line o_is)
      worked long (Some i) (Some p) (Some c) (Some o) i_is p_is c_is o_is =
          record { what = Some (instr_with i p c o); is = instr_is line i p c o long i_is p_is c_is o_is }

      counted : (length (cut_line 3 line) ≡ 4) ⊎ (length (cut_line 3 line) ≢ 4) → ReadOf IsFittingInstr item_line line
      counted (inr other) = none (wrong_count line other)
      counted (inl long) =
          let o = op_of (word 3) in
          worked long (read_number (word 0)) (read_lettered 64 (word 1)) (read_regions 43 (word 2)) o.what refl refl refl o.is

  -- ---- lines

  -- whether the first word is this one
  begins : (name : List ℕ) → (before_first is_space line ≡ name) ⊎ (bytes_eq (before_first is_space line) name ≡ false)
  begins name = by (bytes_eq (before_first is_space line) name) refl
    where
      by : (t : Bool) → bytes_eq (before_first is_space line) name ≡ t
          → (before_first is_space line ≡ name) ⊎ (bytes_eq (before_first is_space line) name ≡ false)
      by true e = inl ((bytes_eq-Decides (before_first is_space line) name).0 e)
      by false e = inr e

  abbrev Worded : List ℕ → Type 0
  Worded name = (before_first is_space line ≡ name) ⊎ (bytes_eq (before_first is_space line) name ≡ false)

  worded : bytes_eq line (codes "rgo code 1") ≡ false → bytes_eq line (codes "end") ≡ false → Worded (codes "struct")
      → Worded (codes "global") → Worded (codes "func") → Worded (codes "var") → Worded (codes "entry") → ReadOf ItemFits item_line line
  worded h l (inl e) b c d f = record { what = struct_item (cut_line 2 line); is = struct_read line e }
  worded h l (inr a) (inl e) c d f = record { what = global_item (cut_line 2 line); is = global_read line e }
  worded h l (inr a) (inr b) (inl e) d f = record { what = function_item (cut_line 4 line); is = function_read line e }
  worded h l (inr a) (inr b) (inr c) (inl e) f = record { what = slot_item (cut_line 2 line); is = slot_read line e }
  worded h l (inr a) (inr b) (inr c) (inr d) (inl e) = record { what = entry_item (cut_line 1 line); is = entry_read line e }
  worded h l (inr a) (inr b) (inr c) (inr d) (inr e) =
      let i = instr_of in record { what = i.what; is = instr_read line h l a b c d e i.what i.is }

  pub item_of_line : ReadOf ItemFits item_line line
  item_of_line = by (bytes_eq line (codes "rgo code 1")) (bytes_eq line (codes "end")) refl refl
    where
      by : (h e : Bool) → bytes_eq line (codes "rgo code 1") ≡ h → bytes_eq line (codes "end") ≡ e → ReadOf ItemFits item_line line
      by true e h_is e_is = record { what = Some Head; is = head_read line h_is }
      by false true h_is e_is = record { what = Some End; is = end_read line e_is }
      by false false h_is e_is =
          worded h_is e_is (begins (codes "struct")) (begins (codes "global")) (begins (codes "func")) (begins (codes "var"))
          (begins (codes "entry"))
